-- "It sounds" is said exactly when the voice's contribution isn't 0, and another cause exactly where it is the first true one.
-- Assumes nothing.
use Rattle.std.specs.Prelude.{◌≡◌, ℕ, zero, suc, ◌*◌, ◌<◌, Bool, true, false, cond, ◌||◌, T, List, [], ◌∷◌, get_or, ℤ, pos, negsuc, ◌-ℤ◌, ◌*ℤ◌, neg_ℤ, ◌==◌, ◌≢◌, nat_lt, slice_index, slice_index_or}
use Rattle.std.proofs.Math.Path.{refl, ap}
use Rattle.std.proofs.Common.{sym, subst, ◌∙◌, mul-pos, mul-zero, zero-mul, arith, eqb-true, ne_eqb, ltb-false}
use Rattle.laws.specs.Choice.{either}
use Rattle.laws.specs.Ranges.{first, some}
use Rattle.laws.specs.Signed.{sub_neg}
use Rattle.common.specs.ByteLaws.{Bytes}
use Rattle.voice.specs.declared.quiet.Cause.{Cause}
use Rattle.voice.specs.declared.quiet.Cause.TheVariants.{NoSample, NoPeriod, Stopped, NoVolume, ZeroByte, Sounds}
use Rattle.voice.specs.declared.Voice.{Voice}
use Rattle.voice.specs.Voice.{silent_of, signed_of, read_at, gives_of}
use Rattle.voice.specs.Quiet.{reads_zero, cause_of, cause_number}

-- the five causes of quiet, in their order, as tests
abbrev pub causes_of : List ℕ → Voice → List Bool
causes_of bytes v = (v.sample == 0) ∷ (v.period == 0) ∷ v.stopped ∷ (v.volume == 0) ∷ reads_zero bytes v.index ∷ []

-- whether the one of number k + 1 holds
abbrev pub holds_at : List ℕ → Voice → ℕ → Bool
holds_at bytes v k = slice_index_or (causes_of bytes v) k false

-- ---- by the tests alone
abbrev is_quiet : Cause → Bool
is_quiet NoSample = true
is_quiet NoPeriod = true
is_quiet Stopped = true
is_quiet NoVolume = true
is_quiet ZeroByte = true
is_quiet Sounds = false

loud_sounds : (c : Cause) → is_quiet c ≡ false → c ≡ Sounds
loud_sounds NoSample e = absurd (subst T e tt)
loud_sounds NoPeriod e = absurd (subst T e tt)
loud_sounds Stopped e = absurd (subst T e tt)
loud_sounds NoVolume e = absurd (subst T e tt)
loud_sounds ZeroByte e = absurd (subst T e tt)
loud_sounds Sounds e = refl

module _ (bytes : List ℕ) (v : Voice) where
  -- the number is that of the first one that holds, and 6 where none does
  pub first_cause : cause_number (cause_of bytes v) ≡ suc (first (holds_at bytes v) 5)
  unfolding cause_of first some
  first_cause = by (v.sample == 0) (v.period == 0) v.stopped (v.volume == 0) (reads_zero bytes v.index)
    where
      by : (a b c d e : Bool) → cause_number (cond a NoSample (cond b NoPeriod (cond c Stopped (cond d NoVolume (cond e ZeroByte Sounds))))) ≡ suc (first (λ k. get_or (a ∷ b ∷ c ∷ d ∷ e ∷ []) k false) 5)
      by true b c d e = refl
      by false true c d e = refl
      by false false true d e = refl
      by false false false true e = refl
      by false false false false true = refl
      by false false false false false = refl

  quiet_is : some (holds_at bytes v) 5 ≡ is_quiet (cause_of bytes v)
  unfolding cause_of some
  quiet_is = by (v.sample == 0) (v.period == 0) v.stopped (v.volume == 0) (reads_zero bytes v.index)
    where
      by : (a b c d e : Bool) → some (λ k. get_or (a ∷ b ∷ c ∷ d ∷ e ∷ []) k false) 5 ≡ is_quiet (cond a NoSample (cond b NoPeriod (cond c Stopped (cond d NoVolume (cond e ZeroByte Sounds)))))
      by true b c d e = refl
      by false true c d e = refl
      by false false true d e = refl
      by false false false true e = refl
      by false false false false true = refl
      by false false false false false = refl

-- ---- numbers that are 0
abbrev is_zero : ℤ → Bool
is_zero (pos n) = n == 0
is_zero (negsuc n) = false

zero_is : (z : ℤ) → is_zero z ≡ true → z ≡ pos 0
zero_is (pos n) e = ap pos (eqb-true n 0 e)
zero_is (negsuc n) e = absurd (subst T (sym e) tt)

product_zero : (n v : ℕ) → 0 < n → (n * v == 0) ≡ (v == 0)
product_zero n zero h = rw (mul-zero n)
product_zero n (suc v) h =
    let p : 0 < n * suc v = mul-pos h (omega arith) in
    ne_eqb (n * suc v) 0 (λ e. omega (arith, p, e)) ∙ sym (ne_eqb (suc v) 0 (λ e. omega arith))

neg_zero : (n : ℕ) → is_zero (neg_ℤ (pos n)) ≡ (n == 0)
neg_zero zero = refl
neg_zero (suc n) = sym (ne_eqb (suc n) 0 (λ e. omega arith))

times_zero : (x : ℤ) (v : ℕ) → is_zero (x *ℤ pos v) ≡ is_zero x || v == 0
times_zero (pos zero) v = rw (zero-mul v)
times_zero (pos (suc m)) v = rw (ne_eqb (suc m) 0 (λ e. omega arith)) (product_zero (suc m) v (omega arith))
times_zero (negsuc m) v = neg_zero (suc m * v) ∙ product_zero (suc m) v (omega arith)

signed_zero : (b : ℕ) → b < 256 → is_zero (signed_of b) ≡ (b == 0)
unfolding signed_of
signed_zero b h =
    either (λ (z : ℤ). is_zero z ≡ (b == 0)) (nat_lt b 128) (pos b) (pos b -ℤ pos 256) (λ e. refl)
    (λ e. rw (sub_neg b 256 h) (sym (ne_eqb b 0 (λ q. omega (arith, ltb-false b 128 e, q)))))

-- ---- by what the voice gives
module _ (bytes : List ℕ) (b : Bytes bytes) (v : Voice) where
  read_zero : (i : ℕ) → is_zero (read_at bytes i) ≡ reads_zero bytes i
  unfolding read_at reads_zero
  read_zero i = by (nat_lt i 2)
    where
      by : (t : Bool) → is_zero (cond t (pos 0) (signed_of (slice_index bytes i))) ≡ t || slice_index bytes i == 0
      by true = refl
      by false = signed_zero (slice_index bytes i) (b i)

  gives_zero : is_zero (gives_of bytes v) ≡ some (holds_at bytes v) 5
  unfolding gives_of silent_of some
  gives_zero = by (v.sample == 0) (v.period == 0) v.stopped (v.volume == 0) (reads_zero bytes v.index) _ (times_zero (read_at bytes v.index) v.volume ∙ ap (λ t. t || v.volume == 0) (read_zero v.index))
    where
      by : (s p t l r : Bool) (z : ℤ) → is_zero z ≡ r || l → is_zero (cond (t || (s || p)) (pos 0) z) ≡ some (λ k. get_or (s ∷ p ∷ t ∷ l ∷ r ∷ []) k false) 5
      by true p true l r z q = refl
      by true p false l r z q = refl
      by false true true l r z q = refl
      by false true false l r z q = refl
      by false false true l r z q = refl
      by false false false true true z q = q
      by false false false true false z q = q
      by false false false false true z q = q
      by false false false false false z q = q

  pub gives_sounds : (gives_of bytes v ≢ pos 0) → cause_of bytes v ≡ Sounds
  gives_sounds h = loud_sounds (cause_of bytes v) (by (is_quiet (cause_of bytes v)) refl)
    where
      by : (t : Bool) → is_quiet (cause_of bytes v) ≡ t → t ≡ false
      by true q = absurd (h (zero_is (gives_of bytes v) (gives_zero ∙ quiet_is bytes v ∙ q)))
      by false q = refl

  pub sounds_gives : cause_of bytes v ≡ Sounds → gives_of bytes v ≢ pos 0
  sounds_gives e q = subst T (sym (ap is_zero q) ∙ gives_zero ∙ quiet_is bytes v ∙ ap is_quiet e) tt

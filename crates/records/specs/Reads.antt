-- Laws of reading on: what is known where a test, a reading or a decoding came to something good.
-- Assumes nothing.
use Rattle.std.specs.Prelude.{ℕ, ◌≡◌, refl, Bool, true, false, cond, List, ◌∷◌}
use Rattle.std.proofs.Common.{arith}
use Rattle.ticks.specs.declared.Tick.{Tick}
use Rattle.records.specs.Format.{Read, bad, short, read, read_by, Decoded, refusal, ticks, with_tick}

-- ---- a reading
-- what holds of all cases of reading on holds of it
pub by_any : {A B : Type 0} (P : B → Type 0) (x y : B) (r : Read A) (rest : A → ℕ → B) → (r ≡ bad → P x) → (r ≡ short → P y) → ((z : A) (n : ℕ) → r ≡ read z n → P (rest z n)) → P (read_by x y r rest)
unfolding read_by
by_any P x y bad rest f g h = f refl
by_any P x y short rest f g h = g refl
by_any P x y (read z n) rest f g h = h z n refl

-- it came to v: something was read, and the rest came to v
pub record Went {A B : Type 0} (r : Read A) (rest : A → ℕ → B) (v : B) : Type 0 where
  pub got : A
  pub next : ℕ
  pub is : r ≡ read got next
  pub on : rest got next ≡ v

pub by_good : {A B : Type 0} (x y : B) (r : Read A) (rest : A → ℕ → B) (v : B) → (x ≡ v → ⊥) → (y ≡ v → ⊥) → read_by x y r rest ≡ v → Went r rest v
by_good {A} {B} x y r rest v n m =
    by_any (λ (w : B). w ≡ v → Went r rest v) x y r rest (λ q e. absurd (n e)) (λ q e. absurd (m e)) (λ z k q e. record { got = z; next = k; is = q; on = e })

pub not-read : {A : Type 0} (x : A) (n : ℕ) → bad ≡ read x n → ⊥
not-read x n e = let z : ◌≡◌ {A = ℕ} 0 1 = cc in omega arith

pub short_not_read : {A : Type 0} (x : A) (n : ℕ) → short ≡ read x n → ⊥
short_not_read x n e = let z : ◌≡◌ {A = ℕ} 0 1 = cc in omega arith

-- reading on where a bad one stays bad, and one that runs out stays so
pub then_good : {A B : Type 0} (r : Read A) (rest : A → ℕ → Read B) (v : B) (k : ℕ) → read_by bad short r rest ≡ read v k → Went r rest (read v k)
then_good r rest v k = by_good bad short r rest (read v k) (not-read v k) (short_not_read v k)

-- and where there is something instead of both
pub on_good : {A B : Type 0} (instead : B) (r : Read A) (rest : A → ℕ → B) (v : B) → (instead ≡ v → ⊥) → read_by instead instead r rest ≡ v → Went r rest v
on_good instead r rest v n = by_good instead instead r rest v n n

pub on_either : {A B : Type 0} (P : B → Type 0) (instead : B) (r : Read A) (rest : A → ℕ → B) → P instead → ((x : A) (n : ℕ) → r ≡ read x n → P (rest x n)) → P (read_by instead instead r rest)
on_either P instead r rest f g = by_any P instead instead r rest (λ q. f) (λ q. f) g

-- ---- a test
-- it came to what it would not have come to otherwise
pub passed : {A : Type 0} (b : Bool) (x y v : A) → (y ≡ v → ⊥) → cond b x y ≡ v → (b ≡ true) × (x ≡ v)
passed true x y v n e = (refl, e)
passed false x y v n e = absurd (n e)

pub missed : {A : Type 0} (b : Bool) (x y v : A) → (x ≡ v → ⊥) → cond b x y ≡ v → (b ≡ false) × (y ≡ v)
missed true x y v n e = absurd (n e)
missed false x y v n e = (refl, e)

-- ---- a decoding
pub not-ticks : (number place : ℕ) (ts : List Tick) → refusal number place ≡ ticks ts → ⊥
not-ticks number place ts e = let z : ◌≡◌ {A = ℕ} 0 1 = cc in omega arith

-- the ticks after the first
pub record Followed (t : Tick) (d : Decoded) (ts : List Tick) : Type 0 where
  pub others : List Tick
  pub is : d ≡ ticks others
  pub all : ts ≡ t ∷ others

pub with_ticks : (t : Tick) (d : Decoded) (ts : List Tick) → with_tick t d ≡ ticks ts → Followed t d ts
unfolding with_tick
with_ticks t (refusal number place) ts e = absurd (not-ticks number place ts e)
with_ticks t (ticks us) ts e = record { others = us; is = refl; all = cc }

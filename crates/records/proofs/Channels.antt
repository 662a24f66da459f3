-- Laws of the channels in use, the first c: the mask, the bytes' number, and the bytes by the mask.
-- Assumes nothing.
use Prim.Native.Nat.{ℕ, suc, ◌+◌, ◌*◌, ◌-◌, ◌/◌, ◌%◌, ◌^◌, ◌≤◌, ◌<◌}
use mathlib.Core.Path.{◌≡◌, refl, sym, ap, ◌∙◌}
use mathlib.Core.Bool.{Bool, true, false, cond}
use mathlib.Core.List.{List, [], ◌∷◌, ◌++◌}
use native.Mathlib.Omega.{arith}
use native.Mathlib.Numerals.{add-one}
use native.Mathlib.Nat.{lt_of_lt_of_le, pow-suc}
use lib.ListN.{length, get_or, take, drop, drop_of_length-le, length-take, length-drop, length-append}
use lib.Seq.{drop-cons, get_or-take, sets, length-sets}
use lib.Pow.{pow_pos, pow_mono}
use lib.Count.{ones_step}
use Rattle.std.specs.Int.{from_bool, to_be_bytes, w16}
use Rattle.std.specs.Int.RustNames.{count_ones}
use Rattle.laws.specs.Positions.{sets-append}
use Rattle.common.specs.Limits.{width}
use Rattle.common.specs.Bytes.{bit}
use Rattle.ticks.specs.declared.Command.{Command}
use Rattle.common.specs.ByteLaws.{bit_most}
use Rattle.ticks.specs.Commands.{nothing}
use Rattle.records.specs.Format.{body_bytes, changed, mask, command_bytes, channel_bytes, channels_bytes}
use Rattle.records.specs.Marked.{bit_bytes, marked_bytes, half}

-- ---- a flag as a number
pub from_bool_bit : (b : Bool) → from_bool b ≡ bit b
from_bool_bit true = refl
from_bool_bit false = refl

-- ---- a period's two bytes
module _ (p : ℕ) (h : p < 2 ^ 16) where
  pub period_high : get_or (to_be_bytes w16 p) 0 0 ≡ p / 256
  period_high = omega arith

  pub period_low : get_or (to_be_bytes w16 p) 1 0 ≡ p % 256
  period_low = omega arith

-- ---- the registers in use
used_at : (rs : List Command) (c k : ℕ) → k < c → c ≤ length rs → drop k (take c rs) ≡ get_or rs k nothing ∷ drop (suc k) (take c rs)
used_at rs c k h l =
    drop-cons (take c rs) k nothing (omega (arith, length-take c rs)) ∙ ap (λ (r : Command). r ∷ drop (suc k) (take c rs)) (get_or-take c rs k nothing h)

used_none : (rs : List Command) (c k : ℕ) → c ≤ k → drop k (take c rs) ≡ []
used_none rs c k h = drop_of_length-le (take c rs) {i = k} (omega (arith, length-take c rs))

-- ---- the mask, from the last channel to the first
-- the mask of k channels is below 2 ^ k
mask_below : (rs cs : List Command) → mask rs cs < 2 ^ length rs
unfolding mask
mask_below [] cs = omega arith
mask_below (r ∷ rs) [] = pow_pos (suc (length rs))
mask_below (r ∷ rs) (c ∷ cs) = rw pow-suc (omega (arith, mask_below rs cs, bit_most (changed r c)))

mask_at : (rs cs : List Command) (c k : ℕ) → k < c → c ≤ length rs → k < length cs
    → mask (drop k (take c rs)) (drop k cs) ≡ bit (changed (get_or rs k nothing) (get_or cs k nothing)) + 2 * mask (drop (suc k) (take c rs)) (drop (suc k) cs)
unfolding mask
mask_at rs cs c k h l l' = rw (used_at rs c k h l, drop-cons cs k nothing l')

-- m is the mask of the channels from k on
pub record Masked (rs cs : List Command) (c m k : ℕ) : Type 0 where
  pub count : c ≤ width
  pub most : k ≤ c
  pub is : m ≡ mask (drop k (take c rs)) (drop k cs)

module _ (rs cs : List Command) (c : ℕ) where
  pub masked_none : c ≤ width → Masked rs cs c 0 c
  unfolding mask
  masked_none h = record { count = h; most = omega arith; is = rw (used_none rs c c (omega arith)) }

  module _ (m k : ℕ) (w : Masked rs cs c m k) where
    -- a mask is a byte, and those of the channels after the first leave a bit free
    pub masked_small : 0 < k → m < 128
    masked_small h =
        rw w.is (lt_of_lt_of_le (mask_below (drop k (take c rs)) (drop k cs)) (pow_mono {j = 7} (omega (arith, w.count, length-drop k (take c rs), length-take c rs))))

    pub masked_more : (n : ℕ) (b : Bool) → 0 < k → length rs ≡ width → length cs ≡ width → b ≡ changed (get_or rs (k - 1) nothing) (get_or cs (k - 1) nothing) → n ≡ from_bool b
        → Masked rs cs c (2 * m + n) (k - 1)
    masked_more n b h f g e q =
        let s : suc (k - 1) ≡ k = omega arith in
        record {
          count = w.count;
          most = omega (arith, w.most);
          is = rw (mask_at rs cs c (k - 1) (omega (arith, w.most)) (omega (arith, w.count)) (omega (arith, w.most, w.count)), s, q, from_bool_bit b, e, ← w.is) (omega arith);
        }

    pub masked_all : k ≤ 0 → m ≡ mask (take c rs) cs
    masked_all h =
        let z : k ≡ 0 = omega arith in
        rw z at w.is

-- ---- how many bytes the channels add: those of the mask's bits
ones_more : (b : Bool) (m : ℕ) → count_ones (bit b + 2 * m) ≡ bit b + count_ones m
ones_more b m = ones_step (bit b + 2 * m) ∙ rw (half b m) (ap (λ (n : ℕ). n + count_ones m) (low b))
  where
    low : (b : Bool) → (bit b + 2 * m) % 2 ≡ bit b
    low true = omega arith
    low false = omega arith

bytes_long : (b : Bool) (c : Command) → length (cond b (command_bytes c) []) ≡ body_bytes * bit b
unfolding command_bytes
bytes_long true c = refl
bytes_long false c = refl

pub long_by_mask : (rs cs : List Command) → length (channels_bytes rs cs) ≡ body_bytes * count_ones (mask rs cs)
unfolding channels_bytes channel_bytes mask count_ones
long_by_mask [] cs = refl
long_by_mask (r ∷ rs) [] = refl
long_by_mask (r ∷ rs) (c ∷ cs) =
    rw ones_more (omega (arith, length-append (channel_bytes r c) (channels_bytes rs cs), bytes_long (changed r c) c, long_by_mask rs cs))

-- ---- the bytes, by the mask
-- what is written up to p, with what the bits left in m say from channel k on, is the whole
pub record Written (cs : List Command) (m₀ : ℕ) (room₀ : List ℕ) (p₀ : ℕ) (room : List ℕ) (p m k : ℕ) : Type 0 where
  pub len : length room ≡ length room₀
  pub place : p + length (marked_bytes m (drop k cs)) ≡ p₀ + length (marked_bytes m₀ cs)
  pub whole : sets room p (marked_bytes m (drop k cs)) ≡ sets room₀ p₀ (marked_bytes m₀ cs)

module _ (cs : List Command) (m₀ : ℕ) (room₀ : List ℕ) (p₀ : ℕ) where
  pub written_none : Written cs m₀ room₀ p₀ room₀ p₀ m₀ 0
  written_none = record { len = refl; place = refl; whole = refl }

  module _ (room : List ℕ) (p m k : ℕ) (w : Written cs m₀ room₀ p₀ room p m k) where
    module _ (h : k < length cs) where
      marked_at : marked_bytes m (drop k cs) ≡ bit_bytes m (get_or cs k nothing) ++ marked_bytes (m / 2) (drop (k + 1) cs)
      unfolding marked_bytes
      marked_at = rw (add-one, drop-cons cs k nothing h)

      marked_long : length (marked_bytes m (drop k cs)) ≡ length (bit_bytes m (get_or cs k nothing)) + length (marked_bytes (m / 2) (drop (k + 1) cs))
      marked_long = ap length marked_at ∙ length-append (bit_bytes m (get_or cs k nothing)) (marked_bytes (m / 2) (drop (k + 1) cs))

      bit_some : m % 2 ≡ 1 → bit_bytes m (get_or cs k nothing) ≡ command_bytes (get_or cs k nothing)
      unfolding bit_bytes
      bit_some e = rw e

      bit_none : (m % 2 ≡ 1 → ⊥) → bit_bytes m (get_or cs k nothing) ≡ []
      unfolding bit_bytes
      bit_none n = let e : m % 2 ≡ 0 = omega arith in rw e

      pub written_room : m % 2 ≡ 1 → p₀ + length (marked_bytes m₀ cs) ≤ length room₀ → p + body_bytes ≤ length room
      unfolding command_bytes
      written_room e l = omega (arith, w.place, w.len, marked_long, ap length (bit_some e))

      pub written_some : (room' : List ℕ) (p' : ℕ) → m % 2 ≡ 1 → room' ≡ sets room p (command_bytes (get_or cs k nothing)) → p' ≡ p + body_bytes → Written cs m₀ room₀ p₀ room' p' (m / 2) (k + 1)
      written_some room' p' e o q =
          let x : List ℕ = bit_bytes m (get_or cs k nothing) in
          let n : p' ≡ p + length x = q ∙ ap (λ (i : ℕ). p + i) (unfold command_bytes in ap length (sym (bit_some e))) in
          let o' : room' ≡ sets room p x = rw (bit_some e) o in
          record {
            len = ap length o' ∙ length-sets room p x ∙ w.len;
            place = omega (arith, w.place, marked_long);
            whole = rw (o', n, ← sets-append room p x (marked_bytes (m / 2) (drop (k + 1) cs)), ← marked_at) w.whole;
          }

      pub written_skip : (room' : List ℕ) (p' : ℕ) → (m % 2 ≡ 1 → ⊥) → room' ≡ room → p' ≡ p → Written cs m₀ room₀ p₀ room' p' (m / 2) (k + 1)
      written_skip room' p' n o q =
          let e : marked_bytes m (drop k cs) ≡ marked_bytes (m / 2) (drop (k + 1) cs) = marked_at ∙ rw (bit_none n) in
          rw (o, q) (record { len = w.len; place = rw (← e) w.place; whole = rw (← e) w.whole })

    module _ (h : length cs ≤ k) where
      marked_none : marked_bytes m (drop k cs) ≡ []
      unfolding marked_bytes
      marked_none = rw (drop_of_length-le cs {i = k} h)

      pub written_next : p ≡ p₀ + length (marked_bytes m₀ cs)
      written_next = omega (arith, w.place, ap length marked_none)

      pub written_all : room ≡ sets room₀ p₀ (marked_bytes m₀ cs)
      written_all = rw marked_none at w.whole

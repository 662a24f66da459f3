-- Laws of a record's bytes: of a body of which no byte is in, of a mask's bits, and of the channels that are read one by one.
-- Assumes nothing.
use Prim.Native.Nat.{ℕ, zero, suc, ◌+◌, ◌/◌, ◌-◌, ◌^◌, ◌≤◌, ◌<◌}
use Rattle.std.specs.Prelude.{Ok, Err}
use Rattle.std.proofs.Math.Nat.{div-div-eq-div-mul}
use mathlib.Core.Path.{◌≡◌, refl, sym, ap, ◌∙◌}
use mathlib.Core.Bool.{true}
use mathlib.Core.List.{List, [], ◌∷◌, ◌++◌, append_assoc, append-nil}
use native.Mathlib.Omega.{arith}
use native.Mathlib.Nat.{pow-suc}
use native.Mathlib.Numerals.{add-one}
use lib.ListN.{length, get_or, take, drop, set, get_or-eq_default, drop_of_length-le, length-set, length-take, take-append-drop}
use lib.Seq.{drop-cons, drop-drop, drop-set-lt, get_or-take, take-suc-set}
use borrow.Author.Tests.{le-leb, lt-ltb, le-ltb}
use Rattle.laws.specs.Ranges.{all, all_from}
use Rattle.common.specs.Limits.{width, loudest, last_byte}
use Rattle.common.specs.Bytes.{byte_at}
use Rattle.ticks.specs.Commands.{nothing}
use Rattle.ticks.specs.declared.Command.{Command}
use Rattle.records.specs.Legal.{legal_beside}
use Rattle.records.specs.Format.{body_bytes, start_place, Read, bad, short, read, read_by, period_at, start_at, spelled, good_body, read_body, read_channel, read_channels, unused_bits}
use Rattle.decoder.specs.declared.reading.Unread.{Unread}
use Rattle.decoder.specs.Results.{as_result, as_command, as_commands}

-- ---- a body of which no byte is in
none_in : (s : List ℕ) (at : ℕ) → length s ≤ at → byte_at s at ≡ 0
none_in s at h = get_or-eq_default s 0 {n = at} h

nothing_in : (last : ℕ) (s : List ℕ) (at : ℕ) (r : Command) → length s ≤ at → good_body last s at r ≡ true
unfolding good_body spelled period_at start_at legal_beside all all_from
nothing_in last s at r h =
    rw (none_in s at h, none_in s (at + 1) (omega arith), none_in s (at + start_place) (omega arith), none_in s (at + 5) (omega arith), le-ltb (at + 2 + 1) (length s) (omega arith), le-ltb (at + start_place) (length s) (omega arith), le-leb 0 last (omega arith), le-leb 0 loudest (omega arith), le-leb 0 last_byte (omega arith))

pub no_body : (last : ℕ) (s : List ℕ) (at : ℕ) (r : Command) → length s - at ≡ 0 → read_body last s at r ≡ short
unfolding read_body
no_body last s at r h = rw (nothing_in last s at r (omega arith), lt-ltb (length s) (at + body_bytes) (omega arith))

-- ---- a mask's bits past those of c channels
pub unused_bits_shift : (c m : ℕ) → unused_bits c m ≡ m / 2 ^ c
unfolding unused_bits
unused_bits_shift zero m = omega arith
unused_bits_shift (suc c) m = unused_bits_shift c (m / 2) ∙ div-div-eq-div-mul m 2 (2 ^ c) ∙ ap (λ (d : ℕ). m / d) (rw pow-suc (omega arith))

-- ---- all channels
-- commands that were read, before a reading of the others
unfoldable pub before : List Command → Read (List Command) → Read (List Command)
before cs x = read_by bad short x (λ ds n. read (cs ++ ds) n)

before_all : (x : Read (List Command)) → x ≡ before [] x
unfolding before read_by
before_all bad = refl
before_all short = refl
before_all (read ds n) = refl

before_one : (cs : List Command) (c : Command) (x : Read (List Command)) → before cs (read_by bad short x (λ ds n. read (c ∷ ds) n)) ≡ before (cs ++ (c ∷ [])) x
unfolding before read_by
before_one cs c bad = refl
before_one cs c short = refl
before_one cs c (read ds n) = ap (λ (l : List Command). read l n) (sym (append_assoc cs (c ∷ []) ds))

-- what did not read does not read on
unread_on : {A B C D : Type 0} (made : A → ℕ → B) (made' : C → ℕ → D) (x : Read A) (rest : A → ℕ → Read C) (u : Unread) → Err u ≡ as_result made x → Err u ≡ as_result made' (read_by bad short x rest)
unfolding as_result read_by
unread_on made made' bad rest u e = cc
unread_on made made' short rest u e = cc
unread_on made made' (read x n) rest u e = absurd cc

-- what a channel's result says of the definition
module _ (x : Read Command) where
  command_read : (c : Command) (n : ℕ) → Ok (c, n) ≡ as_command x → x ≡ read c n
  unfolding as_result
  command_read c n e = go x e
    where
      go : (y : Read Command) → Ok (c, n) ≡ as_command y → y ≡ read c n
      go bad q = absurd cc
      go short q = absurd cc
      go (read d m) q = let p : (c, n) ≡ (d, m) = cc in ap (λ (v : Command × ℕ). read v.0 v.1) (sym p)

-- the commands that were read, before what is left to read, are the whole; those of the other channels are the registers'
pub record Reading (last c : ℕ) (s : List ℕ) (at₀ : ℕ) (registers : List Command) (m₀ : ℕ) (cs : List Command) (at m k : ℕ) : Type 0 where
  pub long : length cs ≡ width
  pub others : drop k cs ≡ drop k registers
  pub whole : read_channels last s at₀ (take c registers) m₀ ≡ before (take k cs) (read_channels last s at (drop k (take c registers)) m)

module _ (last c : ℕ) (s : List ℕ) (at₀ : ℕ) (registers : List Command) (m₀ : ℕ) where
  pub reading_none : length registers ≡ width → Reading last c s at₀ registers m₀ registers at₀ m₀ 0
  reading_none l = record { long = l; others = refl; whole = before_all _ }

  module _ (cs : List Command) (at m k : ℕ) (w : Reading last c s at₀ registers m₀ cs at m k) (small : c ≤ width) (l : length registers ≡ width) where
    module _ (h : k < c) where
      left : read_channels last s at (drop k (take c registers)) m
          ≡ read_by bad short (read_channel last s at (get_or registers k nothing) m) (λ d p. read_by bad short (read_channels last s p (drop (k + 1) (take c registers)) (m / 2)) (λ ds n. read (d ∷ ds) n))
      unfolding read_channels
      left = rw (add-one, drop-cons (take c registers) k nothing (omega (arith, length-take c registers)), get_or-take c registers k nothing h)

      pub reading_more : (d : Command) (n : ℕ) → Ok (d, n) ≡ as_command (read_channel last s at (get_or registers k nothing) m) → Reading last c s at₀ registers m₀ (set cs k d) n (m / 2) (k + 1)
      unfolding read_by
      reading_more d n e =
          let y = command_read (read_channel last s at (get_or registers k nothing) m) d n e in
          record {
            long = length-set cs k d ∙ w.long;
            others = drop-set-lt (k + 1) cs k d (omega arith) ∙ sym (drop-drop 1 k cs) ∙ ap (drop 1) w.others ∙ drop-drop 1 k registers;
            whole = w.whole ∙ rw (left, y, before_one (take k cs) d (read_channels last s n (drop (k + 1) (take c registers)) (m / 2)), add-one, take-suc-set cs k d (omega (arith, w.long)));
          }

      pub reading_unread : (u : Unread) → Err u ≡ as_command (read_channel last s at (get_or registers k nothing) m) → Err u ≡ as_commands c registers (read_channels last s at₀ (take c registers) m₀)
      unfolding before
      reading_unread u e = rw (w.whole, left) (unread_on {B = List Command × ℕ} (λ ds p. (ds, p)) _ (read_by bad short (read_channel last s at (get_or registers k nothing) m) _) _ u (unread_on _ _ (read_channel last s at (get_or registers k nothing) m) _ u e))

    module _ (h : c ≤ k) (most : k ≤ c) where
      rest : read_channels last s at (drop k (take c registers)) m ≡ read_channels last s at [] m
      rest = ap (λ (l : List Command). read_channels last s at l m) (drop_of_length-le (take c registers) {i = k} (omega (arith, length-take c registers)))

      pub reading_all : Ok (cs, at) ≡ as_commands c registers (read_channels last s at₀ (take c registers) m₀)
      unfolding as_result read_channels before read_by
      reading_all =
          let z : k ≡ c = omega arith in
          rw (w.whole, rest, append-nil, ← z, ← w.others, take-append-drop k cs)

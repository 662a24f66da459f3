-- The bytes of a record that are in: reading them goes as reading all of the stream goes, or they run out (`record_agrees`). How long a record is at
-- least and at most (`record_least`, `record_most`, `short_most`), and that it is read after the numbers that the registers hold, and no others (`record_alike`).
-- Assumes nothing.
use Rattle.std.specs.Prelude.{ℕ, zero, suc, ◌+◌, ◌*◌, ◌/◌, ◌%◌, ◌≤◌, ◌<◌, ◌≡◌, get_or, take, drop, eqb}
use Rattle.std.proofs.Math.Path.{refl, sym}
use Rattle.std.proofs.Common.{ap, ◌∙◌, true≢false, length-take, get_or-take}
use Rattle.std.proofs.Math.Bool.{Bool, true, false, cond}
use mathlib.Core.List.{List, [], ◌∷◌, ◌++◌}
use native.Mathlib.Omega.{arith}
use Rattle.std.proofs.Math.ListN.{length, get_or-eq_default}
use Rattle.std.proofs.Math.Dec.{leb, ltb}
use borrow.Author.Tests.{leb-true, le-leb, ltb-true, ltb-false, lt-ltb, le-ltb}
use Rattle.laws.specs.Choice.{either}
use Rattle.laws.specs.Every.{both, first_of, second_of}
use Rattle.common.specs.Limits.{least_tempo, greatest_tempo, between}
use Rattle.common.specs.LimitFacts.{LegalPeriod, silent}
use Rattle.common.specs.Bytes.{byte_at}
use Rattle.ticks.specs.declared.Command.{Command}
use Rattle.ticks.specs.declared.Tick.{Tick}
use Rattle.ticks.specs.Commands.{nothing}
use Rattle.records.specs.Legal.{legal_beside}
use Rattle.records.specs.LegalLaws.{beside_has, beside_by}
use Rattle.records.specs.Reads.{then_good, not-read, short_not_read, passed, missed}
use Rattle.records.specs.Format.{head_bytes, tempo_place, body_bytes, start_place, Read, bad, short, read, read_by, and_then, held, period_at, start_at, spelled, good_body, read_body, read_channel, read_channels, read_tick, unused_bits, read_bodies, read_record}

-- ---- two readings
-- x of a part that ends at `end` and lies d on, and y of the whole: x ran out, and what y reads does not end there; or they came out alike
abbrev pub Agrees : {A : Type 0} → ℕ → ℕ → Read A → Read A → Type 0
Agrees end d bad y = y ≡ bad
Agrees {A} end d short y = (a : A) (e : ℕ) → y ≡ read a e → end < e
Agrees end d (read a n) y = (y ≡ read a (d + n)) × (d + n ≤ end)

module _ {A B : Type 0} (end d : ℕ) (f g : A → ℕ → Read B) (alike : (a : A) (n : ℕ) → d + n ≤ end → Agrees end d (f a n) (g a (d + n))) (on : (a : A) (n : ℕ) (b : B) (e : ℕ) → g a n ≡ read b e → n ≤ e) where
  agrees_then : (x y : Read A) → Agrees end d x y → Agrees end d (and_then x f) (and_then y g)
  unfolding read_by
  agrees_then bad y h = rw h
  agrees_then short y h = λ b e q. let w = then_good y g b e q in omega (arith, h w.got w.next w.is, on w.got w.next b e w.on)
  agrees_then (read a n) y h = rw h.0 (alike a n h.1)

-- ---- how far a reading goes
read_place : {A : Type 0} (x y : A) (n k : ℕ) → read x n ≡ read y k → n ≡ k
read_place x y n k e = cc

body_end : (last : ℕ) (s : List ℕ) (at : ℕ) (r c : Command) (n : ℕ) → read_body last s at r ≡ read c n → n ≡ at + body_bytes
unfolding read_body
body_end last s at r c n e =
    let p = (passed (good_body last s at r) (cond (ltb (length s) (at + body_bytes)) short (read (spelled s at) (at + body_bytes))) bad (read c n) (not-read c n) e).1 in
    sym (read_place _ _ _ _ (missed (ltb (length s) (at + body_bytes)) short (read (spelled s at) (at + body_bytes)) (read c n) (short_not_read c n) p).1)

channel_end : (last : ℕ) (s : List ℕ) (at : ℕ) (r c : Command) (m n : ℕ) → read_channel last s at r m ≡ read c n → (at ≤ n) × (n ≤ at + body_bytes)
unfolding read_channel
channel_end last s at r c m n =
    either (λ (x : Read Command). x ≡ read c n → (at ≤ n) × (n ≤ at + body_bytes)) (eqb (m % 2) 0) (read (held r) at) (read_body last s at r)
    (λ z e. let k : at ≡ n = read_place _ _ _ _ e in (omega arith, omega arith)) (λ z e. let k = body_end last s at r c n e in (omega arith, omega arith))

channels_end : (last : ℕ) (s : List ℕ) (rs cs : List Command) (at m n : ℕ) → read_channels last s at rs m ≡ read cs n → at ≤ n
unfolding read_channels
channels_end last s [] cs at m n e = let k : at ≡ n = read_place _ _ _ _ e in omega arith
channels_end last s (r ∷ rs) cs at m n e =
    let a = then_good (read_channel last s at r m) (λ c p. and_then (read_channels last s p rs (m / 2)) (λ ds k. read (c ∷ ds) k)) cs n e in
    let b = then_good (read_channels last s a.next rs (m / 2)) (λ ds k. read (a.got ∷ ds) k) cs n a.on in
    let k : b.next ≡ n = read_place _ _ _ _ b.on in
    omega (arith, (channel_end last s at r a.got m a.next a.is).0, channels_end last s rs b.got a.next (m / 2) b.next b.is)

channels_most : (last : ℕ) (s : List ℕ) (rs cs : List Command) (at m n : ℕ) → read_channels last s at rs m ≡ read cs n → n ≤ at + body_bytes * length rs
unfolding read_channels
channels_most last s [] cs at m n e = let k : at ≡ n = read_place _ _ _ _ e in omega arith
channels_most last s (r ∷ rs) cs at m n e =
    let a = then_good (read_channel last s at r m) (λ c p. and_then (read_channels last s p rs (m / 2)) (λ ds k. read (c ∷ ds) k)) cs n e in
    let b = then_good (read_channels last s a.next rs (m / 2)) (λ ds k. read (a.got ∷ ds) k) cs n a.on in
    let k : b.next ≡ n = read_place _ _ _ _ b.on in
    omega (arith, (channel_end last s at r a.got m a.next a.is).1, channels_most last s rs b.got a.next (m / 2) b.next b.is)

-- what a good record has
record ReadOn (last c : ℕ) (s : List ℕ) (at : ℕ) (registers : List Command) (t : Tick) (n : ℕ) : Type 0 where
  pub fits : at + head_bytes ≤ length s
  pub commands : List Command
  pub is : read_channels last s (at + head_bytes) (take c registers) (byte_at s at) ≡ read commands n

record_on : (last c : ℕ) (s : List ℕ) (at : ℕ) (registers : List Command) (t : Tick) (n : ℕ) → read_record last c s at registers ≡ read t n → ReadOn last c s at registers t n
unfolding read_record read_bodies
record_on last c s at registers t n e =
    let tempo : ℕ = byte_at s (at + tempo_place) in
    let x : Read (List Command) = read_channels last s (at + head_bytes) (take c registers) (byte_at s at) in
    let y : Read Tick = cond (between least_tempo greatest_tempo tempo) (and_then x (read_tick c registers tempo)) bad in
    let z = passed (eqb (unused_bits c (byte_at s at)) 0) (cond (ltb (length s) (at + head_bytes)) short y) bad (read t n) (not-read t n) e in
    let w = missed (ltb (length s) (at + head_bytes)) short y (read t n) (short_not_read t n) z.1 in
    let p = passed (between least_tempo greatest_tempo tempo) (and_then x (read_tick c registers tempo)) bad (read t n) (not-read t n) w.1 in
    let a = then_good x (read_tick c registers tempo) t n p.1 in
    let k : a.next ≡ n = read_place _ _ _ _ a.on in
    record { fits = ltb-false (length s) (at + head_bytes) w.0; commands = a.got; is = rw k at a.is }

pub record_least : (last c : ℕ) (s : List ℕ) (at : ℕ) (registers : List Command) (t : Tick) (n : ℕ) → read_record last c s at registers ≡ read t n → at + head_bytes ≤ n
record_least last c s at registers t n e =
    let a = record_on last c s at registers t n e in
    channels_end last s (take c registers) a.commands (at + head_bytes) (byte_at s at) n a.is

pub record_most : (last c : ℕ) (s : List ℕ) (at : ℕ) (registers : List Command) (t : Tick) (n : ℕ) → read_record last c s at registers ≡ read t n → n ≤ at + head_bytes + body_bytes * c
record_most last c s at registers t n e =
    let a = record_on last c s at registers t n e in
    omega (arith, channels_most last s (take c registers) a.commands (at + head_bytes) (byte_at s at) n a.is, length-take c registers)

-- its commands are as many as the channels in use, before the registers of the others
pub record Commands (c : ℕ) (registers cs : List Command) : Type 0 where
  pub front : List Command
  pub long : length front ≡ length (take c registers)
  pub is : cs ≡ front ++ drop c registers

channels_long : (last : ℕ) (s : List ℕ) (rs cs : List Command) (at m n : ℕ) → read_channels last s at rs m ≡ read cs n → length cs ≡ length rs
unfolding read_channels
channels_long last s [] cs at m n e = let same : cs ≡ [] = cc in rw same
channels_long last s (r ∷ rs) cs at m n e =
    let a = then_good (read_channel last s at r m) (λ c p. and_then (read_channels last s p rs (m / 2)) (λ ds k. read (c ∷ ds) k)) cs n e in
    let b = then_good (read_channels last s a.next rs (m / 2)) (λ ds k. read (a.got ∷ ds) k) cs n a.on in
    let q : read (a.got ∷ b.got) b.next ≡ read cs n = b.on in
    let same : cs ≡ a.got ∷ b.got = cc in
    rw same (ap suc (channels_long last s rs b.got a.next (m / 2) b.next b.is))

pub record_commands : (last c : ℕ) (s : List ℕ) (at : ℕ) (registers : List Command) (t : Tick) (n : ℕ) → read_record last c s at registers ≡ read t n → Commands c registers t.commands
unfolding read_record read_bodies
record_commands last c s at registers t n e =
    let tempo : ℕ = byte_at s (at + tempo_place) in
    let x : Read (List Command) = read_channels last s (at + head_bytes) (take c registers) (byte_at s at) in
    let y : Read Tick = cond (between least_tempo greatest_tempo tempo) (and_then x (read_tick c registers tempo)) bad in
    let z = passed (eqb (unused_bits c (byte_at s at)) 0) (cond (ltb (length s) (at + head_bytes)) short y) bad (read t n) (not-read t n) e in
    let w = missed (ltb (length s) (at + head_bytes)) short y (read t n) (short_not_read t n) z.1 in
    let p = passed (between least_tempo greatest_tempo tempo) (and_then x (read_tick c registers tempo)) bad (read t n) (not-read t n) w.1 in
    let a = then_good x (read_tick c registers tempo) t n p.1 in
    let q : read_tick c registers tempo a.got a.next ≡ read t n = a.on in
    let same : t ≡ record { tempo = tempo; commands = a.got ++ drop c registers } = cc in
    record { front = a.got; long = channels_long last s (take c registers) a.got (at + head_bytes) (byte_at s at) a.next a.is; is = ap (λ (u : Tick). u.commands) same }

-- nothing is in
pub none_unused : (c : ℕ) → unused_bits c 0 ≡ 0
unfolding unused_bits
none_unused zero = refl
none_unused (suc c) = none_unused c

pub record_none : (last c : ℕ) (s : List ℕ) (at : ℕ) (registers : List Command) → length s ≤ at → read_record last c s at registers ≡ short
unfolding read_record
record_none last c s at registers h =
    let z : byte_at s at ≡ 0 = get_or-eq_default s 0 {n = at} h in
    rw (z, none_unused c, lt-ltb (length s) (at + head_bytes) (omega arith))

-- what is read is in
body_in : (last : ℕ) (s : List ℕ) (at : ℕ) (r c : Command) (n : ℕ) → read_body last s at r ≡ read c n → n ≤ length s
unfolding read_body
body_in last s at r c n e =
    let p = (passed (good_body last s at r) (cond (ltb (length s) (at + body_bytes)) short (read (spelled s at) (at + body_bytes))) bad (read c n) (not-read c n) e).1 in
    let q = missed (ltb (length s) (at + body_bytes)) short (read (spelled s at) (at + body_bytes)) (read c n) (short_not_read c n) p in
    let k : at + body_bytes ≡ n = read_place _ _ _ _ q.1 in
    omega (arith, ltb-false (length s) (at + body_bytes) q.0)

channels_in : (last : ℕ) (s : List ℕ) (rs cs : List Command) (at m n : ℕ) → at ≤ length s → read_channels last s at rs m ≡ read cs n → n ≤ length s
unfolding read_channels read_channel
channels_in last s [] cs at m n h e = let k : at ≡ n = read_place _ _ _ _ e in omega arith
channels_in last s (r ∷ rs) cs at m n h e =
    let a = then_good (read_channel last s at r m) (λ c p. and_then (read_channels last s p rs (m / 2)) (λ ds k. read (c ∷ ds) k)) cs n e in
    let b = then_good (read_channels last s a.next rs (m / 2)) (λ ds k. read (a.got ∷ ds) k) cs n a.on in
    let k : b.next ≡ n = read_place _ _ _ _ b.on in
    let i : a.next ≤ length s =
    either (λ (x : Read Command). x ≡ read a.got a.next → a.next ≤ length s) (eqb (m % 2) 0) (read (held r) at) (read_body last s at r)
    (λ z q. let j : at ≡ a.next = read_place _ _ _ _ q in omega arith) (λ z q. body_in last s at r a.got a.next q) a.is in
    rw k at (channels_in last s rs b.got a.next (m / 2) b.next i b.is)

pub record_end : (last c : ℕ) (s : List ℕ) (at : ℕ) (registers : List Command) (t : Tick) (n : ℕ) → read_record last c s at registers ≡ read t n → n ≤ length s
record_end last c s at registers t n e =
    let a = record_on last c s at registers t n e in
    channels_in last s (take c registers) a.commands (at + head_bytes) (byte_at s at) n a.fits a.is

-- ---- a part of the stream
-- xs are the bytes of s from d on
pub record Part (xs s : List ℕ) (d : ℕ) : Type 0 where
  pub inside : d + length xs ≤ length s
  pub same : (i : ℕ) → i < length xs → byte_at xs i ≡ byte_at s (d + i)

module _ (xs s : List ℕ) (d : ℕ) (w : Part xs s d) where
  byte_in_lem : (a b : ℕ) → a < length xs → b ≡ d + a → byte_at xs a ≡ byte_at s b
  byte_in_lem a b h e = w.same a h ∙ ap (byte_at s) (sym e)

  byte_low : (a b : ℕ) → b ≡ d + a → byte_at xs a ≤ byte_at s b
  byte_low a b e = go (ltb a (length xs)) refl
    where
      go : (t : Bool) → ltb a (length xs) ≡ t → byte_at xs a ≤ byte_at s b
      go true q = let z = byte_in_lem a b (ltb-true a (length xs) q) e in omega arith
      go false q = let z : byte_at xs a ≡ 0 = get_or-eq_default xs 0 {n = a} (ltb-false a (length xs) q) in omega arith

  period_in : (a b : ℕ) → b ≡ d + a → a + 1 < length xs → period_at xs a ≡ period_at s b
  unfolding period_at
  period_in a b e h =
      rw (lt-ltb (a + 1) (length xs) h, lt-ltb (b + 1) (length s) (omega (arith, w.inside)), byte_in_lem a b (omega arith) e, byte_in_lem (a + 1) (b + 1) h (omega arith))

  period_low : (a b : ℕ) → b ≡ d + a → LegalPeriod (period_at s b) → LegalPeriod (period_at xs a)
  unfolding period_at
  period_low a b e l = go (ltb (a + 1) (length xs)) refl
    where
      go : (t : Bool) → ltb (a + 1) (length xs) ≡ t → LegalPeriod (period_at xs a)
      go true q = rw (period_in a b e (ltb-true (a + 1) (length xs) q)) l
      go false q = rw q silent

  start_in : (a b : ℕ) → b ≡ d + a → a < length xs → start_at xs a ≡ start_at s b
  unfolding start_at
  start_in a b e h = rw (lt-ltb a (length xs) h, lt-ltb b (length s) (omega (arith, w.inside)), byte_in_lem a b h e)

  -- no start: its byte is in
  unstarted : (a : ℕ) → start_at xs a ≡ false → a < length xs
  unfolding start_at
  unstarted a = either (λ (b : Bool). b ≡ false → a < length xs) (ltb a (length xs)) _ _ (λ q z. ltb-true a (length xs) q) (λ q z. absurd (true≢false z))

  module _ (last : ℕ) (r : Command) (i : ℕ) where
    -- where no byte of the whole is bad, none of the part is
    good_part : good_body last s (d + i) r ≡ true → good_body last xs i r ≡ true
    unfolding good_body spelled
    good_part e =
        let flag : Bool = leb (byte_at s (d + i + start_place)) 1 in
        let beside : Bool = legal_beside last r.sample (spelled s (d + i)) in
        let a : byte_at s (d + i + start_place) ≤ 1 = leb-true (byte_at s (d + i + start_place)) 1 (first_of flag beside e) in
        let l = beside_has last r.sample (spelled s (d + i)) (second_of flag beside e) in
        let start : start_at xs (i + start_place) ≡ false → start_at s (d + i + start_place) ≡ false = λ q. sym (start_in (i + start_place) (d + i + start_place) (omega arith) (unstarted (i + start_place) q)) ∙ q in
        both _ _ (le-leb (byte_at xs (i + start_place)) 1 (omega (arith, byte_low (i + start_place) (d + i + start_place) (omega arith))))
        (beside_by last r.sample (spelled xs i)
        (record {
          sample = omega (arith, l.sample, byte_low i (d + i) refl);
          volume = omega (arith, l.volume, byte_low (i + 1) (d + i + 1) (omega arith));
          period = period_low (i + 2) (d + i + 2) (omega arith) l.period;
          offset = omega (arith, l.offset, byte_low (i + 5) (d + i + 5) (omega arith));
          stays = λ q. byte_in_lem i (d + i) (omega (arith, unstarted (i + start_place) q)) refl ∙ l.stays (start q);
          plain = λ q. let z = l.plain (start q) in omega (arith, byte_low (i + 5) (d + i + 5) (omega arith));
        }))

    spelled_in : i + body_bytes ≤ length xs → spelled xs i ≡ spelled s (d + i)
    unfolding spelled
    spelled_in h =
        rw (byte_in_lem i (d + i) (omega arith) refl, byte_in_lem (i + 1) (d + i + 1) (omega arith) (omega arith), period_in (i + 2) (d + i + 2) (omega arith) (omega arith), start_in (i + start_place) (d + i + start_place) (omega arith) (omega arith), byte_in_lem (i + 5) (d + i + 5) (omega arith) (omega arith))

    good_in : i + body_bytes ≤ length xs → good_body last xs i r ≡ good_body last s (d + i) r
    unfolding good_body
    good_in h = rw (spelled_in h, byte_in_lem (i + start_place) (d + i + start_place) (omega arith) (omega arith))

    body_agrees : Agrees (d + length xs) d (read_body last xs i r) (read_body last s (d + i) r)
    unfolding read_body
    body_agrees = go (good_body last xs i r) refl (ltb (length xs) (i + body_bytes)) refl
      where
        go : (g : Bool) → good_body last xs i r ≡ g → (t : Bool) → ltb (length xs) (i + body_bytes) ≡ t → Agrees (d + length xs) d (cond g (cond t short (read (spelled xs i) (i + body_bytes))) bad) (read_body last s (d + i) r)
        go true p true q = λ a e z. let k = body_end last s (d + i) r a e z in omega (arith, ltb-true (length xs) (i + body_bytes) q)
        go true p false q =
            let h = ltb-false (length xs) (i + body_bytes) q in
            let n : d + i + body_bytes ≡ d + (i + body_bytes) = omega arith in
            (rw (← good_in h, p, ← spelled_in h, le-ltb (length s) (d + i + body_bytes) (omega (arith, w.inside)), n), omega arith)
        go false p t q = none (good_body last s (d + i) r) refl
          where
            none : (g : Bool) → good_body last s (d + i) r ≡ g → cond g (cond (ltb (length s) (d + i + body_bytes)) short (read (spelled s (d + i)) (d + i + body_bytes))) bad ≡ bad
            none true z = absurd (true≢false (sym (good_part z) ∙ p))
            none false z = refl

    channel_agrees : (m : ℕ) → i ≤ length xs → Agrees (d + length xs) d (read_channel last xs i r m) (read_channel last s (d + i) r m)
    unfolding read_channel
    channel_agrees m h = go (eqb (m % 2) 0)
      where
        go : (b : Bool) → Agrees (d + length xs) d (cond b (read (held r) i) (read_body last xs i r)) (cond b (read (held r) (d + i)) (read_body last s (d + i) r))
        go true = (refl, omega arith)
        go false = body_agrees

  channels_agree : (last : ℕ) (rs : List Command) (i m : ℕ) → i ≤ length xs → Agrees (d + length xs) d (read_channels last xs i rs m) (read_channels last s (d + i) rs m)
  unfolding read_channels
  channels_agree last [] i m h = (refl, omega arith)
  channels_agree last (r ∷ rs) i m h =
      agrees_then (d + length xs) d (λ c p. and_then (read_channels last xs p rs (m / 2)) (λ cs n. read (c ∷ cs) n)) (λ c p. and_then (read_channels last s p rs (m / 2)) (λ cs n. read (c ∷ cs) n))
      (λ c p k. agrees_then (d + length xs) d (λ cs n. read (c ∷ cs) n) (λ cs n. read (c ∷ cs) n) (λ cs n j. (refl, j)) (λ cs n ds e q. let z = read_place _ _ _ _ q in omega arith) (read_channels last xs p rs (m / 2)) (read_channels last s (d + p) rs (m / 2)) (channels_agree last rs p (m / 2) (omega arith)))
      (λ c p cs e q.
      let b = then_good (read_channels last s p rs (m / 2)) (λ ds n. read (c ∷ ds) n) cs e q in
      let z : b.next ≡ e = read_place _ _ _ _ b.on in
      omega (arith, channels_end last s rs b.got p (m / 2) b.next b.is))
      (read_channel last xs i r m) (read_channel last s (d + i) r m) (channel_agrees last r i m h)

  module _ (last c : ℕ) (registers : List Command) where
    -- the part after a mask and a tempo
    bodies_agree : head_bytes ≤ length xs → Agrees (d + length xs) d (read_bodies last c xs 0 registers) (read_bodies last c s d registers)
    unfolding read_bodies
    bodies_agree h =
        rw (byte_in_lem 0 d (omega arith) (omega arith), byte_in_lem (0 + tempo_place) (d + tempo_place) (omega arith) (omega arith))
        (go (between least_tempo greatest_tempo (byte_at s (d + tempo_place))))
      where
        go : (b : Bool) → Agrees (d + length xs) d (cond b (and_then (read_channels last xs (0 + head_bytes) (take c registers) (byte_at s d)) (read_tick c registers (byte_at s (d + tempo_place)))) bad)
            (cond b (and_then (read_channels last s (d + head_bytes) (take c registers) (byte_at s d)) (read_tick c registers (byte_at s (d + tempo_place)))) bad)
        go true =
            agrees_then (d + length xs) d (read_tick c registers (byte_at s (d + tempo_place))) (read_tick c registers (byte_at s (d + tempo_place))) (λ cs n j. (refl, j)) (λ cs n t e q. let z = read_place _ _ _ _ q in omega arith)
            (read_channels last xs head_bytes (take c registers) (byte_at s d)) (read_channels last s (d + head_bytes) (take c registers) (byte_at s d)) (channels_agree last (take c registers) head_bytes (byte_at s d) h)
        go false = refl

    -- reading the bytes of a record that are in goes as reading all of the stream goes, or they run out
    pub record_agrees : Agrees (d + length xs) d (read_record last c xs 0 registers) (read_record last c s d registers)
    unfolding read_record
    record_agrees = go (ltb (length xs) head_bytes) refl (eqb (unused_bits c (byte_at xs 0)) 0) refl
      where
        least : length xs < head_bytes → (t : Tick) (e : ℕ) → read_record last c s d registers ≡ read t e → d + length xs < e
        least h t e q = omega (arith, record_least last c s d registers t e q)

        here : (b : Bool) → eqb (unused_bits c (byte_at xs 0)) 0 ≡ b → 0 < length xs → eqb (unused_bits c (byte_at s d)) 0 ≡ b
        here b e h = rw (← byte_in_lem 0 d h (omega arith)) e

        go : (t : Bool) → ltb (length xs) head_bytes ≡ t → (b : Bool) → eqb (unused_bits c (byte_at xs 0)) 0 ≡ b
            → Agrees (d + length xs) d (cond b (cond t short (read_bodies last c xs 0 registers)) bad) (read_record last c s d registers)
        go t q false p = masked (ltb 0 (length xs)) refl
          where
            masked : (z : Bool) → ltb 0 (length xs) ≡ z → read_record last c s d registers ≡ bad
            masked true z = rw (here false p (ltb-true 0 (length xs) z))
            masked false z = let e : byte_at xs 0 ≡ 0 = get_or-eq_default xs 0 {n = 0} (ltb-false 0 (length xs) z) in absurd (true≢false (sym (rw (e, none_unused c)) ∙ p))
        go true q true p = least (ltb-true (length xs) head_bytes q)
        go false q true p =
            let h = ltb-false (length xs) head_bytes q in
            rw (here true p (omega arith), le-ltb (length s) (d + head_bytes) (omega (arith, w.inside))) (bodies_agree h)

-- ---- a record that runs out is short
body_short : (last : ℕ) (s : List ℕ) (at : ℕ) (r : Command) → read_body last s at r ≡ short → length s < at + body_bytes
unfolding read_body
body_short last s at r = go (good_body last s at r) (ltb (length s) (at + body_bytes)) refl
  where
    go : (g t : Bool) → ltb (length s) (at + body_bytes) ≡ t → cond g (cond t short (read (spelled s at) (at + body_bytes))) bad ≡ short → length s < at + body_bytes
    go true true q e = ltb-true (length s) (at + body_bytes) q
    go true false q e = let z : ◌≡◌ {A = ℕ} 0 1 = cc in absurd (omega arith)
    go false t q e = let z : ◌≡◌ {A = ℕ} 0 1 = cc in absurd (omega arith)

channels_short : (last : ℕ) (s : List ℕ) (rs : List Command) (at m : ℕ) → read_channels last s at rs m ≡ short → length s < at + body_bytes * length rs
unfolding read_channels read_channel read_by
channels_short last s [] at m e = let z : ◌≡◌ {A = ℕ} 0 1 = cc in absurd (omega arith)
channels_short last s (r ∷ rs) at m e = go (λ p. channels_short last s rs p (m / 2)) (read_channel last s at r m) refl e
  where
    bodied : read_channel last s at r m ≡ short → length s < at + body_bytes
    bodied = either (λ (x : Read Command). x ≡ short → length s < at + body_bytes) (eqb (m % 2) 0) (read (held r) at) (read_body last s at r) (λ q z. let y : ◌≡◌ {A = ℕ} 0 1 = cc in absurd (omega arith)) (λ q z. body_short last s at r z)

    next : (p : ℕ) (c : Command) (y : Read (List Command)) → read_channels last s p rs (m / 2) ≡ y → read_by bad short y (λ cs n. read (c ∷ cs) n) ≡ short → y ≡ short
    next p c bad q z = z
    next p c short q z = refl
    next p c (read cs n) q z = let y : ◌≡◌ {A = ℕ} 0 1 = cc in absurd (omega arith)

    go : ((p : ℕ) → read_channels last s p rs (m / 2) ≡ short → length s < p + body_bytes * length rs) → (x : Read Command) → read_channel last s at r m ≡ x → read_by bad short x (λ c p. and_then (read_channels last s p rs (m / 2)) (λ cs n. read (c ∷ cs) n)) ≡ short → length s < at + body_bytes * length (r ∷ rs)
    go ih bad q z = let y : ◌≡◌ {A = ℕ} 0 1 = cc in absurd (omega arith)
    go ih short q z = omega (arith, bodied q)
    go ih (read c p) q z = omega (arith, (channel_end last s at r c m p q).1, ih p (next p c (read_channels last s p rs (m / 2)) refl z))

pub short_most : (last c : ℕ) (s : List ℕ) (registers : List Command) → read_record last c s 0 registers ≡ short → length s < head_bytes + body_bytes * c
unfolding read_record read_bodies read_by
short_most last c s registers = go (eqb (unused_bits c (byte_at s 0)) 0) (ltb (length s) head_bytes) refl (between least_tempo greatest_tempo (byte_at s (0 + tempo_place))) (read_channels last s head_bytes (take c registers) (byte_at s 0)) refl
  where
    go : (b t : Bool) → ltb (length s) head_bytes ≡ t → (u : Bool) (x : Read (List Command)) → read_channels last s head_bytes (take c registers) (byte_at s 0) ≡ x
        → cond b (cond t short (cond u (read_by bad short x (read_tick c registers (byte_at s (0 + tempo_place)))) bad)) bad ≡ short → length s < head_bytes + body_bytes * c
    go false t q u x z e = let y : ◌≡◌ {A = ℕ} 0 1 = cc in absurd (omega arith)
    go true true q u x z e = omega (arith, ltb-true (length s) head_bytes q)
    go true false q false x z e = let y : ◌≡◌ {A = ℕ} 0 1 = cc in absurd (omega arith)
    go true false q true bad z e = let y : ◌≡◌ {A = ℕ} 0 1 = cc in absurd (omega arith)
    go true false q true short z e = omega (arith, channels_short last s (take c registers) head_bytes (byte_at s 0) z, length-take c registers)
    go true false q true (read cs n) z e = let y : ◌≡◌ {A = ℕ} 0 1 = cc in absurd (omega arith)

-- ---- registers that hold the same numbers
pub record Alike (c : ℕ) (rs ss : List Command) : Type 0 where
  pub long : length rs ≡ length ss
  pub each : (i : ℕ) → held (get_or rs i nothing) ≡ held (get_or ss i nothing)
  pub rest : drop c rs ≡ drop c ss

channel_alike : (last : ℕ) (s : List ℕ) (at : ℕ) (r q : Command) (m : ℕ) → held r ≡ held q → read_channel last s at r m ≡ read_channel last s at q m
unfolding read_channel read_body good_body held
channel_alike last s at r q m e = let k : r.sample ≡ q.sample = ap (λ (x : Command). x.sample) e in rw (e, k)

channels_alike : (last : ℕ) (s : List ℕ) (rs ss : List Command) (at m : ℕ) → length rs ≡ length ss → ((i : ℕ) → held (get_or rs i nothing) ≡ held (get_or ss i nothing)) → read_channels last s at rs m ≡ read_channels last s at ss m
unfolding read_channels read_by
channels_alike last s [] [] at m l e = refl
channels_alike last s [] (q ∷ ss) at m l e = absurd (omega arith)
channels_alike last s (r ∷ rs) [] at m l e = absurd (omega arith)
channels_alike last s (r ∷ rs) (q ∷ ss) at m l e = rw (channel_alike last s at r q m (e 0)) (go (λ p. channels_alike last s rs ss p (m / 2) (omega arith) (λ i. e (suc i))) (read_channel last s at q m))
  where
    go : ((p : ℕ) → read_channels last s p rs (m / 2) ≡ read_channels last s p ss (m / 2)) → (x : Read Command) → read_by bad short x (λ c p. and_then (read_channels last s p rs (m / 2)) (λ cs n. read (c ∷ cs) n)) ≡ read_by bad short x (λ c p. and_then (read_channels last s p ss (m / 2)) (λ cs n. read (c ∷ cs) n))
    go ih bad = refl
    go ih short = refl
    go ih (read c p) = rw (ih p)

pub record_alike : (last c : ℕ) (s : List ℕ) (at : ℕ) (rs ss : List Command) → Alike c rs ss → read_record last c s at rs ≡ read_record last c s at ss
unfolding read_record read_bodies
record_alike last c s at rs ss w =
    rw (channels_alike last s (take c rs) (take c ss) (at + head_bytes) (byte_at s at) lengths alike)
    (ap (λ (others : List Command). cond (eqb (unused_bits c (byte_at s at)) 0) (cond {A = Read Tick} (ltb (length s) (at + head_bytes)) short (cond (between least_tempo greatest_tempo (byte_at s (at + tempo_place))) (read_by {B = Read Tick} bad short (read_channels last s (at + head_bytes) (take c ss) (byte_at s at)) (λ cs n. read (record { tempo = byte_at s (at + tempo_place); commands = cs ++ others }) n)) bad)) bad) w.rest)
  where
    lengths : length (take c rs) ≡ length (take c ss)
    lengths = length-take c rs ∙ rw w.long (sym (length-take c ss))

    alike : (i : ℕ) → held (get_or (take c rs) i nothing) ≡ held (get_or (take c ss) i nothing)
    alike i = go (ltb i c) refl
      where
        go : (b : Bool) → ltb i c ≡ b → held (get_or (take c rs) i nothing) ≡ held (get_or (take c ss) i nothing)
        go true q = rw (get_or-take c rs i nothing (ltb-true i c q), get_or-take c ss i nothing (ltb-true i c q)) (w.each i)
        go false q =
            let h = ltb-false i c q in
            rw (get_or-eq_default (take c rs) nothing {n = i} (omega (arith, length-take c rs)), get_or-eq_default (take c ss) nothing {n = i} (omega (arith, length-take c ss)))

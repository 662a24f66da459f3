-- What the decoder's calls return: the definitions' readings as results.
-- Assumes nothing.
use Rattle.std.specs.Prelude.{ℕ, ◌≡◌, refl, List, ◌++◌, drop, Result, Ok, Err}
use Rattle.std.proofs.Common.{sym, ap}
use Rattle.ticks.specs.declared.Command.{Command}
use Rattle.ticks.specs.declared.Tick.{Tick}
use Rattle.records.specs.Format.{Read, bad, short, read, read_by}
use Rattle.decoder.specs.declared.reading.Record.{Record}
use Rattle.decoder.specs.declared.reading.Unread.{Unread}
use Rattle.decoder.specs.declared.reading.Unread.TheVariants.{Bad, Short}

-- what was read, made of its value and the place after it; or why nothing was
unfoldable pub as_result : {A B : Type 0} → (A → ℕ → B) → Read A → Result B Unread
as_result made bad = Err Bad
as_result made short = Err Short
as_result made (read x n) = Ok (made x n)

-- a channel's command
abbrev pub as_command : Read Command → Result (Command × ℕ) Unread
as_command = as_result (λ c n. (c, n))

-- the commands of the first c channels, before the registers of the others
abbrev pub as_commands : ℕ → List Command → Read (List Command) → Result (List Command × ℕ) Unread
as_commands c registers = as_result (λ cs n. (cs ++ drop c registers, n))

-- a record
abbrev pub as_record : Read Tick → Result Record Unread
as_record = as_result (λ t n. record { tick = t; next = n })

-- ---- what a result says of the reading
module _ {A B : Type 0} (made : A → ℕ → B) where
  pub was_bad : (x : Read A) → Err Bad ≡ as_result made x → x ≡ bad
  unfolding as_result
  was_bad bad e = refl
  was_bad short e = absurd cc
  was_bad (read a n) e = absurd cc

  pub was_short : (x : Read A) → Err Short ≡ as_result made x → x ≡ short
  unfolding as_result
  was_short bad e = absurd cc
  was_short short e = refl
  was_short (read a n) e = absurd cc

-- nothing was read, so that nothing is read on
pub was_unread : {A B C : Type 0} (made : A → ℕ → B) (x : Read A) (u : Unread) (instead : C) (rest : A → ℕ → C) → Err u ≡ as_result made x → read_by instead instead x rest ≡ instead
unfolding as_result read_by
was_unread made bad u instead rest e = refl
was_unread made short u instead rest e = refl
was_unread made (read a n) u instead rest e = absurd cc

pub was_read : (x : Read Tick) (r : Record) → Ok r ≡ as_record x → x ≡ read r.tick r.next
unfolding as_result
was_read bad r e = absurd cc
was_read short r e = absurd cc
was_read (read t n) r e = let q : r ≡ record { tick = t; next = n } = cc in ap (λ (y : Record). read y.tick y.next) (sym q)

-- What the functions of the song rest on: places and moves by their numbers, a row's few ticks, and the loops over the channels.
-- Assumes nothing.
use Rattle.std.proofs.Common.{◌≡◌, ℕ, zero, suc, ◌+◌, ◌*◌, ◌%◌, ◌^◌, ◌<◌, ◌≤◌, Bool, List, length, get_or, set, refl, ap, ◌∙◌, ⊎_elim, mul-le-mul, add-one, arith, le-ltb, lt-ltb}
use Rattle.std.proofs.Common.{[], ◌∷◌, ◌++◌}
use Rattle.std.proofs.Math.Bool.{and-true}
use Rattle.std.proofs.lemmas.Bool.{cases_lt}
use Rattle.std.proofs.lemmas.List.{map-id}
use Rattle.std.proofs.lemmas.List.Folds.{list_all-append}
use Rattle.std.proofs.lemmas.List.FromFn.{map-range_with_len_more}
use Rattle.std.specs.List.{list_all, range_with_len}
use Rattle.laws.specs.Ranges.{every}
use Rattle.laws.specs.Each.{same_parts, Parting, pad_begin, within_begin, part_again, part_end}
use Rattle.common.specs.Limits.{width}
use Rattle.common.specs.ByteLaws.{Bytes}
use Rattle.reader.specs.File.{Module, lent, song_length, channel_count}
use Rattle.reader.specs.Judge.{verdict}
use Rattle.reader.specs.Accept.{accepted_has}
use Rattle.reader.specs.Cells.{cell_from}
use Rattle.reader.specs.declared.Layout.{Layout}
use Rattle.reader.specs.declared.Cell.{Cell}
use Rattle.effects.specs.Commands.{voiced}
use Rattle.effects.specs.Legal.{fresh_channel}
use Rattle.effects.specs.declared.Voiced.{Voiced}
use Rattle.sequencer.specs.Row.{cell_on, row_flow, flow_through}
use Rattle.sequencer.specs.RowFacts.{BeginsAt, cell_there}
use Rattle.sequencer.specs.Voicing.{BeforeWork}
use Rattle.sequencer.specs.Songs.{song_work, voiced_on, all_voiced, row_ticks, next_tick}
use Rattle.sequencer.specs.Legal.{greatest_speed, last_delay}
use Rattle.sequencer.specs.Kept.{work_kept}
use Rattle.sequencer.specs.declared.Place.{Place}
use Rattle.sequencer.specs.declared.Time.{Time}
use Rattle.sequencer.specs.declared.Flow.{Flow}
use Rattle.sequencer.specs.declared.Song.{Song}
use Rattle.sequencer.specs.declared.AllVoiced.{AllVoiced}
use Rattle.ticks.specs.Commands.{nothing}
use Rattle.reader.specs.Layouts.{LegalLayout}
use Rattle.sequencer.specs.LegalFacts.{LegalTime, LegalSong, LegalSounding, LegalRun}

-- ---- places and moves

-- ---- a row's ticks
-- of numbers that fit 32 bits, they fit 64
pub row_wide : (s d : ℕ) → s < 2 ^ 32 → d < 2 ^ 32 → s * (1 + d) < 2 ^ 64
row_wide s d a b = omega (arith, mul-le-mul {n₁ = s} {m₁ = 1 + d} {n₂ = 4294967295} {m₂ = 4294967296} (omega arith) (omega arith))

-- and of a legal song they are few
pub few_ticks : (t : Time) → LegalTime t → t.tick < greatest_speed * (1 + last_delay)
few_ticks t h = omega (arith, mul-le-mul {n₁ = t.speed} {m₁ = 1 + t.delay} {n₂ = greatest_speed} {m₂ = 1 + last_delay} h.speed.high (omega (arith, h.delay)), h.tick)

-- the next tick is in the row, or there is none
pub next_on : (t : Time) (n : ℕ) → n ≡ row_ticks t → t.tick + 1 < n → t.tick + 1 ≡ next_tick t
unfolding next_tick
next_on t n e l = rw (lt-ltb (t.tick + 1) (row_ticks t) (rw e at l))

pub next_over : (t : Time) (n : ℕ) → n ≡ row_ticks t → n ≤ t.tick + 1 → 0 ≡ next_tick t
unfolding next_tick
next_over t n e l = rw (le-ltb (t.tick + 1) (row_ticks t) (rw e at l))

-- ---- the row's work, channel by channel
-- the cells of a row, from where they begin
pub cell_read : (m : Module) (at : Place) (row i : ℕ) (c : Cell) → BeginsAt m at row → c ≡ cell_from m.bytes (row + 4 * i) → c ≡ cell_on m at i
cell_read m at row i c b e = e ∙ cell_there m at row b i

pub flow_again : (m : Module) (at : Place) (f₀ f g : Flow) (c : Cell) (i positions : ℕ) → positions ≡ song_length m → f ≡ flow_through m at f₀ i → c ≡ cell_on m at i → g ≡ row_flow positions at.row c f → g ≡ flow_through m at f₀ (i + 1)
unfolding flow_through
flow_again m at f₀ f g c i positions p w e q = rw (add-one, ← e, ← w, ← p) q

-- ---- the channels' work, channel by channel
pub record Voicing (m : Module) (s : Song) (k : List ℕ) (all : AllVoiced) (i : ℕ) : Type 0 where
  pub worked : Parting (λ j. (voiced_on m s k j).channel) (λ j. get_or s.channels j fresh_channel) fresh_channel width all.channels i
  pub told : Parting (λ j. (voiced_on m s k j).command) (λ j. nothing) nothing width all.commands i

module _ (m : Module) (s : Song) (k : List ℕ) (all : AllVoiced) where
  pub voicing_begin : BeforeWork s.channels all → Voicing m s k all 0
  voicing_begin w = record { worked = rw w.same (within_begin _ _ _ s.channels w.long); told = pad_begin _ _ _ _ w.none (ap length w.none) }

  pub voicing_again : (i : ℕ) (at : Place) (c : Cell) (v : Voiced) → LegalLayout m.layout → Voicing m s k all i → i < channel_count m → at ≡ s.course.at → c ≡ cell_on m at i → v ≡ voiced m.bytes c s.time.tick (s.time.tick % s.time.speed) (get_or s.channels i fresh_channel) (get_or k i 0) → Voicing m s k (record { channels = set all.channels i v.channel; commands = set all.commands i v.command }) (i + 1)
  unfolding voiced_on
  voicing_again i at c v y w l z q e =
      let e' : v ≡ voiced_on m s k i = rw (← z, ← q) e in
      record {
        worked = part_again _ _ _ _ _ i (channel_count m) _ w.worked l y.channels (ap (λ (x : Voiced). x.channel) e');
        told = part_again _ _ _ _ _ i (channel_count m) _ w.told l y.channels (ap (λ (x : Voiced). x.command) e');
      }

  pub voicing_end : (positions i : ℕ) → LegalSong positions m.layout s → Voicing m s k all i → channel_count m ≤ i → i ≤ channel_count m → all ≡ all_voiced m s k
  unfolding all_voiced
  voicing_end positions i z w l h = rw (part_end _ _ _ _ _ i (channel_count m) w.worked l h, same_parts (λ j. (voiced_on m s k j).channel) _ (channel_count m) _ (λ j. fresh_channel) width (λ j q. refl) z.rest, part_end _ _ _ _ _ i (channel_count m) w.told l h)

-- ---- the samples that sound fit a byte
pub sounding_small : (m : Module) (k : List ℕ) → LegalLayout m.layout → LegalSounding m k → (i : ℕ) → i < width → get_or k i 0 < 256
sounding_small m k y l i w =
    ⊎_elim (λ (u : i < channel_count m). omega (arith, l.low i u, y.samples)) (λ (r : channel_count m ≤ i). omega (arith, l.rest i w r)) (cases_lt i (channel_count m))

-- ---- the song after the row's work has a tick below its row's
pub work_time : (l : Layout) (xs : List ℕ) (s r : Song) (k : List ℕ) → (verdict (lent l xs)).number ≡ 0 → Bytes xs → LegalRun (lent l xs) s k → r ≡ song_work (lent l xs) s → LegalTime r.time
work_time y xs s r k j b l e = rw e (work_kept (lent y xs) (accepted_has (lent y xs) j) b s l.song).time

-- ---- a test of every number below a bound, as a list of them tells it
range_more : (n : ℕ) → range_with_len 0 (suc n) ≡ range_with_len 0 n ++ n ∷ []
range_more n = rw add-one at (simp map-id at (map-range_with_len_more (λ k. k) 0 n n (omega arith)))

pub every_list : (p : ℕ → Bool) (n : ℕ) → list_all p (range_with_len 0 n) ≡ every p n
unfolding every
every_list p zero = refl
every_list p (suc n) = ap (list_all p) (range_more n) ∙ list_all-append p (range_with_len 0 n) (n ∷ []) ∙ rw (every_list p n, and-true (p n))

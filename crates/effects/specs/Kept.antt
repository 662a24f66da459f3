-- A channel's work keeps it legal, and its command is legal, for any channel of an accepted file.
-- Assumes nothing.
use Rattle.std.specs.Prelude.{ℕ, ◌-◌, ◌/◌, ◌%◌, ◌≤◌, ◌<◌, min, ◌≡◌, refl, Bool, false, cond, List, T, eqb}
use Rattle.std.proofs.Common.{subst, arith}
use borrow.Author.Tests.{eqb-false}
use Rattle.std.proofs.Common.{zero-le}
use Rattle.std.proofs.Math.Dec.{lit<}
use Rattle.laws.specs.Choice.{either}
use Rattle.laws.specs.Numbers.{cond-le}
use Rattle.common.specs.Limits.{loudest, last_byte}
use Rattle.common.specs.LimitFacts.{LegalPeriod, cell_period_legal}
use Rattle.common.specs.LimitFacts.LegalPeriod.{silent}
use Rattle.tuning.specs.Table.{last_finetune}
use Rattle.tuning.specs.Kept.{tuned_legal, semitones_legal}
use Rattle.motion.specs.Waves.{last_memory, whole_wave}
use Rattle.motion.specs.LegalFacts.{LegalWave}
use Rattle.motion.specs.Kept.{cond-period, louder_le, softer_le, lowered_legal, raised_legal, towards_legal, vibrated_legal, trembled_le, moved_legal, remembered_le}
use Rattle.motion.specs.declared.Wave.{Wave}
use Rattle.effects.specs.LegalFacts.{LegalChannel, LegalDepths}
use Rattle.ticks.specs.Legal.{LegalCommand}
use Rattle.reader.specs.File.{Module, sample_count, header_volume}
use Rattle.reader.specs.Accept.{Accepted, LegalCell}
use Rattle.reader.specs.declared.Cell.{Cell}
use Rattle.effects.specs.Notes.{is_note}
use Rattle.effects.specs.Wavering.{vibrates, trembles, row_place, row_form, row_wave}
use Rattle.effects.specs.Work.{latched_by, given_finetune, row_finetune, given_volume, row_volume, given_period, row_period, row_target, row_memory, row_channel, tick_volume, tick_period, tick_channel, worked}
use Rattle.effects.specs.Starts.{Start, still, begun, again, note_start, effect_start, row_start, tick_start, start_for}
use Rattle.effects.specs.Sounded.{arpeggio, transposed, arpeggiated, sounded_period, sounded_volume}
use Rattle.effects.specs.Commands.{command_of, after_sound, voiced_by, voiced}
use Rattle.effects.specs.declared.Channel.{Channel}

-- ---- periods and volumes
smaller_le : (a n : ℕ) → min a n ≤ n
smaller_le a n = omega arith

transposed_legal : (f p k : ℕ) → f ≤ last_finetune → LegalPeriod p → LegalPeriod (transposed f p k)
unfolding transposed
transposed_legal f p k l h = search (cond-period, silent, semitones_legal, l, h)

-- ---- a wave, of vibrato and tremolo alike
high_digit : (n : ℕ) → n ≤ last_byte → n / 16 ≤ last_memory
high_digit n h = omega arith

low_digit : (n : ℕ) → n % 16 ≤ last_memory
low_digit n = omega arith

module _ (effect choosing : ℕ) (c : Cell) (w : Wave) where
  row_depth : w.y ≤ last_memory → (row_wave effect choosing c w).y ≤ last_memory
  unfolding row_wave
  row_depth h = remembered_le _ _ _ _ (low_digit c.param) h

  row_wave_legal : c.param ≤ last_byte → LegalWave w → LegalWave (row_wave effect choosing c w)
  unfolding row_wave row_place row_form
  row_wave_legal b l =
      record {
        x = remembered_le _ _ _ _ (high_digit c.param b) l.x;
        y = remembered_le _ _ _ _ (low_digit c.param) l.y;
        place = either (λ (n : ℕ). n < whole_wave) (is_note c) 0 w.place (λ e. lit< tt) (λ e. l.place);
        form = search (cond-le, smaller_le, l);
      }

-- ---- a channel
module _ (m : Module) (a : Accepted m) (c : Cell) (lc : LegalCell (sample_count m) c) (b : c.param ≤ last_byte) where
  noted_period : LegalPeriod c.period
  noted_period = cell_period_legal c.period lc.period

  given_legal : (v : ℕ) → v ≤ loudest → given_volume m.bytes c v ≤ loudest
  unfolding given_volume
  given_legal v h =
      either (λ (n : ℕ). n ≤ loudest) (eqb c.sample 0) v (header_volume m.bytes (c.sample - 1)) (λ e. h)
      (λ e. a.volumes (c.sample - 1) (omega (arith, eqb-false c.sample 0 e, lc.sample)))

  finetune_low : (f : ℕ) → f ≤ last_finetune → row_finetune m.bytes c f ≤ last_finetune
  unfolding row_finetune given_finetune
  finetune_low f h = search (cond-le, low_digit, h)

  row_legal : (ch : Channel) → LegalChannel (sample_count m) ch → LegalChannel (sample_count m) (row_channel m.bytes c ch)
  unfolding row_channel latched_by row_volume given_period row_period row_target row_memory
  row_legal ch l =
      let f = finetune_low ch.finetune l.finetune in
      record {
        latched = search (cond-le, lc, l);
        finetune = f;
        volume = search (cond-le, louder_le, softer_le, smaller_le, zero-le, given_legal, l) depth 9;
        period = search (cond-period, lowered_legal, raised_legal, tuned_legal, noted_period, f, l) depth 9;
        target = search (cond-period, tuned_legal, noted_period, f, l);
        memory = remembered_le _ _ _ _ b l.memory;
        vibrato = row_wave_legal _ _ c ch.vibrato b l.vibrato;
        tremolo = row_wave_legal _ _ c ch.tremolo b l.tremolo;
      }

  tick_legal : (t : ℕ) (ch : Channel) → LegalChannel (sample_count m) ch → LegalChannel (sample_count m) (tick_channel c t ch)
  unfolding tick_channel tick_volume tick_period
  tick_legal t ch l =
      record {
        latched = l.latched;
        finetune = l.finetune;
        volume = search (cond-le, louder_le, softer_le, zero-le, l) depth 9;
        period = search (cond-period, lowered_legal, raised_legal, towards_legal, l) depth 9;
        target = l.target;
        memory = l.memory;
        vibrato = l.vibrato;
        tremolo = l.tremolo;
      }

  pub channel_kept : (u t : ℕ) (ch : Channel) → LegalChannel (sample_count m) ch → LegalChannel (sample_count m) (worked m.bytes c u t ch)
  unfolding worked
  channel_kept u t ch l =
      either (LegalChannel (sample_count m)) (eqb u 0) (row_channel m.bytes c ch) (cond (eqb t 0) ch (tick_channel c t ch)) (λ e. row_legal ch l)
      (λ e. either (LegalChannel (sample_count m)) (eqb t 0) ch (tick_channel c t ch) (λ z. l) (λ z. tick_legal t ch l))

-- ---- the depths, whatever the file and the cell
pub depths_kept : (bytes : List ℕ) (c : Cell) (u t : ℕ) (ch r : Channel) → LegalDepths ch → r ≡ worked bytes c u t ch → LegalDepths r
unfolding worked row_channel tick_channel
depths_kept bytes c u t ch r l e =
    rw e
    (either LegalDepths (eqb u 0) _ _ (λ z. record { vibrato = row_depth _ _ c ch.vibrato l.vibrato; tremolo = row_depth _ _ c ch.tremolo l.tremolo })
    (λ z. either LegalDepths (eqb t 0) _ _ (λ z. l) (λ z. record { vibrato = l.vibrato; tremolo = l.tremolo })))

-- ---- what sounds, and the waves after it
volume_legal : (c : Cell) (t : ℕ) (ch : Channel) → ch.volume ≤ loudest → sounded_volume c t ch ≤ loudest
unfolding sounded_volume
volume_legal c t ch h = cond-le loudest (trembles c t) _ _ (trembled_le ch.tremolo ch.volume h) h

arpeggiated_legal : (c : Cell) (t f p : ℕ) → f ≤ last_finetune → LegalPeriod p → LegalPeriod (arpeggiated c t f p)
unfolding arpeggiated
arpeggiated_legal c t f p l h = transposed_legal f p (arpeggio c t) l h

period_legal : (c : Cell) (t : ℕ) (ch : Channel) → ch.finetune ≤ last_finetune → LegalPeriod ch.period → LegalPeriod (sounded_period c t ch)
unfolding sounded_period
period_legal c t ch l h =
    cond-period (vibrates c t) _ _ (vibrated_legal ch.finetune ch.vibrato ch.period l h) (arpeggiated_legal c t ch.finetune ch.period l h)

after_legal : (last : ℕ) (c : Cell) (t : ℕ) (ch : Channel) → LegalChannel last ch → LegalChannel last (after_sound c t ch)
unfolding after_sound
after_legal last c t ch l =
    record {
      latched = l.latched;
      finetune = l.finetune;
      volume = l.volume;
      period = l.period;
      target = l.target;
      memory = l.memory;
      vibrato = moved_legal _ ch.vibrato l.vibrato;
      tremolo = moved_legal _ ch.tremolo l.tremolo;
    }

-- ---- what starts, beside the sample that sounds
record LegalStart (last heard : ℕ) (s : Start) : Type 0 where
  sample : s.sample ≤ last
  offset : s.offset ≤ last_byte
  stays : s.given ≡ false → s.sample ≡ heard
  plain : s.given ≡ false → s.offset ≡ 0

cond-start : (last heard : ℕ) (b : Bool) (x y : Start) → LegalStart last heard x → LegalStart last heard y → LegalStart last heard (cond b x y)
cond-start last heard b x y p q = either (LegalStart last heard) b x y (λ e. p) (λ e. q)

still_legal : (last heard : ℕ) → heard ≤ last → LegalStart last heard (still heard)
still_legal last heard h = record { sample = h; offset = zero-le; stays = λ e. refl; plain = λ e. refl }

begun_legal : (last heard sample offset : ℕ) → sample ≤ last → offset ≤ last_byte → LegalStart last heard (begun sample offset)
begun_legal last heard sample offset h k = record { sample = h; offset = k; stays = λ e. absurd (subst T e tt); plain = λ e. absurd (subst T e tt) }

again_legal : (last heard offset : ℕ) → heard ≤ last → offset ≤ last_byte → LegalStart last heard (again heard offset)
unfolding again
again_legal last heard offset h k = search (cond-start, still_legal, begun_legal)

module _ (last : ℕ) (c : Cell) (b : c.param ≤ last_byte) (heard : ℕ) (h : heard ≤ last) where
  start_legal : (u t latched : ℕ) → latched ≤ last → LegalStart last heard (start_for c u t latched heard)
  unfolding start_for row_start effect_start note_start tick_start
  start_legal u t latched l = search (cond-start, still_legal, begun_legal, again_legal, zero-le, b, h, l) depth 12

-- ---- the main law of a channel: legal again, with a legal command
module _ (m : Module) (a : Accepted m) (c : Cell) (lc : LegalCell (sample_count m) c) (b : c.param ≤ last_byte) (u t : ℕ) (ch : Channel) (l : LegalChannel (sample_count m) ch) (heard : ℕ) (h : heard ≤ sample_count m) where
  pub voiced_channel : LegalChannel (sample_count m) (voiced m.bytes c u t ch heard).channel
  unfolding voiced voiced_by
  voiced_channel = after_legal (sample_count m) c t _ (channel_kept m a c lc b u t ch l)

  pub voiced_command : LegalCommand (sample_count m) heard (voiced m.bytes c u t ch heard).command
  unfolding voiced voiced_by command_of
  voiced_command =
      let w = channel_kept m a c lc b u t ch l in
      let s = start_legal (sample_count m) c b heard h u t (worked m.bytes c u t ch).latched w.latched in
      record {
        sample = s.sample;
        volume = volume_legal c t _ w.volume;
        period = period_legal c t _ w.finetune w.period;
        offset = s.offset;
        stays = s.stays;
        plain = s.plain;
      }

-- What is known of a board that bytes are fed to (`Sound`): a byte keeps it so (`sound_byte`).
-- Assumes nothing.
use Rattle.std.specs.Prelude.{ℕ, ◌+◌, ◌≤◌, ◌<◌, ◌≡◌, Bool, ◌||◌, eqb, ltb, ℤ}
use Rattle.std.proofs.Math.Path.{refl, ap}
use Rattle.std.proofs.Common.{◌∙◌, eqb-true, ltb-true}
use Rattle.std.proofs.Math.Bool.{true, false}
use mathlib.Core.List.{List, [], ◌∷◌}
use native.Mathlib.Omega.{arith}
use Rattle.std.proofs.Math.ListN.{length, get_or}
use Rattle.common.specs.Limits.{width, least_tempo, greatest_tempo}
use Rattle.ticks.specs.declared.Command.{Command}
use Rattle.ticks.specs.declared.Tick.{Tick}
use Rattle.ticks.specs.Commands.{sounding_of}
use Rattle.ticks.specs.Legal.{length-sounding, get_or-sounding}
use Rattle.ticks.specs.Play.{Mechanism, after_all}
use Rattle.reader.specs.File.{Module, lent}
use Rattle.reader.specs.Layouts.{LegalLayout}
use Rattle.reader.specs.Judge.{verdict}
use Rattle.reader.specs.Accept.{accepted_has}
use Rattle.reader.specs.Samples.{extents_of}
use Rattle.reader.specs.declared.Extent.{Extent}
use Rattle.reader.specs.declared.Layout.{Layout}
use Rattle.voice.specs.Frames.{blank}
use Rattle.voice.specs.LegalFacts.{LegalVoices, Ready}
use Rattle.voice.specs.Modules.{samples_in, table_inside}
use Rattle.machine.specs.declared.Machine.{Machine}
use Rattle.machine.specs.Machine.{after}
use Rattle.machine.specs.Kept.{after_voices, after_below}
use Rattle.records.specs.Format.{read, read_record}
use Rattle.records.specs.Decoded.{GoodTick, record_legal}
use Rattle.arrival.specs.declared.Arrival.{Arrival}
use Rattle.arrival.specs.Arrive.{kept_bytes, bytes_of, taken, keep, Step, holds, plays, step}
use Rattle.arrival.specs.Cuts.{arrival_of, byte_arrival}
use Rattle.arrival.specs.Ready as arriving
use Rattle.arrival.specs.Feed.{Fed, fed, step_after}
use Rattle.feed.specs.Feed.{register_of, registers_of, kept_under, begun, left, after_under, under, takes, legal_remainder}
use Rattle.feed.specs.Registers.{registers_long, register_at, voices_unused, voices_holding}

-- the module is accepted, the voices and the remainder are legal, and without a fault the arrival's lengths are
pub record Sound (layout : Layout) (bytes : List ℕ) (extents : List Extent) (p : Arrival) (w : Machine) : Type 0 where
  pub lawful : LegalLayout layout
  pub judge : (verdict (lent layout bytes)).number ≡ 0
  pub table : extents ≡ extents_of (lent layout bytes)
  pub voices : LegalVoices layout extents w.voices
  pub rest : (w.remainder ≡ 0 → ⊥) → w.remainder < w.tempo
  pub long : length p.bytes ≡ kept_bytes
  pub ready : p.number ≡ 0 → arriving.Ready p

pub remainder_has : (w : Machine) → legal_remainder w ≡ true → (w.remainder ≡ 0 → ⊥) → w.remainder < w.tempo
unfolding legal_remainder
remainder_has w e n = go (eqb w.remainder 0) refl (ltb w.remainder w.tempo) refl e
  where
    go : (a : Bool) → eqb w.remainder 0 ≡ a → (b : Bool) → ltb w.remainder w.tempo ≡ b → a || b ≡ true → w.remainder < w.tempo
    go true x b y q = absurd (n (eqb-true w.remainder 0 x))
    go false x b y q = ltb-true w.remainder w.tempo (y ∙ q)

module _ (layout : Layout) (bytes : List ℕ) (extents : List Extent) (p : Arrival) (w : Machine) (g : Sound layout bytes extents p w) where
  abbrev m : Module
  m = lent layout bytes

  -- a record that is read after what the voices hold: its tick is legal, and the voices are ready for it
  module _ (s : List ℕ) (at : ℕ) (t : Tick) (n : ℕ) (q : read_record layout.samples layout.channels s at (registers_of w) ≡ read t n) where
    good : GoodTick layout.samples layout.channels (registers_of w) t
    good = record_legal layout.samples layout.channels s at (registers_of w) t n (voices_holding layout extents w g.voices) (voices_unused layout extents w g.voices) q

    pub tick_low : least_tempo ≤ t.tempo
    tick_low = good.legal.tempo.low

    pub tick_high : t.tempo ≤ greatest_tempo
    tick_high = good.legal.tempo.high

    pub tick_ready : (x : Machine) → x.voices ≡ w.voices → Ready m extents x.voices t.commands
    unfolding register_of
    tick_ready x e =
        rw e
        (record {
          inside = table_inside m g.lawful.samples extents g.table (accepted_has m g.judge);
          voices = g.voices;
          commands =
              λ i h.
              let k : i < width = omega (arith, g.lawful.channels) in
              let a : get_or (sounding_of (registers_of w)) i 0 ≡ (get_or w.voices i blank).sample = get_or-sounding (registers_of w) i ∙ ap (λ (c : Command). c.sample) (register_at w i k) in
              rw a at (good.legal.commands i (omega (arith, length-sounding (registers_of w), registers_long w)));
        })

    -- after it the voices are legal again, and the remainder
    begun_same : (b : Bool) → (begun b w).voices ≡ w.voices
    unfolding begun
    begun_same true = refl
    begun_same false = refl

    after_sound_lem : (version : ℕ) → LegalVoices layout extents (after_under layout.channels (samples_in m extents) version w t).voices
    unfolding after_under left
    after_sound_lem version = go (kept_under version)
      where
        go : (b : Bool) → LegalVoices layout extents (left b w (after b layout.channels (samples_in m extents) (begun b w) t)).voices
        go true = after_voices true m extents (begun true w) t g.lawful.channels (tick_ready (begun true w) (begun_same true))
        go false = after_voices false m extents (begun false w) t g.lawful.channels (tick_ready (begun false w) (begun_same false))

    after_rest : (version : ℕ) → ((after_under layout.channels (samples_in m extents) version w t).remainder ≡ 0 → ⊥) → (after_under layout.channels (samples_in m extents) version w t).remainder < (after_under layout.channels (samples_in m extents) version w t).tempo
    unfolding after_under left after
    after_rest version = go (kept_under version)
      where
        go : (b : Bool) → ((left b w (after b layout.channels (samples_in m extents) (begun b w) t)).remainder ≡ 0 → ⊥) → (left b w (after b layout.channels (samples_in m extents) (begun b w) t)).remainder < (left b w (after b layout.channels (samples_in m extents) (begun b w) t)).tempo
        go true h = after_below true layout.channels (samples_in m extents) (begun true w) t (omega (arith, tick_low))
        go false h = g.rest h

  -- a byte keeps it so
  module _ (b : ℕ) where
    abbrev did : Step
    did = step layout.samples layout.channels (registers_of w) p b

    -- the array of kept bytes stays as long
    next_long : length (arrival_of did).bytes ≡ kept_bytes
    next_long = arriving.step_long layout.samples layout.channels (registers_of w) p b ∙ g.long

    next_ready : (arrival_of did).number ≡ 0 → arriving.Ready (arrival_of did)
    next_ready e =
        let n : p.number ≡ 0 = arriving.step_before layout.samples layout.channels (registers_of w) p b e in
        arriving.step_ready layout.samples layout.channels g.lawful.channels (registers_of w) p b g.long (g.ready n) n e

    pub sound_byte : Sound layout bytes extents (step_after layout.samples layout.channels registers_of (under layout.channels (samples_in m extents)) (fed p w) did).arrival (step_after layout.samples layout.channels registers_of (under layout.channels (samples_in m extents)) (fed p w) did).machine
    unfolding step_after
    sound_byte = go did refl next_long next_ready
      where
        go : (x : Step) → did ≡ x → length (arrival_of x).bytes ≡ kept_bytes → ((arrival_of x).number ≡ 0 → arriving.Ready (arrival_of x))
            → Sound layout bytes extents (step_after layout.samples layout.channels registers_of (under layout.channels (samples_in m extents)) (fed p w) x).arrival (step_after layout.samples layout.channels registers_of (under layout.channels (samples_in m extents)) (fed p w) x).machine
        go (holds q) e l r = record { lawful = g.lawful; judge = g.judge; table = g.table; voices = g.voices; rest = g.rest; long = l; ready = r }
        go (plays t q) e l r =
            let x = arriving.plays_read layout.samples layout.channels (registers_of w) p b t q e in
            record {
              lawful = g.lawful;
              judge = g.judge;
              table = g.table;
              voices = after_sound_lem (bytes_of (keep p b)) 0 t x.next x.is p.version;
              rest = after_rest (bytes_of (keep p b)) 0 t x.next x.is p.version;
              long = l;
              ready = r;
            }

-- so do several
module _ (layout : Layout) (bytes : List ℕ) (extents : List Extent) where
  abbrev its : Mechanism ℤ (Fed Machine) ℕ
  its = takes layout.samples layout.channels (samples_in (lent layout bytes) extents)

  pub sound_all : (bs : List ℕ) (w : Fed Machine) → Sound layout bytes extents w.arrival w.machine → Sound layout bytes extents (after_all its w bs).arrival (after_all its w bs).machine
  unfolding after_all
  sound_all [] w g = g
  sound_all (b ∷ bs) w g = sound_all bs (its.after w b) (sound_byte layout bytes extents w.arrival w.machine g b)

  -- and none takes more than itself
  pub taken_most : (bs : List ℕ) (w : Fed Machine) → taken (after_all its w bs).arrival ≤ taken w.arrival + length bs
  unfolding after_all
  taken_most [] w = omega arith
  taken_most (b ∷ bs) w =
      let x = step layout.samples layout.channels (registers_of w.machine) w.arrival b in
      omega (
        arith,
        taken_most bs (its.after w b),
        ap taken (byte_arrival layout.samples layout.channels registers_of (under layout.channels (samples_in (lent layout bytes) extents)) w x),
        arriving.step_most layout.samples layout.channels (registers_of w.machine) w.arrival b,
      )

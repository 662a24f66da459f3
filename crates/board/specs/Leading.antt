-- The loop that leads a machine to a stream's tick, with the ticks before it passed by (`Leading`): what it leaves (`Led`), and why a part goes on where
-- another ends (`led_on`).
-- Assumes nothing.
use Rattle.std.specs.Prelude.{ℕ, ◌+◌, ◌-◌, ◌^◌, ◌≤◌, ◌<◌, ◌≡◌, refl, Bool, List, [], ◌∷◌, take}
use Rattle.std.proofs.Math.Path.{sym, ap}
use Rattle.std.proofs.Common.{◌∙◌, arith, take-add, drop-drop}
use Rattle.std.proofs.Math.ListN.{drop}
use Rattle.std.proofs.Math.Seq.{take-nil, drop-nil}
use Rattle.common.specs.Limits.{greatest_tempo}
use Rattle.ticks.specs.Commands.{sounding_of}
use Rattle.ticks.specs.declared.Command.{Command}
use Rattle.ticks.specs.Legal.{LegalTicks}
use Rattle.ticks.specs.declared.Tick.{Tick}
use Rattle.ticks.specs.Play.{after_all}
use Rattle.ticks.specs.PlayLaws.{after_append}
use Rattle.reader.specs.File.{Module as FileModule, sample_count, channel_count}
use Rattle.reader.specs.Modules.{as_module}
use Rattle.reader.specs.Samples.{Sample}
use Rattle.reader.specs.declared.module.Module.{Module}
use Rattle.voice.specs.Voice.{samples_of}
use Rattle.machine.specs.declared.Machine.{Machine}
use Rattle.machine.specs.Machine.{fresh_machine, after, mechanism}
use Rattle.records.specs.Format.{at_first, ticks, decode}
use Rattle.decoder.specs.declared.stream.Stream.{Stream}
use Rattle.decoder.specs.declared.stream.Ticks.{Ticks}
use Rattle.decoder.specs.Left.{ticks_left, left_of}
use Rattle.decoder.specs.Remaining.{whole_ticks, whole_legal}
use Rattle.decoder.specs.Whole.{ticks_in}
use Rattle.board.specs.Board.{led_to}
use Rattle.board.specs.Going.{Going, Sounds, going_begin, going_more}
use Rattle.board.specs.Reading.{Reading}

-- ---- parts of a play
module _ (keeping : Bool) (c : ℕ) (samples : ℕ → Sample) where
  -- where n ticks from tick `first` on end, tick first + n begins
  pub led_on : (first n : ℕ) (ts : List Tick) → led_to keeping c samples (first + n) ts ≡ after_all (mechanism keeping c samples) (led_to keeping c samples first ts) (take n (drop first ts))
  unfolding led_to
  led_on first n ts = ap (after_all (mechanism keeping c samples) fresh_machine) (take-add first n ts) ∙ after_append (mechanism keeping c samples) fresh_machine (take first ts) (take n (drop first ts))

  -- past the last tick nothing moves
  led_past : (first n : ℕ) (ts : List Tick) → n ≤ first → drop n ts ≡ [] → led_to keeping c samples first ts ≡ led_to keeping c samples n ts
  unfolding after_all
  led_past first n ts h e =
      let q : n + (first - n) ≡ first = omega arith in
      ap (λ (i : ℕ). led_to keeping c samples i ts) (sym q) ∙ led_on n (first - n) ts ∙ rw (e, take-nil {A = Tick} (first - n))

drop_past : (first n : ℕ) (ts : List Tick) → n ≤ first → drop n ts ≡ [] → drop first ts ≡ []
drop_past first n ts h e =
    let q : n + (first - n) ≡ first = omega arith in
    ap (λ (i : ℕ). drop i ts) (sym q) ∙ sym (drop-drop (first - n) n ts) ∙ rw (e, drop-nil {A = Tick} (first - n))

-- past the last tick nothing moves, and no tick is left
pub led_over : (keeping : Bool) (c : ℕ) (samples : ℕ → Sample) (i first : ℕ) (ts : List Tick) → i ≤ first → drop i ts ≡ [] → (led_to keeping c samples i ts ≡ led_to keeping c samples first ts) × (drop i ts ≡ drop first ts)
led_over keeping c samples i first ts h e = (sym (led_past keeping c samples first i ts h e), e ∙ sym (drop_past first i ts h e))

-- ---- the loop: i ticks are passed, and these are left
pub record Leading (m : Module) (keeping : Bool) (its : List Tick) (w : Machine) (ts : List Tick) (i : ℕ) : Type 0 where
  pub machine : w ≡ led_to keeping m.layout.channels (samples_of (as_module m)) i its
  pub left : ts ≡ drop i its
  pub going : Going m w ts

module _ {m : Module} {keeping : Bool} {its : List Tick} where
  pub leading_none : LegalTicks m.layout.samples (sounding_of at_first) its → Leading m keeping its fresh_machine its 0
  unfolding led_to after_all
  leading_none l = record { machine = refl; left = refl; going = going_begin m its l }

  module _ {w : Machine} {ts : List Tick} {i : ℕ} (g : Leading m keeping its w ts i) where
    pub leading_low : w.remainder ≤ greatest_tempo
    leading_low = omega (arith, g.going.below.0, g.going.below.1)

    pub leading_more : (t : Tick) (rest : List Tick) → ts ≡ t ∷ rest → Leading m keeping its (after keeping m.layout.channels (samples_of (as_module m)) w t) rest (i + 1)
    unfolding after_all after
    leading_more t rest e =
        let d : drop i its ≡ t ∷ rest = sym g.left ∙ e in
        record {
          machine =
              ap (λ (v : Machine). after keeping m.layout.channels (samples_of (as_module m)) v t) g.machine
              ∙ sym (led_on keeping m.layout.channels (samples_of (as_module m)) i 1 its ∙ ap (λ (us : List Tick). after_all (mechanism keeping m.layout.channels (samples_of (as_module m))) (led_to keeping m.layout.channels (samples_of (as_module m)) i its) (take 1 us)) d);
          left = sym (sym (drop-drop 1 i its) ∙ ap (drop 1) d);
          going = going_more g.going t rest e keeping;
        }

    -- no tick is left before `first` comes
    pub leading_over : (first : ℕ) → i ≤ first → ts ≡ [] → Leading m keeping its w ts first
    leading_over first h e =
        let o = led_over keeping m.layout.channels (samples_of (as_module m)) i first its h (sym g.left ∙ e) in
        record { machine = g.machine ∙ o.0; left = g.left ∙ o.1; going = g.going }

-- the ticks of a stream that is for the module are legal
pub led_legal : (m : Module) (s : Stream) → s.scope.last ≡ m.layout.samples → s.scope.channels ≡ m.layout.channels → LegalTicks m.layout.samples (sounding_of at_first) (ticks_in (decode m.layout.samples m.layout.channels s.header.bytes.now))
led_legal m s p q = rw (← p, ← q) (whole_legal s.scope.last s.scope.channels s.header.bytes.now s.whole)

-- ---- what the loop leaves: the machine before tick `first`, and so many records of the stream from a place on, after the registers that sound
pub record Led (m : FileModule) (s : List ℕ) (keeping : Bool) (first : ℕ) (w : Machine) (registers : List Command) (place left : ℕ) : Type 0 where
  pub its : List Tick
  pub is : decode (sample_count m) (channel_count m) s ≡ ticks its
  pub machine : w ≡ led_to keeping (channel_count m) (samples_of m) first its
  pub below : (w.remainder < w.tempo) × (w.tempo ≤ greatest_tempo)
  pub few : left < 2 ^ 32
  pub going : Reading m s left w.voices registers place 0 (drop first its)

pub leading_end : (m : Module) (s : Stream) → s.scope.last ≡ m.layout.samples → s.scope.channels ≡ m.layout.channels → (keeping : Bool) (w : Machine) (t : Ticks) (first : ℕ) → t.stream ≡ s
    → Leading m keeping (ticks_in (decode m.layout.samples m.layout.channels s.header.bytes.now)) w (ticks_left t) first → Sounds m w t.registers (ticks_left t) → Led (as_module m) s.header.bytes.now keeping first w t.registers t.next t.left
leading_end m s p q keeping w t first e g n =
    let d : t.left - 0 ≡ t.left = omega arith in
    record {
      its = ticks_in (decode m.layout.samples m.layout.channels s.header.bytes.now);
      is = whole_ticks m.layout.samples m.layout.channels s.header.bytes.now (rw (← p, ← q) s.whole);
      machine = g.machine;
      below = g.going.below;
      few = t.few;
      going =
          record {
            layout = m.legal;
            judge = m.judged;
            left = rw (d, ← g.left) (left_of t m.layout.samples m.layout.channels s.header.bytes.now (ap (λ (x : Stream). x.scope.last) e ∙ p) (ap (λ (x : Stream). x.scope.channels) e ∙ q) (ap (λ (x : Stream). x.header.bytes.now) e) n.legal);
            legal = g.going.voices;
            long = n.long;
            sounding = n.sounding;
          };
    }

-- Voices hold a tick's numbers as their registers: legal voices hold legal ones (`voices_holding`), and after a tick they hold its commands (`registers_keep`).
-- Assumes nothing.
use Rattle.std.specs.Prelude.{ℕ, ◌+◌, ◌-◌, ◌*◌, ◌≤◌, ◌<◌, ◌≡◌, Bool, eqb, length, drop}
use Rattle.std.proofs.Math.Path.{refl, ap}
use Rattle.std.proofs.Common.{sym, ◌∙◌, arith, length-take, length-drop, length-append, ext_get_or, get_or-drop, drop_at, ltb-true, ltb-false}
use Rattle.std.proofs.Math.Bool.{true, false}
use mathlib.Core.List.{List}
use Rattle.std.proofs.Math.Dec.{ltb}
use Rattle.std.proofs.Math.ListN.{get_or, get_or-eq_default}
use Rattle.laws.specs.Choice.{either}
use Rattle.laws.specs.Each.{length-each, get_or-each, get_or-first}
use Rattle.common.specs.Limits.{width}
use Rattle.ticks.specs.declared.Command.{Command}
use Rattle.ticks.specs.declared.Tick.{Tick}
use Rattle.ticks.specs.Commands.{nothing}
use Rattle.ticks.specs.Legal.{LegalCommand}
use Rattle.reader.specs.declared.Extent.{Extent}
use Rattle.reader.specs.declared.Layout.{Layout}
use Rattle.reader.specs.Samples.{Sample}
use Rattle.voice.specs.declared.Voice.{Voice}
use Rattle.voice.specs.Voice.{arrive_at, started, told_of}
use Rattle.voice.specs.Frames.{blank, sounding_at, voice_at, moved_at, moved}
use Rattle.voice.specs.Kept.{told_sample, told_volume, steps_sample, steps_volume, steps_period}
use Rattle.voice.specs.LegalFacts.{LegalVoices}
use Rattle.machine.specs.declared.Machine.{Machine}
use Rattle.machine.specs.Machine.{tick_length, after}
use Rattle.machine.specs.Kept.{after_rest}
use Rattle.records.specs.Format.{held, read, read_record}
use Rattle.records.specs.LegalLaws.{Unused}
use Rattle.records.specs.Registers.{Holding, nothing_legal}
use Rattle.records.specs.Prefixes.{Alike, record_commands}
use Rattle.feed.specs.Feed.{register_of, registers_of, kept_under, begun, left, after_under}

-- ---- one by one
pub registers_long : (w : Machine) → length (registers_of w) ≡ width
unfolding registers_of
registers_long w = length-each (λ i. register_of (get_or w.voices i blank)) width

pub register_at : (w : Machine) (i : ℕ) → i < width → get_or (registers_of w) i nothing ≡ register_of (get_or w.voices i blank)
unfolding registers_of
register_at w i h = get_or-each (λ j. register_of (get_or w.voices j blank)) width i nothing h

past : (w : Machine) (i : ℕ) → width ≤ i → get_or (registers_of w) i nothing ≡ nothing
past w i h = get_or-eq_default (registers_of w) nothing {n = i} (omega (arith, registers_long w))

-- ---- legal voices hold legal registers
module _ (l : Layout) (extents : List Extent) (w : Machine) (v : LegalVoices l extents w.voices) where
  pub voices_unused : Unused l.channels (registers_of w)
  unfolding register_of
  voices_unused i h = go (ltb i width) refl
    where
      go : (b : Bool) → ltb i width ≡ b → get_or (registers_of w) i nothing ≡ nothing
      go true e = rw (register_at w i (ltb-true i width e), v.rest i (ltb-true i width e) h)
      go false e = past w i (ltb-false i width e)

  pub voices_holding : Holding l.samples (registers_of w)
  unfolding register_of held
  voices_holding i = go (ltb i l.channels) refl (ltb i width) refl
    where
      go : (a : Bool) → ltb i l.channels ≡ a → (b : Bool) → ltb i width ≡ b → LegalCommand l.samples (get_or (registers_of w) i nothing).sample (held (get_or (registers_of w) i nothing))
      go true p true e =
          let h = v.used i (ltb-true i l.channels p) in
          rw (register_at w i (ltb-true i width e)) (record { sample = h.sample; volume = h.sound.volume; period = h.sound.period; offset = omega arith; stays = λ _. refl; plain = λ _. refl })
      go true p false e = rw (past w i (ltb-false i width e)) (nothing_legal l.samples)
      go false p b e = rw (voices_unused i (ltb-false i l.channels p)) (nothing_legal l.samples)

-- ---- after a tick
told_period : (s : Sample) (c : Command) (v : Voice) → (told_of s c v).period ≡ c.period
unfolding told_of started arrive_at
told_period s c v =
    either (λ (w : Voice). w.period ≡ c.period) c.start _ _
    (λ _. either (λ (w : Voice). w.period ≡ c.period) (eqb c.sample 0) _ _ (λ _. refl)
    (λ _. either (λ (w : Voice). w.period ≡ c.period) (ltb (256 * c.offset) s.end) _ _ (λ _. refl) (λ _. either (λ (w : Voice). w.period ≡ c.period) s.looped _ _ (λ _. refl) (λ _. refl))))
    (λ _. refl)

module _ (c : ℕ) (few : c ≤ width) (samples : ℕ → Sample) (vs : List Voice) (cs : List Command) (n i : ℕ) (h : i < c) where
  moved_register : register_of (get_or (moved c samples vs cs n) i blank) ≡ held (get_or cs i nothing)
  unfolding moved register_of held
  moved_register =
      let e = get_or-first (moved_at samples vs cs n) c (λ j. get_or vs j blank) width i blank few h in
      let s = sounding_at samples cs i in
      let v = voice_at samples vs cs i in
      rw (e, steps_sample s v n, steps_volume s v n, steps_period s v n, told_sample s (get_or cs i nothing) (get_or vs i blank), told_volume s (get_or cs i nothing) (get_or vs i blank), told_period s (get_or cs i nothing) (get_or vs i blank))

held_twice : (r : Command) → held (held r) ≡ held r
unfolding held
held_twice r = refl

module _ (c : ℕ) (few : c ≤ width) (samples : ℕ → Sample) (version : ℕ) (w : Machine) (t : Tick) where
  after_is : (after_under c samples version w t).voices ≡ (after (kept_under version) c samples (begun (kept_under version) w) t).voices
  unfolding after_under left
  after_is = go (kept_under version) _
    where
      go : (b : Bool) (x : Machine) → (left b w x).voices ≡ x.voices
      go true x = refl
      go false x = refl

  begun_voices : (b : Bool) → (begun b w).voices ≡ w.voices
  unfolding begun
  begun_voices true = refl
  begun_voices false = refl

  after_used : (i : ℕ) → i < c → get_or (registers_of (after_under c samples version w t)) i nothing ≡ held (get_or t.commands i nothing)
  unfolding after
  after_used i h =
      register_at (after_under c samples version w t) i (omega arith)
      ∙ ap (λ (vs : List Voice). register_of (get_or vs i blank)) after_is
      ∙ moved_register c few samples (begun (kept_under version) w).voices t.commands (tick_length (begun (kept_under version) w) t) i h

  after_others : (i : ℕ) → c ≤ i → get_or (registers_of (after_under c samples version w t)) i nothing ≡ get_or (registers_of w) i nothing
  after_others i h = go (ltb i width) refl
    where
      go : (b : Bool) → ltb i width ≡ b → get_or (registers_of (after_under c samples version w t)) i nothing ≡ get_or (registers_of w) i nothing
      go true e =
          let k = ltb-true i width e in
          register_at (after_under c samples version w t) i k
          ∙ ap (λ (vs : List Voice). register_of (get_or vs i blank)) after_is
          ∙ ap register_of (after_rest (kept_under version) c samples (begun (kept_under version) w) t i k h ∙ ap (λ (vs : List Voice). get_or vs i blank) (begun_voices (kept_under version)))
          ∙ sym (register_at w i k)
      go false e = past (after_under c samples version w t) i (ltb-false i width e) ∙ sym (past w i (ltb-false i width e))

  -- they hold the commands of the tick that was read after what they held
  pub registers_keep : (last : ℕ) (registers : List Command) (s : List ℕ) (at e : ℕ) → Alike c (registers_of w) registers → read_record last c s at registers ≡ read t e → Alike c (registers_of (after_under c samples version w t)) t.commands
  registers_keep last registers s at e a q =
      let x = record_commands last c s at registers t e q in
      let lr : length registers ≡ width = sym a.long ∙ registers_long w in
      let lf : length x.front ≡ c = omega (arith, x.long, length-take c registers) in
      let d : drop c t.commands ≡ drop c registers = ap (drop c) x.is ∙ drop_at x.front (drop c registers) c lf in
      let lt : length t.commands ≡ width = ap length x.is ∙ length-append x.front (drop c registers) ∙ omega (arith, length-drop c registers) in
      let same : drop c (registers_of (after_under c samples version w t)) ≡ drop c (registers_of w) =
      ext_get_or nothing (drop c (registers_of (after_under c samples version w t))) (drop c (registers_of w)) (length-drop c (registers_of (after_under c samples version w t)) ∙ rw (registers_long (after_under c samples version w t)) (sym (length-drop c (registers_of w) ∙ rw (registers_long w))))
      (λ i h. get_or-drop c (registers_of (after_under c samples version w t)) i nothing ∙ after_others (c + i) (omega arith) ∙ sym (get_or-drop c (registers_of w) i nothing)) in
      let rest : drop c (registers_of (after_under c samples version w t)) ≡ drop c t.commands = same ∙ a.rest ∙ sym d in
      record { long = registers_long (after_under c samples version w t) ∙ sym lt; each = λ i. one rest i (ltb i c) refl; rest = rest }
    where
      one : drop c (registers_of (after_under c samples version w t)) ≡ drop c t.commands → (i : ℕ) (b : Bool) → ltb i c ≡ b → held (get_or (registers_of (after_under c samples version w t)) i nothing) ≡ held (get_or t.commands i nothing)
      one r i true h = ap held (after_used i (ltb-true i c h)) ∙ held_twice (get_or t.commands i nothing)
      one r i false h =
          let k : i ≡ c + (i - c) = omega (arith, ltb-false i c h) in
          ap held (rw k (sym (get_or-drop c (registers_of (after_under c samples version w t)) (i - c) nothing) ∙ ap (λ (xs : List Command). get_or xs (i - c) nothing) r ∙ get_or-drop c t.commands (i - c) nothing))

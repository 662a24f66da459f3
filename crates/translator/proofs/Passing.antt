-- Laws of the passes through a module's ticks, in the form in which the code leaves its facts. Both passes stand at `Passing`: the records that are
-- passed, followed by those that are left, are all. The second stands at `Writing`, too: those that are passed stand at the front of the room.
-- Assumes nothing.
use Prim.Native.Nat.{ℕ, zero, suc, ◌+◌, ◌-◌, ◌≤◌, ◌<◌, ◌^◌}
use mathlib.Core.Path.{◌≡◌, refl, sym, ap, ◌∙◌}
use mathlib.Core.Bool.{true}
use mathlib.Core.List.{List, [], ◌++◌, append_assoc, append-nil}
use native.Mathlib.Omega.{arith}
use lib.ListN.{length, take, drop, length-append}
use mir.Syntax.{w64}
use mir.Val.{Fits}
use borrow.Rule.Slice.PartMut.{put_mid}
use Rattle.laws.specs.Lent.{tail_long}
use Rattle.common.specs.Limits.{width}
use Rattle.ticks.specs.declared.Command.{Command}
use Rattle.ticks.specs.declared.Tick.{Tick}
use Rattle.ticks.specs.Commands.{sounding_of}
use Rattle.ticks.specs.Legal.{length-sounding}
use Rattle.sequencer.specs.Legal.{legal_song}
use Rattle.sequencer.specs.LegalFacts.{LegalSounding, LegalRun, song_has, song_by_lem}
use Rattle.ticks.specs.Play.{over}
use Rattle.reader.specs.File.{Module, song_length, channel_count}
use Rattle.reader.specs.Modules.{as_module}
use Rattle.reader.specs.declared.module.Module.{Module as ReadModule}
use Rattle.reader.specs.Accept.{accepted_has}
use Rattle.sequencer.specs.declared.Song.{Song}
use Rattle.sequencer.specs.declared.Worked.{Worked}
use Rattle.sequencer.specs.Songs.{fresh_song, tick_of}
use Rattle.sequencer.specs.Runs.{ticks_from}
use Rattle.sequencer.specs.RunLaws.{run_tick, run_kept}
use Rattle.records.specs.Format.{records_place, at_first, record_bytes, records}
use Rattle.records.specs.LegalLaws.{tick_spellable, SpellableTick}
use Rattle.records.specs.Length.{written_length}
use Rattle.translator.specs.declared.pass.Pass.{Pass}
use Rattle.translator.specs.Translate.{fresh_ticks, stream_of}
use Rattle.translator.specs.Passes.{records_of, Translatable}
use Rattle.translator.specs.Streams.{first_sounding, first_run, stream_bound}
use Rattle.translator.proofs.Over.{over_rest}

-- ---- the records of so many ticks that are left
abbrev left_of : Module → Song → List Command → ℕ → List ℕ
left_of m s rs left = records (channel_count m) rs (ticks_from m left s (sounding_of rs))

left_all : (m : Module) (n : ℕ) → left_of m fresh_song at_first n ≡ records_of m n
left_all m n = rw first_sounding

left_none : (m : Module) (s : Song) (rs : List Command) (left : ℕ) → left ≤ 0 → left_of m s rs left ≡ []
unfolding ticks_from records
left_none m s rs left h = let z : left ≡ 0 = omega arith in rw z

-- the next tick's record is the first of them
left_more : (m : Module) (s : Song) (rs : List Command) (left : ℕ) (w : Worked) → 0 < left → w ≡ tick_of m s (sounding_of rs)
    → left_of m s rs left ≡ record_bytes (channel_count m) rs w.tick ++ left_of m w.song w.tick.commands (left - 1)
unfolding ticks_from records
left_more m s rs zero w h e = absurd (omega arith)
left_more m s rs (suc left) w h e = let z : suc left - 1 ≡ left = omega arith in rw (z, e)

-- ---- a module that was read is translated
translatable : (m : ReadModule) → Translatable (as_module m)
translatable m = record { layout = m.legal; judged = m.judged; bytes = m.bytes }

-- ---- what a pass goes by: the song is legal, and so are the samples that sound; each tick leaves both so
abbrev pub LegalOn : ReadModule → Song → Type 0
LegalOn m s = legal_song (song_length (as_module m)) m.layout s ≡ true

module _ (m : ReadModule) where
  pub first_song : (s : Song) → s ≡ fresh_song → LegalOn m s
  first_song s e = rw e (song_by_lem _ _ m.legal.channels _ (first_run (as_module m) (translatable m)).song)

  pub first_sounds : (rs : List Command) → rs ≡ at_first → LegalSounding (as_module m) (sounding_of rs)
  first_sounds rs e = rw e (first_run (as_module m) (translatable m)).sounding

  module _ (s : Song) (rs : List Command) (h : LegalOn m s) (k : LegalSounding (as_module m) (sounding_of rs)) where
    pub pass_run : LegalRun (as_module m) s (sounding_of rs)
    pass_run = record { song = song_has _ _ m.legal.channels s h; sounding = k }

    module _ (w : Worked) (e : w ≡ tick_of (as_module m) s (sounding_of rs)) where
      next_run : LegalRun (as_module m) w.song (sounding_of w.tick.commands)
      next_run = rw e (run_kept (as_module m) (accepted_has (as_module m) m.judged) m.bytes m.legal.channels s (sounding_of rs) pass_run)

      pub next_song : LegalOn m w.song
      next_song = song_by_lem _ _ m.legal.channels w.song next_run.song

      pub next_sounds : LegalSounding (as_module m) (sounding_of w.tick.commands)
      next_sounds = next_run.sounding

pub ruleset run_laws = (first_song, first_sounds)

-- ---- a pass through n ticks, i of which are passed; their records have len bytes
pub record Passing (m : ReadModule) (n : ℕ) (p : Pass) (len i : ℕ) : Type 0 where
  pub same : p.m.now ≡ m
  pub few : n < 2 ^ 32
  pub front : List ℕ
  pub long : len ≡ length front
  pub whole : front ++ left_of (as_module m) p.song p.registers (n - i) ≡ records_of (as_module m) n

-- p's next tick is t, and leaves q
pub record Steps (p q : Pass) (t : Tick) : Type 0 where
  pub same : q.m ≡ p.m
  pub song : q.song ≡ (tick_of (as_module p.m.now) p.song (sounding_of p.registers)).song
  pub tick : t ≡ (tick_of (as_module p.m.now) p.song (sounding_of p.registers)).tick
  pub registers : q.registers ≡ t.commands

module _ (m : ReadModule) (n : ℕ) (p : Pass) where
  abbrev the : Module
  the = as_module m

  abbrev ticked : Worked
  ticked = tick_of (as_module m) p.song (sounding_of p.registers)

  pub pass_none : n < 2 ^ 32 → p.m.now ≡ m → p.song ≡ fresh_song → p.registers ≡ at_first → Passing m n p 0 0
  pass_none h q e f = let z : n - 0 ≡ n = omega arith in record { same = q; few = h; front = []; long = refl; whole = rw (z, e, f) (left_all (as_module m) n) }

  module _ (len i : ℕ) (w : Passing m n p len i) where
    parts : len + length (left_of the p.song p.registers (n - i)) ≡ length (records_of the n)
    parts = omega (arith, w.long, ap length w.whole, length-append w.front (left_of the p.song p.registers (n - i)))

    most_bytes : records_place + length (records_of the n) < 2 ^ 64
    most_bytes = omega (arith, w.few, stream_bound the width n m.legal.channels, written_length (channel_count the) at_first (fresh_ticks the n))

    -- none are left
    pub pass_all : n ≤ i → len ≡ length (records_of (as_module m) n)
    pass_all h = omega (arith, parts, ap length (left_none the p.song p.registers (n - i) (omega arith)))

    -- with the header they are the stream
    pub pass_stream : n ≤ i → records_place + len ≡ length (stream_of (as_module m) n)
    pass_stream h = omega (arith, pass_all h, written_length (channel_count the) at_first (fresh_ticks the n))

    pub pass_fits : Fits w64 (records_place + len)
    pass_fits = record { fits = omega (arith, parts, most_bytes) }

    run : LegalRun the p.song (sounding_of p.registers)
    run = pass_run m p.song p.registers (rw w.same at p.legal) (rw w.same at p.sounds)

    -- the next tick, and what it leaves
    module _ (q : Pass) (t : Tick) (e : Steps p q t) where
      song_is : q.song ≡ ticked.song
      song_is = e.song ∙ ap (λ (x : ReadModule). (tick_of (as_module x) p.song (sounding_of p.registers)).song) w.same

      tick_is : t ≡ ticked.tick
      tick_is = e.tick ∙ ap (λ (x : ReadModule). (tick_of (as_module x) p.song (sounding_of p.registers)).tick) w.same

      pub pass_spellable : SpellableTick m.layout.channels t
      pass_spellable =
          rw tick_is
          (tick_spellable m.layout.samples m.layout.channels (sounding_of p.registers) _ (omega (arith, m.legal.samples)) (omega (arith, m.legal.channels, run.sounding.long))
          (run_tick the (accepted_has the m.judged) m.bytes m.legal.channels p.song (sounding_of p.registers) run))

      module _ (h : i < n) where
        next_left : left_of the p.song p.registers (n - i) ≡ record_bytes m.layout.channels p.registers t ++ left_of the q.song t.commands (n - (i + 1))
        next_left =
            let z : n - i - 1 ≡ n - (i + 1) = omega arith in
            rw z at (left_more the p.song p.registers (n - i) (record { song = q.song; tick = t }) (omega arith) (rw (song_is, tick_is)))

        next_parts : len + length (record_bytes m.layout.channels p.registers t) ≤ length (records_of the n)
        next_parts =
            let b = record_bytes m.layout.channels p.registers t in
            let rest = left_of the q.song t.commands (n - (i + 1)) in
            omega (arith, parts, ap length next_left, length-append b rest)

        module _ (l : ℕ) (k : l ≡ length (record_bytes m.layout.channels p.registers t)) where
          pub pass_next : Fits w64 (len + l)
          pass_next = record { fits = omega (arith, next_parts, most_bytes) }

          pub pass_more : Passing m n q (len + l) (i + 1)
          pass_more =
              let b = record_bytes m.layout.channels p.registers t in
              record {
                same = rw e.same w.same;
                few = w.few;
                front = w.front ++ b;
                long = omega (arith, w.long, length-append w.front b);
                whole = append_assoc w.front b _ ∙ ap (λ (xs : List ℕ). w.front ++ xs) (rw e.registers (sym next_left)) ∙ w.whole;
              }

-- ---- and the records so far are written
pub record Writing (m : ReadModule) (n : ℕ) (room₀ room : List ℕ) (p : Pass) (len i : ℕ) : Type 0 where
  pub pass : Passing m n p len i
  pub cells : room ≡ over pass.front room₀
  pub same : length room ≡ length room₀
  pub fits : length (records_of (as_module m) n) ≤ length room₀

module _ (m : ReadModule) (n : ℕ) (room₀ room : List ℕ) (p : Pass) where
  pub writing_none : n < 2 ^ 32 → length (records_of (as_module m) n) ≤ length room₀ → room ≡ room₀ → p.m.now ≡ m → p.song ≡ fresh_song → p.registers ≡ at_first → Writing m n room₀ room p 0 0
  unfolding pass_none
  writing_none h l o q e f = rw o (record { pass = pass_none m n p h q e f; cells = refl; same = refl; fits = l })

  module _ (len i : ℕ) (c : Writing m n room₀ room p len i) where
    pub writing_all : n ≤ i → room ≡ over (records_of (as_module m) n) room₀
    writing_all h =
        let f = c.pass.front in
        let e : f ≡ records_of (as_module m) n = sym (append-nil f) ∙ ap (λ (xs : List ℕ). f ++ xs) (sym (left_none (as_module m) p.song p.registers (n - i) (omega arith))) ∙ c.pass.whole in
        rw (← e) c.cells

    pub writing_long : n ≤ i → len ≡ length (records_of (as_module m) n)
    writing_long h = pass_all m n p len i c.pass h

    -- the place of the next record lies in the room
    pub writing_inside : len ≤ length room
    writing_inside = omega (arith, parts m n p len i c.pass, c.same, c.fits)

    module _ (q : Pass) (t : Tick) (e : Steps p q t) where
      pub writing_spellable : SpellableTick m.layout.channels t
      writing_spellable = pass_spellable m n p len i c.pass q t e

      module _ (h : i < n) where
        -- and it fits there
        pub writing_fits : length (record_bytes m.layout.channels p.registers t) ≤ length (take (length room - len) (drop len room))
        writing_fits = omega (arith, next_parts m n p len i c.pass q t e h, c.same, c.fits, tail_long len room)

        module _ (l : ℕ) (k : l ≡ length (record_bytes m.layout.channels p.registers t)) where
          pub writing_next : Fits w64 (len + l)
          writing_next = pass_next m n p len i c.pass q t e h l k

          pub writing_more : (part : List ℕ) → part ≡ over (record_bytes m.layout.channels p.registers t) (take (length room - len) (drop len room))
              → length (put_mid len (length room - len) room part) ≡ length room → Writing m n room₀ (put_mid len (length room - len) room part) q (len + l) (i + 1)
          unfolding pass_more
          writing_more part o j =
              let b = record_bytes m.layout.channels p.registers t in
              record {
                pass = pass_more m n p len i c.pass q t e h l k;
                cells = rw (c.pass.long, c.cells) (over_rest c.pass.front b room₀ part (rw (c.pass.long, c.cells) at o));
                same = j ∙ c.same;
                fits = c.fits;
              }

-- ---- the record of p's next tick is for few channels, and has as many commands as there is room for
pub pass_long : (p q : Pass) (t : Tick) → Steps p q t → (length p.registers ≡ width) × (length t.commands ≡ width)
pass_long p q t e = (sym (length-sounding p.registers) ∙ p.sounds.long, ap length (sym e.registers) ∙ sym (length-sounding q.registers) ∙ q.sounds.long)

pub ruleset pass_laws = (pass_none, pass_stream, pass_fits, pass_next, pass_more, pass_long)

pub ruleset writing_laws = (writing_none, writing_all, writing_long, writing_inside, writing_spellable, writing_fits, writing_next, writing_more, pass_long)

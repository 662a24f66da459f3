-- Every call keeps a legal state legal (`play_keeps`, `touch_keeps`, `page_keeps`), a refusal changes nothing, and on an accepted module with a legal state a play is accepted.
-- Assumes nothing.
use Rattle.std.specs.Prelude.{◌≡◌, ℕ, zero, suc, ◌<◌, true, List, length, ℤ, ◌≢◌}
use Rattle.std.proofs.Math.Path.{refl, subst}
use Rattle.std.proofs.Common.{arith, ltb-true, lt-ltb}
use Rattle.std.proofs.lemmas.Bool.{not-false}
use Rattle.laws.specs.Every.{all_at, all_by, Each}
use Rattle.common.specs.Answers.{refused, accepted, Outcome, refusing}
use Rattle.common.specs.ByteLaws.{Bytes}
use Rattle.common.specs.Limits.{width}
use Rattle.ticks.specs.declared.Tick.{Tick}
use Rattle.ticks.specs.Play.{Mechanism, after_all}
use Rattle.reader.specs.File.{Module, module_of, channel_count, song_length}
use Rattle.reader.specs.Judge.{verdict}
use Rattle.common.specs.AnswerLaws.{refusing_has, refused_keeps}
use Rattle.reader.specs.Layouts.{LegalLayout, module_legal}
use Rattle.sequencer.specs.LegalFacts.{LegalSong, song_has, song_by_lem}
use Rattle.reader.specs.declared.Layout.{Layout}
use Rattle.sequencer.specs.declared.Song.{Song}
use Rattle.sequencer.specs.Songs.{tick_of}
use Rattle.sequencer.specs.Runs.{ticks_from, song_after}
use Rattle.sequencer.specs.RunLaws.{tick_tempo, sounding_after}
use Rattle.sequencer.specs.NextKept.{row_begins, position_begins}
use Rattle.voice.specs.declared.Voice.{Voice}
use Rattle.voice.specs.Voice.{samples_of}
use Rattle.player.specs.declared.State.{State}
use Rattle.player.specs.declared.Reply.{Reply}
use Rattle.player.specs.State.{legal_state, reply}
use Rattle.player.specs.Play.{soundings, machine_of, count_of, played_from, play_of}
use Rattle.player.specs.Touch.{page_changed, with_song, change_page_of, touched_at, touch_lines, touch_of}
use Rattle.player.specs.Legal.{LegalVoiced, LegalState, state_has, state_by}
use Rattle.player.specs.Kept.{tick_is_legal, tick_kept, after_soundings}
use Rattle.player.specs.Counts.{ticked, played_state}
use Rattle.machine.specs.declared.Machine.{Machine}
use Rattle.machine.specs.Machine.{mechanism_of}
use Rattle.machine.specs.Kept.{after_below}
use Rattle.machine.specs.Carries.{Carries, carries}

-- ---- a refusal changes nothing
module _ (bytes : List ℕ) (s : State) where
  -- a refused play leaves the state as it stood
  pub play_refused_state : (n : ℕ) (out : List ℤ) → ((play_of bytes s n out).reply.answer.number ≢ 0) → (play_of bytes s n out).reply.state ≡ s
  unfolding play_of played_from
  play_refused_state n out = refused_keeps (λ (o : Outcome Reply ℤ). o.reply.answer.number) (λ (o : Outcome Reply ℤ). o.reply.state) s _ _ _ refl (λ number place. refl)

  -- and the buffer
  pub play_refused_out : (n : ℕ) (out : List ℤ) → ((play_of bytes s n out).reply.answer.number ≢ 0) → (play_of bytes s n out).out ≡ out
  unfolding play_of played_from
  play_refused_out n out = refused_keeps (λ (o : Outcome Reply ℤ). o.reply.answer.number) (λ (o : Outcome Reply ℤ). o.out) out _ _ _ refl (λ number place. refl)

  -- a refused touch leaves the state as it stood
  pub touch_refused : (page made position : ℕ) → ((touch_of bytes s page made position).answer.number ≢ 0) → (touch_of bytes s page made position).state ≡ s
  unfolding touch_of
  touch_refused page made position = refused_keeps (λ (r : Reply). r.answer.number) (λ (r : Reply). r.state) s _ _ _ refl (λ number place. refl)

  -- and so does a refused page change
  pub page_refused : ((change_page_of bytes s).answer.number ≢ 0) → (change_page_of bytes s).state ≡ s
  unfolding change_page_of
  page_refused = refused_keeps (λ (r : Reply). r.answer.number) (λ (r : Reply). r.state) s _ _ _ refl (λ number place. refl)

-- ---- an accepted module and a legal state
module _ (bytes : List ℕ) (e : (verdict (module_of bytes)).number ≡ 0) (s : State) (l : legal_state (module_of bytes) s ≡ true) where
  -- a play is accepted
  pub play_accepted : (n : ℕ) (out : List ℤ) → play_of bytes s n out ≡ played_from (module_of bytes) s n out
  unfolding play_of refusing
  play_accepted n out = rw (e, l)

  -- and a touch is decided by its own lines
  pub touch_judged : (page made position : ℕ) → touch_of bytes s page made position ≡ refusing (λ number place. reply (refused number place) s) (reply (accepted 0) (with_song s (touched_at s.song position))) (touch_lines (song_length (module_of bytes)) s.song.desk page made position)
  unfolding touch_of refusing
  touch_judged page made position = rw (e, l)

-- ---- ticks keep song and voices legal, on any machine that carries the voices
module _ {A W : Type 0} (k : Mechanism A W Tick) (voices_of : W → List Voice) (m : Module) (h : Carries k voices_of m) (y : LegalLayout m.layout) (e : (verdict m).number ≡ 0) (b : Bytes m.bytes) where
  ticks_kept : (j : ℕ) (song : Song) (w : W) → LegalVoiced m song (voices_of w) → LegalVoiced m (song_after m j song (soundings (voices_of w))) (voices_of (after_all k w (ticks_from m j song (soundings (voices_of w)))))
  unfolding song_after after_all ticks_from
  ticks_kept zero song w l = l
  ticks_kept (suc j) song w l =
      let t = tick_of m song (soundings (voices_of w)) in
      subst (λ (sounding : List ℕ). LegalVoiced m (song_after m j t.song sounding) (voices_of (after_all k (k.after w t.tick) (ticks_from m j t.song sounding))))
      (after_soundings k voices_of m h y e b song w l) (ticks_kept j t.song (k.after w t.tick) (tick_kept k voices_of m h y e b song w l))

  -- the samples that sound after them are the sequencer's
  pub ticks_soundings : (j : ℕ) (song : Song) (w : W) → LegalVoiced m song (voices_of w) → soundings (voices_of (after_all k w (ticks_from m j song (soundings (voices_of w))))) ≡ sounding_after m j song (soundings (voices_of w))
  unfolding sounding_after after_all ticks_from
  ticks_soundings zero song w l = refl
  ticks_soundings (suc j) song w l =
      let t = tick_of m song (soundings (voices_of w)) in
      subst (λ (sounding : List ℕ). soundings (voices_of (after_all k (k.after w t.tick) (ticks_from m j t.song sounding))) ≡ sounding_after m j t.song sounding)
      (after_soundings k voices_of m h y e b song w l) (ticks_soundings j t.song (k.after w t.tick) (tick_kept k voices_of m h y e b song w l))

-- ---- ticks keep the remainder below the tempo
module _ (m : Module) (y : LegalLayout m.layout) (e : (verdict m).number ≡ 0) (b : Bytes m.bytes) where
  ticks_below : (j : ℕ) (song : Song) (w : Machine) → LegalVoiced m song w.voices → w.remainder < song.time.tempo → (after_all (mechanism_of m) w (ticks_from m j song (soundings w.voices))).remainder < (song_after m j song (soundings w.voices)).time.tempo
  unfolding song_after after_all ticks_from
  ticks_below zero song w l below = below
  ticks_below (suc j) song w l below =
      let t = tick_of m song (soundings w.voices) in
      let next = (mechanism_of m).after w t.tick in
      let h = carries true m y in
      let tempo : 0 < t.tick.tempo = omega (arith, (tick_is_legal m y e b song w.voices l).tempo.low) in
      subst (λ (sounding : List ℕ). (after_all (mechanism_of m) next (ticks_from m j t.song sounding)).remainder < (song_after m j t.song sounding).time.tempo)
      (after_soundings (mechanism_of m) (λ x. x.voices) m h y e b song w l)
      (ticks_below j t.song next (tick_kept (mechanism_of m) (λ x. x.voices) m h y e b song w l) (rw (tick_tempo m song (soundings w.voices)) (after_below true (channel_count m) (samples_of m) w t.tick tempo)))

  -- the state after any number of ticks is legal
  pub ticked_legal : (s : State) → LegalState m s → (j : ℕ) → LegalState m (ticked m j s)
  ticked_legal s l j =
      record {
        voiced = ticks_kept (mechanism_of m) (λ w. w.voices) m (carries true m y) y e b j s.song (machine_of s) l.voiced;
        remainder = ticks_below j s.song (machine_of s) l.voiced l.remainder;
      }

-- ---- touches and page changes keep it
touched_legal : (positions : ℕ) (layout : Layout) (s : Song) (position : ℕ) → LegalSong positions layout s → position < positions → LegalSong positions layout (touched_at s position)
unfolding touched_at
touched_legal positions layout s position l h = record { course = position_begins positions position h; time = row_begins s.time l.time; channels = l.channels; rest = l.rest }

page_legal : (positions : ℕ) (layout : Layout) (s : Song) → LegalSong positions layout s → LegalSong positions layout (page_changed s)
unfolding page_changed
page_legal positions layout s l = record { course = l.course; time = l.time; channels = l.channels; rest = l.rest }

touched_below : (s : Song) (position remainder : ℕ) → remainder < s.time.tempo → remainder < (touched_at s position).time.tempo
unfolding touched_at
touched_below s position remainder h = h

page_below : (s : Song) (remainder : ℕ) → remainder < s.time.tempo → remainder < (page_changed s).time.tempo
unfolding page_changed
page_below s remainder h = h

-- a touch keeps a state legal, however many voices it has
pub touched_keeps : (bytes : List ℕ) (s : State) → legal_state (module_of bytes) s ≡ true → (page made position : ℕ) → legal_state (module_of bytes) (touch_of bytes s page made position).state ≡ true
unfolding touch_of legal_state Each
touched_keeps bytes s l page made position =
    let m = module_of bytes in
    let y = (module_legal bytes).channels in
    let h = all_at _ l in
    refusing_has (λ (r : Reply). legal_state m r.state ≡ true) _ _ _ (λ number place. l)
    (λ p.
    all_by _
    (song_by_lem (song_length m) m.layout y _ (touched_legal (song_length m) m.layout s.song position (song_has (song_length m) m.layout y s.song (h 0)) (ltb-true position (song_length m) (not-false _ (p 4)))), (h 1, (lt-ltb _ _ (touched_below s.song position s.remainder (ltb-true _ _ (h 2))), tt))))

-- ---- every call
module _ (bytes : List ℕ) (e : (verdict (module_of bytes)).number ≡ 0) (b : Bytes bytes) (s : State) (long : length s.voices ≡ width) (l : legal_state (module_of bytes) s ≡ true) where
  abbrev m : Module
  m = module_of bytes

  facts : LegalState m s
  facts = state_has m (module_legal bytes) s long l

  play_legal : (n : ℕ) (out : List ℤ) → LegalState m (play_of bytes s n out).reply.state
  unfolding play_of
  play_legal n out =
      refusing_has (λ (o : Outcome Reply ℤ). LegalState m o.reply.state) _ _ _ (λ number place. facts)
      (λ p. rw (played_state m n s out) (ticked_legal m (module_legal bytes) e b s facts (count_of m n s out)))

  -- refusal 18 is the fifth of the touch's lines
  touch_legal : (page made position : ℕ) → LegalState m (touch_of bytes s page made position).state
  unfolding touch_of
  touch_legal page made position =
      refusing_has (λ (r : Reply). LegalState m r.state) _ _ _ (λ number place. facts)
      (λ p.
      record {
        voiced =
            record {
              song = touched_legal (song_length m) m.layout s.song position facts.voiced.song (ltb-true position (song_length m) (not-false _ (p 4)));
              voices = facts.voiced.voices;
            };
        remainder = touched_below s.song position s.remainder facts.remainder;
      })

  page_change_legal : LegalState m (change_page_of bytes s).state
  unfolding change_page_of
  page_change_legal =
      refusing_has (λ (r : Reply). LegalState m r.state) _ _ _ (λ number place. facts)
      (λ p.
      record {
        voiced = record { song = page_legal (song_length m) m.layout s.song facts.voiced.song; voices = facts.voiced.voices };
        remainder = page_below s.song s.remainder facts.remainder;
      })

  -- a play keeps a state legal, whether it is accepted or refused
  pub play_keeps : (n : ℕ) (out : List ℤ) → legal_state m (play_of bytes s n out).reply.state ≡ true
  play_keeps n out = state_by m (module_legal bytes) _ (play_legal n out)

  -- so does a touch
  pub touch_keeps : (page made position : ℕ) → legal_state m (touch_of bytes s page made position).state ≡ true
  touch_keeps page made position = state_by m (module_legal bytes) _ (touch_legal page made position)

  -- and a page change
  pub page_keeps : legal_state m (change_page_of bytes s).state ≡ true
  page_keeps = state_by m (module_legal bytes) _ page_change_legal

  -- each of them leaves as many voices as it was given
  pub play_long : (n : ℕ) (out : List ℤ) → length (play_of bytes s n out).reply.state.voices ≡ width
  play_long n out = (play_legal n out).voiced.voices.long

  pub touch_long : (page made position : ℕ) → length (touch_of bytes s page made position).state.voices ≡ width
  touch_long page made position = (touch_legal page made position).voiced.voices.long

  pub page_long : length (change_page_of bytes s).state.voices ≡ width
  page_long = page_change_legal.voiced.voices.long

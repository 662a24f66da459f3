-- Tick lengths and frames follow from the stream's bytes and the samples with their lengths and loops alone, never from patterns or table (`same_samples`, `same_accepted`).
-- Assumes nothing.
use Prim.Native.Nat.{ℕ, zero, suc, ◌-◌, ◌≤◌}
use Rattle.std.specs.Prelude.{◌≡◌, Bool, leb, ℤ, take, drop}
use Rattle.std.proofs.Math.Path.{refl, ap, ap₂}
use Rattle.std.proofs.Common.{sym, ◌∙◌, arith}
use Rattle.std.proofs.Math.Bool.{cond}
use mathlib.Core.List.{List, [], ◌∷◌, ◌++◌}
use Rattle.std.proofs.Math.ListN.{length}
use Rattle.common.specs.Answers.{accepted, outcome, refusing}
use Rattle.common.specs.Limits.{width}
use Rattle.ticks.specs.declared.Tick.{Tick}
use Rattle.ticks.specs.Commands.{sounding_of}
use Rattle.ticks.specs.Legal.{LegalTick, LegalTicks, length-sounding}
use Rattle.ticks.specs.Legal.LegalTicks.{none, more}
use Rattle.ticks.specs.Play.{over, Mechanism, fit, after_all, rendered, play_out}
use Rattle.reader.specs.File.{module_of, sample_count, channel_count}
use Rattle.reader.specs.Layouts.{module_legal}
use Rattle.reader.specs.Judge.{verdict}
use Rattle.reader.specs.Samples.{Sample, extents_of}
use Rattle.reader.specs.Extents.{sample_of}
use Rattle.voice.specs.Voice.{samples_of}
use Rattle.voice.specs.Modules.{sample_is}
use Rattle.machine.specs.declared.Machine.{Machine}
use Rattle.machine.specs.Machine.{fresh_machine, mechanism}
use Rattle.machine.specs.Kept.{frames_same, after_same}
use Rattle.records.specs.Format.{keeps, at_first, Decoded, refusal, ticks, decode}
use Rattle.records.specs.Registers.{first_long}
use Rattle.records.specs.Decoded.{stream_of_lem}
use Rattle.decoder.specs.Remaining.{Good}
use Rattle.board.specs.Board.{led_to, played_ticks, played_by, board_of, play_stream_from_of}

-- ---- two machines that play legal ticks alike, of any kind of frames
pub record Alike {A W : Type 0} (last : ℕ) (k k' : Mechanism A W Tick) : Type 0 where
  pub frames : (w : W) (soundings : List ℕ) → length soundings ≡ width → (t : Tick) → LegalTick last soundings t → k.frames w t ≡ k'.frames w t
  pub after : (w : W) (soundings : List ℕ) → length soundings ≡ width → (t : Tick) → LegalTick last soundings t → k.after w t ≡ k'.after w t

module _ {A W : Type 0} {last : ℕ} {k k' : Mechanism A W Tick} (alike : Alike last k k') where
  next_long : (soundings : List ℕ) → length soundings ≡ width → (t : Tick) → LegalTick last soundings t → length (sounding_of t.commands) ≡ width
  next_long soundings long t l = length-sounding t.commands ∙ (l.long ∙ long)

  pub fit_same : (room : ℕ) (w : W) (soundings : List ℕ) → length soundings ≡ width → (ts : List Tick) → LegalTicks last soundings ts → fit k room w ts ≡ fit k' room w ts
  unfolding fit
  fit_same room w soundings long [] l = refl
  fit_same room w soundings long (t ∷ ts) (more l ls) =
      let n = length (k'.frames w t) in
      rw (alike.frames w soundings long t l, alike.after w soundings long t l)
      (ap (λ (i : ℕ). cond (leb n room) (suc i) 0) (fit_same (room - n) (k'.after w t) (sounding_of t.commands) (next_long soundings long t l) ts ls))

  pub rendered_same : (w : W) (soundings : List ℕ) → length soundings ≡ width → (ts : List Tick) (n : ℕ) → LegalTicks last soundings ts → rendered k w (take n ts) ≡ rendered k' w (take n ts)
  unfolding rendered
  rendered_same w soundings long ts zero l = refl
  rendered_same w soundings long [] (suc n) l = refl
  rendered_same w soundings long (t ∷ ts) (suc n) (more l ls) =
      ap₂ ◌++◌ (alike.frames w soundings long t l)
      (ap (λ (x : W). rendered k x (take n ts)) (alike.after w soundings long t l) ∙ rendered_same (k'.after w t) (sounding_of t.commands) (next_long soundings long t l) ts n ls)

  pub after_alike : (w : W) (soundings : List ℕ) → length soundings ≡ width → (ts : List Tick) (n : ℕ) → LegalTicks last soundings ts → after_all k w (take n ts) ≡ after_all k' w (take n ts)
  unfolding after_all
  after_alike w soundings long ts zero l = refl
  after_alike w soundings long [] (suc n) l = refl
  after_alike w soundings long (t ∷ ts) (suc n) (more l ls) =
      ap (λ (x : W). after_all k x (take n ts)) (alike.after w soundings long t l) ∙ after_alike (k'.after w t) (sounding_of t.commands) (next_long soundings long t l) ts n ls

-- ---- the ticks from one on are legal after the commands before them
pub record Onward (last : ℕ) (ts : List Tick) : Type 0 where
  pub soundings : List ℕ
  pub long : length soundings ≡ width
  pub legal : LegalTicks last soundings ts

pub legal_onward : (last n : ℕ) (soundings : List ℕ) → length soundings ≡ width → (ts : List Tick) → LegalTicks last soundings ts → Onward last (drop n ts)
legal_onward last zero soundings long ts l = record { soundings = soundings; long = long; legal = l }
legal_onward last (suc n) soundings long [] l = record { soundings = soundings; long = long; legal = l }
legal_onward last (suc n) soundings long (t ∷ ts) (more l ls) = legal_onward last n (sounding_of t.commands) (length-sounding t.commands ∙ (l.long ∙ long)) ts ls

-- and those up to one are legal
pub legal_take : (last n : ℕ) (soundings : List ℕ) (ts : List Tick) → LegalTicks last soundings ts → LegalTicks last soundings (take n ts)
legal_take last zero soundings ts l = none
legal_take last (suc n) soundings [] l = none
legal_take last (suc n) soundings (t ∷ ts) (more l ls) = more l (legal_take last n (sounding_of t.commands) ts ls)

-- ---- samples that are equal by their numbers, up to the last
module _ (keeping : Bool) (last c : ℕ) (room : c ≤ width) (samples others : ℕ → Sample) (same : (k : ℕ) → k ≤ last → samples k ≡ others k) where
  -- the commands of a legal tick name samples to the last
  pub samples_alike : Alike last (mechanism keeping c samples) (mechanism keeping c others)
  samples_alike =
      record {
        frames = λ w soundings long t l. frames_same c samples others w t (λ i h. same _ (l.commands i (omega arith)).sample);
        after = λ w soundings long t l. after_same c samples others w t (λ i h. same _ (l.commands i (omega arith)).sample) keeping;
      }

  abbrev k : Mechanism ℤ Machine Tick
  k = mechanism keeping c samples

  abbrev k' : Mechanism ℤ Machine Tick
  k' = mechanism keeping c others

  pub led_same : (soundings : List ℕ) → length soundings ≡ width → (first : ℕ) (ts : List Tick) → LegalTicks last soundings ts → led_to keeping c samples first ts ≡ led_to keeping c others first ts
  unfolding led_to
  led_same soundings long first ts l = after_alike samples_alike fresh_machine soundings long ts first l

  played_same : (soundings : List ℕ) → length soundings ≡ width → (first : ℕ) (ts : List Tick) (out : List ℤ) → LegalTicks last soundings ts → played_ticks keeping c samples first ts out ≡ played_ticks keeping c others first ts out
  unfolding played_ticks play_out
  played_same soundings long first ts out l =
      rw (led_same soundings long first ts l)
      (ap₂ (λ (n : ℕ) (xs : List ℤ). outcome (accepted n) (over xs out)) f
      (rendered_same samples_alike w d.soundings d.long (drop first ts) (fit k (length out) w (drop first ts)) d.legal ∙ ap (λ (n : ℕ). rendered k' w (take n (drop first ts))) f))
    where
      w : Machine
      w = led_to keeping c others first ts

      d : Onward last (drop first ts)
      d = legal_onward last first soundings long ts l

      f : fit k (length out) w (drop first ts) ≡ fit k' (length out) w (drop first ts)
      f = fit_same samples_alike (length out) w d.soundings d.long (drop first ts) d.legal

module _ (last c : ℕ) (room : c ≤ width) (samples others : ℕ → Sample) (same : (k : ℕ) → k ≤ last → samples k ≡ others k) where
  board_same : (first : ℕ) (stream : List ℕ) (out : List ℤ) → board_of last c samples first stream out ≡ board_of last c others first stream out
  unfolding played_by
  board_same first stream out = go (decode last c stream) refl
    where
      go : (d : Decoded) → decode last c stream ≡ d → played_by (keeps stream) c samples first d out ≡ played_by (keeps stream) c others first d out
      go (refusal number place) e = refl
      go (ticks ts) e = played_same (keeps stream) last c room samples others same (sounding_of at_first) (length-sounding at_first ∙ first_long) first ts out (stream_of_lem last c stream ts e).legal

-- a stream that is accepted is for one number of channels
pub one_count : (last c last' c' : ℕ) (stream : List ℕ) (ts ts' : List Tick) → decode last c stream ≡ ticks ts → decode last' c' stream ≡ ticks ts' → c ≡ c'
one_count last c last' c' stream ts ts' e e' = sym (stream_of_lem last c stream ts e).channels ∙ (stream_of_lem last' c' stream ts' e').channels

-- two accepted files of as many channels with equal samples give equal frames, and equal answers, for every stream, tick to begin with and output
pub same_samples : (bytes bytes' : List ℕ) → (verdict (module_of bytes)).number ≡ 0 → (verdict (module_of bytes')).number ≡ 0
    → channel_count (module_of bytes) ≡ channel_count (module_of bytes')
    → ((k : ℕ) → k ≤ sample_count (module_of bytes) → sample_of (module_of bytes) k ≡ sample_of (module_of bytes') k)
    → (stream : List ℕ) (first : ℕ) (out : List ℤ) → play_stream_from_of bytes stream first out ≡ play_stream_from_of bytes' stream first out
unfolding play_stream_from_of refusing
same_samples bytes bytes' e e' count same stream first out =
    let m = module_of bytes in
    let m' = module_of bytes' in
    rw (e, e')
    (board_same (sample_count m) (channel_count m) (module_legal bytes).channels (samples_of m) (samples_of m')
    (λ k h. sample_is m (module_legal bytes).samples (extents_of m) refl k h ∙ (same k h ∙ sym (sample_is m' (module_legal bytes').samples (extents_of m') refl k h)))
    first stream out
    ∙ ap (λ (c : ℕ). board_of (sample_count m) c (samples_of m') first stream out) count)

-- a stream that both accept gives equal frames with equal samples: as many channels they have then
pub same_accepted : (bytes bytes' stream : List ℕ) → (verdict (module_of bytes)).number ≡ 0 → (verdict (module_of bytes')).number ≡ 0
    → Good (sample_count (module_of bytes)) (channel_count (module_of bytes)) stream → Good (sample_count (module_of bytes')) (channel_count (module_of bytes')) stream
    → ((k : ℕ) → k ≤ sample_count (module_of bytes) → sample_of (module_of bytes) k ≡ sample_of (module_of bytes') k)
    → (first : ℕ) (out : List ℤ) → play_stream_from_of bytes stream first out ≡ play_stream_from_of bytes' stream first out
same_accepted bytes bytes' stream e e' g g' same first out =
    same_samples bytes bytes' e e' (one_count _ _ _ _ stream g.its g'.its g.is g'.is) same stream first out

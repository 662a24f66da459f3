-- What a call answers whose file and state were admitted, or refused: its own lines and its work, or the refusal.
-- Assumes nothing.
use Rattle.std.proofs.Common.{◌≡◌, ℕ, ◌-◌, ◌<◌, ◌≤◌, List, ℤ, sym, ap, ◌∙◌, refl, subst, get_or}
use Rattle.common.specs.Answers.{Line, Outcome, refused, accepted, outcome, refusing, number_of, refusal}
use Rattle.common.specs.declared.Answer.{Answer}
use Rattle.common.specs.RefusalLaws.{refused_by_a_rule}
use Rattle.common.specs.declared.refusals.Refusal.{Refusal}
use Rattle.reader.specs.File.{Module, lent, layout_of, module_of, song_length}
use Rattle.reader.specs.Modules.{as_module}
use Rattle.reader.specs.declared.Layout.{Layout}
use Rattle.reader.specs.declared.module.Module.{Module as ReadModule}
use Rattle.voice.specs.declared.quiet.Cause.{Cause}
use Rattle.voice.specs.Frames.{blank}
use Rattle.player.specs.declared.State.{State}
use Rattle.player.specs.Quiet.{Refused, Because, voice_cause, why_quiet_of}
use Rattle.player.specs.declared.Reply.{Reply}
use Rattle.player.specs.State.{state_lines, reply}
use Rattle.player.specs.Play.{played_from, play_of}
use Rattle.player.specs.Touch.{touch_of}
use Rattle.player.specs.Touching.{touch_from, burst_from}
use Rattle.player.specs.Burst.{Burst, burst_of}
use Rattle.player.specs.Legal.{Judged, Playable}
use Rattle.player.specs.Judging.{refused_state, passed_state}
use Rattle.player.proofs.Bursts.{touch_passed, burst_passed}
use Rattle.player.proofs.Causes.{known_sample, why_none, why_past, why_because}
use Rattle.player.proofs.Verdicts.{play_accepted}

module _ (bytes : List ℕ) (s : State) {A : Type 0} (refuse : ℕ → ℕ → A) (work : A) (more : List Line) where
  pub not_admitted : (e : Refusal) → Judged (module_of bytes) s (refusal e) → (x : A) → x ≡ refuse (number_of e.rule) e.place → x ≡ refusing refuse work (state_lines (module_of bytes) s more)
  not_admitted e j x q = q ∙ refused_state (layout_of bytes) bytes s (refusal e) j refl refuse work more (refused_by_a_rule e.rule)

  pub is_admitted : Judged (module_of bytes) s (accepted 0) → (x : A) → x ≡ refusing refuse work more → x ≡ refusing refuse work (state_lines (module_of bytes) s more)
  is_admitted j x q = passed_state (layout_of bytes) bytes s (accepted 0) j refl refuse work more refl x q

-- ---- by the module that was read
module _ (bytes : List ℕ) (s : State) (j : Judged (module_of bytes) s (accepted 0)) (m : ReadModule) (own : as_module m ≡ module_of bytes) where
  positions_read : m.positions ≡ song_length (module_of bytes)
  positions_read = m.long ∙ ap song_length own

  pub touch_admitted : (page made position : ℕ) (r : Reply) → r ≡ touch_from m.positions s page made position → r ≡ touch_of bytes s page made position
  touch_admitted = touch_passed (layout_of bytes) bytes s (accepted 0) j refl refl m.positions positions_read

  pub burst_admitted : (b : Burst) (answers : List ℕ) (r : Reply) (after : List ℕ) → outcome r after ≡ burst_from m.positions s b answers → outcome r after ≡ burst_of bytes s b answers
  burst_admitted b answers r = burst_passed (layout_of bytes) bytes s (accepted 0) j refl b answers r refl m.positions positions_read

  pub admitted_playable : Playable (as_module m) (record { song = s.song; voices = s.voices; remainder = s.remainder })
  admitted_playable = subst (λ (x : Module). Playable x (record { song = s.song; voices = s.voices; remainder = s.remainder })) (sym own) (j.playable refl)

  pub play_admitted : (n : ℕ) (out : List ℤ) (r : Reply) (out' : List ℤ) → outcome r out' ≡ played_from (as_module m) (record { song = s.song; voices = s.voices; remainder = s.remainder }) n out → outcome (reply (accepted r.answer.count) r.state) out' ≡ play_of bytes s n out
  unfolding played_from
  play_admitted n out r out' e =
      let q : r ≡ reply (accepted r.answer.count) r.state = rw (ap (λ (o : Outcome Reply ℤ). o.reply) e) in
      play_accepted (layout_of bytes) bytes s (accepted 0) j refl n out (reply (accepted r.answer.count) r.state) out' refl
      (ap (λ (x : Reply). outcome x out') (sym q) ∙ e ∙ ap (λ (x : Module). played_from x (record { song = s.song; voices = s.voices; remainder = s.remainder }) n out) own)

  -- ---- why a channel is quiet
  layout_read : m.layout ≡ layout_of bytes
  layout_read = ap (λ (x : Module). x.layout) own

  judged_here : Judged (lent m.layout bytes) s (accepted 0)
  judged_here = subst (λ (l : Layout). Judged (lent l bytes) s (accepted 0)) (sym layout_read) j

  pub known_voice : (i : ℕ) → i < m.layout.channels → (get_or s.voices i blank).sample ≤ m.layout.samples
  known_voice = known_sample m.layout bytes s (accepted 0) judged_here refl m.legal

  module _ (channel : ℕ) where
    pub channel_0 : channel ≡ 0 → (a : Answer) → a ≡ refused 25 0 → Refused a ≡ why_quiet_of bytes s channel
    channel_0 = why_none m.layout bytes s channel (accepted 0) judged_here layout_read refl

    pub channel_past : (channel ≡ 0 → ⊥) → m.layout.channels ≤ channel - 1 → (a : Answer) → a ≡ refused 25 0 → Refused a ≡ why_quiet_of bytes s channel
    channel_past = why_past m.layout bytes s channel (accepted 0) judged_here layout_read refl

    pub channel_quiet : (channel ≡ 0 → ⊥) → channel - 1 < m.layout.channels → (c : Cause) → c ≡ voice_cause (as_module m) (get_or s.voices (channel - 1) blank) → Because c ≡ why_quiet_of bytes s channel
    channel_quiet n h c e = why_because m.layout bytes s channel (accepted 0) judged_here layout_read refl n h c (e ∙ ap (λ (xs : List ℕ). voice_cause (lent m.layout xs) (get_or s.voices (channel - 1) blank)) (ap (λ (x : Module). x.bytes) own))

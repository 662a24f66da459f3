-- Why a channel is quiet: a voice's own sample in the file, and the answer by the tests that led to it. Laws over plain variables.
-- Assumes nothing.
use Rattle.std.proofs.Common.{◌≡◌, ℕ, ◌-◌, ◌<◌, ◌≤◌, List, [], ◌∷◌, length, get_or, take, drop, ap, ◌∙◌, arith, lt-ltb, le-leb}
use borrow.Author.Tests.{lt-leb}
use Rattle.laws.specs.Every.{all_at}
use Rattle.common.specs.Answers.{refused, refusing}
use Rattle.common.specs.declared.Answer.{Answer}
use Rattle.reader.specs.File.{lent, layout_of, module_of, channel_count}
use Rattle.reader.specs.Judge.{verdict}
use Rattle.reader.specs.Accept.{Inside, accepted_has}
use Rattle.reader.specs.Layouts.{LegalLayout}
use Rattle.reader.specs.Samples.{no_extent, extents_of}
use Rattle.reader.specs.declared.Extent.{Extent}
use Rattle.reader.specs.declared.Layout.{Layout}
use Rattle.voice.specs.declared.quiet.Cause.{Cause}
use Rattle.voice.specs.declared.Voice.{Voice}
use Rattle.voice.specs.Frames.{blank}
use Rattle.voice.specs.LegalFacts.{used_has}
use Rattle.voice.specs.Modules.{table_inside}
use Rattle.voice.specs.Quiet.{cause_of}
use Rattle.player.specs.declared.State.{State}
use Rattle.player.specs.State.{legal_state}
use Rattle.player.specs.Legal.{Judged}
use Rattle.player.specs.Quiet.{Why, Refused, Because, voice_cause, channel_line, why_quiet_of}
use Rattle.player.specs.Judging.{refused_state, passed_state}

-- ---- a sample's part of the file
module _ (layout : Layout) (bytes : List ℕ) (y : LegalLayout layout) (j : (verdict (lent layout bytes)).number ≡ 0) (extents : List Extent) (e : extents ≡ extents_of (lent layout bytes)) (k : ℕ) (h : k ≤ layout.samples) where
  inside : Inside (lent layout bytes) (get_or extents k no_extent)
  inside = table_inside (lent layout bytes) y.samples extents e (accepted_has (lent layout bytes) j) k h

  pub part_order : (get_or extents k no_extent).from ≤ (get_or extents k no_extent).to
  part_order = inside.order

  pub part_within : (get_or extents k no_extent).to ≤ length bytes
  part_within = inside.within

pub cause_is : (layout : Layout) (bytes : List ℕ) (extents : List Extent) (v : Voice) (r : Cause) → extents ≡ extents_of (lent layout bytes) → r ≡ cause_of (take ((get_or extents v.sample no_extent).to - (get_or extents v.sample no_extent).from) (drop (get_or extents v.sample no_extent).from bytes)) v → r ≡ voice_cause (lent layout bytes) v
cause_is layout bytes extents v r e q = rw (← e) q

pub known_sample : (layout : Layout) (bytes : List ℕ) (s : State) (v : Answer) → Judged (lent layout bytes) s v → v.number ≡ 0 → LegalLayout layout → (i : ℕ) → i < layout.channels → (get_or s.voices i blank).sample ≤ layout.samples
unfolding legal_state
known_sample layout bytes s v j z y i h = (used_has layout (extents_of (lent layout bytes)) s.voices y.channels (all_at _ (j.playable z).legal 1) i h).sample

-- ---- the call
module _ (layout : Layout) (bytes : List ℕ) (s : State) (channel : ℕ) (v : Answer) (j : Judged (lent layout bytes) s v) (le : layout ≡ layout_of bytes) where
  refuse : ℕ → ℕ → Why
  refuse number place = Refused (refused number place)

  work : Why
  work = Because (voice_cause (module_of bytes) (get_or s.voices (channel - 1) blank))

  pub why_refused : (v.number ≡ 0 → ⊥) → (a : Answer) → a ≡ refused v.number v.place → Refused a ≡ why_quiet_of bytes s channel
  unfolding why_quiet_of refuse work
  why_refused h a e = ap Refused e ∙ refused_state layout bytes s v j le refuse work (channel_line (module_of bytes) channel ∷ []) h

  module _ (z : v.number ≡ 0) where
    passed : (x : Why) → x ≡ refusing refuse work (channel_line (module_of bytes) channel ∷ []) → x ≡ why_quiet_of bytes s channel
    unfolding why_quiet_of refuse work
    passed x e = passed_state layout bytes s v j le refuse work (channel_line (module_of bytes) channel ∷ []) z x e

    pub why_none : channel ≡ 0 → (a : Answer) → a ≡ refused 25 0 → Refused a ≡ why_quiet_of bytes s channel
    unfolding refusing refuse work
    why_none h a e = passed (Refused a) (rw h (ap Refused e))

    module _ (some : channel ≡ 0 → ⊥) where
      pub why_past : layout.channels ≤ channel - 1 → (a : Answer) → a ≡ refused 25 0 → Refused a ≡ why_quiet_of bytes s channel
      unfolding refusing refuse work
      why_past h a e = passed (Refused a) (let q : channel_count (module_of bytes) ≤ channel - 1 = rw le at h in rw (lt-ltb 0 channel (omega arith), lt-leb channel (channel_count (module_of bytes)) (omega arith)) (ap Refused e))

      pub why_because : channel - 1 < layout.channels → (c : Cause) → c ≡ voice_cause (lent layout bytes) (get_or s.voices (channel - 1) blank) → Because c ≡ why_quiet_of bytes s channel
      unfolding refusing refuse work
      why_because h c e = passed (Because c) (let q : channel - 1 < channel_count (module_of bytes) = rw le at h in rw (lt-ltb 0 channel (omega arith), le-leb channel (channel_count (module_of bytes)) (omega arith)) (ap Because (rw le at e)))

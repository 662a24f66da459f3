-- A tick: its voices told their commands, its frames mixed piece by piece, and the tick with no voice that sounds.
-- Assumes nothing.
use mathlib.Core.Path.{◌≡◌, sym, ap, ap₂, subst, ◌∙◌}
use mathlib.Core.Bool.{true}
use mathlib.Core.List.{List, [], ◌++◌}
use Prim.Native.Nat.{ℕ, ◌+◌, ◌*◌, ◌≤◌, ◌<◌}
use native.Mathlib.Nat.{add-zero}
use lib.ListN.{length, get_or, drop, replicate}
use lib.IntN.{ℤ, pos, ◌*ℤ◌}
use Rattle.laws.specs.Ranges.{every, within}
use Rattle.laws.specs.Every.{every_at}
use Rattle.laws.specs.Each.{Filled}
use Rattle.common.specs.Limits.{width}
use Rattle.runs.specs.Cells.{Woven}
use Rattle.ticks.specs.declared.Command.{Command}
use Rattle.ticks.specs.Commands.{nothing}
use Rattle.reader.specs.declared.Extent.{Extent}
use Rattle.reader.specs.declared.Layout.{Layout}
use Rattle.reader.specs.Layouts.{LegalLayout}
use Rattle.reader.specs.File.{lent}
use Rattle.reader.specs.Samples.{Sample, no_extent}
use Rattle.voice.specs.declared.Voice.{Voice}
use Rattle.voice.specs.Voice.{silent_of, told_of}
use Rattle.voice.specs.Modules.{sample_with, samples_in}
use Rattle.voice.specs.Frames.{steps_of, gives_at, sum_of, scale_of, frame_numbers, frames_from, blank, sounding_at, voice_at, heard, moved_at, mixed, moved}
use Rattle.voice.specs.LegalFacts.{Ready}
use Rattle.voice.specs.Kept.{silent_steps, silent_gives, told_bytes}
use Rattle.voice.specs.Moved.{sound_at_lem, frames_from_lem}
use Rattle.voice.specs.Range.{LegalSides, sides_legal}
use Rattle.mixing.specs.Sides.{cut_of, Voiced, extent_at, voice_in, Sounding, given_by, side_at, later_at, later_of, mark_at, told_at, silent_at}
use Rattle.mixing.proofs.Sums.{both_sides, none_frames}
use Rattle.mixing.proofs.Voices.{within_by, within_long, within_is, within_rest, within_again}

module _ (l : Layout) (file : List ℕ) (extents : List Extent) (vs : List Voice) (cs : List Command) (layout : LegalLayout l) (ready : Ready (lent l file) extents vs cs) where
  abbrev c : ℕ
  c = l.channels

  abbrev samples : ℕ → Sample
  samples = samples_in (lent l file) extents

  channels_few : c ≤ width
  channels_few = layout.channels

  pub scale_legal : (times : ℕ) → times ≡ scale_of c → LegalSides c times
  scale_legal times e = rw e (sides_legal c channels_few)

  module _ (marks : List Extent) (told : List Voice) (f : Filled (mark_at extents cs) no_extent width marks c) (t : told ≡ within (told_at marks vs cs) blank c width vs) where
    cut_is : (i : ℕ) → i < c → cut_of file (extent_at marks i) ≡ sounding_at samples cs i
    cut_is i h = ap (cut_of file) (f.done i h)

    told_is : (i : ℕ) → i < c → voice_in told i ≡ voice_at samples vs cs i
    unfolding told_at
    told_is i h =
        within_is (told_at marks vs cs) c vs told t channels_few i h
        ∙ ap (λ x. told_of (sample_with [] x) (get_or cs i nothing) (voice_in vs i)) (f.done i h)
        ∙ told_bytes (sounding_at samples cs i).bytes (mark_at extents cs i) (voice_in vs i) (get_or cs i nothing)

    pub told_sounding : Sounding file marks told c
    told_sounding = record { few = channels_few; at = voiced }
      where
        voiced : (i : ℕ) → i < c → Voiced file (extent_at marks i) (voice_in told i)
        voiced i h =
            let x = ready.inside (get_or cs i nothing).sample (ready.commands i h).sample in
            rw (f.done i h, told_is i h) (record { order = x.order; inside = x.within; whole = x.whole; loop = x.loop; legal = sound_at_lem (lent l file) extents vs cs ready i h })

    given_is : (k i : ℕ) → i < c → given_by file marks told k i ≡ heard samples vs cs k i
    unfolding given_by
    given_is k i h = ap₂ (λ s v. gives_at s v k) (cut_is i h) (told_is i h)

    -- the frames mixed piece by piece
    module _ (n : ℕ) where
      pub pieces_moved : (r : List Voice) → r ≡ later_of file marks told n c → r ≡ moved c samples vs cs n
      unfolding moved later_of
      pieces_moved r q =
          within_again (later_at file marks told n) (told_at marks vs cs) (moved_at samples vs cs n) c vs told r channels_few t (λ i h. ap₂ (λ s v. steps_of s n v) (cut_is i h) (told_is i h)) q

      pub pieces_mixed : (times : ℕ) (old new : List ℤ) → times ≡ scale_of c → frame_numbers * n ≤ length old → Woven (side_at file marks told times 0 c) (side_at file marks told times 1 c) 0 n old new → new ≡ mixed c samples vs cs n ++ drop (frame_numbers * n) old
      unfolding mixed side_at
      pieces_mixed times old new scale room m =
          both_sides times (given_by file marks told) c _ _ n 0 (λ j. at j 0) (λ j. at j 1) old new room m
          ∙ ap (λ xs. xs ++ drop (frame_numbers * n) old) (frames_from_lem times (given_by file marks told) (heard samples vs cs) c given_is 0 n ∙ ap (λ s. frames_from s (heard samples vs cs) c 0 n) scale)
        where
          at : (j side : ℕ) → side_at file marks told times side c j ≡ sum_of (given_by file marks told (j + 0)) side c *ℤ pos times
          at j side = ap (λ i. sum_of (given_by file marks told i) side c *ℤ pos times) (sym (add-zero j))

    -- no voice sounds
    module _ (quiet : every (silent_at told) c ≡ true) where
      silent_is : (i : ℕ) → i < c → silent_of (voice_at samples vs cs i) ≡ true
      silent_is i h = subst (λ v. silent_of v ≡ true) (told_is i h) (every_at (silent_at told) i c quiet h)

      pub silent_moved : (n : ℕ) → told ≡ moved c samples vs cs n
      unfolding moved
      silent_moved n = within_by (moved_at samples vs cs n) c vs told (within_long (told_at marks vs cs) c vs told t) (λ i h. told_is i h ∙ sym (silent_steps (sounding_at samples cs i) n (voice_at samples vs cs i) (silent_is i h))) (within_rest (told_at marks vs cs) c vs told t)

      pub silent_mixed : (n : ℕ) (old new : List ℤ) → new ≡ replicate (frame_numbers * n) (pos 0) ++ drop (frame_numbers * n) old → new ≡ mixed c samples vs cs n ++ drop (frame_numbers * n) old
      unfolding mixed
      silent_mixed n old new z =
          z ∙ ap (λ xs. xs ++ drop (frame_numbers * n) old) (sym (none_frames (scale_of c) (heard samples vs cs) c (λ k i h. silent_gives (sounding_at samples cs i) (voice_at samples vs cs i) (silent_is i h) k) 0 n))

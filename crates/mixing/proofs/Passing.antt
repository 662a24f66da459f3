-- Voices that are told their commands and then passed by.
-- Assumes nothing.
use mathlib.Core.Path.{◌≡◌, ap₂, ◌∙◌}
use mathlib.Core.List.{List, []}
use Prim.Native.Nat.{ℕ, ◌+◌, ◌<◌}
use native.Mathlib.Nat.{le_refl}
use lib.ListN.{get_or, set}
use Rattle.laws.specs.Each.{Parting, part_again}
use Rattle.common.specs.Limits.{width}
use Rattle.ticks.specs.declared.Command.{Command}
use Rattle.ticks.specs.Commands.{nothing}
use Rattle.reader.specs.declared.Extent.{Extent}
use Rattle.reader.specs.declared.Layout.{Layout}
use Rattle.reader.specs.Layouts.{LegalLayout}
use Rattle.reader.specs.File.{lent}
use Rattle.reader.specs.Samples.{Sample}
use Rattle.voice.specs.declared.Voice.{Voice}
use Rattle.voice.specs.Voice.{told_of}
use Rattle.voice.specs.Modules.{sample_with, samples_in}
use Rattle.voice.specs.Frames.{steps_of, blank, sounding_at, voice_at, moved_at}
use Rattle.voice.specs.LegalFacts.{LegalSound, Ready}
use Rattle.voice.specs.Kept.{told_bytes, steps_bytes}
use Rattle.voice.specs.Moved.{sound_at_lem}
use Rattle.mixing.specs.Sides.{voice_in, mark_at}

module _ (l : Layout) (file : List ℕ) (extents : List Extent) (vs : List Voice) (cs : List Command) (layout : LegalLayout l) (ready : Ready (lent l file) extents vs cs) (n : ℕ) (w : List Voice) (i : ℕ) where
  abbrev samples : ℕ → Sample
  samples = samples_in (lent l file) extents

  -- the channels before i are told and so many frames on, and channel i comes
  module _ (m : Parting (moved_at samples vs cs n) (voice_in vs) blank width w i) (h : i < l.channels) (x : Extent) (y : x ≡ mark_at extents cs i) (t : Voice) (q : t ≡ told_of (sample_with [] x) (get_or cs i nothing) (voice_in w i)) where
    -- its voice is still as it was, and a sample's bytes do not count
    told_is : t ≡ voice_at samples vs cs i
    told_is =
        q ∙ ap₂ (λ z. told_of (sample_with [] z) (get_or cs i nothing)) y (m.rest i (le_refl i))
        ∙ told_bytes (sounding_at samples cs i).bytes (mark_at extents cs i) (voice_in vs i) (get_or cs i nothing)

    pub passing_legal : LegalSound x.end t
    passing_legal = rw (y, told_is) (sound_at_lem (lent l file) extents vs cs ready i h)

    pub passing_more : (v : Voice) → v ≡ steps_of (sample_with [] x) n t → Parting (moved_at samples vs cs n) (voice_in vs) blank width (set w i v) (i + 1)
    passing_more v e =
        part_again _ blank width w (voice_in vs) i l.channels v m h layout.channels
        (e ∙ ap₂ (λ z. steps_of (sample_with [] z) n) y told_is ∙ steps_bytes (sounding_at samples cs i).bytes (mark_at extents cs i) (voice_at samples vs cs i) n)

-- Whether voices are legal, as the functions ask it: the fresh voice field by field, and the voices of a module by both parts of their list. Assumes nothing.
use mathlib.Core.Bool.{beq}
use Rattle.std.proofs.Common.{◌≡◌, refl, sym, subst, ◌∙◌, ℕ, ◌+◌, ◌-◌, ◌≤◌, ◌<◌, Bool, true, false, ◌&&◌, ltb, List, length, take, drop, slice_index_or, arith, ltb-true, ltb-false, lt-ltb, le-ltb}
use Rattle.std.proofs.lemmas.List.{length-take-le, length-drop, get_or-take, get_or-drop}
use Rattle.std.specs.Prelude.{◌==◌, MatchBool}
use Rattle.std.specs.List.{AllWithin, HoldsAt}
use Rattle.laws.specs.Every.{every_at, every_by}
use Rattle.laws.specs.Ranges.{all, all_from, every}
use Rattle.common.specs.Limits.{width}
use Rattle.reader.specs.declared.Extent.{Extent}
use Rattle.reader.specs.declared.Layout.{Layout}
use Rattle.voice.specs.declared.Voice.{Voice}
use Rattle.voice.specs.Frames.{blank}
use Rattle.voice.specs.Legal.{voice_end, legal_voice, is_fresh_voice, legal_used_voice, legal_voice_at, legal_voices}

-- ---- the fresh voice
-- a voice's fields lie in another order than the definition asks
joined : (a b c d e f : Bool) → a && (b && (c && (d && (e && f)))) ≡ (((((a && c) && b) && d) && e) && f)
joined false b c d e f = refl
joined true false false d e f = refl
joined true false true d e f = refl
joined true true false d e f = refl
joined true true true false e f = refl
joined true true true true e f = refl

is_true : (b : Bool) → beq b true ≡ b
is_true false = refl
is_true true = refl

pub fresh_by_fields : (v : Voice) (r : Bool) → r ≡ (v.sample == 0 && (v.volume == 0 && (v.period == 0 && (v.index == 0 && (v.fraction == 0 && beq v.stopped true))))) → r ≡ is_fresh_voice v
unfolding is_fresh_voice all all_from
fresh_by_fields v r e = rw is_true at e ∙ joined (v.sample == 0) (v.volume == 0) (v.period == 0) (v.index == 0) (v.fraction == 0) v.stopped

-- ---- the voices of a module: those of its channels, and the rest
module _ (l : Layout) (extents : List Extent) (vs : List Voice) (long : length vs ≡ width) (room : l.channels ≤ width) where
  abbrev used : Voice → Bool
  used v = legal_voice l.samples (voice_end extents v) v

  used_at : (i : ℕ) → i < l.channels → legal_voice_at l extents vs i ≡ used (slice_index_or vs i blank)
  unfolding legal_used_voice
  used_at i h = rw (lt-ltb i l.channels h)

  rest_at : (i : ℕ) → l.channels ≤ i → legal_voice_at l extents vs i ≡ is_fresh_voice (slice_index_or vs i blank)
  unfolding legal_used_voice
  rest_at i h = rw (le-ltb i l.channels h)

  bad_at : (i : ℕ) → i < width → legal_voice_at l extents vs i ≡ false → false ≡ legal_voices l extents vs
  unfolding legal_voices
  bad_at i h e = go (every (legal_voice_at l extents vs) width) refl
    where
      go : (t : Bool) → every (legal_voice_at l extents vs) width ≡ t → false ≡ t
      go true q = sym e ∙ every_at (legal_voice_at l extents vs) i width q h
      go false q = refl

  pub used_bad : (k : ℕ) × (k < length (take l.channels vs)) × HoldsAt (λ v. used v ≡ false) (take l.channels vs) k → false ≡ legal_voices l extents vs
  used_bad m =
      let few : m.0 < l.channels = rw (length-take-le l.channels vs (omega arith)) at m.1 in
      bad_at m.0 (omega arith) (used_at m.0 few ∙ subst (λ v. used v ≡ false) (get_or-take l.channels vs m.0 blank few) (m.2 blank))

  pub rest_says : (r : Bool) → AllWithin (λ v. used v ≡ true) (take l.channels vs) 0 (length (take l.channels vs)) → MatchBool r (AllWithin (λ v. is_fresh_voice v ≡ true) (drop l.channels vs) 0 (length (drop l.channels vs))) ((k : ℕ) × (k < length (drop l.channels vs)) × HoldsAt (λ v. is_fresh_voice v ≡ false) (drop l.channels vs) k) → r ≡ legal_voices l extents vs
  unfolding legal_voices
  rest_says true a m = sym (every_by (legal_voice_at l extents vs) width (λ i w. go i w (ltb i l.channels) refl))
    where
      go : (i : ℕ) → i < width → (t : Bool) → ltb i l.channels ≡ t → legal_voice_at l extents vs i ≡ true
      go i w true t =
          let h : i < l.channels = ltb-true i l.channels t in
          used_at i h ∙ subst (λ v. used v ≡ true) (get_or-take l.channels vs i blank h) (a i blank (omega arith) (rw (length-take-le l.channels vs (omega arith)) h))
      go i w false t =
          let h : l.channels ≤ i = ltb-false i l.channels t in
          let e : l.channels + (i - l.channels) ≡ i = omega arith in
          rest_at i h ∙ subst (λ k. is_fresh_voice (slice_index_or vs k blank) ≡ true) e (subst (λ v. is_fresh_voice v ≡ true) (get_or-drop l.channels vs (i - l.channels) blank) (m (i - l.channels) blank (omega arith) (omega (arith, length-drop l.channels vs))))
  rest_says false a m =
      bad_at (l.channels + m.0) (omega (arith, m.1, length-drop l.channels vs))
      (rest_at (l.channels + m.0) (omega arith) ∙ subst (λ v. is_fresh_voice v ≡ false) (get_or-drop l.channels vs m.0 blank) (m.2 blank))

-- Arrays of voices, by what each is: the first c are given, the others are those of another array.
-- Assumes nothing.
use mathlib.Core.Path.{◌≡◌, ap, ◌∙◌}
use mathlib.Core.List.{List}
use Prim.Native.Nat.{ℕ, ◌≤◌, ◌<◌}
use borrow.Author.Tests.{ltb-true, ltb-false}
use lib.Dec.{ltb}
use lib.ListN.{length}
use Rattle.laws.specs.Choice.{either}
use Rattle.laws.specs.Ranges.{partly, within}
use Rattle.laws.specs.Each.{each_by, length-partly, get_or-first, get_or-other}
use Rattle.common.specs.Limits.{width}
use Rattle.voice.specs.declared.Voice.{Voice}
use Rattle.voice.specs.Frames.{blank}
use Rattle.mixing.specs.Sides.{voice_in}

pub within_by : (f : ℕ → Voice) (c : ℕ) (vs r : List Voice) → length r ≡ width → ((i : ℕ) → i < c → voice_in r i ≡ f i) → ((i : ℕ) → i < width → c ≤ i → voice_in r i ≡ voice_in vs i) → r ≡ within f blank c width vs
unfolding partly
within_by f c vs r l p q =
    each_by _ width blank r l (λ i h. either (λ x. voice_in r i ≡ x) (ltb i c) (f i) (voice_in vs i) (λ t. p i (ltb-true i c t)) (λ t. q i h (ltb-false i c t)))

module _ (f : ℕ → Voice) (c : ℕ) (vs r : List Voice) (e : r ≡ within f blank c width vs) where
  pub within_long : length r ≡ width
  within_long = ap length e ∙ length-partly f c (voice_in vs) width

  pub within_is : c ≤ width → (i : ℕ) → i < c → voice_in r i ≡ f i
  within_is few i h = ap (λ v. voice_in v i) e ∙ get_or-first f c (voice_in vs) width i blank few h

  pub within_rest : (i : ℕ) → i < width → c ≤ i → voice_in r i ≡ voice_in vs i
  within_rest i b h = ap (λ v. voice_in v i) e ∙ get_or-other f c (voice_in vs) width i blank b h

-- given once more
pub within_again : (f g h : ℕ → Voice) (c : ℕ) (vs w r : List Voice) → c ≤ width → w ≡ within g blank c width vs → ((i : ℕ) → i < c → f i ≡ h i) → r ≡ within f blank c width w → r ≡ within h blank c width vs
within_again f g h c vs w r few e same q =
    within_by h c vs r (within_long f c w r q) (λ i l. within_is f c w r q few i l ∙ same i l) (λ i b l. within_rest f c w r q i b l ∙ within_rest g c vs w e i b l)

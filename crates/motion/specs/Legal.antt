-- Fresh and legal waves, as the yes/no questions that code answers. LegalFacts has the facts.
-- Assumes nothing.
use Rattle.std.specs.Prelude.{Bool, [], ◌∷◌, eqb, leb, ltb}
use Rattle.laws.specs.Ranges.{all}
use Rattle.motion.specs.Waves.{last_memory, whole_wave, square_form}
use Rattle.motion.specs.declared.Wave.{Wave}

-- every number 0
unfoldable pub is_fresh_wave : Wave → Bool
is_fresh_wave w = all (eqb w.x 0 ∷ eqb w.y 0 ∷ eqb w.place 0 ∷ eqb w.form 0 ∷ [])

-- memories to 15, places to 63, forms to 2
unfoldable pub legal_wave : Wave → Bool
legal_wave w =
    all (leb w.x last_memory ∷ leb w.y last_memory ∷ ltb w.place whole_wave ∷ leb w.form square_form ∷ [])

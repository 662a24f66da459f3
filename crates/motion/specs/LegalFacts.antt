-- A wave is fresh, or legal, exactly where the question is answered by yes: `x-has` and `x-by`. A fresh wave is legal.
-- Assumes nothing.
use Rattle.std.specs.Prelude.{◌≤◌, ◌<◌, ◌≡◌, true}
use Rattle.std.proofs.Common.{le-leb, leb-true, lt-ltb, ltb-true, eqb-true, lit<}
use Rattle.std.proofs.Common.{zero-le}
use Rattle.laws.specs.Every.{all_at, all_by, Each}
use Rattle.laws.specs.Ranges.{all, all_from}
use Rattle.motion.specs.Waves.{fresh_wave, last_memory, whole_wave, square_form}
use Rattle.motion.specs.Legal.{is_fresh_wave, legal_wave}
use Rattle.motion.specs.declared.Wave.{Wave}

-- memories to 15, places to 63, forms to 2
pub record LegalWave (w : Wave) : Type 0 where
  pub x : w.x ≤ last_memory
  pub y : w.y ≤ last_memory
  pub place : w.place < whole_wave
  pub form : w.form ≤ square_form

pub fresh_wave_has : (w : Wave) → is_fresh_wave w ≡ true → w ≡ fresh_wave
unfolding is_fresh_wave
fresh_wave_has w e =
    let h = all_at _ e in
    rw (eqb-true w.x 0 (h 0), eqb-true w.y 0 (h 1), eqb-true w.place 0 (h 2), eqb-true w.form 0 (h 3))

pub fresh_wave_by : (w : Wave) → w ≡ fresh_wave → is_fresh_wave w ≡ true
unfolding is_fresh_wave all all_from
fresh_wave_by w e = rw e

pub wave_has : (w : Wave) → legal_wave w ≡ true → LegalWave w
unfolding legal_wave
wave_has w e =
    let h = all_at _ e in
    record {
      x = leb-true w.x last_memory (h 0);
      y = leb-true w.y last_memory (h 1);
      place = ltb-true w.place whole_wave (h 2);
      form = leb-true w.form square_form (h 3);
    }

pub wave_by : (w : Wave) → LegalWave w → legal_wave w ≡ true
unfolding legal_wave Each
wave_by w h = all_by _ (le-leb _ _ h.x, (le-leb _ _ h.y, (lt-ltb _ _ h.place, (le-leb _ _ h.form, tt))))

-- a fresh wave is legal
pub fresh_wave_legal : LegalWave fresh_wave
fresh_wave_legal = record { x = zero-le; y = zero-le; place = lit< tt; form = zero-le }

-- Neighbouring cells filled with one number, eight together, once or twice in a row. Assumes nothing.
use Rattle.std.proofs.Common.{◌≡◌, refl, ℕ, ◌+◌, ◌<◌, ◌≤◌, List, length, replicate, ℤ, arith, lt-ltb, le-ltb}
use borrow.Rule.Slice.PartMut.{put_mid}
use Rattle.runs.specs.Inverses.{quick, lasting}
use Rattle.runs.specs.Written.{together, Written, written_fill, written_more}

module _ (y : ℤ) (growth : ℕ) (old first : List ℤ) (h : together ≤ length old) (e : first ≡ replicate together y) where
  pub byte_once : quick ≤ growth → Written (λ _. y) 0 (lasting growth) old (put_mid 0 together old first)
  unfolding lasting
  byte_once q = rw (le-ltb growth quick q) (written_fill y 0 together old first h e)

  pub byte_twice : growth < quick → (second : List ℤ) → together + together ≤ length old → second ≡ replicate together y → Written (λ _. y) 0 (lasting growth) old (put_mid together together (put_mid 0 together old first) second)
  unfolding lasting
  byte_twice q second l s =
      let m = written_fill y 0 together old first h e in
      rw (lt-ltb growth quick q)
      (written_more _ 0 together old _ m _ together (together + together) _ (written_fill y together together (put_mid 0 together old first) second (omega (arith, m.long)) s) (omega arith) (λ j _ _. refl))

-- What the functions on bytes need, over plain variables.
-- Assumes nothing.
use Rattle.std.proofs.Common.{ℕ, ◌+◌, ◌/◌, ◌%◌, ◌≤◌, ◌≡◌, List, [], ◌∷◌, ◌++◌, length, take, drop, sym, ◌∙◌, arith}
use Rattle.std.proofs.lemmas.List.{append_assoc, drop-drop}
use Rattle.std.proofs.lemmas.List.Edits.{sets, sets-eq}
use Rattle.common.specs.Bytes.{four_bytes}

-- the four bytes of a number's lowest 32 bits
pub four_lowest : (n m : ℕ) → m ≡ n % 4294967296 → m / 16777216 % 256 ∷ m / 65536 % 256 ∷ m / 256 % 256 ∷ m % 256 ∷ [] ≡ four_bytes n
unfolding four_bytes
four_lowest n m e =
    let a : m / 16777216 % 256 ≡ n / 256 / 256 / 256 % 256 = omega arith in
    let b : m / 65536 % 256 ≡ n / 256 / 256 % 256 = omega arith in
    let c : m / 256 % 256 ≡ n / 256 % 256 = omega arith in
    let d : m % 256 ≡ n % 256 = omega arith in
    rw (a, b, c, d)

-- in a room, at a place
pub four_put : (room new : List ℕ) (at k n : ℕ) → at + 4 ≤ length room → k ≡ 4 → new ≡ four_bytes n → take at room ++ (new ++ drop k (drop at room)) ≡ sets room at (four_bytes n)
unfolding four_bytes
four_put room new at k n l e q = rw (e, q, drop-drop 4 at room) (sym (append_assoc (take at room) (four_bytes n) (drop (at + 4) room)) ∙ sym (sets-eq (four_bytes n) room at l))

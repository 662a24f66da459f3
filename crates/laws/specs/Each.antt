-- A list by its index: each f n is f 0, .., f (n - 1). A loop that stores f i at i, for i from 0 up, makes it.
-- Assumes nothing.
use Rattle.std.specs.Prelude.{ℕ, zero, suc, ◌+◌, ◌≤◌, ◌<◌, ◌≡◌, refl, Bool, true, false, cond, List, ◌∷◌, length, set, replicate, ltb}
use Rattle.std.proofs.Common.{sym, ap, ap₂, ◌∙◌, arith, length-set, ext_get_or, get_or-set_same, get_or-set_other, below_none, below_more}
use Rattle.std.proofs.Math.ListN.{get_or}
use borrow.Author.Tests.{lt-ltb, le-ltb, ltb-true, ltb-false}
use Rattle.laws.specs.Choice.{either}
use Rattle.laws.specs.Ranges.{each, partly}

pub length-each : {A : Type 0} (f : ℕ → A) (n : ℕ) → length (each f n) ≡ n
unfolding each
length-each f zero = refl
length-each f (suc n) = ap suc (length-each (λ i. f (suc i)) n)

pub get_or-each : {A : Type 0} (f : ℕ → A) (n i : ℕ) (d : A) → i < n → get_or (each f n) i d ≡ f i
unfolding each
get_or-each f zero i d l = absurd (omega arith)
get_or-each f (suc n) zero d l = refl
get_or-each f (suc n) (suc i) d l = get_or-each (λ k. f (suc k)) n i d (omega arith)

pub each_by : {A : Type 0} (f : ℕ → A) (n : ℕ) (d : A) (xs : List A) → length xs ≡ n → ((k : ℕ) → k < n → get_or xs k d ≡ f k) → xs ≡ each f n
each_by f n d xs e h = ext_get_or d xs (each f n) (e ∙ sym (length-each f n)) (λ i l. h i (rw e at l) ∙ sym (get_or-each f n i d (rw e at l)))

-- equal one by one
pub same_each : {A : Type 0} (f g : ℕ → A) (n : ℕ) → ((i : ℕ) → i < n → f i ≡ g i) → each f n ≡ each g n
unfolding each
same_each f g zero e = refl
same_each f g (suc n) e = ap₂ ◌∷◌ (e 0 (omega arith)) (same_each (λ i. f (suc i)) (λ i. g (suc i)) n (λ i l. e (suc i) (omega arith)))

-- ---- a loop that stores f i at i
pub record Filled {A : Type 0} (f : ℕ → A) (d : A) (n : ℕ) (xs : List A) (i : ℕ) : Type 0 where
  pub long : length xs ≡ n
  pub done : (k : ℕ) → k < i → get_or xs k d ≡ f k

pub fill_begin : {A : Type 0} (f : ℕ → A) (d : A) (n : ℕ) (xs : List A) → length xs ≡ n → Filled f d n xs 0
fill_begin f d n xs e = record { long = e; done = below_none _ }

pub fill_again : {A : Type 0} (f : ℕ → A) (d : A) (n : ℕ) (xs : List A) (i : ℕ) (x : A) → Filled f d n xs i → i < n → x ≡ f i → Filled f d n (set xs i x) (i + 1)
fill_again f d n xs i x w l e =
    record {
      long = length-set xs i x ∙ w.long;
      done = below_more _ _ (λ k p. get_or-set_other xs i k x d (omega arith) ∙ w.done k p) (get_or-set_same xs i x d (rw w.long l) ∙ e);
    }

pub fill_end : {A : Type 0} (f : ℕ → A) (d : A) (n : ℕ) (xs : List A) (i : ℕ) → Filled f d n xs i → n ≤ i → xs ≡ each f n
fill_end f d n xs i w h = each_by f n d xs w.long (λ k p. w.done k (omega arith))

pub ruleset fills = (fill_begin, fill_again, fill_end)

module _ {A : Type 0} (f : ℕ → A) (c : ℕ) (g : ℕ → A) (n : ℕ) where
  pub length-partly : length (partly f c g n) ≡ n
  unfolding partly
  length-partly = length-each _ n

  pub get_or-first : (i : ℕ) (d : A) → c ≤ n → i < c → get_or (partly f c g n) i d ≡ f i
  unfolding partly
  get_or-first i d h l = get_or-each _ n i d (omega arith) ∙ rw (lt-ltb i c l)

  pub get_or-other : (i : ℕ) (d : A) → i < n → c ≤ i → get_or (partly f c g n) i d ≡ g i
  unfolding partly
  get_or-other i d h l = get_or-each _ n i d h ∙ rw (le-ltb i c l)

-- what holds of the f's below c and of the g's from c on holds of every element
pub partly_each : {A : Type 0} (P : ℕ → A → Type 0) (f : ℕ → A) (c : ℕ) (g : ℕ → A) (n : ℕ) (d : A) → ((i : ℕ) → i < c → P i (f i)) → ((i : ℕ) → i < n → c ≤ i → P i (g i)) → (i : ℕ) → i < n → P i (get_or (partly f c g n) i d)
unfolding partly
partly_each P f c g n d p q i l =
    rw (get_or-each (λ k. cond (ltb k c) (f k) (g k)) n i d l) (either (P i) (ltb i c) (f i) (g i) (λ t. p i (ltb-true i c t)) (λ t. q i l (ltb-false i c t)))

-- equal one by one, below c and past it
pub same_parts : {A : Type 0} (f h : ℕ → A) (c : ℕ) (g k : ℕ → A) (n : ℕ) → ((i : ℕ) → i < c → f i ≡ h i) → ((i : ℕ) → i < n → c ≤ i → g i ≡ k i) → partly f c g n ≡ partly h c k n
unfolding partly
same_parts {A} f h c g k n e q =
    same_each _ _ n
    (λ i l. either (λ (x : A). x ≡ cond (ltb i c) (h i) (k i)) (ltb i c) (f i) (g i) (λ t. e i (ltb-true i c t) ∙ rw t) (λ t. q i l (ltb-false i c t) ∙ rw t))

pub same_partly : {A : Type 0} (f h : ℕ → A) (c : ℕ) (g : ℕ → A) (n : ℕ) → ((i : ℕ) → i < c → f i ≡ h i) → partly f c g n ≡ partly h c g n
same_partly f h c g n e = same_parts f h c g g n e (λ i l q. refl)

-- a loop that stores f i at i, for i from 0 up, over g's
pub record Parting {A : Type 0} (f g : ℕ → A) (d : A) (n : ℕ) (xs : List A) (i : ℕ) : Type 0 where
  pub long : length xs ≡ n
  pub done : (k : ℕ) → k < i → get_or xs k d ≡ f k
  pub rest : (k : ℕ) → i ≤ k → get_or xs k d ≡ g k

pub get_or-replicate : {A : Type 0} (d : A) (n k : ℕ) → get_or (replicate n d) k d ≡ d
get_or-replicate d zero k = refl
get_or-replicate d (suc n) zero = refl
get_or-replicate d (suc n) (suc k) = get_or-replicate d n k

module _ {A : Type 0} (f : ℕ → A) (d : A) (n : ℕ) (xs : List A) where
  pub pad_begin : xs ≡ replicate n d → length xs ≡ n → Parting f (λ i. d) d n xs 0
  pad_begin q e = record { long = e; done = below_none _; rest = λ k l. rw q (get_or-replicate d n k) }

  pub within_begin : length xs ≡ n → Parting f (λ i. get_or xs i d) d n xs 0
  within_begin e = record { long = e; done = below_none _; rest = λ k l. refl }

  module _ (g : ℕ → A) where
    pub part_again : (i c : ℕ) (x : A) → Parting f g d n xs i → i < c → c ≤ n → x ≡ f i → Parting f g d n (set xs i x) (i + 1)
    part_again i c x w l h e =
        record {
          long = length-set xs i x ∙ w.long;
          done = below_more _ _ (λ k p. get_or-set_other xs i k x d (omega arith) ∙ w.done k p) (get_or-set_same xs i x d (rw w.long (let b : i < n = omega arith in b)) ∙ e);
          rest = λ k p. get_or-set_other xs i k x d (omega arith) ∙ w.rest k (omega arith);
        }

    -- past elements whose f is g
    pub part_skip : (i j : ℕ) → Parting f g d n xs i → i ≤ j → ((k : ℕ) → i ≤ k → k < j → f k ≡ g k) → Parting f g d n xs j
    part_skip i j w h e =
        record {
          long = w.long;
          done = λ k l. go k l (ltb k i) refl;
          rest = λ k l. w.rest k (omega arith);
        }
      where
        go : (k : ℕ) → k < j → (t : Bool) → ltb k i ≡ t → get_or xs k d ≡ f k
        go k l true t = w.done k (ltb-true k i t)
        go k l false t = let m : i ≤ k = ltb-false k i t in w.rest k m ∙ sym (e k m l)

    pub part_end : (i c : ℕ) → Parting f g d n xs i → c ≤ i → i ≤ c → xs ≡ partly f c g n
    unfolding partly
    part_end i c w l h =
        each_by _ n d xs w.long
        (λ k p. either (λ x. get_or xs k d ≡ x) (ltb k c) (f k) (g k) (λ t. w.done k (omega (arith, ltb-true k c t))) (λ t. w.rest k (omega (arith, ltb-false k c t))))

pub ruleset parts = (refl, pad_begin, within_begin, part_again, part_end)

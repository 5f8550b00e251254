-- Loops over the numbers below n that end at the first one that fails a test, or passes it: what such a loop keeps, and what it has found at
-- each of its ends. Assumes nothing.
use Prim.Native.Nat.{ℕ, zero, suc, ◌+◌, ◌<◌, ◌≤◌}
use mathlib.Core.Path.{◌≡◌, refl, ap, sym, ◌∙◌}
use mathlib.Core.Bool.{Bool, true, false, not}
use native.Mathlib.Omega.{arith}
use native.Mathlib.Decide.{ℕ_discrete}
use native.Mathlib.Numerals.{add-one}
use borrow.Author.Tests.{not-true, not-false}
use Rattle.words.proofs.Bools.{Is, both, contra}
use Rattle.model.specs.Below.{all_below, any_below, none, number, or_else, lowest}
use Rattle.model.proofs.Below.{below_all, any_below_lem, none_below}

-- The first p of n numbers pass.
pub record Passing (f : ℕ → Bool) (n p : ℕ) : Type 0 where
  pub below : p ≤ n
  pub passed : Is (all_below f p)

pub passing_none : (f : ℕ → Bool) (n : ℕ) → Passing f n 0
unfolding all_below
passing_none f n = record { below = omega arith; passed = refl }

module _ (f : ℕ → Bool) {n p : ℕ} (v : Passing f n p) where
  pub passing_fails : {b : Bool} → p < n → b ≡ f p → not b ≡ true → false ≡ all_below f n
  passing_fails h e u = sym (not-true (all_below f n) (contra (all_below f n) (λ a. e ∙ below_all f n a p h) u))

  pub passing_more : {b : Bool} → p < n → b ≡ f p → not b ≡ false → Passing f n (p + 1)
  unfolding all_below
  passing_more h e u = record { below = omega arith; passed = rw add-one (both v.passed (sym e ∙ not-false _ u)) }

  pub passing_done : n ≤ p → true ≡ all_below f n
  passing_done h = let z : p ≡ n = omega (arith, v.below) in sym v.passed ∙ ap (all_below f) z

-- None of the first p of n numbers passes.
pub record Seeking (f : ℕ → Bool) (n p : ℕ) : Type 0 where
  pub failing : Passing (λ q. not (f q)) n p

pub seeking_none : (f : ℕ → Bool) (n : ℕ) → Seeking f n 0
seeking_none f n = record { failing = passing_none (λ q. not (f q)) n }

module _ (f : ℕ → Bool) {n p : ℕ} (v : Seeking f n p) where
  pub seeking_found : {b : Bool} → p < n → b ≡ f p → b ≡ true → true ≡ any_below f n
  seeking_found h e u = sym (any_below_lem f n p h (sym e ∙ u))

  pub seeking_more : {b : Bool} → p < n → b ≡ f p → b ≡ false → Seeking f n (p + 1)
  seeking_more h e u = record { failing = passing_more (λ q. not (f q)) v.failing h (ap not e) (ap (λ (z : Bool). not (not z)) u) }

  pub seeking_done : n ≤ p → false ≡ any_below f n
  seeking_done h = sym (not-true (any_below f n) (none_below f n (below_all (λ q. not (f q)) n (sym (passing_done (λ q. not (f q)) v.failing h)))))

-- The same, where the loop looks for the lowest number that passes.
pub record Searching (f : ℕ → Bool) (n p : ℕ) : Type 0 where
  pub below : p ≤ n
  pub nothing : lowest f p ≡ none

pub searching_none : (f : ℕ → Bool) (n : ℕ) → Searching f n 0
unfolding lowest
searching_none f n = record { below = omega arith; nothing = refl }

-- The first that passes stays the lowest, whatever more there are.
first_stays : (f : ℕ → Bool) (p n : ℕ) → p < n → lowest f p ≡ none → Is (f p) → lowest f n ≡ number p
unfolding lowest or_else
first_stays f p zero q e h = absurd (omega arith)
first_stays f p (suc n) q e h = elim (ℕ_discrete n p) [ yes z ↦ rw (z, e, h) | no d ↦ rw (first_stays f p n (omega arith) e h) ]

module _ (f : ℕ → Bool) {n p : ℕ} (v : Searching f n p) where
  pub searching_found : {b : Bool} → p < n → b ≡ f p → b ≡ true → lowest f n ≡ number p
  searching_found h e u = first_stays f p n h v.nothing (sym e ∙ u)

  pub searching_more : {b : Bool} → p < n → b ≡ f p → b ≡ false → Searching f n (p + 1)
  unfolding lowest or_else
  searching_more h e u = record { below = omega arith; nothing = rw (add-one, v.nothing, sym e ∙ u) }

  pub searching_done : n ≤ p → lowest f n ≡ none
  searching_done h = let z : p ≡ n = omega (arith, v.below) in ap (lowest f) (sym z) ∙ v.nothing

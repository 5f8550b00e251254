-- Laws of the tests over numbers below n. Assumes nothing.
use Prim.Native.Nat.{ℕ, zero, suc, ◌<◌}
use mathlib.Core.Path.{◌≡◌, refl}
use mathlib.Core.Bool.{Bool, true, false, cond, ◌||◌, not}
use native.Mathlib.Omega.{arith}
use native.Mathlib.Decide.{ℕ_discrete}
use Rattle.words.proofs.Bools.{Is, and_l, and_r, both, or_l, or_r, contra, by_cond}
use Rattle.model.specs.Below.{all_below, any_below, Lowest, none, number, or_else, lowest, at_or}

-- Below n + 1 is below n, or n itself.
pub below_suc : (P : ℕ → Type 0) (n q : ℕ) → q < suc n → (q < n → P q) → P n → P q
below_suc P n q h f z = elim (ℕ_discrete q n) [ yes e ↦ rw e z | no d ↦ f (omega arith) ]

pub all_below_lem : (f : ℕ → Bool) (n : ℕ) → ((p : ℕ) → p < n → Is (f p)) → Is (all_below f n)
unfolding all_below
all_below_lem f zero h = refl
all_below_lem f (suc n) h = both (all_below_lem f n (λ p k. h p (omega arith))) (h n (omega arith))

pub below_all : (f : ℕ → Bool) (n : ℕ) → Is (all_below f n) → (p : ℕ) → p < n → Is (f p)
unfolding all_below
below_all f zero h p k = absurd (omega arith)
below_all f (suc n) h p k = below_suc (λ p. Is (f p)) n p k (below_all f n (and_l (all_below f n) (f n) h) p) (and_r (all_below f n) (f n) h)

pub any_below_lem : (f : ℕ → Bool) (n p : ℕ) → p < n → Is (f p) → Is (any_below f n)
unfolding any_below
any_below_lem f zero p k h = absurd (omega arith)
any_below_lem f (suc n) p k h =
    below_suc (λ p. Is (f p) → Is (any_below f (suc n))) n p k (λ l h. or_l (f n) (any_below_lem f n p l h)) (λ h. or_r (any_below f n) h) h

nor : (a b : Bool) → Is (not a) → Is (not b) → Is (not (a || b))
nor true b h k = h
nor false b h k = k

pub none_below : (f : ℕ → Bool) (n : ℕ) → ((p : ℕ) → p < n → Is (not (f p))) → Is (not (any_below f n))
unfolding any_below
none_below f zero h = refl
none_below f (suc n) h = nor (any_below f n) (f n) (none_below f n (λ p k. h p (omega arith))) (h n (omega arith))

pub below_none : (f : ℕ → Bool) (n : ℕ) → Is (not (any_below f n)) → (p : ℕ) → p < n → Is (not (f p))
below_none f n u p k = contra (f p) (any_below_lem f n p k) u

-- The lowest number is one that passes, or there is none and no number passes.
pub lowest-cases : (P : Lowest → Type 0) (f : ℕ → Bool) (n : ℕ) → ((p : ℕ) → p < n → Is (f p) → P (number p))
    → (Is (not (any_below f n)) → P none)
    → P (lowest f n)
unfolding lowest any_below or_else
lowest-cases P f zero some nil = nil refl
lowest-cases P f (suc n) some nil =
    lowest-cases (λ l. P (or_else l (cond (f n) (number n) none))) f n (λ p k h. some p (omega arith) h)
    (λ u. by_cond P (f n) (number n) none (some n (omega arith)) (λ v. nil (nor (any_below f n) (f n) u v)))

-- So if all that pass give w, and x is w where none passes, then what the lowest gives is w.
pub lowest_gives : (f : ℕ → Bool) (g : ℕ → ℕ) (x w n : ℕ) → ((p : ℕ) → p < n → Is (f p) → g p ≡ w)
    → (Is (not (any_below f n)) → x ≡ w)
    → at_or g x (lowest f n) ≡ w
unfolding at_or
lowest_gives f g x w n some nil = lowest-cases (λ l. at_or g x l ≡ w) f n some nil

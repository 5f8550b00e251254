-- Rows of totals, added: the loop over the places, and how large a sum of rows is. Assumes nothing.
use Prim.Native.Nat.{ℕ, zero, suc, ◌+◌, ◌*◌, ◌-◌, ◌^◌, ◌<◌, ◌≤◌}
use mathlib.Core.Path.{◌≡◌, refl, sym, ap, ◌∙◌}
use mathlib.Core.Logic.{◌≢◌}
use mathlib.Core.List.{List}
use native.Mathlib.Omega.{arith}
use native.Mathlib.Decide.{ℕ_discrete}
use lib.ListN.{get_or, length, length-set}
use lib.Seq.{sets, get_or-set_other, get_or-set_same}
use Rattle.endian.specs.Little.{bytes_of}
use Rattle.endian.proofs.Little.{number_put}
use Rattle.counters.specs.Totals.{Totals, places, total_at, record_length, totals_in}
use Rattle.tally.specs.Tally.{added_below, added, Summable, row_of}

module _ (a b : Totals) where
  -- A place that is not added yet is as it was.
  not_yet : (k j : ℕ) → k ≤ j → total_at (added_below k a b) j ≡ total_at a j
  unfolding added_below
  not_yet zero j h = refl
  not_yet (suc k) j h = get_or-set_other (added_below k a b) k j _ 0 (λ e. omega (arith, e, h)) ∙ not_yet k j (omega arith)

  -- The loop's invariant, after k places.
  pub record Adding (s : List ℕ) (k : ℕ) : Type 0 where
    pub below : k ≤ places
    pub long : length s ≡ record_length
    pub totals : totals_in s ≡ added_below k a b

  pub adding_none : (s : List ℕ) → length s ≡ record_length → a ≡ totals_in s → Adding s 0
  unfolding added_below
  adding_none s l e = record { below = omega arith; long = l; totals = sym e }

  module _ {s : List ℕ} {k : ℕ} (v : Adding s k) where
    -- The two numbers, and that their sum fits.
    pub sum_fits : Summable a b → k < places → {x y : ℕ} → x ≡ total_at (totals_in s) k → y ≡ total_at b k → x + y < 2 ^ 64
    sum_fits h q ex ey =
        let e : total_at (totals_in s) k ≡ total_at a k = ap (λ (n : Totals). total_at n k) v.totals ∙ not_yet k k (omega arith) in
        omega (arith, h k q, ex, ey, e)

    pub adding_more : Summable a b → k < places → {x y : ℕ} → x ≡ total_at (totals_in s) k → y ≡ total_at b k → {q : List ℕ}
        → q ≡ sets s (8 * k) (bytes_of 8 (x + y)) → Adding q (k + 1)
    unfolding added_below
    adding_more h q {x} {y} ex ey e =
        let m : k + 1 ≡ suc k = omega arith in
        let put = number_put 8 places k (x + y) s v.long q (omega (arith, sum_fits h q ex ey)) e in
        record {
          below = omega arith;
          long = put.0;
          totals = rw m (put.1 ∙ rw (ex, ey, v.totals));
        }

    pub adding_done : places ≤ k → totals_in s ≡ added a b
    adding_done h = let e : k ≡ places = omega (arith, v.below) in rw e at v.totals

  added-length : (m : ℕ) → length (added_below m a b) ≡ length a
  unfolding added_below
  added-length zero = refl
  added-length (suc m) = length-set (added_below m a b) m (total_at (added_below m a b) m + total_at b m) ∙ added-length m

  -- No sum is above the two totals.
  added-most : (m k : ℕ) → m ≤ length a → total_at (added_below m a b) k ≤ total_at a k + total_at b k
  unfolding added_below
  added-most zero k h = omega arith
  added-most (suc m) k h =
      elim (ℕ_discrete k m) [
        | yes e ↦ rw e (omega (
          arith,
          get_or-set_same (added_below m a b) m (total_at (added_below m a b) m + total_at b m) 0 (below_length m (omega arith)),
          not_yet m m (omega arith),
        ))
        | no d ↦ rw (get_or-set_other (added_below m a b) m k (total_at (added_below m a b) m + total_at b m) 0 d) (added-most m k (omega arith))
      ]
    where
      below_length : (j : ℕ) → j < length a → j < length (added_below j a b)
      below_length j q = rw (added-length j) q

  -- How large a sum of rows is: below c and d, below their sum.
  pub sum_most : length a ≡ places → (c d : ℕ) → ((k : ℕ) → total_at a k ≤ c) → ((k : ℕ) → total_at b k ≤ d) → {m : Totals} → m ≡ added a b
      → (k : ℕ) → total_at m k ≤ c + d
  sum_most l c d f g e k = rw e (omega (arith, added-most places k (omega (arith, l)), f k, g k))

-- The first number of a row, and the others.
pub row_first : (number : ℕ) (n : Totals) (k : ℕ) → k ≡ 0 → number ≡ get_or (row_of number n) k 0
row_first number n k e = rw e

pub row_other : (number : ℕ) (n : Totals) (k : ℕ) → k ≢ 0 → {v : ℕ} → v ≡ total_at n (k - 1) → v ≡ get_or (row_of number n) k 0
row_other number n zero d e = absurd (d refl)
row_other number n (suc k) d e = let f : suc k - 1 ≡ k = omega arith in rw f at e

-- The loop over the traces: after k of them no sum is above 4,096 k. Assumes nothing.
use Prim.Native.Nat.{ℕ, ◌+◌, ◌*◌, ◌<◌, ◌≤◌}
use mathlib.Core.Path.{◌≡◌}
use mathlib.Core.List.{List}
use native.Mathlib.Omega.{arith}
use lib.ListN.{get_or-replicate}
use lib.Dec.{ltb}
use borrow.Author.Tests.{ltb-true, ltb-false, not-true}
use Rattle.words.proofs.Bools.{by_bool}
use Rattle.endian.proofs.Little.{length-numbers}
use Rattle.counters.specs.Totals.{places, total_at, zeros, totals_in}
use Rattle.counters.proofs.Sums.{beyond}
use Rattle.tally.specs.Tally.{added, Summable}
use Rattle.tally.proofs.Adding.{sum_most}

pub record Summing (sum : List ℕ) (k : ℕ) : Type 0 where
  pub below : k ≤ 9999
  pub small : (j : ℕ) → total_at (totals_in sum) j ≤ 4096 * k

zero_at : (j : ℕ) → total_at zeros j ≤ 0
zero_at j =
    by_bool (ltb j places)
    (λ b. rw (get_or-replicate {A = ℕ} places j 0 0 (ltb-true j places b)) (omega arith))
    (λ b. rw (beyond zeros j (ltb-false j places (not-true _ b))) (omega arith))

pub summing_none : (sum : List ℕ) → totals_in sum ≡ zeros → Summing sum 0
summing_none sum z = record { below = omega arith; small = λ j. rw z (zero_at j) }

module _ {sum : List ℕ} {k : ℕ} (v : Summing sum k) (h : k < 9999) (row : List ℕ) (few : (j : ℕ) → total_at (totals_in row) j ≤ 4096) where
  pub row_fits : Summable (totals_in sum) (totals_in row)
  row_fits j q = omega (arith, v.small j, few j, h)

  pub summing_more : {q : List ℕ} → totals_in q ≡ added (totals_in sum) (totals_in row) → Summing q (k + 1)
  summing_more e = record {
    below = omega arith;
    small = λ j.
        let m = sum_most (totals_in sum) (totals_in row) (length-numbers 8 places sum) (4096 * k) 4096 v.small few e j in omega (arith, m);
  }

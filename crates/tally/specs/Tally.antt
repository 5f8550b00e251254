-- The totals of a trace, the sum of two rows of totals, and the numbers of a row.
use Rattle.std.specs.Prelude.{ℕ, zero, suc, ◌+◌, ◌*◌, ◌<◌, ◌^◌, cond, List, ◌∷◌, eqb, ltb}
use Rattle.replay.specs.Trace.{shape_in, orders_in, trace_refusal, trace_orders, start}
use Rattle.counters.specs.Totals.{Totals, places, total_at, zeros, plus}
use Rattle.counters.specs.Run.{totals_with}

-- A trace's totals: its orders run from fresh on memory of zeros, with totals from zeros. A refused trace has zeros.
unfoldable pub tallied : List ℕ → Totals
tallied bs =
    let s = shape_in bs in
    cond (eqb (trace_refusal bs) 0) (totals_with s (trace_orders (orders_in bs) bs) (start s) zeros) zeros

-- The bytes that a trace has behind its sizes: none where it says more than 2,048 orders, for then it is refused by its 16 bytes.
unfoldable pub rest_of : List ℕ → ℕ
rest_of bs = cond (ltb 2048 (orders_in bs)) 0 (16 * orders_in bs)

-- Two rows of totals, added place by place: those of b to those of a, at the first k places, and at all.
unfoldable pub added_below : ℕ → Totals → Totals → Totals
added_below zero a b = a
added_below (suc k) a b = plus k (total_at b k) (added_below k a b)

abbrev pub added : Totals → Totals → Totals
added a b = added_below places a b

-- There is room for the sum.
abbrev pub Summable : Totals → Totals → Type 0
Summable a b = (k : ℕ) → k < places → total_at a k + total_at b k < 2 ^ 64

-- The numbers of a row: the trace's number, then its totals.
abbrev pub row_of : ℕ → Totals → List ℕ
row_of number totals = number ∷ totals

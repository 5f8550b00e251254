-- The loop counts order after order. Assumes nothing.
use Rattle.counters.specs.Totals.{totals_in}
use Rattle.tally.proofs.Counting.{Tallying}
use Rattle.tally.proofs.count_orders.Given as goal

abbrev pub invariant-loop-k : goal.invariant-loop-k
invariant-loop-k l =
    Tallying l.fn.machine.shape l.words l.operands l.n l.fn.machine.model (totals_in l.fn.row) l.machine l.row l.k

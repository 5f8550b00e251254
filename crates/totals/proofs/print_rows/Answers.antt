-- The sum starts with zeros, and the row of a trace is added to it. Assumes nothing.
use Rattle.std.proofs.Common.{refl}
use Rattle.tally.proofs.Counting.{zero_row}
use Rattle.totals.proofs.Summing.{summing_none, summing_more}
use Rattle.totals.proofs.print_rows.Goals as goal

pub loop-k-init : goal.loop-k-init
loop-k-init g c = summing_none _ (zero_row {n = 80} refl refl)

pub loop-k-preserved : goal.loop-k-preserved
loop-k-preserved g c =
    summing_more c.loop-k.invariant c.loop-k-test.true _ c.tally_trace.ensures.bounded c.add_row.ensures

-- The loop adds place after place. Assumes nothing.
use Rattle.counters.specs.Totals.{totals_in}
use Rattle.tally.proofs.Adding.{Adding}
use Rattle.tally.proofs.add_row.Given as goal

abbrev pub invariant-loop-k : goal.invariant-loop-k
invariant-loop-k l = Adding (totals_in l.fn.sum) (totals_in l.row) l.sum l.k

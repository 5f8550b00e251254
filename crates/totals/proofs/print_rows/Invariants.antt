-- The loop goes through the traces, and no sum grows too large. Assumes nothing.
use Rattle.totals.proofs.Summing.{Summing}
use Rattle.totals.proofs.print_rows.Given as goal

abbrev pub invariant-loop-k : goal.invariant-loop-k
invariant-loop-k g l = Summing l.sum l.k

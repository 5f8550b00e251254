-- The loop writes the next byte as it is. Assumes nothing.
use Rattle.std.proofs.Common.{arith, ◌∙◌}
use Rattle.edition.proofs.Loops.{copy_next, copy_done}
use Rattle.edition.proofs.copy_bytes.Goals as goal

pub loop-k-preserved : goal.loop-k-preserved
loop-k-preserved c = rw c.loop-k.invariant (copy_next c.loop-k.k c.args.table.now c.args.out.now (omega arith) (omega arith))

pub returns : goal.returns
returns c = c.loop-k.invariant ∙ copy_done c.loop-k.k c.args.table.now c.args.out.now (omega arith) c.loop-k-test.false

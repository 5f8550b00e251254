-- The loop goes on while no port holds the line. Assumes nothing.
use Rattle.model.proofs.Loops.{searching_none, searching_more}
use Rattle.find.proofs.Holders.{holder_found, holder_none}
use Rattle.find.proofs.Column.first_holder.Goals as goal

pub loop-p-init : goal.loop-p-init
loop-p-init c = searching_none _ _

pub loop-p-preserved : goal.loop-p-preserved
loop-p-preserved c = search searching_more

pub returns-then-holds_at : goal.returns-then-holds_at
returns-then-holds_at c = search holder_found

pub returns : goal.returns
returns c = search holder_none

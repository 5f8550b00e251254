-- The loop goes on while the ports' entries pass. Assumes nothing.
use Rattle.audit.specs.Entries.{index_passes}
use Rattle.model.proofs.Loops.{passing_none, passing_fails, passing_more, passing_done}
use Rattle.audit.proofs.lent.Lent.index_passes.Goals as goal

pub loop-p-init : goal.loop-p-init
loop-p-init c = passing_none _ _

pub returns-then-not-entry_passes : goal.returns-then-not-entry_passes
unfolding index_passes
returns-then-not-entry_passes c = search (passing_fails)

pub loop-p-preserved : goal.loop-p-preserved
loop-p-preserved c = search (passing_more)

pub returns : goal.returns
unfolding index_passes
returns c = search passing_done

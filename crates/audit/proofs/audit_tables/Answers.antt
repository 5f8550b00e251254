-- The loop goes on while the indices pass. Assumes nothing.
use Rattle.std.proofs.Common.{ap, not, ◌∙◌}
use Rattle.audit.specs.Entries.{columns_pass}
use Rattle.model.proofs.Loops.{passing_none, passing_fails, passing_more, passing_done}
use Rattle.audit.proofs.Places.{columns_say}
use Rattle.audit.proofs.audit_tables.Goals as goal

pub loop-x-init : goal.loop-x-init
loop-x-init c = passing_none _ _

pub returns-then-not-index_passes : goal.returns-then-not-index_passes
unfolding columns_pass
returns-then-not-index_passes c = passing_fails _ c.loop-x.invariant c.loop-x-test.true c.index_passes.ensures (ap not c.if-not-index_passes.true) ∙ columns_say _ _ c.requires

pub loop-x-preserved : goal.loop-x-preserved
loop-x-preserved c = search (passing_more)

pub returns : goal.returns
unfolding columns_pass
returns c = passing_done _ c.loop-x.invariant c.loop-x-test.false ∙ columns_say _ _ c.requires

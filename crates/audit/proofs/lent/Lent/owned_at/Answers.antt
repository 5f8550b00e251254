-- The loop goes on while no port's entry owns the line. Assumes nothing.
use Rattle.audit.specs.Entries.{owned_at}
use Rattle.model.proofs.Loops.{seeking_none, seeking_found, seeking_more, seeking_done}
use Rattle.audit.proofs.Places.{owns_at_lem}
use Rattle.audit.proofs.lent.Lent.owned_at.Goals as goal

pub loop-port-init : goal.loop-port-init
loop-port-init c = seeking_none _ _

pub returns-then-owns_at : goal.returns-then-owns_at
unfolding owned_at
returns-then-owns_at c = search (seeking_found, owns_at_lem)

pub loop-port-preserved : goal.loop-port-preserved
loop-port-preserved c = search (seeking_more, owns_at_lem)

pub returns : goal.returns
unfolding owned_at
returns c = search seeking_done

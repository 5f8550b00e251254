-- The loop goes on while the ports' entries go with e. Assumes nothing.
use Rattle.audit.specs.Entries.{below_pass}
use Rattle.model.proofs.Loops.{passing_none, passing_fails, passing_more, passing_done}
use Rattle.audit.proofs.Places.{pair_at}
use Rattle.audit.proofs.lent.Lent.below_pass.Goals as goal

pub loop-q-init : goal.loop-q-init
loop-q-init c = passing_none _ _

pub returns-then-not-pair_passes : goal.returns-then-not-pair_passes
unfolding below_pass
returns-then-not-pair_passes c = search (passing_fails, pair_at)

pub loop-q-preserved : goal.loop-q-preserved
loop-q-preserved c = search (passing_more, pair_at)

pub returns : goal.returns
unfolding below_pass
returns c = search passing_done

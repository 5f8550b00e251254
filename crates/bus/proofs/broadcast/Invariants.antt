-- The ports of the mask answer, one after the other. Assumes nothing.
use Rattle.bus.proofs.Answers.{Telling}
use Rattle.bus.proofs.broadcast.Given as goal

abbrev pub invariant-loop-rest : goal.invariant-loop-rest
invariant-loop-rest l = Telling l.line l.fn.bus l.w l.asked l.fn.tags l.fn.states l.fn.words l.tags l.states l.words l.rest l.k

abbrev pub decreases-loop-rest : goal.decreases-loop-rest
decreases-loop-rest l = l.rest

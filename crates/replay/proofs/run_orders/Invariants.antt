-- The loop runs order after order. Assumes nothing.
use Rattle.std.proofs.Common.{length}
use Rattle.replay.proofs.Running.{Running}
use Rattle.replay.proofs.run_orders.Given as goal

abbrev pub invariant-loop-k : goal.invariant-loop-k
invariant-loop-k l =
    Running l.fn.machine.shape l.words l.operands (length l.fn.answers) l.fn.machine.model l.fn.answers l.machine l.answers l.k

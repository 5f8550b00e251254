-- No byte below the index is no state, and it is known whether one is in write through. Assumes nothing.
use Rattle.std.proofs.Common.{length}
use Rattle.edition.proofs.Loops.{Asking}
use Rattle.edition.proofs.Conversions.{no_state_at, in_through_at}
use Rattle.edition.proofs.states_refusal.Given as goal

abbrev pub invariant-loop-b : goal.invariant-loop-b
invariant-loop-b l = Asking (no_state_at l.fn.way l.fn.states) (in_through_at l.fn.way l.fn.states) (length l.fn.states) l.b-index l.found

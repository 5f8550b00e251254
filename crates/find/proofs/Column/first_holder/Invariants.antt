-- No port below p holds the line. Assumes nothing.
use Rattle.std.proofs.Common.{[]}
use Rattle.model.specs.Tables.{model, holds}
use Rattle.model.proofs.Loops.{Searching}
use Rattle.find.proofs.Column.first_holder.Given as goal

abbrev pub invariant-loop-p : goal.invariant-loop-p
invariant-loop-p l = Searching (holds l.self.shape (model [] l.self.tags.now l.self.states.now []) l.self.line) l.self.shape.ports l.p

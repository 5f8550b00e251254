-- The ports below `port` have sound entries. Assumes nothing.
use Rattle.std.proofs.Common.{[]}
use Rattle.shape.specs.Shape.{entry_of}
use Rattle.model.specs.Tables.{model, sound}
use Rattle.model.proofs.Loops.{Passing}
use Rattle.find.proofs.Column.is_sound.Given as goal

abbrev pub invariant-loop-port : goal.invariant-loop-port
invariant-loop-port l = Passing (λ p. sound l.self.shape (model [] l.self.tags.now l.self.states.now []) (entry_of l.self.shape l.self.line p)) l.self.shape.ports l.port

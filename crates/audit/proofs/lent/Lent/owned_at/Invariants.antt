-- The loop goes on while no port's entry owns the line. Assumes nothing.
use Rattle.endian.specs.Little.{numbers}
use Rattle.shape.specs.Shape.{entries, entry_number}
use Rattle.audit.specs.Entries.{owns_at}
use Rattle.model.proofs.Loops.{Seeking}
use Rattle.audit.proofs.lent.Lent.owned_at.Given as goal

abbrev pub invariant-loop-port : goal.invariant-loop-port
invariant-loop-port l = Seeking (λ q. owns_at (numbers 4 (entries l.self.shape) l.self.tags.now) l.self.states.now l.tag (entry_number l.self.shape q l.x)) l.self.shape.ports l.port

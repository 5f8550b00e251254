-- The loop goes on while the ports' entries pass. Assumes nothing.
use Rattle.ports.specs.Bytes.{bytes, model_in}
use Rattle.audit.specs.Entries.{entry_passes}
use Rattle.model.proofs.Loops.{Passing}
use Rattle.audit.proofs.lent.Lent.index_passes.Given as goal

abbrev pub invariant-loop-p : goal.invariant-loop-p
invariant-loop-p l = Passing (entry_passes l.self.shape (model_in l.self.shape (bytes l.self.memory.now l.self.tags.now l.self.states.now l.self.words.now)) l.x) l.self.shape.ports l.p

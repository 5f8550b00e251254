-- The loop goes on while the indices pass. Assumes nothing.
use Rattle.ports.specs.Bytes.{bytes, model_in}
use Rattle.audit.specs.Entries.{index_passes}
use Rattle.model.proofs.Loops.{Passing}
use Rattle.audit.proofs.audit_tables.Given as goal

abbrev pub invariant-loop-x : goal.invariant-loop-x
invariant-loop-x l = Passing (index_passes l.fn.shape (model_in l.fn.shape (bytes l.memory l.tags l.states l.words))) l.fn.shape.sets l.x

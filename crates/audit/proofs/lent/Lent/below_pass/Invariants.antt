-- The loop goes on while the ports' entries go with e. Assumes nothing.
use Rattle.ports.specs.Bytes.{tables_in}
use Rattle.audit.specs.Entries.{held_by, pair_passes}
use Rattle.model.proofs.Loops.{Passing}
use Rattle.audit.proofs.lent.Lent.below_pass.Given as goal

abbrev pub invariant-loop-q : goal.invariant-loop-q
invariant-loop-q l = Passing (λ q. pair_passes l.e (held_by l.self.shape (tables_in l.self.shape l.self.tags.now l.self.states.now l.self.words.now) l.x q)) l.p l.q

-- The loop keeps what the ports passed have said, from port 0 on, and the number of the next port's entry. Assumes nothing.
use Rattle.ports.specs.Bytes.{tables_in}
use Rattle.ports.proofs.Surveys.{Surveyed}
use Rattle.ports.proofs.survey.survey_ports.Given as goal

abbrev pub invariant-loop-p : goal.invariant-loop-p
invariant-loop-p l = Surveyed l.line (tables_in l.line.shape l.tags l.states l.words) l.rotated l.p l.k

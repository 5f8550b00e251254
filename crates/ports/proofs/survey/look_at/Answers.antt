-- The line by `line_of`, and the survey of it. Assumes nothing.
use Rattle.ports.specs.Line.{line_of}
use Rattle.ports.proofs.Places.{placed}
use Rattle.ports.proofs.Surveys.{looked_sound, looked_unsound}
use Rattle.ports.proofs.survey.look_at.Goals as goal

pub survey_ports-requires-clause-filled : goal.survey_ports-requires-clause-filled
unfolding line_of
survey_ports-requires-clause-filled c = rw c.line_of-line.ensures c.requires.filled

pub survey_ports-requires-clause-placed : goal.survey_ports-requires-clause-placed
survey_ports-requires-clause-placed c = placed _ _ c.requires.there.0 c.requires.there.1 c.line_of-line.ensures

pub returns-in-Ok : goal.returns-in-Ok
unfolding line_of
returns-in-Ok c = rw c.line_of-line.ensures (looked_sound _ _ _ (rw c.line_of-line.ensures at c.in-Ok.ensures))

pub returns-in-Err : goal.returns-in-Err
unfolding line_of
returns-in-Err c = rw c.line_of-line.ensures (looked_unsound _ _ _ (rw c.line_of-line.ensures at c.in-Err.ensures))

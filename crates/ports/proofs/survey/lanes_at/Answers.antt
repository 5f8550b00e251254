-- What an entry says, from the row of its tag. Assumes nothing.
use Rattle.ports.proofs.Surveys.{lanes_are}
use Rattle.ports.proofs.survey.lanes_at.Goals as goal

pub returns : goal.returns
returns c = search lanes_are

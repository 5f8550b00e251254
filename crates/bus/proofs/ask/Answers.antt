-- The command is sent to all of the mask; or there is nobody to hear it, or nothing to say. Assumes nothing.
use Rattle.bus.proofs.Answers.{unasked}
use Rattle.bus.proofs.ask.Goals as goal

pub returns-else-asked-is_quiet : goal.returns-else-asked-is_quiet
returns-else-asked-is_quiet c = search unasked

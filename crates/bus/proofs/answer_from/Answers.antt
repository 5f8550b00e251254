-- The part from the port's first entry on answers, and is put back. Assumes nothing.
use Rattle.bus.proofs.Answers.{states_part, words_part_lem}
use Rattle.bus.proofs.answer_from.Goals as goal

pub returns-clause-states_after : goal.returns-clause-states_after
returns-clause-states_after c = search states_part

pub returns-clause-words_after : goal.returns-clause-words_after
returns-clause-words_after c = search words_part_lem

-- What the ports passed have said, kept from port to port; and the masks at the end. Assumes nothing.
use Rattle.std.proofs.Common.{arith}
use Rattle.ports.proofs.Places.{few, ports_some, running_there}
use Rattle.ports.proofs.Surveys.{surveyed_none, surveyed_more, surveyed_fits, surveyed_unsound, surveyed_sound}
use Rattle.ports.proofs.survey.survey_ports.Goals as goal

pub loop-p-init : goal.loop-p-init
loop-p-init c = search surveyed_none

pub entry_lanes-seen-requires-clause-entry : goal.entry_lanes-seen-requires-clause-entry
entry_lanes-seen-requires-clause-entry c = running_there c.requires.placed c.loop-p.invariant.at c.loop-p-test.true

pub overflow_add-rotated : goal.overflow_add-rotated
overflow_add-rotated c =
    omega (arith, surveyed_fits _ c.requires.placed _ _ _ c.loop-p.invariant c.loop-p-test.true c.entry_lanes-seen.ensures)

pub loop-p-preserved : goal.loop-p-preserved
loop-p-preserved c =
    surveyed_more _ c.requires.placed _ _ _ c.loop-p.invariant c.loop-p-test.true c.entry_lanes-seen.ensures
    c.rotated_right-rotated.ensures

pub rotated_left-sum-requires : goal.rotated_left-sum-requires
rotated_left-sum-requires c = (ports_some c.requires.placed, omega (arith, few c.requires.placed))

pub returns-then-owners-marked : goal.returns-then-owners-marked
returns-then-owners-marked c = search surveyed_unsound

pub returns : goal.returns
returns c = search surveyed_sound

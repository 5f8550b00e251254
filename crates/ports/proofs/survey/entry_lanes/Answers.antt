-- What an entry says, read from bytes. Assumes nothing.
use Rattle.ports.proofs.Places.{tag_read, tag_below}
use Rattle.ports.proofs.survey.entry_lanes.Goals as goal

pub lanes_at-requires : goal.lanes_at-requires
lanes_at-requires c = search tag_below

pub returns : goal.returns
returns c = rw (c.lanes_at.ensures, ← tag_read c.requires.filled c.requires.entry c.tag_at.ensures)

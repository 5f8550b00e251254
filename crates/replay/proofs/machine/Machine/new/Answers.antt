-- Arrays of zeros hold the start. Assumes nothing.
use Rattle.replay.proofs.Playing.{start_is}
use Rattle.replay.proofs.machine.Machine.new.Goals as goal

pub returns : goal.returns
returns c = start_is _ c.requires.range

-- The loop goes on while the ports' entries are sound. Assumes nothing.
use Rattle.model.specs.Tables.{column_sound}
use Rattle.model.proofs.Loops.{passing_none, passing_fails, passing_more, passing_done}
use Rattle.find.proofs.Column.is_sound.Goals as goal

pub loop-port-init : goal.loop-port-init
loop-port-init c = passing_none _ _

pub loop-port-preserved : goal.loop-port-preserved
loop-port-preserved c = search passing_more

pub returns-then-not-sound_at : goal.returns-then-not-sound_at
unfolding column_sound
returns-then-not-sound_at c = search passing_fails

pub returns : goal.returns
unfolding column_sound
returns c = search passing_done

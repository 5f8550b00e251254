-- One read of each table, and the byte's class. Assumes nothing.
use Rattle.audit.proofs.Places.{held_is}
use Rattle.audit.proofs.lent.Lent.held_at.Goals as goal

pub returns : goal.returns
returns c = search held_is

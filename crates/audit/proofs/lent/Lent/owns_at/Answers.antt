-- The entry's tag, and its class. Assumes nothing.
use Rattle.audit.specs.Entries.{owns_at}
use Rattle.audit.proofs.Places.{tag_is}
use Rattle.audit.proofs.lent.Lent.owns_at.Goals as goal

pub returns : goal.returns
unfolding owns_at
returns c = rw (c.is_owner.ensures, c.class_of.ensures, tag_is _ _ c.requires c.tag_at.ensures)

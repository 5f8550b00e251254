-- An entry read, table by table. Assumes nothing.
use Rattle.std.proofs.Common.{refl}
use Rattle.ports.proofs.Places.{entry_is}
use Rattle.ports.proofs.entry.entry_at.Goals as goal

pub returns : goal.returns
returns c = entry_is c.requires.filled c.requires.entry c.tag_at.ensures refl c.word_at.ensures

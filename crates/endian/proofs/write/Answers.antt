-- The lowest N bytes of a number, stored. Assumes nothing.
use Rattle.std.proofs.Common.{rules}
use Rattle.endian.proofs.Little.{bytes_stored}
use Rattle.endian.proofs.write.Goals as goal

pub returns : goal.returns
returns g c = bytes_stored _ _ _ _ _ c.requires.width c.requires.room (search rules)

-- An entry put, table by table. Assumes nothing.
use Rattle.std.proofs.Common.{arith, refl}
use Rattle.ports.proofs.Places.{entry_put}
use Rattle.ports.proofs.entry.put_entry.Goals as goal

pub returns : goal.returns
returns c =
    entry_put c.requires.filled c.requires.entry c.args.e (omega arith) (omega arith) (rw c.from.ensures at c.write.ensures) refl
    c.put_word.ensures

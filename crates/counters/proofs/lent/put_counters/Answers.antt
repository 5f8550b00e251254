-- Four stores. Assumes nothing.
use Rattle.std.proofs.Common.{arith}
use Rattle.counters.proofs.Places.{four_put}
use Rattle.counters.proofs.lent.put_counters.Goals as goal

pub returns : goal.returns
returns c =
    four_put c.args.lent.now c.args.k _ c.requires.0 c.requires.1 (omega arith) (omega arith) (omega arith) (omega arith)
    c.write.ensures c.write-2.ensures c.write-3.ensures c.write-4.ensures

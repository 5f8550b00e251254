-- The bytes from a place on, in front of zeros in eight bytes. Assumes nothing.
use Rattle.std.proofs.Common.{rules, arith}
use Rattle.endian.proofs.Little.{number_read}
use Rattle.endian.proofs.read.Goals as goal

pub returns : goal.returns
returns g c =
    number_read g.row.N c.args.at c.args.s.now {bs = c.copy_from_slice.new.self} c.requires.width c.requires.room (λ k. omega (arith, c.type_inv.s k))
    (search rules) (search rules)

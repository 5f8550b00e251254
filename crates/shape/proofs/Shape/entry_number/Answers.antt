-- The number is below that of the entries, so it fits. Assumes nothing.
use Rattle.std.proofs.Common.{arith}
use lib.Arith.{digits_lt}
use Rattle.shape.proofs.Bounds.{bounded}
use Rattle.shape.proofs.Shape.entry_number.Goals as goal

pub overflow_mul-result : goal.overflow_mul-result
overflow_mul-result c =
    let b = bounded c.args.self c.requires.shape in omega (arith, digits_lt c.requires.there.0 c.requires.there.1)

pub overflow_add-result : goal.overflow_add-result
overflow_add-result c =
    let b = bounded c.args.self c.requires.shape in omega (arith, digits_lt c.requires.there.0 c.requires.there.1)

-- The product fits: at most 512. Assumes nothing.
use Rattle.std.proofs.Common.{arith}
use Rattle.shape.proofs.Bounds.{bounded}
use Rattle.shape.proofs.Shape.entries.Goals as goal

pub overflow_mul-result : goal.overflow_mul-result
overflow_mul-result c = omega (arith, (bounded c.args.self c.requires).entries-most)

-- Each product fits: at most 32,768. Assumes nothing.
use Rattle.std.proofs.Common.{arith}
use Rattle.shape.proofs.Bounds.{bounded}
use Rattle.shape.proofs.Shape.sizes.Goals as goal

pub overflow_mul-result : goal.overflow_mul-result
overflow_mul-result c = let b = bounded c.args.self c.requires in omega arith

pub overflow_mul-result-2 : goal.overflow_mul-result-2
overflow_mul-result-2 c = let b = bounded c.args.self c.requires in omega arith

pub overflow_mul-result-3 : goal.overflow_mul-result-3
overflow_mul-result-3 c = let b = bounded c.args.self c.requires in omega arith

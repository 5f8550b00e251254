-- The tag by a shift, the index by the bits below it; tag and limit fit 32 bits. Assumes nothing.
use Rattle.std.proofs.Common.{arith}
use Rattle.shape.specs.Shape.{place_of}
use Rattle.shape.proofs.Bounds.{bounded, bits_below_lem, tag_small, limit_small}
use Rattle.shape.proofs.Shape.place.Goals as goal

pub overflow_cast-result : goal.overflow_cast-result
overflow_cast-result c = rw c.shift-k.ensures.0 (omega (arith, tag_small c.args.self c.args.a c.requires.0 c.requires.1))

pub overflow_add-result : goal.overflow_add-result
overflow_add-result c = let b = bounded c.args.self c.requires.0 in omega arith

pub overflow_cast-result-2 : goal.overflow_cast-result-2
overflow_cast-result-2 c =
    rw (bits_below_lem c.args.a c.args.self.sets _ c.shift-k.ensures.0, c.shift-k.ensures.0)
    (omega (arith, limit_small c.args.self c.args.a c.requires.0))

pub returns : goal.returns
unfolding place_of
returns c = rw (bits_below_lem c.args.a c.args.self.sets _ c.shift-k.ensures.0, c.shift-k.ensures.0)

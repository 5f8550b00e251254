-- The zeros below the one bit of the sets are its place. Assumes nothing.
use Rattle.shape.proofs.Bounds.{bounded, sets_shift}
use Rattle.shape.proofs.Shape.shift.Goals as goal

pub returns : goal.returns
returns c = search (sets_shift c.args.self.sets (bounded c.args.self c.requires).sets)

-- Rotated left, by two shifts. Assumes nothing.
use Rattle.std.proofs.Common.{◌<◌, ◌^◌, arith}
use Rattle.ports.proofs.Rotations.{left_is, left_fits}
use Rattle.ports.proofs.survey.rotated_left.Goals as goal

pub overflow_add-result : goal.overflow_add-result
overflow_add-result c =
    let fits : c.args.x < 2 ^ 64 = omega arith in
    omega (arith, left_is c.args.x c.args.n fits c.requires.1, left_fits c.args.x c.args.n fits c.requires.1)

pub returns : goal.returns
returns c = rw (left_is c.args.x c.args.n (omega arith) c.requires.1)

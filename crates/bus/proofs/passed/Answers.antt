-- Sets more for each port passed over. Assumes nothing.
use Rattle.std.proofs.Common.{◌+◌, ◌*◌, ◌<◌, ◌≤◌, ◌≡◌, ℕ, arith, refl}
use native.Mathlib.Nat.{mul-le-mul, add-mul, one-mul}
use Rattle.bus.proofs.passed.Goals as goal

next_port : (p sets : ℕ) → (p + 1) * sets ≡ p * sets + sets
next_port p sets = rw (add-mul p 1 sets, one-mul sets) refl

one_port_more : (p n sets : ℕ) → p < n → p * sets + sets ≤ n * sets
one_port_more p n sets h =
    let more : p + 1 ≤ n = omega (arith, h) in
    let same : sets ≤ sets = omega arith in
    rw (← next_port p sets) (mul-le-mul more same)

pub overflow_add-at : goal.overflow_add-at
overflow_add-at c = omega (arith, one_port_more _ _ c.args.sets c.loop-p-test.true, c.loop-p.invariant)

pub loop-p-preserved : goal.loop-p-preserved
loop-p-preserved c = omega (arith, next_port c.loop-p.p c.args.sets, c.loop-p.invariant)

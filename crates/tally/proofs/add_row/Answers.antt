-- Place after place is added. Assumes nothing.
use Rattle.std.proofs.Common.{arith, refl}
use Rattle.tally.proofs.Adding.{adding_none, sum_fits, adding_more}
use Rattle.tally.proofs.add_row.Goals as goal

pub loop-k-init : goal.loop-k-init
loop-k-init c = adding_none _ _ _ c.requires.sized.0 refl

pub overflow_add-total : goal.overflow_add-total
overflow_add-total c =
    omega (
      arith,
      sum_fits _ _ c.loop-k.invariant c.requires.summable (omega (arith, c.loop-k-test.true)) c.total_at.ensures
          c.total_at-in-loop-k.ensures,
    )

pub loop-k-preserved : goal.loop-k-preserved
loop-k-preserved c =
    adding_more _ _ c.loop-k.invariant c.requires.summable (omega (arith, c.loop-k-test.true)) c.total_at.ensures
    c.total_at-in-loop-k.ensures c.write.ensures

-- The table's bytes up to the index, and then what was there. Assumes nothing.
use Rattle.std.proofs.Common.{◌≡◌, take, drop, ◌++◌}
use Rattle.edition.proofs.copy_bytes.Given as goal

abbrev pub invariant-loop-k : goal.invariant-loop-k
invariant-loop-k l = l.out ≡ take l.k l.table ++ drop l.k l.fn.out

-- Zeros up to the index, and then what was there. Assumes nothing.
use Rattle.std.proofs.Common.{◌≡◌, ◌++◌, drop}
use Rattle.std.specs.Prelude.{replicate}
use Rattle.fresh.proofs.clear_bytes.Given as goal

abbrev pub invariant-loop-b : goal.invariant-loop-b
invariant-loop-b l = l.table ≡ replicate l.b-index 0 ++ drop l.b-index l.fn.table

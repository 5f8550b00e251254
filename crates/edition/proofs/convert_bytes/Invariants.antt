-- The table's bytes, converted, up to the index, and then what was there. Assumes nothing.
use Rattle.std.proofs.Common.{◌≡◌, map, take, drop, ◌++◌}
use Rattle.letters.specs.Letters.{converted, byte_from}
use Rattle.edition.proofs.convert_bytes.Given as goal

abbrev pub invariant-loop-k : goal.invariant-loop-k
invariant-loop-k l = l.out ≡ take l.k (map (λ b. byte_from (converted l.way b)) l.table) ++ drop l.k l.fn.out

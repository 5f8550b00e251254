-- Truth values: implication, and a truth value as a number.
use Rattle.std.specs.Prelude.{ℕ, Bool, true, cond}
use Rattle.std.specs.Int.{from_bool}

-- If a then b.
abbrev pub implies : Bool → Bool → Bool
implies a b = cond a b true

-- 1 for true, and 0.
abbrev pub bit : Bool → ℕ
bit b = from_bool b

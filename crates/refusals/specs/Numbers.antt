-- The number of each refusal, and of a result that may be one.
use Rattle.std.specs.Prelude.{ℕ, Result, Ok, Err}
use Rattle.refusals.specs.declared.Refusal.{Refusal}
use Rattle.refusals.specs.declared.Refusal.TheVariants.{Trace, Shape, Lengths, Kind, Port, Line, Mask, Entry, Totals, State, Through, Range}

abbrev pub number : Refusal → ℕ
number Trace = 1
number Shape = 2
number Lengths = 3
number Kind = 4
number Port = 5
number Line = 6
number Mask = 7
number Entry = 8
number Totals = 9
number State = 10
number Through = 11
number Range = 12

-- 0 where nothing is refused.
abbrev pub refusal_in : {T : Type 0} → Result T Refusal → ℕ
refusal_in (Ok x) = 0
refusal_in (Err r) = number r

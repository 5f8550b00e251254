-- Every refusal has a number other than 0. Assumes nothing.
use mathlib.Core.Logic.{◌≢◌}
use native.Mathlib.Omega.{arith}
use Rattle.refusals.specs.declared.Refusal.{Refusal}
use Rattle.refusals.specs.declared.Refusal.TheVariants.{Trace, Shape, Lengths, Kind, Port, Line, Mask, Entry, Totals, State, Through, Range}
use Rattle.refusals.specs.Numbers.{number}

pub some_number : (r : Refusal) → number r ≢ 0
some_number Trace z = absurd (omega (arith, z))
some_number Shape z = absurd (omega (arith, z))
some_number Lengths z = absurd (omega (arith, z))
some_number Kind z = absurd (omega (arith, z))
some_number Port z = absurd (omega (arith, z))
some_number Line z = absurd (omega (arith, z))
some_number Mask z = absurd (omega (arith, z))
some_number Entry z = absurd (omega (arith, z))
some_number Totals z = absurd (omega (arith, z))
some_number State z = absurd (omega (arith, z))
some_number Through z = absurd (omega (arith, z))
some_number Range z = absurd (omega (arith, z))

-- The numbers of bus commands and of modes, and what stands at a number.
use Rattle.std.specs.Prelude.{ℕ, cond, eqb}
use Rattle.protocol.specs.declared.state.Mode.{Mode}
use Rattle.protocol.specs.declared.state.Mode.TheVariants.{Through, Back}
use Rattle.protocol.specs.declared.rules.Bus.{Bus}
use Rattle.protocol.specs.declared.rules.Bus.TheVariants.{Quiet, Share, Update, Invalidate, ShareOwned}

-- The numbers of the bus commands.
unfoldable pub bus_number : Bus → ℕ
bus_number Quiet = 0
bus_number Invalidate = 1
bus_number ShareOwned = 2
bus_number (Share Through) = 3
bus_number (Share Back) = 4
bus_number (Update Through) = 5
bus_number (Update Back) = 6

unfoldable pub bus_at : ℕ → Bus
bus_at n =
    cond (eqb n 0) Quiet
    (cond (eqb n 1) Invalidate
    (cond (eqb n 2) ShareOwned
    (cond (eqb n 3) (Share Through)
    (cond (eqb n 4) (Share Back)
    (cond (eqb n 5) (Update Through)
    (Update Back))))))

-- The numbers of the modes.
abbrev pub mode_number : Mode → ℕ
mode_number Through = 0
mode_number Back = 1

unfoldable pub mode_at : ℕ → Mode
mode_at n = cond (eqb n 0) Through Back

-- The numbers of bus commands: below 7, and at each stands its command. Assumes nothing.
use Prim.Native.Nat.{◌<◌}
use mathlib.Core.Path.{◌≡◌, refl}
use lib.Dec.{ltb}
use borrow.Author.Tests.{ltb-true}
use Rattle.protocol.specs.declared.state.Mode.TheVariants.{Through, Back}
use Rattle.protocol.specs.declared.rules.Bus.{Bus}
use Rattle.protocol.specs.declared.rules.Bus.TheVariants.{Quiet, Share, Update, Invalidate, ShareOwned}
use Rattle.protocol.specs.Coded.{bus_number, bus_at}
use Rattle.protocol.proofs.Finite.{at_bus}

pub bus_below : (b : Bus) → bus_number b < 7
unfolding bus_number
bus_below b = ltb-true (bus_number b) 7 (at_bus (λ b. ltb (bus_number b) 7) refl b)

pub bus_at_lem : (b : Bus) → bus_at (bus_number b) ≡ b
unfolding bus_at bus_number
bus_at_lem Quiet = refl
bus_at_lem Invalidate = refl
bus_at_lem ShareOwned = refl
bus_at_lem (Share Through) = refl
bus_at_lem (Share Back) = refl
bus_at_lem (Update Through) = refl
bus_at_lem (Update Back) = refl

-- A test that says yes at every mode, outcome, state, bus command or truth value says yes at each: what is said of finitely many cases
-- is proved by computing it. Assumes nothing.
use mathlib.Core.Bool.{Bool, true, false, ◌&&◌}
use Rattle.protocol.specs.declared.state.Mode.{Mode}
use Rattle.protocol.specs.declared.state.Mode.TheVariants.{Through, Back}
use Rattle.protocol.specs.declared.state.State.{State}
use Rattle.protocol.specs.declared.state.State.TheVariants.{I, S, E, O, M}
use Rattle.words.specs.declared.access.Outcome.{Outcome}
use Rattle.words.specs.declared.access.Outcome.TheVariants.{Reads, Writes, Rewrites}
use Rattle.protocol.specs.declared.rules.Bus.{Bus}
use Rattle.protocol.specs.declared.rules.Bus.TheVariants.{Quiet, Share, Update, Invalidate, ShareOwned}
use Rattle.words.proofs.Bools.{Is, and_l, and_r}

abbrev pub for_bools : (Bool → Bool) → Bool
for_bools p = p true && p false

pub at_bool : (p : Bool → Bool) → Is (for_bools p) → (b : Bool) → Is (p b)
at_bool p h true = and_l (p true) (p false) h
at_bool p h false = and_r (p true) (p false) h

abbrev pub for_modes : (Mode → Bool) → Bool
for_modes p = p Through && p Back

pub at_mode : (p : Mode → Bool) → Is (for_modes p) → (m : Mode) → Is (p m)
at_mode p h Through = and_l (p Through) (p Back) h
at_mode p h Back = and_r (p Through) (p Back) h

abbrev pub for_outcomes : (Outcome → Bool) → Bool
for_outcomes p = p Reads && p Writes && p Rewrites

pub at_outcome : (p : Outcome → Bool) → Is (for_outcomes p) → (k : Outcome) → Is (p k)
at_outcome p h Reads = search (and_l, and_r)
at_outcome p h Writes = search (and_l, and_r)
at_outcome p h Rewrites = search (and_l, and_r)

abbrev pub for_states : (State → Bool) → Bool
for_states p = for_modes (λ m. p (S m)) && for_modes (λ m. p (E m)) && p O && p M && p I

pub at_state : (p : State → Bool) → Is (for_states p) → (s : State) → Is (p s)
at_state p h I = search (and_l, and_r)
at_state p h (S m) = at_mode (λ n. p (S n)) (search (and_l, and_r)) m
at_state p h (E m) = at_mode (λ n. p (E n)) (search (and_l, and_r)) m
at_state p h O = search (and_l, and_r)
at_state p h M = search (and_l, and_r)

abbrev pub for_buses : (Bus → Bool) → Bool
for_buses p = p Quiet && for_modes (λ m. p (Share m)) && for_modes (λ m. p (Update m)) && p Invalidate && p ShareOwned

pub at_bus : (p : Bus → Bool) → Is (for_buses p) → (b : Bus) → Is (p b)
at_bus p h Quiet = search (and_l, and_r)
at_bus p h (Share m) = at_mode (λ n. p (Share n)) (search (and_l, and_r)) m
at_bus p h (Update m) = at_mode (λ n. p (Update n)) (search (and_l, and_r)) m
at_bus p h Invalidate = search (and_l, and_r)
at_bus p h ShareOwned = search (and_l, and_r)

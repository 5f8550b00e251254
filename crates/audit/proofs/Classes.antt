-- The class of a state says what the state says: each part is one test, computed over the states. Assumes nothing.
use Prim.Native.Nat.{ℕ, ◌<◌, ◌≤◌}
use mathlib.Core.Path.{◌≡◌, refl}
use mathlib.Core.Logic.{◌≢◌}
use mathlib.Core.Bool.{Bool, true, false, cond, ◌&&◌, not, false≢true}
use mathlib.Core.List.{List, [], ◌∷◌}
use native.Mathlib.Omega.{arith}
use lib.Dec.{eqb, leb}
use borrow.Author.Tests.{eqb-true, ne_eqb}
use Rattle.std.specs.Prelude.{Option, Some, None, slice_index_or}
use Rattle.protocol.specs.declared.state.State.{State}
use Rattle.words.specs.Bools.{implies}
use Rattle.protocol.specs.State.{state_of, is_state, or_invalid, valid, owner, exclusive, is_o, mode_of, same_mode}
use Rattle.words.proofs.Bools.{Is, both, mp, not_both}
use Rattle.protocol.proofs.Finite.{for_states, at_state}
use Rattle.protocol.proofs.States.{same_mode_lem}
use Rattle.model.specs.Below.{all_below}
use Rattle.model.proofs.Below.{below_all}
use Rattle.audit.specs.Entries.{class_number, class_of, is_owner, compatible}

abbrev same : Bool → Bool → Bool
same a b = cond a b (not b)

same_eq : (a b : Bool) → Is (same a b) → a ≡ b
same_eq true true h = refl
same_eq true false h = absurd (false≢true h)
same_eq false true h = absurd (false≢true h)
same_eq false false h = refl

by_state : (f g : State → Bool) → Is (for_states (λ s. same (f s) (g s))) → (s : State) → f s ≡ g s
by_state f g h s = same_eq (f s) (g s) (at_state (λ s. same (f s) (g s)) h s)

-- The table has the class of each byte below 13, and from there on no byte is a state.
abbrev pub classes : List ℕ
classes = 0 ∷ 8 ∷ 10 ∷ 1 ∷ 1 ∷ 1 ∷ 1 ∷ 1 ∷ 1 ∷ 9 ∷ 11 ∷ 13 ∷ 15 ∷ []

pub class_at : (b : ℕ) {k : ℕ} → k ≡ b → k < 13 → slice_index_or classes k 0 ≡ class_of (state_of b)
unfolding all_below state_of
class_at b e h = rw (← e) (eqb-true _ _ (below_all (λ b. eqb (slice_index_or classes b 0) (class_of (state_of b))) 13 refl _ h))

pub class_beyond : (b : ℕ) {k : ℕ} → k ≡ b → 13 ≤ k → 1 ≡ class_of (state_of b)
unfolding state_of
class_beyond b {k} e h =
    rw (
      ne_eqb b 0 (apart 0 (omega arith)),
      ne_eqb b 1 (apart 1 (omega arith)),
      ne_eqb b 2 (apart 2 (omega arith)),
      ne_eqb b 9 (apart 9 (omega arith)),
      ne_eqb b 10 (apart 10 (omega arith)),
      ne_eqb b 11 (apart 11 (omega arith)),
      ne_eqb b 12 (apart 12 (omega arith)),
    )
  where
    apart : (n : ℕ) → n < 13 → b ≢ n
    apart n l f = omega (arith, h, e, l, f)

-- Held, owned, and a state.
pub class_valid : (y : Option State) → leb 8 (class_of y) ≡ valid (or_invalid y)
class_valid (Some s) = by_state (λ s. leb 8 (class_number s)) valid refl s
class_valid None = refl

pub class_owner : (y : Option State) → is_owner (class_of y) ≡ owner (or_invalid y)
class_owner (Some s) = by_state (λ s. is_owner (class_number s)) owner refl s
class_owner None = refl

pub class_state : (y : Option State) → Is (not (valid (or_invalid y))) → eqb (class_of y) 0 ≡ is_state y
class_state (Some s) h = mp (at_state (λ s. implies (not (valid s)) (eqb (class_number s) 0)) refl s) h
class_state None h = refl

-- Two holders of a line stand together, by what the model's audit asks of their states.
abbrev pub together : State → State → Bool
together y z = same_mode (mode_of y) (mode_of z) && not (exclusive y) && not (exclusive z) && not (is_o y && is_o z)

at_states : (f : State → State → Bool) → Is (for_states (λ y. for_states (f y))) → (y z : State) → Is (f y z)
at_states f h y z = at_state (f y) (at_state (λ y. for_states (f y)) h y) z

pub together_flip : (y z : State) → Is (together y z) → Is (together z y)
together_flip y z h = mp (at_states (λ y z. implies (together y z) (together z y)) refl y z) h

pub together_modes : (y z : State) → Is (together y z) → mode_of y ≡ mode_of z
together_modes y z h = same_mode_lem (mode_of y) (mode_of z) (mp (at_states (λ y z. implies (together y z) (same_mode (mode_of y) (mode_of z))) refl y z) h)

pub together_shared : (y z : State) → Is (together y z) → Is (exclusive y) → ⊥
together_shared y z h e = not_both e (mp (at_states (λ y z. implies (together y z) (not (exclusive y))) refl y z) h)

pub together_one_o : (y z : State) → Is (together y z) → Is (is_o y) → Is (is_o z) → ⊥
together_one_o y z h a b = not_both (both a b) (mp (at_states (λ y z. implies (together y z) (not (is_o y && is_o z))) refl y z) h)

-- The classes say it too.
pub class_compatible : (y z : Option State) → Is (valid (or_invalid y)) → Is (valid (or_invalid z))
    → compatible (class_of y) (class_of z) ≡ together (or_invalid y) (or_invalid z)
unfolding compatible
class_compatible (Some y) (Some z) v w = same_eq (compatible (class_number y) (class_number z)) (together y z)
    (at_states (λ y z. same (compatible (class_number y) (class_number z)) (together y z)) refl y z)
class_compatible (Some y) None v w = absurd (false≢true w)
class_compatible None z v w = absurd (false≢true v)

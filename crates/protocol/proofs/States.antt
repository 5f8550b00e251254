-- Laws of states and their bytes. Assumes nothing.
use Prim.Native.Nat.{ℕ, ◌<◌}
use mathlib.Core.Bool.{not, false≢true}
use mathlib.Core.Path.{◌≡◌, refl, sym, subst}
use mathlib.Core.Logic.{◌≢◌}
use native.Mathlib.Decide.{ℕ_discrete}
use lib.Dec.{ltb}
use borrow.Author.Tests.{ne_eqb, ltb-true}
use Rattle.protocol.specs.declared.state.Mode.{Mode}
use Rattle.protocol.specs.declared.state.Mode.TheVariants.{Through, Back}
use Rattle.protocol.specs.declared.state.State.{State}
use Rattle.protocol.specs.declared.state.State.TheVariants.{I, S, E, O, M}
use Rattle.words.specs.Bools.{implies}
use Rattle.std.specs.Prelude.{Some}
use Rattle.protocol.specs.State.{code, state_of, state_row, is_state, or_invalid, valid, owner, exclusive, is_o, same_mode}
use Rattle.words.proofs.Bools.{Is, mp}
use Rattle.protocol.proofs.Finite.{at_state}

pub owner-valid : (s : State) → Is (owner s) → Is (valid s)
owner-valid I h = h
owner-valid (S m) h = refl
owner-valid (E m) h = refl
owner-valid O h = refl
owner-valid M h = refl

pub not_valid : (s : State) → Is (not (valid s)) → s ≡ I
not_valid I h = refl
not_valid (S m) h = absurd (false≢true h)
not_valid (E m) h = absurd (false≢true h)
not_valid O h = absurd (false≢true h)
not_valid M h = absurd (false≢true h)

pub exclusive-valid : (s : State) → Is (exclusive s) → Is (valid s)
exclusive-valid s h = mp (at_state (λ s. implies (exclusive s) (valid s)) refl s) h

pub o_valid : (s : State) → Is (is_o s) → Is (valid s)
o_valid s h = mp (at_state (λ s. implies (is_o s) (valid s)) refl s) h

-- Modes that a test finds equal are equal.
pub same_mode_lem : (m n : Mode) → Is (same_mode m n) → m ≡ n
same_mode_lem Through Through h = refl
same_mode_lem Through Back h = absurd (false≢true h)
same_mode_lem Back Through h = absurd (false≢true h)
same_mode_lem Back Back h = refl

pub mode_itself : (m : Mode) → Is (same_mode m m)
mode_itself Through = refl
mode_itself Back = refl

-- The byte of a state is that state's.
pub state_of-code : (s : State) → state_of (code s) ≡ Some s
unfolding state_of code
state_of-code I = refl
state_of-code (S Through) = refl
state_of-code (S Back) = refl
state_of-code (E Through) = refl
state_of-code (E Back) = refl
state_of-code O = refl
state_of-code M = refl

pub code_small : (s : State) → code s < 16
unfolding code
code_small s = ltb-true (code s) 16 (at_state (λ s. ltb (code s) 16) refl s)

-- A number is one of the seven bytes, or apart from each.
pub byte_cases : (P : ℕ → Type 0) → P 0 → P 1 → P 2 → P 9 → P 10 → P 11 → P 12 →
    ((b : ℕ) → b ≢ 0 → b ≢ 1 → b ≢ 2 → b ≢ 9 → b ≢ 10 → b ≢ 11 → b ≢ 12 → P b) → (b : ℕ) → P b
byte_cases P p0 p1 p2 p9 p10 p11 p12 f b =
    elim (ℕ_discrete b 0) [
      | yes e ↦ subst P (sym e) p0
      | no n0 ↦ elim (ℕ_discrete b 1) [
        | yes e ↦ subst P (sym e) p1
        | no n1 ↦ elim (ℕ_discrete b 2) [
          | yes e ↦ subst P (sym e) p2
          | no n2 ↦ elim (ℕ_discrete b 9) [
            | yes e ↦ subst P (sym e) p9
            | no n9 ↦ elim (ℕ_discrete b 10) [
              | yes e ↦ subst P (sym e) p10
              | no n10 ↦ elim (ℕ_discrete b 11) [
                | yes e ↦ subst P (sym e) p11
                | no n11 ↦ elim (ℕ_discrete b 12) [
                  | yes e ↦ subst P (sym e) p12
                  | no n12 ↦ f b n0 n1 n2 n9 n10 n11 n12
                ]
              ]
            ]
          ]
        ]
      ]
    ]

-- A byte that is a state is that state's byte.
pub code-state_of : (b : ℕ) → Is (is_state (state_of b)) → code (or_invalid (state_of b)) ≡ b
unfolding state_of code
code-state_of =
    byte_cases (λ b. Is (is_state (state_of b)) → code (or_invalid (state_of b)) ≡ b)
    (λ h. refl) (λ h. refl) (λ h. refl) (λ h. refl) (λ h. refl) (λ h. refl) (λ h. refl)
    (λ b n0 n1 n2 n9 n10 n11 n12 h.
    absurd (false≢true (rw (ne_eqb b 0 n0, ne_eqb b 1 n1, ne_eqb b 2 n2, ne_eqb b 9 n9, ne_eqb b 10 n10, ne_eqb b 11 n11, ne_eqb b 12 n12) at h)))

-- The row of the bytes below 16 as a number.
pub state_row_is : state_row ≡ 0xE1F818001E06
unfolding state_row state_of
state_row_is = refl

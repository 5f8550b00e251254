-- Every case that is printed stands in the tables at its number. Assumes nothing.
use Prim.Native.Nat.{ℕ, ◌+◌, ◌-◌, ◌*◌, ◌/◌, ◌%◌, ◌<◌, ◌≤◌}
use mathlib.Core.Path.{◌≡◌, refl, ◌∙◌}
use mathlib.Core.Bool.{Bool, true, false, false≢true}
use native.Mathlib.Omega.{arith}
use lib.Dec.{eqb, ltb}
use borrow.Author.Tests.{eqb-true, lt-ltb, le-ltb}
use Rattle.words.specs.Bools.{bit}
use Rattle.words.specs.declared.access.Outcome.{Outcome}
use Rattle.words.specs.declared.access.Outcome.TheVariants.{Reads, Writes, Rewrites}
use Rattle.words.proofs.Bools.{Is, by_cond}
use Rattle.protocol.specs.declared.state.Mode.{Mode}
use Rattle.protocol.specs.declared.state.Mode.TheVariants.{Through, Back}
use Rattle.protocol.specs.declared.state.State.{State}
use Rattle.protocol.specs.declared.state.State.TheVariants.{I, S, E, O, M}
use Rattle.protocol.specs.declared.rules.Bus.{Bus}
use Rattle.protocol.specs.State.{valid}
use Rattle.protocol.specs.Coded.{mode_number, mode_at, bus_number, bus_at}
use Rattle.protocol.proofs.Numbers.{bus_below, bus_at_lem}
use Rattle.protocol.proofs.States.{state_of-code}
use Rattle.model.specs.Below.{all_below}
use Rattle.model.proofs.Below.{below_all}
use Rattle.rows.specs.Cases.{Case, own, snoop, take_over, flush, device_write, device_read, printed, cases, case_number, case_at}
use Rattle.rows.specs.Cases.{outcome_number, outcome_in_turn, state_number, state_in_turn, own_at, snoop_at}
use Rattle.rows.specs.Cells.{row_of, case_named}
use Rattle.rows.specs.Claims.{Places, CellsNameCases}

-- Digits: what stands at a number's place.
digits : (k m b d s : ℕ) → k < 3 → m < 2 → b < 2 → d < 2 → s < 7
    → let n = (((k * 2 + m) * 2 + b) * 2 + d) * 7 + s in
    (n < 168) × (n / 56 ≡ k) × (n / 28 % 2 ≡ m) × (n / 14 % 2 ≡ b) × (n / 7 % 2 ≡ d) × (n % 7 ≡ s)
digits k m b d s hk hm hb hd hs = (omega arith, omega arith, omega arith, omega arith, omega arith, omega arith)

-- Numbers of outcomes, modes, truth values, states and commands, and what stands at them.
outcome_turn : (k : Outcome) → (outcome_number k < 3) × (outcome_in_turn (outcome_number k) ≡ k)
unfolding outcome_in_turn
outcome_turn Reads = (omega arith, refl)
outcome_turn Writes = (omega arith, refl)
outcome_turn Rewrites = (omega arith, refl)

mode_turn : (m : Mode) → (mode_number m < 2) × (mode_at (mode_number m) ≡ m)
unfolding mode_at
mode_turn Through = (omega arith, refl)
mode_turn Back = (omega arith, refl)

bit_turn : (b : Bool) → (bit b < 2) × (eqb (bit b) 1 ≡ b)
bit_turn true = (omega arith, refl)
bit_turn false = (omega arith, refl)

state_turn : (s : State) → (state_number s < 7) × (state_in_turn (state_number s) ≡ s)
unfolding state_in_turn
state_turn I = (omega arith, refl)
state_turn (S Through) = (omega arith, refl)
state_turn (S Back) = (omega arith, refl)
state_turn (E Through) = (omega arith, refl)
state_turn (E Back) = (omega arith, refl)
state_turn O = (omega arith, refl)
state_turn M = (omega arith, refl)

-- A holder's state has a number from 1 on.
held_number : (s : State) → Is (valid s) → 1 ≤ state_number s
held_number I h = absurd (false≢true h)
held_number (S Through) h = omega arith
held_number (S Back) h = omega arith
held_number (E Through) h = omega arith
held_number (E Back) h = omega arith
held_number O h = omega arith
held_number M h = omega arith

-- What stands at a number, by the part of the tables that it is in.
pub own_part : (n : ℕ) → n < 168 → case_at n ≡ own_at n
unfolding case_at
own_part n h = rw (lt-ltb n 168 h)

pub snoop_part : (n : ℕ) → 168 ≤ n → n < 210 → case_at n ≡ snoop_at (n - 168)
unfolding case_at
snoop_part n l h = rw (le-ltb n 168 l, lt-ltb n 210 h)

pub taken_part : (n : ℕ) → 210 ≤ n → n < 217 → case_at n ≡ take_over (state_in_turn (n - 210))
unfolding case_at
taken_part n l h = rw (le-ltb n 168 (omega (arith, l)), le-ltb n 210 l, lt-ltb n 217 h)

pub flush_part : (n : ℕ) → 217 ≤ n → n < 224 → case_at n ≡ flush (state_in_turn (n - 217))
unfolding case_at
flush_part n l h = rw (le-ltb n 168 (omega (arith, l)), le-ltb n 210 (omega (arith, l)), le-ltb n 217 l, lt-ltb n 224 h)

pub write_part : (n : ℕ) → 224 ≤ n → n < 226 → case_at n ≡ device_write (eqb n 225)
unfolding case_at
write_part n l h =
    rw (le-ltb n 168 (omega (arith, l)), le-ltb n 210 (omega (arith, l)), le-ltb n 217 (omega (arith, l)), le-ltb n 224 l, lt-ltb n 226 h)

pub read_part : (n : ℕ) → 226 ≤ n → case_at n ≡ device_read
unfolding case_at
read_part n l =
    rw (le-ltb n 168 (omega (arith, l)), le-ltb n 210 (omega (arith, l)), le-ltb n 217 (omega (arith, l)), le-ltb n 224 (omega (arith, l)), le-ltb n 226 l)

-- From 168 on every case is printed: who hears a command is in one of six states.
held_turn : (n : ℕ) → Is (valid (state_in_turn (n % 6 + 1)))
unfolding state_in_turn all_below
held_turn n = below_all (λ k. valid (state_in_turn (k + 1))) 6 refl (n % 6) (omega arith)

pub printed_part : (n : ℕ) → 168 ≤ n → Is (printed (case_at n))
unfolding case_at printed
printed_part n l =
    rw (le-ltb n 168 l) (by_cond (λ c. Is (printed c)) (ltb n 210) _ _ (λ _. held_turn (n - 168))
    (λ _. by_cond (λ c. Is (printed c)) (ltb n 217) _ _ (λ _. refl)
    (λ _. by_cond (λ c. Is (printed c)) (ltb n 224) _ _ (λ _. refl) (λ _. by_cond (λ c. Is (printed c)) (ltb n 226) _ _ (λ _. refl) (λ _. refl)))))

abbrev Stands : Case → Type 0
Stands c = (case_number c < cases) × (case_at (case_number c) ≡ c)

own_stands : (k : Outcome) (m : Mode) (shared dirty : Bool) (s : State) → Stands (own k m shared dirty s)
unfolding case_number
own_stands k m shared dirty s =
    let at = digits _ _ _ _ _ (outcome_turn k).0 (mode_turn m).0 (bit_turn shared).0 (bit_turn dirty).0 (state_turn s).0 in (
      omega (arith, at.0),
      own_part _ at.0 ∙ rw (
        at.1,
        at.2,
        at.3,
        at.4,
        at.5,
        (outcome_turn k).1,
        (mode_turn m).1,
        (bit_turn shared).1,
        (bit_turn dirty).1,
        (state_turn s).1,
      ),
    )

snoop_stands : (b : Bus) (s : State) → Is (valid s) → Stands (snoop b s)
unfolding case_number
snoop_stands b s v =
    let n = state_number s - 1 in
    let small : n < 6 = omega (arith, (state_turn s).0) in
    let turn : n + 1 ≡ state_number s = omega (arith, held_number s v) in
    let first : (bus_number b * 6 + n) / 6 ≡ bus_number b = omega (arith, small) in
    let second : (bus_number b * 6 + n) % 6 ≡ n = omega (arith, small) in
    let inside : bus_number b * 6 + n < 42 = omega (arith, small, bus_below b) in
    let off : 168 + (bus_number b * 6 + n) - 168 ≡ bus_number b * 6 + n = omega arith in
    (omega (arith, inside), snoop_part _ (omega arith) (omega (arith, inside)) ∙ rw (off, first, second, turn, bus_at_lem b, (state_turn s).1))

take_stands : (s : State) → Stands (take_over s)
unfolding case_number
take_stands s =
    let turn = state_turn s in
    let off : 210 + state_number s - 210 ≡ state_number s = omega arith in
    (omega (arith, turn.0), taken_part _ (omega arith) (omega (arith, turn.0)) ∙ rw (off, turn.1))

flush_stands : (s : State) → Stands (flush s)
unfolding case_number
flush_stands s =
    let turn = state_turn s in
    let off : 217 + state_number s - 217 ≡ state_number s = omega arith in
    (omega (arith, turn.0), flush_part _ (omega arith) (omega (arith, turn.0)) ∙ rw (off, turn.1))

printed_stand : (c : Case) → Is (printed c) → Stands c
unfolding case_number case_at printed
printed_stand (own k m shared dirty s) h = own_stands k m shared dirty s
printed_stand (snoop b s) h = snoop_stands b s h
printed_stand (take_over s) h = take_stands s
printed_stand (flush s) h = flush_stands s
printed_stand (device_write true) h = (omega arith, refl)
printed_stand (device_write false) h = (omega arith, refl)
printed_stand device_read h = (omega arith, refl)

-- Each number is that of the case at it: computed over all of them.
number_again : (k : ℕ) → k < cases → case_number (case_at k) ≡ k
unfolding case_number case_at outcome_in_turn mode_at bus_at bus_number state_in_turn all_below
number_again k h = eqb-true _ _ (below_all (λ k. eqb (case_number (case_at k)) k) cases refl k h)

pub places : Places
places = record { stands = printed_stand; apart = number_again }

-- The cells of a row name its case.
pub cells_name_cases : CellsNameCases
unfolding row_of case_named
cells_name_cases (own k m shared dirty s) =
    rw ((outcome_turn k).1, (mode_turn m).1, (bit_turn shared).1, (bit_turn dirty).1, state_of-code s)
cells_name_cases (snoop b s) = rw (bus_at_lem b, state_of-code s)
cells_name_cases (take_over s) = rw (state_of-code s)
cells_name_cases (flush s) = rw (state_of-code s)
cells_name_cases (device_write dirty) = rw (bit_turn dirty).1
cells_name_cases device_read = refl

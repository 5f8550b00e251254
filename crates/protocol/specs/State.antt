-- Modes, the seven states of an entry, and the bytes of the state table.
use Rattle.std.specs.Prelude.{ℕ, zero, suc, ◌+◌, ◌*◌, ◌^◌, Bool, true, false, cond, not, eqb, Option, Some, None}
use Rattle.words.specs.Bools.{bit}
use Rattle.protocol.specs.declared.state.Mode.{Mode}
use Rattle.protocol.specs.declared.state.Mode.TheVariants.{Through, Back}
use Rattle.protocol.specs.declared.state.State.{State}
use Rattle.protocol.specs.declared.state.State.TheVariants.{I, S, E, O, M}

-- The byte of a state.
unfoldable pub code : State → ℕ
code I = 0
code (S Through) = 1
code (E Through) = 2
code (S Back) = 9
code (E Back) = 10
code O = 11
code M = 12

-- The state of a byte; a byte other than the seven is no state.
unfoldable pub state_of : ℕ → Option State
state_of b =
    cond (eqb b 0) (Some I)
    (cond (eqb b 1) (Some (S Through))
    (cond (eqb b 2) (Some (E Through))
    (cond (eqb b 9) (Some (S Back))
    (cond (eqb b 10) (Some (E Back))
    (cond (eqb b 11) (Some O)
    (cond (eqb b 12) (Some M) None))))))

abbrev pub is_state : Option State → Bool
is_state (Some s) = true
is_state None = false

-- A byte that is no state is read as I. No rule is asked there: a step refuses such a byte first.
abbrev pub or_invalid : Option State → State
or_invalid (Some s) = s
or_invalid None = I

-- Not I.
abbrev pub valid : State → Bool
valid I = false
valid (S m) = true
valid (E m) = true
valid O = true
valid M = true

-- O or M: memory may lack the word.
abbrev pub owner : State → Bool
owner I = false
owner (S m) = false
owner (E m) = false
owner O = true
owner M = true

-- E or M. (Where the audit says yes, no other port holds the line.)
abbrev pub exclusive : State → Bool
exclusive I = false
exclusive (S m) = false
exclusive (E m) = true
exclusive O = false
exclusive M = true

abbrev pub is_e : State → Bool
is_e I = false
is_e (S m) = false
is_e (E m) = true
is_e O = false
is_e M = false

abbrev pub is_o : State → Bool
is_o I = false
is_o (S m) = false
is_o (E m) = false
is_o O = true
is_o M = false

-- The mode of a state; O and M are write back. I has none: this is asked of holders only.
abbrev pub mode_of : State → Mode
mode_of I = Through
mode_of (S m) = m
mode_of (E m) = m
mode_of O = Back
mode_of M = Back

abbrev pub same_mode : Mode → Mode → Bool
same_mode Through Through = true
same_mode Through Back = false
same_mode Back Through = false
same_mode Back Back = true

abbrev pub is_back : Mode → Bool
is_back Through = false
is_back Back = true

abbrev pub is_through : Mode → Bool
is_through m = not (is_back m)

-- The numbers below n that pass a test, as bits.
abbrev pub bits_below : (ℕ → Bool) → ℕ → ℕ
bits_below f zero = 0
bits_below f (suc n) = bits_below f n + bit (f n) * 2 ^ n

-- What `state_of` says of the bytes below 16, in three lanes of 16 bits: that byte b isn't I, that it is O or M, that it is no state.
unfoldable pub state_row : ℕ
unfolding state_of
state_row =
    bits_below (λ b. valid (or_invalid (state_of b))) 16
    + 65536 * bits_below (λ b. owner (or_invalid (state_of b))) 16
    + 4294967296 * bits_below (λ b. not (is_state (state_of b))) 16

-- The cases of the published tables, a row for each; which of them can arise, and which do on tables that pass the audit.
use Rattle.std.specs.Prelude.{ℕ, ◌+◌, ◌-◌, ◌*◌, ◌/◌, ◌%◌, Bool, true, cond, ◌&&◌, not, eqb, ltb}
use Rattle.words.specs.Bools.{implies, bit}
use Rattle.words.specs.declared.access.Outcome.{Outcome}
use Rattle.words.specs.declared.access.Outcome.TheVariants.{Reads, Writes, Rewrites}
use Rattle.protocol.specs.declared.state.Mode.TheVariants.{Through, Back}
use Rattle.protocol.specs.declared.state.State.{State}
use Rattle.protocol.specs.declared.state.State.TheVariants.{I, S, E, O, M}
use Rattle.protocol.specs.declared.rules.Bus.{Bus}
use Rattle.protocol.specs.declared.rules.Bus.TheVariants.{Quiet, Share, Update, Invalidate, ShareOwned}
use Rattle.protocol.specs.State.{valid, owner, exclusive, mode_of, is_through}
use Rattle.protocol.specs.Coded.{bus_number, bus_at, mode_number, mode_at}
-- What a row is of (src/lib.rt). Its variants go by these names here: an order of the model is a Flush, a DeviceRead or a DeviceWrite too.
pub use Rattle.rows.specs.declared.Case.{Case}
pub use Rattle.rows.specs.declared.Case.TheVariants.{Own as own, Snoop as snoop, TakeOver as take_over, Flush as flush, DeviceWrite as device_write, DeviceRead as device_read}

-- Where the port is an owner the line is dirty; where it is none, and the line is dirty, another port holds it.
unfoldable pub arises : Bool → Bool → State → Bool
arises shared dirty s = cond (owner s) dirty (implies dirty shared)

-- The cases that have a row. (A port in I hears nothing.)
unfoldable pub printed : Case → Bool
printed (own k m shared dirty s) = arises shared dirty s
printed (snoop b s) = valid s
printed (take_over s) = true
printed (flush s) = true
printed (device_write dirty) = true
printed device_read = true

-- Held in write through.
abbrev pub held_through : State → Bool
held_through s = valid s && is_through (mode_of s)

-- On tables that pass the audit besides: a port in E or M is the only holder, and one in write through has no owner beside it.
unfoldable pub own_audited : Bool → Bool → State → Bool
own_audited shared dirty s = arises shared dirty s && implies (exclusive s) (not shared) && implies (held_through s) (not dirty)

-- On such tables a port that sends on a hit holds the line beside the hearer, so neither is in E or M; and it sends that all share in write back only
-- where it is in write through. The other commands are sent on a miss too, or by a device.
unfoldable pub snoop_audited : Bus → State → Bool
snoop_audited Quiet s = not (exclusive s)
snoop_audited (Share Through) s = true
snoop_audited (Share Back) s = not (exclusive s) && held_through s
snoop_audited (Update m) s = not (exclusive s)
snoop_audited Invalidate s = true
snoop_audited ShareOwned s = true

-- The cases that tables which pass the audit have.
unfoldable pub audited : Case → Bool
audited (own k m shared dirty s) = own_audited shared dirty s
audited (snoop b s) = valid s && snoop_audited b s
audited (take_over s) = true
audited (flush s) = true
audited (device_write dirty) = true
audited device_read = true

-- The outcomes and the seven states in the order of the tables, by number.
abbrev pub outcome_number : Outcome → ℕ
outcome_number Reads = 0
outcome_number Writes = 1
outcome_number Rewrites = 2

abbrev pub state_number : State → ℕ
state_number I = 0
state_number (S Through) = 1
state_number (E Through) = 2
state_number (S Back) = 3
state_number (E Back) = 4
state_number O = 5
state_number M = 6

unfoldable pub outcome_in_turn : ℕ → Outcome
outcome_in_turn n = cond (eqb n 0) Reads (cond (eqb n 1) Writes Rewrites)

unfoldable pub state_in_turn : ℕ → State
state_in_turn n =
    cond (eqb n 0) I
    (cond (eqb n 1) (S Through)
    (cond (eqb n 2) (E Through)
    (cond (eqb n 3) (S Back)
    (cond (eqb n 4) (E Back)
    (cond (eqb n 5) O M)))))

-- The cases in the order of the tables, those that have no row among them: an access's outcome, mode, shared, dirty and state are digits of its number,
-- the last one lowest; then come commands and states, and so on. How many they are, and which case stands at a number.
abbrev pub cases : ℕ
cases = 227

unfoldable pub case_number : Case → ℕ
case_number (own k m shared dirty s) = (((outcome_number k * 2 + mode_number m) * 2 + bit shared) * 2 + bit dirty) * 7 + state_number s
case_number (snoop b s) = 168 + (bus_number b * 6 + (state_number s - 1))
case_number (take_over s) = 210 + state_number s
case_number (flush s) = 217 + state_number s
case_number (device_write dirty) = 224 + bit dirty
case_number device_read = 226

abbrev pub own_at : ℕ → Case
own_at k = own (outcome_in_turn (k / 56)) (mode_at (k / 28 % 2)) (eqb (k / 14 % 2) 1) (eqb (k / 7 % 2) 1) (state_in_turn (k % 7))

abbrev pub snoop_at : ℕ → Case
snoop_at k = snoop (bus_at (k / 6)) (state_in_turn (k % 6 + 1))

unfoldable pub case_at : ℕ → Case
case_at k =
    cond (ltb k 168) (own_at k)
    (cond (ltb k 210) (snoop_at (k - 168))
    (cond (ltb k 217) (take_over (state_in_turn (k - 210)))
    (cond (ltb k 224) (flush (state_in_turn (k - 217)))
    (cond (ltb k 226) (device_write (eqb k 225))
    device_read))))

-- Two cases with one number. (A holder in I has no number of its own, and no row.)
abbrev pub same_case : Case → Case → Bool
same_case c d = eqb (case_number c) (case_number d)

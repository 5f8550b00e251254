-- The five letters of the old edition, their bytes, and what becomes of a state byte on the way to the new edition and on the way back.
use Rattle.std.specs.Prelude.{ℕ, Bool, cond, eqb, Option, Some, None, Result, Ok, Err}
use Rattle.std.specs.Result.{result_unwrap_or}
use Rattle.refusals.specs.declared.Refusal.{Refusal}
use Rattle.refusals.specs.declared.Refusal.TheVariants.{State as NoState, Through as InThrough}
use Rattle.refusals.specs.Numbers.{refusal_in}
use Rattle.protocol.specs.declared.state.Mode.{Mode}
use Rattle.protocol.specs.declared.state.Mode.TheVariants.{Through, Back}
use Rattle.protocol.specs.declared.state.State.{State}
use Rattle.protocol.specs.declared.state.State.TheVariants.{I, S, E, O, M}
use Rattle.protocol.specs.State.{code, state_of}
use Rattle.letters.specs.declared.Letter.{Letter}
use Rattle.letters.specs.declared.Letter.TheVariants.{Invalid, Shared, Exclusive, Owned, Modified}
use Rattle.letters.specs.declared.Way.{Way}
use Rattle.letters.specs.declared.Way.TheVariants.{ToNew, ToOld}

-- The byte of a letter.
abbrev pub letter_code : Letter → ℕ
letter_code Invalid = 0
letter_code Shared = 1
letter_code Exclusive = 2
letter_code Owned = 3
letter_code Modified = 4

-- The letter of an old byte; a byte above 4 has none.
unfoldable pub letter_of : ℕ → Option Letter
letter_of b =
    cond (eqb b 0) (Some Invalid)
    (cond (eqb b 1) (Some Shared)
    (cond (eqb b 2) (Some Exclusive)
    (cond (eqb b 3) (Some Owned)
    (cond (eqb b 4) (Some Modified) None))))

-- The state that a letter is in the new edition: every held entry is in write back.
abbrev pub in_back : Letter → State
in_back Invalid = I
in_back Shared = S Back
in_back Exclusive = E Back
in_back Owned = O
in_back Modified = M

-- What becomes of a byte: the byte of the other edition, or a refusal.
abbrev pub Converted : Type 0
Converted = Result ℕ Refusal

-- What becomes of an old byte in the new edition.
abbrev pub to_new : Option Letter → Converted
to_new (Some l) = Ok (code (in_back l))
to_new None = Err NoState

-- What becomes of a letter with a mode: the old edition has no write through.
abbrev pub without_mode : Mode → Letter → Converted
without_mode Through l = Err InThrough
without_mode Back l = Ok (letter_code l)

-- What becomes of a state in the old edition. O and M are write back.
abbrev pub lettered : State → Converted
lettered I = Ok (letter_code Invalid)
lettered (S m) = without_mode m Shared
lettered (E m) = without_mode m Exclusive
lettered O = Ok (letter_code Owned)
lettered M = Ok (letter_code Modified)

-- What becomes of a new byte in the old edition.
abbrev pub to_old : Option State → Converted
to_old (Some s) = lettered s
to_old None = Err NoState

-- What becomes of a state byte, by the way that it goes.
unfoldable pub converted : Way → ℕ → Converted
converted ToNew b = to_new (letter_of b)
converted ToOld b = to_old (state_of b)

-- It is no state of its own edition.
abbrev pub is_no_state : Converted → Bool
is_no_state c = eqb (refusal_in c) 10

-- It is a state in write through, which the old edition lacks.
abbrev pub is_in_through : Converted → Bool
is_in_through c = eqb (refusal_in c) 11

-- The byte that it becomes. Where there is none, this is 0, and nothing is written: the conversion is refused.
abbrev pub byte_from : Converted → ℕ
byte_from c = result_unwrap_or c 0

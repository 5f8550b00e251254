-- Sets of ports as numbers, a bit for each port; and what the ports say of a line, in that form.
use Rattle.std.specs.Prelude.{ℕ, zero, suc, ◌+◌, ◌*◌, ◌/◌, ◌%◌, ◌^◌, ◌<◌, ◌≡◌, Bool, true, cond, ◌&&◌, ◌||◌, not, List, get_or, eqb, ltb, Result, Ok, Err}
use Rattle.words.specs.Bools.{bit}
use Rattle.protocol.specs.declared.state.State.TheVariants.{I}
use Rattle.protocol.specs.State.{state_of, or_invalid, is_state, valid, owner}
use Rattle.shape.specs.declared.Shape.{Shape}
use Rattle.shape.specs.declared.Place.{Place}
use Rattle.shape.specs.Shape.{entry_of}
use Rattle.model.specs.Tables.{Model, holds, owns, column_sound}
use Rattle.ports.specs.declared.survey.Masks.{Masks}
use Rattle.ports.specs.declared.survey.Look.{Look}
use Rattle.ports.specs.declared.survey.Unsound.{Unsound}
use Rattle.ports.specs.Line.{line_of}

-- The n ports from a on that pass the test: bit 0 is port a's.
unfoldable pub ports_from : (ℕ → Bool) → ℕ → ℕ → ℕ
ports_from f a zero = 0
ports_from f a (suc n) = bit (f a) + 2 * ports_from f (suc a) n

-- Port p is in a mask.
unfoldable pub in_mask : ℕ → ℕ → Bool
in_mask m p = eqb (m / 2 ^ p % 2) 1

-- The mask has ports alone that are there and hold line a.
pub record OfHolders (s : Shape) (t : Model) (a m : ℕ) : Type 0 where
  pub ports : m ≡ ports_from (in_mask m) 0 s.ports
  pub hold : (p : ℕ) → p < s.ports → in_mask m p ≡ true → holds s t a p ≡ true

-- Every port's byte at the line's index is a state.
abbrev pub AllStates : Shape → ℕ → List ℕ → Type 0
AllStates s a states = (p : ℕ) → p < s.ports → is_state (state_of (get_or states (entry_of s a p) 0)) ≡ true

-- Three masks in one number, 16 bits for each.
abbrev pub lanes : ℕ → ℕ → ℕ → ℕ
lanes x y z = x + 65536 * y + 4294967296 * z

-- What a byte says, by whether its entry has the line's tag and whether that tag is below the limit: that it holds the line, that it owns
-- it, that it is unsound; a bit in each of three lanes.
abbrev pub says_of : Bool → Bool → ℕ → ℕ
says_of here near b =
    let seen = cond here (or_invalid (state_of b)) I in
    lanes (bit (valid seen)) (bit (owner seen)) (bit (not (is_state (state_of b) && (not (valid (or_invalid (state_of b))) || near))))

-- What an entry with tag t and byte b says of the line at a place.
unfoldable pub look_lanes : Place → ℕ → ℕ → ℕ
look_lanes x t b = says_of (eqb t x.tag) (ltb t x.limit) b

-- What the ports say of line a: those that hold the line, and those that own it.
unfoldable pub masks_of : Shape → Model → ℕ → Masks
masks_of s t a = record { holders = ports_from (holds s t a) 0 s.ports; owners = ports_from (owns s t a) 0 s.ports }

-- The same, an error where an entry at the line's index is unsound.
unfoldable pub sound_masks : Shape → Model → ℕ → Result Masks Masks
sound_masks s t a = cond (column_sound s t a) (Ok (masks_of s t a)) (Err (masks_of s t a))

-- The line, and what the ports say of it; an error, which says as much, where an entry at the line's index is unsound.
unfoldable pub look_of : Shape → Model → ℕ → Result Look Unsound
look_of s t a =
    let l : Look = record { line = line_of s a; said = masks_of s t a } in
    cond (column_sound s t a) (Ok l) (Err (record { look = l }))

-- What is proved of the bytes on either way. The proofs are in proofs/Letters.antt.
use Rattle.std.specs.Prelude.{ℕ, ◌<◌, ◌≡◌, false, [], ◌∷◌, map, Ok, Err}
use Rattle.refusals.specs.declared.Refusal.TheVariants.{State as NoState, Through as InThrough}
use Rattle.protocol.specs.State.{state_of, is_state}
use Rattle.letters.specs.declared.Way.{Way}
use Rattle.letters.specs.declared.Way.TheVariants.{ToNew, ToOld}
use Rattle.letters.specs.Letters.{Converted, converted, is_no_state, is_in_through, byte_from}

-- What becomes of each byte, in numbers: of an old byte, and of a new one.
pub record EveryByte : Type 0 where
  pub letters : map (converted ToNew) (0 ∷ 1 ∷ 2 ∷ 3 ∷ 4 ∷ []) ≡ Ok 0 ∷ Ok 9 ∷ Ok 10 ∷ Ok 11 ∷ Ok 12 ∷ []
  pub above_4 : (b : ℕ) → 4 < b → converted ToNew b ≡ Err NoState
  pub states : map (converted ToOld) (0 ∷ 9 ∷ 10 ∷ 11 ∷ 12 ∷ []) ≡ Ok 0 ∷ Ok 1 ∷ Ok 2 ∷ Ok 3 ∷ Ok 4 ∷ []
  pub in_through : map (converted ToOld) (1 ∷ 2 ∷ []) ≡ Err InThrough ∷ Err InThrough ∷ []
  pub no_state_lem : (b : ℕ) → is_state (state_of b) ≡ false → converted ToOld b ≡ Err NoState

-- It becomes a byte of the other edition.
abbrev pub Becomes : Converted → Type 0
Becomes c = (is_no_state c ≡ false) × (is_in_through c ≡ false)

-- The other way.
abbrev pub other_way : Way → Way
other_way ToNew = ToOld
other_way ToOld = ToNew

-- What a byte becomes, becomes that byte again.
abbrev pub ByteReturns : Type 0
ByteReturns = (way : Way) (b : ℕ) → Becomes (converted way b) → converted (other_way way) (byte_from (converted way b)) ≡ Ok b

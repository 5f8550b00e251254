-- Where a line's word stands, and what the view shows of it.
use Rattle.std.specs.Prelude.{ℕ, Option, Some, None, Result, Ok, Err, cond, List, [], ◌∷◌, eqb, leb}
use Rattle.shape.specs.declared.Shape.{Shape}
use Rattle.refusals.specs.declared.Refusal.{Refusal}
use Rattle.refusals.specs.Numbers as refusals
use Rattle.model.specs.Below.{Lowest, none, number, lowest}
use Rattle.model.specs.Tables.{Model, lent_refusal, word_at, memory_at, holds, column_sound}

-- Where a line's word stands: the lowest-numbered port that holds the line, or main memory; or the number of the refusal.
pub data Found : Type 0 where
  Refused : ℕ → Found
  Holder : ℕ → Found
  Memory : Found

-- The code's answer as such: the port, or none where the word stands in memory.
abbrev pub found : Result (Option ℕ) Refusal → Found
found (Ok (Some p)) = Holder p
found (Ok None) = Memory
found (Err r) = Refused (refusals.number r)

abbrev pub holder_or : Lowest → Found
holder_or none = Memory
holder_or (number p) = Holder p

-- Refusal 2, 3, 12, 6 or 8, in checking order, else the lowest-numbered holder, else memory.
unfoldable pub find : Shape → Model → ℕ → Found
find s t a =
    cond (eqb (lent_refusal s t) 0)
    (cond (leb s.lines a) (Refused 6)
    (cond (column_sound s t a) (holder_or (lowest (holds s t a) s.ports))
    (Refused 8)))
    (Refused (lent_refusal s t))

-- The refusal of finding, in checking order, else 0.
unfoldable pub find_refusal : Shape → Model → ℕ → ℕ
find_refusal s t a =
    cond (eqb (lent_refusal s t) 0) (cond (leb s.lines a) 6 (cond (column_sound s t a) 0 8)) (lent_refusal s t)

-- The number of each of finding's answers.
abbrev pub found_refusal : Found → ℕ
found_refusal (Refused n) = n
found_refusal (Holder p) = 0
found_refusal Memory = 0

-- The words that the view hands back: none on a refusal, else the one that finding names.
abbrev pub words_of : Shape → Model → ℕ → Found → List ℕ
words_of s t a (Refused n) = []
words_of s t a (Holder p) = word_at s t a p ∷ []
words_of s t a Memory = memory_at t a ∷ []

unfoldable pub view : Shape → Model → ℕ → List ℕ
view s t a = words_of s t a (find s t a)

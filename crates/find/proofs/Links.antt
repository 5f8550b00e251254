-- Line a's entries in tables of words: their numbers, and that they are there. Assumes nothing.
use Prim.Native.Nat.{ℕ, ◌<◌}
use mathlib.Core.Path.{◌≡◌, sym, ◌∙◌}
use mathlib.Core.Bool.{true}
use mathlib.Core.List.{List}
use lib.ListN.{length}
use native.Mathlib.Nat.{mod-lt}
use Rattle.shape.specs.declared.Shape.{Shape}
use Rattle.shape.specs.declared.Place.{Place}
use Rattle.shape.specs.Shape.{in_range, refusal_of, entry_number, entry_of, place_of}
use Rattle.model.specs.Tables.{model, lent_refusal}
use Rattle.shape.proofs.Bounds.{some_sets}
use Rattle.model.proofs.Lent.{Lent, lent_facts}

-- The index of a line's place, and the number of a port's entry there.
pub index_below : (s : Shape) (a : ℕ) {x : Place} → x ≡ place_of s a → in_range s ≡ true → x.index < s.sets
unfolding place_of
index_below s a e h = rw e (mod-lt a (some_sets s h))

pub number_is : (s : Shape) (a p : ℕ) {x : Place} → x ≡ place_of s a → {k : ℕ} → k ≡ entry_number s p x.index → k ≡ entry_of s a p
unfolding place_of
number_is s a p e n = n ∙ rw e

-- What is lent without a refusal is in range, and has the shape's sizes.
pub fitting : (s : Shape) (m g h w : List ℕ) → 0 ≡ refusal_of s (length m) (length g) (length h) (length w) → Lent s (model m g h w)
unfolding lent_refusal
fitting s m g h w e = lent_facts s (model m g h w) (sym e)

-- One port's entry, tested as the code does; and the search for the lowest-numbered holder. Assumes nothing.
use Prim.Native.Nat.{ℕ, ◌<◌, ◌≤◌}
use mathlib.Core.Path.{◌≡◌, refl, ap, sym}
use mathlib.Core.Bool.{Bool, true, false, cond, ◌&&◌, ◌||◌, not}
use mathlib.Core.List.{List, []}
use lib.ListN.{get_or}
use lib.Dec.{eqb, ltb}
use native.Mathlib.Nat.{mod-lt}
use Rattle.protocol.specs.declared.state.State.{State}
use Rattle.protocol.specs.declared.state.State.TheVariants.{I}
use Rattle.protocol.specs.State.{state_of, or_invalid, is_state, valid}
use Rattle.shape.specs.declared.Shape.{Shape}
use Rattle.shape.specs.declared.Place.{Place}
use Rattle.shape.specs.Shape.{in_range, entry_number, index_of, tag_of, entry_of, place_of}
use Rattle.model.specs.Tables.{model, sound, seen, holds}
use Rattle.model.specs.Below.{lowest}
use Rattle.model.specs.Find.{Holder, Memory}
use Rattle.model.specs.Find.{holder_or}
use Rattle.shape.proofs.Bounds.{limit_is, some_sets}
use Rattle.model.proofs.Entries.{entry_index}
use Rattle.model.proofs.Loops.{Searching, searching_found, searching_done}
use Rattle.find.proofs.Links.{number_is}

valid_here : (b : Bool) (x : State) → (b && valid x) ≡ valid (cond b x I)
valid_here true x = refl
valid_here false x = refl

-- Port p's entry for line a in tables of tags g and states h: x is the line's place, k the entry's number, and v says that its state isn't I.
module _ (s : Shape) (g h : List ℕ) (a p : ℕ) {x : Place} (e : x ≡ place_of s a) {k : ℕ} (n : k ≡ entry_number s p x.index) {v : Bool}
    (ev : v ≡ valid (or_invalid (state_of (get_or h k 0)))) where
  ek : k ≡ entry_of s a p
  ek = number_is s a p e n

  pub holds_is : (eqb (get_or g k 0) x.tag && v) ≡ holds s (model [] g h []) a p
  unfolding seen place_of
  holds_is = rw (ev, ek, e) (valid_here (eqb (get_or g (entry_of s a p) 0) (tag_of s a)) (or_invalid (state_of (get_or h (entry_of s a p) 0))))

  pub sound_is : in_range s ≡ true → {u : Bool} → u ≡ is_state (state_of (get_or h k 0))
      → (u && (not v || ltb (get_or g k 0) x.limit)) ≡ sound s (model [] g h []) (entry_of s a p)
  unfolding sound place_of
  sound_is r eu =
      let pos = some_sets s r in
      rw (eu, ev, ek, e, entry_index s pos a p, limit_is (get_or g (entry_of s a p) 0) s.sets (index_of s a) s.lines (mod-lt a pos))

module _ {f : ℕ → Bool} {n p : ℕ} (v : Searching f n p) where
  pub holder_found : {b : Bool} → p < n → b ≡ f p → b ≡ true → Holder p ≡ holder_or (lowest f n)
  holder_found h e u = ap holder_or (sym (searching_found f v h e u))

  pub holder_none : n ≤ p → Memory ≡ holder_or (lowest f n)
  holder_none h = ap holder_or (sym (searching_done f v h))

-- The tests of two entries and of one, by their ways out. Assumes nothing.
use Prim.Native.Nat.{ℕ, ◌+◌, ◌*◌, ◌<◌, ◌≤◌}
use mathlib.Core.Path.{◌≡◌, ap, ◌∙◌}
use mathlib.Core.Logic.{◌≢◌}
use mathlib.Core.Bool.{Bool, true, false, ◌||◌, not}
use lib.ListN.{get_or}
use lib.Dec.{eqb}
use borrow.Author.Tests.{not-true, not-false, le-leb, lt-leb, eq-eqb, ne_eqb}
use Rattle.shape.specs.declared.Shape.{Shape}
use Rattle.shape.specs.Shape.{entry_number}
use Rattle.model.specs.Tables.{Model, memory_at}
use Rattle.audit.specs.declared.Held.{Held}
use Rattle.audit.specs.Entries.{held_at, held_by, goes_with, pair_passes, below_pass, owned_at, is_owner, passes_with, entry_passes}

-- Another port's entry has another tag, or goes with e.
module _ (e : Held) (t : Model) (k : ℕ) where
  pub pair_away : get_or t.tags k 0 ≢ e.tag → true ≡ pair_passes e (held_at t k)
  unfolding pair_passes held_at
  pair_away d = rw (ne_eqb (get_or t.tags k 0) e.tag d)

  pub pair_here : get_or t.tags k 0 ≡ e.tag → {f : Held} → f ≡ held_at t k → {b : Bool} → b ≡ goes_with e f → b ≡ pair_passes e (held_at t k)
  unfolding pair_passes held_at
  pair_here g i c = rw (eq-eqb (get_or t.tags k 0) e.tag g) (c ∙ ap (goes_with e) i)

-- One entry: it is I or no state; its home line isn't there; a lower port's entry doesn't go with it; memory has its word or it is an
-- owner; or there is no telling but from the other ports.
module _ (s : Shape) (t : Model) (x p : ℕ) {k : ℕ} (number : k ≡ entry_number s p x) {e : Held} (read : e ≡ held_at t k) where
  g : e ≡ held_by s t x p
  g = read ∙ ap (held_at t) number

  pub tested_free : e.class < 8 → eqb e.class 0 ≡ entry_passes s t x p
  unfolding entry_passes passes_with
  tested_free l = rw (← g, lt-leb 8 e.class l)

  module _ (v : 8 ≤ e.class) {home : ℕ} (a : home ≡ e.tag * s.sets + x) where
    pub tested_far : s.lines ≤ home → false ≡ entry_passes s t x p
    unfolding entry_passes passes_with
    tested_far l = rw (← g, le-leb 8 e.class v, ← a, le-leb s.lines home l)

    module _ (l : home < s.lines) {b : Bool} (c : b ≡ below_pass s t x p e) where
      pub tested_apart : not b ≡ true → false ≡ entry_passes s t x p
      unfolding entry_passes passes_with
      tested_apart n = rw (← g, le-leb 8 e.class v, ← a, lt-leb s.lines home l, ← c, not-true b n)

      module _ (n : not b ≡ false) {w : ℕ} (m : memory_at t home ≡ w) {z : Bool} (o : z ≡ is_owner e.class) where
        pub tested_kept : (eqb e.word w || z) ≡ true → true ≡ entry_passes s t x p
        unfolding entry_passes passes_with
        tested_kept k = rw (← g, le-leb 8 e.class v, ← a, lt-leb s.lines home l, ← c, not-false b n, m, ← o, k)

        pub tested_owned : (eqb e.word w || z) ≡ false → {r : Bool} → r ≡ owned_at s t.tags t.states x e.tag → r ≡ entry_passes s t x p
        unfolding entry_passes passes_with
        tested_owned k d = rw (← g, le-leb 8 e.class v, ← a, lt-leb s.lines home l, ← c, not-false b n, m, ← o, k) d

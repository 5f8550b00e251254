-- What the loops over a state table keep, and a number of a mapped list. Assumes nothing.
use Prim.Native.Nat.{ℕ, zero, suc, ◌+◌, ◌<◌, ◌≤◌}
use mathlib.Core.Path.{◌≡◌, refl, sym, ap, subst, ◌∙◌}
use mathlib.Core.Bool.{Bool, true, false, cond, ◌||◌}
use mathlib.Core.List.{List, [], ◌∷◌, ◌++◌, map}
use native.Mathlib.Omega.{arith}
use native.Mathlib.Numerals.{add-one}
use lib.ListN.{get_or, set, length, take, drop, length-map}
use Rattle.std.proofs.lemmas.List.{take_all, drop_all, append-nil, map-id}
use Rattle.std.specs.Prelude.{Result, Ok}
use Rattle.refusals.specs.declared.Refusal.{Refusal}
use Rattle.refusals.specs.Numbers.{refusal_in}
use Rattle.model.specs.Below.{any_below}
use Rattle.model.proofs.Loops.{Seeking, seeking_none, seeking_more, seeking_done}

-- A number of a mapped list.
pub get-map : (f : ℕ → ℕ) (l : List ℕ) (k : ℕ) → k < length l → get_or (map f l) k 0 ≡ f (get_or l k 0)
get-map f [] k h = absurd (omega arith)
get-map f (x ∷ l) zero h = refl
get-map f (x ∷ l) (suc k) h = get-map f l k (omega arith)

-- The next number of a mapped list, written behind the first k.
pub map_next : (f : ℕ → ℕ) (k : ℕ) (l d : List ℕ) → k < length l → length d ≡ length l
    → set (take k (map f l) ++ drop k d) k (f (get_or l k 0)) ≡ take (k + 1) (map f l) ++ drop (k + 1) d
map_next f k l d h e = rw (add-one k) (next k l d h e)
  where
    next : (k : ℕ) (l d : List ℕ) → k < length l → length d ≡ length l
        → set (take k (map f l) ++ drop k d) k (f (get_or l k 0)) ≡ take (suc k) (map f l) ++ drop (suc k) d
    next k [] d h e = absurd (omega arith)
    next k (x ∷ l) [] h e = absurd (omega (arith, e))
    next zero (x ∷ l) (y ∷ d) h e = refl
    next (suc k) (x ∷ l) (y ∷ d) h e = ap (λ (z : List ℕ). f x ∷ z) (next k l d (omega arith) (omega (arith, e)))

pub map_done : (f : ℕ → ℕ) (k : ℕ) (l d : List ℕ) → length l ≤ k → length d ≤ k → take k (map f l) ++ drop k d ≡ map f l
map_done f k l d h e =
    rw (take_all k (map f l) (omega (arith, length-map l f)), drop_all k d e) (append-nil (map f l))

-- The next number of a list as it is, written behind the first k.
pub copy_next : (k : ℕ) (l d : List ℕ) → k < length l → length d ≡ length l
    → set (take k l ++ drop k d) k (get_or l k 0) ≡ take (k + 1) l ++ drop (k + 1) d
copy_next k l d h e =
    subst (λ (m : List ℕ). set (take k m ++ drop k d) k (get_or l k 0) ≡ take (k + 1) m ++ drop (k + 1) d) (map-id l)
    (map_next (λ (b : ℕ). b) k l d h e)

pub copy_done : (k : ℕ) (l d : List ℕ) → length l ≤ k → length d ≤ k → take k l ++ drop k d ≡ l
copy_done k l d h e =
    subst (λ (m : List ℕ). take k m ++ drop k d ≡ m) (map-id l) (map_done (λ (b : ℕ). b) k l d h e)

-- None of the first k of n numbers passes the first test, and what was found is 11 where one passes the second.
pub record Asking (f g : ℕ → Bool) (n k : ℕ) (found : Result (Unit {0}) Refusal) : Type 0 where
  pub seeking : Seeking f n k
  pub said : refusal_in found ≡ cond (any_below g k) 11 0

pub asking_none : (f g : ℕ → Bool) (n : ℕ) → Asking f g n 0 (Ok tt)
unfolding any_below
asking_none f g n = record { seeking = seeking_none f n; said = refl }

through_more : (a c : Bool) (m n : ℕ) → m ≡ cond a 11 0 → n ≡ cond c 11 m → n ≡ cond (a || c) 11 0
through_more true true m n e d = d
through_more true false m n e d = d ∙ e
through_more false true m n e d = d
through_more false false m n e d = d ∙ e

module _ (f g : ℕ → Bool) {n k : ℕ} {found : Result (Unit {0}) Refusal} (v : Asking f g n k found) where
  pub asking_more : {next : Result (Unit {0}) Refusal} → k < n → f k ≡ false → refusal_in next ≡ cond (g k) 11 (refusal_in found) → Asking f g n (k + 1) next
  unfolding any_below
  asking_more {next} h u z = record {
    seeking = seeking_more f v.seeking h (sym u) refl;
    said = rw (add-one k) (through_more (any_below g k) (g k) (refusal_in found) (refusal_in next) v.said z);
  }

  pub asking_done : n ≤ k → (false ≡ any_below f n) × (refusal_in found ≡ cond (any_below g n) 11 0)
  asking_done h =
      let e : k ≡ n = omega (arith, v.seeking.failing.below) in
      (seeking_done f v.seeking h, v.said ∙ ap (λ (j : ℕ). cond (any_below g j) 11 0) e)

-- The conversion of tables, by its returns, and there and back. Assumes nothing.
use Prim.Native.Nat.{ℕ, ◌+◌, ◌<◌, ◌≤◌}
use mathlib.Core.Path.{◌≡◌, refl, sym, ap, subst, ◌∙◌}
use mathlib.Core.Logic.{◌≢◌, ◌⊎◌, inl, inr}
use mathlib.Core.Bool.{Bool, true, false, cond, ◌&&◌, not}
use mathlib.Core.List.{List, map}
use native.Mathlib.Omega.{arith}
use lib.Dec.{eqb}
use lib.ListN.{get_or, length}
use borrow.Author.Tests.{eq-eqb, ne_eqb, not-true, not-false}
use Rattle.std.specs.Prelude.{Option, Some, None, Result, Ok, Err, ⊤}
use Rattle.words.proofs.Bools.{Is, and_l, and_r, by_cond}
use Rattle.refusals.specs.declared.Refusal.{Refusal}
use Rattle.refusals.specs.declared.Refusal.TheVariants.{State as NoState, Through as InThrough}
use Rattle.refusals.specs.Numbers.{number, refusal_in}
use Rattle.protocol.specs.declared.state.Mode.{Mode}
use Rattle.protocol.specs.declared.state.Mode.TheVariants.{Through, Back}
use Rattle.protocol.specs.declared.state.State.{State}
use Rattle.protocol.specs.declared.state.State.TheVariants.{I, S, E, O, M}
use Rattle.protocol.specs.State.{state_of}
use Rattle.shape.specs.declared.Shape.{Shape}
use Rattle.shape.specs.Shape.{in_range}
use Rattle.model.specs.Below.{any_below}
use Rattle.model.proofs.Below.{none_below, below_none}
use Rattle.model.proofs.Loops.{seeking_found}
use Rattle.lengths.specs.Lengths.{tables_fit}
use Rattle.lengths.proofs.Lengths.{tables_fitting}
use Rattle.letters.specs.declared.Letter.{Letter}
use Rattle.letters.specs.declared.Letter.TheVariants.{Shared, Exclusive}
use Rattle.letters.specs.declared.Way.{Way}
use Rattle.letters.specs.declared.Way.TheVariants.{ToNew, ToOld}
use Rattle.letters.specs.Letters.{Converted, letter_of, to_new, without_mode, to_old, converted, is_no_state, is_in_through, byte_from}
use Rattle.edition.specs.Convert.{Tables, tables, fit, states_refusal, conversion_refusal, moved, conversion, convert}
use Rattle.letters.specs.Claims.{Becomes}
use Rattle.edition.proofs.Loops.{Asking, asking_more, asking_done}

-- A byte that is refused is no state, or it is in write through.
abbrev IsTold : Converted → Type 0
IsTold (Ok b) = ⊤
IsTold (Err r) = (r ≡ NoState) ⊎ (r ≡ InThrough)

told : (way : Way) (b : ℕ) → IsTold (converted way b)
unfolding converted
told ToNew b = of_letter (letter_of b)
  where
    of_letter : (x : Option Letter) → IsTold (to_new x)
    of_letter (Some l) = tt
    of_letter None = inl refl
told ToOld b = of_state (state_of b)
  where
    of_mode : (m : Mode) (l : Letter) → IsTold (without_mode m l)
    of_mode Through l = inr refl
    of_mode Back l = tt

    of_state : (x : Option State) → IsTold (to_old x)
    of_state (Some I) = tt
    of_state (Some (S m)) = of_mode m Shared
    of_state (Some (E m)) = of_mode m Exclusive
    of_state (Some O) = tt
    of_state (Some M) = tt
    of_state None = inl refl

module _ (way : Way) (states : List ℕ) where
  -- The two tests of a byte.
  abbrev pub no_state_at : ℕ → Bool
  no_state_at k = is_no_state (converted way (get_or states k 0))

  abbrev pub in_through_at : ℕ → Bool
  in_through_at k = is_in_through (converted way (get_or states k 0))

  -- What is kept where a byte becomes one of the other edition, and where it is in write through.
  module _ {k : ℕ} {found : Result (Unit {0}) Refusal} (v : Asking no_state_at in_through_at (length states) k found) where
    pub found_no_state : {r : Refusal} → k < length states → converted way (get_or states k 0) ≡ Err r → (r ≡ InThrough → ⊥)
        → number r ≡ states_refusal way states
    unfolding states_refusal
    found_no_state {r} h e u = elim (subst IsTold e (told way (get_or states k 0))) [
      | inl z ↦
          let b : true ≡ no_state_at k = sym (ap is_no_state e ∙ ap (λ (x : Refusal). eqb (number x) 10) z) in
          ap number z ∙ rw (← seeking_found no_state_at v.seeking h b refl)
      | inr z ↦ absurd (u z)
    ]

    pub byte_more : {b : ℕ} → k < length states → converted way (get_or states k 0) ≡ Ok b → Asking no_state_at in_through_at (length states) (k + 1) found
    byte_more h e = asking_more no_state_at in_through_at v h (ap is_no_state e) (rw e)

    pub through_more : {r : Refusal} → k < length states → converted way (get_or states k 0) ≡ Err r → (r ≡ NoState → ⊥)
        → Asking no_state_at in_through_at (length states) (k + 1) (Err r)
    through_more {r} h e u = elim (subst IsTold e (told way (get_or states k 0))) [
      | inl z ↦ absurd (u z)
      | inr z ↦ asking_more no_state_at in_through_at v h (ap is_no_state e ∙ ap (λ (x : Refusal). eqb (number x) 10) z) (rw (e, z))
    ]

    pub found_is : length states ≤ k → refusal_in found ≡ states_refusal way states
    unfolding states_refusal
    found_is h = let d = asking_done no_state_at in_through_at v h in rw (← d.0, ← d.1)

  -- No refusal: every byte becomes one of the other edition.
  pub all_become : states_refusal way states ≡ 0 → (k : ℕ) → k < length states → Becomes (converted way (get_or states k 0))
  unfolding states_refusal
  all_become =
      by_cond (λ n. n ≡ 0 → (k : ℕ) → k < length states → Becomes (converted way (get_or states k 0))) (any_below no_state_at (length states)) _ _
      (λ _ e. absurd (omega (arith, e)))
      (λ p. by_cond (λ n. n ≡ 0 → (k : ℕ) → k < length states → Becomes (converted way (get_or states k 0))) (any_below in_through_at (length states)) _ _
      (λ _ e. absurd (omega (arith, e)))
      (λ q _ k h. (not-true _ (below_none no_state_at (length states) p k h), not-true _ (below_none in_through_at (length states) q k h))))

  pub none_refused : ((k : ℕ) → k < length states → Becomes (converted way (get_or states k 0))) → states_refusal way states ≡ 0
  unfolding states_refusal
  none_refused f =
      rw (
        not-true (any_below no_state_at (length states)) (none_below no_state_at (length states) (λ k h. ap not (f k h).0)),
        not-true (any_below in_through_at (length states)) (none_below in_through_at (length states) (λ k h. ap not (f k h).1)),
      )

-- Tables that fit one shape have the same lengths.
pub same_lengths : (s : Shape) (g h d g' h' d' : ℕ) {given lent : Bool} → given ≡ tables_fit s g h d → lent ≡ tables_fit s g' h' d'
    → not (given && lent) ≡ false → (g' ≡ g) × (h' ≡ h) × (d' ≡ d)
same_lengths s g h d g' h' d' {given} {lent} eg el f =
    let a = tables_fitting s g h d (sym eg ∙ and_l given lent (not-false (given && lent) f)) in
    let b = tables_fitting s g' h' d' (sym el ∙ and_r given lent (not-false (given && lent) f)) in (
      b.0 ∙ sym a.0,
      b.1 ∙ sym a.1,
      b.2 ∙ sym a.2,
    )

-- A call, by its returns: what it has found out by then, and what it returns and leaves.
module _ (way : Way) (s : Shape) (t out : Tables) {b : Bool} (eb : b ≡ in_range s) where
  pub shape_refused : not b ≡ true → conversion 2 out ≡ convert way s t out
  unfolding convert conversion_refusal
  shape_refused h = rw (← eb, not-true b h)

  module _ (r : not b ≡ false) {given lent : Bool} (eg : given ≡ fit s t) (el : lent ≡ fit s out) where
    pub length-refused : not (given && lent) ≡ true → conversion 3 out ≡ convert way s t out
    unfolding convert conversion_refusal
    length-refused h = rw (← eb, not-false b r, ← eg, ← el, not-true (given && lent) h)

    module _ (f : not (given && lent) ≡ false) {n : ℕ} (e : n ≡ states_refusal way t.states) where
      pub states_refused : n ≢ 0 → conversion n out ≡ convert way s t out
      unfolding convert conversion_refusal
      states_refused h = rw (← eb, not-false b r, ← eg, ← el, not-false (given && lent) f, ← e, ne_eqb n 0 h)

      pub tables-moved : n ≡ 0 → {x y z : List ℕ} → x ≡ t.tags → y ≡ map (λ b. byte_from (converted way b)) t.states → z ≡ t.words
          → conversion n (tables x y z) ≡ convert way s t out
      unfolding convert conversion_refusal moved
      tables-moved z ex ey ez = rw (← eb, not-false b r, ← eg, ← el, not-false (given && lent) f, ← e, eq-eqb n 0 z, ex, ey, ez)

-- One law for each return of a call.
pub ruleset call_returns = (shape_refused, length-refused, states_refused, tables-moved)

module _ (way : Way) (s : Shape) (t out : Tables) where
  -- What an accepted call says, and leaves.
  pub record Accepted (left : Tables) : Type 0 where
    pub range : Is (in_range s)
    pub fits : Is (fit s t)
    pub none : states_refusal way t.states ≡ 0
    pub moves : left ≡ moved way t

  pub accepted : (convert way s t out).refusal ≡ 0 → Accepted (convert way s t out).out
  unfolding convert conversion_refusal
  accepted =
      by_cond (λ n. n ≡ 0 → Accepted (cond (eqb n 0) (moved way t) out)) (in_range s) _ _
      (λ r. by_cond (λ n. n ≡ 0 → Accepted (cond (eqb n 0) (moved way t) out)) (fit s t && fit s out) _ _
      (λ f z. record { range = r; fits = and_l (fit s t) (fit s out) f; none = z; moves = rw (eq-eqb _ 0 z) refl })
      (λ _ z. absurd (omega (arith, z))))
      (λ _ z. absurd (omega (arith, z)))

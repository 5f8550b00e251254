-- Where a line's entries lie in the tables, and what a port sees of a line there: the index arithmetic, once. Assumes nothing.
use Prim.Native.Nat.{ℕ, zero, suc, ◌+◌, ◌*◌, ◌/◌, ◌%◌, ◌<◌}
use mathlib.Core.Path.{◌≡◌, refl, sym, ◌∙◌, ap}
use mathlib.Core.Logic.{◌≢◌}
use mathlib.Core.Bool.{Bool, true, false, cond, not, false≢true}
use mathlib.Core.List.{List}
use native.Mathlib.Nat.{mod-lt, div-add-mod'}
use native.Mathlib.Omega.{arith}
use native.Mathlib.Decide.{ℕ_discrete}
use lib.Arith.{digits_lt, digits_div, digits_mod}
use lib.ListN.{get_or, length, length-set}
use lib.Seq.{get_or-set_same, get_or-set_other}
use lib.Dec.{eqb}
use borrow.Author.Tests.{eq-eqb, ne_eqb, eqb-true}
use Rattle.protocol.specs.declared.state.State.{State}
use Rattle.protocol.specs.declared.state.State.TheVariants.{I}
use Rattle.protocol.specs.State.{valid}
use Rattle.words.proofs.Bools.{Is}
use Rattle.shape.specs.declared.Shape.{Shape}
use Rattle.shape.specs.Shape.{entries, entry_number, index_of, tag_of, entry_of}
use Rattle.model.specs.Tables.{Model, state_at, home_at, seen, holds}
use Rattle.model.specs.Step.{put_below}

-- A list after a value was put for each port.
module _ (at f : ℕ → ℕ) where
  pub put_below-length : (n : ℕ) (l : List ℕ) → length (put_below at f n l) ≡ length l
  unfolding put_below
  put_below-length zero l = refl
  put_below-length (suc n) l = length-set (put_below at f n l) (at n) (f n) ∙ put_below-length n l

  pub put_below-other : (n : ℕ) (l : List ℕ) (k : ℕ) → ((q : ℕ) → q < n → k ≢ at q) → get_or (put_below at f n l) k 0 ≡ get_or l k 0
  unfolding put_below
  put_below-other zero l k d = refl
  put_below-other (suc n) l k d =
      get_or-set_other (put_below at f n l) (at n) k (f n) 0 (d n (omega arith)) ∙ put_below-other n l k (λ q h. d q (omega arith))

  pub put_below_same : (n : ℕ) (l : List ℕ) (p : ℕ) → p < n → ((q : ℕ) → at p ≡ at q → p ≡ q) → at p < length l
      → get_or (put_below at f n l) (at p) 0 ≡ f p
  unfolding put_below
  put_below_same zero l p h inj b = absurd (omega arith)
  put_below_same (suc n) l p h inj b =
      elim (ℕ_discrete p n) [
        | yes e ↦ rw e (get_or-set_same (put_below at f n l) (at n) (f n) 0 (rw (put_below-length n l) (rw e at b)))
        | no d ↦ get_or-set_other (put_below at f n l) (at n) (at p) (f n) 0 (λ e. d (inj n e)) ∙ put_below_same n l p (omega arith) inj b
      ]

-- The number of an entry, by its two digits: the port, and the index.
module _ (s : Shape) (pos : zero < s.sets) where
  pub entry_lt : (a p : ℕ) → p < s.ports → entry_of s a p < entries s
  entry_lt a p h = digits_lt h (mod-lt a pos)

  pub entry_index : (a p : ℕ) → entry_of s a p % s.sets ≡ index_of s a
  entry_index a p = digits_mod p (mod-lt a pos)

  pub entry_port : (a p : ℕ) → entry_of s a p / s.sets ≡ p
  entry_port a p = digits_div p (mod-lt a pos)

  pub entry_inj : (a p q : ℕ) → entry_of s a p ≡ entry_of s a q → p ≡ q
  entry_inj a p q e = sym (entry_port a p) ∙ ap (λ k. k / s.sets) e ∙ entry_port a q

  -- A table after a value was put for each port at the line's index: there, and apart from it.
  pub not_entry : (a k : ℕ) → k % s.sets ≢ index_of s a → (p : ℕ) → k ≢ entry_of s a p
  not_entry a k d p e = d (ap (λ x. x % s.sets) e ∙ entry_index a p)

  pub put_at_lem : (a : ℕ) (f : ℕ → ℕ) (l : List ℕ) → length l ≡ entries s → (p : ℕ) → p < s.ports
      → get_or (put_below (entry_of s a) f s.ports l) (entry_of s a p) 0 ≡ f p
  put_at_lem a f l e p h = put_below_same (entry_of s a) f s.ports l p h (entry_inj a p) (rw e (entry_lt a p h))

  pub put_apart : (a : ℕ) (f : ℕ → ℕ) (l : List ℕ) (k : ℕ) → k % s.sets ≢ index_of s a
      → get_or (put_below (entry_of s a) f s.ports l) k 0 ≡ get_or l k 0
  put_apart a f l k d = put_below-other (entry_of s a) f s.ports l k (λ q _. not_entry a k d q)

  pub same_line : (a b : ℕ) → tag_of s a ≡ tag_of s b → index_of s a ≡ index_of s b → a ≡ b
  same_line a b e f = sym (div-add-mod' a s.sets) ∙ rw (e, f) (div-add-mod' b s.sets)

  -- The home line of an entry at the line's index.
  pub home_is : (t : Model) (a p : ℕ) → home_at s t (entry_of s a p) ≡ get_or t.tags (entry_of s a p) 0 * s.sets + index_of s a
  home_is t a p = rw (entry_index a p) refl

  pub home_index : (t : Model) (a p : ℕ) → index_of s (home_at s t (entry_of s a p)) ≡ index_of s a
  home_index t a p = ap (λ x. x % s.sets) (home_is t a p) ∙ digits_mod (get_or t.tags (entry_of s a p) 0) (mod-lt a pos)

  pub home_tag : (t : Model) (a p : ℕ) → tag_of s (home_at s t (entry_of s a p)) ≡ get_or t.tags (entry_of s a p) 0
  home_tag t a p = ap (λ x. x / s.sets) (home_is t a p) ∙ digits_div (get_or t.tags (entry_of s a p) 0) (mod-lt a pos)

-- Memory and tables have the lengths of the shape.
pub record Sized (s : Shape) (t : Model) : Type 0 where
  pub memory : length t.memory ≡ s.lines
  pub tags : length t.tags ≡ entries s
  pub states : length t.states ≡ entries s
  pub words : length t.words ≡ entries s

-- A port that holds a line has its tag.
module _ (s : Shape) (t : Model) (a p : ℕ) where
  held-cond : (b : Bool) (x : State) → Is (valid (cond b x I)) → Is b
  held-cond true x v = refl
  held-cond false x v = absurd (false≢true v)

  pub seen_tag : Is (holds s t a p) → get_or t.tags (entry_of s a p) 0 ≡ tag_of s a
  unfolding seen
  seen_tag v = eqb-true _ _ (held-cond (eqb (get_or t.tags (entry_of s a p) 0) (tag_of s a)) (state_at t (entry_of s a p)) v)

  pub seen_here : get_or t.tags (entry_of s a p) 0 ≡ tag_of s a → seen s t a p ≡ state_at t (entry_of s a p)
  unfolding seen
  seen_here e = rw (eq-eqb (get_or t.tags (entry_of s a p) 0) (tag_of s a) e)

  pub seen_away : get_or t.tags (entry_of s a p) 0 ≢ tag_of s a → seen s t a p ≡ I
  unfolding seen
  seen_away d = rw (ne_eqb (get_or t.tags (entry_of s a p) 0) (tag_of s a) d)

pub seen_cong : (s : Shape) (t t' : Model) (a p : ℕ)
    → get_or t'.tags (entry_of s a p) 0 ≡ get_or t.tags (entry_of s a p) 0
    → get_or t'.states (entry_of s a p) 0 ≡ get_or t.states (entry_of s a p) 0
    → seen s t' a p ≡ seen s t a p
unfolding seen
seen_cong s t t' a p e f = rw (e, f)

-- Two lines of one index lie at the same entries, and a port holds one of them at most.
module _ (s : Shape) (pos : zero < s.sets) (a b : ℕ) (other : b ≢ a) (near : index_of s b ≡ index_of s a) where
  pub tags_differ : tag_of s a ≢ tag_of s b
  tags_differ e = other (same_line s pos b a (sym e) near)

  pub same_entry : (p : ℕ) → entry_of s b p ≡ entry_of s a p
  same_entry p = ap (entry_number s p) near

  pub same_at : (p : ℕ) (l : List ℕ) → get_or l (entry_of s b p) 0 ≡ get_or l (entry_of s a p) 0
  same_at p l = ap (λ k. get_or l k 0) (same_entry p)

  pub holds_one : (t : Model) (p : ℕ) → Is (holds s t b p) → Is (not (holds s t a p))
  holds_one t p v = rw (seen_away s t a p (λ e. tags_differ (sym e ∙ sym (same_at p t.tags) ∙ seen_tag s t b p v))) refl

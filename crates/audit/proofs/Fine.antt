-- What the test of one entry says, as plain facts. Assumes nothing.
use Prim.Native.Nat.{ℕ, ◌+◌, ◌*◌, ◌<◌}
use mathlib.Core.Path.{◌≡◌, refl, sym, ◌∙◌}
use mathlib.Core.Bool.{Bool, true, false, cond, ◌&&◌, ◌||◌, not, false≢true}
use lib.ListN.{get_or}
use lib.Dec.{eqb, leb}
use borrow.Author.Tests.{eq-eqb, eqb-true, lt-leb, leb-false, not-true}
use Rattle.std.specs.Prelude.{Option}
use Rattle.protocol.specs.declared.state.State.{State}
use Rattle.protocol.specs.State.{state_of, is_state, valid, owner}
use Rattle.words.proofs.Bools.{Is, and_l, and_r, both, or_l, or_r, by_bool, not_both, not_is}
use Rattle.shape.specs.declared.Shape.{Shape}
use Rattle.shape.specs.Shape.{entry_number}
use Rattle.model.specs.Tables.{Model, state_at, memory_at}
use Rattle.model.proofs.Below.{all_below_lem, below_all, none_below, below_none}
use Rattle.audit.specs.declared.Held.{Held}
use Rattle.audit.specs.Entries.{class_of, is_owner, compatible, goes_with, held_at, held_by, pair_passes, below_pass, owns_at, owned_at, passes_with, entry_passes}
use Rattle.audit.proofs.Classes.{class_valid, class_owner, class_state, class_compatible, together, together_flip}

-- `||` as a condition.
pub or_mp : (a b : Bool) → Is (not a || b) → Is a → Is b
or_mp true b h k = h
or_mp false b h k = absurd (false≢true k)

pub or_imp : (a b : Bool) → (Is a → Is b) → Is (not a || b)
or_imp true b f = f refl
or_imp false b f = refl

or_first : (a b : Bool) → Is (a || b) → Is (not b) → Is a
or_first true b h k = refl
or_first false b h k = absurd (not_both h k)

-- A test with two exits before it.
held_near : (v far b st : Bool) → Is (cond v (cond far false b) st) → Is v → far ≡ false
held_near true true b st h k = sym h
held_near true false b st h k = refl
held_near false far b st h k = absurd (false≢true k)

held_test : (v far b st : Bool) → Is (cond v (cond far false b) st) → Is v → Is b
held_test true true b st h k = absurd (false≢true h)
held_test true false b st h k = h
held_test false far b st h k = absurd (false≢true k)

free_test : (v c st : Bool) → Is (cond v c st) → Is (not v) → Is st
free_test true c st h k = absurd (false≢true k)
free_test false c st h k = h

-- The entry of port q at index x.
module _ (s : Shape) (t : Model) (x q : ℕ) where
  abbrev pub number_by : ℕ
  number_by = entry_number s q x

  abbrev pub tag_by : ℕ
  tag_by = get_or t.tags number_by 0

  abbrev pub byte_by : Option State
  byte_by = state_of (get_or t.states number_by 0)

  abbrev pub state_by : State
  state_by = state_at t number_by

  abbrev pub word_by : ℕ
  word_by = get_or t.words number_by 0

  abbrev pub home_by : ℕ
  home_by = tag_by * s.sets + x

-- The entries of two ports at index x go together, as those of two holders of a line do.
pub record Fits (s : Shape) (t : Model) (x p q : ℕ) : Type 0 where
  pub words : word_by s t x q ≡ word_by s t x p
  pub states : Is (together (state_by s t x p) (state_by s t x q))

pub fits_flip : {s : Shape} {t : Model} {x p q : ℕ} → Fits s t x p q → Fits s t x q p
fits_flip {s} {t} {x} {p} {q} f = record { words = sym f.words; states = together_flip (state_by s t x p) (state_by s t x q) f.states }

-- What the test says of port p's entry at index x, where it is not I.
pub record Fine (s : Shape) (t : Model) (x p : ℕ) : Type 0 where
  pub home : home_by s t x p < s.lines
  pub pairs : (q : ℕ) → q < p → tag_by s t x q ≡ tag_by s t x p → Is (valid (state_by s t x q)) → Fits s t x p q
  pub clean : ((q : ℕ) → q < s.ports → tag_by s t x q ≡ tag_by s t x p → Is (owner (state_by s t x q)) → ⊥)
      → word_by s t x p ≡ memory_at t (home_by s t x p)

module _ (s : Shape) (t : Model) (x p : ℕ) where
  abbrev entry : ℕ → Held
  entry q = held_by s t x q

  abbrev pair_by : ℕ → Bool
  pair_by q = pair_passes (entry p) (entry q)

  abbrev same_tag : ℕ → Bool
  same_tag q = eqb (tag_by s t x q) (tag_by s t x p)

  abbrev class_by : ℕ → ℕ
  class_by q = class_of (byte_by s t x q)

  abbrev owns_by : ℕ → Bool
  owns_by q = owns_at t.tags t.states (tag_by s t x p) (number_by s t x q)

  abbrev far : Bool
  far = leb s.lines (home_by s t x p)

  abbrev clean : Bool
  clean = eqb (word_by s t x p) (memory_at t (home_by s t x p))

  abbrev goes : Bool
  goes = below_pass s t x p (entry p) && (clean || is_owner (class_by p) || owned_at s t.tags t.states x (tag_by s t x p))

  -- Port q's entry owns the line of port p's.
  owns_q : (q : ℕ) → tag_by s t x q ≡ tag_by s t x p → Is (owner (state_by s t x q)) → Is (owns_by q)
  unfolding owns_at
  owns_q q g o = both (eq-eqb (tag_by s t x q) (tag_by s t x p) g) (class_owner (byte_by s t x q) ∙ o)

  q_owns : (q : ℕ) → Is (owns_by q) → ((tag_by s t x q ≡ tag_by s t x p) × Is (owner (state_by s t x q)))
  unfolding owns_at
  q_owns q h = (
    eqb-true (tag_by s t x q) (tag_by s t x p) (and_l (same_tag q) (is_owner (class_by q)) h),
    sym (class_owner (byte_by s t x q)) ∙ and_r (same_tag q)
        (is_owner (class_by q)) h,
  )

  pub passes_state : Is (entry_passes s t x p) → Is (not (valid (state_by s t x p))) → Is (is_state (byte_by s t x p))
  unfolding entry_passes passes_with held_at
  passes_state h v =
      sym (class_state (byte_by s t x p) v) ∙ free_test (leb 8 (class_by p)) (cond far false goes) (eqb (class_by p) 0) h (rw (class_valid (byte_by s t x p)) v)

  pub state_passes : Is (not (valid (state_by s t x p))) → Is (is_state (byte_by s t x p)) → Is (entry_passes s t x p)
  unfolding entry_passes passes_with held_at
  state_passes v h = rw (class_valid (byte_by s t x p), not-true (valid (state_by s t x p)) v) (class_state (byte_by s t x p) v ∙ h)

  module _ (v : Is (valid (state_by s t x p))) where
    held : Is (leb 8 (class_by p))
    held = class_valid (byte_by s t x p) ∙ v

    abbrev words_equal : ℕ → Bool
    words_equal q = eqb (word_by s t x q) (word_by s t x p)

    abbrev fit_by : ℕ → Bool
    fit_by q = compatible (class_by p) (class_by q)

    pair_fits : (q : ℕ) → Is (pair_by q) → tag_by s t x q ≡ tag_by s t x p → Is (valid (state_by s t x q)) → Fits s t x p q
    unfolding pair_passes goes_with held_at
    pair_fits q h g w =
        let tagged = or_mp (same_tag q) (goes_with (entry p) (entry q)) h (eq-eqb (tag_by s t x q) (tag_by s t x p) g) in
        let k = or_mp (leb 8 (class_by q)) (words_equal q && fit_by q) tagged (class_valid (byte_by s t x q) ∙ w) in
        record {
          words = eqb-true (word_by s t x q) (word_by s t x p) (and_l (words_equal q) (fit_by q) k);
          states = sym (class_compatible (byte_by s t x p) (byte_by s t x q) v w) ∙ and_r (words_equal q) (fit_by q) k;
        }

    fits_pair : (q : ℕ) → (tag_by s t x q ≡ tag_by s t x p → Is (valid (state_by s t x q)) → Fits s t x p q) → Is (pair_by q)
    unfolding pair_passes goes_with held_at
    fits_pair q f =
        or_imp (same_tag q) (goes_with (entry p) (entry q)) (λ g. or_imp (leb 8 (class_by q)) (words_equal q && fit_by q) (λ h.
        let w = sym (class_valid (byte_by s t x q)) ∙ h in
        let k = f (eqb-true (tag_by s t x q) (tag_by s t x p) g) w in
        both (eq-eqb (word_by s t x q) (word_by s t x p) k.words) (class_compatible (byte_by s t x p) (byte_by s t x q) v w ∙ k.states)))

    abbrev owned : Bool
    owned = owned_at s t.tags t.states x (tag_by s t x p)

    -- The test against the facts.
    goes_fine : p < s.ports → far ≡ false → Is goes → Fine s t x p
    unfolding below_pass owned_at
    goes_fine hp n h =
        let pairs = and_l (below_pass s t x p (entry p)) (clean || is_owner (class_by p) || owned) h in
        let kept = and_r (below_pass s t x p (entry p)) (clean || is_owner (class_by p) || owned) h in
        record {
          home = leb-false s.lines (home_by s t x p) n;
          pairs = λ q l g w. pair_fits q (below_all pair_by p pairs q l) g w;
          clean = λ u. eqb-true (word_by s t x p) (memory_at t (home_by s t x p))
              (or_first clean (is_owner (class_by p)) (or_first (clean || is_owner (class_by p)) owned kept
              (none_below owns_by s.ports (λ q l. not_is (owns_by q) (λ o. u q l (q_owns q o).0 (q_owns q o).1))))
              (not_is (is_owner (class_by p)) (λ o. u p hp refl (sym (class_owner (byte_by s t x p)) ∙ o))));
        }

    pub passes_fine : p < s.ports → Is (entry_passes s t x p) → Fine s t x p
    unfolding entry_passes passes_with held_at
    passes_fine hp h = goes_fine hp (held_near (leb 8 (class_by p)) far goes (eqb (class_by p) 0) h held)
        (held_test (leb 8 (class_by p)) far goes (eqb (class_by p) 0) h held)

    fine_goes : Fine s t x p → Is goes
    unfolding below_pass owned_at
    fine_goes f =
        both (all_below_lem pair_by p (λ q l. fits_pair q (f.pairs q l)))
        (by_bool owned (λ o. or_r (clean || is_owner (class_by p)) o)
        (λ n. or_l owned (or_l (is_owner (class_by p)) (eq-eqb (word_by s t x p) (memory_at t (home_by s t x p))
        (f.clean (λ q l g o. not_both (owns_q q g o) (below_none owns_by s.ports n q l)))))))

    pub fine_passes : Fine s t x p → Is (entry_passes s t x p)
    unfolding entry_passes passes_with held_at
    fine_passes f = rw (held, lt-leb s.lines (home_by s t x p) f.home) (fine_goes f)

-- Sums over the rows of an order, and the word that is found: it is the one that a row names. Assumes nothing.
use Prim.Native.Nat.{ℕ, zero, suc, ◌+◌}
use mathlib.Core.Path.{◌≡◌, refl}
use mathlib.Core.Bool.{Bool, false, cond, not}
use mathlib.Core.List.{◌∷◌}
use native.Mathlib.Omega.{arith}
use borrow.Author.Tests.{not-true}
use Rattle.words.specs.declared.access.Access.{Access}
use Rattle.words.proofs.Bools.{Is, not_both, by_bool, by_cond}
use Rattle.protocol.specs.declared.state.Mode.{Mode}
use Rattle.protocol.specs.declared.state.State.{State}
use Rattle.protocol.specs.declared.rules.Bus.{Bus}
use Rattle.shape.specs.declared.Shape.{Shape}
use Rattle.model.specs.declared.order.Call.TheVariants.{ByPort}
use Rattle.model.specs.Below.{lowest, at_or}
use Rattle.model.specs.Tables.{Model, seen, word_at, memory_at, holds, owns, dirty}
use Rattle.model.specs.Step.{word_supplied, word_found}
use Rattle.model.proofs.Below.{below_none, lowest-cases, lowest_gives}
use Rattle.rows.specs.Cases.{Case, snoop}
use Rattle.rows.specs.Cells.{source_of, row_of}
use Rattle.rows.specs.Orders.{sent, word_from, access_case, taken_case, heard_by, others, cases_of, sum_over}
use Rattle.rows.specs.Claims.{WordsAreNamed}

-- Who hears a command adds nothing.
pub none_heard : (f : Case → ℕ) → ((b : Bus) (s : State) → f (snoop b s) ≡ 0) → (s : Shape) (t : Model) (a : ℕ) (asked : ℕ → Bool) (b : Bus) (n : ℕ)
    → sum_over f (heard_by s t a asked b n) ≡ 0
unfolding sum_over heard_by
none_heard f z s t a asked b zero = refl
none_heard f z s t a asked b (suc n) =
    by_cond (λ l. sum_over f l ≡ 0) (asked n) (snoop b (seen s t a n) ∷ heard_by s t a asked b n) (heard_by s t a asked b n)
    (λ _. rw (z b (seen s t a n), none_heard f z s t a asked b n)) (λ _. none_heard f z s t a asked b n)

module _ (s : Shape) (t : Model) (a : ℕ) where
  -- The sums over the rows of an access, whose own row is the first.
  module _ (f : Case → ℕ) (silent : (b : Bus) (u : State) → f (snoop b u) ≡ 0) (i : ℕ) (m : Mode) (acc : Access) where
    pub access_sum : sum_over f (cases_of s t (ByPort acc m i) a) ≡ f (access_case s t i a m acc) + cond (holds s t a i) 0 (f (taken_case s t i a))
    unfolding cases_of sum_over
    access_sum =
        let none = none_heard f silent s t a (others s t i a) (sent (access_case s t i a m acc)) s.ports in
        by_bool (holds s t a i) (λ h. rw (h, none)) (λ h. rw (not-true (holds s t a i) h, none) (omega arith))

  -- The word that is supplied: the lowest-numbered owner's where there is an owner, else memory's.
  of_owner : Is (dirty s t a) → word_supplied s t a ≡ at_or (word_at s t a) 0 (lowest (owns s t a) s.ports)
  unfolding word_supplied dirty at_or
  of_owner d =
      lowest-cases (λ l. at_or (word_at s t a) (memory_at t a) l ≡ at_or (word_at s t a) 0 l) (owns s t a) s.ports (λ p h o. refl)
      (λ n. absurd (not_both d n))

  of_memory : Is (not (dirty s t a)) → word_supplied s t a ≡ memory_at t a
  unfolding word_supplied dirty
  of_memory n =
      lowest_gives (owns s t a) (word_at s t a) (memory_at t a) (memory_at t a) s.ports
      (λ p h o. absurd (not_both o (below_none (owns s t a) s.ports n p h))) (λ _. refl)

  pub supplied_named : (i : ℕ) → word_supplied s t a ≡ word_from s t i a (source_of false (dirty s t a))
  unfolding word_from source_of
  supplied_named i = by_bool (dirty s t a) (λ d. rw d (of_owner d)) (λ n. rw (not-true (dirty s t a) n) (of_memory n))

  found_named : (i : ℕ) → word_found s t i a ≡ word_from s t i a (source_of (holds s t a i) (dirty s t a))
  unfolding word_found word_from source_of
  found_named i = by_bool (holds s t a i) (λ h. rw h refl) (λ n. rw (not-true (holds s t a i) n) (supplied_named i))

pub words_are_named : WordsAreNamed
unfolding row_of
words_are_named s t i a k m = found_named s t a i

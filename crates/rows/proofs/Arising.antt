-- Every row by which an order goes is printed; and on tables that pass the audit it says that such tables have it. Assumes nothing.
use Prim.Native.Nat.{ℕ, zero, suc, ◌<◌}
use mathlib.Core.Path.{◌≡◌, refl, sym, subst, ◌∙◌}
use mathlib.Core.Logic.{◌≢◌}
use mathlib.Core.Bool.{Bool, true, false, cond, ◌&&◌, not}
use mathlib.Core.List.{List, [], ◌∷◌}
use native.Mathlib.Omega.{arith}
use native.Mathlib.Decide.{ℕ_discrete}
use lib.Dec.{eqb}
use borrow.Author.Tests.{ne_eqb, eq-eqb}
use Rattle.words.specs.Bools.{implies}
use Rattle.words.proofs.Bools.{Is, and_l, and_r, both, mp, imp, contra, not_both, not_is, by_bool, by_cond}
use Rattle.protocol.specs.declared.state.Mode.{Mode}
use Rattle.protocol.specs.declared.state.State.{State}
use Rattle.protocol.specs.declared.state.State.TheVariants.{I}
use Rattle.words.specs.declared.access.Outcome.{Outcome}
use Rattle.protocol.specs.declared.rules.Bus.{Bus}
use Rattle.protocol.specs.State.{valid, owner, exclusive, mode_of, is_through}
use Rattle.protocol.specs.Rules.{rule, snooped}
use Rattle.protocol.proofs.Finite.{for_states, at_state}
use Rattle.protocol.proofs.States.{owner-valid}
use Rattle.protocol.proofs.Kept.{compatible, known, Test, everywhere, Kept, kept}
use Rattle.shape.specs.declared.Shape.{Shape}
use Rattle.model.specs.declared.order.Call.{Call}
use Rattle.model.specs.declared.order.Call.TheVariants.{ByPort, Flush, DeviceRead, DeviceWrite}
use Rattle.model.specs.Order.{Decoded, Asked, Refused}
use Rattle.model.specs.Order.{decode, There}
use Rattle.model.specs.Tables.{Model, seen, holds, owns, dirty}
use Rattle.model.specs.Step.{shared}
use Rattle.model.specs.Audit.{audit}
use Rattle.model.proofs.Below.{any_below_lem, none_below, below_none}
use Rattle.model.proofs.Decoded.{Sound, decode-sound}
use Rattle.model.proofs.Audited.{audit_facts, facts_good}
use Rattle.rows.specs.Cases.{Case, snoop, arises, printed, own_audited, snoop_audited, audited}
use Rattle.rows.specs.Orders.{effect_here, heard_by, others, cases_of, rows_of, order_rows, every_row}
use Rattle.rows.specs.Claims.{says_audited, RowsArePrinted, RowsAreAudited}
use Rattle.rows.proofs.Cells.{sent_own, sent_device, audited-says}

-- A test of the rows of those who hear a command.
pub every_heard : (f : Case → Bool) (s : Shape) (t : Model) (a : ℕ) (asked : ℕ → Bool) (b : Bus) (n : ℕ)
    → ((p : ℕ) → p < n → Is (asked p) → Is (f (snoop b (seen s t a p)))) → Is (every_row f (heard_by s t a asked b n))
unfolding every_row heard_by
every_heard f s t a asked b zero h = refl
every_heard f s t a asked b (suc n) h =
    let rest = every_heard f s t a asked b n (λ p k. h p (omega arith)) in
    by_cond (λ l. Is (every_row f l)) (asked n) (snoop b (seen s t a n) ∷ heard_by s t a asked b n) (heard_by s t a asked b n)
    (λ k. both (h n (omega arith) k) rest) (λ _. rest)

module _ (s : Shape) (t : Model) (a i : ℕ) (there : i < s.ports) where
  -- A line that no other port holds, and that the port does not own, has no owner.
  unowned : Is (not (owner (seen s t a i))) → Is (not (shared s t i a)) → Is (not (dirty s t a))
  unfolding shared dirty
  unowned n u =
      none_below (owns s t a) s.ports (λ p h.
      contra (owns s t a p) {b = others s t i a p} (λ o.
      elim (ℕ_discrete p i) [
        | yes e ↦ absurd (not_both o (rw e n))
        | no d ↦ rw (ne_eqb p i d) (owner-valid (seen s t a p) o)
      ]) (below_none (others s t i a) s.ports u p h))

  pub own_arises : Is (arises (shared s t i a) (dirty s t a) (seen s t a i))
  unfolding arises dirty
  own_arises =
      by_cond Is (owner (seen s t a i)) (dirty s t a) (implies (dirty s t a) (shared s t i a)) (any_below_lem (owns s t a) s.ports i there)
      (λ n. imp {a = dirty s t a} (λ d. by_bool (shared s t i a) (λ k. k) (λ u. absurd (not_both d (unowned n u)))))

-- The finite fact: who hears a command while holding the line, on tables that pass the audit, is told so by the command's row.
abbrev told : Test
told k m dirty r s t u = implies (valid t) (snoop_audited r.bus t)

told_kept : Kept told
unfolding rule snooped snoop_audited everywhere
told_kept = kept told refl

-- Beside a port in E or M nobody holds the line; one in write through does not own it, and nobody does beside it.
exclusive-alone : (s u : State) → Is (implies (compatible s u && exclusive s) (not (valid u)))
exclusive-alone s u =
    at_state (λ u. implies (compatible s u && exclusive s) (not (valid u)))
    (at_state (λ s. for_states (λ u. implies (compatible s u && exclusive s) (not (valid u)))) refl s) u

through_clean : (s u : State) → Is (implies (valid s && is_through (mode_of s)) (not (owner s) && implies (compatible s u) (not (owner u))))
through_clean s u =
    at_state (λ u. implies (valid s && is_through (mode_of s)) (not (owner s) && implies (compatible s u) (not (owner u))))
    (at_state (λ s. for_states (λ u. implies (valid s && is_through (mode_of s)) (not (owner s) && implies (compatible s u) (not (owner u))))) refl s) u

module _ (s : Shape) (t : Model) (pass : Is (audit s t)) (a i : ℕ) (line : a < s.lines) (there : i < s.ports) where
  others_apart : (q : ℕ) → Is (others s t i a q) → q ≢ i
  others_apart q o e = not_both (eq-eqb q i e) (and_l (not (eqb q i)) (holds s t a q) o)

  -- Two ports see the line in states that are compatible.
  pairs : (p q : ℕ) → p < s.ports → q < s.ports → p ≢ q → Is (compatible (seen s t a p) (seen s t a q))
  pairs = (facts_good s t (audit_facts s t pass) a line).pairs

  knows : (q : ℕ) → q < s.ports → q ≢ i → Is (known (shared s t i a) (dirty s t a) (seen s t a i) (seen s t a q))
  unfolding shared dirty
  knows q h d =
      both (both (both (pairs i q there h (λ e. d (sym e)))
      (imp {a = holds s t a q} (λ v. any_below_lem (others s t i a) s.ports q h (rw (ne_eqb q i d) v))))
      (imp {a = owns s t a q} (any_below_lem (owns s t a) s.ports q h)))
      (imp {a = owns s t a i} (any_below_lem (owns s t a) s.ports i there))

  -- Where the port is in E or M nobody else holds the line; where it is in write through, nobody owns it.
  lonely : Is (exclusive (seen s t a i)) → (q : ℕ) → q < s.ports → Is (not (others s t i a q))
  lonely x q h =
      not_is (others s t i a q) (λ o.
      not_both (and_r (not (eqb q i)) (holds s t a q) o)
      (mp (exclusive-alone (seen s t a i) (seen s t a q)) (both (pairs i q there h (λ e. others_apart q o (sym e))) x)))

  clean : Is (valid (seen s t a i) && is_through (mode_of (seen s t a i))) → (q : ℕ) → q < s.ports → Is (not (owns s t a q))
  clean v q h =
      elim (ℕ_discrete q i) [
        | yes e ↦ rw e (and_l (not (owner (seen s t a i))) _ (mp (through_clean (seen s t a i) I) v))
        | no d ↦ mp (and_r (not (owner (seen s t a i))) _ (mp (through_clean (seen s t a i) (seen s t a q)) v)) (pairs i q there h (λ e. d (sym e)))
      ]

  pub own_audited_lem : Is (own_audited (shared s t i a) (dirty s t a) (seen s t a i))
  unfolding own_audited shared dirty
  own_audited_lem =
      both (both (own_arises s t a i there)
      (imp {a = exclusive (seen s t a i)} (λ x. none_below (others s t i a) s.ports (lonely x))))
      (imp {a = valid (seen s t a i) && is_through (mode_of (seen s t a i))} (λ v. none_below (owns s t a) s.ports (clean v)))

  pub other-audited : (k : Outcome) (m : Mode) (q : ℕ) → q < s.ports → Is (others s t i a q)
      → Is (audited (snoop (rule k m (shared s t i a) (dirty s t a) (seen s t a i)).bus (seen s t a q)))
  unfolding audited
  other-audited k m q h o =
      let v = and_r (not (eqb q i)) (holds s t a q) o in
      both v (mp (mp (told_kept k m (shared s t i a) (dirty s t a) (seen s t a i) (seen s t a q)) (knows q h (others_apart q o))) v)

-- The rows of a call whose port and line are there, by either test.
abbrev Rows : (Case → Bool) → Shape → Model → Call → ℕ → Type 0
Rows f s t c a = Is (every_row f (cases_of s t c a))

every_taken : (f : Case → Bool) (b : Bool) (c : Case) (l : List Case) → Is (f c) → Is (every_row f l) → Is (every_row f (cond b l (c ∷ l)))
unfolding every_row
every_taken f true c l h k = k
every_taken f false c l h k = both h k

call_printed : (s : Shape) (t : Model) (c : Call) (a : ℕ) → There s c a → Rows printed s t c a
unfolding cases_of every_row printed
call_printed s t (ByPort acc m i) a there =
    both (own_arises s t a i there.0)
    (every_taken printed (holds s t a i) _ _ refl
    (every_heard printed s t a (others s t i a) _ s.ports (λ p h o. and_r (not (eqb p i)) (holds s t a p) o)))
call_printed s t (Flush i) a there = refl
call_printed s t DeviceRead a there = refl
call_printed s t (DeviceWrite mask x) a there = every_heard printed s t a (holds s t a) _ s.ports (λ p h v. v)

call_audited : (s : Shape) (t : Model) → Is (audit s t) → (c : Call) (a : ℕ) → There s c a → Rows audited s t c a
unfolding cases_of every_row audited snoop_audited
call_audited s t pass (ByPort acc m i) a there =
    let k = (effect_here s t i a m acc).outcome in
    both (own_audited_lem s t pass a i there.1 there.0)
    (every_taken audited (holds s t a i) _ _ refl
    (every_heard audited s t a (others s t i a) _ s.ports (λ p h o.
    subst (λ b. Is (audited (snoop b (seen s t a p)))) (sym (sent_own k m (shared s t i a) (dirty s t a) (seen s t a i)))
    (other-audited s t pass a i there.1 there.0 k m p h o))))
call_audited s t pass (Flush i) a there = refl
call_audited s t pass DeviceRead a there = refl
call_audited s t pass (DeviceWrite mask x) a there =
    every_heard audited s t a (holds s t a) _ s.ports (λ p h v.
    subst (λ b. Is (audited (snoop b (seen s t a p)))) (sym (sent_device (dirty s t a))) (both v refl))

-- And of what an order word is taken apart into.
every_row_lem : (f : Case → Bool) (s : Shape) (t : Model) → ((c : Call) (a : ℕ) → There s c a → Rows f s t c a)
    → (d : Decoded) → Sound s d → Is (every_row f (rows_of s t d))
unfolding rows_of every_row
every_row_lem f s t h (Refused n) k = refl
every_row_lem f s t h (Asked c a) k = h c a k

pub rows_are_printed : RowsArePrinted
rows_are_printed s t o = every_row_lem printed s t (call_printed s t) (decode s o) (decode-sound s o)

-- What is said by one test is said by another that is the same at each row.
every_same : (f g : Case → Bool) → ((c : Case) → f c ≡ g c) → (l : List Case) → Is (every_row g l) → Is (every_row f l)
unfolding every_row
every_same f g e [] h = refl
every_same f g e (c ∷ l) h = both (e c ∙ and_l (g c) (every_row g l) h) (every_same f g e l (and_r (g c) (every_row g l) h))

pub rows_are_audited : RowsAreAudited
rows_are_audited s t o pass =
    every_same says_audited audited audited-says (order_rows s t o) (every_row_lem audited s t (call_audited s t pass) (decode s o) (decode-sound s o))

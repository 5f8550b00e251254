-- What holds on every input: a step makes few memory accesses, swaps at most once and never answers 9, a swap that fails does what a read does,
-- what a step accepts is of one of the kinds, a refusal changes nothing; the audit says its plain facts, and finding's answer has its number. Assumes nothing.
use Prim.Native.Nat.{ℕ, ◌<◌, ◌≤◌}
use mathlib.Core.Path.{◌≡◌, refl}
use mathlib.Core.Logic.{◌≢◌}
use mathlib.Core.Bool.{Bool, true, false, cond, ◌&&◌, not}
use native.Mathlib.Omega.{arith}
use lib.Dec.{eqb, leb}
use borrow.Author.Tests.{eqb-false, leb-false, not-true}
use Rattle.words.specs.Bools.{bit}
use Rattle.protocol.specs.declared.state.Mode.{Mode}
use Rattle.words.specs.declared.access.Access.{Access}
use Rattle.words.specs.declared.access.Access.TheVariants.{Read, Swap}
use Rattle.words.specs.Word.{half}
use Rattle.words.specs.Access.{effect_at}
use Rattle.protocol.specs.Rules.{flush_rule}
use Rattle.words.proofs.Bools.{Is, by_bool, by_cond}
use Rattle.words.proofs.Effects.{read-effect, swap_succeeds, swap_fails}
use Rattle.shape.specs.declared.Shape.{Shape}
use Rattle.model.specs.declared.order.Call.{Call}
use Rattle.model.specs.declared.order.Call.TheVariants.{ByPort, Flush, DeviceRead, DeviceWrite}
use Rattle.model.specs.Order.{Decoded, Asked, Refused}
use Rattle.model.specs.Order.{Order, kinds, kind_of, checked, decode, looks}
use Rattle.shape.specs.Shape.{refusal_of}
use Rattle.model.specs.Tables.{Model, lent_refusal, column_sound, seen, holds, dirty}
use Rattle.model.specs.Step.{Result, refuse, word_found, fetches, evicts_owner, access_rule, accessed, flushed, device_written}
use Rattle.model.specs.Step.{called, perform, step}
use Rattle.model.specs.Claims.{FewAccesses, SwappedOnce, FailedSwapReads, AcceptedKind, NeverNine, RefusedChangesNothing, FindSays, AuditSays}
use Rattle.model.specs.Find.{Found}
use Rattle.model.specs.Find as finds
use Rattle.model.specs.Below.{Lowest, none, number, lowest}
use Rattle.model.specs.Find.{holder_or, find, find_refusal, found_refusal}
use Rattle.shape.proofs.Refusals.{not_nine}
use Rattle.model.proofs.Audited.{audit_facts, facts_audit}
use Rattle.model.proofs.Decoded.{Sound, decode-sound}

bit_le : (b : Bool) → bit b ≤ 1
bit_le true = omega arith
bit_le false = omega arith

-- What is to hold of a result: at most one read and two writes.
abbrev Few : Result → Type 0
Few r = (r.answer.reads ≤ 1) × (r.answer.writes ≤ 2)

accessed_few : (s : Shape) (t : Model) (i a : ℕ) (acc : Access) (m : Mode) → Few (accessed s t i a acc m)
unfolding accessed
accessed_few s t i a acc m =
    let stores = (access_rule s t i a m (effect_at acc (word_found s t i a))).stores in
    (omega (arith, bit_le (fetches s t i a)), omega (arith, bit_le (evicts_owner s t i a), bit_le stores))

flushed_few : (s : Shape) (t : Model) (i a : ℕ) → Few (flushed s t i a)
unfolding flushed
flushed_few s t i a = by_cond Few (holds s t a i) _ _ (λ _. (omega arith, omega (arith, bit_le (flush_rule (seen s t a i)).stores)))
    (λ _. (omega arith, omega arith))

written_few : (s : Shape) (t : Model) (a mask x : ℕ) → Few (device_written s t a mask x)
unfolding device_written
written_few s t a mask x = (omega (arith, bit_le (not (dirty s t a))), omega arith)

called_few : (s : Shape) (t : Model) (c : Call) (a : ℕ) → Few (called s t c a)
unfolding called
called_few s t (ByPort acc m i) a = accessed_few s t i a acc m
called_few s t (Flush i) a = flushed_few s t i a
called_few s t DeviceRead a = (omega arith, omega arith)
called_few s t (DeviceWrite mask x) a = written_few s t a mask x

perform_few : (s : Shape) (t : Model) (d : Decoded) → Few (perform s t d)
unfolding perform
perform_few s t (Refused n) = (omega arith, omega arith)
perform_few s t (Asked c a) = by_cond Few (looks c && not (column_sound s t a)) _ _ (λ _. (omega arith, omega arith)) (λ _. called_few s t c a)

pub few_accesses : FewAccesses
unfolding step
few_accesses s o t = by_cond Few (eqb (lent_refusal s t) 0) _ _ (λ _. perform_few s t (decode s o)) (λ _. (omega arith, omega arith))

-- What is to hold of a result: swapped is 0 or 1, and the refusal is not 9.
abbrev Fair : Result → Type 0
Fair r = (r.answer.swapped ≤ 1) × (r.answer.refusal ≢ 9)

not_9 : {n : ℕ} → n < 9 → n ≢ 9
not_9 h e = omega (arith, h, e)

accessed_fair : (s : Shape) (t : Model) (i a : ℕ) (acc : Access) (m : Mode) → Fair (accessed s t i a acc m)
unfolding accessed
accessed_fair s t i a acc m = (bit_le (effect_at acc (word_found s t i a)).swapped, not_9 (omega arith))

flushed_fair : (s : Shape) (t : Model) (i a : ℕ) → Fair (flushed s t i a)
unfolding flushed
flushed_fair s t i a = by_cond Fair (holds s t a i) _ _ (λ _. (omega arith, not_9 (omega arith))) (λ _. (omega arith, not_9 (omega arith)))

written_fair : (s : Shape) (t : Model) (a mask x : ℕ) → Fair (device_written s t a mask x)
unfolding device_written
written_fair s t a mask x = (omega arith, not_9 (omega arith))

called_fair : (s : Shape) (t : Model) (c : Call) (a : ℕ) → Fair (called s t c a)
unfolding called
called_fair s t (ByPort acc m i) a = accessed_fair s t i a acc m
called_fair s t (Flush i) a = flushed_fair s t i a
called_fair s t DeviceRead a = (omega arith, not_9 (omega arith))
called_fair s t (DeviceWrite mask x) a = written_fair s t a mask x

perform_fair : (s : Shape) (t : Model) (d : Decoded) → Sound s d → Fair (perform s t d)
unfolding perform
perform_fair s t (Refused n) h = (omega arith, not_9 (omega (arith, h)))
perform_fair s t (Asked c a) h = by_cond Fair (looks c && not (column_sound s t a)) _ _ (λ _. (omega arith, not_9 (omega arith)))
    (λ _. called_fair s t c a)

lent_not_nine : (s : Shape) (t : Model) → lent_refusal s t ≢ 9
unfolding lent_refusal refusal_of
lent_not_nine s t = not_nine s _

step_fair : (s : Shape) (o : Order) (t : Model) → Fair (step s o t)
unfolding step
step_fair s o t = by_cond Fair (eqb (lent_refusal s t) 0) _ _ (λ _. perform_fair s t (decode s o) (decode-sound s o))
    (λ _. (omega arith, lent_not_nine s t))

pub swapped_once : SwappedOnce
swapped_once s o t = (step_fair s o t).0

pub never_nine : NeverNine
never_nine s o t = (step_fair s o t).1

-- What is to hold of a swap's result and a read's: the one is the other, where it answers 'not swapped'. It holds of results by one test if it does
-- on either side; on that of a refusal the two are the same.
abbrev AsRead : Result → Result → Type 0
AsRead r q = r.answer.swapped ≡ 0 → r ≡ q

either_as_read : (b : Bool) {r q u v : Result} → AsRead r q → AsRead u v → AsRead (cond b r u) (cond b q v)
either_as_read true f g = f
either_as_read false f g = g

accessed_as_read : (s : Shape) (t : Model) (i a mask x compare : ℕ) (m : Mode)
    → AsRead (accessed s t i a (Swap mask x compare) m) (accessed s t i a Read m)
unfolding accessed
accessed_as_read s t i a mask x compare m h =
    let w = word_found s t i a in
    by_bool (eqb (half mask w) compare) (λ e. absurd (let n = rw (swap_succeeds mask compare x w e) at h in omega (arith, n)))
    (λ e. rw (swap_fails mask compare x w e, read-effect w))

perform_as_read : (s : Shape) (t : Model) (i a mask x compare : ℕ) (m : Mode)
    → AsRead (perform s t (Asked (ByPort (Swap mask x compare) m i) a)) (perform s t (Asked (ByPort Read m i) a))
unfolding perform called
perform_as_read s t i a mask x compare m = either_as_read (not (column_sound s t a)) (λ _. refl) (accessed_as_read s t i a mask x compare m)

pub failed_swap_reads : FailedSwapReads
unfolding step
failed_swap_reads s t i a mask x compare m swap read ds dr =
    rw (ds, dr) (either_as_read (eqb (lent_refusal s t) 0) (perform_as_read s t i a mask x compare m) (λ _. refl))

-- An order of any other kind is refused.
other_kind : (s : Shape) (o : Order) → Is (leb kinds (kind_of o)) → decode s o ≡ Refused 4
unfolding decode checked
other_kind s o h = rw h

refused_4 : (s : Shape) (t : Model) → (perform s t (Refused 4)).answer.refusal ≡ 4
unfolding perform
refused_4 s t = refl

other-refused : (s : Shape) (o : Order) (t : Model) → Is (leb kinds (kind_of o)) → (step s o t).answer.refusal ≢ 0
unfolding step
other-refused s o t h =
    by_cond (λ (r : Result). r.answer.refusal ≢ 0) (eqb (lent_refusal s t) 0) _ _
    (λ _ e. let f = rw (other_kind s o h) at e in omega (arith, f, refused_4 s t))
    (λ n e. eqb-false (lent_refusal s t) 0 (not-true _ n) e)

pub accepted_kind : AcceptedKind
accepted_kind s o t e = by_bool (leb kinds (kind_of o)) (λ h. absurd (other-refused s o t h e)) (λ h. leb-false kinds (kind_of o) (not-true _ h))

-- What is to hold of a result: it is accepted, or a refusal that changes nothing.
abbrev Still : Model → Result → Type 0
Still t r = r.answer.refusal ≢ 0 → r ≡ refuse r.answer.refusal t

flushed_still : (s : Shape) (t : Model) (i a : ℕ) → Still t (flushed s t i a)
unfolding flushed
flushed_still s t i a = by_cond (Still t) (holds s t a i) _ _ (λ _ n. absurd (n refl)) (λ _ n. absurd (n refl))

accessed_still : (s : Shape) (t : Model) (i a : ℕ) (acc : Access) (m : Mode) → Still t (accessed s t i a acc m)
unfolding accessed
accessed_still s t i a acc m n = absurd (n refl)

written_still : (s : Shape) (t : Model) (a mask x : ℕ) → Still t (device_written s t a mask x)
unfolding device_written
written_still s t a mask x n = absurd (n refl)

called_still : (s : Shape) (t : Model) (c : Call) (a : ℕ) → Still t (called s t c a)
unfolding called
called_still s t (ByPort acc m i) a = accessed_still s t i a acc m
called_still s t (Flush i) a = flushed_still s t i a
called_still s t DeviceRead a = λ n. absurd (n refl)
called_still s t (DeviceWrite mask x) a = written_still s t a mask x

perform_still : (s : Shape) (t : Model) (d : Decoded) → Still t (perform s t d)
unfolding perform
perform_still s t (Refused k) = λ n. refl
perform_still s t (Asked c a) = by_cond (Still t) (looks c && not (column_sound s t a)) _ _ (λ _ n. refl) (λ _. called_still s t c a)

pub refused_changes_nothing : RefusedChangesNothing
unfolding step
refused_changes_nothing s o t = by_cond (Still t) (eqb (lent_refusal s t) 0) _ _ (λ _. perform_still s t (decode s o)) (λ _ n. refl)

pub audit_says : AuditSays
audit_says s t = (audit_facts s t, facts_audit s t)

-- Finding's number, through its tests.
number-cond : (b : Bool) (x y : Found) → found_refusal (cond b x y) ≡ cond b (found_refusal x) (found_refusal y)
number-cond true x y = refl
number-cond false x y = refl

no_refusal : (l : Lowest) → found_refusal (holder_or l) ≡ 0
no_refusal none = refl
no_refusal (number p) = refl

pub find_says : FindSays
unfolding find find_refusal
find_says s t a =
    rw (
      number-cond (eqb (lent_refusal s t) 0) (cond (leb s.lines a) (finds.Refused 6)
          (cond (column_sound s t a) (holder_or (lowest (holds s t a) s.ports)) (finds.Refused 8))) (finds.Refused (lent_refusal s t)),
      number-cond (leb s.lines a) (finds.Refused 6) (cond (column_sound s t a) (holder_or (lowest (holds s t a) s.ports)) (finds.Refused 8)),
      number-cond (column_sound s t a) (holder_or (lowest (holds s t a) s.ports)) (finds.Refused 8),
      no_refusal (lowest (holds s t a) s.ports),
    )

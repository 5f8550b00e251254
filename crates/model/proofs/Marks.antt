-- The mark of a line against the orders so far: it folds their events, and the fold is 1 exactly when an event sets it and none after
-- that clears it. Assumes nothing.
use Prim.Native.Nat.{ℕ, zero, suc, ◌<◌}
use mathlib.Core.Path.{◌≡◌, refl, sym, ◌∙◌, ap}
use mathlib.Core.Logic.{◌≢◌, ◌↔◌}
use mathlib.Core.Bool.{Bool, true, false, cond, ◌||◌, false≢true, true≢false}
use mathlib.Core.List.{List, [], ◌∷◌}
use native.Mathlib.Omega.{arith}
use native.Mathlib.Decide.{ℕ_discrete}
use lib.ListN.{get_or, length}
use lib.Dec.{eqb}
use borrow.Author.Tests.{eq-eqb, ne_eqb}
use Rattle.protocol.specs.declared.state.Mode.{Mode}
use Rattle.protocol.specs.declared.state.Mode.TheVariants.{Through, Back}
use Rattle.words.specs.declared.access.Access.{Access}
use Rattle.words.specs.declared.access.Access.TheVariants.{Read, Write, Swap}
use Rattle.words.specs.Bools.{bit}
use Rattle.words.specs.Word.{half}
use Rattle.words.specs.Access.{effect_at, writes, is_write}
use Rattle.words.proofs.Bools.{Is, by_bool}
use Rattle.words.proofs.Effects.{read-effect, write-effect, swap_succeeds, swap_fails, write-writes}
use Rattle.shape.specs.declared.Shape.{Shape}
use Rattle.model.specs.declared.order.Call.TheVariants.{ByPort, Flush, DeviceRead, DeviceWrite}
use Rattle.model.specs.Order.{Decoded, Asked, Refused}
use Rattle.model.specs.Order.{Order, decode}
use Rattle.model.specs.Flat.{Flat, FlatResult, word_in, mark_in, flat_access, flat_perform, flat_step}
use Rattle.model.specs.Marks.{Event, sets, clears, neither, event_of, events_of, flat_run, SetSince, start_event, MarkSays}
use Rattle.model.proofs.Moved.{Moved, access_moves, written_moves}

-- What an event does to a mark, and a list of events.
abbrev moved : Event → Bool → Bool
moved sets old = true
moved clears old = false
moved neither old = old

fold : Bool → List Event → Bool
fold old [] = old
fold old (e ∷ es) = fold (moved e old) es

-- An access writes the word if it is a write, or a swap whose swapped number is 1.
pub swapped_writes : (acc : Access) (w : ℕ) → writes (effect_at acc w).outcome ≡ (is_write acc || eqb (bit (effect_at acc w).swapped) 1)
swapped_writes Read w = rw (read-effect w)
swapped_writes (Write mask x) w = rw (write-effect mask x w) (search write-writes)
swapped_writes (Swap mask x compare) w =
    by_bool (eqb (half mask w) compare) (λ h. rw (swap_succeeds mask compare x w h) (search write-writes)) (λ h. rw (swap_fails mask compare x w h))

set_or : (b old : Bool) → (b || old) ≡ moved (cond b sets neither) old
set_or true old = refl
set_or false old = refl

-- An access moves the mark by its event: in write through it clears it, and in write back it sets it if it writes.
access_event : (f : Flat) (acc : Access) (m : Mode) (i a : ℕ) (r : FlatResult) → Moved f r (effect_at acc (word_in f a)) m a → a < length f.marks
    → mark_in r.after a ≡ moved (event_of a (Asked (ByPort acc m i) a) r.answer.swapped) (mark_in f a)
unfolding event_of
access_event f acc Through i a r moves h = rw (eq-eqb a a refl) (moves.mark h)
access_event f acc Back i a r moves h =
    rw (eq-eqb a a refl, moves.answer, ← swapped_writes acc (word_in f a))
    (moves.mark h ∙ set_or (writes (effect_at acc (word_in f a)).outcome) (mark_in f a))

-- An access of another line is no event.
pub other_event : (acc : Access) (m : Mode) (i a b n : ℕ) → b ≢ a → event_of a (Asked (ByPort acc m i) b) n ≡ neither
unfolding event_of
other_event acc Through i a b n d = rw (ne_eqb b a d)
other_event acc Back i a b n d = rw (ne_eqb b a d)

access_moved : (a : ℕ) (f : Flat) (acc : Access) (m : Mode) (i b : ℕ) → a < length f.marks
    → mark_in (flat_access f acc m b).after a ≡ moved (event_of a (Asked (ByPort acc m i) b) (flat_access f acc m b).answer.swapped) (mark_in f a)
access_moved a f acc m i b h =
    elim (ℕ_discrete b a) [
      | yes e ↦ rw e (access_event f acc m i a (flat_access f acc m a) (access_moves f m a acc) h)
      | no d ↦ rw (other_event acc m i a b (flat_access f acc m b).answer.swapped d) ((access_moves f m b acc).mark_other a (λ e. d (sym e)))
    ]

mark_moves : (a : ℕ) (f : Flat) (d : Decoded) → a < length f.marks
    → mark_in (flat_perform f d).after a ≡ moved (event_of a d (flat_perform f d).answer.swapped) (mark_in f a)
unfolding flat_perform flat_access event_of
mark_moves a f (Refused n) h = refl
mark_moves a f (Asked (Flush i) b) h = refl
mark_moves a f (Asked DeviceRead b) h = refl
mark_moves a f (Asked (ByPort acc m i) b) h = access_moved a f acc m i b h
mark_moves a f (Asked (DeviceWrite mask x) b) h = access_moved a f (Write mask x) Through 0 b h

marks_length : (f : Flat) (d : Decoded) → length (flat_perform f d).after.marks ≡ length f.marks
unfolding flat_perform
marks_length f (Refused n) = refl
marks_length f (Asked (Flush i) b) = refl
marks_length f (Asked DeviceRead b) = refl
marks_length f (Asked (ByPort acc m i) b) = (access_moves f m b acc).marks_length
marks_length f (Asked (DeviceWrite mask x) b) = (written_moves f b mask x).marks_length

-- A list of orders folds its events.
mark_folds : (s : Shape) (a : ℕ) (os : List Order) (f : Flat) → a < length f.marks
    → mark_in (flat_run s os f) a ≡ fold (mark_in f a) (events_of s a os f)
unfolding flat_run events_of fold flat_step
mark_folds s a [] f h = refl
mark_folds s a (o ∷ os) f h =
    let d = decode s o in
    mark_folds s a os (flat_perform f d).after (rw (marks_length f d) h)
    ∙ ap (λ b. fold b (events_of s a os (flat_perform f d).after)) (mark_moves a f d h)

pub neither≢sets : neither ≢ sets
neither≢sets p = let z : ◌≡◌ {A = ℕ} 0 1 = cc in omega arith

neither≢clears : neither ≢ clears
neither≢clears p = let z : ◌≡◌ {A = ℕ} 0 1 = cc in omega arith

pub sets≢clears : sets ≢ clears
sets≢clears p = let z : ◌≡◌ {A = ℕ} 0 1 = cc in omega arith

-- No event that clears after number n, in a list with one event fewer or more in front.
later : (x y e : Event) (es : List Event) (n : ℕ) → ((k : ℕ) → n < k → get_or (x ∷ es) k neither ≢ clears)
    → (k : ℕ) → suc n < k → get_or (y ∷ e ∷ es) k neither ≢ clears
later x y e es n f zero h = absurd (omega arith)
later x y e es n f (suc zero) h = absurd (omega arith)
later x y e es n f (suc (suc k)) h = f (suc k) (omega arith)

sooner : (x y e : Event) (es : List Event) (n : ℕ) → ((k : ℕ) → suc n < k → get_or (y ∷ e ∷ es) k neither ≢ clears)
    → (k : ℕ) → n < k → get_or (x ∷ es) k neither ≢ clears
sooner x y e es n f zero h = absurd (omega arith)
sooner x y e es n f (suc k) h = f (suc (suc k)) (omega arith)

-- The first event joins the mark before it, and comes apart from it.
join : (e : Event) (old : Bool) (es : List Event) (n : ℕ) → get_or (start_event (moved e old) ∷ es) n neither ≡ sets
    → ((k : ℕ) → n < k → get_or (start_event (moved e old) ∷ es) k neither ≢ clears) → SetSince (start_event old ∷ e ∷ es)
join sets old es zero h f = (1, refl, later sets (start_event old) sets es 0 f)
join clears old es zero h f = absurd (neither≢sets h)
join neither old es zero h f = (0, h, after)
  where
    after : (k : ℕ) → 0 < k → get_or (start_event old ∷ neither ∷ es) k neither ≢ clears
    after zero l = absurd (omega arith)
    after (suc zero) l = neither≢clears
    after (suc (suc k)) l = f (suc k) (omega arith)
join e old es (suc n) h f = (suc (suc n), h, later (start_event (moved e old)) (start_event old) e es (suc n) f)

part : (e : Event) (old : Bool) (es : List Event) (n : ℕ) → get_or (start_event old ∷ e ∷ es) n neither ≡ sets
    → ((k : ℕ) → n < k → get_or (start_event old ∷ e ∷ es) k neither ≢ clears) → SetSince (start_event (moved e old) ∷ es)
part sets true es zero h f = (0, refl, sooner sets sets sets es 0 (λ k l. f k (omega arith)))
part clears true es zero h f = absurd (f 1 (omega arith) refl)
part neither true es zero h f = (0, refl, sooner sets sets neither es 0 (λ k l. f k (omega arith)))
part e false es zero h f = absurd (neither≢sets h)
part sets old es (suc zero) h f = (0, refl, sooner sets (start_event old) sets es 0 f)
part clears old es (suc zero) h f = absurd (sets≢clears (sym h))
part neither old es (suc zero) h f = absurd (neither≢sets h)
part e old es (suc (suc n)) h f = (suc n, h, sooner (start_event (moved e old)) (start_event old) e es (suc n) f)

none_after : (x : Event) (k : ℕ) → 0 < k → get_or (x ∷ []) k neither ≢ clears
none_after x zero l = absurd (omega arith)
none_after x (suc k) l = neither≢clears

fold_since : (old : Bool) (es : List Event) → Is (fold old es) → SetSince (start_event old ∷ es)
unfolding fold
fold_since true [] h = (0, refl, none_after sets)
fold_since false [] h = absurd (false≢true h)
fold_since old (e ∷ es) h = let x = fold_since (moved e old) es h in join e old es x.0 x.1 x.2

start_since : (old : Bool) (n : ℕ) → get_or (start_event old ∷ []) n neither ≡ sets → Is old
start_since true n h = refl
start_since false zero h = absurd (neither≢sets h)
start_since false (suc n) h = absurd (neither≢sets h)

since_fold : (old : Bool) (es : List Event) → SetSince (start_event old ∷ es) → Is (fold old es)
unfolding fold
since_fold old [] x = start_since old x.0 x.1
since_fold old (e ∷ es) x = since_fold (moved e old) es (part e old es x.0 x.1 x.2)

-- The mark is 1 exactly when it was set and not cleared since, and so 0 exactly when it was not.
mark_one : (s : Shape) (a : ℕ) (os : List Order) (f : Flat) → a < length f.marks
    → Is (mark_in (flat_run s os f) a) ↔ SetSince (start_event (mark_in f a) ∷ events_of s a os f)
mark_one s a os f h = (
  (λ m. fold_since (mark_in f a) (events_of s a os f) (sym (mark_folds s a os f h) ∙ m)),
  (λ x. mark_folds s a os f h ∙ since_fold (mark_in f a) (events_of s a os f) x),
)

zero_or_one : (b : Bool) {P : Type 0} → Is b ↔ P → (b ≡ false) ↔ (P → ⊥)
zero_or_one true e = ((λ h _. true≢false h), (λ n. absurd (n (e.0 refl))))
zero_or_one false e = ((λ _ x. false≢true (e.1 x)), (λ _. refl))

pub mark_says : MarkSays
mark_says s a os f h = zero_or_one (mark_in (flat_run s os f) a) (mark_one s a os f h)

-- What a device reads, and what is read after it wrote: the agreement and the mark's reading, joined. Assumes nothing.
use Prim.Native.Nat.{ℕ, zero, suc, ◌<◌}
use mathlib.Core.Path.{◌≡◌, refl, sym, ap, ◌∙◌}
use mathlib.Core.Logic.{◌≢◌}
use mathlib.Core.Bool.{true, false, ◌||◌, not, false≢true}
use mathlib.Core.List.{List, [], ◌∷◌}
use native.Mathlib.Omega.{arith}
use native.Mathlib.Decide.{ℕ_discrete}
use lib.ListN.{get_or, length, replicate}
use lib.Dec.{eqb}
use borrow.Author.Tests.{eq-eqb, eqb-true, not-true}
use Rattle.protocol.specs.declared.state.Mode.{Mode}
use Rattle.protocol.specs.declared.state.Mode.TheVariants.{Through}
use Rattle.words.specs.declared.access.Access.{Access}
use Rattle.words.specs.declared.access.Access.TheVariants.{Read, Write, Swap}
use Rattle.words.specs.declared.access.Effect.{Effect}
use Rattle.protocol.specs.State.{is_back}
use Rattle.words.specs.Word.{merge}
use Rattle.words.specs.Access.{effect_at, writes, is_write}
use Rattle.words.proofs.Bools.{Is, and_l, and_r, and_none}
use Rattle.words.proofs.Effects.{write-effect, unwritten}
use Rattle.shape.specs.declared.Shape.{Shape}
use Rattle.model.specs.declared.order.Call.TheVariants.{ByPort, Flush, DeviceRead, DeviceWrite}
use Rattle.model.specs.Order.{Decoded, Asked, Refused}
use Rattle.model.specs.Order.{Order, decode}
use Rattle.model.specs.Tables.{Model, lent_refusal, memory_at}
use Rattle.model.specs.Step.{called, perform, step}
use Rattle.model.specs.Fresh.{fresh}
use Rattle.model.specs.Flat.{Flat, FlatResult, word_in, mark_in, flat_access, flat_perform, flat_step, flat_start}
use Rattle.model.specs.Marks.{Event, neither, SetSince, events_of, flat_run, model_run, is_read_of, is_write_of, left_alone, DeviceWriteSeen, DeviceGuarantee}
use Rattle.model.proofs.Lent.{facts_lent}
use Rattle.model.proofs.Decoded.{decode-sound}
use Rattle.model.proofs.Moved.{Moved, access_moves, written_moves}
use Rattle.model.proofs.Agree.{Sim, step_goes}
use Rattle.model.proofs.Theorem.{fresh_sim}
use Rattle.model.proofs.Marks.{swapped_writes, mark_says, neither≢sets}

-- Tables that go with a flat memory do so after any list of orders.
run_sim : (s : Shape) (os : List Order) (t : Model) (f : Flat) → Sim s t f → Sim s (model_run s os t) (flat_run s os f)
unfolding model_run flat_run
run_sim s [] t f sim = sim
run_sim s (o ∷ os) t f sim = run_sim s os (step s o t).after (flat_step s o f).after (step_goes s t f sim o).sim

no_marks : (n k : ℕ) → get_or (replicate n false) k false ≡ false
no_marks zero k = refl
no_marks (suc n) zero = refl
no_marks (suc n) (suc k) = no_marks n k

-- A start that sets nothing may be left out.
without_start : (es : List Event) → SetSince (neither ∷ es) → SetSince es
without_start es (zero, h, f) = absurd (neither≢sets h)
without_start es (suc n, h, f) = (n, h, λ k l. f (suc k) (omega arith))

-- From a fresh model on, a mark is 0 where no event set it since the last that cleared it,
pub mark_clear : (s : Shape) (t : Model) → lent_refusal s t ≡ 0 → (os : List Order) (a : ℕ) → a < s.lines
    → (SetSince (events_of s a os (flat_start t.memory)) → ⊥) → mark_in (flat_run s os (flat_start t.memory)) a ≡ false
unfolding flat_start
mark_clear s t accepted os a l clear =
    let none : mark_in (flat_start t.memory) a ≡ false = no_marks (length t.memory) a in
    (mark_says s a os (flat_start t.memory) (rw (fresh_sim s t accepted).flat_marks l)).1
    (λ d. clear (without_start (events_of s a os (flat_start t.memory)) (rw none at d)))

-- and then main memory has the flat word.
memory_has : (s : Shape) (t : Model) → lent_refusal s t ≡ 0 → (os : List Order) (a : ℕ) → a < s.lines
    → (SetSince (events_of s a os (flat_start t.memory)) → ⊥) → memory_at (model_run s os (fresh s t)) a ≡ word_in
    (flat_run s os (flat_start t.memory)) a
memory_has s t accepted os a l clear =
    let sim = run_sim s os (fresh s t) (flat_start t.memory) (fresh_sim s t accepted) in
    (sim.good a l).clean (sim.unmarked a l (ap not (mark_clear s t accepted os a l clear)))

pub device_guarantee : DeviceGuarantee
unfolding step perform called
device_guarantee s t accepted os a clear o asks =
    let sim = run_sim s os (fresh s t) (flat_start t.memory) (fresh_sim s t accepted) in
    let there : a < s.lines = (rw asks at (decode-sound s o)).1 in
    rw (facts_lent s (model_run s os (fresh s t)) sim.lent, asks, memory_has s t accepted os a there clear)

-- Under mark 0 a read, by a port or by a device, is accepted and answers the flat word, and its value is compared.
read_value : (f : Flat) (a : ℕ) (d : Decoded) → is_read_of a d ≡ true → mark_in f a ≡ false
    → ((flat_perform f d).answer.refusal ≡ 0) × (((flat_perform f d).answer.compared ≡ true) × ((flat_perform f d).answer.value ≡ word_in f a))
unfolding flat_perform flat_access is_read_of
read_value f a (Refused k) h u = absurd (false≢true h)
read_value f a (Asked (ByPort Read m i) b) h u = rw (eqb-true b a h) (refl, (refl, refl))
read_value f a (Asked (ByPort (Write mask x) m i) b) h u = absurd (false≢true h)
read_value f a (Asked (ByPort (Swap mask x compare) m i) b) h u = absurd (false≢true h)
read_value f a (Asked (Flush i) b) h u = absurd (false≢true h)
read_value f a (Asked DeviceRead b) h u = rw (eqb-true b a h, u) (refl, (refl, refl))
read_value f a (Asked (DeviceWrite mask x) b) h u = absurd (false≢true h)

-- After a device write the flat memory has its word, under mark 0.
written_flat : (f : Flat) (a mask x : ℕ) {d : Decoded} → d ≡ Asked (DeviceWrite mask x) a → a < length f.words → a < length f.marks
    → (word_in (flat_perform f d).after a ≡ merge mask (word_in f a) x) × (mark_in (flat_perform f d).after a ≡ false)
written_flat f a mask x e lw lm =
    let moves = written_moves f a mask x in
    rw e (moves.word lw ∙ rw (write-effect mask x (word_in f a)), moves.mark lm)

-- What leaves line a its flat word, and its mark of 0: an order on another line b,
other_kept : (f : Flat) (a b : ℕ) (e : Effect) (m : Mode) (r : FlatResult) → Moved f r e m b → a ≢ b → mark_in f a ≡ false
    → (word_in r.after a ≡ word_in f a) × (mark_in r.after a ≡ false)
other_kept f a b e m r moves d u = (moves.word_other a d, moves.mark_other a d ∙ u)

-- an access of the line that does not write it,
read_kept : (f : Flat) (a : ℕ) (acc : Access) (m : Mode) → a < length f.words → a < length f.marks → mark_in f a ≡ false
    → Is (not (is_write acc || eqb (flat_access f acc m a).answer.swapped 1))
    → (word_in (flat_access f acc m a).after a ≡ word_in f a) × (mark_in (flat_access f acc m a).after a ≡ false)
read_kept f a acc m lw lm u h =
    let moves = access_moves f m a acc in
    let e = effect_at acc (word_in f a) in
    let unwritten-by : Is (not (writes e.outcome)) = ap not (swapped_writes acc (word_in f a)) ∙ rw moves.answer at h in
    (moves.word lw ∙ unwritten acc (word_in f a) unwritten-by, moves.mark lm ∙ rw (not-true (writes e.outcome) unwritten-by, u) (and_none (is_back m)))

-- and so any order that does not write the line.
kept : (f : Flat) (a : ℕ) (d : Decoded) → a < length f.words → a < length f.marks → mark_in f a ≡ false
    → Is (not (is_write_of a d (flat_perform f d).answer.swapped))
    → (word_in (flat_perform f d).after a ≡ word_in f a) × (mark_in (flat_perform f d).after a ≡ false)
unfolding flat_perform is_write_of
kept f a (Refused k) lw lm u h = (refl, u)
kept f a (Asked (Flush i) b) lw lm u h = (refl, u)
kept f a (Asked DeviceRead b) lw lm u h = (refl, u)
kept f a (Asked (ByPort acc m i) b) lw lm u h =
    elim (ℕ_discrete b a) [
      | yes e ↦ rw e (read_kept f a acc m lw lm u (rw (e, eq-eqb a a refl) at h))
      | no d ↦ other_kept f a b _ m _ (access_moves f m b acc) (λ e. d (sym e)) u
    ]
kept f a (Asked (DeviceWrite mask x) b) lw lm u h =
    other_kept f a b _ Through _ (written_moves f b mask x) (λ e. false≢true (rw (e, eq-eqb b b refl) at h)) u

-- Orders that leave line a alone leave its flat word, and its mark of 0.
alone_kept : (s : Shape) (a : ℕ) (os : List Order) (t : Model) (f : Flat) → Sim s t f → a < s.lines → mark_in f a ≡ false → Is (left_alone s a os f)
    → (word_in (flat_run s os f) a ≡ word_in f a) × (mark_in (flat_run s os f) a ≡ false)
unfolding flat_run left_alone flat_step
alone_kept s a [] t f sim there u h = (refl, u)
alone_kept s a (o ∷ os) t f sim there u h =
    let now = flat_perform f (decode s o) in
    let is_none = not (is_write_of a (decode s o) now.answer.swapped) in
    let others = left_alone s a os now.after in
    let first = kept f a (decode s o) (rw sim.flat_words there) (rw sim.flat_marks there) u (and_l is_none others h) in
    let rest = alone_kept s a os (step s o t).after now.after (step_goes s t f sim o).sim there first.1 (and_r is_none others h) in
    (rest.0 ∙ first.0, rest.1)

pub device_write_seen : DeviceWriteSeen
unfolding flat_step
device_write_seen s t accepted os mask x a o asks later alone n reads =
    let f = flat_run s os (flat_start t.memory) in
    let sim = run_sim s os (fresh s t) (flat_start t.memory) (fresh_sim s t accepted) in
    let there : a < s.lines = (rw asks at (decode-sound s o)).1 in
    let flat = written_flat f a mask x asks (rw sim.flat_words there) (rw sim.flat_marks there) in
    let written = (step_goes s _ f sim o).sim in
    let stays = alone_kept s a later _ (flat_step s o f).after written there flat.1 alone in
    let read = read_value (flat_run s later (flat_step s o f).after) a (decode s n) reads stays.1 in
    let agrees = (step_goes s _ _ (run_sim s later _ (flat_step s o f).after written) n).agrees in
    (agrees.refusal ∙ read.0, agrees.value read.1.0 ∙ read.1.1 ∙ stays.0 ∙ flat.0)

-- A run of orders on one record of totals that nobody else writes, and what is proved of it: each total is a sum over the answers, and a run in
-- which 9 is not given is the run without a record, and agrees with the flat memory. The proofs are in proofs/Sums.antt.
use Rattle.std.specs.Prelude.{ℕ, ◌+◌, ◌*◌, ◌<◌, ◌≤◌, ◌≡◌, ◌≢◌, ◌↔◌, Bool, true, cond, ◌&&◌, not, List, [], ◌∷◌, length, eqb}
use Rattle.words.specs.Bools.{bit}
use Rattle.shape.specs.declared.Shape.{Shape}
use Rattle.model.specs.declared.answer.Answer.{Answer}
use Rattle.model.specs.Order.{Order, kinds, kind_of}
use Rattle.model.specs.Tables.{Model, lent_refusal}
use Rattle.model.specs.Step.{refused, step}
use Rattle.model.specs.Fresh.{fresh}
use Rattle.model.specs.Audit.{audit}
use Rattle.model.specs.Flat.{Flat, flat_step, flat_start}
use Rattle.model.specs.Agreement.{Agrees}
use Rattle.model.specs.Marks.{model_run}
use Rattle.counters.specs.Totals.{Totals, refused_place, reads_place, writes_place, swaps_place, total_at, zeros, full, counting, step_totals}

-- An answer, and the kind that the word of its order says.
pub record Answered : Type 0 where
  pub kind : ℕ
  pub answer : Answer

abbrev pub answered : ℕ → Answer → Answered
answered k a = record { kind = k; answer = a }

-- The answers to a list of orders, each order getting what the one before left: memory, tables and totals.
unfoldable pub answers_with : Shape → List Order → Model → Totals → List Answered
answers_with s [] t n = []
answers_with s (o ∷ os) t n = let r = step_totals s o t n in answered (kind_of o) r.answer ∷ answers_with s os r.after r.totals

-- Memory and tables after them, and the totals.
unfoldable pub model_with : Shape → List Order → Model → Totals → Model
model_with s [] t n = t
model_with s (o ∷ os) t n = let r = step_totals s o t n in model_with s os r.after r.totals

unfoldable pub totals_with : Shape → List Order → Model → Totals → Totals
totals_with s [] t n = n
totals_with s (o ∷ os) t n = let r = step_totals s o t n in totals_with s os r.after r.totals

-- The answers other than 9.
abbrev pub is_nine : Answered → Bool
is_nine x = eqb x.answer.refusal 9

unfoldable pub others : List Answered → List Answered
others [] = []
others (x ∷ xs) = cond (is_nine x) (others xs) (x ∷ others xs)

-- The sum of a number over a list of answers.
unfoldable pub sum_of : (Answered → ℕ) → List Answered → ℕ
sum_of f [] = 0
sum_of f (x ∷ xs) = f x + sum_of f xs

-- What an answer counts for: one where it has refusal 0 and kind k; one where it has another refusal; its memory reads; its memory writes; one
-- where swapped is 1.
abbrev pub accepted_in : ℕ → Answered → ℕ
accepted_in k x = bit (eqb x.answer.refusal 0 && eqb x.kind k)

abbrev pub refused_in : Answered → ℕ
refused_in x = bit (not (eqb x.answer.refusal 0))

abbrev pub reads_in : Answered → ℕ
reads_in x = x.answer.reads

abbrev pub writes_in : Answered → ℕ
writes_in x = x.answer.writes

abbrev pub swapped_in : Answered → ℕ
swapped_in x = bit (eqb x.answer.swapped 1)

-- Each total is its sum over a list of answers.
pub record AreSums (n : Totals) (xs : List Answered) : Type 0 where
  pub accepted : (k : ℕ) → k < kinds → total_at n k ≡ sum_of (accepted_in k) xs
  pub refused : total_at n refused_place ≡ sum_of refused_in xs
  pub reads : total_at n reads_place ≡ sum_of reads_in xs
  pub writes : total_at n writes_place ≡ sum_of writes_in xs
  pub swaps : total_at n swaps_place ≡ sum_of swapped_in xs

-- Over every list of orders, from any memory and tables, with totals from zeros: each is its sum over the answers other than 9.
abbrev pub TotalsAreSums : Type 0
TotalsAreSums = (s : Shape) (os : List Order) (t : Model) → AreSums (totals_with s os t zeros) (others (answers_with s os t zeros))

-- Refusal 9 is given exactly where a total has no room, before every other refusal, and changes neither memory nor tables nor totals.
abbrev pub NineSays : Type 0
NineSays =
    (s : Shape) (o : Order) (t : Model) (n : Totals)
    → (((step_totals s o t n).answer.refusal ≡ 9) ↔ (full n ≡ true)) × (full n ≡ true → step_totals s o t n ≡ counting (refused 9) t n)

-- Refusal 9 is not given.
unfoldable pub Without9 : List Answered → Type 0
Without9 [] = Unit {0}
Without9 (x ∷ xs) = (x.answer.refusal ≢ 9) × Without9 xs

-- The answers of the run without a record. (What it leaves is `model_run`.)
unfoldable pub answers_without : Shape → List Order → Model → List Answered
answers_without s [] t = []
answers_without s (o ∷ os) t = answered (kind_of o) (step s o t).answer ∷ answers_without s os (step s o t).after

-- A run in which 9 is not given answers and leaves what the run without a record does, whatever the totals are at its start.
abbrev pub SameWithout9 : Type 0
SameWithout9 =
    (s : Shape) (os : List Order) (t : Model) (n : Totals) → Without9 (answers_with s os t n)
    → (answers_with s os t n ≡ answers_without s os t) × (model_with s os t n ≡ model_run s os t)

-- Model t, with totals n, and flat memory f are fed a list of orders, each step getting what the step before left, also after a refusal. The
-- audit says yes before the first order and after each, and each answer agrees: `AgreesOver` for the step with totals.
unfoldable pub AgreesWith : Shape → List Order → Model → Totals → Flat → Type 0
AgreesWith s [] t n f = audit s t ≡ true
AgreesWith s (o ∷ os) t n f =
    let r = step_totals s o t n in
    (audit s t ≡ true) × Agrees r.answer (flat_step s o f).answer × AgreesWith s os r.after r.totals (flat_step s o f).after

-- The agreement with the flat memory over every list of orders from a fresh model, run with a record in which 9 is not given.
abbrev pub AgreementWithTotals : Type 0
AgreementWithTotals =
    (s : Shape) (t : Model) → lent_refusal s t ≡ 0 → (os : List Order) (n : Totals) → Without9 (answers_with s os (fresh s t) n)
    → AgreesWith s os (fresh s t) n (flat_start t.memory)

-- After a run from zeros no total is above twice the number of its orders.
abbrev pub TwoToAnOrder : Type 0
TwoToAnOrder = (s : Shape) (os : List Order) (t : Model) (k : ℕ) → total_at (totals_with s os t zeros) k ≤ 2 * length os

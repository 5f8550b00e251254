-- The step with a record of totals as a C host calls it, and what is proved of any list of such calls.
use Rattle.std.specs.Prelude.{ℕ, ◌≡◌, Bool, true, false, cond, ◌&&◌, not, List, [], ◌∷◌, length, replicate, eqb}
use Rattle.ports.specs.Bytes.{Bytes, model_in}
use Rattle.shape.specs.declared.Shape.{Shape}
use Rattle.model.specs.declared.answer.Answer.{Answer}
use Rattle.model.specs.Order.{Order, kind_of}
use Rattle.model.specs.Step.{accepted, refused}
use Rattle.counters.specs.Totals.{full, totals_after, step_totals, record_length, totals_in, record_of}
use Rattle.counters.specs.Run.{Answered, answered, others, AreSums}
use Rattle.answers.specs.Answers.{answer_bytes, answer_in}
use Rattle.host.specs.Host.{in_bytes, host_refusal, Hosted, hosted, refusal_put, host_step}

-- Bytes that have the length of a record.
abbrev pub is_record : List ℕ → Bool
is_record bs = eqb (length bs) record_length

-- The refusal of what is lent, in checking order, else 0: 9, a record with a total that has no room; 2; 3, another length of a table, of the
-- answer or of the record; 12, a range that ends beyond lines.
unfoldable pub record_refusal : Shape → Bytes → List ℕ → List ℕ → ℕ
record_refusal s b out bs = cond (is_record bs && full (totals_in bs)) 9 (host_refusal s b (eqb (length out) 40 && is_record bs))

-- The record after such a refusal n of an order of a kind: the order is counted, unless n is 9. Bytes of another length are left alone.
unfoldable pub record_refused : ℕ → ℕ → List ℕ → List ℕ
record_refused n kind bs = cond (is_record bs && not (eqb n 9)) (record_of (totals_after (totals_in bs) kind (refused n))) bs

-- What a call returns and leaves, and the record.
pub record HostedTotals : Type 0 where
  pub hosted : Hosted
  pub totals : List ℕ

abbrev pub with_record : Hosted → List ℕ → HostedTotals
with_record h bs = record { hosted = h; totals = bs }

-- What is counted of a call of step that returned n: its refusal, or, of an accepted order, the swapped number and the two counts that it wrote.
unfoldable pub counts_in : ℕ → List ℕ → Answer
counts_in n out = let a = answer_in out in cond (eqb n 0) (accepted 0 a.swapped a.reads a.writes) (refused n)

-- One order with a record. A refusal changes no lent byte but the answer, where that has its 40 bytes, and the record, as above.
unfoldable pub host_step_totals : Shape → Order → Bytes → List ℕ → List ℕ → HostedTotals
host_step_totals s o b out bs =
    let n = record_refusal s b out bs in
    let r = step_totals s o (model_in s b) (totals_in bs) in
    cond (eqb n 0)
    (with_record (hosted r.answer.refusal (in_bytes r.after) (answer_bytes r.answer)) (record_of r.totals))
    (with_record (hosted n b (refusal_put n out)) (record_refused n (kind_of o) bs))

-- A call: its shape and order, what it lends beside the record, and the slice for its answer.
pub record HostCall : Type 0 where
  pub shape : Shape
  pub order : Order
  pub lent : Bytes
  pub out : List ℕ

-- What it leaves on a record.
abbrev pub leaves : HostCall → List ℕ → HostedTotals
leaves c bs = host_step_totals c.shape c.order c.lent c.out bs

-- Its answer, also where the slice for it has another length than 40 bytes.
unfoldable pub answer_to : HostCall → List ℕ → Answer
answer_to c bs =
    let n = record_refusal c.shape c.lent c.out bs in
    cond (eqb n 0) (step_totals c.shape c.order (model_in c.shape c.lent) (totals_in bs)).answer (refused n)

-- The call returns the answer's refusal, and a slice of 40 bytes then holds the answer.
abbrev pub AnswerShown : Type 0
AnswerShown =
    (c : HostCall) (bs : List ℕ)
    → ((leaves c bs).hosted.refusal ≡ (answer_to c bs).refusal) × (length c.out ≡ 40 → (leaves c bs).hosted.out ≡ answer_bytes (answer_to c bs))

-- A call on a record that has its length and room returns, answers and leaves what the step without a record does. On any other it changes
-- neither memory nor tables.
abbrev pub RecordBeside : Type 0
RecordBeside =
    (c : HostCall) (bs : List ℕ)
    → (length bs ≡ record_length → full (totals_in bs) ≡ false → (leaves c bs).hosted ≡ host_step c.shape c.order c.lent c.out)
    × ((length bs ≡ record_length → full (totals_in bs) ≡ true) → (leaves c bs).hosted.lent ≡ c.lent)

-- The answers to a list of calls on one record that nobody else writes, whatever each lends beside it; and the record after them.
unfoldable pub answers_on : List HostCall → List ℕ → List Answered
answers_on [] bs = []
answers_on (c ∷ cs) bs = answered (kind_of c.order) (answer_to c bs) ∷ answers_on cs (leaves c bs).totals

unfoldable pub record_on : List HostCall → List ℕ → List ℕ
record_on [] bs = bs
record_on (c ∷ cs) bs = record_on cs (leaves c bs).totals

-- A record of zeros.
abbrev pub zero_record : List ℕ
zero_record = replicate record_length 0

-- Over every list of calls on one record from zeros, each total in it is its sum over the answers other than 9.
abbrev pub RecordsAreSums : Type 0
RecordsAreSums = (cs : List HostCall) → AreSums (totals_in (record_on cs zero_record)) (others (answers_on cs zero_record))

-- Totals for a run: a record of numbers by their places, what one answer adds to them, when they have no room for another, and the step with
-- them.
use Rattle.std.specs.Prelude.{ℕ, ◌+◌, ◌*◌, ◌-◌, ◌^◌, ◌<◌, ◌≤◌, ◌≡◌, Bool, cond, List, get_or, set, replicate, eqb, ltb}
use Rattle.endian.specs.Little.{numbers, encoded}
use Rattle.shape.specs.declared.Shape.{Shape}
use Rattle.model.specs.declared.answer.Answer.{Answer}
use Rattle.model.specs.Below.{any_below}
use Rattle.model.specs.Order.{Order, kinds, kind_of}
use Rattle.model.specs.Tables.{Model}
use Rattle.model.specs.Step.{refused, step}

-- The totals in their order: accepted orders of each kind from kind 0 up, then refused orders, memory reads, memory writes, and swaps that
-- succeeded.
abbrev pub Totals : Type 0
Totals = List ℕ

-- Their places: kind k's is k.
abbrev pub refused_place : ℕ
refused_place = kinds

abbrev pub reads_place : ℕ
reads_place = kinds + 1

abbrev pub writes_place : ℕ
writes_place = kinds + 2

abbrev pub swaps_place : ℕ
swaps_place = kinds + 3

abbrev pub places : ℕ
places = kinds + 4

abbrev pub total_at : Totals → ℕ → ℕ
total_at n k = get_or n k 0

-- Totals of zeros.
abbrev pub zeros : Totals
zeros = replicate places 0

-- The highest total to which an order may still be added.
abbrev pub most : ℕ
most = 2 ^ 64 - 3

-- A total above it has no room.
unfoldable pub high : ℕ → Bool
high v = ltb most v

-- Some total has no room: refusal 9.
unfoldable pub full : Totals → Bool
full n = any_below (λ k. high (total_at n k)) places

-- The place under which an order itself is counted: its kind's where the refusal is 0, else that of refused orders.
abbrev pub order_place : ℕ → ℕ → ℕ
order_place kind refusal = cond (eqb refusal 0) kind refused_place

-- Totals with v more at place k.
abbrev pub plus : ℕ → ℕ → Totals → Totals
plus k v n = set n k (total_at n k + v)

-- The totals with one answer counted, to an order of this kind: the order itself, its memory reads and writes, and 1 where it swapped.
unfoldable pub totals_after : Totals → ℕ → Answer → Totals
totals_after n kind a =
    plus swaps_place a.swapped (plus writes_place a.writes (plus reads_place a.reads (plus (order_place kind a.refusal) 1 n)))

-- What holds of an answer that is counted: it adds little, and an accepted order is of one of the kinds.
pub record Few (kind : ℕ) (a : Answer) : Type 0 where
  pub reads : a.reads ≤ 1
  pub writes : a.writes ≤ 2
  pub swapped : a.swapped ≤ 1
  pub kind_counted : a.refusal ≡ 0 → kind < kinds

-- What a step with totals gives: the answer, memory and tables, the totals.
pub record Counting : Type 0 where
  pub answer : Answer
  pub after : Model
  pub totals : Totals

abbrev pub counting : Answer → Model → Totals → Counting
counting a t n = record { answer = a; after = t; totals = n }

-- One order with totals. Where they have no room, refusal 9 comes before every other, nothing changes, and the order is counted nowhere. Else
-- it is the step, and its answer is counted, a refusal too.
unfoldable pub step_totals : Shape → Order → Model → Totals → Counting
step_totals s o t n =
    let r = step s o t in
    cond (full n) (counting (refused 9) t n) (counting r.answer r.after (totals_after n (kind_of o) r.answer))

-- The record as a host lends it: the totals in 64-bit little-endian numbers; its length in bytes, and the totals that it holds.
abbrev pub record_length : ℕ
record_length = 8 * places

abbrev pub totals_in : List ℕ → Totals
totals_in bs = numbers 8 places bs

abbrev pub record_of : Totals → List ℕ
record_of n = encoded 8 n

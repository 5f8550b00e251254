-- A record with no room, or the call without a record, counted. No answer names the test of the record's length, which edits change. Assumes nothing.
use Rattle.std.proofs.Common.{arith, sym, ◌∙◌}
use Rattle.host.proofs.Host.{of_bytes}
use Rattle.host.proofs.Totals.{accepted_wide, read_few, record_full, record_counted}
use Rattle.moesi.proofs.moesi_step_totals.Goals as goal

pub returns-then-is_full : goal.returns-then-is_full
returns-then-is_full c = (
  search of_bytes,
  rw c.from-full.ensures (record_full _ _ _ _ _ (search) (sym c.is_full.ensures ∙ c.if-is_full.true)
      (rw c.from-full.ensures at c.put_refusal-then-is_full.ensures)),
)

pub counts_in-a-requires : goal.counts_in-a-requires
counts_in-a-requires c = λ z. c.moesi_step-n.auto.answer ∙ accepted_wide _ _ _ _ c.moesi_step-n.ensures.1 z

pub count-requires-clause-few : goal.count-requires-clause-few
count-requires-clause-few c = read_few _ _ _ _ c.moesi_step-n.ensures.1 c.kind_of.ensures c.counts_in-a.ensures

pub returns : goal.returns
returns c = (
  search of_bytes,
  record_counted _ _ _ _ _ (search) (sym c.is_full.ensures ∙ c.if-is_full.false) c.kind_of.ensures
      c.moesi_step-n.ensures.1 c.counts_in-a.ensures c.count.ensures c.count.auto.lent (λ j. omega (arith, c.type_inv.totals j)),
)

-- Refusals 2, 3 and 12, then the audit, and its yes or no in one byte. Assumes nothing.
use Rattle.std.proofs.Common.{refl, length, arith}
use borrow.Author.Tests.{eqb-true, eq-eqb, ne_eqb}
use Rattle.refusals.proofs.Numbers.{some_number}
use Rattle.lengths.proofs.Lengths.{out_fits}
use Rattle.host.proofs.Host.{of_bytes, audit-fits, audit-accepted, audit-refused, audit_left}
use Rattle.moesi.proofs.moesi_audit.Goals as goal
use Rattle.moesi.proofs.moesi_audit.Goals.{then-out, else-out}

pub returns-in-Err : goal.returns-in-Err
returns-in-Err c = (
  search of_bytes,
  rw (← c.new-shape.ensures, c.from.ensures) (elim c.if-out.branch [
    | then-out w ↦ rw w.verdict-is (audit-refused _ _ _ c.in-Err.ensures (some_number _) (eq-eqb _ _ w.if-out.true))
    | else-out w ↦ rw w.verdict-is (audit_left _ _ _ c.in-Err.ensures (some_number _) (ne_eqb _ _ w.if-out.false))
  ]),
)

pub audit_tables-requires : goal.audit_tables-requires
audit_tables-requires c = audit-fits _ _ _ c.in_default.ensures refl

pub bounds-verdict-0-2 : goal.bounds-verdict-0-2
bounds-verdict-0-2 c =
    let e = eqb-true (length c.args.verdict.now) 1 (out_fits _ _ _ _ _ _ c.in_default.ensures refl) in
    omega (arith, e)

pub returns : goal.returns
returns c = (
  search of_bytes,
  rw (← c.new-shape.ensures) (audit-accepted _ _ _ c.in_default.ensures refl c.audit_tables.ensures c.from-2.ensures),
)

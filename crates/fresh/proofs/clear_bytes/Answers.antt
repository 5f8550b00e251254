-- One zero more, and zeros at the end. Assumes nothing.
use Rattle.std.proofs.Common.{arith, ◌≡◌, ◌∙◌, length}
use Rattle.std.proofs.lemmas.List.{drop_all, append-nil}
use Rattle.std.proofs.lemmas.List.Edits.{fill_more}
use Rattle.fresh.proofs.clear_bytes.Goals as goal

pub loop-b-preserved : goal.loop-b-preserved
loop-b-preserved c = rw c.loop-b.invariant (fill_more c.loop-b.b-index 0 c.args.table.now (omega arith))

pub returns : goal.returns
returns c =
    let e : c.loop-b.b-index ≡ length c.args.table.now = omega arith in
    c.loop-b.invariant ∙ rw (e, drop_all (length c.args.table.now) c.args.table.now (omega arith), append-nil)

-- The entry is of another line, or goes with e. Assumes nothing.
use Rattle.std.proofs.Common.{◌∙◌, sym}
use Rattle.ports.specs.Bytes.{tables_in}
use Rattle.audit.proofs.Places.{tag_is}
use Rattle.audit.proofs.Tested.{pair_away, pair_here}
use Rattle.audit.proofs.lent.Lent.pair_passes.Goals as goal

pub returns-then-tag_at-e : goal.returns-then-tag_at-e
unfolding tables_in
returns-then-tag_at-e c =
    pair_away _ _ _ (λ same. c.if-tag_at-e.true (sym (tag_is _ _ c.requires c.tag_at.ensures) ∙ same))

pub returns : goal.returns
unfolding tables_in
returns c =
    pair_here _ _ _ (tag_is _ _ c.requires c.tag_at.ensures ∙ c.if-tag_at-e.false) c.held_at.ensures
    c.goes_with.ensures

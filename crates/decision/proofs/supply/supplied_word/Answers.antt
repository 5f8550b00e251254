-- The lowest owner's word. No answer names the test of the owners, which an edit changes. Assumes nothing.
use Rattle.std.proofs.Common.{arith}
use Rattle.ports.specs.Bytes.{bytes}
use Rattle.ports.proofs.Places.{index_below}
use Rattle.decision.proofs.Supplied.{owner_below, supplied_owner}
use Rattle.decision.proofs.supply.supplied_word.Goals as goal

pub entry_number-requires-clause-there : goal.entry_number-requires-clause-there
entry_number-requires-clause-there c =
    let r = c.requires in (
      owner_below r.placed (bytes _ _ _ _) r.fitting r.owners (search) c.lowest_port-p.ensures,
      omega (arith, index_below r.placed),
    )

pub returns : goal.returns
returns c =
    let r = c.requires in
    supplied_owner r.placed (bytes _ _ _ _) r.fitting r.owners (search) c.lowest_port-p.ensures
    c.entry_number.ensures c.word_at-2.ensures

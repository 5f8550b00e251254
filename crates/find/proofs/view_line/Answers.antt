-- The part handed back is the word that finding names, and that word is there. Assumes nothing.
use Rattle.std.proofs.Common.{arith}
use Rattle.find.proofs.Links.{index_below}
use Rattle.find.proofs.Finds.{port_there, memory_there, in_memory, view_none, view_port, view_memory}
use Rattle.find.proofs.view_line.Goals as goal

pub returns-in_default : goal.returns-in_default
returns-in_default c = view_none _ _ _ _ c.in_default.ensures

-- No port holds the line.
pub one_word-requires : goal.one_word-requires
one_word-requires c = omega (arith, in_memory _ _ _ (memory_there _ _ _ (rw c.in_default-holder.is at c.in-Ok.ensures)))

pub returns-in_default-holder : goal.returns-in_default-holder
returns-in_default-holder c = view_memory _ _ _ (rw c.in_default-holder.is at c.in-Ok.ensures) c.one_word.ensures

-- The port that finding names is there.
pub place-at-requires : goal.place-at-requires
place-at-requires c = let h = port_there _ _ _ _ (rw c.in-Some.is at c.in-Ok.ensures) in (h.lent.range, h.line)

pub entry_number-k-requires-clause-shape : goal.entry_number-k-requires-clause-shape
entry_number-k-requires-clause-shape c = (port_there _ _ _ _ (rw c.in-Some.is at c.in-Ok.ensures)).lent.range

pub entry_number-k-requires-clause-there : goal.entry_number-k-requires-clause-there
entry_number-k-requires-clause-there c =
    let h = port_there _ _ _ _ (rw c.in-Some.is at c.in-Ok.ensures) in (omega (arith, h.port), index_below _ _ c.place-at.ensures h.lent.range)

pub one_word-requires-2 : goal.one_word-requires-2
one_word-requires-2 c =
    let h = port_there _ _ _ _ (rw c.in-Some.is at c.in-Ok.ensures) in
    omega (arith, c.entry_number-k.ensures.1, h.lent.sizes.words, h.lent.sizes.memory, h.line)

pub returns : goal.returns
returns c =
    view_port _ _ _ _ (rw c.in-Some.is at c.in-Ok.ensures) c.place-at.ensures c.entry_number-k.ensures.0 c.one_word-2.ensures

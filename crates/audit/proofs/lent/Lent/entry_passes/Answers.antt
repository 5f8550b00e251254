-- One look at the entry; then its home line, the lower ports, memory, and the owners. Assumes nothing.
use Rattle.std.proofs.Common.{ap, not, sym}
use Rattle.shape.proofs.Bounds.{bounded}
use Rattle.ports.specs.Bytes.{model_in, tables_in}
use Rattle.ports.proofs.Bytes.{memory_word}
use Rattle.audit.specs.Entries.{held_at, below_pass}
use Rattle.audit.proofs.Places.{fitting}
use Rattle.audit.proofs.Tested.{tested_free, tested_far, tested_apart, tested_kept, tested_owned}
use Rattle.audit.proofs.lent.Lent.entry_passes.Goals as goal

pub returns-then-e-lt8 : goal.returns-then-e-lt8
unfolding held_at model_in tables_in
returns-then-e-lt8 c = search tested_free

pub home_of-home-requires : goal.home_of-home-requires
home_of-home-requires c = ((bounded _ c.args.self.now.range).sets-most, c.requires.0)

pub returns-then-home-self : goal.returns-then-home-self
unfolding held_at model_in tables_in
returns-then-home-self c = search tested_far

pub returns-then-not-below_pass : goal.returns-then-not-below_pass
unfolding held_at below_pass model_in tables_in
returns-then-not-below_pass c = search tested_apart

pub returns-then-e-word_at : goal.returns-then-e-word_at
unfolding held_at below_pass model_in tables_in
returns-then-e-word_at c =
    let s = c.args.self.now in
    let f = fitting s.range s.ends s.memory_fits s.tags_fit s.states_fit s.words_fit in
    tested_kept _ _ _ _ c.entry_number-k.ensures.0 c.held_at-e.ensures c.if-e-lt8.false c.home_of-home.ensures c.if-home-self.false
    c.below_pass.ensures (ap not c.if-not-below_pass.false)
    (sym (memory_word f c.if-home-self.false c.word_at.ensures)) c.is_owner.ensures c.if-e-word_at.true

pub returns : goal.returns
unfolding held_at below_pass model_in tables_in
returns c =
    let s = c.args.self.now in
    let f = fitting s.range s.ends s.memory_fits s.tags_fit s.states_fit s.words_fit in
    tested_owned _ _ _ _ c.entry_number-k.ensures.0 c.held_at-e.ensures c.if-e-lt8.false c.home_of-home.ensures c.if-home-self.false
    c.below_pass.ensures (ap not c.if-not-below_pass.false)
    (sym (memory_word f c.if-home-self.false c.word_at.ensures)) c.is_owner.ensures c.if-e-word_at.false
    c.owned_at.ensures

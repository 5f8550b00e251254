-- The entry becomes I where the port holds the line, and an owner's word is stored. Assumes nothing.
use Rattle.std.proofs.Common.{arith, ◌∙◌}
use Rattle.ports.specs.Bytes.{tables_in}
use Rattle.ports.proofs.Places.{few, index_below}
use Rattle.ports.proofs.Surveys.{masks_hit, masks_own, sound_states}
use Rattle.decision.proofs.Supplied.{entry_word}
use Rattle.caches.proofs.Applied.{store_then}
use Rattle.caches.proofs.Flushes.{flush_done}
use Rattle.caches.proofs.flush.flush_line.Goals as goal

pub overflow_shr-held : goal.overflow_shr-held
overflow_shr-held c = omega (arith, few c.requires.placed)

pub overflow_shr-stores : goal.overflow_shr-stores
overflow_shr-stores c = omega (arith, few c.requires.placed)

pub entry_number-at-requires-clause-there : goal.entry_number-at-requires-clause-there
entry_number-at-requires-clause-there c = (c.requires.port, omega (arith, index_below c.requires.placed))

pub returns : goal.returns
unfolding tables_in
returns c =
    let v = c.requires.placed in
    let n = c.entry_number-at.ensures in
    let port = c.requires.port in
    let said = c.requires.said in
    flush_done v _ _ _ _ _ port (sound_states _ _ _ c.requires.sound) _ _ (masks_hit _ _ _ said _ port) (masks_own _ _ _ said _ port)
    (entry_word v c.requires.fitting.filled _ n c.word_at-w.ensures) n.0 c.empty_if.ensures (c.store.ensures ∙ store_then _ _ c.then_some-stored.ensures _) c.accept.ensures

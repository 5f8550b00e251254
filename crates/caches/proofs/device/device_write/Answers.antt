-- The word supplied and merged, the holders' answers, and one store. Assumes nothing.
use Rattle.words.proofs.Merge.{word_merged}
use Rattle.ports.specs.Bytes.{bytes, tables_in}
use Rattle.ports.proofs.Surveys.{masks_owners, sound_states}
use Rattle.caches.proofs.Applied.{stored_word}
use Rattle.caches.proofs.Devices.{all_hold, written_done}
use Rattle.caches.proofs.device.device_write.Goals as goal

pub supplied_word-supplied-requires-clause-owners : goal.supplied_word-supplied-requires-clause-owners
supplied_word-supplied-requires-clause-owners c = masks_owners _ _ _ c.requires.said

pub ask-requires-clause-all_states : goal.ask-requires-clause-all_states
unfolding tables_in
ask-requires-clause-all_states c = sound_states _ _ _ c.requires.sound

pub ask-requires-clause-of_holders : goal.ask-requires-clause-of_holders
unfolding tables_in
ask-requires-clause-of_holders c =
    let x = c.args in
    all_hold c.requires.placed (bytes x.memory.now x.tags.now x.states.now x.words.now) c.requires.said

pub returns : goal.returns
returns c =
    let x = c.args in
    written_done c.requires.placed (bytes x.memory.now x.tags.now x.states.now x.words.now) c.requires.said _ _ _
    c.supplied_word-supplied.ensures (word_merged _ _ _ c.merged-merge.ensures)
    c.ask.ensures (search stored_word) c.accept.ensures

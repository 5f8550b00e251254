-- The decision, and its carrying out. Assumes nothing.
use Rattle.ports.specs.Bytes.{bytes, tables_in}
use Rattle.ports.proofs.Surveys.{sound_states}
use Rattle.caches.proofs.Carried.{founded, access_done}
use Rattle.caches.proofs.access.access_line.Goals as goal

pub carry_out-requires-clause-all_states : goal.carry_out-requires-clause-all_states
unfolding tables_in
carry_out-requires-clause-all_states c = sound_states _ _ _ c.requires.sound

pub carry_out-requires-clause-founded : goal.carry_out-requires-clause-founded
unfolding tables_in
carry_out-requires-clause-founded c =
    let x = c.args in let r = c.requires in
    founded r.placed (bytes x.memory.now x.tags.now x.states.now x.words.now) _ r.port _ _ c.decide-d.ensures r.sound

pub returns : goal.returns
returns c =
    let x = c.args in let r = c.requires in
    access_done r.placed (bytes x.memory.now x.tags.now x.states.now x.words.now) _ r.port _ _ c.decide-d.ensures _
    c.carry_out.ensures

-- The answers, the own entry, and at most two stores. Assumes nothing.
use mathlib.Core.Path.{◌≡◌}
use Rattle.std.proofs.Common.{arith, rules}
use Rattle.endian.specs.Little.{numbers}
use Rattle.decision.specs.Decision.{store_of}
use Rattle.ports.specs.Bytes.{bytes}
use Rattle.ports.proofs.Places.{index_below}
use Rattle.caches.proofs.Carried.{carry_done}
use Rattle.caches.proofs.access.carry_out.Goals as goal

pub entry_number-at-requires-clause-there : goal.entry_number-at-requires-clause-there
entry_number-at-requires-clause-there c = (c.requires.port, omega (arith, index_below c.requires.placed))

pub returns : goal.returns
returns c =
    let x = c.args in
    let n = x.line.shape.lines in
    let evicted : numbers 8 n c.store.new.memory ≡ store_of x.d.evicted (numbers 8 n x.memory.now) = search rules in
    carry_done c.requires.placed (bytes x.memory.now x.tags.now x.states.now x.words.now) _ x.i x.d
    c.ask.ensures c.entry_number-at.ensures.0 c.put_entry.ensures evicted (search rules)

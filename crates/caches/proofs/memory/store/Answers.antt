-- A store in bytes. Assumes nothing.
use Rattle.std.proofs.Common.{arith}
use Rattle.caches.proofs.Applied.{stored}
use Rattle.caches.proofs.memory.store.Goals as goal

pub put_word-requires : goal.put_word-requires
put_word-requires c = let below = rw c.in-Some.is at c.requires.there in omega (arith, c.requires.memory, below)

pub returns-in-Some : goal.returns-in-Some
returns-in-Some c = stored _ _ c.in-Some.is c.requires.memory c.requires.there (omega arith) c.put_word.ensures

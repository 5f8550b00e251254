-- The totals of document 01's example of a trace. The proof is `example_tallied` in proofs/Example.antt.
use Rattle.std.specs.Prelude.{◌≡◌, [], ◌∷◌}
use Rattle.replay.specs.Example.{example}
use Rattle.tally.specs.Tally.{tallied}

-- A write that fetches, a read in write through that makes the owner's word be stored, and an order by a port that isn't there: one accepted
-- read, one accepted write, one refused order, one memory read, one memory write.
abbrev pub ExampleTallied : Type 0
ExampleTallied = tallied example ≡ 1 ∷ 1 ∷ 0 ∷ 0 ∷ 0 ∷ 0 ∷ 1 ∷ 1 ∷ 1 ∷ 0 ∷ []

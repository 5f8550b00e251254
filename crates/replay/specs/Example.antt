-- Document 01's example of a trace, and what it yields. The proof is `example_holds` in proofs/Example.antt.
use Rattle.std.specs.Prelude.{ℕ, ◌≡◌, true, List, [], ◌∷◌, ◌++◌}
use Rattle.endian.specs.Little.{encoded}
use Rattle.shape.specs.Shape.{unranged}
use Rattle.replay.specs.Trace.{played, answers_of}

-- Sizes 2, 1, 2, 3, words 0xFF09, 0x10, 0x20 and operands 9, 0, 0.
unfoldable pub example : List ℕ
example = encoded 4 (2 ∷ 1 ∷ 2 ∷ 3 ∷ []) ++ encoded 8 (0xFF09 ∷ 0x10 ∷ 0x20 ∷ []) ++ encoded 8 (9 ∷ 0 ∷ 0 ∷ [])

abbrev pub ExampleHolds : Type 0
ExampleHolds =
    (played example ≡ record { refusal = 0; shape = unranged 2 1 2; orders = 3; passes = true })
    × (answers_of example ≡ 0 ∷ 0 ∷ 0 ∷ 1 ∷ 0 ∷ 0 ∷ 9 ∷ 0 ∷ 0 ∷ 1 ∷ 5 ∷ 0 ∷ 0 ∷ 0 ∷ 0 ∷ [])

-- An answer in bytes.
use Rattle.std.specs.Prelude.{ℕ, List, [], ◌∷◌, drop}
use Rattle.endian.specs.Little.{number, encoded}
use Rattle.model.specs.declared.answer.Answer.{Answer}

-- The five numbers, 64 bits each.
unfoldable pub answer_bytes : Answer → List ℕ
answer_bytes a = encoded 8 (a.refusal ∷ a.value ∷ a.swapped ∷ a.reads ∷ a.writes ∷ [])

-- The five numbers that 40 bytes hold.
unfoldable pub answer_in : List ℕ → Answer
answer_in out = record {
  refusal = number 8 out;
  value = number 8 (drop 8 out);
  swapped = number 8 (drop 16 out);
  reads = number 8 (drop 24 out);
  writes = number 8 (drop 32 out);
}

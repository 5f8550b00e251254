-- `merged_word` is `merge`: the operand under the full mask, else the eight bytes, each by `pick`. Assumes nothing.
use Rattle.std.proofs.Common.{arith}
use Rattle.words.proofs.Merge.{merge_is, merge-full}
use Rattle.words.proofs.word.merged_word.Goals as goal

pub returns-then-mask-eq255 : goal.returns-then-mask-eq255
returns-then-mask-eq255 c = merge-full _ _ _ c.if-mask-eq255.true (omega arith)

pub returns : goal.returns
returns c = search merge_is

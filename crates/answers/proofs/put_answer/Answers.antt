-- The five numbers, one after the other. Assumes nothing.
use Rattle.std.proofs.Common.{arith}
use Rattle.answers.proofs.Answers.{answer-stored}
use Rattle.answers.proofs.put_answer.Goals as goal

pub returns : goal.returns
returns c =
    answer-stored _ c.args.out.now c.requires (omega arith) (omega arith) (omega arith) (omega arith) (omega arith) c.write.ensures
    c.write-2.ensures c.write-3.ensures c.write-4.ensures c.write-5.ensures (λ k. omega (arith, c.type_inv.out k))

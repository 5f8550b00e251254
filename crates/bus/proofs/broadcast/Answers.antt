-- The ports of the mask answer, one after the other. Assumes nothing.
use Rattle.std.proofs.Common.{arith}
use Rattle.bus.proofs.Answers.{telling_none, telling_more, telling_done, passed_fits, part_starts, next_fits, next_room}
use Rattle.bus.proofs.broadcast.Goals as goal

pub loop-rest-init : goal.loop-rest-init
loop-rest-init c = search telling_none

pub passed-k-requires : goal.passed-k-requires
passed-k-requires c =
    let r = c.requires in
    omega (
      arith,
      passed_fits r.placed _ _ _ r.filled r.all_states r.of_holders c.loop-rest.invariant c.loop-rest-test.true
          c.lowest_port-skipped.ensures,
    )

pub overflow_sub-from : goal.overflow_sub-from
overflow_sub-from c = search part_starts

pub answer_from-requires : goal.answer_from-requires
answer_from-requires c = search next_room

pub overflow_add-k : goal.overflow_add-k
overflow_add-k c =
    let r = c.requires in
    omega (
      arith,
      next_fits r.placed _ _ _ r.filled r.all_states r.of_holders c.loop-rest.invariant c.loop-rest-test.true
          c.lowest_port-skipped.ensures c.passed-k.ensures,
    )

pub loop-rest-preserved : goal.loop-rest-preserved
loop-rest-preserved c =
    let r = c.requires in let a = c.answer_from in
    telling_more r.placed _ _ _ r.filled r.all_states r.of_holders c.loop-rest.invariant c.loop-rest-test.true
    c.lowest_port-skipped.ensures c.passed-k.ensures (omega arith) a.auto.tags a.auto.states a.auto.words
    (a.ensures.tags_unchanged, (a.ensures.states_after, a.ensures.words_after))

pub returns : goal.returns
returns c = search telling_done

-- The decision, call by call. Assumes nothing.
use Rattle.std.proofs.Common.{arith}
use Rattle.ports.proofs.Places.{few, index_below, sets_small}
use Rattle.ports.proofs.Masks.{bit_away}
use Rattle.ports.proofs.Surveys.{masks_holders, masks_owners, masks_hit, masks_dirty}
use Rattle.decision.proofs.Decisions.{decide_done}
use Rattle.decision.proofs.decide.Goals as goal

pub entry_number-at-requires-clause-there : goal.entry_number-at-requires-clause-there
entry_number-at-requires-clause-there c = (c.requires.port, omega (arith, index_below c.requires.placed))

pub overflow_shr-own : goal.overflow_shr-own
overflow_shr-own c = omega (arith, few c.requires.placed)

pub overflow_shl-others : goal.overflow_shl-others
overflow_shl-others c = omega (arith, few c.requires.placed)

pub find_word-found-requires-clause-owners : goal.find_word-found-requires-clause-owners
find_word-found-requires-clause-owners c = masks_owners _ _ _ c.requires.said

pub home_of-home-requires : goal.home_of-home-requires
home_of-home-requires c = sets_small c.requires.placed

pub returns : goal.returns
returns c =
    let r = c.requires in
    let p = r.said in
    decide_done r.placed _ _ _ _ r.port c.entry_number-at.ensures.0 c.entry_at-e.ensures
    c.is_owner.ensures _ _ _ (masks_hit _ _ _ p _ r.port)
    (bit_away _ _ _ (masks_holders _ _ _ p) r.port (few r.placed)).1 (masks_dirty _ _ _ p)
    c.find_word-found.ensures c.effect_at-effect.ensures c.find_state-seen.ensures c.own_rule-r.ensures
    c.home_of-home.ensures c.accept.ensures c.then_some.ensures c.then_some-2.ensures c.from.ensures

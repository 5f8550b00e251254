-- What is lent without a refusal may be looked up at a line that is there. Assumes nothing.
use Rattle.std.proofs.lemmas.Result.{err_from_is_err_and}
use Rattle.model.specs.Tables.{model}
use Rattle.find.proofs.Links.{fitting}
use Rattle.find.proofs.Finds.{find_misfit, find_far, find_unsound, find_first}
use Rattle.find.proofs.find_line.Goals as goal

pub invariant_of-column : goal.invariant_of-column
invariant_of-column c =
    let l = fitting _ _ _ _ _ c.in_ok-check.ensures in
    record { range = l.range; below = c.if-shape-a.false; tags_fit = l.sizes.tags; states_fit = l.sizes.states }

pub returns-in_err-check : goal.returns-in_err-check
returns-in_err-check c =
    let p = err_from_is_err_and c.from_residual.result c.from_residual.ensures.1 in
    rw (p.1, p.2)
    (find_misfit _ (model c.args.memory.now c.args.tags.now c.args.states.now c.args.«data».now) _ _ c.in_err-check.ensures)

pub returns-then-shape-a : goal.returns-then-shape-a
returns-then-shape-a c =
    find_far _ (model c.args.memory.now c.args.tags.now c.args.states.now c.args.«data».now) _ c.in_ok-check.ensures c.if-shape-a.true

pub returns-then-not-is_sound : goal.returns-then-not-is_sound
returns-then-not-is_sound c =
    find_unsound _ (model c.args.memory.now c.args.tags.now c.args.states.now c.args.«data».now) _ c.in_ok-check.ensures c.if-shape-a.false
    c.is_sound.ensures c.if-not-is_sound.true

pub returns : goal.returns
returns c =
    find_first _ (model c.args.memory.now c.args.tags.now c.args.states.now c.args.«data».now) _ c.in_ok-check.ensures c.if-shape-a.false
    c.is_sound.ensures c.if-not-is_sound.false c.first_holder.ensures

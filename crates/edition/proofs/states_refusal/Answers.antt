-- The loop keeps that no byte below the index is no state, and whether one is in write through. Assumes nothing.
use Rattle.std.proofs.Common.{sym, ◌∙◌, rules}
use mathlib.Core.Bool.{false≢true}
use Rattle.edition.proofs.Loops.{asking_none}
use Rattle.edition.proofs.Conversions.{found_no_state, byte_more, through_more, found_is}
use Rattle.edition.proofs.states_refusal.Goals.{in-Err+else-eq, in_default}
use Rattle.edition.proofs.states_refusal.Goals as goal

pub loop-b-init : goal.loop-b-init
loop-b-init c = asking_none _ _ _

pub loop-b-preserved : goal.loop-b-preserved
loop-b-preserved c =
    elim c.match-convert_byte.branch [
      | in-Err+else-eq w ↦
          rw w.found-is
          (through_more c.args.way c.args.states.now c.loop-b.invariant c.loop-b-test.true (sym c.convert_byte.ensures ∙ w.in-Err.is)
          (λ z. false≢true (sym w.if-eq.false ∙ w.eq.ensures ∙ rw z)))
      | in_default w ↦
          rw w.found-is (byte_more c.args.way c.args.states.now c.loop-b.invariant c.loop-b-test.true (sym c.convert_byte.ensures ∙ w.in_default.is))
    ]

pub returns-then-eq : goal.returns-then-eq
returns-then-eq c =
    let told = found_no_state c.args.way c.args.states.now c.loop-b.invariant c.loop-b-test.true (sym c.convert_byte.ensures ∙ c.in-Err.is)
    (λ z. false≢true (sym (sym c.if-eq.true ∙ c.eq.ensures ∙ rw z))) in
    search (told, rules)

pub returns : goal.returns
returns c = found_is c.args.way c.args.states.now c.loop-b.invariant c.loop-b-test.false

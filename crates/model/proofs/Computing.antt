-- One name for all that fresh and a step compute by: a proof that says `unfolding computing` can run them. Every proof of an example does,
-- so that a definition more in the step is listed here alone. Assumes nothing.
use Rattle.protocol.specs.State.{code, state_of}
use Rattle.words.specs.Word.{merge, merge_low}
use Rattle.words.specs.Access.{effect_at}
use Rattle.protocol.specs.Rules.{rule, flush_rule, snooped, updates}
use Rattle.shape.specs.Range.{inside, ends_by}
use Rattle.shape.specs.Shape.{in_range, fits, ranges_end, fit_refusal, refusal_of}
use Rattle.model.specs.Order.{mode_in_force, decode, checked, call_of}
use Rattle.model.specs.Below.{all_below, any_below, or_else, lowest, at_or}
use Rattle.model.specs.Tables.{lent_refusal, sound, seen, word_at, dirty, column_sound}
use Rattle.model.specs.Step.{put_below, word_supplied, byte_answered, word_answered, shared, word_found, fetches, evicts_owner, byte_after, word_after}
use Rattle.model.specs.Step.{applied, access_rule, accessed, flushed, device_written, called, perform, step}
use Rattle.model.specs.Fresh.{zeroed, fresh}

unfoldable pub computing : Unit {0}
unfolding code state_of merge merge_low effect_at rule flush_rule snooped updates inside ends_by in_range fits ranges_end fit_refusal refusal_of mode_in_force decode checked call_of
    all_below any_below or_else lowest at_or lent_refusal sound seen word_at dirty column_sound put_below word_supplied byte_answered word_answered shared word_found fetches evicts_owner
    byte_after word_after applied access_rule accessed flushed device_written called perform step zeroed fresh
computing = tt

-- `effect_at` is `effect_at`, put together from what is asked of the access. Assumes nothing.
use Rattle.words.proofs.Effects.{effect_is}
use Rattle.words.proofs.access.effect_at.Goals as goal

pub returns : goal.returns
returns c = search effect_is

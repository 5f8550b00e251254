-- The places are looked at one after the other. Assumes nothing.
use Rattle.std.proofs.Common.{rules, refl}
use Rattle.std.proofs.lemmas.Iterator.{YieldsList-from_range}
use Rattle.std.proofs.lemmas.Iterator.Search.{any_from_yields_List}
use Rattle.counters.specs.Totals.{places, total_at, high, totals_in}
use Rattle.counters.proofs.Places.{full_is}
use Rattle.counters.proofs.lent.is_full.Goals as goal

pub returns : goal.returns
returns c =
    full_is (totals_in c.args.lent.now)
    (any_from_yields_List (λ k. high (total_at (totals_in c.args.lent.now) k)) _ _ _ c.any.ensures.ran
    (YieldsList-from_range 0 places places refl refl) (λ x b q k. search rules))

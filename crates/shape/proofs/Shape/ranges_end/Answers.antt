-- `ranges_end` is `ranges_end`: both ranges empty, or each by itself. Assumes nothing.
use Rattle.std.proofs.Common.{sym, ◌∙◌}
use Rattle.shape.specs.Shape.{ranges_end}
use Rattle.shape.proofs.Ranges.{both_empty}
use Rattle.shape.proofs.Shape.ranges_end.Goals as goal

pub returns-then-has_no_ranges : goal.returns-then-has_no_ranges
unfolding ranges_end
returns-then-has_no_ranges c = both_empty _ _ _ (sym c.has_no_ranges.ensures ∙ c.if-has_no_ranges.true)

pub returns : goal.returns
unfolding ranges_end
returns c = rw (c.ends_by.ensures, c.ends_by-2.ensures)

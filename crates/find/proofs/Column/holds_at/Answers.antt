-- Port p holds the line: its entry has the line's tag, and isn't I. Assumes nothing.
use Rattle.find.proofs.Holders.{holds_is}
use Rattle.find.proofs.Column.holds_at.Goals as goal

pub returns : goal.returns
returns c = search holds_is

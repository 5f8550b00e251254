-- Which case stands at a number, for each part of the tables. Assumes nothing.
use Rattle.rows.proofs.Places.{own_part, snoop_part, taken_part, flush_part, write_part, read_part}

pub ruleset parts = (own_part, snoop_part, taken_part, flush_part, write_part, read_part)

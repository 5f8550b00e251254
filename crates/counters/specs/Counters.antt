-- The four counters that an order touches, out of the totals and back.
use Rattle.std.specs.Prelude.{ℕ, ◌+◌, ◌≤◌, set}
use Rattle.model.specs.declared.answer.Answer.{Answer}
use Rattle.counters.specs.declared.Counters.{Counters}
use Rattle.counters.specs.Totals.{Totals, reads_place, writes_place, swaps_place, total_at, most}

-- The counters of an order that is counted at place k.
unfoldable pub counters_at : Totals → ℕ → Counters
counters_at n k = record { orders = total_at n k; reads = total_at n reads_place; writes = total_at n writes_place; swaps = total_at n swaps_place }

-- With an answer added.
unfoldable pub counters_after : Counters → Answer → Counters
counters_after c a = record {
  orders = c.orders + 1;
  reads = c.reads + a.reads;
  writes = c.writes + a.writes;
  swaps = c.swaps + a.swapped;
}

-- Put back.
unfoldable pub counters_put : Totals → ℕ → Counters → Totals
counters_put n k c = set (set (set (set n k c.orders) reads_place c.reads) writes_place c.writes) swaps_place c.swaps

-- Each counter has room for an answer, and the answer adds little.
pub record Room (c : Counters) (a : Answer) : Type 0 where
  pub orders : c.orders ≤ most
  pub reads : c.reads ≤ most
  pub writes : c.writes ≤ most
  pub swaps : c.swaps ≤ most
  pub few_reads : a.reads ≤ 1
  pub few_writes : a.writes ≤ 2
  pub few_swapped : a.swapped ≤ 1

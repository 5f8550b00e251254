-- The counters are read, brought up to date and put back. Assumes nothing.
use Rattle.counters.proofs.Counting.{has_room, counted_is}
use Rattle.counters.proofs.lent.count.Goals as goal

pub updated-c-requires : goal.updated-c-requires
updated-c-requires c = has_room _ c.requires.few c.requires.room c.order_place-k.ensures c.counters_at.ensures

pub returns : goal.returns
returns c =
    counted_is _ c.requires.few c.order_place-k.ensures c.counters_at.ensures c.updated-c.ensures c.put_counters.ensures

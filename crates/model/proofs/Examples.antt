-- The fourteen orders, the device writes, the stores that leave the word as it was, the swaps that fail and the orders in ranges, by computation.
-- Assumes nothing.
use mathlib.Core.Path.{refl}
use Rattle.model.specs.Fourteen.{table, two_ports, start, played_on, FourteenHold}
use Rattle.model.specs.DeviceWrites.{written, two_owners, owners_written, owners_left, no_state, no_state_refused, no_home, no_home_refused}
use Rattle.model.specs.DeviceWrites.{DeviceWritesHold}
use Rattle.model.specs.Find.{find}
use Rattle.model.specs.Flat.{flat_access, flat_perform, flat_step, flat_start}
use Rattle.model.specs.Marks.{flat_run, model_run}
use Rattle.model.specs.SameStores.{exclusives, others, stored, two_exclusives, beside, marking, SameStoresHold}
use Rattle.model.specs.FailedSwaps.{failed_back, failed_through, other_word, memory_compared, FailedSwapsHold}
use Rattle.model.specs.RangeOrders.{both, crossing, upper, standing, two_writes, tried, told, beyond, short, RangeOrdersHold}
use Rattle.model.proofs.Computing.{computing}

pub fourteen_hold : FourteenHold
unfolding computing table two_ports start played_on
fourteen_hold = refl

pub device_writes_hold : DeviceWritesHold
unfolding computing two_ports start played_on written two_owners owners_written owners_left no_state no_state_refused no_home no_home_refused
device_writes_hold = (refl, refl, refl, refl, refl)

pub same_stores_hold : SameStoresHold
unfolding computing two_ports start played_on exclusives others stored two_exclusives beside marking flat_access flat_perform flat_step flat_start flat_run model_run
same_stores_hold = (refl, refl, refl, refl, refl, refl)

pub failed_swaps_hold : FailedSwapsHold
unfolding computing two_ports start played_on failed_back failed_through other_word memory_compared
failed_swaps_hold = (refl, refl, refl)

pub range_orders_hold : RangeOrdersHold
unfolding computing two_ports start played_on both crossing upper standing two_writes tried told beyond short find flat_access flat_perform flat_step flat_start flat_run
range_orders_hold = (refl, refl, refl, refl, refl, refl, refl, refl, refl, refl)

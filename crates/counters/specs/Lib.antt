-- Totals for a run: their record, the counters that an order touches, and runs with a record.
pub mod Totals
pub mod Counters
pub mod Run

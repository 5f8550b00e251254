-- The definitions, from an order up to the histories, and the statements of the theorems over them.
pub mod Order
pub mod Below
pub mod Tables
pub mod Step
pub mod Fresh
pub mod Audit
pub mod Find
pub mod Flat
pub mod Agreement
pub mod Marks
pub mod Claims
pub mod Fourteen
pub mod DeviceWrites
pub mod SameStores
pub mod FailedSwaps
pub mod Ranges
pub mod RangeOrders

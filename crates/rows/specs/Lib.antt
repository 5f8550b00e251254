-- The rows of the published tables: what each is of, what stands in it, by which of them an order goes, and what is proved of that.
pub mod Cases
pub mod Cells
pub mod Numbers
pub mod Orders
pub mod Examples
pub mod Claims

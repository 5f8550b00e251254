-- What a trace says and yields, the model that it runs on, and document 01's example.
pub mod Trace
pub mod Shaped
pub mod Example

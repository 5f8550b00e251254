-- What an access comes to before anything is written.
pub mod Decision

-- What the audit's code computes, entry by entry; the laws in proofs/ say that the entries pass where the model's audit says yes.
pub mod Entries

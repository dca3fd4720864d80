-- What the calls' answers mean, for the proofs of this crate and of the floors above.
pub mod Blocks
pub mod Front
pub mod Unique

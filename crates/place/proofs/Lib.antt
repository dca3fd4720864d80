-- The laws of decoding in place, for the proofs of this crate and of the floors above.
pub mod Copies
pub mod Groups
pub mod Walks
pub mod Downward
pub mod Measured
pub mod Refusals
pub mod Unique

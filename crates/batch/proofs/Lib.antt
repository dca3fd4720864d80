-- The laws of the batch receiver, for the proofs of this crate and of the floors above.
pub mod Ways
pub mod Effects
pub mod Asked
pub mod Fold
pub mod Good
pub mod Taking
pub mod Accepting
pub mod Records
pub mod Kept
pub mod Sentences
pub mod Order
pub mod Unique

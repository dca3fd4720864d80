-- The laws of the encoder, for the proofs of this crate and of the floors above.
pub mod Deciding
pub mod Steps
pub mod Pieces
pub mod Loops
pub mod Calls
pub mod Meaning
pub mod Joined
pub mod Unwritten
pub mod Sentences
pub mod Examples
pub mod Parts
pub mod Tails
pub mod Counted
pub mod Opens
pub mod Turns
pub mod Forms
pub mod Unique

-- The laws of records, for the proofs of this crate and of the floors above.
pub mod Signs
pub mod Valid
pub mod Round
pub mod Frames
pub mod Known
pub mod Unique
pub mod Framing

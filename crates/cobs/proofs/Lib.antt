-- The laws of the code, for the proofs of this crate and of the floors above.
pub mod Told
pub mod Runs
pub mod Groups
pub mod Encoding
pub mod Reading
pub mod Bodies
pub mod Lengths
pub mod Over
pub mod Wide
pub mod Sentinel
pub mod OneShot
pub mod RoundTrips
pub mod Known
pub mod Unique

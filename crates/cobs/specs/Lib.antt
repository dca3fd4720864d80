-- What a reader must believe of the code, in reading order. Definitions only; their laws are in proofs/.
pub mod Words
pub mod Code
pub mod Answers
pub mod OneShot
pub mod Lengths
pub mod Known
pub mod RoundTrips

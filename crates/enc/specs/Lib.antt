-- What a reader must believe of the encoder, in reading order. Definitions only; their laws are in proofs/.
pub mod State
pub mod Stream
pub mod OneShot
pub mod Sentences
-- for the private functions
pub mod Fast

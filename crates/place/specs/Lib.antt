-- What a reader must believe of decoding in place, in reading order. Definitions only; their laws are in proofs/.
pub mod Calls
-- for the private functions
pub mod Walk

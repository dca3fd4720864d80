-- What a reader must believe of the decoder, in reading order. Definitions only; their laws are in proofs/.
pub mod State
pub mod Stream
pub mod Calls
pub mod Sentences
pub mod RoundTrips
-- for the private functions
pub mod Helpers

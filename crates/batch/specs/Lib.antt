-- What a reader must believe of the batch receiver, in reading order. Definitions only; their laws are in proofs/.
pub mod State
pub mod Verdict
pub mod Frame
pub mod Sentences
-- for the private functions
pub mod Helpers

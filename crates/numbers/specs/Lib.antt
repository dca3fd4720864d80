-- What a reader must believe of the states as numbers. Definitions only; their laws are in proofs/.
pub mod Numbers
-- for the private functions
pub mod Helpers

-- What a reader must believe of the encoder that holds its slice. Definitions only; their laws are in proofs/.
pub mod Held

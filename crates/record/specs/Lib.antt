-- What a reader must believe of records, in reading order. Definitions only; their laws are in proofs/.
pub mod Record
pub mod Frame
pub mod Known

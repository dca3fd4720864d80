-- What a reader must believe of the marks. Definitions only; their laws are in proofs/.
pub mod Marks

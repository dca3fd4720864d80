-- What a reader must believe of the wire, in reading order. Definitions only; their laws are in proofs/.
pub mod Again
pub mod Loop
pub mod Receive
pub mod Call
pub mod Sentences
pub mod Batch
pub mod Demand3
pub mod Moments
pub mod Afterwards
pub mod Among
pub mod Anew
pub mod Noise
pub mod Edges

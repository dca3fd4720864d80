-- States as numbers, and what is told of them.
pub mod Numbers

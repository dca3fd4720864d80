-- The laws of arrays of numbers, and one result for every exported call.
pub mod Arrays
pub mod Ways
pub mod Unique

-- The laws of the states as numbers, and that each call has one result.
pub mod Same
pub mod Naming
pub mod Within
pub mod Unique

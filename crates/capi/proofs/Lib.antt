-- The laws of the calls for C callers, and that each has one result.
pub mod Named
pub mod Delivery
pub mod Unique

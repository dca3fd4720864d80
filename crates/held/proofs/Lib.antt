-- The laws of the encoder that holds its slice.
pub mod Starts
pub mod Unique

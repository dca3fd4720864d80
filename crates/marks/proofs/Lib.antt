-- The laws of the marks. The floors above cite `Marks` and `Below`, which speak of indices alone.
pub mod Counts
pub mod Bits
pub mod Marks
pub mod Below
pub mod Words
pub mod Unique

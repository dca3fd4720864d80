pub mod Blocks
-- for the private functions
pub mod Helpers

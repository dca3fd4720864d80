-- What a reader must believe of the calls for C callers, beside the definitions of the calls they pass on.
pub mod Stream
pub mod Delivery
-- for the private functions
pub mod Helpers

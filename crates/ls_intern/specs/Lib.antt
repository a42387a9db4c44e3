pub mod Places
pub mod NodeKeys
pub mod Filling
pub mod Codes

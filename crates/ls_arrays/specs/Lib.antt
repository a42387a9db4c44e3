pub mod Arrays
pub mod steps

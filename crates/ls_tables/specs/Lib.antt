pub mod Builtins
pub mod Sets
pub mod Table
pub mod steps

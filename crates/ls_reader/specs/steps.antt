pub mod Delimited
pub mod Lexing
pub mod Building
pub mod Running

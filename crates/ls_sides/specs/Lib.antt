pub mod Nodes
pub mod Gathering

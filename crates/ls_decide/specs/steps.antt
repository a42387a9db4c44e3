-- How the cost is counted, for the contracts of private functions alone. No public contract rests on these definitions.
pub mod Cut
pub mod Nodes
pub mod Weights
pub mod Counting
pub mod Comparing
pub mod Pairs
pub mod Learning
pub mod Belonging

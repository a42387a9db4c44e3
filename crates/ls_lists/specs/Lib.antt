pub mod Sides
pub mod Candidates
pub mod Walks
pub mod Costs

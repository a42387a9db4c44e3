pub mod IdLemmas
pub mod NodeLemmas
pub mod GatherLemmas

pub mod ListLemmas
pub mod DimensionLaw
pub mod CodeLaw
pub mod CountLaw
pub mod ArrayLaw

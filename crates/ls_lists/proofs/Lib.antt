pub mod FallLemmas
pub mod RowLemmas
pub mod AmongLemmas
pub mod WalkLemmas
pub mod KeptLemmas

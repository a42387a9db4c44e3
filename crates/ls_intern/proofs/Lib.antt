pub mod PlaceLemmas
pub mod FillingLemmas
pub mod KeyLemmas
pub mod PutLemmas
pub mod AddingLemmas
pub mod TreeLemmas

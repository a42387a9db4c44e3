pub mod TreeLemmas
pub mod PutLemmas
pub mod CopyLemmas

pub mod SearchLemmas
pub mod NameLemmas
pub mod BitLemmas
pub mod SetLemmas
pub mod MeetingLemmas
pub mod TableLemmas
pub mod SizeLemmas

pub mod CutLemmas
pub mod NodeLemmas
pub mod ListLemmas
pub mod CandidateLemmas
pub mod CountLemmas
pub mod CostLemmas
mod BoundedLemmas
mod WitnessLemmas
mod RightLemmas
mod InternLemmas
mod BudgetLemmas
mod WorkLemmas
mod PairLemmas
mod LearnLemmas
mod EntryLemmas
mod TakenLemmas
mod DecidedLemmas
mod MeaningLemmas
mod BelongingLemmas
mod AskedLemmas

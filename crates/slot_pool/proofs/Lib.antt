pub mod BuildLemmas
pub mod FlagLemmas
pub mod HistoryLemmas
pub mod LawLemmas
pub mod NodeLemmas
pub mod PoolLemmas
pub mod SearchLemmas
pub mod ShapeLemmas

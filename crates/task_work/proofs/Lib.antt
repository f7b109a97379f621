mod SmallLemmas
mod PieceLemmas
mod TableLemmas
mod RunningLemmas
mod PairLemmas
mod ComputingLemmas
mod OverlongLemmas
mod MakingLemmas
mod RunLemmas
mod CarriedLemmas
pub mod FillingLemmas

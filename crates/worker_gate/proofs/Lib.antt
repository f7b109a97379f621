mod SmallLemmas
mod StateLemmas
mod OrderLemmas
mod WorkLemmas
mod RunLemmas
mod LoanLemmas
mod MadeLemmas
mod MovedLemmas
mod FillingLemmas
pub mod InputsLemmas
pub mod CallsLemmas
mod TurningLemmas
mod TendingLemmas
mod AskingLemmas
pub mod RunsLemmas
pub mod TellingLemmas
mod WorkingLemmas
mod HandsLemmas
mod ManyLemmas
pub mod SendLemmas

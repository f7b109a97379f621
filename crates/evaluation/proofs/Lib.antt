pub mod RestLemmas
pub mod StepLemmas
pub mod PreparedLemmas
pub mod BasesLemmas
pub mod ValueLinesLemmas
pub mod EvaluatingLemmas
pub mod FinishLemmas

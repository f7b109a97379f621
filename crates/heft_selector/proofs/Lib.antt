pub mod MoveLemmas
pub mod CandidateLemmas
pub mod TimeLemmas
pub mod BridgeLemmas
pub mod NameLemmas
pub mod SelectLemmas
pub mod ListLemmas
pub mod SiteLemmas

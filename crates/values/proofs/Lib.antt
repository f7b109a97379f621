pub mod FileMapLemmas
pub mod SiteMapLemmas

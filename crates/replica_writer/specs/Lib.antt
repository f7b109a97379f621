-- What the public contracts say
pub mod Pfn
pub mod Document
pub mod Writer
pub mod Law

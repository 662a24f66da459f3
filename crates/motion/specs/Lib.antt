pub mod Slides
pub mod Waves
pub mod Halves
pub mod Legal
pub mod LegalFacts
pub mod Kept

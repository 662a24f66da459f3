pub mod PlayParts
pub mod PlayingOn

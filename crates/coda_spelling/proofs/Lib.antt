pub mod SpelledParts
mod BoundBefore
pub mod SpelledNodes
pub mod SpelledVerdicts
pub mod SpelledRecords

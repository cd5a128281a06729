pub mod Cell
pub mod Fact
pub mod Changes
pub mod Shortcuts

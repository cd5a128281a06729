pub mod Apart
pub mod Ways
pub mod Forests
pub mod Directories
pub mod Entries
pub mod FetchedAsFiles

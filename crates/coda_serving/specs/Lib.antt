pub mod Spelling
pub mod Fetching
pub mod Unfetched
pub mod Answering
pub mod Laws
pub mod Serving

pub mod Tabled
pub mod Found
pub mod Spans
pub mod Cut

pub mod Printing
pub mod Volumes
pub mod Walking
pub mod Records
pub mod Texts
pub mod PathOrder
pub mod LogTexts

mod Losing
mod Kept
mod Lost
mod Found
mod Waiting
mod Trimmed

pub mod Lists
pub mod Alike
pub mod MergedNames
pub mod Again
pub mod Twice
pub mod Whole
pub mod There
pub mod Told
pub mod Logged
pub mod Once
mod Elsewhere
pub mod Apart
pub mod Trees
mod Walked
mod Complete
mod Single
pub mod Leaders
pub mod Settled
pub mod Collected
mod Stamped
mod Gaps
mod Followed
mod Bound
mod Led
mod LeastNames
mod Rebound
mod Counts
pub mod Sorted
mod Stack
mod Marking
mod Changed
mod Others
mod Known
mod Parts
mod Assembled
mod Sameness
mod Renewing
mod Reaching
pub mod After
mod Lasting
mod Merging
mod Kept
mod Reasons
mod Forgotten
mod Contested
mod Doubled
mod FirstCause

pub mod WholeNames
pub mod PlacedJobs
pub mod Runs
pub mod Loads

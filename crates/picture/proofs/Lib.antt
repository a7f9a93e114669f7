mod Flying
mod Landing
mod Runs
mod Putting
mod Lasts
mod Noting
mod Recording

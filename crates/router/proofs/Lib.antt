pub mod Alone
mod Between
mod Queuing
mod Standings
mod Turning

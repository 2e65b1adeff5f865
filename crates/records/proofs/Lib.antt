mod Claiming
mod Filling
mod Listing
mod Steps
pub mod Whole

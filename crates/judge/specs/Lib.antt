pub mod Refutations
pub mod Judging

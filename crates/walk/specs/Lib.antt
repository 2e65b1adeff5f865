pub mod Fits
pub mod Outlines
pub mod Walk
pub mod Stack
pub mod Remain
pub mod Exact

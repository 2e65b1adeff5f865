pub mod Told
pub mod Turning
pub mod Sweeps
pub mod Tables

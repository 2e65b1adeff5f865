pub mod Lines
pub mod Commands
pub mod Shown
pub mod Phrases

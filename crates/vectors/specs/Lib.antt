pub mod Faults
pub mod Fields
pub mod Tables
pub mod Answers
pub mod Records

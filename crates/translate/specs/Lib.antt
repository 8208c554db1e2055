pub mod Outcome
pub mod Sense
pub mod Worked

pub mod Sense
pub mod Loops

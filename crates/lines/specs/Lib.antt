pub mod Lines
pub mod Cut
pub mod Read
pub mod Worked
pub mod Reach

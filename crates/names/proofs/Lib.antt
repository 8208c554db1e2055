pub mod Short
pub mod Arm64

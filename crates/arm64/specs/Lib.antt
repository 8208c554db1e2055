pub mod Arm64
pub mod Encoder
pub mod Index
pub mod Sense

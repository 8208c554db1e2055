pub mod X64
pub mod Index
pub mod Order
pub mod Scan
pub mod Sense

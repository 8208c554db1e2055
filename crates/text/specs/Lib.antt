pub mod Tests
pub mod Bits
pub mod Packed
pub mod Text

pub mod Dwarf
pub mod Cache
pub mod Slices
pub mod Index
pub mod Sense
pub mod Worked

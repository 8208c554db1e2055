pub mod Pdb
pub mod Sorted
pub mod Index
pub mod Sense
pub mod Worked

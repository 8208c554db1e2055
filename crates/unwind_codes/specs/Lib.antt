pub mod UnwindCodes
pub mod Index
pub mod Words
pub mod Unread
pub mod Encode
pub mod Worked

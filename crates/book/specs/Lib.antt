pub mod Book
pub mod Kind
pub mod Bodies
pub mod Pairs

pub mod Sense
pub mod Rules
pub mod Infos

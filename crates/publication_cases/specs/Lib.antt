pub mod Echoes
pub mod NoFlag

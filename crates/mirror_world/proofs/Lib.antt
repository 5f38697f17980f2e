pub mod lemmas
pub mod Values
pub mod WrittenHeads
mod Replying
mod Shapes
mod Hearing
mod Stating
mod Passing
mod Held
mod Escapes
mod Targets
mod Lines
mod Requesting

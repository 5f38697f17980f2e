mod Escapes
mod Joining
mod Heads
mod Lengths
mod Framings
mod Spans
pub mod lemmas

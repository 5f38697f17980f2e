pub mod Sorting
pub mod lemmas
pub mod Lengths
pub mod Standing
pub mod AnyOrder
pub mod NamesHeld

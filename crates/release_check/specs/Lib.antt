pub mod Before
pub mod LeapFile
pub mod Faults
pub mod Folder
pub mod FaultText
pub mod Judged
pub mod Found

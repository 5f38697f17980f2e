pub mod LatestPart
pub mod Lined
pub mod OnsetTests
pub mod Parted
pub mod Tests
pub mod Worded

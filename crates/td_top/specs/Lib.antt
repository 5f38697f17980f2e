pub mod Command
pub mod Replies
pub mod TalkingSteps
pub mod ConsoleBeside
pub mod FollowingSteps
pub mod Works
pub mod ServerSteps
pub mod MirroringSteps

pub mod Addresses
pub mod RunLemmas
pub mod RuleLemmas
pub mod lemmas
pub mod FolderLines
pub mod FollowLines
pub mod AudienceLemmas
pub mod LineLemmas
pub mod TalkLemmas
pub mod TurnLemmas
pub mod Hears
pub mod MirrorHistory
pub mod MirrorRuns
pub mod OpenedLemmas
pub mod ServerLemmas
pub mod WorkLemmas
pub mod BesideLemmas
mod Confirmed

pub mod Fields
pub mod LastChange
pub mod Responses
pub mod Restarts
pub mod SyncEnds
pub mod WorldAnswers

pub mod CalendarRequests
pub mod FaultText
pub mod Fields
pub mod Replies
pub mod Requests
pub mod SentHeads

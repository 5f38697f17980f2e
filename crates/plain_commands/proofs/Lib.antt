pub mod Checked
pub mod Desks
pub mod LoadLemmas
pub mod CalendarLemmas
pub mod CalendarRuns
pub mod KeptCalendars
pub mod PrimaryLines

pub mod Texts
pub mod TextCuts
pub mod TextRuns
pub mod Answered
pub mod Computing
pub mod ReadersShutOut
pub mod ReadMeeting
pub mod ReadCases

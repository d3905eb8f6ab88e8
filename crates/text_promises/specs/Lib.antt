pub mod Texts
pub mod TextCuts
pub mod TextRuns
pub mod ReadCode
pub mod WrongReaders

pub mod Spelling
pub mod LeadParts
pub mod NamesApart
pub mod Meeting
pub mod BlockByBlock

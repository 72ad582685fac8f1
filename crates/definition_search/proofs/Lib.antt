pub mod KeptSearches
pub mod NewSearches
pub mod WrittenTexts
pub mod ReadNames
pub mod RightBlocks

mod RangeFilters
pub mod NumberedLines
mod SameFaults
mod AllowedItems
mod SpentIds
mod Links

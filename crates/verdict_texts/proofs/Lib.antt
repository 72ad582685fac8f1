pub mod AcceptedRefutations
pub mod AcceptedCircuits
pub mod WrittenForms
mod Beginnings
pub mod Counts
pub mod NumberedFiles
pub mod RefutedRows
pub mod ShownTexts
pub mod ShortTexts

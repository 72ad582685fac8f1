pub mod ReadFormulas
pub mod SaidFormulas
pub mod ToldTexts
pub mod ToldFiles

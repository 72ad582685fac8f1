pub mod DesignFiles
pub mod DesignTexts
pub mod Encoded
pub mod RefusalNames
pub mod TextFiles

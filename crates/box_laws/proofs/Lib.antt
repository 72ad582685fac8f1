pub mod StatedBoxes
pub mod BoxTexts
pub mod LawfulDesigns
pub mod FittingContents

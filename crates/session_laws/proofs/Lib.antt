pub mod AnsweredBlocks
pub mod AskedFormulas
pub mod GrownFormulas
pub mod ReadScripts

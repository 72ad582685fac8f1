mod TokenCuts
mod EndedNumbers
mod FirstLine
mod KeptBytes
pub mod LineWords
mod LongestRuns
pub mod Naturals
pub mod Numerals
mod PiecedLines
mod PiecedTokens
pub mod ShortNumbers
mod SkippedBytes
pub mod TokenLines
mod WholeTokens

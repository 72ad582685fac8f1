-- The line of a fault of the mapping is a number of 64 bits.
use Rattle.std.proofs.Common.{ℕ, List, arith}
use Rattle.aiger_text.specs.Grammar.{SpellsCircuit}
use Rattle.aiger_text.specs.declared.files.AagFile.{AagFile}
use Rattle.cert_judge.specs.Places.{HasFewLines}

pub spelled_few : (text : List ℕ) (file : AagFile) → SpellsCircuit text file → HasFewLines file.circuit
spelled_few text file h = search arith

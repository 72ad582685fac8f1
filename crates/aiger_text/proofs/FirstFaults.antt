-- A text has a file or a first fault, never both, and one of its kind.
use Rattle.std.proofs.Common.{◌≡◌, ℕ, ◌+◌, ◌⊎◌, length, inl, inr, List, Result, Ok, Err, refl, sym, ◌∙◌, ap, subst, arith}
use Rattle.std.proofs.lemmas.Bool.{cases_order}
use Rattle.circuit_plain.specs.Ground.{IsFirstUngrounded}
use Rattle.circuit_plain.specs.Netlist.{Netlist}
use Rattle.aiger_text.specs.FirstFault.{IsFirstFault}
use Rattle.aiger_text.specs.Grammar.{SpellsCircuit}
use Rattle.aiger_text.specs.Scan.{LineFault, AllGrounded, IsCyclicAt, scan}
use Rattle.aiger_text.specs.declared.faults.AagFault.{AagFault}
use Rattle.aiger_text.specs.declared.faults.AagFault.TheVariants.{Cyclic}
use Rattle.aiger_text.specs.declared.files.AagFile.{AagFile}
use Rattle.aiger_text.proofs.GroundedGates.{all_grounded_or_first}
use Rattle.aiger_text.proofs.LineNumbers.{scan_same}
use Rattle.aiger_text.proofs.ReadIsSpelled.{read_is_spelled}
use Rattle.aiger_text.proofs.SpelledIsRead.{spelled_is_read}

pub spells_from : (text : List ℕ) (first : ℕ) (file : AagFile) → scan text first ≡ Ok file → AllGrounded file.circuit →
    SpellsCircuit text file
spells_from text first file read acyclic = read_is_spelled text file (scan_same text file first 1 read) acyclic

pub read_from : (text : List ℕ) (first : ℕ) (file : AagFile) → SpellsCircuit text file → scan text first ≡ Ok file
read_from text first file spells = scan_same text file 1 first (spelled_is_read text file spells)

one_file : (text : List ℕ) (first : ℕ) (f g : AagFile) → scan text first ≡ Ok f → scan text first ≡ Ok g → f ≡ g
one_file text first f g here there = let same : Ok f ≡ Ok g = sym here ∙ there in cc

pub unique_file : (text : List ℕ) (f g : AagFile) → SpellsCircuit text f → SpellsCircuit text g → f ≡ g
unique_file text f g here there = one_file text 1 f g (spelled_is_read text f here) (spelled_is_read text g there)

by_scan : (text : List ℕ) (first : ℕ) (r : Result AagFile LineFault) → scan text first ≡ r →
    ((file : AagFile) × SpellsCircuit text file) ⊎ ((fault : LineFault) × IsFirstFault text first fault)
by_scan text first (Err fault) read = inr (fault, inl read)
by_scan text first (Ok file) read =
    elim (all_grounded_or_first file.circuit) [
      | inl acyclic ↦ inl (file, spells_from text first file read acyclic)
      | inr (place, outside) ↦
          let line = first + 1 + length file.circuit.inputs + length file.circuit.outputs + place in
          inr (
            record { line = line; name = Cyclic },
            inr (record {
              file = file;
              scanned = read;
              cyclic = refl;
              at_line = record { place = place; ungrounded = outside; on_line = refl };
            }),
          )
    ]

pub file_or_fault : (text : List ℕ) (first : ℕ) → ((file : AagFile) × SpellsCircuit text file) ⊎
    ((fault : LineFault) × IsFirstFault text first fault)
file_or_fault text first = by_scan text first (scan text first) refl

not_grounded : (net : Netlist) (line first : ℕ) → AllGrounded net → IsCyclicAt first net line → ⊥
not_grounded net line first all cycle = cycle.ungrounded.outside (all cycle.place _ cycle.ungrounded.in_range)

pub never_both : (text : List ℕ) (first : ℕ) (file : AagFile) (fault : LineFault) → SpellsCircuit text file →
    IsFirstFault text first fault → ⊥
never_both text first file fault spells (inl failed) = let both = sym (read_from text first file spells) ∙ failed in cc
never_both text first file fault spells (inr cycle) =
    let same : file ≡ cycle.file = one_file text first file cycle.file
    (read_from text first file spells) cycle.scanned in
    not_grounded cycle.file.circuit fault.line first (subst (λ (f : AagFile). AllGrounded f.circuit) same
    spells.acyclic) cycle.at_line

one_place : (net : Netlist) (p q : ℕ) → IsFirstUngrounded net p → IsFirstUngrounded net q → p ≡ q
one_place net p q one other =
    elim (cases_order p q) [
      | inl same ↦ same
      | inr (inl before) ↦ absurd (one.outside (other.first p before))
      | inr (inr behind) ↦ absurd (other.outside (one.first q behind))
    ]

one_line : (first : ℕ) (net : Netlist) (l m : ℕ) → IsCyclicAt first net l → IsCyclicAt first net m → l ≡ m
one_line first net l m one other =
    one.on_line
    ∙ ap (λ p. first + 1 + length net.inputs + length net.outputs + p)
    (one_place net one.place other.place one.ungrounded other.ungrounded)
    ∙ sym other.on_line

same_fault : (line : ℕ) (name : AagFault) (other_line : ℕ) (other_name : AagFault) → line ≡ other_line →
    name ≡ other_name →
    let f : LineFault = record { line = line; name = name } in let g : LineFault =
    record { line = other_line; name = other_name } in f ≡ g
same_fault line name other_line other_name lines names = search arith

pub one_fault : (text : List ℕ) (first : ℕ) (f g : LineFault) → IsFirstFault text first f →
    IsFirstFault text first g → f ≡ g
one_fault text first f g (inl one) (inl other) = let same : Err f ≡ Err g = sym one ∙ other in cc
one_fault text first f g (inl one) (inr other) = let both = sym one ∙ other.scanned in cc
one_fault text first f g (inr one) (inl other) = let both = sym other ∙ one.scanned in cc
one_fault text first f g (inr one) (inr other) = search (arith, one_file, same_fault)

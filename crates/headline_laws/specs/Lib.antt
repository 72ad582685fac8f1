pub mod Formulas

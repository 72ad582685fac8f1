pub mod ReadFormulas

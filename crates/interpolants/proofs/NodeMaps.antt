-- Nodes by numbers, the first that is listed for each, as they are collected pair by pair.
use Rattle.std.proofs.Common.{◌≡◌, ℕ, ◌==◌, ◌<◌, ◌+◌, Bool, true, false, cond, List, [], ◌∷◌, ◌++◌, take, length, get_or, Option, Some, None, refl, sym, ◌∙◌, ap, arith}
use Rattle.std.specs.Option.{is_some}
use Rattle.std.proofs.lemmas.Bool.{eqb-true}
use Rattle.std.proofs.lemmas.List.{take_more}
use Rattle.list_laws.proofs.Numbers.{equal-swap}
use Rattle.aig_graph.specs.declared.nodes.Node.{Node}
use Rattle.interpolants.specs.Interpolant.{node_of}

-- an earlier pair goes first
abbrev pub or_else : Option Node → Option Node → Option Node
or_else None later = later
or_else (Some n) later = Some n

node_of-append : (xs : List (ℕ × Node)) (p : ℕ × Node) (w : ℕ) →
    node_of (xs ++ p ∷ []) w ≡ or_else (node_of xs w) (cond (w == p.0) (Some p.1) None)
node_of-append [] p w = refl
node_of-append (x ∷ xs) p w = search (arith, (node_of-append xs p w))

module _ (pairs : List (ℕ × Node)) (i : ℕ) (p : ℕ × Node) (lt : i < length pairs) (at : get_or pairs i p ≡ p)
    (before kept : List (ℕ × Node)) (so_far : (n : ℕ) → node_of before n ≡ node_of (take i pairs) n) where
  one_more : (n : ℕ) → node_of (take (i + 1) pairs) n ≡ or_else (node_of before n) (cond (n == p.0) (Some p.1) None)
  one_more n =
      ap (λ xs. node_of xs n) (take_more pairs i p lt ∙ ap (λ q. take i pairs ++ q ∷ []) at) ∙ node_of-append
      (take i pairs) p n
      ∙ ap (λ o. or_else o (cond (n == p.0) (Some p.1) None)) (sym (so_far n))

  -- a number that has a node keeps it
  pub listed_before : (o : Option Node) → o ≡ node_of before p.0 → is_some o ≡ true → (n : ℕ) →
      node_of before n ≡ node_of (take (i + 1) pairs) n
  listed_before o is some n = by (n == p.0) refl (node_of before n) refl ∙ sym (one_more n)
    where
      by : (b : Bool) → (n == p.0) ≡ b → (m : Option Node) → node_of before n ≡ m →
          m ≡ or_else m (cond b (Some p.1) None)
      by b e (Some x) m = refl
      by false e None m = refl
      by true e None m =
          let none : is_some (node_of before p.0) ≡ false = ap is_some
          (ap (node_of before) (sym (eqb-true n p.0 e)) ∙ m) in
          let h : true ≡ false = sym some ∙ ap is_some is ∙ none in
          cc

  pub listed_now : (o : Option Node) → o ≡ node_of before p.0 → is_some o ≡ false →
      ((n : ℕ) → node_of kept n ≡ cond (p.0 == n) (Some p.1) (node_of before n)) → (n : ℕ) →
      node_of kept n ≡ node_of (take (i + 1) pairs) n
  listed_now o is some put n = put n ∙ ap (λ b. cond b (Some p.1) (node_of before n)) (equal-swap p.0 n) ∙ by
      (n == p.0) refl (node_of before n) refl ∙ sym (one_more n)
    where
      by : (b : Bool) → (n == p.0) ≡ b → (m : Option Node) → node_of before n ≡ m →
          cond b (Some p.1) m ≡ or_else m (cond b (Some p.1) None)
      by false e (Some x) m = refl
      by b e None m = refl
      by true e (Some x) m =
          let there : is_some (node_of before p.0) ≡ true = ap is_some
          (ap (node_of before) (sym (eqb-true n p.0 e)) ∙ m) in
          let h : false ≡ true = sym some ∙ ap is_some is ∙ there in
          cc

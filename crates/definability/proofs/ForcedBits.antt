-- What is asked at a row for an existential of a formula, and what its answers say.
use Rattle.std.proofs.Common.{◌≡◌, ◌≢◌, ◌<◌, ℕ, Bool, false, not, List, ◌∷◌, length, Some, get_or, sym, ◌∙◌, ap, subst, arith}
use Rattle.std.specs.List.{All, Contains}
use Rattle.std.proofs.lemmas.List.{get_or_default}
use Rattle.std.proofs.lemmas.List.Elements.{All-contains, Contains-append_left}
use Rattle.std.proofs.lemmas.Option.{slice_get_within}
use Rattle.dq_lits.specs.Derivation.{is_tautology}
use Rattle.dq_lits.specs.Formula.{Dqbf, Existential, IsWellFormed, declared, existential_of}
use Rattle.dq_lits.specs.Literal.{Assignment, Literal, variable_of}
use Rattle.dq_lits.proofs.FormulaVariables.{find_sound}
use Rattle.dq_formula.specs.Prefix.{IsLawful, existential_variables}
use Rattle.hint_log.specs.Entries.{Entry, clause_at, name_of}
use Rattle.hint_log.specs.Naming.{named_literal, name_literal}
use Rattle.hint_log.specs.declared.names.Name.{Name}
use Rattle.hint_log.specs.declared.names.Name.TheVariants.{Copy as CopyOf}
use Rattle.oracle.specs.Calls.{IsModelUnder, assumed}
use Rattle.definability.specs.Copies.{IsCopied, IsDefinability}
use Rattle.definability.specs.Dividing.{AreBits, values_at}
use Rattle.definability.specs.Forcing.{IsForcedBy, IsLoose}
use Rattle.definability.specs.Ruling.{AreFirstCopies, ShowsClause, IsLiteralName, signed_literal, row_copies, cube_of}
use Rattle.definability.specs.Seeing.{AreCopiedPlaces}
use Rattle.definability.specs.declared.definability.Definability.{Definability}
use Rattle.definability.proofs.SearchAnswers.{found_declared, found_variable, mapped_existential}
use Rattle.definability.proofs.AskedLiterals.{AreAsked, IsOwn, IsSeenAsked, are_asked, asked_apart, asked_copies, own_name, seen_asked}
use Rattle.definability.proofs.KeptPlaces.{existential_copied, universal_differs}
use Rattle.definability.proofs.ShownRules.{forced_by, literal_names}
use Rattle.definability.proofs.LooseSamples.{loose}
use Rattle.definition_order.proofs.Declared.{sees_universals}

-- places of what an existential sees are places of universals
pub seen_within : (f : Dqbf) (sees : List ℕ) (flags : List Bool) (places : List ℕ) (n : ℕ) →
    AreCopiedPlaces f.universals (Contains sees) flags places →
    n ≡ length f.universals → All (λ k. k < n) places
seen_within f sees flags places n are same k d lt =
    let r = are.sound (get_or places k d) (k, lt, get_or_default places k (get_or places k d) d lt) in
    let within = slice_get_within f.universals (get_or places k d) r.0 r.1 in
    omega (arith, within, same)

module _ (f : Dqbf) (lawful : IsLawful f) (v : ℕ) (y : Existential) (found : existential_of f v ≡ Some y) where
  seen_universal : (x : ℕ) → Contains y.sees x → Contains f.universals x
  seen_universal x among = All-contains (Contains f.universals) y.sees x (sees_universals f lawful v y found) among

  seen_declared : (x : ℕ) → Contains y.sees x → Contains (declared f) x
  seen_declared x among = Contains-append_left f.universals (existential_variables f) x (seen_universal x among)

  unseen : (x : ℕ) → Contains y.sees x → x ≢ y.variable
  unseen x among = universal_differs f lawful.prefix x y.variable (seen_universal x among)
      (mapped_existential f.existentials y (find_sound v f.existentials y found).0)

  variable_is : y.variable ≡ v
  variable_is = found_variable f v y found

  -- an existential has copies
  pub own_copied : (p : Definability) (es : List Entry) → IsDefinability f p es → IsCopied f p.copied.items y.variable
  own_copied p es definability = search (arith, existential_copied, mapped_existential, find_sound)

  own_found : existential_of f y.variable ≡ Some y
  own_found = ap (existential_of f) variable_is ∙ found

  module _ (p : Definability) (row : List Bool) (bit : Bool) (seen places : List ℕ) (copied own : Literal)
      (asked : List Literal) (are : AreCopiedPlaces f.universals (Contains y.sees) p.copied.items seen)
      (same : places ≡ seen)
      (own_is : own ≡ signed_literal copied (not bit)) (asked_is : asked ≡ own ∷ row_copies p.first row places)
      (es : List Entry) (definability : IsDefinability f p es)
      (copied_is : name_literal es copied ≡ Some (named_literal (CopyOf 1 v) false)) where
    spelled : asked ≡ signed_literal copied (not bit) ∷ row_copies p.first row seen
    spelled = asked_is ∙ ap (λ ps. own ∷ row_copies p.first row ps) same ∙ ap (λ l. l ∷ row_copies p.first row seen)
        own_is

    own_asked : IsOwn es y bit (signed_literal copied (not bit))
    own_asked = own_name es y copied bit (copied_is ∙ ap (λ x. Some (named_literal (CopyOf 1 x) false))
        (sym variable_is))

    asked_there : AreAsked f es y row bit asked
    asked_there = subst (AreAsked f es y row bit) (sym spelled)
        (are_asked f lawful.prefix es y p.first p.copied.items row bit seen (signed_literal copied (not bit))
        definability.first.universals are own_asked)

    seen_there : (x : ℕ) → Contains y.sees x → IsSeenAsked f es p.copied.items row asked x
    seen_there x among = subst (λ ls. IsSeenAsked f es p.copied.items row ls x) (sym spelled)
        (seen_asked f lawful.prefix es y p.first p.copied.items row bit seen (signed_literal copied (not bit))
        definability.first.universals are own_asked x among)

    pub copies_asked : AreFirstCopies es asked
    copies_asked = asked_copies f es y row bit asked asked_there unseen

    pub apart_asked : is_tautology asked ≡ false
    apart_asked = asked_apart f es y row bit asked asked_there unseen

    module _ (id : ℕ) (shown : ShowsClause f es asked id) where
      pub names_shown : (clause : List Literal) → clause_at es id ≡ Some clause →
          All (λ l. IsLiteralName (name_of es (variable_of l))) clause
      names_shown clause is =
          let both : Some shown.clause ≡ Some clause = sym shown.clause_is ∙ is in
          let it : shown.clause ≡ clause = cc in
          subst (All (λ l. IsLiteralName (name_of es (variable_of l)))) it
          (literal_names f lawful es y row bit asked asked_there own_found
          (found_declared f v y found) seen_declared unseen id shown)

      pub rule_shown : (cube : List Literal) → ((clause : List Literal) → clause_at es id ≡ Some clause →
          cube ≡ cube_of es v clause) →
          IsForcedBy f y row bit (record { y = v; cube = cube; bit = bit })
      rule_shown cube is =
          subst (λ w. IsForcedBy f y row bit (record { y = w; cube = cube; bit = bit })) variable_is
          (forced_by f lawful es y row bit asked asked_there own_found
          (found_declared f v y found) seen_declared unseen id shown cube
          (is shown.clause shown.clause_is ∙ ap (λ w. cube_of es w shown.clause) (sym variable_is)))

    pub loose_shown : IsWellFormed f → ((a b : ℕ) (name : Name) → name_of es a ≡ Some name → name_of es b ≡ Some name →
        a ≡ b) → (values : Assignment) →
        IsModelUnder values (clause_at es) (assumed p.first.groups.items asked) → (other bits : List Bool) →
        AreBits values p.copied.items row p.first.universals.items other →
        bits ≡ values_at values p.first.existentials.items → IsLoose f y row bit other bits
    loose_shown formula unique values model other bits other_is bits_are =
        loose f y p row bit es values asked formula unique definability asked_there seen_there
        (found_declared f v y found) (own_copied p es definability) seen_universal model other bits other_is bits_are

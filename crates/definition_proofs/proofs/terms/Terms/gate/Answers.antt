use Rattle.std.proofs.Common.{◌≡◌, ℕ, None, Some, cond, refl, sym, ◌∙◌, ap, subst}
use Rattle.std.specs.BTreeMap.{get}
use Rattle.std.specs.Option.{option_copied}
use Rattle.std.specs.Ordering.{is_eq}
use Rattle.dq_lits.specs.Literal.{positive}
use Rattle.std.proofs.lemmas.Bool.{eq-eqb}
use Rattle.hint_log.specs.Entries.{ProofLog, name_of}
use Rattle.hint_log.specs.declared.names.Name.TheVariants.{Term}
use Rattle.definability.specs.Copies.{group_variable}
use Rattle.definition_proofs.specs.Terms.{by_both}
use Rattle.definition_proofs.proofs.KnownTerms.{no_formula, gate_grew, key_of, key_is, none_yet, gate_more}
use Rattle.definition_proofs.proofs.DeclaredSides.{gate_sides}
use Rattle.definition_proofs.proofs.terms.Terms.gate.Goals as goal

pub new_var-requires-clause-fresh : goal.new_var-requires-clause-fresh
new_var-requires-clause-fresh g c = λ v is.
    let literals = c.args.self.now.literals in
    let none : None ≡ get by_both literals (c.number.result, c.number-2.result) =
    sym (ap option_copied c.in_default.is) ∙ c.get.ensures.value in
    let key = ap (get by_both literals) (key_is c.number.result c.number-2.result c.args.a c.args.b c.number.ensures
    c.number-2.ensures) in
    let both : None ≡ Some (positive v) = none ∙ key ∙ c.requires.terms.known v c.args.a c.args.b is in
    cc

pub give_clauses-requires-clause-none : goal.give_clauses-requires-clause-none
give_clauses-requires-clause-none g c =
    none_yet c.args.self.now c.args.log.now.entries c.new_var.new.log.entries c.in_ok-v.v c.args.a c.args.b
    c.requires.terms c.in_ok-v.ensures.unnamed (ap (λ (l : ProofLog). l.entries) c.in_ok-v.ensures.ok)

pub returns-in_err-give_clauses-clause-grew : goal.returns-in_err-give_clauses-clause-grew
returns-in_err-give_clauses-clause-grew g c = gate_grew (group_variable c.args.self.now.group) c.args.log.now
    c.new_var.new.log c.give_clauses.new.log c.in_ok-v.v c.args.a c.args.b c.in_ok-v.ensures.unnamed
    c.in_ok-v.ensures.ok c.give_clauses.ensures.gives

pub returns-in_err-insert-clause-grew : goal.returns-in_err-insert-clause-grew
returns-in_err-insert-clause-grew g c = gate_grew (group_variable c.args.self.now.group) c.args.log.now
    c.new_var.new.log c.give_clauses.new.log c.in_ok-v.v c.args.a c.args.b c.in_ok-v.ensures.unnamed
    c.in_ok-v.ensures.ok c.give_clauses.ensures.gives

pub returns-clause-grew : goal.returns-clause-grew
returns-clause-grew g c = gate_grew (group_variable c.args.self.now.group) c.args.log.now
    c.new_var.new.log c.give_clauses.new.log c.in_ok-v.v c.args.a c.args.b c.in_ok-v.ensures.unnamed
    c.in_ok-v.ensures.ok c.give_clauses.ensures.gives

pub returns-clause-terms : goal.returns-clause-terms
returns-clause-terms g c =
    let t = c.args.self.now in
    let v = c.in_ok-v.v in
    let key = key_is c.number.result c.number-2.result c.args.a c.args.b c.number.ensures c.number-2.ensures in
    let none : get by_both t.literals (key_of c.args.a c.args.b) ≡ None = ap (get by_both t.literals) (sym key)
    ∙ sym (sym (ap option_copied c.in_default.is) ∙ c.get.ensures.value) in
    let updates = subst (λ l. (q : ℕ × ℕ) → get by_both c.insert.new.self q
    ≡ cond (is_eq (by_both (key_of c.args.a c.args.b) q)) (Some l) (get by_both t.literals q)) c.pos-l.ensures
    (subst (λ (p : ℕ × ℕ). (q : ℕ × ℕ) → get by_both c.insert.new.self q
    ≡ cond (is_eq (by_both p q)) (Some c.pos-l.result) (get by_both t.literals q)) key
    c.in_ok-insert.ensures.updates.0) in
    gate_more t c.insert.new.self c.args.log.now c.new_var.new.log c.give_clauses.new.log v c.args.a c.args.b
    c.requires.terms c.in_ok-v.ensures.unnamed none c.in_ok-v.ensures.ok c.give_clauses.ensures.gives
    c.in_ok-give_clauses.ensures.given updates

pub returns-clause-named : goal.returns-clause-named
returns-clause-named g c =
    let v = c.in_ok-v.v in
    let a = c.args.a in
    let b = c.args.b in (
      v,
      c.pos-l.ensures,
      (c.give_clauses.ensures.gives no_formula).names v
          ∙ ap (λ (l : ProofLog). name_of l.entries v) c.in_ok-v.ensures.ok
          ∙ ap (λ x. cond x (Some (Term a b)) (name_of c.args.log.now.entries v)) (eq-eqb v v refl),
    )

pub returns-clause-sides : goal.returns-clause-sides
returns-clause-sides g c = λ f before left right.
    gate_sides f c.args.log.now.entries c.give_clauses.new.log.entries c.in_ok-v.v c.args.a c.args.b
    (λ w. (c.give_clauses.ensures.gives no_formula).names w
    ∙ ap (λ (l : ProofLog). name_of l.entries w) c.in_ok-v.ensures.ok) before left right

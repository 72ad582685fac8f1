use Rattle.std.proofs.Common.{◌≡◌, true, inl, inr, Some, None, sym, ◌∙◌, ap, refl, subst, arith}
use Rattle.std.specs.BTreeMap.{get}
use Rattle.std.specs.Option.{option_copied}
use Rattle.dq_lits.specs.Literal.{variable_of, literal_code}
use Rattle.hint_log.specs.Entries.{Named}
use Rattle.hint_log.specs.declared.names.Name.TheVariants.{And}
use Rattle.log_laws.specs.Engines.{circuits, IsAddedBy, IsNamedBy}
use Rattle.log_laws.proofs.LargerLogs.{grown_by, grown_then}
use Rattle.hint_log.specs.Entries.{ProofLog}
use Rattle.circuit_cnf.specs.Gates.{pair_cmp, AreKnown}
use Rattle.circuit_cnf.proofs.KnownGates.{pair_is, name_in_range, unfinished_gate, named_more}
use Rattle.circuit_cnf.proofs.gates.Gates.variable.Goals as goal

pub returns-in-Some-clause-named : goal.returns-in-Some-clause-named
returns-in-Some-clause-named g c =
    c.requires.known.sound c.args.a c.args.b c.in-Some.v.now
    (sym (c.in-Some.ensures.value ∙ ap (get pair_cmp c.args.self.now.variables)
    (pair_is c.code.result c.code-2.result c.args.a c.args.b c.code.ensures c.code-2.ensures)))

pub returns-in-Some-clause-in_range : goal.returns-in-Some-clause-in_range
returns-in-Some-clause-in_range g c =
    search (arith, (name_in_range c.args.log.now.entries c.in-Some.v.now), (returns-in-Some-clause-named g c))

pub new_var-requires-clause-fresh : goal.new_var-requires-clause-fresh
new_var-requires-clause-fresh g c = λ v is.
    let none : None ≡ get pair_cmp c.args.self.now.variables (c.code.result, c.code-2.result) =
    sym (ap option_copied c.in_default.is) ∙ c.get.ensures.value in
    let key = ap (get pair_cmp c.args.self.now.variables) (pair_is c.code.result c.code-2.result c.args.a c.args.b
    c.code.ensures c.code-2.ensures) in
    elim (c.requires.known.known c.args.a c.args.b v is) [
      | inl some ↦ (let both : None ≡ Some v = none ∙ key ∙ some in cc)
      | inr last ↦ (let both : None ≡ Some last.0 = sym c.requires.ready ∙ last.1 in cc)
    ]

pub returns-in_err-v-clause-known : goal.returns-in_err-v-clause-known
returns-in_err-v-clause-known g c = subst (λ (l : ProofLog). AreKnown c.args.self.now l.entries)
    (sym c.in_err-v.ensures.err) c.requires.known

pub finish-requires-clause-known : goal.finish-requires-clause-known
finish-requires-clause-known g c =
    let is = pair_is c.code.result c.code-2.result c.args.a c.args.b c.code.ensures c.code-2.ensures in
    let none : get pair_cmp c.args.self.now.variables (literal_code c.args.a, literal_code c.args.b) ≡ None =
    ap (get pair_cmp c.args.self.now.variables) (sym is) ∙ sym
    (sym (ap option_copied c.in_default.is) ∙ c.get.ensures.value) in
    let v = c.in_ok-v.v in
    subst (λ (l : ProofLog). AreKnown (record c.args.self.now
    { unfinished = Some (unfinished_gate v c.args.a c.args.b 0) }) l.entries) (sym c.in_ok-v.ensures.ok)
    (named_more c.args.self.now c.args.log.now.entries v c.args.a c.args.b c.requires.known c.requires.ready
    c.in_ok-v.ensures.unnamed none)

pub returns-in_err-finish-clause-grew : goal.returns-in_err-finish-clause-grew
returns-in_err-finish-clause-grew g c f old =
    let P = IsAddedBy f circuits (variable_of c.args.self.now.group.selector) true old in
    let named : IsNamedBy f circuits c.args.log.now.entries c.in_ok-v.v (And c.args.a c.args.b) =
    record { unnamed = c.in_ok-v.ensures.unnamed; own = inr refl; rightly = tt } in
    grown_then P c.args.log.now c.new_var.new.log c.finish.new.log
    (grown_by P c.args.log.now c.new_var.new.log (Named c.in_ok-v.v (And c.args.a c.args.b)) c.in_ok-v.ensures.ok
    named) (c.finish.ensures.grew f old)

pub returns-clause-grew : goal.returns-clause-grew
returns-clause-grew g c f old =
    let P = IsAddedBy f circuits (variable_of c.args.self.now.group.selector) true old in
    let named : IsNamedBy f circuits c.args.log.now.entries c.in_ok-v.v (And c.args.a c.args.b) =
    record { unnamed = c.in_ok-v.ensures.unnamed; own = inr refl; rightly = tt } in
    grown_then P c.args.log.now c.new_var.new.log c.finish.new.log
    (grown_by P c.args.log.now c.new_var.new.log (Named c.in_ok-v.v (And c.args.a c.args.b)) c.in_ok-v.ensures.ok
    named) (c.finish.ensures.grew f old)

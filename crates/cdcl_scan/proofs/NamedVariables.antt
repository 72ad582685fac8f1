-- The solver goes with the log, as a variable is added to both.
use Rattle.std.proofs.Common.{◌≡◌, ◌≢◌, ℕ, ◌+◌, ◌<◌, ◌^◌, Bool, false, cond, inl, inr, List, ◌∷◌, Option, Some, None, IsSome, is_some, refl, sym, ◌∙◌, ap, arith}
use Rattle.std.proofs.lemmas.Bool.{false≢true, cases_eq, eq-eqb, ne_eqb}
use Rattle.dq_lits.specs.Literal.{Literal, variable_of}
use Rattle.hint_log.specs.Entries.{Entry, Named, name_of}
use Rattle.hint_log.specs.declared.names.Name.{Name}
use Rattle.hint_log.specs.declared.names.Name.TheVariants.{Selector}
use Rattle.hint_log.specs.Conditions.{HasSides, IsNewName}
use Rattle.hint_log.specs.Naming.{is_selector_name}
use Rattle.oracle.specs.Fit.{Fit}
use Rattle.oracle.specs.Searched.{Stands}
use Rattle.learning_trail.specs.Resting.{HeldFit}

-- the log's names are those that it had, and one more
module _ (es : List Entry) (v : ℕ) (name : Name) (new : IsNewName es v name) where
  named_here : (w : ℕ) → w ≡ v → name_of (Named v name ∷ es) w ≡ Some name
  named_here w is = ap (λ b. cond b (Some name) (name_of es w)) (eq-eqb w v is)

  named_else : (w : ℕ) → w ≢ v → name_of (Named v name ∷ es) w ≡ name_of es w
  named_else w other = ap (λ b. cond b (Some name) (name_of es w)) (ne_eqb w v other)

  named_still : (w : ℕ) → IsSome (name_of es w) → name_of (Named v name ∷ es) w ≡ name_of es w
  named_still w named = named_else w (λ is.
      false≢true (sym (ap is_some (ap (name_of es) is ∙ new.unnamed)) ∙ named))

  stands_still : (l : Literal) → Stands es l → Stands (Named v name ∷ es) l
  stands_still l s =
      let same = named_still (variable_of l) s.named in
      record {
        named = ap is_some same ∙ s.named;
        negated = λ on. s.negated (sym (ap is_selector_name same) ∙ on);
      }

  fit_named : (held : List (List Literal)) (variables : ℕ) → Fit held variables es → v ≡ variables + 1 →
      ((g : ℕ) → Some name ≡ Some (Selector g) → g ≡ v) → Fit held v (Named v name ∷ es)
  fit_named held variables fit next own = record {
    count = fit.count;
    same = fit.same;
    in_range = λ w named. elim (cases_eq w v) [
      | inl is ↦ (omega (arith, is, next), omega (arith, is))
      | inr other ↦
          let r = fit.in_range w (sym (ap is_some (named_else w other)) ∙ named) in
          let high = r.1 in
          (r.0, omega (arith, high, next))
    ];
    all_named = λ w low high. elim (cases_eq w v) [
      | inl is ↦ ap is_some (named_here w is)
      | inr other ↦ ap is_some (named_else w other) ∙ fit.all_named w low (omega (arith, other, high, next))
    ];
    logged = (new, fit.logged);
    selectors = λ w g is. elim (cases_eq w v) [
      | inl same ↦ own g (sym (named_here w same) ∙ is) ∙ sym same
      | inr other ↦ fit.selectors w g (sym (named_else w other) ∙ is)
    ];
    grouped = (tt, fit.grouped);
    negated = λ id c l at h. stands_still l (fit.negated id c l at h);
    derived = (tt, fit.derived);
    new = (tt, fit.new);
    hinted = (tt, fit.hinted);
    kept = (tt, fit.kept);
  }

module _ (held : List (List Literal)) (resting : List Bool) (variables : ℕ) (es : List Entry) (v : ℕ)
    (fit : HeldFit held resting variables es) (next : v ≡ variables + 1) (in_range : v < 2 ^ 62) where
  unnamed : name_of es v ≡ None
  unnamed = by (name_of es v) refl
    where
      by : (o : Option Name) → name_of es v ≡ o → name_of es v ≡ None
      by None is = is
      by (Some n) is =
          let r = fit.fit.in_range v (ap is_some is) in
          let high = r.1 in
          absurd (omega (arith, high, next))

  held_named : (name : Name) → ((w : ℕ) → name_of es w ≡ Some name → ⊥) → HasSides es name →
      ((g : ℕ) → Some name ≡ Some (Selector g) → g ≡ v) → HeldFit held resting v (Named v name ∷ es)
  held_named name fresh sides own =
      let new : IsNewName es v name = record {
        from_one = omega (arith, next);
        in_range = in_range;
        unnamed = unnamed;
        fresh = fresh;
        sides = sides;
      } in
      record {
        whole = fit.whole;
        fit = fit_named es v name new fit.whole variables fit.fit next own;
        count = fit.count;
        same = fit.same;
        selectors = λ w on.
            let named = fit.selectors w on in
            named_still es v name new w (ap is_some named) ∙ named;
      }

  pub held_variable : (name : Name) → is_selector_name (Some name) ≡ false →
      ((w : ℕ) → name_of es w ≡ Some name → ⊥) → HasSides es name → HeldFit held resting v (Named v name ∷ es)
  held_variable name plain fresh sides = held_named name fresh sides
      (λ g is. absurd (false≢true (sym plain ∙ ap is_selector_name is)))

  pub held_group : HeldFit held resting v (Named v (Selector v) ∷ es)
  held_group = held_named (Selector v) fresh tt (λ g is. cc)
    where
      fresh : (w : ℕ) → name_of es w ≡ Some (Selector v) → ⊥
      fresh w is =
          let same = fit.fit.selectors w v is in
          let r = fit.fit.in_range w (ap is_some is) in
          let high = r.1 in
          omega (arith, same, high, next)

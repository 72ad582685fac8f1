-- A table without rows.
use Rattle.std.proofs.Common.{◌≡◌, ℕ, suc, ◌==◌, true, cond, List, [], ◌∷◌, map, Option, None, Some, IsSome, refl, sym, ◌∙◌, ap, subst, arith, inl, inr}
use Rattle.std.specs.List.{All, Contains}
use Rattle.std.proofs.lemmas.Bool.{cases_Bool, eq-eqb}
use Rattle.std.proofs.lemmas.List.Elements.{All-head}
use Rattle.dq_lits.specs.Literal.{negative, variable_of}
use Rattle.dq_lits.specs.Formula.{Dqbf}
use Rattle.hint_log.specs.Conditions.{AreLogged}
use Rattle.hint_log.specs.Entries.{Entry, Named, Given, ProofLog, with_entry, name_of}
use Rattle.hint_log.specs.declared.names.Name.{Name}
use Rattle.hint_log.specs.declared.names.Name.TheVariants.{Selector}
use Rattle.hint_log.specs.Growth.{Each, Grew}
use Rattle.hint_log.proofs.NamedEntries.{none_below}
use Rattle.log_laws.specs.Engines.{Engine, instances, IsOwnGiven, IsAddedBy, HasNone, is_own, part}
use Rattle.expansion.specs.FirstRows.{RowIndex, IsRowIndex}
use Rattle.expansion.specs.Table.{TableState, IsTablePart, IsTable}

-- a group without a name has no clause
not_given : (f : Dqbf) (engine : Engine) (g : ℕ) (es : List Entry) → AreLogged es → name_of es g ≡ None →
    Each (IsOwnGiven f engine g) es
not_given f engine g [] lawful none = tt
not_given f engine g (Named w n ∷ es) lawful none = (
  tt,
  not_given f engine g es lawful.1
      (none_below (g == w) n (name_of es g) none),
)
not_given f engine g (Given origin c ∷ es) lawful none = (
  λ inside.
      let named = All-head (λ l. IsSome (name_of es (variable_of l))) (negative g) inside.0
      (subst (All (λ l. IsSome (name_of es (variable_of l)))) inside.1 lawful.0) in
      absurd (no_some (name_of es g) none named),
  not_given f engine g es lawful.1 none,
)
  where
    no_some : (o : Option Name) → o ≡ None → IsSome o → ⊥
    no_some None is some = cc
    no_some (Some n) is some = cc
not_given f engine g (_ ∷ es) lawful none = (tt, not_given f engine g es lawful.1 none)

pub group_grew : (f : Dqbf) (engine : Engine) (group g : ℕ) (old new : ProofLog) → name_of old.entries g ≡ None →
    new ≡ with_entry old (Named g (Selector g)) →
    Grew (IsAddedBy f engine group true old.entries) old new
group_grew f engine group g old new unnamed is = record {
  more = Named g (Selector g) ∷ [];
  grown = ap (λ (l : ProofLog). l.entries) is;
  each = (record { unnamed = unnamed; own = inl refl; rightly = tt }, tt);
  limit = ap (λ (l : ProofLog). l.limit) is;
}

-- an engine that added nothing has no part
no_part : (engine : Engine) (es : List Entry) → HasNone engine es → part engine es ≡ []
no_part engine [] none = refl
no_part engine (e ∷ es) none =
    elim (cases_Bool (is_own engine e)) [
      | inl own ↦ absurd (none e own (0, omega arith, refl))
      | inr foreign ↦ ap (λ b. cond b (e ∷ part engine es) (part engine es)) foreign ∙ no_part engine es
          (λ x own has. none x own (later x has))
    ]
  where
    later : (x : Entry) → Contains es x → Contains (e ∷ es) x
    later x (k, lt, at) = (suc k, omega (arith, lt), at)

pub no_rows : (f : Dqbf) (g : ℕ) (variables : List ℕ) (index : RowIndex) (old new : ProofLog) → AreLogged old.entries →
    HasNone instances old.entries → name_of old.entries g ≡ None →
    new ≡ with_entry old (Named g (Selector g)) → variables ≡ map (λ y. y.variable) f.existentials →
    IsRowIndex f [] index
    → IsTable f (record { group = g; existentials = variables; rows = []; pairs = []; first_rows = index }) new.entries
no_rows f g variables index old new lawful none unnamed is variables_are first_rows =
    let t : TableState = record { group = g; existentials = variables; rows = []; pairs = []; first_rows = index } in
    let empty : IsTablePart f t [] = record {
      whole = λ k d lt. absurd (omega (arith, lt));
      pairs_long = refl;
      names = λ v k y h. cc;
      given = λ k j c inside. absurd (nothing inside);
      arbiters = λ k row vs h h2. cc;
      complete = λ k j row clause h h2 untrue. cc;
    } in
    subst (λ (l : ProofLog). IsTable f t l.entries) (sym is) (record {
      group = ap (λ b. cond b (Some (Selector g)) (name_of old.entries g)) (eq-eqb g g refl);
      existentials = variables_are;
      own_group = (tt, not_given f instances g old.entries lawful unnamed);
      own = subst (IsTablePart f t) (sym (no_part instances old.entries none)) empty;
      first_rows = first_rows;
    })
  where
    nothing : {x : Entry} → Contains {X = Entry} [] x → ⊥
    nothing (k, lt, at) = omega (arith, lt)

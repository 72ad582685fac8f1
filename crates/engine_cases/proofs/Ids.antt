-- Which ids a log has, and on which variables its clauses stand.
use Rattle.std.proofs.Common.{◌≡◌, ℕ, ◌≤◌, List, [], ◌∷◌, Option, Some, None, IsSome, refl, IfSome}
use Rattle.std.specs.List.{All}
use Rattle.std.proofs.lemmas.Bool.{false≢true}
use Rattle.std.proofs.lemmas.List.Elements.{All-weaker, All-nil, All-cons}
use Rattle.dq_lits.specs.Literal.{Literal, variable_of}
use Rattle.hint_log.specs.Entries.{Entry}
use Rattle.hint_log.specs.Conditions.{AreNamed, IsId}
use Rattle.hint_log.specs.Entries.{clause_at, name_of}
use Rattle.rup_core.specs.Range.{StandsWithin}
use Rattle.rup_core.specs.Reading.{literal_at}
use Rattle.hint_log.proofs.NamedEntries.{clause_known}
use Rattle.engine_cases.specs.declared.calls.Made.{Made}
use Rattle.engine_cases.specs.Making.{AreMade}

pub clause_absent : (es : List Entry) (id : ℕ) → (IsId es id → ⊥) → clause_at es id ≡ None
clause_absent es id other = by (clause_at es id) refl
  where
    by : (o : Option (List Literal)) → clause_at es id ≡ o → o ≡ None
    by None e = refl
    by (Some c) e = absurd (other (clause_known es id c e))

-- a literal that is read
pub record IsRead (es : List Entry) (id i : ℕ) : Type 0 where
  pub clause : List Literal
  pub at : clause_at es id ≡ Some clause
  pub known : IsId es id

pub literal_known : (es : List Entry) (id i : ℕ) → IsSome (literal_at (clause_at es id) i) → IsRead es id i
literal_known es id i some = by (clause_at es id) refl some
  where
    by : (o : Option (List Literal)) → clause_at es id ≡ o → IsSome (literal_at o i) → IsRead es id i
    by None e h = absurd (false≢true h)
    by (Some c) e h = record { clause = c; at = e; known = clause_known es id c e }

pub named_within : (m : Made) (es : List Entry) (c : List Literal) → AreMade m es → AreNamed es c →
    StandsWithin m.largest c
named_within m es c made are = All-weaker (λ (l : Literal). IsSome (name_of es (variable_of l)))
    (λ (l : Literal). variable_of l ≤ m.largest) (λ l h. made.low (variable_of l) h) c are

pub hinted_within : (m : Made) (es : List Entry) (hints : List ℕ) → AreMade m es →
    ((id : ℕ) (c : List Literal) → clause_at es id ≡ Some c → AreNamed es c)
    → All (λ id. IfSome (clause_at es id) (StandsWithin m.largest)) hints
hinted_within m es [] made are = All-nil (λ id. IfSome (clause_at es id) (StandsWithin m.largest))
hinted_within m es (h ∷ hints) made are =
    All-cons (λ id. IfSome (clause_at es id) (StandsWithin m.largest)) h hints (by (clause_at es h) refl)
    (hinted_within m es hints made are)
  where
    by : (o : Option (List Literal)) → clause_at es h ≡ o → IfSome o (StandsWithin m.largest)
    by None e = tt
    by (Some c) e = named_within m es c made (are h c e)

-- What a search in some groups leaves and shows.
use Rattle.std.proofs.Common.{◌≡◌, ℕ, true, inl, inr, List, [], ◌∷◌, get_or, Some, refl, sym, ◌∙◌, ap, subst, arith}
use Rattle.std.specs.List.{Contains}
use Rattle.std.proofs.lemmas.List.Elements.{All-contains, Contains-append_right}
use Rattle.std.proofs.lemmas.List.Folds.{list_any_at}
use Rattle.list_laws.proofs.Members.{contains_first}
use Rattle.dq_lits.specs.Literal.{Literal, positive, negative, variable_of, opposite, same_literal}
use Rattle.dq_lits.specs.Derivation.{holds}
use Rattle.dq_lits.specs.Formula.{Dqbf}
use Rattle.dq_lits.proofs.SignedLiterals.{same_literal-refl, as_positive}
use Rattle.hint_log.specs.Deciding.{ReachesGiven, AreNegatedSelectors}
use Rattle.hint_log.specs.Entries.{Entry, Given, Answer, ProofLog, name_of}
use Rattle.hint_log.specs.Growth.{Grew}
use Rattle.hint_log.specs.declared.names.Name.TheVariants.{Selector}
use Rattle.hint_log.specs.declared.origins.Leaf.{Leaf}
use Rattle.hint_log.specs.declared.origins.Origin.{Origin}
use Rattle.hint_log.specs.declared.origins.Origin.TheVariants.{Copy, TermGate, Differ}
use Rattle.log_laws.specs.Engines.{copies, IsAddedBy, origin_engine}
use Rattle.log_laws.proofs.LargerLogs.{grown_by}
use Rattle.oracle.specs.Calls.{IsMade, IsLearnedEntry, IsRefutedUnder, assumed}
use Rattle.oracle.specs.Searched.{IsSearched}
use Rattle.oracle.specs.declared.groups.Group.{Group}
use Rattle.definability.specs.Copies.{group_variable}
use Rattle.definability.proofs.DividedAnswers.{same_variable, element_of}
use Rattle.definability.proofs.Reached.{LinesAreImplied, of_answer, undecided_answer}
use Rattle.definition_proofs.specs.Differing.{LeavesTerms}
use Rattle.definability.specs.Growing.{HasSameGivens}
use Rattle.definability.proofs.SameGivens.{learned_same, same_then, same_answer}
use Rattle.definition_proofs.specs.Searching.{ArePremises}
use Rattle.definition_proofs.specs.Shown.{IsDefinitionGiven, IsShownDefinition}
use Rattle.definition_proofs.specs.Terms.{GrewByProof}
use Rattle.definition_proofs.proofs.GivenDifferences.{term_leaf_stays}
use Rattle.definition_proofs.proofs.KnownTerms.{proof_then}
use Rattle.definability.proofs.SearchAnswers.{learned_from}

pub learned_proof : (f : Dqbf) (group y : ℕ) (old new : ProofLog) → Grew IsLearnedEntry old new →
    GrewByProof f group y old new
learned_proof f group y old new g = record {
  grew = λ start names. learned_from f start old new g group;
  givens = λ o c inside. inl ((learned_same old new g).givens o c inside);
}

pub same_leaves : (group : ℕ) (old new : List Entry) → HasSameGivens old new → LeavesTerms group old new
same_leaves group old new same = search arith

-- an assumed literal is the selector of one of the groups
selector_among : (gs : List Group) (l : Literal) → holds (assumed gs []) l ≡ true →
    (g : Group) × Contains gs g × (l ≡ g.selector)
selector_among gs l h = elim (element_of gs [] l h) [ inl found ↦ found | inr none ↦ cc ]

negated_is : (l : Literal) (v : ℕ) → opposite l ≡ positive v → l ≡ negative v
negated_is (positive w) v is = cc
negated_is (negative w) v is = let same : positive w ≡ positive v = is in let number : w ≡ v = cc in ap negative number

given_is_copies : (y : ℕ) (leaf : Leaf) (o : Origin) → IsDefinitionGiven y leaf o → origin_engine o ≡ copies
given_is_copies y leaf (Copy side j) is = refl
given_is_copies y leaf (TermGate v i) is = refl
given_is_copies y leaf (Differ x out part) is = refl
given_is_copies y leaf _ is = absurd is

-- a search that ends with an answer
module _ (implied : LinesAreImplied) (y : ℕ) (leaf : Leaf) (active : List Group) (old new : ProofLog) (id : ℕ)
    (premises : ArePremises old.entries y leaf active) (searched : IsSearched new.entries)
    (r : IsRefutedUnder old new (assumed active []) id) where
  abbrev before : List Entry
  before = r.before.entries

  abbrev all : List Entry
  all = Answer r.clause r.hints ∷ r.before.entries

  all_is : new.entries ≡ Answer r.clause r.hints ∷ r.before.entries
  all_is = ap (λ (l : ProofLog). l.entries) r.answered

  searched_there : IsSearched all
  searched_there = subst IsSearched all_is searched

  same : HasSameGivens old.entries r.before.entries
  same = learned_same old r.before r.learned

  -- the group whose selector is assumed
  record IsActive (h : ℕ) : Type 0 where
    group : Group
    among : Contains active group
    number : h ≡ group_variable group
    named : name_of r.before.entries h ≡ Some (Selector h)

  active_group : (h : ℕ) → holds (assumed active []) (positive h) ≡ true → IsActive h
  active_group h assumed_there =
      let s = selector_among active (positive h) assumed_there in
      let made = All-contains (IsMade old.entries) active s.0 premises.made s.1 in
      let number = same_variable h (group_variable s.0) (s.2 ∙ as_positive s.0.selector made.positive) in
      record {
        group = s.0;
        among = s.1;
        number = number;
        named = subst (λ k. name_of r.before.entries k ≡ Some (Selector k)) (sym number)
            (same.names (group_variable s.0) ∙ made.named);
      }

  -- a given clause that is reached is of one of the groups
  given_right : (origin : Origin) (c : List Literal) → ReachesGiven r.before.entries r.hints origin c →
      IsDefinitionGiven y leaf origin
  given_right origin c reached =
      let is = of_answer r.before.entries r.clause r.hints searched_there origin c reached in
      let h = is.grouped.group in
      let a = active_group h (r.negated (negative h) is.kept) in
      let inside = subst (λ es. Contains es (Given origin c)) (sym is.split)
      (Contains-append_right is.more (Given origin c ∷ is.earlier) (Given origin c)
      (contains_first (Given origin c) is.earlier)) in
      premises.own a.group a.among origin is.grouped.rest
      (subst (λ d. Contains old.entries (Given origin d))
      (is.grouped.clause_is ∙ ap (λ k. negative k ∷ is.grouped.rest) a.number) (same.givens origin c inside))

  selectors : AreNegatedSelectors r.before.entries r.clause
  selectors k d lt =
      let l = get_or r.clause k d in
      let there = list_any_at (same_literal l) r.clause k d lt (same_literal-refl l) in
      let s = selector_among active (opposite l) (r.negated l there) in
      let made = All-contains (IsMade old.entries) active s.0 premises.made s.1 in
      let v = group_variable s.0 in
      let l_is = negated_is l v (s.2 ∙ as_positive s.0.selector made.positive) in
      subst (λ x. (x ≡ negative (variable_of x))
      × (name_of r.before.entries (variable_of x) ≡ Some (Selector (variable_of x)))) (sym l_is)
      (refl, same.names v ∙ made.named)

  pub shown : IsShownDefinition new.entries y leaf id
  shown = record {
    clause = r.clause;
    hints = r.hints;
    earlier = r.before.entries;
    answered = all_is;
    last = r.last;
    selectors = selectors;
    leaf_is = term_leaf_stays old.entries r.before.entries (λ v n is. same.names v ∙ is) leaf premises.leaf_is;
    rests = given_right;
  }

  pub answer_proof : (f : Dqbf) (group x : ℕ) → GrewByProof f group x old new
  answer_proof f group x = proof_then f group x old r.before new
      (learned_proof f group x old r.before r.learned) (record {
        grew = λ start names. grown_by (IsAddedBy f copies group true start) r.before new (Answer r.clause r.hints)
            r.answered (λ quiet. undecided_answer implied f r.before.entries r.clause r.hints searched_there
            (λ origin c reached. given_is_copies y leaf origin (given_right origin c reached)));
        givens = λ o c inside. inl ((same_answer r.clause r.hints r.before.entries).givens o c
            (subst (λ es. Contains es (Given o c)) all_is inside));
      })

  pub answer_same : HasSameGivens old.entries new.entries
  answer_same = subst (HasSameGivens old.entries) (sym all_is)
      (same_then old.entries r.before.entries all same (same_answer r.clause r.hints r.before.entries))

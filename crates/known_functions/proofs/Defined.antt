-- What is kept while definitions are asked for: the list of definitions grows.
use Rattle.std.proofs.Common.{◌≡◌, ◌≢◌, ℕ, zero, suc, ◌<◌, ◌==◌, List, [], length, get_or, slice_get, replicate, set, Bool, Option, None, Some, refl, sym, ◌∙◌, ap, subst, inl, inr, arith, Result, Ok, Err, get_or-set_same, get_or-set_other, length-set}
use Rattle.std.specs.List.{All}
use Rattle.std.specs.Option.{IfSome}
use Rattle.std.specs.Result.{IfOk}
use Rattle.dq_lits.specs.Literal.{Literal}
use Rattle.hint_log.specs.declared.stops.Stop.{Stop}
use Rattle.std.proofs.lemmas.Bool.{false≢true, cases_Bool, eqb-true, eq-eqb}
use Rattle.std.proofs.lemmas.List.{get_or-map, length-map, length-replicate}
use Rattle.std.proofs.lemmas.List.Elements.{All-nil}
use Rattle.std.proofs.lemmas.Option.{slice_get_within, slice_get-get_or}
use Rattle.dq_lits.specs.Formula.{Existential, Dqbf, existential_of, HasLawfulPrefix}
use Rattle.dq_formula.specs.Prefix.{IsLawful, existential_variables}
use Rattle.hint_log.specs.Entries.{Entry, ProofLog}
use Rattle.hint_log.specs.Growth.{Grew}
use Rattle.aig_graph.specs.declared.nodes.Node.{Node}
use Rattle.aig_graph.specs.Made.{Extends}
use Rattle.defining_nodes.specs.Definitions.{IsDefinition}
use Rattle.dq_formula.specs.Rules.{IsRule}
use Rattle.dq_formula.specs.declared.rules.Rule.{Rule}
use Rattle.aig_graph.specs.Graph.{AigGraph}
use Rattle.candidate_functions.specs.Candidates.{IsGuess, AreGuesses, definition_of}
use Rattle.definition_order.proofs.Declared.{existential_at, variable}
use Rattle.candidate_functions.proofs.LargerGraphs.{definitions_stay, guesses_stay}
use Rattle.definability.specs.Defining.{IsFound}
use Rattle.definability.specs.declared.defining.Found.{Found}
use Rattle.definability.specs.declared.defining.Found.TheVariants.{Defined, Free}
use Rattle.definability.specs.Guessing.{IsGuess as IsRightGuess}
use Rattle.definability.specs.declared.guessing.Guess.TheVariants.{Node as NodeFound}
use Rattle.definability.specs.Forcing.{IsForced}
use Rattle.definability.specs.declared.forcing.Forced.{Forced}
use Rattle.definability.specs.declared.forcing.Forced.TheVariants.{Rule as ByRule, Loose}
use Rattle.known_functions.specs.declared.definitions.Definitions.{Definitions}
use Rattle.known_functions.specs.Guessing.{LeavesKnown}
use Rattle.known_functions.specs.Searching.{AreKnown, definition_in}

abbrev nowhere : Option Node
nowhere = None

none_at : (n k : ℕ) → get_or (replicate n nowhere) k nowhere ≡ nowhere
none_at zero k = refl
none_at (suc n) zero = refl
none_at (suc n) (suc k) = none_at n k

-- nothing is known yet
pub nothing_known : (f : Dqbf) (ranks : List ℕ) (graph : AigGraph) (definitions : List (Option Node))
    (rules : List Rule) (guesses : List (Option Node))
    → definitions ≡ replicate (length f.existentials) None → rules ≡ [] → guesses ≡ [] →
    AreKnown f ranks graph definitions rules guesses
nothing_known f ranks graph definitions rules guesses none empty no_guess =
    search (arith, length-replicate, none_at, All-nil)

-- nodes of existentials that each have some property, and one more at a place
pub put_stays : (f : Dqbf) → HasLawfulPrefix f → (P : Existential → Node → Type 0) (p : ℕ) (y : Existential)
    (before : List (Option Node)) (next : Option Node)
    → length before ≡ length f.existentials → slice_get f.existentials p ≡ Some y →
    ((node : Node) → next ≡ Some node → P y node)
    → All (λ z. (node : Node) → definition_of f before z ≡ Some node → P z node) f.existentials
    → All (λ z. (node : Node) → definition_of f (set before p next) z ≡ Some node → P z node) f.existentials
put_stays f lawful P p y before next one_each at here are k d below node is =
    let within = slice_get_within f.existentials p y at in
    let inside : p < length before = omega (arith, one_each, within) in
    let z = get_or f.existentials k d in
    let at_k : slice_get f.existentials k ≡ Some z = slice_get-get_or f.existentials k d below in
    let place = existential_at f lawful k z at_k in
    let there : get_or (set before p next) k None ≡ Some node =
    sym (ap (λ q. get_or (set before p next) q None) place) ∙ is in
    elim (cases_Bool (p == k)) [
      | inl e ↦ (
          let same : p ≡ k = eqb-true p k e in
          let own : y ≡ z = let e : Some y ≡ Some z = sym at ∙ ap (slice_get f.existentials) same ∙ at_k in cc in
          let last : get_or (set before p next) k None ≡ next =
          ap (λ q. get_or (set before p next) q None) (sym same) ∙ get_or-set_same before p next None inside in
          subst (λ e. P e node) own (here node (sym last ∙ there)))
      | inr e ↦ (
          let other : k ≢ p = λ is. false≢true (sym e ∙ eq-eqb p k (sym is)) in
          are k d below node (ap (λ q. get_or before q None) place ∙ sym (get_or-set_other before p k next None other)
          ∙ there))
    ]

-- what is known of the existential at a place
pub known_at : (f : Dqbf) (ranks : List ℕ) → HasLawfulPrefix f →
    (graph : AigGraph) (p : ℕ) (y : Existential) (before : List (Option Node)) (next : Option Node) (rules : List Rule)
    (guesses : List (Option Node))
    → slice_get f.existentials p ≡ Some y → ((node : Node) → next ≡ Some node → IsDefinition f ranks graph y node) →
    AreKnown f ranks graph before rules guesses
    → AreKnown f ranks graph (set before p next) rules guesses
known_at f ranks lawful graph p y before next rules guesses at here known = record {
  one_each = length-set before p next ∙ known.one_each;
  defined = put_stays f lawful (IsDefinition f ranks graph) p y before next known.one_each at here known.defined;
  forced = known.forced;
  guessed = known.guessed;
}

-- nothing is guessed yet
pub nothing_guessed : (f : Dqbf) (graph : AigGraph) (guesses : List (Option Node)) →
    guesses ≡ replicate (length f.existentials) None → AreGuesses f graph guesses
nothing_guessed f graph guesses none k d below node is = search (arith, none_at)

-- a log that was limited while it grew
pub grew_within : (P : List Entry → Entry → Type 0) (old mid new : ProofLog) → mid.entries ≡ old.entries →
    Grew P mid new → Grew P old (record new { limit = old.limit })
grew_within P old mid new same grew = search arith

pub known_stays : (f : Dqbf) (ranks : List ℕ) (old new : AigGraph) (definitions : List (Option Node))
    (rules : List Rule) (guesses : List (Option Node)) → Extends old new
    → AreKnown f ranks old definitions rules guesses → AreKnown f ranks new definitions rules guesses
known_stays f ranks old new definitions rules guesses extends known = search (arith, definitions_stay, guesses_stay)

-- the existential that a variable of the list of all names
pub named_at : (f : Dqbf) → IsLawful f → (variables : List ℕ) → variables ≡ existential_variables f → (i v : ℕ) →
    i < length variables → v ≡ get_or variables i 0
    → (y : Existential) × (slice_get f.existentials i ≡ Some y) × (existential_of f v ≡ Some y)
named_at f lawful variables all i v below is =
    let es = f.existentials in
    let none : Existential = record { variable = 0; sees = [] } in
    let within = subst (λ n. i < n) (length-map es variable) (subst (λ vs. i < length vs) all below) in
    let y = get_or es i none in
    let same : v ≡ y.variable = is ∙ ap (λ vs. get_or vs i 0) all ∙ get_or-map variable es i none 0 within in (
      y,
      slice_get-get_or es i none within,
      subst (λ w. existential_of f w ≡ Some y) (sym same)
          (lawful.named i none within),
    )

-- what was found defines it, where it is a definition
pub found_defines : (f : Dqbf) (ranks : List ℕ) (graph : AigGraph) (y : Existential) (found : Found) →
    IsFound f ranks graph y found → (node : Node) → definition_in found ≡ Some node → IsDefinition f ranks graph y node
found_defines f ranks graph y (Defined own) is node same = search arith
found_defines f ranks graph y (Free pair) is node same = cc

-- what forces it, where it is forced
pub forced_rule : (f : Dqbf) (y : Existential) (row : List Bool) (bit : Bool) (forced : Forced) →
    IsForced f y row bit forced → (rule : Rule) → forced ≡ ByRule rule → IsRule f rule
forced_rule f y row bit (ByRule own) is rule same = subst (IsRule f) (let e : own ≡ rule = cc in e) is.is_rule
forced_rule f y row bit (Loose other values) is rule same = cc

-- what was guessed is a node over what the existential sees
pub guess_at : (f : Dqbf) (graph : AigGraph) (y : Existential) (o : Option Node) → IfSome o (IsGuess f graph y) →
    (node : Node) → o ≡ Some node → IsGuess f graph y node
guess_at f graph y None is node same = cc
guess_at f graph y (Some own) is node same = subst (IsGuess f graph y) (let e : own ≡ node = cc in e) is

pub with_guesses : (f : Dqbf) (ranks : List ℕ) (graph : AigGraph) (definitions : List (Option Node)) (rules : List Rule)
    (before after : List (Option Node))
    → AreKnown f ranks graph definitions rules before → AreGuesses f graph after →
    AreKnown f ranks graph definitions rules after
with_guesses f ranks graph definitions rules before after known guessed = search arith

-- a call that asks for guesses leaves what is known
pub left-refl : (d : Definitions) → LeavesKnown d d
left-refl d = record { ranks = refl; nodes = refl; rules = refl; guesses = refl }

pub left-trans : (d e g : Definitions) → LeavesKnown d e → LeavesKnown e g → LeavesKnown d g
left-trans d e g one other = search arith

pub left_known : (f : Dqbf) (graph : AigGraph) (d e : Definitions) → LeavesKnown d e →
    AreKnown f d.ranks.items graph d.nodes.items d.rules.items d.guesses.items
    → AreKnown f e.ranks.items graph e.nodes.items e.rules.items e.guesses.items
left_known f graph d e left known = search arith

-- what was found is a guess, where it is a node
pub found_guess : (f : Dqbf) (graph : AigGraph) (y : Existential) (conditions : List Literal) (node : Node) →
    IsRightGuess f graph y conditions (NodeFound node) → IsGuess f graph y node
found_guess f graph y conditions node is = record { is_node = is.is_node; reads = is.reads }

pub found_within : (f : Dqbf) (graph : AigGraph) (y : Existential) (found result : Result (Option Node) Stop)
    → ((node : Node) → result ≡ Ok (Some node) → found ≡ Ok (Some node)) →
    IfOk found (λ guess. IfSome guess (IsGuess f graph y))
    → IfOk result (λ guess. IfSome guess (IsGuess f graph y))
found_within f graph y found (Err e) same right = tt
found_within f graph y found (Ok None) same right = tt
found_within f graph y found (Ok (Some node)) same right = subst
    (λ r. IfOk r (λ guess. IfSome guess (IsGuess f graph y))) (same node refl) right

-- what is known where one more is guessed
pub guess_known : (f : Dqbf) (ranks : List ℕ) → HasLawfulPrefix f →
    (old new : AigGraph) (p : ℕ) (y : Existential) (definitions : List (Option Node)) (rules : List Rule)
    (guesses : List (Option Node))
    (next : Option Node) → Extends old new → length guesses ≡ length f.existentials →
    slice_get f.existentials p ≡ Some y → IfSome next (IsGuess f new y)
    → AreKnown f ranks old definitions rules guesses → AreKnown f ranks new definitions rules (set guesses p next)
guess_known f ranks lawful old new p y definitions rules guesses next extends many at here known =
    let still = known_stays f ranks old new definitions rules guesses extends known in
    with_guesses f ranks new definitions rules guesses (set guesses p next) still
    (put_stays f lawful (IsGuess f new) p y guesses next many at (guess_at f new y next here) still.guessed)

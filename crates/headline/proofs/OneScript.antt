-- A text spells one script: each line one command.
use Rattle.std.proofs.Common.{◌≡◌, ℕ, zero, suc, ◌-◌, ◌≤◌, Bool, true, false, cond, List, [], ◌∷◌, ◌++◌, length, map, refl, ◌∙◌, ap, arith}
use Rattle.std.specs.List.{AllByRecursion, AllZip, Contains, filter, flat_map}
use Rattle.std.proofs.lemmas.List.Elements.{All-contains, All-from_recursion, All-weaker, recursion_from_All}
use Rattle.headline.specs.Headline.{Existential, Formula, Literal, PrefixPart, Spells, SpellsFormula, Symbol, declared_in, dependent, existentials, existentials_from, existentials_of, is_free, literals_of, natural, negative, seeing, universals, universals_in, universals_of, up_to, variable_of, word, words}
use Rattle.headline.specs.Sessions.{AreLawful, Command, SpellsScript, add, command_symbols, pop, push, solve, variables_of}
use Rattle.headline.proofs.OneFormula.{AreNamed, ArePlain, Positive, before_part, behind_part, both_parts, kind, literals_same, plain_literals, rest, same_symbols}

-- ---- a formula's variables are positive

abbrev variable_list : List Existential → List ℕ
variable_list ys = map (λ y. y.variable) ys

all_universals : (ps : List PrefixPart) → Positive (flat_map declared_in ps) → Positive (flat_map universals_in ps)
all_universals [] all = tt
all_universals (universals vs ∷ ps) all =
    let others = flat_map declared_in ps in
    both_parts vs (flat_map universals_in ps) (before_part vs others all) (all_universals ps (behind_part vs others all))
all_universals (existentials ys ∷ ps) all = all_universals ps (behind_part ys (flat_map declared_in ps) all)
all_universals (dependent y xs ∷ ps) all = all_universals ps all.1

in_front : (sees ys : List ℕ) (zs : List Existential) → Positive ys → Positive (variable_list zs) →
    Positive (variable_list (map (seeing sees) ys ++ zs))
in_front sees [] zs p q = q
in_front sees (y ∷ ys) zs p q = (p.0, in_front sees ys zs p.1 q)

all_existentials : (before : List ℕ) (ps : List PrefixPart) → Positive (flat_map declared_in ps) →
    Positive (variable_list (existentials_from before ps))
all_existentials before [] all = tt
all_existentials before (universals vs ∷ ps) all =
    all_existentials (before ++ vs) ps (behind_part vs (flat_map declared_in ps) all)
all_existentials before (existentials ys ∷ ps) all =
    let others = flat_map declared_in ps in
    in_front before ys (existentials_from before ps) (before_part ys others all)
    (all_existentials before ps (behind_part ys others all))
all_existentials before (dependent y xs ∷ ps) all = (all.0, all_existentials before ps all.1)

at_end : (ys : List Existential) (vs : List ℕ) → Positive (variable_list ys) → Positive vs →
    Positive (variable_list (ys ++ map (seeing []) vs))
at_end [] [] p q = tt
at_end [] (v ∷ vs) p q = (q.0, at_end [] vs tt q.1)
at_end (y ∷ ys) vs p q = (p.0, at_end ys vs p.1 q)

kept : (test : ℕ → Bool) (vs : List ℕ) → Positive vs → Positive (filter test vs)
kept test [] p = tt
kept test (v ∷ vs) p = by (test v) (kept test vs p.1) where
  by : (b : Bool) → Positive (filter test vs) → Positive (cond b (v ∷ filter test vs) (filter test vs))
  by true others = (p.0, others)
  by false others = others

numbers_up_to : (n : ℕ) → Positive (up_to n)
numbers_up_to zero = tt
numbers_up_to (suc n) = both_parts (up_to n) (suc n ∷ []) (numbers_up_to n) (omega arith, tt)

all_variables : (text : List ℕ) (f : Formula) → SpellsFormula text f → Positive (variables_of f)
all_variables text f s =
    let declared = flat_map declared_in f.parts in
    let others = flat_map (λ c. map variable_of (literals_of c)) f.constraints in
    let all = recursion_from_All (λ v. 1 ≤ v) (declared ++ others)
    (All-weaker (λ v. (1 ≤ v) × (v ≤ f.variables)) (λ v. 1 ≤ v) (λ v both. both.0) (declared ++ others) s.in_range) in
    let own = before_part declared others all in
    both_parts (universals_of f) (variable_list (existentials_of f)) (all_universals f.parts own)
    (at_end (existentials_from [] f.parts) (filter (is_free f) (up_to f.variables)) (all_existentials [] f.parts own)
    (kept (is_free f) (up_to f.variables) (numbers_up_to f.variables)))

-- ---- so that a clause ends at its first 0

abbrev IsNamed : Command → Type 0
IsNamed push = Unit {0}
IsNamed (add ls) = AreNamed ls
IsNamed pop = Unit {0}
IsNamed solve = Unit {0}

named_literals : (vs : List ℕ) → Positive vs → (ls : List Literal) →
    AllByRecursion (λ l. Contains vs (variable_of l)) ls → AreNamed ls
named_literals vs p [] bound = tt
named_literals vs p (l ∷ ls) bound = (
  All-contains (λ v. 1 ≤ v) vs (variable_of l) (All-from_recursion (λ v. 1 ≤ v) vs p) bound.0,
  named_literals vs p ls bound.1,
)

named_commands : (f : Formula) → Positive (variables_of f) → (depth : ℕ) (commands : List Command) →
    AreLawful f depth commands → AllByRecursion IsNamed commands
named_commands f p depth [] lawful = tt
named_commands f p depth (push ∷ commands) lawful = (tt, named_commands f p (suc depth) commands lawful)
named_commands f p depth (add ls ∷ commands) lawful = (
  named_literals (variables_of f) p ls
      (recursion_from_All (λ l. Contains (variables_of f) (variable_of l)) ls lawful.1),
  named_commands f p depth commands lawful.2,
)
named_commands f p depth (pop ∷ commands) lawful = (tt, named_commands f p (depth - 1) commands lawful.1)
named_commands f p depth (solve ∷ commands) lawful = (tt, named_commands f p depth commands lawful)

-- ---- a line spells one command

plain_command : (c : Command) → ArePlain (command_symbols c)
plain_command push = (refl, tt)
plain_command (add ls) = (refl, plain_literals ls)
plain_command pop = (refl, tt)
plain_command solve = (refl, tt)

-- what its word begins with, and how long that is
abbrev letters : List Symbol → ℕ
letters [] = 0
letters (word text ∷ _) = length text
letters (natural _ ∷ _) = 0
letters (negative _ ∷ _) = 0

command_same : (c d : Command) → IsNamed c → IsNamed d → command_symbols c ≡ command_symbols d → c ≡ d
command_same push push p q e = refl
command_same push (add ls) p q e = let other = ap letters e in absurd (omega (arith, other))
command_same push pop p q e = let other = ap letters e in absurd (omega (arith, other))
command_same push solve p q e = let other = ap letters e in absurd (omega (arith, other))
command_same (add ks) push p q e = let other = ap letters e in absurd (omega (arith, other))
command_same (add ks) (add ls) p q e =
    ap add (literals_same ks ls [] [] p q (ap (λ ss. rest ss ++ []) e)).0
command_same (add ks) pop p q e = let other = ap kind e in absurd (omega (arith, other))
command_same (add ks) solve p q e = let other = ap letters e in absurd (omega (arith, other))
command_same pop push p q e = let other = ap letters e in absurd (omega (arith, other))
command_same pop (add ls) p q e = let other = ap kind e in absurd (omega (arith, other))
command_same pop pop p q e = refl
command_same pop solve p q e = let other = ap letters e in absurd (omega (arith, other))
command_same solve push p q e = let other = ap letters e in absurd (omega (arith, other))
command_same solve (add ls) p q e = let other = ap letters e in absurd (omega (arith, other))
command_same solve pop p q e = let other = ap letters e in absurd (omega (arith, other))
command_same solve solve p q e = refl

abbrev IsLineOf : List ℕ → Command → Type 0
IsLineOf line c = AllZip Spells (words line) (command_symbols c)

commands_same : (ls : List (List ℕ)) (cs ds : List Command) → AllByRecursion IsNamed cs → AllByRecursion IsNamed ds →
    AllZip IsLineOf ls cs → AllZip IsLineOf ls ds → cs ≡ ds
commands_same [] [] [] p q a b = refl
commands_same [] [] (d ∷ ds) p q a b = absurd b
commands_same [] (c ∷ cs) ds p q a b = absurd a
commands_same (l ∷ ls) [] ds p q a b = absurd a
commands_same (l ∷ ls) (c ∷ cs) [] p q a b = absurd b
commands_same (l ∷ ls) (c ∷ cs) (d ∷ ds) p q a b =
    let symbols = same_symbols (words l) (command_symbols c) (command_symbols d) (plain_command c) (plain_command d)
    a.0 b.0 in
    ap (λ x. x ∷ cs) (command_same c d p.0 q.0 symbols) ∙ ap (λ xs. d ∷ xs) (commands_same ls cs ds p.1 q.1 a.1 b.1)

pub one_script : (formula script : List ℕ) (f : Formula) (cs ds : List Command) → SpellsFormula formula f →
    SpellsScript script f cs → SpellsScript script f ds → cs ≡ ds
one_script formula script f cs ds s one other =
    let p = all_variables formula f s in
    commands_same _ cs ds (named_commands f p 0 cs one.lawful) (named_commands f p 0 ds other.lawful) one.spelled
    other.spelled

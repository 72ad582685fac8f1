-- Steps, as their reader takes them and as the grammar spells them.
use Rattle.std.proofs.Common.{◌≡◌, ℕ, zero, suc, ◌+◌, ◌==◌, ◌≤◌, ◌<◌, nat_lt, ℤ, pos, negsuc, nat_abs, Bool, true, false, not, cond, ◌&&◌, List, [], ◌∷◌, ◌++◌, map, take, drop, length, get_or, Option, None, Some, Result, Ok, Err, refl, sym, ◌∙◌, ap, ap₂, arith, subst, length-append}
use Rattle.std.specs.Int.{is_positive}
use Rattle.std.specs.List.{AllByRecursion, list_all, position, position_or_len}
use Rattle.std.specs.Option.{option_and_then, option_map}
use Rattle.std.proofs.Math.Seq.{take-append_seam, drop-append-add}
use Rattle.std.proofs.lemmas.Bool.{and_from, and_parts, lt-ltb, ltb-true, eqb-true, eq-eqb, ne_eqb, not-false}
use Rattle.std.proofs.lemmas.List.{drop_more, take-append-drop}
use Rattle.std.proofs.lemmas.List.Quantifiers.{position-Some}
use Rattle.std.proofs.lemmas.List.Elements.{All-from_recursion, recursion_from_All}
use Rattle.std.proofs.lemmas.Option.{option_and_then_some}
use Rattle.dq_lits.specs.Derivation.{ProofStep}
use Rattle.dq_lits.specs.Literal.{Literal, positive, negative, dimacs_literal, dimacs_number, variable_of}
use Rattle.dq_text.specs.Number.{number_of}
use Rattle.cert_text.specs.Grammar.{Tokens, integers, step_numbers, SpellsStep, IsStep}
use Rattle.cert_text.specs.LineStop.{and_then}
use Rattle.cert_text.specs.Numbers.{line_integers}
use Rattle.cert_text.specs.StepLine.{is_zero, cut_at_zero, is_nil, step_of_parts, step_of, shaped, checked_step, step_line}
use Rattle.cert_text.specs.declared.faults.CertFault.{CertFault}
use Rattle.cert_text.specs.declared.faults.CertFault.TheVariants.{IdOrder, BadVariable, UnknownHint}
use Rattle.cert_text.proofs.Integers.{passed, integers_taken, integers_spelled}
use Rattle.cert_text.proofs.SpelledRows.{positive_is, zero_is}

-- numbers without 0
abbrev AreNonzero : List ℤ → Type 0
AreNonzero ns = AllByRecursion (λ n. is_zero n ≡ false) ns

zero_place : (front rest : List ℤ) → AreNonzero front → position_or_len is_zero (front ++ pos 0 ∷ rest) ≡ length front
zero_place [] rest none = refl
zero_place (n ∷ front) rest none = search (arith, (zero_place front rest none.1))

pub cut : (front rest : List ℤ) → AreNonzero front → cut_at_zero (front ++ pos 0 ∷ rest) ≡ Some (front, rest)
cut front rest none = search (arith, lt-ltb, length-append, nat_lt, zero_place, take-append_seam, drop-append-add)

-- literals and hints as numbers
abbrev pub AreLiterals : List Literal → Type 0
AreLiterals ls = AllByRecursion (λ l. 1 ≤ variable_of l) ls

number_nonzero : (l : Literal) → 1 ≤ variable_of l → is_zero (dimacs_number l) ≡ false
number_nonzero (positive v) some = ne_eqb v 0 (λ h. omega (arith, some, h))
number_nonzero (negative zero) some = absurd (omega (arith, some))
number_nonzero (negative (suc v)) some = ne_eqb (suc v) 0 (λ h. omega (arith, h))

literals_nonzero : (ls : List Literal) → AreLiterals ls → AreNonzero (map dimacs_number ls)
literals_nonzero [] some = tt
literals_nonzero (l ∷ ls) some = (number_nonzero l some.0, literals_nonzero ls some.1)

literal_back : (l : Literal) → 1 ≤ variable_of l → dimacs_literal (dimacs_number l) ≡ l
literal_back (positive v) some = refl
literal_back (negative zero) some = absurd (omega (arith, some))
literal_back (negative (suc v)) some = refl

literals_back : (ls : List Literal) → AreLiterals ls → map dimacs_literal (map dimacs_number ls) ≡ ls
literals_back [] some = refl
literals_back (l ∷ ls) some = ap₂ (λ x xs. x ∷ xs) (literal_back l some.0) (literals_back ls some.1)

abbrev pub AreIds : List ℕ → Type 0
AreIds hs = AllByRecursion (λ h. 1 ≤ h) hs

abbrev pub hint_numbers : List ℕ → List ℤ
hint_numbers hs = map (λ hint. pos hint) hs

pub hints_nonzero : (hs : List ℕ) → AreIds hs → AreNonzero (hint_numbers hs)
hints_nonzero [] some = tt
hints_nonzero (h ∷ hs) some = (ne_eqb h 0 (λ e. omega (arith, some.0, e)), hints_nonzero hs some.1)

id_positive : (n : ℕ) → 1 ≤ n → is_positive (pos n) ≡ true
id_positive zero some = absurd (omega (arith, some))
id_positive (suc n) some = positive_is n

pub hints_positive : (hs : List ℕ) → AreIds hs → list_all is_positive (hint_numbers hs) ≡ true
hints_positive [] some = refl
hints_positive (h ∷ hs) some = search (arith, and_from, id_positive, (hints_positive hs some.1))

pub hints_back : (hs : List ℕ) → map nat_abs (hint_numbers hs) ≡ hs
hints_back [] = refl
hints_back (h ∷ hs) = ap (λ rest. h ∷ rest) (hints_back hs)

-- a step that can be written
pub record IsWritable (s : ProofStep) : Type 0 where
  pub id : 1 ≤ s.id
  pub literals : AreLiterals s.literals
  pub hints : AreIds s.hints

shape_kept : (s : ProofStep) → IsWritable s → step_of (step_numbers s) ≡ Some s
shape_kept s is =
    search (
      arith,
      and_from,
      id_positive,
      hints_positive,
      cut,
      literals_nonzero,
      hints_nonzero,
      nat_abs,
      literals_back,
      hints_back,
    )

-- what the checks pass
on_variables : (p : ℕ → Bool) (ls : List Literal) → AllByRecursion (λ l. p (variable_of l) ≡ true) ls →
    list_all (λ l. p (variable_of l)) ls ≡ true
on_variables p [] all = refl
on_variables p (l ∷ ls) all = search (arith, and_from, (on_variables p ls all.1))

hints_below : (id : ℕ) (hs : List ℕ) → AllByRecursion (λ h. (1 ≤ h) × (h < id)) hs →
    list_all (λ hint. nat_lt hint id) hs ≡ true
hints_below id [] all = refl
hints_below id (h ∷ hs) all = search (arith, and_from, nat_lt, lt-ltb, (hints_below id hs all.1))

checks_pass : (step : ProofStep) (id_is variables_are hints_are : Bool) → id_is ≡ true → variables_are ≡ true →
    hints_are ≡ true →
    cond (not id_is) (Err IdOrder) (cond (not variables_are) (Err BadVariable)
    (cond (not hints_are) (Err UnknownHint) (Ok step))) ≡ Ok step
checks_pass step true true true i v h = refl
checks_pass step false b d i v h = cc
checks_pass step true false d i v h = cc
checks_pass step true true false i v h = cc

checked : (p : ℕ → Bool) (next : ℕ) (s : ProofStep) → IsStep p next s → checked_step p next s ≡ Ok s
checked p next s is =
    let below = subst (λ id. AllByRecursion (λ h. (1 ≤ h) × (h < id)) s.hints) (sym is.numbered)
    (recursion_from_All (λ h. (1 ≤ h) × (h < next)) s.hints is.hints_before) in
    checks_pass s (s.id == next) (list_all (λ l. p (variable_of l)) s.literals)
    (list_all (λ hint. nat_lt hint s.id) s.hints)
    (eq-eqb s.id next is.numbered)
    (on_variables p s.literals (recursion_from_All (λ l. p (variable_of l) ≡ true) s.literals is.on_variables))
    (hints_below s.id s.hints below)

literals_from : (p : ℕ → Bool) (ls : List Literal) → ((v : ℕ) → p v ≡ true → 1 ≤ v) →
    AllByRecursion (λ l. p (variable_of l) ≡ true) ls → AreLiterals ls
literals_from p [] some all = tt
literals_from p (l ∷ ls) some all = (some (variable_of l) all.0, literals_from p ls some all.1)

pub ids_from : (next : ℕ) (hs : List ℕ) → AllByRecursion (λ h. (1 ≤ h) × (h < next)) hs → AreIds hs
ids_from next [] all = tt
ids_from next (h ∷ hs) all = (all.0.0, ids_from next hs all.1)

pub writable : (p : ℕ → Bool) (next : ℕ) (s : ProofStep) → ((v : ℕ) → p v ≡ true → 1 ≤ v) → 1 ≤ next → IsStep p next s →
    IsWritable s
writable p next s some from_one is = search (arith, literals_from, recursion_from_All, ids_from)

pub step_taken : (p : ℕ → Bool) (next : ℕ) (tokens : Tokens) (s : ProofStep) → ((v : ℕ) → p v ≡ true → 1 ≤ v) →
    1 ≤ next →
    SpellsStep tokens s → IsStep p next s → step_line p next tokens ≡ Ok s
step_taken p next tokens s some from_one spelled is =
    ap (and_then (λ ns. and_then (checked_step p next) (shaped (step_of ns))))
    (integers_taken tokens (step_numbers s) spelled)
    ∙ ap (λ o. and_then (checked_step p next) (shaped o)) (shape_kept s (writable p next s some from_one is))
    ∙ checked p next s is

-- a list with a 0 is what stands before it, the 0, and what stands behind it
cut_at : (ns front rest : List ℤ) (place : Option ℕ) → position is_zero ns ≡ place →
    option_map {U = List ℤ × List ℤ} (λ end. (take end ns, drop (end + 1) ns)) place ≡ Some (front, rest) →
    ns ≡ front ++ pos 0 ∷ rest
cut_at ns front rest None is h = cc
cut_at ns front rest (Some end) is h =
    let found = position-Some is_zero ns end (pos 0) is in
    let both : (take end ns, drop (end + 1) ns) ≡ (front, rest) = cc in
    let front_is : take end ns ≡ front = ap (λ (parts : List ℤ × List ℤ). parts.0) both in
    let rest_is : drop (end + 1) ns ≡ rest = ap (λ (parts : List ℤ × List ℤ). parts.1) both in
    let zero_there : get_or ns end (pos 0) ≡ pos 0 = zero_is (get_or ns end (pos 0))
    (eqb-true (nat_abs (get_or ns end (pos 0))) 0 found.1) in
    sym (take-append-drop end ns)
    ∙ ap₂ (λ a b. a ++ b) front_is (drop_more ns end (pos 0) found.0 ∙ ap₂ (λ n more. n ∷ more) zero_there rest_is)

pub cut_back : (ns : List ℤ) (parts : List ℤ × List ℤ) → cut_at_zero ns ≡ Some parts → ns ≡ parts.0 ++ pos 0 ∷ parts.1
cut_back ns parts h = cut_at ns parts.0 parts.1 (position is_zero ns) refl h

positive_back : (n : ℤ) → is_positive n ≡ true → (n ≡ pos (nat_abs n)) × (1 ≤ nat_abs n)
positive_back (pos zero) h = cc
positive_back (pos (suc n)) h = (refl, omega arith)
positive_back (negsuc n) h = cc

pub number_back : (n : ℤ) → dimacs_number (dimacs_literal n) ≡ n
number_back (pos v) = refl
number_back (negsuc n) = refl

numbers_back : (ns : List ℤ) → map dimacs_number (map dimacs_literal ns) ≡ ns
numbers_back [] = refl
numbers_back (n ∷ ns) = ap₂ (λ x xs. x ∷ xs) (number_back n) (numbers_back ns)

pub hints_are : (ns : List ℤ) → list_all is_positive ns ≡ true →
    (hint_numbers (map nat_abs ns) ≡ ns) × AreIds (map nat_abs ns)
hints_are [] h = (refl, tt)
hints_are (n ∷ ns) h = search (arith, and_parts, positive_back, (hints_are ns))

pub nil_is : (ns : List ℤ) → is_nil ns ≡ true → ns ≡ []
nil_is [] h = refl
nil_is (n ∷ ns) h = cc

-- numbers that are a step's
pub record IsShape (ns : List ℤ) (s : ProofStep) : Type 0 where
  pub numbers : ns ≡ step_numbers s
  pub hints : AreIds s.hints

made_of : (b : Bool) (made s : ProofStep) → cond b (Some made) None ≡ Some s → (b ≡ true) × (made ≡ s)
made_of true made s h = let is : made ≡ s = cc in (refl, is)
made_of false made s h = cc

shape_of_parts : (id : ℤ) (ls hs more : List ℤ) (s : ProofStep) → step_of_parts id ls hs more ≡ Some s →
    IsShape (id ∷ (ls ++ pos 0 ∷ (hs ++ pos 0 ∷ more))) s
shape_of_parts id ls hs more s h =
    let made : ProofStep = record { id = nat_abs id; literals = map dimacs_literal ls; hints = map nat_abs hs } in
    let parts = made_of (is_positive id && (list_all is_positive hs && is_nil more)) made s h in
    let first = and_parts (is_positive id) (list_all is_positive hs && is_nil more) parts.0 in
    let second = and_parts (list_all is_positive hs) (is_nil more) first.1 in
    let ids = hints_are hs second.0 in
    let numbers : id ∷ (ls ++ pos 0 ∷ (hs ++ pos 0 ∷ more)) ≡ step_numbers made =
    ap₂ (λ n rest. n ∷ rest) (positive_back id first.0).0
    (ap₂ (λ xs ys. xs ++ pos 0 ∷ ys) (sym (numbers_back ls))
    (ap₂ (λ xs ys. xs ++ pos 0 ∷ ys) (sym ids.0) (nil_is more second.1))) in
    subst (IsShape (id ∷ (ls ++ pos 0 ∷ (hs ++ pos 0 ∷ more)))) parts.1 (record { numbers = numbers; hints = ids.1 })

pub shape_read : (ns : List ℤ) (s : ProofStep) → step_of ns ≡ Some s → IsShape ns s
shape_read [] s h = cc
shape_read (id ∷ ns) s h =
    let Parts : Type 0 = List ℤ × List ℤ in
    option_and_then_some (λ (front : Parts). option_and_then (λ (back : Parts). step_of_parts id front.0 back.0 back.1)
    (cut_at_zero front.1)) (cut_at_zero ns) s h
    (λ front front_is behind. option_and_then_some (λ (back : Parts). step_of_parts id front.0 back.0 back.1)
    (cut_at_zero front.1) s behind
    (λ back back_is made.
    let whole : id ∷ ns ≡ id ∷ (front.0 ++ pos 0 ∷ (back.0 ++ pos 0 ∷ back.1)) =
    ap (λ rest. id ∷ rest) (cut_back ns front front_is ∙ ap (λ rest. front.0 ++ pos 0 ∷ rest)
    (cut_back front.1 back back_is)) in
    subst (λ all. IsShape all s) (sym whole) (shape_of_parts id front.0 back.0 back.1 s made)))

-- what the checks say
all_on_variables : (p : ℕ → Bool) (ls : List Literal) → list_all (λ l. p (variable_of l)) ls ≡ true →
    AllByRecursion (λ l. p (variable_of l) ≡ true) ls
all_on_variables p [] h = tt
all_on_variables p (l ∷ ls) h = search (arith, and_parts, (all_on_variables p ls))

all_before : (id : ℕ) (hs : List ℕ) → list_all (λ hint. nat_lt hint id) hs ≡ true → AreIds hs →
    AllByRecursion (λ h. (1 ≤ h) × (h < id)) hs
all_before id [] h some = tt
all_before id (x ∷ hs) h some = search (arith, and_parts, nat_lt, ltb-true, (all_before id hs))

record PassesChecks (p : ℕ → Bool) (next : ℕ) (s t : ProofStep) : Type 0 where
  same : s ≡ t
  numbered : s.id ≡ next
  variables : list_all (λ l. p (variable_of l)) s.literals ≡ true
  hints : list_all (λ hint. nat_lt hint s.id) s.hints ≡ true

checks_passed : (p : ℕ → Bool) (next : ℕ) (s t : ProofStep) → checked_step p next s ≡ Ok t → PassesChecks p next s t
checks_passed p next s t h = search (arith, nat_lt, passed, eqb-true, not-false)

-- a step, spelled and lawful
pub record IsStepLine (p : ℕ → Bool) (next : ℕ) (tokens : Tokens) (s : ProofStep) : Type 0 where
  pub spelled : SpellsStep tokens s
  pub lawful : IsStep p next s

step_checked : (p : ℕ → Bool) (next : ℕ) (tokens : Tokens) (ns : List ℤ) (s t : ProofStep) →
    map number_of tokens ≡ integers ns → IsShape ns s →
    checked_step p next s ≡ Ok t → IsStepLine p next tokens t
step_checked p next tokens ns s t numbers shape h =
    let checks = checks_passed p next s t h in
    let before = subst (λ id. AllByRecursion (λ h. (1 ≤ h) × (h < id)) s.hints) checks.numbered
    (all_before s.id s.hints checks.hints shape.hints) in
    subst (IsStepLine p next tokens) checks.same (record {
      spelled = numbers ∙ ap integers shape.numbers;
      lawful = record {
        numbered = checks.numbered;
        on_variables = All-from_recursion (λ l. p (variable_of l) ≡ true) s.literals
            (all_on_variables p s.literals checks.variables);
        hints_before = All-from_recursion (λ h. (1 ≤ h) × (h < next)) s.hints before;
      };
    })

behind_shape : (p : ℕ → Bool) (next : ℕ) (tokens : Tokens) (ns : List ℤ) (found : Option ProofStep) (t : ProofStep) →
    map number_of tokens ≡ integers ns →
    step_of ns ≡ found → and_then (checked_step p next) (shaped found) ≡ Ok t → IsStepLine p next tokens t
behind_shape p next tokens ns None t numbers is h = cc
behind_shape p next tokens ns (Some s) t numbers is h = step_checked p next tokens ns s t numbers (shape_read ns s is) h

behind_integers : (p : ℕ → Bool) (next : ℕ) (tokens : Tokens) (taken : Result (List ℤ) CertFault) (t : ProofStep) →
    line_integers tokens ≡ taken →
    and_then (λ ns. and_then (checked_step p next) (shaped (step_of ns))) taken ≡ Ok t → IsStepLine p next tokens t
behind_integers p next tokens (Err name) t is h = cc
behind_integers p next tokens (Ok ns) t is h = search (arith, behind_shape, integers_spelled)

pub step_spelled : (p : ℕ → Bool) (next : ℕ) (tokens : Tokens) (s : ProofStep) → step_line p next tokens ≡ Ok s →
    IsStepLine p next tokens s
step_spelled p next tokens s h = behind_integers p next tokens (line_integers tokens) s refl h

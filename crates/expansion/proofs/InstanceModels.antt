-- The values that a search found, as a model of the instances.
use Rattle.std.proofs.Common.{◌≡◌, ℕ, ◌+◌, ◌-◌, ◌/◌, ◌%◌, ◌≤◌, ◌==◌, Bool, true, false, true≢false, cond, ◌&&◌, List, [], ◌∷◌, Some, refl, sym, ◌∙◌, ap, arith}
use Rattle.std.specs.List.{Contains, position_or_len}
use Rattle.std.proofs.lemmas.Bool.{eqb-true, eq-eqb, and_parts}
use Rattle.list_laws.proofs.Numbers.{pair_variable, pair_row}
use Rattle.dq_lits.specs.Literal.{Assignment}
use Rattle.dq_lits.specs.Formula.{Dqbf, Existential}
use Rattle.dq_lits.specs.Expansion.{agree_on, pair_number}
use Rattle.hint_log.specs.Conditions.{AreLogged}
use Rattle.hint_log.specs.Entries.{Entry, Named, Given, name_of}
use Rattle.hint_log.specs.declared.names.Name.{Name}
use Rattle.hint_log.specs.declared.names.Name.TheVariants.{Pair}
use Rattle.hint_log.specs.Naming.{arbiter}
use Rattle.log_laws.specs.Engines.{Engine, part}
use Rattle.list_laws.proofs.Members.{contains_cases, contains_later}

-- a name in an engine's part is a name in the log
pub own_name : (engine : Engine) (es : List Entry) (v : ℕ) (n : Name) → AreLogged es →
    name_of (part engine es) v ≡ Some n → name_of es v ≡ Some n
own_name engine [] v n logged h = h
own_name engine (Named w m ∷ es) v n logged h = search (arith, (own_name engine es v n logged.1), eqb-true)
own_name engine (Given o c ∷ es) v n logged h = search (arith, (own_name engine es v n logged.1))
own_name engine (_ ∷ es) v n logged h = own_name engine es v n logged.1 h

-- an entry of an engine's part is one of the log
pub own_entry : (engine : Engine) (es : List Entry) (e : Entry) → Contains (part engine es) e → Contains es e
own_entry engine [] e h = h
own_entry engine (x ∷ es) e h = search (arith, (own_entry engine es e), contains_cases, contains_later)

-- the variable that is named as a pair's arbiter
abbrev pub is_pair : Name → ℕ → ℕ → Bool
is_pair (Pair k y) l z = (k == l) && (y == z)
is_pair _ l z = false

abbrev pub variable_for : List Entry → ℕ → ℕ → ℕ
variable_for [] k y = 0
variable_for (Named v n ∷ es) k y = cond (is_pair n k y) v (variable_for es k y)
variable_for (_ ∷ es) k y = variable_for es k y

is_pair_sound : (n : Name) (k y : ℕ) → is_pair n k y ≡ true → n ≡ Pair k y
is_pair_sound (Pair l z) k y h = search (arith, and_parts, eqb-true)
is_pair_sound _ k y h = absurd (true≢false (sym h))

is_pair_itself : (k y : ℕ) → is_pair (Pair k y) k y ≡ true
is_pair_itself k y = ap (λ b. b && (y == y)) (eq-eqb k k refl) ∙ eq-eqb y y refl

pub found_variable : (es : List Entry) (v k y : ℕ) → AreLogged es → name_of es v ≡ Some (Pair k y) →
    variable_for es k y ≡ v
found_variable [] v k y logged h = cc
found_variable (Named w n ∷ es) v k y logged h =
    search (arith, (found_variable es v k y logged.1), eqb-true, is_pair_sound, true≢false, is_pair_itself)
found_variable (_ ∷ es) v k y logged h = found_variable es v k y logged.1 h

-- the bits of the pairs, by the values of their arbiters
abbrev pub pair_values : Assignment → List Entry → ℕ → Assignment
pair_values values es v n = values (variable_for es ((n - 1) / v + 1) ((n - 1) % v + 1))

pub arbiter_value : (values : Assignment) (es : List Entry) (f : Dqbf) (rows : List (List Bool)) (row : List Bool)
    (y : Existential) (v : ℕ) → AreLogged es
    → 1 ≤ y.variable → y.variable ≤ f.variables → name_of es v ≡ Some (arbiter f rows row y) →
    values v ≡ pair_values values es f.variables (pair_number f rows row y)
arbiter_value values es f rows row y v logged low high named =
    let place = position_or_len (agree_on f y row) rows in
    let found = found_variable es v (place + 1) y.variable logged named in
    ap values (sym found)
    ∙ sym (ap (λ k. values (variable_for es (k + 1) ((pair_number f rows row y - 1) % f.variables + 1)))
    (pair_row place f.variables y.variable low high)
    ∙ ap (λ w. values (variable_for es (place + 1) w)) (pair_variable place f.variables y.variable low high))

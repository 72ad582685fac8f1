-- Numbers as they are read, and their ranges.
use Rattle.std.proofs.Common.{◌≡◌, ◌∙◌, ◌≤◌, ◌<◌, ◌^◌, ◌&&◌, nat_le, nat_lt, ℕ, Bool, cond, true, false, refl, sym, ap, subst, arith, List, [], ◌∷◌, Option, Some, None, Result, Ok, Err, option_map, codes}
use Rattle.std.specs.Option.{option_map_or, option_and_then}
use Rattle.clap.specs.Faults.{fault_of}
use Rattle.clap.specs.Kinds.{Kinds}
use Rattle.clap.specs.Simple.{subcommand_of}
use Rattle.std.specs.Str.Parse.{ParsesUnsigned, digits_value, without_leading_plus}
use Rattle.std.proofs.lemmas.Bool.Decides.{nat_tests}
use Rattle.std.proofs.lemmas.Result.{OkIff-at_ok}
use Rattle.clap.specs.ValueTests.{is_unsigned_in}
use Rattle.clap.specs.Walk.{Row, Text}
use Rattle.clap.specs.declared.builder.value_parser.ValueParser.TheVariants as vp
use Rattle.clap.proofs.ValueTestLemmas.{accepts-Accepts, Accepts-accepts}
use Rattle.std.specs.Str.{bytes_eq}
use Rattle.dqsolve_words.specs.Command.{Options, Search, Planting, Circuits, Comparison, Defining, Session, Command, Given, solve, demo, pec, encode, defined, session, IsInRange, is_numeral, number_in, steps_in, solve_in, demo_in, circuits_in, pec_in, defined_in, session_in, options_in, least_steps, most_steps, default_steps, most_seed, least_size, most_size}
use Rattle.dqsolve_words.specs.Parsed.{command_in, command_of, given_in, solver_app, without_fault}

abbrev search : ℕ → Options → Text → Search
search steps options file = record { steps = steps; options = options; file = file }

abbrev planting : ℕ → ℕ → Planting
planting seed size = record { seed = seed; size = size }

abbrev comparison : ℕ → Circuits → Comparison
comparison steps circuits = record { steps = steps; circuits = circuits }

abbrev defining : ℕ → Text → Defining
defining steps file = record { steps = steps; file = file }

abbrev conversing : ℕ → Text → Text → Session
conversing steps file script = record { steps = steps; file = file; script = script }

abbrev value : Text → ℕ
value text = digits_value 10 (without_leading_plus text)

no_and : (a : Bool) → false ≡ (a && false)
no_and true = refl
no_and false = refl

-- a number in a range of 64 bits has 64 bits
fits_by : (least most n : ℕ) → most < 2 ^ 64 →
    (nat_lt n (2 ^ 64) && (nat_le least n && nat_le n most)) ≡ (nat_le least n && nat_le n most)
fits_by least most n small = go (nat_lt n (2 ^ 64)) refl
  where
    go : (b : Bool) → nat_lt n (2 ^ 64) ≡ b
        → (b && (nat_le least n && nat_le n most)) ≡ (nat_le least n && nat_le n most)
    go true is = refl
    go false is =
        let over : nat_le n most ≡ false = grind (arith, nat_tests) in
        no_and (nat_le least n) ∙ ap (λ b. nat_le least n && b) (sym over)

module _ (least most : ℕ) (text : Text) (small : most < 2 ^ 64) where
  by_test : (b : Bool) → is_unsigned_in least most text ≡ b →
      number_in least most text ≡ cond b (Some (value text)) None
  by_test b is = ap (λ x. cond x (Some (value text)) None)
      (ap (λ x. is_numeral (without_leading_plus text) && x) (sym (fits_by least most (value text) small)) ∙ is)

  -- a number in the range is taken
  pub number_taken : {E : Type 0} (r : Result ℕ E) (n : ℕ) → ParsesUnsigned 64 10 text r → r ≡ Ok n → least ≤ n →
      n ≤ most → Some n ≡ number_in least most text
  number_taken r n parsed is low_n high_n =
      let ((numeral, fits), same) = OkIff-at_ok r _ (value text) n parsed is in
      let low : least ≤ value text = omega (arith, low_n, same) in
      let high : value text ≤ most = omega (arith, high_n, same) in
      ap Some same ∙ sym (by_test true (Accepts-accepts false (vp.Unsigned least most) text (numeral, fits, low, high)))

  go_refused : (b : Bool) → is_unsigned_in least most text ≡ b → (b ≡ true → ⊥) → None ≡ number_in least most text
  go_refused true is none = absurd (none refl)
  go_refused false is none = sym (by_test false is)

  -- what is no number isn't
  pub no_number : {E : Type 0} (r : Result ℕ E) (e : E) → ParsesUnsigned 64 10 text r → r ≡ Err e →
      None ≡ number_in least most text
  no_number (Ok n) e parsed is = cc
  no_number (Err other) e parsed is =
      go_refused (is_unsigned_in least most text) refl (λ yes.
      let (numeral, fits, low, high) = accepts-Accepts false (vp.Unsigned least most) text yes in
      parsed (numeral, fits))

  in_range_by : (b : Bool) → is_unsigned_in least most text ≡ b → (n : ℕ) → cond b (Some (value text)) None ≡ Some n →
      (least ≤ n) × (n ≤ most)
  in_range_by true is n same =
      let (numeral, fits, low, high) = accepts-Accepts false (vp.Unsigned least most) text is in
      let one : value text ≡ n = ap (λ (o : Option ℕ). option_map_or (λ x. x) o 0) same in
      (omega (arith, low, one), omega (arith, high, one))
  in_range_by false is n same = cc

-- ---- the ranges

found_range : (least most : ℕ) → most < 2 ^ 64 → (o : Option Text) (n : ℕ) →
    option_and_then (number_in least most) o ≡ Some n → (least ≤ n) × (n ≤ most)
found_range least most small None n same = cc
found_range least most small (Some text) n same = in_range_by least most text small (is_unsigned_in least most text) refl n
    (sym (by_test least most text small (is_unsigned_in least most text) refl) ∙ same)

steps_range : (o : Option Text) (n : ℕ) → option_map_or (number_in least_steps most_steps) o (Some default_steps)
    ≡ Some n → (least_steps ≤ n) × (n ≤ most_steps)
steps_range None n same =
    let one : default_steps ≡ n = ap (λ (o : Option ℕ). option_map_or (λ x. x) o 0) same in
    (omega (arith, one), omega (arith, one))
steps_range (Some text) n same = found_range least_steps most_steps (omega arith) (Some text) n same

same_command : (a c : Command) → Some a ≡ Some c → a ≡ c
same_command a c is = ap (λ (o : Option Command). option_map_or (λ x. x) o a) is

solve_by : (file : Option Text) (steps : Option ℕ) (options : Options) →
    ((n : ℕ) → steps ≡ Some n → (least_steps ≤ n) × (n ≤ most_steps)) → (c : Command)
    → option_map solve (option_and_then (λ (name : Text). option_map (λ (n : ℕ). search n options name) steps) file)
    ≡ Some c → IsInRange c
solve_by None steps options range c is = cc
solve_by (Some name) None options range c is = cc
solve_by (Some name) (Some n) options range c is = subst IsInRange (same_command (solve (search n options name)) c is)
    (range n refl)

demo_by : (seed size : Option ℕ) → ((n : ℕ) → seed ≡ Some n → (0 ≤ n) × (n ≤ most_seed)) →
    ((n : ℕ) → size ≡ Some n → (least_size ≤ n) × (n ≤ most_size)) → (c : Command)
    → option_map demo (option_and_then (λ (s : ℕ). option_map (λ (z : ℕ). planting s z) size) seed) ≡ Some c →
    IsInRange c
demo_by None size seeds sizes c is = cc
demo_by (Some s) None seeds sizes c is = cc
demo_by (Some s) (Some z) seeds sizes c is = subst IsInRange (same_command (demo (planting s z)) c is)
    (let (low, high) = sizes z refl in ((seeds s refl).1, low, high))

pec_by : (circuits : Option Circuits) (steps : Option ℕ) → ((n : ℕ) → steps ≡ Some n →
    (least_steps ≤ n) × (n ≤ most_steps)) → (c : Command)
    → option_map pec (option_and_then (λ (two : Circuits). option_map (λ (n : ℕ). comparison n two) steps) circuits)
    ≡ Some c → IsInRange c
pec_by None steps range c is = cc
pec_by (Some two) None range c is = cc
pec_by (Some two) (Some n) range c is = subst IsInRange (same_command (pec (comparison n two)) c is) (range n refl)

encode_by : (circuits : Option Circuits) (c : Command) → option_map encode circuits ≡ Some c → IsInRange c
encode_by None c is = cc
encode_by (Some two) c is = subst IsInRange (same_command (encode two) c is) tt

defined_by : (file : Option Text) (steps : Option ℕ) → ((n : ℕ) → steps ≡ Some n →
    (least_steps ≤ n) × (n ≤ most_steps)) → (c : Command)
    → option_map defined (option_and_then (λ (name : Text). option_map (λ (n : ℕ). defining n name) steps) file)
    ≡ Some c → IsInRange c
defined_by None steps range c is = cc
defined_by (Some name) None range c is = cc
defined_by (Some name) (Some n) range c is =
    subst IsInRange (same_command (defined (defining n name)) c is) (range n refl)

session_by : (file script : Option Text) (steps : Option ℕ) → ((n : ℕ) → steps ≡ Some n →
    (least_steps ≤ n) × (n ≤ most_steps)) → (c : Command)
    → option_map session (option_and_then (λ (f : Text). option_and_then
    (λ (s : Text). option_map (λ (n : ℕ). conversing n f s) steps) script) file) ≡ Some c → IsInRange c
session_by None script steps range c is = cc
session_by (Some f) None steps range c is = cc
session_by (Some f) (Some s) None range c is = cc
session_by (Some f) (Some s) (Some n) range c is =
    subst IsInRange (same_command (session (conversing n f s)) c is) (range n refl)

asked_by : (given : Given) (b p e d s : Bool) (c : Command)
    → cond b (option_map demo (demo_in given)) (cond p (option_map pec (pec_in given))
    (cond e (option_map encode (circuits_in given)) (cond d (option_map defined (defined_in given))
    (cond s (option_map session (session_in given)) (option_map solve (solve_in given)))))) ≡ Some c
    → IsInRange c
asked_by given true p e d s c is =
    demo_by (option_and_then (number_in 0 most_seed) (given (codes "SEED")))
    (option_and_then (number_in least_size most_size) (given (codes "SIZE")))
    (found_range 0 most_seed (omega arith) (given (codes "SEED")))
    (found_range least_size most_size (omega arith) (given (codes "SIZE"))) c is
asked_by given false true e d s c is =
    pec_by (circuits_in given) (steps_in given) (steps_range (given (codes "steps"))) c is
asked_by given false false true d s c is = encode_by (circuits_in given) c is
asked_by given false false false true s c is =
    defined_by (given (codes "FILE")) (steps_in given) (steps_range (given (codes "steps"))) c is
asked_by given false false false false true c is =
    session_by (given (codes "FILE")) (given (codes "SCRIPT")) (steps_in given)
    (steps_range (given (codes "steps"))) c is
asked_by given false false false false false c is =
    solve_by (given (codes "FILE")) (steps_in given) (options_in given)
    (steps_range (given (codes "steps"))) c is

command_range : (sub : Option (Text × List Row)) (c : Command) → command_in sub ≡ Some c → IsInRange c
command_range None c is = cc
command_range (Some p) c is =
    asked_by (given_in p.1) (bytes_eq p.0 (codes "demo")) (bytes_eq p.0 (codes "pec")) (bytes_eq p.0 (codes "encode"))
    (bytes_eq p.0 (codes "defined")) (bytes_eq p.0 (codes "session")) c is

by_fault : (kinds : Kinds) (given : Option Command) → ((c : Command) → given ≡ Some c → IsInRange c) → (c : Command) →
    without_fault kinds given ≡ Some c → IsInRange c
by_fault [] given range c is = range c is
by_fault (_ ∷ _) given range c is = cc

pub asked_range : (words : List Text) (c : Command) → command_of words ≡ Some c → IsInRange c
unfolding command_of
asked_range words c is = by_fault (fault_of solver_app words) (command_in (subcommand_of solver_app words))
    (command_range (subcommand_of solver_app words)) c is

-- The examples of a session.
use Rattle.std.proofs.Common.{◌≡◌, ℕ, zero, suc, ◌*◌, ◌≤◌, ◌==◌, Bool, true, false, not, ◌&&◌, ◌||◌, cond, List, [], ◌∷◌, ◌++◌, map, codes, inl, inr, length, refl, sym, ◌∙◌, ap, subst, arith, length-append}
use Rattle.std.specs.Fmt.{decimal}
use Rattle.std.specs.List.{All}
use Rattle.std.proofs.lemmas.Fmt.{decimal_digit, decimal_step}
use Rattle.headline.specs.Examples.{copies, copies_text, wire, wire_text}
use Rattle.headline.specs.Headline.{Existential, Formula, HoldsSkolem, IsFalseFormula, SpellsAscii, SpellsFormula, existentials_of}
use Rattle.headline.specs.SessionExamples.{asking, asking_text, first_block, second_block, true_copies}
use Rattle.headline.specs.Sessions.{AnswersSession, AreBlocks, IsAnswer, SpellsScript, block_line, formulas_asked}
use Rattle.headline.proofs.Copies.{is_true, one_is, two_is, wire_circuit, wire_skolem, zero_is}
use Rattle.headline.proofs.OneFormula.{one_formula}
use Rattle.headline.proofs.OneScript.{one_script}

-- no copy of a false bit is true
apart : (y : Bool) → ((false || (not y || false)) && ((true || (y || false)) && ((y || false) && true))) ≡ true → ⊥
apart true h = cc
apart false h = cc

abbrev against : Bool → ℕ → Bool
against bit v = cond (v == 1) false bit

is_false : IsFalseFormula true_copies
is_false value solve = apart (value 2 (false ∷ [])) (solve (against (value 2 (false ∷ []))) own) where
  own : All (λ (y : Existential). against (value 2 (false ∷ [])) y.variable
      ≡ value y.variable (map (against (value 2 (false ∷ []))) y.sees)) (existentials_of true_copies)
  own zero d below = refl
  own (suc k) d below = absurd (omega (arith, below))

abbrev true_text : List ℕ
true_text = codes "s TRUE" ++ 10 ∷ wire_text

abbrev false_text : List ℕ
false_text = codes "s FALSE" ++ 10 ∷ []

stated_wire : SpellsAscii true_text wire []
stated_wire = record {
  verdict = codes "s TRUE" ∷ [];
  header = codes "aag 1 1 0 1 0";
  body = codes "2" ∷ codes "2" ∷ [];
  behind = [];
  zeros = 0;
  lines_are = refl;
  verdict_is = inr refl;
  header_is = (omega arith, (refl, (one_is, (one_is, (zero_is, (one_is, (zero_is, tt)))))));
  body_is = ((two_is, tt), ((two_is, tt), tt));
  names_are = record {
    symbols = [];
    end = [];
    parts = refl;
    symbols_are = tt;
    once = λ i j d less below. absurd (omega (arith, below));
    end_is = tt;
  };
}

held : HoldsSkolem copies true_text
held = record { c = wire; names = []; spelled = inl stated_wire; circuit = wire_circuit; skolem = wire_skolem }

-- the lines before the blocks
block_line_of : (k bytes : ℕ) (number count : List ℕ) → decimal k ≡ number → decimal bytes ≡ count →
    codes "solve " ++ (number ++ (codes " " ++ count)) ≡ block_line k bytes
block_line_of k bytes number count first second =
    ap (λ ds. codes "solve " ++ (ds ++ (codes " " ++ count))) (sym first)
    ∙ ap (λ ds. codes "solve " ++ (decimal k ++ (codes " " ++ ds))) (sym second)

twenty_five : decimal 25 ≡ codes "25"
twenty_five = decimal_step 25 (omega arith) (omega arith) ∙ ap (λ ds. ds ++ codes "5") (decimal_digit 2 (omega arith))

first_line : codes "solve 1 8" ≡ block_line 1 8
first_line = block_line_of 1 8 (codes "1") (codes "8") (decimal_digit 1 (omega arith)) (decimal_digit 8 (omega arith))

second_line : codes "solve 2 25" ≡ block_line 2 25
second_line = block_line_of 2 25 (codes "2") (codes "25") (decimal_digit 2 (omega arith)) twenty_five

pub answered : SpellsFormula copies_text copies → SpellsScript asking_text copies asking →
    AnswersSession copies_text asking_text (first_block ++ second_block)
answered spelled script_spelled = record {
  f = copies;
  commands = asking;
  spelled = spelled;
  script_spelled = script_spelled;
  blocks = (
    false_text,
    codes "solve 2 25" ++ 10 ∷ true_text,
    ap (λ own. own ++ 10 ∷ (false_text ++ (codes "solve 2 25" ++ 10 ∷ true_text))) first_line,
    inr (inl (([], refl), is_false)),
    (true_text, [], ap (λ own. own ++ 10 ∷ (true_text ++ [])) second_line, inl ((wire_text, refl), is_true, λ short. held), refl),
  );
}

-- ---- a block has some bytes

answer_long : (f : Formula) (text : List ℕ) → IsAnswer f text → 7 ≤ length text
answer_long f text (inl (begins, is, held)) = let long = ap length begins.1 in omega (arith, long)
answer_long f text (inr (inl (begins, is))) = let long = ap length begins.1 in omega (arith, long)
answer_long f text (inr (inr begins)) = let long = ap length begins.1 in omega (arith, long)

head_long : (others : List ℕ) → 6 ≤ length (codes "solve " ++ others)
head_long others = omega arith

blocks_long : (k : ℕ) (fs : List Formula) (text : List ℕ) → AreBlocks k fs text → 14 * length fs ≤ length text
blocks_long k [] text is = omega arith
blocks_long k (f ∷ fs) text (answer, others, is, right, more) =
    let whole = ap length is in
    let parts = length-append (block_line k (length answer)) (10 ∷ (answer ++ others)) in
    let both = length-append answer others in
    let head = head_long (decimal k ++ (codes " " ++ decimal (length answer))) in
    let own = answer_long f answer right in
    let rest = blocks_long (suc k) fs others more in
    omega (arith, whole, parts, both, head, own, rest)

-- so that both blocks are longer than the first
pub cut_off : SpellsFormula copies_text copies → SpellsScript asking_text copies asking →
    AnswersSession copies_text asking_text first_block → ⊥
cut_off spelled script_spelled is =
    let formula = one_formula copies_text is.f copies is.spelled spelled in
    let commands = one_script copies_text asking_text copies is.commands asking spelled
    (subst (λ f. SpellsScript asking_text f is.commands) formula is.script_spelled) script_spelled in
    let blocks : AreBlocks 1 (true_copies ∷ copies ∷ []) first_block =
    subst (λ f. AreBlocks 1 (formulas_asked f [] asking) first_block) formula
    (subst (λ cs. AreBlocks 1 (formulas_asked is.f [] cs) first_block) commands is.blocks) in
    let long = blocks_long 1 (true_copies ∷ copies ∷ []) first_block blocks in
    omega (arith, long)

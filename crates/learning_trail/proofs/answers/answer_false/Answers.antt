use Rattle.std.proofs.Common.{◌≡◌, ◌∷◌, ◌++◌, ◌==◌, ◌&&◌, not, [], length, sym, ap, ◌∙◌, true, List, ℕ, Some, arith}
use Rattle.dq_lits.specs.Literal.{Literal, variable_of, opposite}
use Rattle.dq_lits.specs.Derivation.{holds}
use Rattle.dq_lits.proofs.SignedLiterals.{opposite_variable}
use Rattle.oracle.specs.Fit.{live_in}
use Rattle.learning_trail.specs.Steps.{literals_of}
use Rattle.learning_trail.specs.Marks.{marked, stands_on}
use Rattle.learning_trail.specs.Noting.{Noted}
use Rattle.learning_trail.proofs.SoughtAnswers.{sought_markable, analysis_of_reason, below_sought, below_assumed, below_implied, below_id, below_reasoned}
use Rattle.learning_trail.proofs.answers.answer_false.Goals as goal

still_of : (steps : List Literal) (a not_a : Literal) → not_a ≡ opposite a → holds steps not_a ≡ true →
    holds steps (opposite a) ≡ true
still_of steps a not_a is h = ap (holds steps) (sym is) ∙ h

pub begin-requires-clause-from_one : goal.begin-requires-clause-from_one
begin-requires-clause-from_one g c =
    let back = c.back_to-step.ensures in
    let step = c.back_to-step.result in
    let a = c.args.assumption in
    let new = c.back_to-step.new.trail in
    (below_id c.args.assumptions.now (g.C.Clauses.clauses c.args.clauses.now) c.args.trail.now c.args.notes.now
    c.args.log.now c.requires.answering new step a back.shrunk
    (still_of (literals_of (step ∷ new.steps)) a c.not.result c.not.ensures back.still)
    (back.variable ∙ ap variable_of c.not.ensures ∙ opposite_variable a) c.requires.assumed
    c.in-Some.reason c.in-Some.is).from_one

pub begin-requires-clause-is_id : goal.begin-requires-clause-is_id
begin-requires-clause-is_id g c =
    let back = c.back_to-step.ensures in
    let step = c.back_to-step.result in
    let a = c.args.assumption in
    let new = c.back_to-step.new.trail in
    (below_id c.args.assumptions.now (g.C.Clauses.clauses c.args.clauses.now) c.args.trail.now c.args.notes.now
    c.args.log.now c.requires.answering new step a back.shrunk
    (still_of (literals_of (step ∷ new.steps)) a c.not.result c.not.ensures back.still)
    (back.variable ∙ ap variable_of c.not.ensures ∙ opposite_variable a) c.requires.assumed
    c.in-Some.reason c.in-Some.is).is_id

pub begin-requires-clause-within : goal.begin-requires-clause-within
begin-requires-clause-within g c = search (arith, sought_markable)

pub answer-requires-clause-answering : goal.answer-requires-clause-answering
answer-requires-clause-answering g c =
    let back = c.back_to-step.ensures in
    let step = c.back_to-step.result in
    let a = c.args.assumption in
    let new = c.back_to-step.new.trail in
    let marks : length c.add_literal.new.self.marks ≡ length c.args.notes.now.marks =
    ap (λ (n : Noted). length n.marks) c.in_ok-add_literal-in-Some.ensures.ok ∙ c.unmark.ensures.len ∙ c.begin.ensures.len in
    below_sought c.args.assumptions.now (g.C.Clauses.clauses c.args.clauses.now) c.args.trail.now c.args.notes.now
    c.args.log.now c.requires.answering new step a back.shrunk
    (still_of (literals_of (step ∷ new.steps)) a c.not.result c.not.ensures back.still)
    (back.variable ∙ ap variable_of c.not.ensures ∙ opposite_variable a) c.requires.assumed
    c.add_literal.new.self back.room marks

pub answer-requires-clause-assumed : goal.answer-requires-clause-assumed
answer-requires-clause-assumed g c =
    let back = c.back_to-step.ensures in
    let step = c.back_to-step.result in
    let a = c.args.assumption in
    let new = c.back_to-step.new.trail in
    below_assumed c.args.assumptions.now (g.C.Clauses.clauses c.args.clauses.now) c.args.trail.now c.args.notes.now
    c.args.log.now c.requires.answering new step a back.shrunk
    (still_of (literals_of (step ∷ new.steps)) a c.not.result c.not.ensures back.still)
    (back.variable ∙ ap variable_of c.not.ensures ∙ opposite_variable a) c.requires.assumed

pub answer-requires-clause-analysis : goal.answer-requires-clause-analysis
answer-requires-clause-analysis g c =
    let held = g.C.Clauses.clauses c.args.clauses.now in
    let back = c.back_to-step.ensures in
    let step = c.back_to-step.result in
    let a = c.args.assumption in
    let new = c.back_to-step.new.trail in
    let now = c.unmark.new.self in
    let noted = c.add_literal.new.self in
    let still = still_of (literals_of (step ∷ new.steps)) a c.not.result c.not.ensures back.still in
    let same = back.variable ∙ ap variable_of c.not.ensures ∙ opposite_variable a in
    let marks : length noted.marks ≡ length c.args.notes.now.marks =
    ap (λ (n : Noted). length n.marks) c.in_ok-add_literal-in-Some.ensures.ok ∙ c.unmark.ensures.len ∙ c.begin.ensures.len in
    let sought = below_sought c.args.assumptions.now held c.args.trail.now c.args.notes.now c.args.log.now
    c.requires.answering new step a back.shrunk still same c.requires.assumed noted back.room marks in
    let implied = below_implied c.args.assumptions.now held c.args.trail.now c.args.notes.now c.args.log.now
    c.requires.answering new step a back.shrunk still same c.requires.assumed c.in-Some.reason c.in-Some.is in
    let told : (k : List Literal) (v : ℕ) → live_in held c.in-Some.reason ≡ Some k →
    marked noted.marks v ≡ (not (variable_of a == v) && stands_on k v) = λ k v is.
    ap (λ (n : Noted). marked n.marks v) c.in_ok-add_literal-in-Some.ensures.ok ∙ c.unmark.ensures.marked v ∙ ap
    (λ b. not (variable_of a == v) && b) (c.in_ok-begin-in-Some.ensures.marked k v is) in
    let literals : noted.literals ≡ opposite a ∷ [] =
    ap (λ (n : Noted). n.literals) c.in_ok-add_literal-in-Some.ensures.ok ∙ ap (λ ls. ls ++ c.not-in-Some.result ∷ [])
    (c.unmark.ensures.literals ∙ c.begin.ensures.literals) ∙ ap (λ l. l ∷ []) c.not-in-Some.ensures in
    let hints : noted.hints ≡ c.in-Some.reason ∷ [] = ap (λ (n : Noted). n.hints) c.in_ok-add_literal-in-Some.ensures.ok
    ∙ c.unmark.ensures.hints ∙ c.in_ok-begin-in-Some.ensures.hints in
    analysis_of_reason c.args.assumptions.now held new noted c.args.log.now sought a c.in-Some.reason noted implied
    hints literals told

pub unreachable-requires : goal.unreachable-requires
unreachable-requires g c =
    let back = c.back_to-step.ensures in
    let step = c.back_to-step.result in
    let a = c.args.assumption in
    let new = c.back_to-step.new.trail in
    below_reasoned c.args.assumptions.now (g.C.Clauses.clauses c.args.clauses.now) c.args.trail.now c.args.notes.now
    c.args.log.now c.requires.answering new step a back.shrunk
    (still_of (literals_of (step ∷ new.steps)) a c.not.result c.not.ensures back.still)
    (back.variable ∙ ap variable_of c.not.ensures ∙ opposite_variable a) c.requires.assumed c.in-None.is

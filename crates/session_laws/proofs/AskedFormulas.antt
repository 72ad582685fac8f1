-- The formulas of a script's searches are those that the page's commands ask about.
use Rattle.std.proofs.Common.{◌≡◌, ℕ, ◌+◌, ◌-◌, List, [], ◌∷◌, ◌++◌, length, refl, sym, ◌∙◌, ap, subst, arith, append_assoc}
use Rattle.std.specs.List.{AllZip}
use Rattle.std.proofs.lemmas.List.{append-nil}
use Rattle.dq_lits.specs.Formula.{Dqbf, IsWellFormed}
use Rattle.dq_lits.specs.Literal.{Literal as ReadLiteral}
use Rattle.dq_formula.specs.Xor.{XorIsItsClauses}
use Rattle.dqdimacs_reader.specs.Building.{distinct}
use Rattle.script_text.specs.Commands.{ScriptCommand}
use Rattle.script_text.specs.Frames.{Frames, clauses_of, formula_in, formulas_from, formulas_of}
use Rattle.script_text.specs.Lawful.{AreAllowed, IsClauseFor}
use Rattle.headline.specs.Headline.{Formula}
use Rattle.headline.specs.Sessions.{Command, formulas_asked, with_clause}
use Rattle.headline_laws.specs.Formulas.{MeansTheSame}
use Rattle.headline_laws.proofs.Constraints.{page_literals}
use Rattle.session_laws.proofs.GrownFormulas.{AreDeclared, grown, grown_formed, with_read}
use Rattle.session_laws.proofs.ReadScripts.{IsSame, adds, pops, pushes, solves}

-- a formula to the reader, and what it is on the page
pub record Stands (m : Dqbf) (f : Formula) : Type 0 where
  pub means : MeansTheSame m f
  pub formed : IsWellFormed m

-- the formula of now, and those of the frames below it
abbrev IsStack : Dqbf → Frames → Formula → List Formula → Type 0
IsStack m [] f [] = Stands (formula_in m []) f
IsStack m [] f (last ∷ kept) = ⊥
IsStack m (newest ∷ older) f [] = ⊥
IsStack m (newest ∷ older) f (last ∷ kept) = Stands (formula_in m (newest ∷ older)) f × IsStack m older last kept

top_stands : (m : Dqbf) (frames : Frames) (f : Formula) (kept : List Formula) → IsStack m frames f kept →
    Stands (formula_in m frames) f
top_stands m [] f [] stack = stack
top_stands m [] f (last ∷ kept) stack = absurd stack
top_stands m (newest ∷ older) f [] stack = absurd stack
top_stands m (newest ∷ older) f (last ∷ kept) stack = stack.0

-- a new frame has no clause
opened : (m : Dqbf) (frames : Frames) → formula_in m ([] ∷ frames) ≡ formula_in m frames
opened m frames = ap (λ cs. record m { matrix = m.matrix ++ cs }) (append-nil (clauses_of frames))

-- a clause comes behind all others
added : (m : Dqbf) (newest : List (List ReadLiteral)) (older : Frames) (literals : List ReadLiteral) →
    with_read (formula_in m (newest ∷ older)) literals ≡ formula_in m ((newest ++ distinct literals ∷ []) ∷ older)
added m newest older literals =
    ap (λ cs. record m { matrix = cs })
    (append_assoc m.matrix (clauses_of older ++ newest) (distinct literals ∷ [])
    ∙ ap (λ cs. m.matrix ++ cs) (append_assoc (clauses_of older) newest (distinct literals ∷ [])))

module _ (exact : XorIsItsClauses) (m : Dqbf) where
  one_more : (frames : Frames) (f : Formula) (literals : List ReadLiteral) → AreDeclared m literals →
      IsClauseFor m (distinct literals) → Stands (formula_in m frames) f →
      Stands (with_read (formula_in m frames) literals) (with_clause f (page_literals literals))
  one_more frames f literals bound is one = record {
    means = grown exact (formula_in m frames) f one.means literals bound;
    formed = grown_formed (formula_in m frames) (distinct literals) one.formed is.bound;
  }

  formulas_same : (frames : Frames) (f : Formula) (kept : List Formula) (depth clauses : ℕ) (cs : List ScriptCommand)
      (ps : List Command) → depth ≡ length frames → IsStack m frames f kept → AllZip (IsSame m) cs ps →
      AreAllowed m depth clauses cs → AllZip Stands (formulas_from m frames cs) (formulas_asked f kept ps)
  formulas_same frames f kept depth clauses [] [] deep stack same allowed = tt
  formulas_same frames f kept depth clauses [] (p ∷ ps) deep stack same allowed = absurd same
  formulas_same frames f kept depth clauses (c ∷ cs) [] deep stack same allowed = absurd same
  formulas_same frames f kept depth clauses (c ∷ cs) (p ∷ ps) deep stack same allowed =
      by same.0 frames f kept deep stack allowed
      (λ frames f kept depth clauses deep stack. formulas_same frames f kept depth clauses cs ps deep stack same.1)
    where
      by : {d : ScriptCommand} {q : Command} → IsSame m d q → (frames : Frames) (f : Formula) (kept : List Formula) →
          depth ≡ length frames → IsStack m frames f kept → AreAllowed m depth clauses (d ∷ cs) →
          ((frames : Frames) (f : Formula) (kept : List Formula) (depth clauses : ℕ) → depth ≡ length frames →
          IsStack m frames f kept → AreAllowed m depth clauses cs →
          AllZip Stands (formulas_from m frames cs) (formulas_asked f kept ps)) →
          AllZip Stands (formulas_from m frames (d ∷ cs)) (formulas_asked f kept (q ∷ ps))
      by pushes frames f kept deep stack all rest =
          rest ([] ∷ frames) f (f ∷ kept) (depth + 1) clauses (omega (arith, deep))
          (subst (λ g. Stands g f) (sym (opened m frames)) (top_stands m frames f kept stack), stack) all.1
      by (adds literals bound) [] f kept deep stack all rest = absurd (omega (arith, deep, all.0.0))
      by (adds literals bound) (newest ∷ older) f [] deep stack all rest = absurd stack
      by (adds literals bound) (newest ∷ older) f (last ∷ kept) deep stack all rest =
          rest ((newest ++ distinct literals ∷ []) ∷ older) (with_clause f (page_literals literals)) (last ∷ kept) depth
          (clauses + 1) deep (
            subst (λ g. Stands g (with_clause f (page_literals literals))) (added m newest older literals)
                (one_more (newest ∷ older) f literals bound all.0.2 stack.0),
            stack.1,
          ) all.1
      by pops [] f kept deep stack all rest = absurd (omega (arith, deep, all.0))
      by pops (newest ∷ older) f [] deep stack all rest = absurd stack
      by pops (newest ∷ older) f (last ∷ kept) deep stack all rest =
          rest older last kept (depth - 1) clauses (omega (arith, deep)) stack.1 all.1
      by solves frames f kept deep stack all rest =
          (top_stands m frames f kept stack, rest frames f kept depth clauses deep stack all.1)

  pub asked_formulas : (f : Formula) (clauses : ℕ) (cs : List ScriptCommand) (ps : List Command) → Stands m f →
      AllZip (IsSame m) cs ps → AreAllowed m 0 clauses cs → AllZip Stands (formulas_of m cs) (formulas_asked f [] ps)
  asked_formulas f clauses cs ps one same allowed =
      formulas_same [] f [] 0 clauses cs ps refl
      (subst (λ g. Stands g f) (ap (λ ms. record m { matrix = ms }) (sym (append-nil m.matrix))) one) same allowed

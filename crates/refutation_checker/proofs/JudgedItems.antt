-- Items that are judged one after another.
use Rattle.std.proofs.Common.{◌≡◌, ℕ, ◌+◌, ◌<◌, ◌≤◌, Bool, true, false, not, cond, List, [], ◌∷◌, ◌++◌, map, drop, length, slice_get, Option, None, Some, is_none, is_some, inl, inr, ◌⊎◌, refl, sym, ◌∙◌, ap, ap₂, subst, arith}
use Rattle.std.specs.List.{All, AllByRecursion, filter}
use Rattle.std.proofs.lemmas.List.Elements.{All-from_recursion}
use Rattle.std.proofs.lemmas.Option.{slice_get_within, get_or_from_slice_get}
use Rattle.list_laws.proofs.Sequences.{all_later}
use Rattle.list_laws.proofs.Elements.{drop_at}
use Rattle.list_laws.proofs.Folds.{some_left}
use Rattle.cert_text.specs.Grammar.{IsItem, AreItems}
use Rattle.cert_text.specs.Numbering.{Numbering, behind_item, numbered_from}
use Rattle.cert_text.specs.Pairs.{is_pair_number}
use Rattle.cert_text.specs.Scan.{first_id}
use Rattle.cert_text.proofs.Numberings.{live_line, live_gone, live_ids, next_kept, none_live}
use Rattle.dq_lits.specs.Derivation.{LiveClauses, ProofFault, ProofStep, line_fault, is_empty}
use Rattle.dq_lits.specs.Expansion.{instance_at}
use Rattle.dq_lits.specs.Formula.{Dqbf}
use Rattle.dq_lits.specs.Literal.{Literal}
use Rattle.rup_core.specs.Items.{ProofItem, derived, gone, items_fault, is_among, without_clauses}
use Rattle.rup_core.specs.Proving.{ProofState, with_lines, without_lines}
use Rattle.rup_core.specs.Runs.{Run, advanced, fault_so_far, run_fault, start, unless_faulty, with_item, with_items, with_line}
use Rattle.rup_core.specs.Judging.{no_line}
use Rattle.rup_core.proofs.DeletedClauses.{going_is_fault}
use Rattle.rup_core.proofs.JudgedLines.{line_derives, live_put, gone_is_item}
use Rattle.refutation_checker.specs.Judging.{AreLines, AreNamed, AreBehind, IsHeld, IsJudged, normal_literals, is_line}
use Rattle.refutation_checker.specs.Namings.{Frame, Names}
use Rattle.refutation_checker.specs.PairNames.{AreNames, IsFrame, names_in}
use Rattle.refutation_checker.specs.Proving.{HasFaultOf, IsGoing, IsJudging, IsSettled, MayJudge, frame_of}
use Rattle.refutation_checker.specs.Refutation.{normal_item, normal_step}
use Rattle.refutation_checker.specs.declared.judging.Judging.{Judging}
use Rattle.refutation_checker.specs.declared.proving.RefutationProving.{RefutationProving}
use Rattle.refutation_checker.proofs.JudgedRefutations.{none_behind}

abbrev instances : Frame → LiveClauses
instances x = instance_at x.formula x.rows

-- ids are those of the lines
pub ids_above : (x : Frame) (n : Names) (lines others : List (ℕ × List Literal)) (id : ℕ) → AreLines x n lines others
    → AllByRecursion (λ line. line.0 < id) lines → AllByRecursion (λ line. line.0 < id) others
ids_above x n [] [] id are above = tt
ids_above x n [] (_ ∷ _) id are above = absurd are
ids_above x n (_ ∷ _) [] id are above = absurd are
ids_above x n (line ∷ lines) (other ∷ others) id are above =
    ((let same = are.0 in let lt = above.0 in omega (arith, same, lt)), ids_above x n lines others id are.2 above.1)

behind_more : (x : Frame) (lines : List (ℕ × List Literal)) (id : ℕ) (literals : List Literal) → AreBehind x lines →
    instance_at x.formula x.rows id ≡ None
    → AreBehind x (lines ++ (id, literals) ∷ [])
behind_more x [] id literals behind none = (none, tt)
behind_more x (line ∷ lines) id literals behind none = (behind.0, behind_more x lines id literals behind.1 none)

-- a line that is judged
fault_is : (o : Option ℕ) (b : Bool) → is_none o ≡ b → b ≡ true → o ≡ None
fault_is None b h e = refl
fault_is (Some p) b h e = cc

-- what an item is, at its place
pub item_there : (items : List ProofItem) (k : ℕ) (item : ProofItem) → slice_get items k ≡ Some item →
    drop k items ≡ item ∷ drop (k + 1) items
item_there items k item at =
    drop_at items k item (slice_get_within items k item at) ∙ ap (λ s. s ∷ drop (k + 1) items)
    (get_or_from_slice_get items k item item at)

empty_same : (x : Frame) (literals : List Literal) → is_empty (normal_literals x literals) ≡ is_empty literals
empty_same x [] = refl
empty_same x (l ∷ literals) = refl

-- lines that stay
abbrev stays_at : List ℕ → ℕ × List Literal → Bool
stays_at ids line = not (is_among ids line.0)

both_left : (x : Frame) (n : Names) (line other : ℕ × List Literal) (lines others : List (ℕ × List Literal))
    (b d : Bool) → other.0 ≡ line.0 → AreNamed x n line.1 other.1
    → AreLines x n lines others → d ≡ b → AreLines x n (cond b (line ∷ lines) lines) (cond d (other ∷ others) others)
both_left x n line other lines others true true id named rest same = (id, named, rest)
both_left x n line other lines others false false id named rest same = rest
both_left x n line other lines others true false id named rest same = cc
both_left x n line other lines others false true id named rest same = cc

lines_left : (x : Frame) (n : Names) (ids : List ℕ) (lines others : List (ℕ × List Literal)) → AreLines x n lines others
    → AreLines x n (filter (stays_at ids) lines) (filter (stays_at ids) others)
lines_left x n ids [] [] are = tt
lines_left x n ids [] (_ ∷ _) are = absurd are
lines_left x n ids (_ ∷ _) [] are = absurd are
lines_left x n ids (line ∷ lines) (other ∷ others) are =
    both_left x n line other (filter (stays_at ids) lines) (filter (stays_at ids) others) (stays_at ids line)
    (stays_at ids other)
    are.0 are.1 (lines_left x n ids lines others are.2) (ap (λ id. not (is_among ids id)) are.0)

-- the clauses without them
live_left : (live : LiveClauses) (lines : List (ℕ × List Literal)) (ids : List ℕ) → All (λ id. live id ≡ None) ids
    → with_lines live (filter (stays_at ids) lines) ≡ without_clauses (with_lines live lines) ids
live_left live lines ids free =
    ap (λ (r : Run). r.live) (gone_is_item live (record {
      finished = false;
      lines = lines;
      fault = None;
      marks = 0;
      line = no_line;
    }) ids free)

going_without : (fault : Option ℕ) (ids : List ℕ) (p : ProofState) → fault ≡ None →
    without_lines fault ids p ≡ record p { lines = filter (stays_at ids) p.lines }
going_without None ids p going = refl
going_without (Some _) ids p going = cc

-- the ids behind an item
next_behind : (first : ℕ) (at : Numbering) (item : ProofItem) → first ≤ at.next → first ≤ (behind_item at item).next
next_behind first at (derived step) le = omega (arith, le)
next_behind first at (gone ids) le = let same = next_kept at ids in omega (arith, le, same)

ids_behind : (first : ℕ) (at : Numbering) (item : ProofItem) → first ≤ at.next →
    ((id : ℕ) → at.live id ≡ true → first ≤ id) → (id : ℕ) → (behind_item at item).live id ≡ true → first ≤ id
ids_behind first at (derived step) le ids = live_line (λ id. first ≤ id) at le ids
ids_behind first at (gone deleted) le ids = live_gone (λ id. first ≤ id) at deleted ids

none_some : {A : Type 0} (id : ℕ) (o : Option ℕ) → o ≡ None → o ≡ Some id → A
none_some id o none some = search arith

settled_by : (o : Option ℕ) (run : Run) (step : ProofStep) → is_none o ≡ false →
    (with_line o run step).fault ≡ Some step.id
settled_by None run step h = cc
settled_by (Some place) run step h = refl

-- a line that was judged
module _ (x : Frame) (m : Names) (p q : ProofState) (step : ProofStep) (at : Numbering)
    (lines : List (ℕ × List Literal)) (run : Run) where
  abbrev nl : List Literal
  nl = normal_literals x step.literals

  abbrev nstep : ProofStep
  nstep = normal_step x.formula x.rows step

  abbrev live : LiveClauses
  live = with_lines (instances x) lines

  abbrev so_far : Run
  so_far = record { finished = p.finished; live = live; fault = None }

  line_runs : (b : Bool) → is_line x lines step.literals step.hints ≡ b → run ≡ so_far → AreBehind x lines →
      first_id x.formula (length x.rows) ≤ step.id → step.id ≡ at.next →
      AllByRecursion (λ line. line.0 < at.next) lines → IsJudged x m lines step.id step.literals q b →
      IsGoing x m q (at.next + 1) (with_item run (derived nstep)) ⊎ IsSettled q (with_item run (derived nstep))
  line_runs true is_derived is behind first id above judged =
      let fault : line_fault live nl step.hints ≡ None =
      fault_is (line_fault live nl step.hints) (is_line x lines step.literals step.hints)
      (line_derives live nl step.hints) is_derived in
      let below : AllByRecursion (λ line. line.0 < step.id) lines =
      subst (λ i. AllByRecursion (λ line. line.0 < i) lines) (sym id) above in
      inl (record {
        lines = lines ++ (step.id, nl) ∷ [];
        held = judged.0;
        behind = behind_more x lines step.id nl behind (none_behind x step.id first);
        above = subst (λ i. AllByRecursion (λ line. line.0 < i + 1) (lines ++ (step.id, nl) ∷ [])) id
            (all_later lines step.id nl below);
        run_is =
            ap (λ r. with_item r (derived nstep)) is
            ∙ ap (λ o. with_line o so_far nstep) fault
            ∙ ap₂ (λ f l. record { finished = f; live = l; fault = None })
            (empty_same x step.literals ∙ sym judged.1)
            (sym (live_put (instances x) lines step.id nl
            (All-from_recursion (λ line. line.0 < step.id) lines below)));
      })
  line_runs false underived_is is behind first id above judged = search (arith, settled_by, line_derives)

module _ (f : Dqbf) (rows : List (List Bool)) where
  abbrev is_pair : ℕ → Bool
  is_pair = is_pair_number f (length rows)

  abbrev first : ℕ
  first = first_id f (length rows)

  -- a line's id lies behind those of the instances and of the lines that are held
  pub line_from_one : (p : RefutationProving) (step : ProofStep) → MayJudge f rows p (derived step) → 1 ≤ step.id
  line_from_one p step may = search arith

  pub line_above : (p : RefutationProving) (step : ProofStep) → MayJudge f rows p (derived step) →
      p.judging.proving.fault ≡ None → All (λ line. line.0 < step.id) p.judging.proving.lines
  line_above p step may going = search (arith, All-from_recursion, ids_above, none_some)

  pub line_judging : (p : RefutationProving) (j : Judging) (step : ProofStep) → p.judging.proving.fault ≡ None →
      AreNames (frame_of f rows p) j.names →
      ((lines : List (ℕ × List Literal)) → IsHeld (frame_of f rows p)
      (names_in p.judging.names) lines p.judging.proving →
      AreBehind (frame_of f rows p) lines → IsJudged (frame_of f rows p) (names_in j.names) lines step.id step.literals
      j.proving (is_line (frame_of f rows p) lines step.literals step.hints)) →
      (at : Numbering) (run : Run) → IsJudging f rows p at run → IsItem is_pair at (derived step) →
      IsJudging f rows (record p { judging = j }) (behind_item at (derived step))
      (with_item run (normal_item f rows (derived step)))
  line_judging p j step going names judged at run judging lawful =
      let x = frame_of f rows p in
      let id = lawful.numbered in
      let le = judging.first in
      record {
        frame = judging.frame;
        names = names;
        first = next_behind first at (derived step) judging.first;
        ids = ids_behind first at (derived step) judging.first judging.ids;
        runs = elim judging.runs [
          | inl r ↦ line_runs x (names_in j.names) p.judging.proving j.proving step at r.lines run
              (is_line x r.lines step.literals step.hints) refl r.run_is r.behind (omega (arith, id, le)) id r.above
              (judged r.lines r.held r.behind)
          | inr settled ↦ none_some settled.id p.judging.proving.fault going settled.fault
        ];
      }

  -- ids that are deleted
  pub gone_judging : (p : RefutationProving) (q : ProofState) (ids : List ℕ) → p.judging.proving.fault ≡ None →
      q ≡ without_lines p.judging.proving.fault ids p.judging.proving →
      (at : Numbering) (run : Run) → IsJudging f rows p at run → IsItem is_pair at (gone ids) →
      IsJudging f rows (record p { judging = record p.judging { proving = q } }) (behind_item at (gone ids))
      (with_item run (normal_item f rows (gone ids)))
  gone_judging p q ids going q_is at run judging lawful =
      let x = frame_of f rows p in
      let n = names_in p.judging.names in
      let state = p.judging.proving in
      let free : All (λ id. instances x id ≡ None) ids =
      All-from_recursion (λ id. instances x id ≡ None) ids
      (live_ids (λ id. instances x id ≡ None) at ids (λ id h. none_behind x id (judging.ids id h)) lawful.live) in
      let left : q ≡ record state { lines = filter (stays_at ids) state.lines } =
      q_is ∙ going_without state.fault ids state going in
      record {
        frame = judging.frame;
        names = judging.names;
        first = next_behind first at (gone ids) judging.first;
        ids = ids_behind first at (gone ids) judging.first judging.ids;
        runs = elim judging.runs [
          | inl r ↦ subst (λ (s : ProofState). IsGoing x n s (behind_item at (gone ids)).next
              (with_item run (gone ids)) ⊎ IsSettled s (with_item run (gone ids))) (sym left) (inl (record {
                lines = filter (stays_at ids) r.lines;
                held = record {
                  lines_are = lines_left x n ids r.lines state.lines r.held.lines_are;
                  going = r.held.going;
                };
                behind = some_left (λ line. instances x line.0 ≡ None) (stays_at ids) r.lines r.behind;
                above = subst (λ next. AllByRecursion (λ line. line.0 < next) (filter (stays_at ids) r.lines))
                    (sym (next_kept at ids)) (some_left (λ line. line.0 < at.next) (stays_at ids) r.lines r.above);
                run_is = ap (λ r. with_item r (gone ids)) r.run_is
                    ∙ ap (λ l. record { finished = state.finished; live = l; fault = None })
                    (sym (live_left (instances x) r.lines ids free));
              }))
          | inr settled ↦ none_some settled.id state.fault going settled.fault
        ];
      }

  -- behind a line that isn't derived
  pub settled_judging : (p : RefutationProving) (item : ProofItem) → is_some p.judging.proving.fault ≡ true →
      (at : Numbering) (run : Run) → IsJudging f rows p at run →
      IsJudging f rows p (behind_item at item) (with_item run (normal_item f rows item))
  settled_judging p item faulty at run judging = record {
    frame = judging.frame;
    names = judging.names;
    first = next_behind first at item judging.first;
    ids = ids_behind first at item judging.first judging.ids;
    runs = search arith;
  }
    where
      apart : false ≡ true → ⊥
      apart h = cc

  -- what is wrong so far
  pub fault_says : (p : RefutationProving) (at : Numbering) (run : Run) → IsJudging f rows p at run →
      fault_so_far p.judging.proving.fault p.judging.proving.finished ≡ run_fault run
  fault_says p at run judging = search arith

  -- the first k items are judged, and with the others the fault is that of all
  pub record AreJudged (p : RefutationProving) (items : List ProofItem) (k : ℕ) : Type 0 where
    pub at : Numbering
    pub run : Run
    pub judging : IsJudging f rows p at run
    pub numbered : AreItems is_pair at (drop k items)
    pub left : run_fault (with_items run (map (normal_item f rows) (drop k items)))
        ≡ items_fault false (instance_at f rows) (map (normal_item f rows) items)

  pub none_judged : (p : RefutationProving) (items : List ProofItem) →
      IsJudging f rows p (numbered_from first) (start (instance_at f rows)) →
      AreItems is_pair (numbered_from first) items → AreJudged p items 0
  none_judged p items judging numbered = search (arith, going_is_fault)

  module _ (p : RefutationProving) (items : List ProofItem) (k : ℕ) (item : ProofItem)
      (there : slice_get items k ≡ Some item) (before : AreJudged p items k) where
    numbered : AreItems is_pair before.at (item ∷ drop (k + 1) items)
    numbered = subst (AreItems is_pair before.at) (item_there items k item there) before.numbered

    pub may_come : MayJudge f rows p item
    may_come = record { at = before.at; run = before.run; judging = before.judging; lawful = numbered.0 }

    pub one_judged : (q : RefutationProving) → ((at : Numbering) (run : Run) → IsJudging f rows p at run →
        IsItem is_pair at item → IsJudging f rows q (behind_item at item) (with_item run (normal_item f rows item))) →
        AreJudged q items (k + 1)
    one_judged q goes_on = search (arith, item_there)

  pub all_judged : (p : RefutationProving) (items : List ProofItem) (k : ℕ) → drop k items ≡ [] →
      AreJudged p items k → HasFaultOf f rows items p
  all_judged p items k none are = search arith

  stays : (id : ℕ) (run : Run) (items : List ProofItem) → run.fault ≡ Some id →
      run_fault (with_items run items) ≡ run_fault run
  stays id run [] faulty = refl
  stays id run (item ∷ items) faulty =
      ap (λ o. run_fault (with_items (unless_faulty o run (advanced run item)) items)) faulty
      ∙ stays id run items faulty

  pub settled : (p : RefutationProving) (items : List ProofItem) (k : ℕ) → is_some p.judging.proving.fault ≡ true →
      AreJudged p items k → HasFaultOf f rows items p
  settled p items k faulty are = record {
    at = are.at;
    run = are.run;
    judging = are.judging;
    same = elim are.judging.runs [
      | inl r ↦ absurd (apart (sym (ap is_some r.held.going) ∙ faulty))
      | inr s ↦ sym (stays s.id are.run (map (normal_item f rows) (drop k items)) s.run_fault) ∙ are.left
    ];
  }
    where
      apart : false ≡ true → ⊥
      apart h = cc

  -- the fault of all items
  pub has_fault : (p : RefutationProving) (items : List ProofItem) (fault : Option ProofFault) →
      HasFaultOf f rows items p →
      ((at : Numbering) (run : Run) → IsJudging f rows p at run → fault ≡ run_fault run) →
      fault ≡ items_fault false (instance_at f rows) (map (normal_item f rows) items)
  has_fault p items fault has says = says has.at has.run has.judging ∙ has.same

  -- nothing is judged yet
  pub none_yet : (p : RefutationProving) → IsFrame (frame_of f rows p) →
      AreNames (frame_of f rows p) p.judging.names → p.judging.proving.lines ≡ [] → p.judging.proving.fault ≡ None →
      p.judging.proving.finished ≡ false → IsJudging f rows p (numbered_from first) (start (instance_at f rows))
  none_yet p frame names none going open_end = record {
    frame = frame;
    names = names;
    first = omega arith;
    ids = none_live (λ id. first ≤ id) first;
    runs = inl (record {
      lines = [];
      held = record {
        lines_are = subst (AreLines (frame_of f rows p) (names_in p.judging.names) []) (sym none) tt;
        going = going;
      };
      behind = tt;
      above = tt;
      run_is = ap (λ b. record { finished = b; live = instance_at f rows; fault = None }) (sym open_end);
    });
  }

pub not_settled : (o : Option ℕ) → is_some o ≡ false → o ≡ None
not_settled None none = refl
not_settled (Some id) none = search arith

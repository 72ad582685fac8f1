-- Items that are judged as their lines come.
use Rattle.std.proofs.Common.{◌≡◌, ◌≤◌, Bool, List, length, Option, None, Some, Result, Ok, Err, refl, sym, ◌∙◌, ap, subst, arith}
use Rattle.std.specs.Prelude.{IfSome, IsSome, OnOk}
use Rattle.std.proofs.lemmas.Bool.{false≢true}
use Rattle.dq_lits.specs.Expansion.{instance_at}
use Rattle.dq_lits.specs.Formula.{Dqbf}
use Rattle.rup_core.specs.Items.{ProofItem}
use Rattle.rup_core.specs.Runs.{Run, start, with_item}
use Rattle.cert_text.specs.Grammar.{IsItem}
use Rattle.cert_text.specs.Header.{max_count}
use Rattle.cert_text.specs.Numbering.{Numbering, behind_item, numbered_from}
use Rattle.cert_text.specs.Pairs.{is_pair_number}
use Rattle.cert_text.specs.Scan.{first_id}
use Rattle.cert_stream.specs.KeptLines.{KeptLines, seen}
use Rattle.cert_stream.specs.RefutationLines.{IsBody, MayCome, RefutationBody, RefutationLines, behind_line, rows_so_far, with_item_read}
use Rattle.refutation_checker.specs.Proving.{AreRows, IsJudging, MayJudge}
use Rattle.refutation_checker.specs.Refutation.{normal_item}
use Rattle.refutation_checker.specs.declared.proving.RefutationProving.{RefutationProving}
use Rattle.cert_stream.specs.RefutationInside.{GoesOn, HasRun, IsBehindLine}
use Rattle.cert_stream.specs.RefutationState.{HasJudged, IsFresh, IsRunOf, StandsFor, run_behind}
use Rattle.cert_stream.proofs.JudgedLines.{may_be}
use Rattle.cert_stream.proofs.LineSteps.{LineStep, header_step, row_step, item_step, blank_step, step_of}

-- an item came behind what was read
pub record HasCome (r next : RefutationLines) (item : ProofItem) : Type 0 where
  pub body : RefutationBody
  pub there : r.body ≡ Some body
  pub next_is : next ≡ behind_line r (with_item_read body item)
  pub rows_left : body.rows_left ≡ 0
  pub count : length body.rows ≡ body.row_count
  pub few : AreRows r.formula body.rows
  pub lawful : IsItem (is_pair_number r.formula (length body.rows)) body.numbering item

come_by : (r : RefutationLines) (body : RefutationBody) (item : ProofItem) → r.body ≡ Some body →
    MayCome r.formula r.body item → IsBody r.formula (with_item_read body item).body →
    HasCome r (behind_line r (with_item_read body item)) item
come_by r body item there may is =
    let came = may_be body item there may in
    let whole = is.counted in
    let none = came.rows in
    let count : length body.rows ≡ body.row_count = omega (arith, whole, none) in
    record {
      body = body;
      there = there;
      next_is = refl;
      rows_left = came.rows;
      count = count;
      few = record { whole = is.whole; few = subst (λ n. n ≤ max_count) (sym count) is.few };
      lawful = subst (λ n. IsItem (is_pair_number r.formula n) body.numbering item) (sym count) came.lawful;
    }

pub come : (r next : RefutationLines) (item : ProofItem) → LineStep r next → next.item ≡ Some item →
    IfSome next.item (MayCome r.formula r.body) → IfSome next.body (IsBody r.formula) → HasCome r next item
come r next item (header_step counts none) is may lawful = cc
come r next item (row_step body row there more) is may lawful = cc
come r next item (blank_step body there) is may lawful = cc
come r next item (item_step body other there) is may lawful =
    let same : other ≡ item = cc in
    subst (λ i. HasCome r (behind_line r (with_item_read body other)) i) same (come_by r body other there may lawful)

pub came : (old : RefutationLines) (new : KeptLines) (item : ProofItem) → new.item ≡ Some item →
    IsBehindLine old new.item new → IfSome (seen new).body (IsBody new.formula) → old.formula ≡ new.formula →
    HasCome old (seen new) item
came old new item is behind lawful same =
    come old (seen new) item (step_of old (seen new) behind.text behind.read) is behind.may_come
    (subst (λ f. IfSome (seen new).body (IsBody f)) (sym same) lawful)

-- what judging an item ensures
abbrev pub Judges : Dqbf → List (List Bool) → RefutationProving → RefutationProving → ProofItem → Type 0
Judges f rows p q item = (at : Numbering) (run : Run) → IsJudging f rows p at run →
    IsItem (is_pair_number f (length rows)) at item →
    IsJudging f rows q (behind_item at item) (with_item run (normal_item f rows item))

item_run : (r next : RefutationLines) (item : ProofItem) (p q : RefutationProving) (run : Run) → HasCome r next item →
    Judges r.formula (rows_so_far next.body) p q item → IsRunOf r (Some p) (Some run) →
    IsRunOf next (Some q) (Some (with_item run (normal_item r.formula (rows_so_far next.body) item)))
item_run r next item p q run has judges is =
    let body = has.body in
    let made = behind_line r (with_item_read body item) in
    let judged : HasJudged r.formula body p run = subst (λ o. StandsFor r.formula o p run) has.there is in
    subst (λ (n : RefutationLines). Judges r.formula (rows_so_far n.body) p q item →
    IsRunOf n (Some q) (Some (with_item run (normal_item r.formula (rows_so_far n.body) item)))) (sym has.next_is)
    (λ j. record { rows = has.rows_left; judging = j body.numbering run judged.judging has.lawful }) judges

-- the first item finds no run
first_run : (r next : RefutationLines) (item : ProofItem) (q : RefutationProving) → HasCome r next item →
    IsJudging r.formula (rows_so_far next.body) q
    (behind_item (numbered_from (first_id r.formula (length (rows_so_far next.body)))) item)
    (with_item (start (instance_at r.formula (rows_so_far next.body)))
    (normal_item r.formula (rows_so_far next.body) item)) → IsFresh r.formula r.body →
    IsRunOf next (Some q) (Some (with_item (start (instance_at r.formula (rows_so_far next.body)))
    (normal_item r.formula (rows_so_far next.body) item)))
first_run r next item q has judging fresh =
    let f = r.formula in
    let body = has.body in
    let run = with_item (start (instance_at f body.rows)) (normal_item f body.rows item) in
    let is : body.numbering ≡ numbered_from (first_id f (length body.rows)) =
    subst (IsFresh f) has.there fresh ∙ ap (λ n. numbered_from (first_id f n)) (sym has.count) in
    subst (λ (n : RefutationLines). IsJudging f (rows_so_far n.body) q
    (behind_item (numbered_from (first_id f (length (rows_so_far n.body)))) item)
    (with_item (start (instance_at f (rows_so_far n.body))) (normal_item f (rows_so_far n.body) item)) →
    IsRunOf n (Some q)
    (Some (with_item (start (instance_at f (rows_so_far n.body))) (normal_item f (rows_so_far n.body) item))))
    (sym has.next_is)
    (λ j. record {
      rows = has.rows_left;
      judging = subst (λ (at : Numbering). IsJudging f body.rows q (behind_item at item) run) (sym is) j;
    }) judging

same_formula : (r next : RefutationLines) → LineStep r next → r.formula ≡ next.formula
same_formula r next (header_step counts none) = refl
same_formula r next (row_step body row there more) = refl
same_formula r next (item_step body item there) = refl
same_formula r next (blank_step body there) = refl

abbrev rows_in : KeptLines → List (List Bool)
rows_in new = rows_so_far (seen new).body

module _ (new : KeptLines) (item : ProofItem) (is : new.item ≡ Some item)
    (lawful : IfSome (seen new).body (IsBody new.formula)) where
  here : (old : RefutationLines) → IsBehindLine old new.item new → HasCome old (seen new) item
  here old behind =
      came old new item is behind lawful
      (same_formula old (seen new) (step_of old (seen new) behind.text behind.read))

  formula_is : (old : RefutationLines) → IsBehindLine old new.item new → old.formula ≡ new.formula
  formula_is old behind = same_formula old (seen new) (step_of old (seen new) behind.text behind.read)

  -- an item behind others
  pub item_goes_on : (p q : RefutationProving) → Judges new.formula (rows_in new) p q item →
      GoesOn new (Some p) (Some q)
  item_goes_on p q judges old None behind run_is = absurd run_is
  item_goes_on p q judges old (Some run) behind run_is =
      subst (λ i. IsRunOf (seen new) (Some q) (run_behind old.formula (rows_in new) (Some run) i)) (sym is)
      (item_run old (seen new) item p q run (here old behind)
      (subst (λ f. Judges f (rows_in new) p q item) (sym (formula_is old behind)) judges) run_is)

  pub item_may_come : (p : RefutationProving) → HasRun new (Some p) → MayJudge new.formula (rows_in new) p item
  item_may_come p has = by_run has.old has.behind has.run has.is_run
    where
      by_run : (old : RefutationLines) → IsBehindLine old new.item new → (run : Option Run) →
          IsRunOf old (Some p) run → MayJudge new.formula (rows_in new) p item
      by_run old behind None run_is = absurd run_is
      by_run old behind (Some run) run_is =
          let has = here old behind in
          let judged : HasJudged old.formula has.body p run =
          subst (λ o. StandsFor old.formula o p run) has.there run_is in
          subst (λ f. MayJudge f (rows_in new) p item) (formula_is old behind)
          (subst (λ (n : RefutationLines). MayJudge old.formula (rows_so_far n.body) p item) (sym has.next_is)
          (record { at = has.body.numbering; run = run; judging = judged.judging; lawful = has.lawful }))

  -- the first item
  pub first_rows : HasRun new None → AreRows new.formula (rows_in new)
  first_rows run =
      let has = here run.old run.behind in
      subst (λ f. AreRows f (rows_in new)) (formula_is run.old run.behind)
      (subst (λ (n : RefutationLines). AreRows run.old.formula (rows_so_far n.body)) (sym has.next_is) has.few)

  abbrev Fresh : Numbering
  Fresh = numbered_from (first_id new.formula (length (rows_in new)))

  pub first_lawful : HasRun new None → IsItem (is_pair_number new.formula (length (rows_in new))) Fresh item
  first_lawful run = by_run run.old run.behind run.run run.is_run
    where
      by_run : (old : RefutationLines) → IsBehindLine old new.item new → (run : Option Run) → IsRunOf old None run →
          IsItem (is_pair_number new.formula (length (rows_in new))) Fresh item
      by_run old behind (Some run) run_is = absurd run_is
      by_run old behind None fresh =
          let has = here old behind in
          let f = old.formula in
          let body = has.body in
          let is : body.numbering ≡ numbered_from (first_id f (length body.rows)) =
          subst (IsFresh f) has.there fresh ∙ ap (λ n. numbered_from (first_id f n)) (sym has.count) in
          let same : f ≡ new.formula = formula_is old behind in
          let rows : rows_in new ≡ body.rows = ap (λ (n : RefutationLines). rows_so_far n.body) has.next_is in
          subst (λ g. IsItem (is_pair_number g (length (rows_in new)))
          (numbered_from (first_id g (length (rows_in new)))) item) same
          (subst (λ rs. IsItem (is_pair_number f (length rs)) (numbered_from (first_id f (length rs))) item)
          (sym rows) (subst (λ (at : Numbering). IsItem (is_pair_number f (length body.rows)) at item) is has.lawful))

  pub first_goes_on : (q : RefutationProving) → IsJudging new.formula (rows_in new) q (behind_item Fresh item)
      (with_item (start (instance_at new.formula (rows_in new))) (normal_item new.formula (rows_in new) item)) →
      GoesOn new None (Some q)
  first_goes_on q judging old (Some run) behind run_is = absurd run_is
  first_goes_on q judging old None behind fresh =
      subst (λ i. IsRunOf (seen new) (Some q) (run_behind old.formula (rows_in new) None i)) (sym is)
      (first_run old (seen new) item q (here old behind)
      (subst (λ f. IsJudging f (rows_in new) q (behind_item (numbered_from (first_id f (length (rows_in new)))) item)
      (with_item (start (instance_at f (rows_in new))) (normal_item f (rows_in new) item)))
      (sym (formula_is old behind)) judging) fresh)

  module _ (f : Dqbf) (rows : List (List Bool)) (f_is : new.formula ≡ f) (rows_are : rows ≡ rows_in new) where
    moved : (P : Dqbf → List (List Bool) → Type 0) → P new.formula (rows_in new) → P f rows
    moved P holds = subst (λ rs. P f rs) (sym rows_are) (subst (λ g. P g (rows_in new)) f_is holds)

    back : (P : Dqbf → List (List Bool) → Type 0) → P f rows → P new.formula (rows_in new)
    back P holds = subst (λ g. P g (rows_in new)) (sym f_is) (subst (λ rs. P f rs) rows_are holds)

    pub may_item : (before : Option RefutationProving) (p : RefutationProving) → before ≡ Some p → HasRun new before →
        MayJudge f rows p item
    may_item before p there run = moved (λ g rs. MayJudge g rs p item) (item_may_come p (subst (HasRun new) there run))

    pub item_judged_on : {E : Type 0} (result : Result (Unit {0}) E) (before : Option RefutationProving)
        (p q : RefutationProving) → before ≡ Some p → OnOk result (Judges f rows p q item) →
        OnOk result (GoesOn new before (Some q))
    item_judged_on (Ok _) before p q there judges =
        subst (λ b. GoesOn new b (Some q)) (sym there)
        (item_goes_on p q (back (λ g rs. Judges g rs p q item) judges))
    item_judged_on (Err stop) before p q there judges = tt

    pub rows_for_first : (before : Option RefutationProving) → before ≡ None → HasRun new before → AreRows f rows
    rows_for_first before none run = moved AreRows (first_rows (subst (HasRun new) none run))

    pub lawful_first : (before : Option RefutationProving) → before ≡ None → HasRun new before →
        IsItem (is_pair_number f (length rows)) (numbered_from (first_id f (length rows))) item
    lawful_first before none run =
        moved (λ g rs. IsItem (is_pair_number g (length rs)) (numbered_from (first_id g (length rs))) item)
        (first_lawful (subst (HasRun new) none run))

    pub first_judged : (before : Option RefutationProving) (q : RefutationProving) → before ≡ None →
        IsJudging f rows q (behind_item (numbered_from (first_id f (length rows))) item)
        (with_item (start (instance_at f rows)) (normal_item f rows item)) → GoesOn new before (Some q)
    first_judged before q none judging =
        subst (λ b. GoesOn new b (Some q)) (sym none)
        (first_goes_on q (back (λ g rs. IsJudging g rs q
        (behind_item (numbered_from (first_id g (length rs))) item)
        (with_item (start (instance_at g rs)) (normal_item g rs item))) judging))

    -- the first item was judged, unless memory wanted
    pub first_put : {E : Type 0} (result : Result (Unit {0}) E) (before after : Option RefutationProving) → before ≡ None →
        OnOk result (IsSome after) → OnOk result (IfSome after (λ q. IsJudging f rows q
        (behind_item (numbered_from (first_id f (length rows))) item)
        (with_item (start (instance_at f rows)) (normal_item f rows item)))) → OnOk result (GoesOn new before after)
    first_put (Err stop) before after none some judging = tt
    first_put (Ok _) before None none some judging = absurd (false≢true some)
    first_put (Ok _) before (Some q) none some judging = first_judged before q none judging

-- What an answer reaches can be exported.
use Rattle.std.proofs.Common.{◌≡◌, ℕ, ◌*◌, ◌≤◌, Bool, map, List, [], ◌∷◌, length, get_or, None, Some, sym, ◌∙◌, ap, subst, arith}
use Rattle.std.specs.List.{All, Contains}
use Rattle.std.specs.Option.{option_map}
use Rattle.dq_lits.specs.Derivation.{ProofStep}
use Rattle.dq_lits.specs.Formula.{Dqbf, IsWellFormed}
use Rattle.dq_lits.specs.Literal.{Literal}
use Rattle.cert_text.specs.Header.{max_count}
use Rattle.hint_log.specs.declared.origins.Origin.{Origin}
use Rattle.hint_log.specs.declared.origins.Origin.TheVariants.{Instance}
use Rattle.hint_log.specs.Entries.{Entry, Given, Round, ProofLog, has_id, numbered, rounds_of, steps_of}
use Rattle.hint_log.specs.Growth.{Each}
use Rattle.cert_export.specs.Exportable.{IsKnownInstance, AreExportable, AreExported, AreExportedSteps, HaveRounds}
use Rattle.cert_export.specs.Exported.{IsPairNaming, IsPairRenaming, exported_steps, CanExportFalse}
use Rattle.cert_export.specs.Expansion.{row_of_round, used_rounds, used_rows, instance_id, IsKeptClause}
use Rattle.cert_export.specs.Lines.{line_number, line_steps, derived_ids}
use Rattle.cert_export.specs.Pairing.{HaveNames}
use Rattle.cert_export.specs.Renaming.{Renaming, IsInjective}
use Rattle.cert_export.specs.Written.{CanBeWritten}
use Rattle.std.proofs.lemmas.List.{length-map}
use Rattle.std.proofs.lemmas.List.Elements.{All-nil, All-push, Contains-get_or}
use Rattle.hint_log.specs.Conditions.{IsId, AreLogged}
use Rattle.hint_log.specs.Naming.{rows_of}
use Rattle.hint_log.specs.Reached.{Reaches, by_hint, AreReached}
use Rattle.cert_text.specs.Grammar.{AreItems, IsDqrOf}
use Rattle.cert_text.specs.Numbering.{numbered_from}
use Rattle.cert_text.proofs.StepsAlone.{steps_are_items}
use Rattle.rup_core.specs.Items.{derived}
use Rattle.cert_text.specs.Pairs.{is_pair_number}
use Rattle.cert_text.specs.Scan.{first_id}
use Rattle.cert_text.specs.declared.refutations.Dqr.{Dqr}
use Rattle.expansion.specs.Table.{IsRefutedBy}
use Rattle.refutation_checker.specs.Refutation.{normal_number, refutation_fault}
use Rattle.cert_export.proofs.AcceptedRefutations.{exported_answer_refutes, exported_lines_are_allowed}
use Rattle.cert_export.proofs.Instances.{rounds_are, own_given, known_given, round_below}
use Rattle.cert_export.proofs.RoundRows.{few_used, rows_stay, used_are_rounds}
use Rattle.cert_export.proofs.UsedRounds.{kept_clause, used_ascend}
use Rattle.cert_export.proofs.PairNames.{pairs_are_injective}
use Rattle.cert_export.proofs.ExportableCircuits.{derived_consistent}
use Rattle.cert_export.proofs.GivenNames.{given_of}

module _ (f : Dqbf) (live : List ℕ) (entries : List Entry) (ids : List ℕ) (e : AreExportable f live entries ids) where
  abbrev rounds : List ℕ
  rounds = used_rounds entries ids

  kept_here : (id : ℕ) (origin : Origin) (c : List Literal) → Contains ids id →
      numbered has_id entries id ≡ Some (Given origin c) → IsKeptClause f rounds live entries origin c
  kept_here id origin c inside at = kept_clause f live entries ids id origin c inside at (e.instances id origin c inside
      at)

  pub have_names : HaveNames f entries rounds ids
  have_names id origin c inside at = own_given f rounds live entries e.well_formed e.logged id origin c
      (kept_here id origin c inside at) at

  pub have_rounds : HaveRounds entries ids
  have_rounds = record {
    are_ids = e.are_ids;
    rounds = λ id k j inside is. let g = given_of entries id (Instance k j) is in
        round_below f live entries id k j g.0 (e.instances id (Instance k j) g.0 inside g.1) g.1;
  }

  pub few_kept : length rounds ≤ max_count
  few_kept =
      omega (arith, few_used entries ids, rounds_are entries, e.few_rounds)

  module _ (r : Renaming) (names : IsPairRenaming f entries ids r) where
    -- no two variables have one pair, and so no two have one number
    injective : IsInjective r
    injective v w x h k =
        let kept = used_rows entries ids in
        pairs_are_injective f e.well_formed entries rounds e.logged v w (normal_number f kept x)
        (names.names.right v (normal_number f kept x) (ap (option_map (normal_number f kept)) h))
        (names.names.right w (normal_number f kept x) (ap (option_map (normal_number f kept)) k))

    pub can_be_written : CanBeWritten r (IsKnownInstance rounds live) entries ids
    can_be_written = record {
      ascending = e.ascending;
      are_ids = e.are_ids;
      closed = e.closed;
      known = λ id origin c inside at. known_given f rounds live entries e.well_formed e.logged
          (used_ascend entries ids) e.numbers_ascend origin c (kept_here id origin c inside at);
      consistent = λ id inside is_lemma. derived_consistent entries r e.lemmas_are_derived injective id is_lemma;
    }

-- lines that are written so are exported
pub are_exported : (f : Dqbf) (live : List ℕ) (entries : List Entry) (ids rounds : List ℕ) (r : Renaming)
    (steps : List ProofStep) (clauses last : ℕ) → rounds ≡ used_rounds entries ids →
    IsPairNaming f entries rounds ids r → clauses ≡ length f.matrix →
    last ≡ length rounds * clauses →
    steps ≡ line_steps r (instance_id rounds live clauses) entries (line_number last (derived_ids entries ids))
    (derived_ids entries ids) → AreExportedSteps f live entries ids steps
are_exported f live entries ids rounds r steps clauses last used names clauses_is last_is written = search arith

-- an answer's id is one
pub refuted_id : (entries : List Entry) (id : ℕ) → IsRefutedBy entries id → IsId entries id
refuted_id entries id refuted = search arith

-- what an answer that rests on instances reaches can be exported
pub refuted_exportable : (f : Dqbf) (live : List ℕ) (log : ProofLog) (id : ℕ) (ids : List ℕ) → IsWellFormed f →
    length f.matrix ≤ 10000000 → CanExportFalse f live log.entries id → AreLogged log.entries →
    log.limit ≤ 1000000000 → {steps : ℕ} → steps ≤ log.limit → steps ≡ steps_of log.entries →
    ((es : List Entry) → rounds_of es ≤ steps_of es) →
    ((es : List Entry) (at i : ℕ) → AreLogged es → IsId es at → Reaches es at i → IsId es i) →
    AreReached log.entries id ids → AreExportable f live log.entries ids
refuted_exportable f live log id ids well few_clauses can logged limit within value rounds_are_steps
    reached_are_ids are =
    record {
      well_formed = well;
      few_clauses = few_clauses;
      few_rounds = omega (arith, rounds_are log.entries, limit, within, value, rounds_are_steps log.entries);
      logged = logged;
      lemmas_are_derived = can.lemmas_are_derived;
      ascending = are.ascending;
      are_ids = λ k d below. reached_are_ids log.entries id (get_or ids k d) logged
          (refuted_id log.entries id can.refuted) (are.sound (get_or ids k d) (Contains-get_or ids k d below));
      closed = λ at hint hints inside own among. are.complete hint
          (by_hint at hint hints (are.sound at inside) own among);
      numbers_ascend = can.numbers_ascend;
      one_each = can.one_each;
      instances = λ h origin c inside at. can.instances h origin c (are.sound h inside) at;
    }

-- each round has a whole row
pub rows_whole : (n : ℕ) (P : List Entry → Entry → Type 0) → ((es : List Entry) (row values : List Bool) (j : ℕ) →
    P es (Round row values j) → length row ≡ n) → (es : List Entry) → Each P es →
    All (λ row. length row ≡ n) (rows_of es)
rows_whole n P whole [] h = All-nil (λ row. length row ≡ n)
rows_whole n P whole (Round row values j ∷ es) h = search (arith, All-push, (rows_whole n P whole es h.1))
rows_whole n P whole (_ ∷ es) h = rows_whole n P whole es h.1

-- the checker finds no fault in the exported lines
pub exported_accepted : (f : Dqbf) (live : List ℕ) (entries : List Entry) (id : ℕ) (ids : List ℕ) (d : Dqr) →
    AreExportable f live entries ids → CanExportFalse f live entries id → AreReached entries id ids
    → AreExported f live entries ids d → refutation_fault f d ≡ None
exported_accepted f live entries id ids d e can are x =
    let exported = x.items.1 in
    let same : d ≡ record {
      rows = used_rows entries ids;
      items = map derived
          (exported_steps f live entries ids exported.0);
    } =
    ap (λ rs. record { rows = rs; items = d.items }) x.rows ∙ ap
    (λ xs. record { rows = used_rows entries ids; items = xs }) (x.items.2 ∙ ap (map derived) exported.2) in
    ap (refutation_fault f) same ∙ exported_answer_refutes f live entries id ids exported.0 e.well_formed e.logged
    can.instances e.lemmas_are_derived can.refuted are exported.1

-- and they are such as a text can hold
pub exported_spelled : (f : Dqbf) (live : List ℕ) (entries : List Entry) (id : ℕ) (ids : List ℕ) (d : Dqr) →
    AreExportable f live entries ids → CanExportFalse f live entries id → AreReached entries id ids
    → AreExported f live entries ids d → length d.items ≤ 1000000000 → IsDqrOf f d
exported_spelled f live entries id ids d e can are x few =
    let exported = x.items.1 in
    let kept = used_rows entries ids in
    let p : ℕ → Bool = is_pair_number f (length kept) in
    let first = first_id f (length kept) in
    let many = ap length x.rows in
    let as_many : length kept ≡ length (used_rounds entries ids) = length-map (used_rounds entries ids)
    (row_of_round entries) in
    let whole = rows_stay (λ row. length row ≡ length f.universals) entries (used_rounds entries ids)
    (used_are_rounds entries ids) can.whole_rows in
    record {
      few_rows = omega (arith, many, as_many, few_kept f live entries ids e);
      few_items = few;
      whole = subst (All (λ row. length row ≡ length f.universals)) (sym x.rows) whole;
      items = subst (λ n. AreItems (is_pair_number f n) (numbered_from (first_id f n)) d.items) (sym many)
          (subst (AreItems p (numbered_from first)) (sym (x.items.2 ∙ ap (map derived) exported.2))
          (steps_are_items p (numbered_from first) (exported_steps f live entries ids exported.0)
          (exported_lines_are_allowed f live entries id ids exported.0 e.well_formed e.logged can.instances can.refuted
          are exported.1)));
    }

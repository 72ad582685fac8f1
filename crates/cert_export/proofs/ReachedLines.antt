-- The derived clauses that an answer reaches are lines, and the last is empty.
use Rattle.std.proofs.Common.{◌≡◌, ℕ, zero, suc, ◌+◌, ◌≤◌, ◌<◌, ◌==◌, Bool, true, false, cond, ◌&&◌, ◌⊎◌, inl, inr, List, [], ◌∷◌, ◌++◌, length, get_or, Option, None, Some, refl, sym, ◌∙◌, ap, subst, arith, append_assoc}
use Rattle.std.specs.List.{AllPairs, Contains}
use Rattle.std.specs.Option.{option_and_then}
use Rattle.std.proofs.lemmas.Bool.{eqb-true, eq-eqb, and_parts, false≢true}
use Rattle.std.proofs.lemmas.List.Elements.{Contains-get_or}
use Rattle.std.proofs.lemmas.List.Kept.{AllPairs-from_increasing}
use Rattle.list_laws.proofs.Members.{contains_later}
use Rattle.dq_lits.specs.Literal.{Literal}
use Rattle.dq_lits.specs.Derivation.{is_empty}
use Rattle.hint_log.specs.Conditions.{IsId, MayFollow}
use Rattle.hint_log.specs.Entries.{has_id, count, last_id, numbered, hints_of, hints_at, Entry, Given, Learned, Answer}
use Rattle.hint_log.specs.Reached.{Reaches, itself, by_hint, AreReached}
use Rattle.hint_log.specs.declared.origins.Origin.{Origin}
use Rattle.cert_export.specs.Lines.{is_derived, derived_ids, line_clause}
use Rattle.cert_export.specs.LineOrder.{IsLine, AreLineNumbers, IsBaseId, IsHintable, IsNextLine, AreLines, AreFinished}
use Rattle.hint_log.specs.Growth.{Each}
use Rattle.cert_export.specs.Renaming.{Renaming}
use Rattle.log_laws.proofs.ReachedClauses.{numbered_kept}
use Rattle.log_laws.proofs.Found.{each_at}

-- where an id's entry stands
pub record IsEntryAt (es : List Entry) (id : ℕ) (e : Entry) : Type 0 where
  pub more : List Entry
  pub earlier : List Entry
  pub is : es ≡ more ++ e ∷ earlier
  pub number : id ≡ last_id earlier + 1
  pub has : has_id e ≡ true

pub entry_at : (es : List Entry) (id : ℕ) (e : Entry) → numbered has_id es id ≡ Some e → IsEntryAt es id e
entry_at [] id e h = cc
entry_at (x ∷ es) id e h = by_bit (entry_at es id e) (has_id x && (id == count has_id es + 1)) refl h where
  by_bit : (numbered has_id es id ≡ Some e → IsEntryAt es id e) → (b : Bool) →
      (has_id x && (id == count has_id es + 1)) ≡ b → cond b (Some x) (numbered has_id es id) ≡ Some e →
      IsEntryAt (x ∷ es) id e
  by_bit later true at h =
      let same : x ≡ e = cc in
      let parts = and_parts (has_id x) (id == count has_id es + 1) at in
      record {
        more = [];
        earlier = es;
        is = ap (λ y. y ∷ es) same;
        number = eqb-true id (count has_id es + 1) parts.1;
        has = ap has_id (sym same) ∙ parts.0;
      }
  by_bit later false at h = let r = later h in record {
    more = x ∷ r.more;
    earlier = r.earlier;
    is =
        ap (λ ys. x ∷ ys) r.is;
    number = r.number;
    has = r.has;
  }

hints_split : (o : Option Entry) (hints : List ℕ) → option_and_then (λ e. Some (hints_of e)) o ≡ Some hints →
    (e : Entry) × (o ≡ Some e) × (hints_of e ≡ hints)
hints_split None hints h = cc
hints_split (Some e) hints h = let same : hints_of e ≡ hints = cc in (e, refl, same)

none_in : {X : Type 0} (x : X) → Contains [] x → ⊥
none_in x (k, below, is) = omega arith

entry_hints : (earlier : List Entry) (e : Entry) (h : ℕ) → MayFollow earlier e → Contains (hints_of e) h →
    IsId earlier h
entry_hints earlier (Learned c hints) h lawful inside = lawful.1 h inside
entry_hints earlier (Answer c hints) h lawful inside = lawful.1 h inside
entry_hints earlier _ h lawful inside = absurd (none_in h inside)

-- hints are earlier ids
pub hints_below : (es : List Entry) → Each MayFollow es → (at h : ℕ) (hints : List ℕ) → hints_at es at ≡ Some hints →
    Contains hints h → (1 ≤ h) × (h < at)
hints_below es lawful at h hints is inside =
    let s = hints_split (numbered has_id es at) hints is in
    let p = entry_at es at s.0 s.1 in
    let own = each_at MayFollow p.more p.earlier s.0 (subst (Each MayFollow) p.is lawful) in
    let i = entry_hints p.earlier s.0 h own (subst (λ hs. Contains hs h) (sym s.2) inside) in
    let low = i.from_one in
    (low, omega (arith, i.last, p.number))

-- what is reached isn't later
pub reached_below : (es : List Entry) → Each MayFollow es → (id h : ℕ) → Reaches es id h → h ≤ id
reached_below es lawful id h itself = omega arith
reached_below es lawful id h (by_hint at _ hints rest is inside) = let b =
    hints_below es lawful at h hints is inside in omega (arith, reached_below es lawful id at rest, b.1)

-- an id in range has an entry
pub there_is : (es : List Entry) (h : ℕ) → 1 ≤ h → h ≤ last_id es → (e : Entry) × (numbered has_id es h ≡ Some e)
there_is [] h low high = absurd (omega arith)
there_is (x ∷ es) h low high = by_bit (has_id x) (there_is es h low) (h == count has_id es + 1) refl high where
  by_bit : (b : Bool) → (h ≤ last_id es → (e : Entry) × (numbered has_id es h ≡ Some e)) → (c : Bool) →
      (h == count has_id es + 1) ≡ c → h ≤ cond b (count has_id es + 1) (count has_id es) →
      (e : Entry) × (cond (b && c) (Some x) (numbered has_id es h) ≡ Some e)
  by_bit true later true at high = (x, refl)
  by_bit true later false at high = search (arith, eq-eqb)
  by_bit false later c at high = later high

-- hints have entries
pub hint_there : (es : List Entry) → Each MayFollow es → (at h : ℕ) (hints : List ℕ) → hints_at es at ≡ Some hints →
    Contains hints h → (e : Entry) × (numbered has_id es h ≡ Some e)
hint_there es lawful at h hints is inside =
    let s = hints_split (numbered has_id es at) hints is in
    let p = entry_at es at s.0 s.1 in
    let own = each_at MayFollow p.more p.earlier s.0 (subst (Each MayFollow) p.is lawful) in
    let i = entry_hints p.earlier s.0 h own (subst (λ hs. Contains hs h) (sym s.2) inside) in
    let t = there_is p.earlier h i.from_one i.last in
    let is' : es ≡ (p.more ++ s.0 ∷ []) ++ p.earlier = p.is ∙ sym (append_assoc p.more (s.0 ∷ []) p.earlier) in
    (t.0, ap (λ xs. numbered has_id xs h) is' ∙ numbered_kept (p.more ++ s.0 ∷ []) p.earlier h i.last ∙ t.1)

abbrev pub Rising : List ℕ → Type 0
Rising [] = Unit {0}
Rising (x ∷ xs) = ((k : ℕ) → Contains xs k → x < k) × Rising xs

pub rising_of : (xs : List ℕ) → AllPairs (λ x y. x < y) xs → Rising xs
rising_of [] h = tt
rising_of (x ∷ xs) h = (
  λ k inside. let b = inside.1 in let less = h 0 (suc inside.0) k (omega arith) (omega (arith, b)) in
      subst (λ z. x < z) inside.2 less,
  rising_of xs (λ i j d a b. h (suc i) (suc j) d (omega arith) (omega arith)),
)

module _ (usable : Origin → List Literal → Type 0) (entries : List Entry) (lawful : Each MayFollow entries) (id : ℕ)
    (number : ℕ → ℕ) (base : ℕ)
    (numbers : AreLineNumbers entries id base number)
    (right : (h : ℕ) (origin : Origin) (c : List Literal) → Reaches entries id h →
    numbered has_id entries h ≡ Some (Given origin c) → usable origin c) where
  abbrev Known : List ℕ → List ℕ → Type 0
  Known done rest = (h : ℕ) → Reaches entries id h → (e : Entry) → numbered has_id entries h ≡ Some e →
      IsHintable usable entries done h ⊎ Contains rest h

  abbrev Done : List ℕ → List ℕ → Type 0
  Done done rest = (h : ℕ) → Contains done h → IsLine entries id h × ((k : ℕ) → Contains rest k → h < k)

  abbrev AllReached : List ℕ → Type 0
  AllReached rest = (h : ℕ) → Contains rest h → Reaches entries id h

  -- the next line
  next_line : (done rest : List ℕ) (x : ℕ) (clause : List Literal) (hints : List ℕ) →
      ((k : ℕ) → Contains rest k → x < k) → Reaches entries id x →
      (numbered has_id entries x ≡ Some (Learned clause hints)) ⊎
      (numbered has_id entries x ≡ Some (Answer clause hints)) →
      hints_at entries x ≡ Some hints → is_derived (numbered has_id entries x) ≡ true → Known done (x ∷ rest) →
      Done done (x ∷ rest) → IsNextLine usable entries number base done x
  next_line done rest x clause hints above reached derived at line known finished = record {
    clause = clause;
    hints = hints;
    derived = derived;
    ready = λ k d below.
        let h = get_or hints k d in
        let inside = Contains-get_or hints k d below in
        let small = (hints_below entries lawful x h hints at inside).1 in
        let t = hint_there entries lawful x h hints at inside in
        elim (known h (by_hint x h hints reached at inside) t.0 t.1) [
          | inl hintable ↦ hintable
          | inr later ↦ absurd (not_later h small later)
        ];
    fresh = λ other inside same.
        let f = finished other inside in
        omega (arith, numbers.rising other x f.0 (reached, line) (f.1 x (0, omega arith, refl)), same);
    behind = numbers.behind x (reached, line);
  } where
    not_later : (h : ℕ) → h < x → Contains (x ∷ rest) h → ⊥
    not_later h small (zero, below, is) = omega (arith, small, is)
    not_later h small (suc k, below, is) = let more = above h (k, (let b : k < length rest = omega arith in b), is) in
        omega (arith, small, more)

  walk : (rest done : List ℕ) → Rising rest → AllReached rest → Known done rest → Done done rest →
      AreLines usable entries number base done (derived_ids entries rest)
  walk [] done rising reached known finished = tt
  walk (x ∷ rest) done rising reached known finished =
      by_entry (λ d k f. walk rest d rising.1 (λ h inside. reached h (contains_later x h rest inside)) k f)
      (numbered has_id entries x) refl where
        here : Reaches entries id x
        here = reached x (0, omega arith, refl)

        past : Done done rest
        past h inside = let f = finished h inside in (f.0, λ k i. f.1 k (contains_later x k rest i))

        -- with x as a line
        known_line : Known (x ∷ done) rest
        known_line h r e at = search (arith, contains_later)

        done_line : is_derived (numbered has_id entries x) ≡ true → Done (x ∷ done) rest
        done_line line h (zero, below, is) = subst (λ y. IsLine entries id y × ((k : ℕ) → Contains rest k → y < k)) is
            ((here, line), rising.0)
        done_line line h (suc k, below, is) = past h (k, (let b : k < length done = omega arith in b), is)

        -- with x as no line
        known_base : ((e : Entry) → numbered has_id entries x ≡ Some e → IsBaseId usable entries x) → Known done rest
        known_base given h r e at = elim (known h r e at) [
          | inl hintable ↦ inl hintable
          | inr later ↦ by_place later
        ] where
          by_place : Contains (x ∷ rest) h → IsHintable usable entries done h ⊎ Contains rest h
          by_place (zero, below, is) = inl (inl (subst (IsBaseId usable entries) is
              (given e (ap (numbered has_id entries) is ∙ at))))
          by_place (suc k, below, is) = inr (k, (let b : k < length rest = omega arith in b), is)

        by_entry : ((d : List ℕ) → Known d rest → Done d rest →
            AreLines usable entries number base d (derived_ids entries rest)) → (o : Option Entry) →
            numbered has_id entries x ≡ o →
            AreLines usable entries number base done (cond (is_derived o) (x ∷ derived_ids entries rest)
            (derived_ids entries rest))
        by_entry later None at = later done (known_base (λ e is. let both : None ≡ Some e = sym at ∙ is in cc)) past
        by_entry later (Some (Given origin c)) at = later done
            (known_base (λ e is. (origin, c, at, right x origin c here at))) past
        by_entry later (Some (Learned c hints)) at =
            let line = ap is_derived at in (
              next_line done rest x c hints rising.0 here (inl at)
                  (ap (option_and_then (λ e. Some (hints_of e))) at) line known finished,
              later (x ∷ done) known_line (done_line line),
            )
        by_entry later (Some (Answer c hints)) at =
            let line = ap is_derived at in (
              next_line done rest x c hints rising.0 here (inr at)
                  (ap (option_and_then (λ e. Some (hints_of e))) at) line known finished,
              later (x ∷ done) known_line (done_line line),
            )
        by_entry later (Some e) at = absurd (false≢true (entry_at entries x e at).has)

  pub are_lines : (ids : List ℕ) → AreReached entries id ids →
      AreLines usable entries number base [] (derived_ids entries ids)
  are_lines ids are = walk ids [] (rising_of ids (AllPairs-from_increasing ids are.ascending)) are.sound
      (λ h r e at. inr (are.complete h r)) (λ h inside. absurd (none_in h inside))

  -- the last line is the answer's
  finish : (r : Renaming) → is_derived (numbered has_id entries id) ≡ true →
      is_empty (line_clause r entries id) ≡ true → (rest : List ℕ) → Rising rest →
      ((h : ℕ) → Contains rest h → h ≤ id) → Contains rest id →
      (finished : Bool) → AreFinished r entries finished (derived_ids entries rest)
  finish r line empty [] rising low inside finished = absurd (none_in id inside)
  finish r line empty (x ∷ []) rising low (zero, below, is) finished =
      subst (λ b. AreFinished r entries finished (cond b (x ∷ []) []))
      (sym (ap (λ n. is_derived (numbered has_id entries n)) is ∙ line))
      (ap (λ n. is_empty (line_clause r entries n)) is ∙ empty)
  finish r line empty (x ∷ y ∷ rest) rising low (zero, below, is) finished =
      absurd (omega (arith, rising.0 y (0, omega arith, refl), low y (1, omega arith, refl), is))
  finish r line empty (x ∷ rest) rising low (suc k, below, is) finished =
      by_bit (is_derived (numbered has_id entries x)) (finish r line empty rest rising.1
      (λ h i. low h (contains_later x h rest i)) (k, (let b : k < length rest = omega arith in b), is)) where
        by_bit : (b : Bool) → ((d : Bool) → AreFinished r entries d (derived_ids entries rest)) →
            AreFinished r entries finished (cond b (x ∷ derived_ids entries rest) (derived_ids entries rest))
        by_bit true later = later (is_empty (line_clause r entries x))
        by_bit false later = later finished

  pub are_finished : (r : Renaming) (ids : List ℕ) → AreReached entries id ids →
      is_derived (numbered has_id entries id) ≡ true → is_empty (line_clause r entries id) ≡ true →
      AreFinished r entries false (derived_ids entries ids)
  are_finished r ids are line empty =
      finish r line empty ids (rising_of ids (AllPairs-from_increasing ids are.ascending))
      (λ h inside. reached_below entries lawful id h (are.sound h inside)) (are.complete id itself) false

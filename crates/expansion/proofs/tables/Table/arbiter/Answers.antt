use Rattle.std.proofs.Common.{rules, refl, ◌≡◌, ◌+◌, ◌<◌, ◌≤◌, None, [], length, get_or, ◌∙◌, ap, subst, arith}
use Rattle.std.proofs.lemmas.Option.{slice_get-get_or}
use Rattle.hint_log.specs.Entries.{Named, with_entry, name_of}
use Rattle.hint_log.specs.declared.names.Name.TheVariants.{Pair}
use Rattle.expansion.specs.Table.{TableState}
use Rattle.expansion.specs.Adding.{IsNamedNext}
use Rattle.expansion.proofs.NamedArbiters.{old_pairs_many, no_pair_yet, found_next, named_next, found_at, both_ok}
use Rattle.expansion.proofs.tables.Table.arbiter.Goals as goal

pub bounds-get-place : goal.bounds-get-place
bounds-get-place g c =
    let t = c.args.self.now in
    let f = c.requires.adding.0 in
    let same : c.self.inside.pairs ≡ t.pairs = ap (λ (s : TableState). s.pairs) c.self.view_is in
    let old : c.args.first < length t.pairs = subst (λ ps. c.args.first < length ps) same
    (subst (λ n. c.args.first < n) c.len.ensures c.if-first-len.true) in
    let pairs : c.get.result.now ≡ get_or t.pairs c.args.first [] =
    c.get.ensures ∙ ap (λ ps. get_or ps c.args.first []) same in
    let many = ap length pairs ∙ old_pairs_many f t c.requires.adding.1 c.args.place c.args.log.now.entries
    c.requires.adding.3 c.args.first old in
    let below = c.requires.place in
    omega (arith, many, below)

pub offset_bounds-get-place : goal.offset_bounds-get-place
offset_bounds-get-place g c =
    let t = c.args.self.now in
    let f = c.requires.adding.0 in
    let same : c.self.inside.pairs ≡ t.pairs = ap (λ (s : TableState). s.pairs) c.self.view_is in
    let old : c.args.first < length t.pairs = subst (λ ps. c.args.first < length ps) same
    (subst (λ n. c.args.first < n) c.len.ensures c.if-first-len.true) in
    let pairs : c.get.result.now ≡ get_or t.pairs c.args.first [] =
    c.get.ensures ∙ ap (λ ps. get_or ps c.args.first []) same in
    let many = ap length pairs ∙ old_pairs_many f t c.requires.adding.1 c.args.place c.args.log.now.entries
    c.requires.adding.3 c.args.first old in
    let place = c.requires.place in
    let below : c.args.place < length c.get.result.now = omega (arith, many, place) in
    let small = c.get.type_inv.1 in
    search rules

pub returns-then-first-len-clause-named : goal.returns-then-first-len-clause-named
returns-then-first-len-clause-named g c f row formula adding first_is =
    let t = c.args.self.now in
    let same : c.self.inside.pairs ≡ t.pairs = ap (λ (s : TableState). s.pairs) c.self.view_is in
    let old : c.args.first < length t.pairs = subst (λ ps. c.args.first < length ps) same
    (subst (λ n. c.args.first < n) c.len.ensures c.if-first-len.true) in
    let pairs : c.get.result.now ≡ get_or t.pairs c.args.first [] =
    c.get.ensures ∙ ap (λ ps. get_or ps c.args.first []) same in
    found_next f t row c.args.place c.args.first c.args.log.now formula adding first_is c.requires.place
    (get_or c.get.result.now c.args.place 0) c.args.log.now old
    (ap (λ vs. get_or vs c.args.place 0) pairs) refl

pub new_var-requires-clause-fresh : goal.new_var-requires-clause-fresh
new_var-requires-clause-fresh g c v named = search (arith, found_at, no_pair_yet, slice_get-get_or)

pub returns-clause-named : goal.returns-clause-named
returns-clause-named g c f row formula adding first_is =
    let t = c.args.self.now in
    let log = c.args.log.now in
    let same : c.self.inside.pairs ≡ t.pairs = ap (λ (s : TableState). s.pairs) c.self.view_is in
    let none : length t.pairs ≤ c.args.first = subst (λ ps. length ps ≤ c.args.first) same
    (subst (λ n. n ≤ c.args.first) c.len.ensures c.if-first-len.false) in
    let y_is : c.index.result.now ≡ get_or t.existentials c.args.place 0 =
    found_at c.self.inside.existentials.items t.existentials c.args.place c.index.result.now
    (ap (λ (s : TableState). s.existentials) c.self.view_is) c.requires.place c.index.ensures in
    let name = ap (λ k. Pair k c.index.result.now) c.next_round.ensures ∙ ap (λ y. Pair (length t.rows + 1) y) y_is in
    both_ok (λ v. name_of log.entries v ≡ None) (λ v. c.new_var.new.log ≡ with_entry log
    (Named v (Pair c.next_round.result c.index.result.now)))
    (λ v. IsNamedNext f t row c.args.place v log c.new_var.new.log)
    c.new_var.result
    (λ v unnamed added.
    named_next f t row c.args.place c.args.first log formula adding first_is c.requires.place v c.new_var.new.log none
    (g.met.O.Oracle.searched c.args.oracle.now log c.requires.fit).logged unnamed
    (added ∙ ap (λ n. with_entry log (Named v n)) name))
    c.new_var.ensures.unnamed c.new_var.ensures.ok

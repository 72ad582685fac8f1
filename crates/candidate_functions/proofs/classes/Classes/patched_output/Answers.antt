use Rattle.std.proofs.Common.{◌≡◌, Some, length, set, sym, ◌∙◌, ap, subst, Contains, All, arith}
use Rattle.std.proofs.lemmas.Result.{IfOk-weaker}
use Rattle.std.proofs.lemmas.List.Elements.{All-weaker}
use Rattle.dq_lits.specs.Formula.{Existential}
use Rattle.aig_graph.proofs.LargerGraphs.{grown_twice}
use Rattle.definition_order.proofs.Declared.{is_variable, some_existential}
use Rattle.expansion.specs.Table.{point_bits}
use Rattle.candidate_functions.specs.Pairs.{AreRounds, IsClass, IsPlacedClass, universal_places, IsPatched, IsCandidate}
use Rattle.candidate_functions.specs.Differing.{ArePatches}
use Rattle.candidate_functions.proofs.DependencyClasses.{places_below, places_told, placed_there, class_put}
use Rattle.candidate_functions.proofs.LargerGraphs.{placed_stays}
use Rattle.candidate_functions.proofs.PatchedPairs.{pair_rounds_within, pair_cubes}
use Rattle.candidate_functions.proofs.UndefinedOutputs.{undefined_is_candidate, on_ok}
use Rattle.candidate_functions.proofs.classes.Classes.patched_output.Goals as goal

pub pairs_to_patch-requires-clause-existential : goal.pairs_to_patch-requires-clause-existential
pairs_to_patch-requires-clause-existential c = subst (λ vs. Contains vs c.args.own.now.y) (sym c.requires.variables)
    (is_variable c.args.known.now.f.now c.args.own.now.y c.requires.declared)

pub patched-requires-clause-existential : goal.patched-requires-clause-existential
patched-requires-clause-existential c = subst (λ vs. Contains vs c.args.own.now.y) (sym c.requires.variables)
    (is_variable c.args.known.now.f.now c.args.own.now.y c.requires.declared)

pub pairs_to_patch-requires-clause-whole : goal.pairs_to_patch-requires-clause-whole
pairs_to_patch-requires-clause-whole c = search (arith, places_told, places_below, All-weaker)

pub pairs_to_patch-requires-clause-places : goal.pairs_to_patch-requires-clause-places
pairs_to_patch-requires-clause-places c = search (arith, places_told, places_below, All-weaker)

pub pairs_to_patch-requires-clause-class : goal.pairs_to_patch-requires-clause-class
pairs_to_patch-requires-clause-class c =
    let f = c.args.known.now.f.now in
    let v = c.args.own.now.y in
    let places = c.in_ok-places.places.items in
    let told = places_told f v places c.in_ok-places.ensures.places in
    let rows = c.args.known.now.table.now.rows in
    subst (λ ps. IsPlacedClass rows c.args.graph.now ps c.index_mut-class.result.now) (sym c.deref.ensures.value)
    (placed_there f rows c.args.graph.now c.args.self.now.classes.items c.args.place v c.index_mut-class.result.now
    places c.requires.place c.index_mut-class.ensures.value c.requires.declared told)

pub patched-requires-clause-rounds : goal.patched-requires-clause-rounds
patched-requires-clause-rounds c =
    let rows = c.args.known.now.table.now.rows in
    let each = c.in_ok-pairs.ensures.pairs.each in
    subst (AreRounds (length c.args.known.now.points.now.rows)) (sym c.deref-2.ensures.value)
    (subst (λ n. AreRounds n c.in_ok-pairs.pairs.items) (sym c.requires.as_many)
    (pair_rounds_within rows c.pairs_to_patch.new.graph c.deref.result.now c.in_ok-pairs.pairs.items each))

pub patched-requires-clause-cubes : goal.patched-requires-clause-cubes
patched-requires-clause-cubes c = search (arith, pair_cubes)

pub returns-clause-extends : goal.returns-clause-extends
returns-clause-extends c = search (arith, grown_twice)

pub returns-clause-classes : goal.returns-clause-classes
returns-clause-classes c =
    let f = c.args.known.now.f.now in
    let v = c.args.own.now.y in
    let places = c.in_ok-places.places.items in
    let told = places_told f v places c.in_ok-places.ensures.places in
    let rows = c.args.known.now.table.now.rows in
    let old = c.args.graph.now in
    let mid = c.pairs_to_patch.new.graph in
    let new = c.patched.new.graph in
    let class = c.pairs_to_patch.new.self in
    let after = set c.args.self.now.classes.items c.args.place class in
    let grown = grown_twice old mid new c.in_ok-pairs.ensures.extends c.patched.ensures.extends in
    on_ok c.patched.result (All (IsClass f rows new) after) (some_existential f v
    (All (IsClass f rows new) after) c.requires.declared (λ e found.
    class_put f rows old new c.args.self.now.classes.items c.args.place v class e grown c.requires.classes
    c.requires.place found c.index_mut-class.result.now c.index_mut-class.ensures.value c.pairs_to_patch.ensures.y
    (subst (λ ps. IsPlacedClass rows new ps class) (c.deref.ensures.value ∙ told e found)
    (placed_stays mid new c.patched.ensures.extends rows c.deref.result.now class c.in_ok-pairs.ensures.class))))

pub returns-clause-output : goal.returns-clause-output
returns-clause-output c = λ rules e found by.
    let f = c.args.known.now.f.now in
    let v = c.args.own.now.y in
    let places = c.in_ok-places.places.items in
    let told = places_told f v places c.in_ok-places.ensures.places in
    let rows = c.args.known.now.table.now.rows in
    let points = point_bits c.args.known.now.points.now in
    let old = c.args.graph.now in
    let mid = c.pairs_to_patch.new.graph in
    let new = c.patched.new.graph in
    let own = c.args.own.now in
    let before = c.index_mut-class.result.now in
    let are = c.deref.ensures.value ∙ told e found in
    let placed = placed_there f rows old c.args.self.now.classes.items c.args.place v before
    (universal_places f e.sees) c.requires.place c.index_mut-class.ensures.value c.requires.declared
    (λ d known. let one : Some e ≡ Some d = sym found ∙ known in let same : e ≡ d = cc in
    ap (λ (z : Existential). universal_places f z.sees) same) in
    let patches = subst (λ ps. ArePatches rows own.values.now points mid ps own.y own.place before.rounds.items
    c.in_ok-pairs.pairs.items) are c.in_ok-pairs.ensures.pairs in
    IfOk-weaker c.patched.result (IsPatched mid new points own.y c.deref-2.result.now own.node)
    (IsCandidate f rows points rules new e)
    (λ n patched. undefined_is_candidate f c.every_formula_is_lawful.ensures rows points c.requires.whole
    c.requires.points rules own.y own.place e found old mid new c.in_ok-pairs.ensures.extends
    before.rounds.items placed.rounds c.in_ok-pairs.pairs.items own.values.now own.node n by c.requires.known patches
    (subst (λ ps. IsPatched mid new points own.y ps own.node n) c.deref-2.ensures.value patched))
    c.patched.ensures.patched

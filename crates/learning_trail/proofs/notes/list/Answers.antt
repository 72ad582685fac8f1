use Rattle.std.proofs.Common.{rules, ◌≡◌, ◌<◌, subst, length, get_or}
use Rattle.std.proofs.lemmas.List.{get_or_default}
use Rattle.learning_trail.proofs.ListedPlaces.{AreListed, listed_all, listed_next}
use Rattle.learning_trail.proofs.notes.list.Goals as goal

pub loop-v-preserved : goal.loop-v-preserved
loop-v-preserved c =
    let touched = c.args.touched.now in
    let i = c.loop-v.v-index in
    let lt : i < length touched = search rules in
    record {
      listed = listed_next c.args.trail.now.steps c.args.marks.now touched c.loop-v.places.items
          c.list_one.new.places.items i (get_or touched i 0) lt
          (get_or_default touched i (get_or touched i 0) 0 lt) c.list_one.ensures.kept c.in_ok-list_one.ensures.listed
          c.loop-v.invariant.listed;
    }

pub returns : goal.returns
returns c =
    let end : c.loop-v.v-index ≡ length c.args.touched.now = search rules in
    listed_all c.args.trail.now.steps c.args.marks.now c.args.touched.now c.loop-v.places.items c.requires
    (subst (AreListed c.args.trail.now.steps c.args.marks.now c.args.touched.now c.loop-v.places.items) end
    c.loop-v.invariant.listed)

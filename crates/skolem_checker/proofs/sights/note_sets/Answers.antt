use Rattle.std.proofs.Common.{inl, inr, ◌∙◌, arith}
use Rattle.std.proofs.lemmas.Bool.{cases_eq}
use Rattle.skolem_checker.proofs.SightsLaws.{told_at, set_told, noted_along}
use Rattle.skolem_checker.proofs.sights.note_sets.Goals as goal

pub loop-i-preserved : goal.loop-i-preserved
loop-i-preserved c =
    let f = c.args.f.now in
    let listed = c.note_set.new.listed in
    let stops = c.note_set.new.stops in
    record {
      listed_length = c.note_set.ensures.listed_length ∙ c.loop-i.invariant.listed_length;
      stops_length = c.note_set.ensures.stops_length ∙ c.loop-i.invariant.stops_length;
      noted = λ j e lt at.
          elim (cases_eq j c.loop-i.i) [
            | inl same ↦ search (arith, told_at, set_told)
            | inr other ↦
                let stays = c.note_set.ensures.others j other in
                noted_along f c.loop-i.listed c.loop-i.stops listed stops j e.sees stays.0 stays.1
                (c.loop-i.invariant.noted j e (omega (arith, lt, other)) at)
          ];
      unnoted = λ j above.
          let stays = c.note_set.ensures.others j (λ same. omega (arith, above, same)) in
          let before = c.loop-i.invariant.unnoted j (omega (arith, above)) in
          (λ q. stays.0 q ∙ before.0 q, λ q. stays.1 q ∙ before.1 q);
    }

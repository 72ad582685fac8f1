use Rattle.std.proofs.Common.{length, replicate, ◌∙◌, ap, arith, List, ℕ}
use Rattle.list_laws.proofs.Results.{on_ok}
use Rattle.definability.specs.Store.{store_of}
use Rattle.definability.specs.declared.definability.Definability.{Definability}
use Rattle.definability.proofs.FirstStores.{after_copies}
use Rattle.definability.proofs.StoreSteps.{following_then, standing_on}
use Rattle.definability.proofs.definability.Definability.give_file.Goals as goal

pub open_frame-requires-clause-frame : goal.open_frame-requires-clause-frame
open_frame-requires-clause-frame g c = let one = c.requires.frames in omega (arith, one)

pub returns-in_err-open_frame-clause-following : goal.returns-in_err-open_frame-clause-following
returns-in_err-open_frame-clause-following g c =
    search (arith, replicate, c.args.f.now, c.open_frame.ensures.following)

pub returns-in_err-open_frame-clause-first_groups : goal.returns-in_err-open_frame-clause-first_groups
returns-in_err-open_frame-clause-first_groups g c = ap (λ (p : Definability). p.first.groups) c.open_frame.ensures.same

pub returns-in_err-open_frame-clause-second_groups : goal.returns-in_err-open_frame-clause-second_groups
returns-in_err-open_frame-clause-second_groups g c = ap (λ (p : Definability). p.second.groups) c.open_frame.ensures.same

pub copy_places-requires-clause-standing : goal.copy_places-requires-clause-standing
copy_places-requires-clause-standing g c =
    let f = c.args.f.now in
    let numbered : List ℕ = replicate (length f.matrix) 0 in (
      f,
      numbered,
      standing_on f numbered f (store_of c.args.self.now) (store_of c.open_frame.new.self) c.args.log.now
          c.open_frame.new.log c.requires.standing (c.open_frame.ensures.following f numbered f c.requires.standing),
    )

pub returns-in_err-copy_places-clause-following : goal.returns-in_err-copy_places-clause-following
returns-in_err-copy_places-clause-following g c =
    search (arith, replicate, after_copies, c.args.f.now, c.open_frame.ensures.following)

pub returns-in_err-copy_places-clause-first_groups : goal.returns-in_err-copy_places-clause-first_groups
returns-in_err-copy_places-clause-first_groups g c = search arith

pub returns-in_err-copy_places-clause-second_groups : goal.returns-in_err-copy_places-clause-second_groups
returns-in_err-copy_places-clause-second_groups g c = search arith

pub give_matrix-requires-clause-open_file : goal.give_matrix-requires-clause-open_file
give_matrix-requires-clause-open_file g c =
    let f = c.args.f.now in
    let numbered : List ℕ = replicate (length f.matrix) 0 in
    record {
      standing = search (arith, standing_on, after_copies, c.open_frame.ensures.following);
      complete = λ k past.
          let low = c.requires.from in c.in_ok-copy_places.ensures.copied.complete k (omega (arith, low, past));
      given = ap (λ ns. length ns.items) c.copy_places.ensures.more.given
          ∙ ap (λ (p : Definability). length p.given.items) c.open_frame.ensures.same ∙ c.requires.given;
      opened = search arith;
    }

pub returns-clause-following : goal.returns-clause-following
returns-clause-following g c =
    search (arith, replicate, following_then, after_copies, c.args.f.now, c.open_frame.ensures.following)

pub returns-clause-first_groups : goal.returns-clause-first_groups
returns-clause-first_groups g c = search arith

pub returns-clause-second_groups : goal.returns-clause-second_groups
returns-clause-second_groups g c = search arith

pub returns-clause-given : goal.returns-clause-given
returns-clause-given g c = search (arith, on_ok)

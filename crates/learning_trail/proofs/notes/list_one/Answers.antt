use Rattle.std.proofs.Common.{◌≡◌, ℕ, Some, None, Contains, sym, ◌∙◌, subst}
use Rattle.learning_trail.proofs.ListedPlaces.{contains_put}
use Rattle.learning_trail.proofs.notes.list_one.Goals as goal

pub returns-in_ok-push-clause-listed : goal.returns-in_ok-push-clause-listed
returns-in_ok-push-clause-listed c = λ at l h same on.
    let e : Some c.in-Some.place ≡ Some at = sym c.in-Some.is ∙ c.place.ensures at l h same in
    let q : c.in-Some.place ≡ at = cc in
    subst (λ (n : ℕ). Contains c.push.new.self.items n) q (contains_put c.args.places.now.items
    c.push.new.self.items c.in-Some.place c.in_ok-push.ensures.items)

pub returns-in_default-clause-listed : goal.returns-in_default-clause-listed
returns-in_default-clause-listed c = λ at l h same on.
    let e : None ≡ Some at = sym c.in_default.is ∙ c.place.ensures at l h same in
    cc

use Rattle.std.proofs.Common.{◌∙◌, refl}
use Rattle.dq_io.proofs.Places.{opened_by_name}
use Rattle.dq_io.proofs.store.FileStore.open.Goals as goal

pub returns-clause-found : goal.returns-clause-found
returns-clause-found c =
    let at = rw c.deref.ensures.value at c.place_of-self-inside.ensures in
    let opens = opened_by_name c.self.inside.files.items c.args.name.now _ at in
    rw (← c.self.view_is) (c.is_some.ensures ∙ opens.found)

pub returns-clause-opened : goal.returns-clause-opened
returns-clause-opened c =
    let at = rw c.deref.ensures.value at c.place_of-self-inside.ensures in
    let opens = opened_by_name c.self.inside.files.items c.args.name.now _ at in
    rw (← c.self.view_is) (rw (← c.saturating_add-self-inside.ensures) (rw opens.rest refl))

use Rattle.headline_laws.proofs.laws.accepted_circuits_are_on_the_page.Goals as goal

pub returns : goal.returns
returns c formula certificate read f page formed accepted =
    c.skolem_circuits_are_on_the_page.ensures formula certificate read f page formed
    (c.acceptance_is_sound.ensures.circuit read certificate formed accepted)

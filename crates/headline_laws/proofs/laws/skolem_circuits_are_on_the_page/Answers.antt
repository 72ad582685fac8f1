use Rattle.headline_laws.proofs.laws.skolem_circuits_are_on_the_page.Goals as goal

pub returns : goal.returns
returns c formula certificate read f on formed holds =
    c.skolem_circuits_mean_the_same.ensures certificate read f
    (record {
      universals = on.universals;
      existentials = on.existentials;
      holds = on.holds;
      holds_there = on.holds_there;
    }) formed holds

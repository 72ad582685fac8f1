use Rattle.skolem_checker.proofs.laws.skolem_circuit_shows_true.Goals as goal

pub returns : goal.returns
returns c f net symbols lawful kept complete h =
    let functions = c.outputs_are_skolem_functions.ensures f net symbols lawful kept complete h in
    c.skolem_functions_show_true.ensures f functions.0 functions.1

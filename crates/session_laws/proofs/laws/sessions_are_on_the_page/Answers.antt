use Rattle.std.proofs.Common.{[], length, subst, sym}
use Rattle.std.specs.List.{AllZip}
use Rattle.std.proofs.lemmas.List.Elements.{recursion_from_All}
use Rattle.headline.specs.Sessions.{formulas_asked}
use Rattle.headline_laws.specs.Formulas.{MeansTheSame}
use Rattle.session_runs.specs.Numbering.{all_clauses}
use Rattle.session_runs.specs.Searches.{IsShown, end_of}
use Rattle.session_laws.proofs.AnsweredBlocks.{blocks}
use Rattle.session_laws.proofs.AskedFormulas.{Stands, asked_formulas}
use Rattle.session_laws.proofs.GrownFormulas.{variables_same}
use Rattle.session_laws.proofs.ReadScripts.{script_spelled, spells_script}
use Rattle.session_laws.proofs.laws.sessions_are_on_the_page.Goals as goal

pub returns : goal.returns
returns c formula script read commands log searches spelled formed reading are =
    let page = c.formulas_are_on_the_page.ensures formula read spelled formed in
    let f = page.0 in
    let means : MeansTheSame read f = record {
      universals = page.1.universals;
      existentials = page.1.existentials;
      holds = page.1.holds;
      holds_there = page.1.holds_there;
    } in
    let is = script_spelled read script commands reading in
    let allowed = c.scripts_are_allowed.ensures read script commands reading in
    let asked = asked_formulas c.xor_clauses_are_exact.ensures read f (length read.matrix) commands is.pages
    (record { means = means; formed = formed }) is.same allowed in
    record {
      f = f;
      commands = is.pages;
      spelled = page.1.spelled;
      script_spelled = spells_script read f script commands (length read.matrix) (sym (variables_same read f means)) is allowed;
      blocks = blocks
          (record {
            true_there = c.same_meanings_are_on_the_page.ensures.is_true;
            false_there = c.same_meanings_are_on_the_page.ensures.is_false;
            circuit = c.same_meanings_are_on_the_page.ensures.circuit;
          })
          (all_clauses read commands) log 1 searches (formulas_asked f [] is.pages)
          (subst (λ ms. AllZip Stands ms (formulas_asked f [] is.pages)) (sym are.formulas) asked)
          (recursion_from_All (λ s. IsShown (all_clauses read commands) (end_of log s) s.formula s.verdict) searches are.shown);
    }

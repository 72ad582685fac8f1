use Rattle.script_text.proofs.AllowedScripts.{scripts-allowed}
use Rattle.script_text.proofs.laws.scripts_are_allowed.Goals as goal

pub returns : goal.returns
returns c = scripts-allowed

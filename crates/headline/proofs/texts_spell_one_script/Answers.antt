use Rattle.headline.proofs.OneScript.{one_script}
use Rattle.headline.proofs.texts_spell_one_script.Goals as goal

pub returns : goal.returns
returns c = one_script

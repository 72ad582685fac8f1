use Rattle.rup_core.proofs.RenamedVariables.{with-renamed, without-renamed}
use Rattle.rup_core.proofs.laws.items_keep_names.Goals as goal

pub returns-clause-derived : goal.returns-clause-derived
returns-clause-derived c number live other id clause same = with-renamed number live other same id clause

pub returns-clause-gone : goal.returns-clause-gone
returns-clause-gone c number live other ids same = without-renamed number live other same ids

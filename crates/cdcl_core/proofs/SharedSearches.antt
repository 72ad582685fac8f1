-- What an analysis needs of a search.
use Rattle.std.proofs.Common.{List, arith}
use Rattle.dq_lits.specs.Literal.{Literal}
use Rattle.hint_log.specs.Entries.{ProofLog}
use Rattle.learning_trail.specs.Searching.{IsSearching as IsAtSearch}
use Rattle.cdcl_core.specs.declared.searchers.Searcher.{Searcher}
use Rattle.cdcl_core.specs.Searching.{IsSearching, searched}

pub at_search : (assumptions : List Literal) (s : Searcher) (log : ProofLog) → IsSearching assumptions s log →
    IsAtSearch assumptions (searched s) log
at_search assumptions s log r = search arith

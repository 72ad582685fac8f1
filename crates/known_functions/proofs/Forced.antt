-- Calls that ask what a row forces, one behind the other.
use Rattle.std.proofs.Common.{◌≡◌, true, ℕ, arith}
use Rattle.dq_lits.specs.Formula.{Dqbf}
use Rattle.hint_log.specs.Entries.{ProofLog}
use Rattle.hint_log.specs.Growth.{Grew}
use Rattle.log_laws.specs.Engines.{copies, IsAddedBy}
use Rattle.log_laws.proofs.LargerLogs.{grown_then}
use Rattle.std.specs.List.{All}
use Rattle.dq_formula.specs.Rules.{IsRule}
use Rattle.definability.specs.Copies.{IsDefinability}
use Rattle.definability.specs.Growing.{HasSameGivens}
use Rattle.definability.specs.declared.definability.Definability.{Definability}
use Rattle.known_functions.specs.declared.definitions.Definitions.{Definitions}
use Rattle.known_functions.specs.Forcing.{MayForce, HasForced}
use Rattle.known_functions.proofs.AskedEntries.{asked_alone}

pub forced_then : (f : Dqbf) (p : Definability) (d e h : Definitions) (a b c : ProofLog) → HasForced f p d e a b →
    HasForced f p e h b c → HasForced f p d h a c
forced_then f p d e h a b c one two = search (arith, grown_then)

pub may_force_on : (f : Dqbf) (p : Definability) (d e : Definitions) (a b : ProofLog) → MayForce f d p a.entries →
    HasForced f p d e a b → MayForce f e p b.entries
may_force_on f p d e a b may forced = search arith

-- a rule was asked of the copies
pub forced_by : (f : Dqbf) (p : Definability) (d e : Definitions)
    (old new : ProofLog) → e.ranks.items ≡ d.ranks.items → e.nodes.items ≡ d.nodes.items →
    e.guesses.items ≡ d.guesses.items → All (IsRule f) e.rules.items →
    ((group : ℕ) → Grew (IsAddedBy f copies group true old.entries) old new) →
    HasSameGivens old.entries new.entries → IsDefinability f p new.entries → HasForced f p d e old new
forced_by f p d e old new ranks nodes guesses rules grew same copied = search (arith, asked_alone)

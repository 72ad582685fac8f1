-- The command of words that were read.
use Rattle.dqsolve_words.specs.Command.{Options, Search, Planting, Circuits, Comparison, Defining, Session, Command, solve, demo, pec, encode, defined, session}
use Rattle.dqsolve_words.specs.declared.requests.SolveOptions.{SolveOptions}
use Rattle.dqsolve_words.specs.declared.requests.SolveWords.{SolveWords}
use Rattle.dqsolve_words.specs.declared.requests.DemoWords.{DemoWords}
use Rattle.dqsolve_words.specs.declared.requests.CircuitWords.{CircuitWords}
use Rattle.dqsolve_words.specs.declared.requests.PecWords.{PecWords}
use Rattle.dqsolve_words.specs.declared.requests.DefiningWords.{DefiningWords}
use Rattle.dqsolve_words.specs.declared.requests.SessionWords.{SessionWords}
use Rattle.dqsolve_words.specs.declared.requests.CommandWords.{CommandWords}
use Rattle.dqsolve_words.specs.declared.requests.CommandWords.TheVariants.{Solve, Demo, Pec, Encode, Defined, Session as SessionCommand}

abbrev pub options_of : SolveOptions → Options
options_of o = record {
  bare = o.bare;
  deletes = o.deletes;
  prepares = o.prepares;
  binary = o.binary;
}

abbrev pub search_of : SolveWords → Search
search_of w = record { steps = w.steps; options = options_of w.options; file = w.file.now }

abbrev pub planting_of : DemoWords → Planting
planting_of w = record { seed = w.seed; size = w.size }

abbrev pub circuits_of : CircuitWords → Circuits
circuits_of w = record { specification = w.spec.now; implementation = w.imp.now }

abbrev pub comparison_of : PecWords → Comparison
comparison_of w = record { steps = w.steps; circuits = circuits_of w.circuits }

abbrev pub defining_of : DefiningWords → Defining
defining_of w = record { steps = w.steps; file = w.file.now }

abbrev pub session_of : SessionWords → Session
session_of w = record { steps = w.steps; file = w.file.now; script = w.script.now }

abbrev pub command_said : CommandWords → Command
command_said (Solve w) = solve (search_of w)
command_said (Demo w) = demo (planting_of w)
command_said (Pec w) = pec (comparison_of w)
command_said (Encode w) = encode (circuits_of w)
command_said (Defined w) = defined (defining_of w)
command_said (SessionCommand w) = session (session_of w)

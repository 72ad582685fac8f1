use Rattle.std.proofs.Common.{take}
use Rattle.lifted_proofs.specs.Hinted.{AddsHints}
use Rattle.lifted_proofs.proofs.hinted.add_hints.Given as goal

abbrev pub invariant-loop-h : goal.invariant-loop-h
invariant-loop-h l = AddsHints l.last (take l.h-index l.hints) l.initial.wanted l.wanted

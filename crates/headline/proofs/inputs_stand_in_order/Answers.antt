use Rattle.std.proofs.Common.{inl, inr, refl, arith}
use Rattle.headline.proofs.inputs_stand_in_order.Goals as goal

pub returns-clause-place : goal.returns-clause-place
returns-clause-place c = inl (refl, omega arith, refl)

pub returns-clause-number : goal.returns-clause-number
returns-clause-number c (inl (none, below, is)) = cc
returns-clause-number c (inr (name, number, (k, below, is))) = omega (arith, below)

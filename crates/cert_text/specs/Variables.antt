-- The variables that a proof's literals may stand on.
use Rattle.std.specs.Prelude.{ℕ, nat_le, Bool, ◌&&◌}
use Rattle.cert_text.specs.Pairs.{is_pair_number}
use Rattle.cert_text.specs.declared.variables.Variables.{Variables}
use Rattle.cert_text.specs.declared.variables.Variables.TheVariants.{Pairs, UpTo}

-- the numbers from 1 to this one
abbrev pub is_up_to : ℕ → ℕ → Bool
is_up_to last number = nat_le 1 number && nat_le number last

abbrev pub is_variable : Variables → ℕ → Bool
is_variable (Pairs pairs) = is_pair_number pairs.formula.now pairs.rows
is_variable (UpTo last) = is_up_to last

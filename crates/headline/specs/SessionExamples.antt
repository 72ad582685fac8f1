-- A script for the formula of copies, in the page's own words.
use Rattle.std.specs.Prelude.{ℕ, List, [], ◌∷◌, ◌++◌, codes}
use Rattle.headline.specs.Examples.{copies, line}
use Rattle.headline.specs.Headline.{Formula, positive}
use Rattle.headline.specs.Sessions.{Command, add, pop, push, solve, with_clause}

abbrev pub asking_text : List ℕ
asking_text =
    line (codes "push") ++ (line (codes " add 2 0") ++ (line (codes "solve")
    ++ (line (codes " ") ++ (line (codes "pop") ++ line (codes "solve")))))

abbrev pub asking : List Command
asking = push ∷ add (positive 2 ∷ []) ∷ solve ∷ pop ∷ solve ∷ []

-- a copy of what may be false has to be true
abbrev pub true_copies : Formula
true_copies = with_clause copies (positive 2 ∷ [])

abbrev pub first_block : List ℕ
first_block = line (codes "solve 1 8") ++ line (codes "s FALSE")

abbrev pub second_block : List ℕ
second_block =
    line (codes "solve 2 25") ++ (line (codes "s TRUE") ++ (line (codes "aag 1 1 0 1 0")
    ++ (line (codes "2") ++ line (codes "2"))))

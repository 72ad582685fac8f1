-- Commands by their words and clauses.
use Rattle.std.proofs.Common.{◌≡◌, ℕ, zero, suc, ◌<◌, List, [], ◌∷◌, ◌++◌, length, slice_get, slice_index_or, Some, refl, ◌∙◌, ap, arith}
use Rattle.dq_lits.specs.Literal.{Literal}
use Rattle.script_text.specs.Commands.{command_by, commands_of}
use Rattle.script_text.specs.declared.commands.Keyword.{Keyword}

pub length-commands : (words : List Keyword) (clauses : List (List Literal)) → length words ≡ length clauses →
    length (commands_of words clauses) ≡ length words
length-commands [] [] same = refl
length-commands [] (clause ∷ clauses) same = refl
length-commands (word ∷ words) [] same = absurd (omega (arith, same))
length-commands (word ∷ words) (clause ∷ clauses) same =
    ap suc (length-commands words clauses (omega (arith, same)))

pub commands-append : (words : List Keyword) (clauses : List (List Literal)) (word : Keyword) (clause : List Literal) →
    length words ≡ length clauses →
    commands_of (words ++ word ∷ []) (clauses ++ clause ∷ []) ≡ commands_of words clauses ++ command_by word clause ∷ []
commands-append [] [] word clause same = refl
commands-append [] (c ∷ clauses) word clause same = absurd (omega (arith, same))
commands-append (w ∷ words) [] word clause same = absurd (omega (arith, same))
commands-append (w ∷ words) (c ∷ clauses) word clause same =
    ap (λ rest. command_by w c ∷ rest) (commands-append words clauses word clause (omega (arith, same)))

pub command-at : (words : List Keyword) (clauses : List (List Literal)) (place : ℕ) (default word : Keyword) →
    length words ≡ length clauses → place < length words → slice_index_or words place default ≡ word →
    slice_get (commands_of words clauses) place ≡ Some (command_by word (slice_index_or clauses place []))
command-at [] clauses place default word same below is = absurd (omega (arith, below))
command-at (w ∷ words) [] place default word same below is = absurd (omega (arith, same))
command-at (w ∷ words) (c ∷ clauses) zero default word same below is = ap (λ k. Some (command_by k c)) is
command-at (w ∷ words) (c ∷ clauses) (suc place) default word same below is =
    command-at words clauses place default word (omega (arith, same)) (omega (arith, below)) is

pub more-commands : (words words' : List Keyword) (clauses clauses' : List (List Literal)) (word : Keyword)
    (clause : List Literal) → length words ≡ length clauses → words' ≡ words ++ word ∷ [] →
    clauses' ≡ clauses ++ clause ∷ [] →
    commands_of words' clauses' ≡ commands_of words clauses ++ command_by word clause ∷ []
more-commands words words' clauses clauses' word clause same now then =
    ap (λ ws. commands_of ws clauses') now ∙ ap (commands_of (words ++ word ∷ [])) then
    ∙ commands-append words clauses word clause same

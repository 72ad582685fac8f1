-- The least foreign variable of those that a definition reads.
use Rattle.std.proofs.Common.{◌≡◌, ℕ, ◌↔◌, List, Option, None, Some, sym, subst}
use Rattle.std.specs.List.{Contains}
use Rattle.std.proofs.lemmas.List.Elements.{All-contains}
use Rattle.dq_lits.specs.Formula.{Existential, Dqbf}
use Rattle.cert_text.specs.DefinitionBlocks.{Definition}
use Rattle.defined_checker.specs.Answers.{IsForeignAnswer, IsLeastForeign}
use Rattle.defined_checker.specs.DefinitionReads.{IsRead, MayDefine}

pub answered : (f : Dqbf) (y : Existential) (d : Definition) (leaves items : List ℕ) (least : Option ℕ) →
    items ≡ leaves → ((v : ℕ) → Contains leaves v ↔ IsRead f d v) → IsLeastForeign f y items least →
    IsForeignAnswer f y d least
answered f y d leaves items None same read all =
    λ v h. h.foreign (All-contains (MayDefine f y) items v all
    (subst (λ xs. Contains xs v) (sym same) ((read v).1 h.read)))
answered f y d leaves items (Some v) same read least = record {
  foreign = record {
    read = (read v).0 (subst (λ xs. Contains xs v) same least.0);
    foreign = least.1.0;
  };
  least = λ w h. least.1.1 w (subst (λ xs. Contains xs w) (sym same) ((read w).1 h.read)) h.foreign;
}

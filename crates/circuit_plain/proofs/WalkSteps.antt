-- The steps of a walk.
use Rattle.std.proofs.Common.{◌≡◌, ℕ, ◌<◌, Bool, List, [], ◌∷◌, ◌++◌, Option, Some, length, subst}
use Rattle.std.specs.Prelude.{All, IfSome}
use Rattle.std.specs.Option.{option_to_list}
use Rattle.std.proofs.lemmas.List.Elements.{All-pop, All-push}
use Rattle.circuit_plain.specs.Steps.{task_place}
use Rattle.circuit_plain.specs.declared.walks.Task.{Task}
use Rattle.circuit_plain.specs.declared.walks.Task.TheVariants.{Leave}

-- all is about gates that there are
pub record WalkSoFar (n : ℕ) (seen : List Bool) (places : List ℕ) (tasks : List Task) : Type 0 where
  pub long : length seen ≡ n
  pub places_in : All (λ place. place < n) places
  pub tasks_in : All (λ task. task_place task < n) tasks

-- a task taken from the end, which leaves its gate
pub leave_gate : (n : ℕ) (seen : List Bool) (places after : List ℕ) (tasks rest : List Task) (top : Option Task)
    (task : Task) (place : ℕ)
    → WalkSoFar n seen places tasks → tasks ≡ rest ++ option_to_list top → top ≡ Some task → task ≡ Leave place
    → after ≡ places ++ place ∷ [] → WalkSoFar n seen after rest
leave_gate n seen places after tasks rest top task place so_far taken top_is task_is after_is =
    let parts = All-pop (λ t. task_place t < n) tasks rest top taken so_far.tasks_in in
    let place_in : place < n = subst (λ (t : Task). task_place t < n) task_is
    (subst (λ (o : Option Task). IfSome o (λ t. task_place t < n)) top_is parts.1) in
    record {
      long = so_far.long;
      places_in = rw after_is (All-push (λ p. p < n) places place so_far.places_in place_in);
      tasks_in = parts.0;
    }

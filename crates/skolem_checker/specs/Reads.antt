-- Words of private contracts: up to 64 existentials at a time, with a bit for each in every word.
use Rattle.std.specs.Prelude.{◌≡◌, ℕ, ◌<◌, ◌≤◌, ◌+◌, ◌*◌, ◌==◌, ◌⊎◌, nat_lt, Bool, true, false, ◌&&◌, List, length, slice_index, Option, None, Some, IsTrue, ◌↔◌, Contains}
use Rattle.std.specs.Int.{bit_at}
use Rattle.std.specs.List.{All}
use Rattle.dq_lits.specs.Formula.{Existential, Dqbf, existential_of}
use Rattle.circuit_plain.specs.Netlist.{Netlist, literal_variable}
use Rattle.circuit_plain.specs.Reach.{Reaches}
use Rattle.circuit_plain.specs.Words.{marked}
use Rattle.skolem_checker.specs.Checks.{ReadsDeclaredBefore, IsFirstRead}
use Rattle.skolem_checker.specs.Tables.{ReadsByMarks}
use Rattle.skolem_checker.specs.declared.reads.ReadWords.{ReadWords}

abbrev pub has_bit : ℕ → ℕ → Bool
has_bit word i = bit_at word i == 1

-- words for the variables of a circuit and for the universals
pub record HasWords (net : Netlist) (f : Dqbf) (w : ReadWords) : Type 0 where
  pub settled : length f.existentials ≤ 64 * length w.settled.items
  pub reached : length w.reached.items ≡ net.max_var + 1
  pub listed : length w.listed.items ≡ length f.universals
  pub stops : length w.stops.items ≡ length f.universals + 1

-- each of these existentials has an output
pub record HaveOutputs (net : Netlist) (places ys : List ℕ) : Type 0 where
  pub placed : All (λ y. y < length places) ys
  pub outputs : All (λ y. slice_index places y < length net.outputs) ys

-- the variable of an existential's output
abbrev pub root_of : Netlist → List ℕ → ℕ → ℕ
root_of net places y = literal_variable (slice_index net.outputs (slice_index places y))

-- each bit below the end marks the root of its existential alone
abbrev pub AreRoots : Netlist → List ℕ → List ℕ → ℕ → List ℕ → Type 0
AreRoots net places ys end words =
    (i v : ℕ) → marked words i v ≡ (nat_lt i end && (root_of net places (slice_index ys i) == v))

-- each bit marks what the root of its existential reaches
abbrev pub AreReached : Netlist → List ℕ → List ℕ → List ℕ → Type 0
AreReached net places ys words =
    (i : ℕ) → i < length ys → (v : ℕ) → IsTrue (marked words i v)
    ↔ Reaches net (root_of net places (slice_index ys i)) v

-- an existential of the batch
abbrev pub IsAt : Dqbf → List ℕ → ℕ → Existential → Type 0
IsAt f ys i e = (i < length ys) × (existential_of f (slice_index ys i) ≡ Some e)

-- by the marks, it reads declared universals alone
abbrev pub IsDeclared : Dqbf → List ℕ → List ℕ → ℕ → Existential → Type 0
IsDeclared f literals words i e =
    ReadsDeclaredBefore (ReadsByMarks (marked words i) literals) f e (length f.universals)

abbrev pub AreDeclared : Dqbf → List ℕ → List ℕ → List ℕ → Type 0
AreDeclared f literals ys words =
    (i : ℕ) (e : Existential) → IsAt f ys i e → IsDeclared f literals words i e

-- the first of the batch that reads an undeclared universal, and the first such universal
pub record IsFirstIn (f : Dqbf) (literals ys words : List ℕ) (i x : ℕ) : Type 0 where
  pub in_range : i < length ys
  pub read : (e : Existential) → IsAt f ys i e
      → IsFirstRead (ReadsByMarks (marked words i) literals) f e x
  pub first : (j : ℕ) (e : Existential) → j < i → IsAt f ys j e → IsDeclared f literals words j e

-- a dependency set by its bit: the universals listed at the bit, and those before the place at
-- which it stops
pub record IsSetNoted (f : Dqbf) (listed stops : List ℕ) (i : ℕ) (sees : List ℕ) : Type 0 where
  pub lists : (q : ℕ) → q < length f.universals → marked listed i q ≡ true
      → Contains sees (slice_index f.universals q)
  pub stop : ℕ
  pub stop_noted : marked stops i stop ≡ true
  pub before : (q : ℕ) → q < stop → q < length f.universals
      → Contains sees (slice_index f.universals q)

abbrev pub IsNoted : Dqbf → List ℕ → List ℕ → ℕ → Existential → Type 0
IsNoted f listed stops i e = IsSetNoted f listed stops i e.sees

-- by the words, the universal at a place may be read: it is listed, or no stop stands up to it
abbrev pub IsAllowed : List ℕ → List ℕ → ℕ → ℕ → Type 0
IsAllowed listed stops i q =
    (marked listed i q ≡ true) ⊎ ((m : ℕ) → m ≤ q → marked stops i m ≡ false)

-- nothing is noted at a bit
abbrev pub IsUnnoted : List ℕ → List ℕ → ℕ → Type 0
IsUnnoted listed stops i =
    ((q : ℕ) → marked listed i q ≡ false) × ((q : ℕ) → marked stops i q ≡ false)

abbrev pub AreSameAt : List ℕ → List ℕ → ℕ → Type 0
AreSameAt old new j = (v : ℕ) → marked new j v ≡ marked old j v

-- each existential of a batch reads declared universals alone, or this is the first that doesn't
abbrev pub IsBatchAnswer : (ℕ → ℕ → Type 0) → Dqbf → List ℕ → Option (ℕ × ℕ) → Type 0
IsBatchAnswer Reads f ys None =
    (i : ℕ) (e : Existential) → IsAt f ys i e → e.variable ≡ slice_index ys i
    → ReadsDeclaredBefore Reads f e (length f.universals)
IsBatchAnswer Reads f ys (Some (i, x)) =
    (i < length ys)
    × ((e : Existential) → IsAt f ys i e → e.variable ≡ slice_index ys i → IsFirstRead Reads f e x)
    × ((j : ℕ) (e : Existential) → j < i → IsAt f ys j e → e.variable ≡ slice_index ys j
    → ReadsDeclaredBefore Reads f e (length f.universals))

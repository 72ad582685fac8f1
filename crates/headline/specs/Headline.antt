-- What `VALID TRUE`, `VALID FALSE` and `VALID DEFINED` say, from bytes to functions, on one page. It
-- stands on lists and numbers alone; laws tie it to the definitions that the contracts cite.
use Rattle.std.specs.Prelude.{◌≡◌, ◌≢◌, ℕ, zero, suc, ◌+◌, ◌-◌, ◌*◌, ◌/◌, ◌%◌, ◌^◌, ◌<◌, ◌≤◌, ◌==◌, ◌⊎◌, Bool, true, false, not, ◌&&◌, ◌||◌, List, [], ◌∷◌, ◌++◌, map, length, replicate, codes, if◌then◌else◌, slice_index, All, AllPairs, Contains}
use Rattle.std.specs.Char.{is_ascii_digit}
use Rattle.std.specs.Fmt.{decimal}
use Rattle.std.specs.List.{AllZip, filter, flat_map, fold, list_all, list_any, sum_by}

-- TEXTS

-- LF (10) ends a line; an empty piece behind the last LF is none
abbrev pub put_front : ℕ → List (List ℕ) → List (List ℕ)
put_front byte [] = (byte ∷ []) ∷ []
put_front byte (piece ∷ pieces) = (byte ∷ piece) ∷ pieces

abbrev pub lines : List ℕ → List (List ℕ)
lines [] = []
lines (byte ∷ bytes) =
    if byte == 10 then [] ∷ lines bytes else put_front byte (lines bytes)

-- words are the longest runs of bytes other than space, tab, CR and LF
abbrev pub is_space : ℕ → Bool
is_space byte = byte == 32 || (byte == 9 || (byte == 13 || byte == 10))

abbrev pub ends_word : List ℕ → Bool
ends_word [] = true
ends_word (byte ∷ _) = is_space byte

abbrev pub words : List ℕ → List (List ℕ)
words [] = []
words (byte ∷ bytes) =
    if is_space byte then words bytes else
    if ends_word bytes then (byte ∷ []) ∷ words bytes else put_front byte (words bytes)

-- a line whose first word begins with `c` (99) is a comment
abbrev pub is_comment : List (List ℕ) → Bool
is_comment ((byte ∷ _) ∷ _) = byte == 99
is_comment _ = false

abbrev pub tokens : List ℕ → List (List ℕ)
tokens text = flat_map (λ line. if is_comment (words line) then [] else words line) (lines text)

-- digits, leading zeros allowed
pub record IsNatural (word : List ℕ) (n : ℕ) : Type 0 where
  pub some : word ≢ []
  pub digits : list_all is_ascii_digit word ≡ true
  pub value : n ≡ fold (λ so_far digit. so_far * 10 + (digit - 48)) 0 word
  pub small : n < 10 ^ 18

pub data Symbol : Type 0 where
  word : List ℕ → Symbol
  natural : ℕ → Symbol
  negative : ℕ → Symbol

abbrev pub Spells : List ℕ → Symbol → Type 0
Spells token (word text) = token ≡ text
Spells token (natural n) = IsNatural token n
Spells token (negative n) = (digits : List ℕ) × (token ≡ 45 ∷ digits) × IsNatural digits n × (1 ≤ n)

-- FORMULAS

pub data Literal : Type 0 where
  positive : ℕ → Literal
  opposite : ℕ → Literal

-- `a v.. 0`, `e v.. 0`, `d y x.. 0`
pub data PrefixPart : Type 0 where
  universals : List ℕ → PrefixPart
  existentials : List ℕ → PrefixPart
  dependent : ℕ → List ℕ → PrefixPart

-- `l.. 0`, `x l.. 0`
pub data Constraint : Type 0 where
  clause : List Literal → Constraint
  xor : List Literal → Constraint

pub record Formula : Type 0 where
  pub variables : ℕ
  pub parts : List PrefixPart
  pub constraints : List Constraint

abbrev pub numbers : List ℕ → List Symbol
numbers vs = map natural vs ++ natural 0 ∷ []

abbrev pub part_symbols : PrefixPart → List Symbol
part_symbols (universals vs) = word (codes "a") ∷ numbers vs
part_symbols (existentials ys) = word (codes "e") ∷ numbers ys
part_symbols (dependent y xs) = word (codes "d") ∷ natural y ∷ numbers xs

abbrev pub literal_symbol : Literal → Symbol
literal_symbol (positive v) = natural v
literal_symbol (opposite v) = negative v

abbrev pub constraint_symbols : Constraint → List Symbol
constraint_symbols (clause ls) = map literal_symbol ls ++ natural 0 ∷ []
constraint_symbols (xor ls) = word (codes "x") ∷ (map literal_symbol ls ++ natural 0 ∷ [])

abbrev pub formula_symbols : Formula → List Symbol
formula_symbols f =
    word (codes "p") ∷ word (codes "cnf") ∷ natural f.variables ∷ natural (length f.constraints)
    ∷ (flat_map part_symbols f.parts ++ flat_map constraint_symbols f.constraints)

abbrev pub among : List ℕ → ℕ → Bool
among vs v = list_any (λ w. w == v) vs

abbrev pub variable_of : Literal → ℕ
variable_of (positive v) = v
variable_of (opposite v) = v

abbrev pub literals_of : Constraint → List Literal
literals_of (clause ls) = ls
literals_of (xor ls) = ls

abbrev pub declared_in : PrefixPart → List ℕ
declared_in (universals vs) = vs
declared_in (existentials ys) = ys
declared_in (dependent y _) = y ∷ []

abbrev pub declared : Formula → List ℕ
declared f = flat_map declared_in f.parts

abbrev pub universals_in : PrefixPart → List ℕ
universals_in (universals vs) = vs
universals_in _ = []

abbrev pub universals_of : Formula → List ℕ
universals_of f = flat_map universals_in f.parts

-- an existential, and the universals that it sees
pub record Existential : Type 0 where
  pub variable : ℕ
  pub sees : List ℕ

abbrev pub seeing : List ℕ → ℕ → Existential
seeing xs y = record { variable = y; sees = xs }

-- an `e` variable sees the universals declared before it, a `d` variable those that it lists
abbrev pub existentials_from : List ℕ → List PrefixPart → List Existential
existentials_from before [] = []
existentials_from before (universals vs ∷ parts) = existentials_from (before ++ vs) parts
existentials_from before (existentials ys ∷ parts) =
    map (seeing before) ys ++ existentials_from before parts
existentials_from before (dependent y xs ∷ parts) =
    seeing (filter (among xs) before) y ∷ existentials_from before parts

-- an undeclared variable of the constraints sees nothing
abbrev pub is_free : Formula → ℕ → Bool
is_free f v =
    not (among (declared f) v)
    && list_any (λ c. list_any (λ l. variable_of l == v) (literals_of c)) f.constraints

abbrev pub up_to : ℕ → List ℕ
up_to zero = []
up_to (suc n) = up_to n ++ suc n ∷ []

abbrev pub existentials_of : Formula → List Existential
existentials_of f =
    existentials_from [] f.parts ++ map (seeing []) (filter (is_free f) (up_to f.variables))

-- what a `d` line lists was declared before
abbrev pub AreListed : List ℕ → List PrefixPart → Type 0
AreListed before [] = Unit {0}
AreListed before (universals vs ∷ parts) = AreListed (before ++ vs) parts
AreListed before (existentials _ ∷ parts) = AreListed before parts
AreListed before (dependent _ xs ∷ parts) = All (Contains before) xs × AreListed before parts

abbrev pub IsConstraint : Constraint → Type 0
IsConstraint (clause _) = Unit {0}
IsConstraint (xor ls) =
    (1 ≤ length ls) × (length ls ≤ 5) × AllPairs (λ k l. variable_of k ≢ variable_of l) ls

-- an XOR line of k literals counts as 2^(k - 1) clauses
abbrev pub size_of : Constraint → ℕ
size_of (clause _) = 1
size_of (xor ls) = 2 ^ (length ls - 1)

pub record SpellsFormula (text : List ℕ) (f : Formula) : Type 0 where
  pub spelled : AllZip Spells (tokens text) (formula_symbols f)
  pub once : AllPairs (λ v w. v ≢ w) (declared f)
  pub listed : AreListed [] f.parts
  pub constraints : All IsConstraint f.constraints
  pub in_range : All (λ v. (1 ≤ v) × (v ≤ f.variables))
      (declared f ++ flat_map (λ c. map variable_of (literals_of c)) f.constraints)
  pub few_variables : f.variables ≤ 1000000
  pub few_clauses : sum_by size_of f.constraints ≤ 10000000

-- TRUTH

abbrev pub literal_true : (ℕ → Bool) → Literal → Bool
literal_true m (positive v) = m v
literal_true m (opposite v) = not (m v)

-- an odd number is true
abbrev pub odd_true : (ℕ → Bool) → List Literal → Bool
odd_true m [] = false
odd_true m (l ∷ ls) = if literal_true m l then not (odd_true m ls) else odd_true m ls

abbrev pub constraint_true : (ℕ → Bool) → Constraint → Bool
constraint_true m (clause ls) = list_any (literal_true m) ls
constraint_true m (xor ls) = odd_true m ls

abbrev pub Holds : Formula → (ℕ → Bool) → Type 0
Holds f m = list_all (constraint_true m) f.constraints ≡ true

-- a function of what it sees for each existential, by its variable
abbrev pub Solve : (ℕ → List Bool → Bool) → Formula → Type 0
Solve value f =
    (m : ℕ → Bool)
    → All (λ y. m y.variable ≡ value y.variable (map m y.sees)) (existentials_of f) → Holds f m

abbrev pub IsTrueFormula : Formula → Type 0
IsTrueFormula f = (value : ℕ → List Bool → Bool) × Solve value f

abbrev pub IsFalseFormula : Formula → Type 0
IsFalseFormula f = (value : ℕ → List Bool → Bool) → Solve value f → ⊥

-- CIRCUITS (AIGER): literal 2v is variable v, 2v + 1 its negation, variable 0 is false

pub record Gate : Type 0 where
  pub variable : ℕ
  pub left : ℕ
  pub right : ℕ

-- the inputs' variables, the outputs' literals
pub record Circuit : Type 0 where
  pub largest : ℕ
  pub inputs : List ℕ
  pub outputs : List ℕ
  pub gates : List Gate

abbrev pub literal_bit : (ℕ → Bool) → ℕ → Bool
literal_bit m l = if l % 2 == 1 then not (m (l / 2)) else m (l / 2)

-- bits of all variables that go with the inputs' and with each gate
pub record Fits (c : Circuit) (inputs : ℕ → Bool) (m : ℕ → Bool) : Type 0 where
  pub constant : m 0 ≡ false
  pub given : (i : ℕ) → i < length c.inputs → m (slice_index c.inputs i) ≡ inputs i
  pub gates : All (λ g. m g.variable ≡ (literal_bit m g.left && literal_bit m g.right)) c.gates

-- what a variable reaches through gates, whatever the values
pub data Reaches (c : Circuit) : ℕ → ℕ → Type 0 where
  itself : {v : ℕ} → Reaches c v v
  left : {x : ℕ} → (g : Gate) → Contains c.gates g → Reaches c (g.left / 2) x
      → Reaches c g.variable x
  right : {x : ℕ} → (g : Gate) → Contains c.gates g → Reaches c (g.right / 2) x
      → Reaches c g.variable x

-- no cycle: gates can be put behind what they read
pub record IsCircuit (c : Circuit) : Type 0 where
  pub small : All (λ v. v ≤ c.largest) (c.inputs ++ map (λ g. g.variable) c.gates)
  pub rank : ℕ → ℕ
  pub ordered : All (λ g. (rank (g.left / 2) < rank g.variable)
      × (rank (g.right / 2) < rank g.variable)) c.gates
  pub once : AllPairs (λ v w. v ≢ w) (0 ∷ (c.inputs ++ map (λ g. g.variable) c.gates))
  pub defined : All (λ l. Contains (0 ∷ (c.inputs ++ map (λ g. g.variable) c.gates)) (l / 2))
      (c.outputs ++ flat_map (λ g. g.left ∷ g.right ∷ []) c.gates)

-- `iP NAME`, `oP NAME`
pub record Named : Type 0 where
  pub letter : ℕ
  pub place : ℕ
  pub name : List ℕ

pub record SpellsName (line : List ℕ) (s : Named) : Type 0 where
  pub digits : List ℕ
  pub space : ℕ
  pub ends : List ℕ
  pub is : line ≡ s.letter ∷ (digits ++ (space ∷ (s.name ++ ends)))
  pub place : IsNatural digits s.place
  pub spaced : (space ≡ 32) ⊎ (space ≡ 9)
  pub some : s.name ≢ []
  pub crs : list_all (λ byte. byte == 13) ends ≡ true

abbrev pub gate_row : Gate → List Symbol
gate_row g = natural (2 * g.variable) ∷ natural g.left ∷ natural g.right ∷ []

abbrev pub rows : Circuit → List (List Symbol)
rows c =
    map (λ v. natural (2 * v) ∷ []) c.inputs
    ++ (map (λ l. natural l ∷ []) c.outputs ++ map gate_row c.gates)

-- the header's numbers: M I L O A, and at most four zeros
abbrev pub header_symbols : List ℕ → Circuit → ℕ → List Symbol
header_symbols form c zeros =
    word form ∷ natural c.largest ∷ natural (length c.inputs) ∷ natural 0
    ∷ natural (length c.outputs) ∷ natural (length c.gates) ∷ replicate zeros (natural 0)

-- nothing, or a line `c` and a comment
abbrev pub IsEnd : List (List ℕ) → Type 0
IsEnd [] = Unit {0}
IsEnd (line ∷ _) = (blanks : List ℕ) × (line ≡ 99 ∷ blanks) × (list_all is_space blanks ≡ true)

-- the lines behind the gates
pub record SpellsNames (text : List (List ℕ)) (names : List Named) : Type 0 where
  pub symbols : List (List ℕ)
  pub end : List (List ℕ)
  pub parts : text ≡ symbols ++ end
  pub symbols_are : AllZip SpellsName (filter (λ line. not (list_all is_space line)) symbols) names
  pub once : AllPairs (λ s t. (s.letter ≢ t.letter) ⊎ (s.place ≢ t.place)) names
  pub end_is : IsEnd end

-- in AIGER's ASCII form, behind `s TRUE` or nothing: the header, a line for each input, output and
-- gate, and names
pub record SpellsAscii (text : List ℕ) (c : Circuit) (names : List Named) : Type 0 where
  pub verdict : List (List ℕ)
  pub header : List ℕ
  pub body : List (List ℕ)
  pub behind : List (List ℕ)
  pub zeros : ℕ
  pub lines_are : lines text ≡ verdict ++ (header ∷ (body ++ behind))
  pub verdict_is : (verdict ≡ []) ⊎ (map words verdict ≡ (codes "s" ∷ codes "TRUE" ∷ []) ∷ [])
  pub header_is : (zeros ≤ 4) × AllZip Spells (words header) (header_symbols (codes "aag") c zeros)
  pub body_is : AllZip (λ line row. AllZip Spells (words line) row) body (rows c)
  pub names_are : SpellsNames behind names

-- a difference in groups of seven bits, the lowest first
abbrev pub IsDifference : List ℕ → ℕ → Type 0
IsDifference [] n = ⊥
IsDifference (byte ∷ bytes) n =
    ((byte < 128) × (bytes ≡ []) × (n ≡ byte))
    ⊎ ((128 ≤ byte) × ((high : ℕ) × IsDifference bytes high × (n ≡ byte - 128 + 128 * high)))

pub record IsGateCode (code : List ℕ) (g : Gate) : Type 0 where
  pub first : List ℕ
  pub second : List ℕ
  pub parts : code ≡ first ++ second
  pub short : (length first ≤ 5) × (length second ≤ 5)
  pub left : (g.left < 2 * g.variable) × IsDifference first (2 * g.variable - g.left)
  pub right : (g.right ≤ g.left) × IsDifference second (g.left - g.right)

abbrev pub AreGateCodes : List ℕ → List Gate → Type 0
AreGateCodes code [] = code ≡ []
AreGateCodes code (g ∷ gates) =
    (own : List ℕ) × (others : List ℕ) × (code ≡ own ++ others) × IsGateCode own g
    × AreGateCodes others gates

-- these lines, each with its LF, and other bytes; where there are none, the last LF may be missing
abbrev pub AreLinesBefore : List (List ℕ) → List ℕ → List ℕ → Type 0
AreLinesBefore ls others text =
    (text ≡ flat_map (λ line. line ++ 10 ∷ []) ls ++ others)
    ⊎ ((others ≡ []) × (text ++ 10 ∷ [] ≡ flat_map (λ line. line ++ 10 ∷ []) ls))

-- in the binary form: the same header, the outputs' lines, the gates' bytes, and names
pub record SpellsBinary (text : List ℕ) (c : Circuit) (names : List Named) : Type 0 where
  pub verdict : List (List ℕ)
  pub header : List ℕ
  pub outputs : List (List ℕ)
  pub code : List ℕ
  pub behind : List ℕ
  pub zeros : ℕ
  pub parts : AreLinesBefore (verdict ++ (header ∷ outputs)) (code ++ behind) text
  pub one_line : All (All (λ byte. byte ≢ 10)) (verdict ++ (header ∷ outputs))
  pub verdict_is : (verdict ≡ []) ⊎ (map words verdict ≡ (codes "s" ∷ codes "TRUE" ∷ []) ∷ [])
  pub header_is : (zeros ≤ 4) × AllZip Spells (words header) (header_symbols (codes "aig") c zeros)
  pub outputs_are : AllZip (λ line l. AllZip Spells (words line) (natural l ∷ [])) outputs c.outputs
  pub inputs_first : c.inputs ++ map (λ g. g.variable) c.gates ≡ up_to c.largest
  pub gates_are : AreGateCodes code c.gates
  pub names_are : SpellsNames (lines behind) names

-- the variable that the input (105) or output (111) at a place stands for: its name's number, or
-- where there are no names that at the same place of these
abbrev pub StandsFor : List Named → ℕ → List ℕ → ℕ → ℕ → Type 0
StandsFor names letter variables place v =
    ((names ≡ []) × (place < length variables) × (v ≡ slice_index variables place))
    ⊎ ((name : List ℕ) × IsNatural name v
    × Contains names (record { letter = letter; place = place; name = name }))

-- the circuit's inputs are the universals; each existential has an output that reaches only what it
-- sees, and with the outputs' values every constraint holds
pub record IsSkolem (f : Formula) (c : Circuit) (names : List Named) : Type 0 where
  pub input_of : ℕ → ℕ
  pub output_of : ℕ → ℕ
  pub as_many : (length c.inputs ≡ length (universals_of f)) × (length c.outputs ≡ length (existentials_of f))
  pub inputs : All (λ x. (input_of x < length c.inputs)
      × StandsFor names 105 (universals_of f) (input_of x) x) (universals_of f)
  pub outputs : All (λ y. (output_of y.variable < length c.outputs)
      × StandsFor names 111 (map (λ z. z.variable) (existentials_of f)) (output_of y.variable)
      y.variable) (existentials_of f)
  pub reads : All (λ y. All (λ x.
      Reaches c (slice_index c.outputs (output_of y.variable) / 2)
      (slice_index c.inputs (input_of x)) → Contains y.sees x) (universals_of f))
      (existentials_of f)
  pub holds : (m bits inputs : ℕ → Bool) → Fits c inputs bits
      → All (λ x. inputs (input_of x) ≡ m x) (universals_of f)
      → All (λ y. m y.variable
      ≡ literal_bit bits (slice_index c.outputs (output_of y.variable))) (existentials_of f)
      → Holds f m

-- the text is a circuit's whose outputs are Skolem functions
pub record HoldsSkolem (f : Formula) (text : List ℕ) : Type 0 where
  pub c : Circuit
  pub names : List Named
  pub spelled : SpellsAscii text c names ⊎ SpellsBinary text c names
  pub circuit : IsCircuit c
  pub skolem : IsSkolem f c names

-- DEFINITIONS: what a definition of an existential may read are the universals that it sees, and the
-- existentials that see no others, and see fewer or stand before it

abbrev pub standing_before : Existential → List Existential → List Existential
standing_before y [] = []
standing_before y (z ∷ zs) =
    if z.variable == y.variable then [] else z ∷ standing_before y zs

abbrev pub MayRead : Formula → Existential → ℕ → Type 0
MayRead f y v =
    Contains y.sees v
    ⊎ ((z : Existential) × (z.variable ≡ v) × All (Contains y.sees) z.sees
    × ((Contains (existentials_of f) z × (length z.sees < length y.sees))
    ⊎ (Contains (standing_before y (existentials_of f)) z × (length z.sees ≡ length y.sees))))

-- wherever the constraints hold, the existential has the value of a function of what it may read
pub record IsDefined (f : Formula) (y : Existential) : Type 0 where
  pub value : (ℕ → Bool) → Bool
  pub reads : (m n : ℕ → Bool) → ((v : ℕ) → MayRead f y v → m v ≡ n v) → value m ≡ value n
  pub is : (m : ℕ → Bool) → Holds f m → m y.variable ≡ value m

-- and it is the value of a circuit over the formula's variables, which the text holds in the lines
-- `t y OUTPUT GATES STEPS` and of these gates
pub record HoldsDefinition (f : Formula) (text : List ℕ) (y : Existential) : Type 0 where
  pub c : Circuit
  pub output : ℕ
  pub steps : ℕ
  pub before : List (List ℕ)
  pub block : List (List ℕ)
  pub behind : List (List ℕ)
  pub lines_are : lines text ≡ before ++ (block ++ behind)
  pub block_is : AllZip (λ line row. AllZip Spells (words line) row) block
      ((word (codes "t") ∷ map natural (y.variable ∷ output ∷ length c.gates ∷ steps ∷ []))
      ∷ map gate_row c.gates)
  pub circuit : IsCircuit c
  pub ends : (c.inputs ≡ up_to f.variables) × (c.outputs ≡ output ∷ [])
  pub defined : IsDefined f y
  pub value : (m bits : ℕ → Bool) → Fits c (λ i. m (suc i)) bits → defined.value m ≡ literal_bit bits output

-- so many of these existentials are defined by the text, and so many aren't defined
abbrev pub AreDefined : Formula → List ℕ → List Existential → ℕ → ℕ → Type 0
AreDefined f text [] d r = (d ≡ 0) × (r ≡ 0)
AreDefined f text (y ∷ ys) d r =
    (HoldsDefinition f text y × ((k : ℕ) × (d ≡ suc k) × AreDefined f text ys k r))
    ⊎ ((IsDefined f y → ⊥) × ((k : ℕ) × (r ≡ suc k) × AreDefined f text ys d k))

-- THE HEADLINE: of the texts of two files, and what was written with status 0

pub record Headline (formula certificate written : List ℕ) : Type 0 where
  pub f : Formula
  pub spelled : SpellsFormula formula f
  pub says : ((written ≡ codes "VALID TRUE" ++ 10 ∷ []) × IsTrueFormula f × HoldsSkolem f certificate)
      ⊎ (((written ≡ codes "VALID FALSE" ++ 10 ∷ []) × IsFalseFormula f)
      ⊎ ((d : ℕ) × (r : ℕ) × AreDefined f certificate (existentials_of f) d r
      × (written ≡ (codes "VALID DEFINED " ++ (decimal d ++ (codes " FREE " ++ decimal r))) ++ 10 ∷ [])))

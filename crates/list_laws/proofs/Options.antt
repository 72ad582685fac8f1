-- Lemmas on options.
use Rattle.std.proofs.Common.{◌≡◌, Some, Option, None, IsSome, refl, ℕ, Bool, true, false, cond}
use Rattle.std.specs.Option.{option_and_then}

pub some_is : {X : Type 0} {x y : X} → Some x ≡ Some y → x ≡ y
some_is e = cc

pub some_same : {A : Type 0} (a b : A) → Some a ≡ Some b → a ≡ b
some_same a b e = cc

-- the one that is there
pub some_of : {X : Type 0} (o : Option X) → IsSome o → (y : X) × (o ≡ Some y)
some_of None some = cc
some_of (Some y) some = (y, refl)

pub then_some : {X Y : Type 0} (f : X → Option Y) (o : Option X) (y : Y) → option_and_then f o ≡ Some y →
    (x : X) × (o ≡ Some x) × (f x ≡ Some y)
then_some f None y h = cc
then_some f (Some x) y h = (x, refl, h)

pub cond-none : (b : Bool) (o : Option ℕ) → cond b (Some 0) o ≡ None → (b ≡ false) × (o ≡ None)
cond-none true o h = cc
cond-none false o h = (refl, h)

pub none_is_some : {X : Type 0} {x : X} → None ≡ Some x → ⊥
none_is_some is = cc

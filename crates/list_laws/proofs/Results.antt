-- Lemmas on results.
use Rattle.std.proofs.Common.{Ok, Err, OnOk, Result, OnErr, IfOk}

pub on_ok : {X E : Type 0} {P Q : Type 0} (r : Result X E) → (P → Q) → OnOk r P → OnOk r Q
on_ok (Ok x) f p = f p
on_ok (Err e) f p = tt

pub on_err : {T E P : Type 0} (r : Result T E) → P → OnErr r P
on_err (Ok x) p = tt
on_err (Err e) p = p

pub if_ok : {T E : Type 0} (result : Result T E) {P Q : T → Type 0} → ((x : T) → P x → Q x) → IfOk result P →
    IfOk result Q
if_ok (Ok x) more h = more x h
if_ok (Err e) more h = tt

pub on_both : {X E A B C : Type 0} (r : Result X E) → (A → B → C) → OnOk r A → OnOk r B → OnOk r C
on_both (Ok x) both a b = both a b
on_both (Err e) both a b = tt

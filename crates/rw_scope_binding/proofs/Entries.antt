-- What the entries of a hash table say of a name.
use Rattle.std.proofs.Common.{◌≡◌, cond, Result, Ok, Err, OnErr, List, [], ◌∷◌, Some, refl, sym, ap, ◌∙◌, if◌then◌else◌}
use Rattle.indexmap.specs.IndexMap.{IndexMap, get_by, with_entries}
use Rattle.rw_scope_rules.specs.Names.{Bytes, same_name, first_named}
use Rattle.rw_scope_rules.proofs.Basics.{swapped}

pub found : {V S : Type 0} (m : IndexMap Bytes V S) (x : Bytes) (es : List (Bytes × V)) → get_by (same_name x) (with_entries m es) ≡ first_named x es
found m x [] = refl
found m x (e ∷ es) = ap (λ r. if same_name x e.0 then Some e.1 else r) (found m x es)

-- after a name has got a value
pub updated : {V S : Type 0} (old new : IndexMap Bytes V S) (name : Bytes) (v : V) → ((q : Bytes) → get_by (same_name q) new ≡ cond (same_name name q) (Some v) (get_by (same_name q) old))
    → (x : Bytes) → first_named x new.entries ≡ first_named x ((name, v) ∷ old.entries)
updated old new name v h x =
    sym (found new x new.entries) ∙ h x ∙ ap (λ b. cond b (Some v) (get_by (same_name x) old)) (swapped name x)
    ∙ ap (λ r. if same_name x name then Some v else r) (found old x old.entries)

-- what holds in any case holds on an error
pub on_err : {T E : Type 0} (r : Result T E) (P : Type 0) → P → OnErr r P
on_err (Ok x) P p = tt
on_err (Err e) P p = p

-- Uses from the last one on.
use Rattle.std.proofs.Common.{◌≡◌, ℕ, ◌+◌, ◌-◌, ◌<◌, Bool, true, false, List, ◌∷◌, length, map, drop, get_or, Some, Result, Ok, Err, IfOk, refl, sym, ap, ◌∙◌, arith, if◌then◌else◌}
use Rattle.rw_base.specs.declared.fail.OutOfMemory.{OutOfMemory}
use Rattle.rw_scope_rules.specs.Names.{Bytes, same_name, first_named}
use Rattle.rw_types_rules.specs.declared.kind.VariableKind.{VariableKind}
use Rattle.rw_types_rules.specs.Written.{joined_kind, kind_in}
use Rattle.rw_types_equations.proofs.Rows.{drop_next}
use Rattle.rw_scope_uses.specs.declared.uses.Use.{Use}
use Rattle.rw_scope_uses.specs.Spine.{plain_uses}
use Rattle.rw_scope_rules.proofs.Basics.{one_name}
use Rattle.rw_types_world.specs.Parts.{kind_or_plain, kind_by}

-- the kinds after a name has got one
put_kind : (new old : List (Bytes × VariableKind)) (copy name : Bytes) (kind : VariableKind) → copy ≡ name → ((x : Bytes) → first_named x new ≡ first_named x ((copy, kind) ∷ old))
    → (x : Bytes) → kind_by new x ≡ (if same_name x name then kind else kind_by old x)
put_kind new old copy name kind e put x =
    ap kind_or_plain (put x ∙ ap (λ n. first_named x ((n, kind) ∷ old)) e) ∙ through (same_name x name)
  where
    through : (b : Bool) → kind_or_plain (if b then Some kind else first_named x old) ≡ (if b then kind else kind_by old x)
    through true = refl
    through false = refl

one_before : (b : Bool) (x name : Bytes) (k : Bytes → VariableKind) (f : VariableKind → VariableKind) → same_name x name ≡ b → (if b then f (k name) else k x) ≡ (if b then f (k x) else k x)
one_before true x name k f e = ap (λ n. f (k n)) (sym (one_name x name e))
one_before false x name k f e = refl

pub one_use_before : (us : List Use) (done : ℕ) (u : Use) (new old : List (Bytes × VariableKind)) (copy : Bytes) (so kind : VariableKind) → done < length us → u ≡ get_or us (length us - 1 - done) u
    → copy ≡ u.name.now → so ≡ kind_by old u.name.now → kind ≡ joined_kind so u.kind → ((x : Bytes) → first_named x new ≡ first_named x ((copy, kind) ∷ old))
    → ((x : Bytes) → kind_by old x ≡ kind_in (plain_uses (drop (length us - done) us)) x)
    → (x : Bytes) → kind_by new x ≡ kind_in (plain_uses (drop (length us - (done + 1)) us)) x
one_use_before us done u new old copy so kind l e same was is put h x =
    let i : length us - 1 - done ≡ length us - (done + 1) = omega arith in
    let next : length us - done ≡ length us - (done + 1) + 1 = omega arith in
    put_kind new old copy u.name.now kind same put x
    ∙ ap (λ k. if same_name x u.name.now then k else kind_by old x) (is ∙ ap (λ k. joined_kind k u.kind) was)
    ∙ one_before (same_name x u.name.now) x u.name.now (kind_by old) (λ k. joined_kind k u.kind) refl
    ∙ ap (λ k. if same_name x u.name.now then joined_kind k u.kind else k) (h x)
    ∙ sym (ap (λ vs. kind_in (plain_uses vs) x) (drop_next us (length us - (done + 1)) (length us - done) u (omega arith) next (e ∙ ap (λ n. get_or us n u) i)))

-- what two ways to find a kind say of each
pub ok_by : (r : Result (List VariableKind) OutOfMemory) (f g : Bytes → VariableKind) (xs : List Bytes) → ((x : Bytes) → f x ≡ g x) → IfOk r (λ ks. ks ≡ map f xs) → IfOk r (λ ks. ks ≡ map g xs)
ok_by (Ok ks) f g xs h e = e ∙ (λ i. map (λ x. h x i) xs)
ok_by (Err o) f g xs h e = e

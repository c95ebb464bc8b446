-- Scopes as a stack of names.
use Rattle.std.proofs.Common.{◌≡◌, ℕ, suc, ◌+◌, ◌-◌, ◌<◌, ◌≤◌, List, [], ◌∷◌, ◌++◌, length, refl, sym, ap, ◌∙◌, arith}
use Rattle.rw_scope_rules.specs.Names.{Bytes}
use Rattle.rw_scope_rules.specs.Bindings.{Scope, entered}
use Rattle.rw_scope_binding.specs.Stack.{lowest, below_last}

pub length-entered : (xs : List Bytes) (scope : Scope) → length (entered xs scope) ≡ length scope + length xs
length-entered [] scope = omega arith
length-entered (x ∷ xs) scope = omega (arith, length-entered xs (x ∷ scope))

pub entered-append : (xs ys : List Bytes) (scope : Scope) → entered (xs ++ ys) scope ≡ entered ys (entered xs scope)
entered-append [] ys scope = refl
entered-append (x ∷ xs) ys scope = entered-append xs ys (x ∷ scope)

-- nothing is unbound where no name is too many
pub lowest-all : (n : ℕ) (scope : Scope) → length scope ≤ n → lowest n scope ≡ scope
lowest-all n scope h = let e : length scope - n ≡ 0 = omega arith in rw e refl

pub lowest-below_last : (n : ℕ) (scope : Scope) → n < length scope → lowest n (below_last scope) ≡ lowest n scope
lowest-below_last n [] h = refl
lowest-below_last n (x ∷ scope) h = let e : suc (length scope) - n ≡ suc (length scope - n) = omega arith in rw e refl

pub lowest-under : (n : ℕ) (xs : List Bytes) (scope : Scope) → n ≤ length scope → lowest n (entered xs scope) ≡ lowest n scope
lowest-under n [] scope h = refl
lowest-under n (x ∷ xs) scope h = lowest-under n xs (x ∷ scope) (omega arith) ∙ sym (lowest-below_last n (x ∷ scope) (omega arith))

pub lowest-entered : (xs : List Bytes) (scope : Scope) → lowest (length scope) (entered xs scope) ≡ scope
lowest-entered xs scope = lowest-under (length scope) xs scope (omega arith) ∙ lowest-all (length scope) scope (omega arith)

pub lowest-entered_twice : (xs ys : List Bytes) (scope : Scope) → lowest (length scope) (entered ys (entered xs scope)) ≡ scope
lowest-entered_twice xs ys scope = ap (lowest (length scope)) (sym (entered-append xs ys scope)) ∙ lowest-entered (xs ++ ys) scope

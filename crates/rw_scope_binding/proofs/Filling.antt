-- What a table says of a name, after some are put before others.
use Rattle.std.proofs.Common.{◌≡◌, ℕ, suc, ◌+◌, ◌<◌, List, [], ◌∷◌, ◌++◌, length, map, drop, get_or, Option, Some, refl, sym, ap, ◌∙◌, if◌then◌else◌, arith}
use Rattle.std.proofs.lemmas.Grind.{common_steps}
use Rattle.rw_base.specs.declared.place.Span.{Span}
use Rattle.rw_tree.specs.Views.{itself}
use Rattle.rw_tree.specs.declared.decl.Decl.{Decl}
use Rattle.rw_tree.specs.declared.decl.Decl.TheVariants.{Data}
use Rattle.rw_tree.specs.declared.decl.DataDecl.{DataDecl}
use Rattle.rw_tree.specs.declared.decl.Constructor.{Constructor}
use Rattle.rw_tree.specs.Declarations.{Declaration, declaration, plain_constructor}
use Rattle.rw_scope_rules.specs.declared.binding.Binding.{Binding}
use Rattle.rw_scope_rules.specs.Names.{Bytes, same_name, first_named}
use Rattle.rw_scope_rules.specs.Bindings.{declared_by, declared_constructors, placed_constructors}

-- the same of what comes after some names
pub after_these : {V : Type 0} (x : Bytes) (these old new : List (Bytes × V)) → first_named x old ≡ first_named x new → first_named x (these ++ old) ≡ first_named x (these ++ new)
after_these x [] old new h = h
after_these x (v ∷ vs) old new h = ap (λ r. if same_name x v.0 then Some v.1 else r) (after_these x vs old new h)

-- one item before those that were met
one_before : {A : Type 0} (xs : List A) (n : ℕ) (a : A) → n < length xs → a ≡ get_or xs n a → drop n xs ≡ a ∷ drop (suc n) xs
one_before xs n a within read =
    let next : drop n xs ≡ a ∷ drop (n + 1) xs = grind (arith, common_steps) in
    let e : n + 1 ≡ suc n = omega arith in
    next ∙ ap (λ k. a ∷ drop k xs) e

-- one declaration more, from the last on
pub declared_more : (declared : ℕ → Declaration Span → List (Bytes × Binding)) (decls : List (Decl Span)) (n at : ℕ) (d : Decl Span) (old new : List (Bytes × Binding)) (x : Bytes)
    → n < length decls → at ≡ n + 1 → d ≡ get_or decls n d
    → first_named x old ≡ first_named x (declared_by declared at (map (declaration itself) (drop at decls)))
    → first_named x new ≡ first_named x (declared n (declaration itself d) ++ old)
    → first_named x new ≡ first_named x (declared_by declared n (map (declaration itself) (drop n decls)))
declared_more declared decls n at d old new x within step read so_far put =
    let e : at ≡ suc n = omega arith in
    put
    ∙ after_these x (declared n (declaration itself d)) old (declared_by declared (suc n) (map (declaration itself) (drop (suc n) decls)))
    (so_far ∙ ap (λ k. first_named x (declared_by declared k (map (declaration itself) (drop k decls)))) e)
    ∙ ap (λ ds. first_named x (declared_by declared n (map (declaration itself) ds))) (sym (one_before decls n d within read))

-- the constructors of a data type, put before what is there
pub data_put : (d : Decl Span) (a : Span) (made : DataDecl) (n m : ℕ) (slice : List Constructor) (old : List (Bytes × Binding)) (r : Option Binding) (x : Bytes)
    → d ≡ Data a made → m ≡ n → slice ≡ made.constructors
    → r ≡ first_named x (placed_constructors m 0 (map plain_constructor slice) ++ old) → r ≡ first_named x (declared_constructors n (declaration itself d) ++ old)
data_put d a made n m slice old r x is place read put = put ∙ (rw (is, place, read) refl)

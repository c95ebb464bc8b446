-- Sets that have the same names answer alike, in whatever order they were put in.
use Rattle.std.proofs.Common.{◌≡◌, ◌≢◌, ◌∙◌, ℕ, ◌+◌, ◌<◌, refl, sym, ap, List, [], ◌∷◌, ◌++◌, drop, get_or, length, arith, map, flat_map, Bool, true, false, ◌||◌, ◌&&◌}
use Rattle.std.proofs.lemmas.Grind.{common_steps}
use Rattle.rw_base.specs.declared.place.Span.{Span}
use Rattle.rw_tree.specs.Views.{itself}
use Rattle.rw_tree.specs.declared.types.Written.{Written}
use Rattle.rw_tree.specs.declared.decl.DataDecl.{DataDecl}
use Rattle.rw_tree.specs.declared.decl.Decl.{Decl}
use Rattle.rw_tree.specs.declared.decl.Decl.TheVariants.{Import, Data, Fixity, Sig, Fun}
use Rattle.rw_tree.specs.Declarations.{declaration, Declaration}
use Rattle.rw_scope_rules.specs.Names.{Bytes, same_name, is_among}
use Rattle.rw_scope_rules.specs.Bindings.{names_of}
use Rattle.rw_scope_rules.specs.Scope.{spread, constructors_at, signatures_at, are_among}

pub are_among-alike : (a b : List Bytes) → ((x : Bytes) → is_among x a ≡ is_among x b) → (names : List Bytes) → are_among names a ≡ are_among names b
are_among-alike a b same [] = refl
are_among-alike a b same (x ∷ names) = ap (λ v. v && are_among names a) (same x) ∙ ap (λ v. is_among x b && v) (are_among-alike a b same names)

-- names behind names
or_assoc : (a b c : Bool) → ((a || b) || c) ≡ (a || (b || c))
or_assoc true b c = refl
or_assoc false b c = refl

is_among-append : (x : Bytes) (a b : List Bytes) → is_among x (a ++ b) ≡ (is_among x a || is_among x b)
is_among-append x [] b = refl
is_among-append x (y ∷ a) b = ap (λ v. same_name x y || v) (is_among-append x a b) ∙ sym (or_assoc (same_name x y) (is_among x a) (is_among x b))

names_of-append : {X : Type 0} (us vs : List (Bytes × X)) → names_of (us ++ vs) ≡ names_of us ++ names_of vs
names_of-append [] vs = refl
names_of-append (u ∷ us) vs = ap (λ r. u.0 ∷ r) (names_of-append us vs)

pub names_of-spread : (a : Span) (names : List Bytes) → names_of (spread a names) ≡ names
names_of-spread a [] = refl
names_of-spread a (x ∷ names) = ap (λ r. x ∷ r) (names_of-spread a names)

or_between : (a b c : Bool) → (b || (a || c)) ≡ ((a || b) || c)
or_between true true c = refl
or_between true false c = refl
or_between false b c = refl

-- the names of one declaration more are put in: what is left is left behind these
pub declared_put : (names_at : Declaration Span → List (Bytes × Span)) (decls : List (Decl Span)) (i : ℕ) (d : Decl Span) (now old added : List Bytes) (x : Bytes) (whole : Bool)
    → i < length decls → d ≡ get_or decls i d → names_of (names_at (declaration itself d)) ≡ added → is_among x now ≡ (is_among x added || is_among x old)
    → (is_among x (names_of (flat_map names_at (map (declaration itself) (drop i decls)))) || is_among x old) ≡ whole
    → (is_among x (names_of (flat_map names_at (map (declaration itself) (drop (i + 1) decls)))) || is_among x now) ≡ whole
declared_put names_at decls i d now old added x whole within read same told so_far =
    let next : drop i decls ≡ d ∷ drop (i + 1) decls = grind (arith, common_steps) in
    let left = flat_map names_at (map (declaration itself) (drop (i + 1) decls)) in
    let here = names_at (declaration itself d) in
    ap (λ v. is_among x (names_of left) || v) told ∙ or_between (is_among x added) (is_among x (names_of left)) (is_among x old)
    ∙ ap (λ v. v || is_among x old) (sym (ap (is_among x) (names_of-append here left ∙ ap (λ ns. ns ++ names_of left) same) ∙ is_among-append x added (names_of left)))
    ∙ ap (λ ds. is_among x (names_of (flat_map names_at (map (declaration itself) ds))) || is_among x old) (sym next) ∙ so_far

-- a declaration that is no data type has no constructors, and one that is no signature none
pub no_constructors : (d : Decl Span) → ((a : Span) (made : DataDecl) → d ≢ Data a made) → constructors_at (declaration itself d) ≡ []
no_constructors (Import a m) h = refl
no_constructors (Data a made) h = absurd (h a made refl)
no_constructors (Fixity a side strength names) h = refl
no_constructors (Sig a names type) h = refl
no_constructors (Fun a x clauses) h = refl

pub no_signatures : (d : Decl Span) → ((a : Span) (names : List Bytes) (type : Written) → d ≢ Sig a names type) → signatures_at (declaration itself d) ≡ []
no_signatures (Import a m) h = refl
no_signatures (Data a made) h = refl
no_signatures (Fixity a side strength names) h = refl
no_signatures (Sig a names type) h = absurd (h a names type refl)
no_signatures (Fun a x clauses) h = refl

or_turned : (a b c : Bool) → (c || (b || a)) ≡ (a || (b || c))
or_turned true true true = refl
or_turned true true false = refl
or_turned true false true = refl
or_turned true false false = refl
or_turned false true true = refl
or_turned false true false = refl
or_turned false false true = refl
or_turned false false false = refl

-- the last and then the second of three are put in behind the first
pub three_put : (x : Bytes) (whole some first second third : List Bytes) → is_among x whole ≡ (is_among x third || is_among x some) → is_among x some ≡ (is_among x second || is_among x first)
    → is_among x whole ≡ is_among x (first ++ (second ++ third))
three_put x whole some first second third told before =
    told ∙ ap (λ v. is_among x third || v) before ∙ or_turned (is_among x first) (is_among x second) (is_among x third)
    ∙ ap (λ v. is_among x first || v) (sym (is_among-append x second third)) ∙ sym (is_among-append x first (second ++ third))

or_false : (a : Bool) → (a || false) ≡ a
or_false true = refl
or_false false = refl

-- what was put into an empty set
pub put_in_none : (x : Bytes) (set none given names : List Bytes) → none ≡ [] → given ≡ names → is_among x set ≡ (is_among x given || is_among x none) → is_among x set ≡ is_among x names
put_in_none x set none given names empty same told =
    told ∙ ap (λ ns. is_among x given || is_among x ns) empty ∙ or_false (is_among x given) ∙ ap (is_among x) same

-- both of two lists are known, or the first is not
pub both_known : (first second types set params : List Bytes) (one other both : Bool) → ((x : Bytes) → is_among x set ≡ is_among x params) → one ≡ are_among first types → other ≡ are_among second set
    → one ≡ true → both ≡ other → both ≡ (are_among first types && are_among second params)
both_known first second types set params one other both alike is_one is_other holds is =
    is ∙ is_other ∙ are_among-alike set params alike second ∙ sym (ap (λ v. v && are_among second params) (sym is_one ∙ holds))

pub first_unknown : (first second types params : List Bytes) (one both : Bool) → one ≡ are_among first types → one ≡ false → both ≡ false → both ≡ (are_among first types && are_among second params)
first_unknown first second types params one both is_one fails is = is ∙ sym (ap (λ v. v && are_among second params) (sym is_one ∙ fails))

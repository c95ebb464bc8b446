-- Patterns, guards and clauses, from their forms in the tree.
use Rattle.std.proofs.Common.{◌≡◌, ◌∙◌, ℕ, suc, zero, ◌-◌, ◌<◌, List, [], ◌∷◌, ◌++◌, map, length, get_or, Bool, true, false, refl, sym, ap, arith, IfOk, Result, Ok, Err}
use Rattle.std.specs.Bool.{◌==◌}
use Rattle.rw_scope_rules.specs.declared.binding.Bound.{Bound}
use Rattle.rw_cover.specs.declared.known.Known.{Known}
use Rattle.rw_tree.specs.Views.{itself}
use Rattle.rw_tree.specs.declared.pattern.Pat.{Pat}
use Rattle.rw_tree.specs.declared.pattern.Pat.TheVariants as pat
use Rattle.rw_tree.specs.declared.clause.Guard.{Guard}
use Rattle.rw_tree.specs.declared.clause.Rhs.{Rhs}
use Rattle.rw_tree.specs.declared.clause.Rhs.TheVariants as rhs
use Rattle.rw_tree.specs.Patterns.{pattern, patterns, pattern_parts as tree_parts}
use Rattle.rw_tree.specs.Patterns.{Pattern as TreePattern}
use Rattle.rw_tree.specs.Trees.{body_parts, guarded, right_side, expression}
use Rattle.rw_tree.proofs.Plains.{pattern-Con, pattern-Tuple, guarded-parts, right_side-Guarded}
use Rattle.rw_cover_matrix.specs.declared.pattern.Pattern.{Pattern}
use Rattle.rw_cover_matrix.specs.declared.pattern.Pattern.TheVariants as cell
use Rattle.rw_cover_matrix.specs.Matching.{PlainPattern, constructed, more_patterns, plain, plain_row, plain_rows, pattern_parts}
use Rattle.rw_cover_matrix.proofs.Plains.{plain-Con}
use Rattle.rw_cover.specs.Rows.{built_by, matrix_pattern, matrix_parts, matrix_row, always_holds, test_of, last_holds, is_total}

-- == Patterns ==

parts_plain : (counts : List ℕ) (ps : List (TreePattern Bound)) → matrix_parts counts (tree_parts ps) ≡ pattern_parts (matrix_row counts ps)
parts_plain counts [] = refl
parts_plain counts (p ∷ ps) = ap (λ x. more_patterns (matrix_pattern counts p) x) (parts_plain counts ps)

pub con_is : (counts : List ℕ) (p : Pat Bound) (a : Bound) (x : List ℕ) (parts slice : List (Pat Bound)) (row : List Pattern) (made : Pattern) → p ≡ pat.Con a x parts → slice ≡ parts → plain_row row ≡ matrix_row counts (patterns itself slice) → plain made ≡ built_by counts a.bound (pattern_parts (plain_row row)) → plain made ≡ matrix_pattern counts (pattern itself p)
con_is counts p a x parts slice row made e s r m =
    m
    ∙ ap (λ q. built_by counts a.bound (pattern_parts q)) (r ∙ ap (λ q. matrix_row counts (patterns itself q)) s)
    ∙ ap (built_by counts a.bound) (sym (parts_plain counts (patterns itself parts)))
    ∙ sym (ap (λ q. matrix_pattern counts (pattern itself q)) e ∙ ap (matrix_pattern counts) (pattern-Con itself a x parts))

pub tuple_is : (counts : List ℕ) (p : Pat Bound) (a : Bound) (parts slice : List (Pat Bound)) (row : List Pattern) → p ≡ pat.Tuple a parts → slice ≡ parts → plain_row row ≡ matrix_row counts (patterns itself slice) → plain (cell.Con 0 1 row) ≡ matrix_pattern counts (pattern itself p)
tuple_is counts p a parts slice row e s r =
    plain-Con 0 1 row
    ∙ ap (λ q. constructed 0 1 (pattern_parts q)) (r ∙ ap (λ q. matrix_row counts (patterns itself q)) s)
    ∙ ap (constructed 0 1) (sym (parts_plain counts (patterns itself parts)))
    ∙ sym (ap (λ q. matrix_pattern counts (pattern itself q)) e ∙ ap (matrix_pattern counts) (pattern-Tuple itself a parts))

-- == Guards ==

pub last_at : (known : Known) (guards : List (Guard Bound)) (n : ℕ) (g : Guard Bound) → length guards ≡ suc n → g ≡ get_or guards n g → last_holds known (body_parts (map (guarded itself) guards)) ≡ always_holds known (expression itself g.test)
last_at known [] n g h e = absurd (omega arith)
last_at known (x ∷ []) zero g h e = ap (λ b. always_holds known (test_of b)) (guarded-parts itself x) ∙ ap (λ y. always_holds known (expression itself y.test)) (sym e)
last_at known (x ∷ []) (suc n) g h e = absurd (omega arith)
last_at known (x ∷ y ∷ guards) zero g h e = absurd (omega arith)
last_at known (x ∷ y ∷ guards) (suc n) g h e = last_at known (y ∷ guards) n g (omega arith) e

some_length : (n : ℕ) → false ≡ (n == 0) → 0 < n
some_length zero h = absurd (let f : false ≡ true = h in cc)
some_length (suc n) h = omega arith

pub total_is : (known : Known) (r : Rhs Bound) (guards slice : List (Guard Bound)) (g : Guard Bound) (b : Bool) → r ≡ rhs.Guarded guards → slice ≡ guards → false ≡ (length slice == 0) → g ≡ get_or slice (length slice - 1) g → b ≡ always_holds known (expression itself (get_or slice (length slice - 1) g).test) → b ≡ is_total known (right_side itself r)
total_is known r guards slice g b e s some at holds =
    let n = some_length (length slice) some in
    holds
    ∙ ap (λ (x : Guard Bound). always_holds known (expression itself x.test)) (sym at)
    ∙ sym (last_at known slice (length slice - 1) g (omega arith) at)
    ∙ ap (λ x. last_holds known (body_parts (map (guarded itself) x))) s
    ∙ sym (ap (λ x. is_total known (right_side itself x)) e ∙ ap (is_total known) (right_side-Guarded itself guards))

-- == Rows ==

-- one row
pub one_row : (new old : List (List Pattern)) (row : List Pattern) (is : List PlainPattern) → new ≡ old ++ row ∷ [] → old ≡ [] → plain_row row ≡ is → plain_rows new ≡ is ∷ []
one_row new old row is e z r = ap plain_rows (e ∙ ap (λ x. x ++ row ∷ []) z) ∙ ap (λ x. x ∷ []) r

pub if_ok_weaker : {T E : Type 0} (r : Result T E) {P Q : T → Type 0} → ((x : T) → P x → Q x) → IfOk r P → IfOk r Q
if_ok_weaker (Ok x) f h = f x h
if_ok_weaker (Err e) f h = tt

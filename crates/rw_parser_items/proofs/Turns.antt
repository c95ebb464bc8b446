-- One turn of each kind of loop.
use Rattle.std.proofs.Common.{◌≡◌, ℕ, suc, ◌+◌, true, false, List, [], ◌∷◌, ◌++◌, drop, Some, None, refl, sym, ◌∙◌, ap, append-nil, add-one, length, ◌≤◌, get_or, Result, Ok, Err, IfOk, arith}
use Rattle.rw_parser_grammar.specs.declared.lexeme.Lexeme.{Lexeme}
use Rattle.rw_parser_grammar.specs.Declarations.{pointed}
use Rattle.rw_parser_reading.specs.Read.{◌>>=◌, many_at, begins_variable}
use Rattle.rw_parser_reading.specs.ReadDeclarations.{class_name_at, sees_point, module_parts_at, module_name_at, parameters_at}
use Rattle.rw_parser_patterns.proofs.Turns.{with_front, front_again}
use Rattle.rw_parser_items.specs.Named.{with_points, parameter_at}

-- ---- the parts of a module's name
pub parts_last : (n m : ℕ) (ts : List Lexeme) (front : List (List ℕ)) (a : List ℕ) (rest : List Lexeme) → n ≡ m + 1 → class_name_at ts ≡ Some (a, rest) → sees_point rest ≡ false
    → with_front front (module_parts_at n ts) ≡ Some (front ++ a ∷ [], rest)
unfolding module_parts_at
parts_last n m ts front a rest e h c = rw (e, add-one m, h, c)

parts_go : (n : ℕ) (ts : List Lexeme) (a : List ℕ) (rest : List Lexeme) → class_name_at ts ≡ Some (a, rest) → sees_point rest ≡ true
    → module_parts_at (suc n) ts ≡ (module_parts_at n (drop 1 rest) >>= λ q. Some (a ∷ q.0, q.1))
unfolding module_parts_at
parts_go n ts a rest h c = rw (h, c)

pub parts_step : (n m : ℕ) (ts : List Lexeme) (front : List (List ℕ)) (a : List ℕ) (rest : List Lexeme) → n ≡ m + 1 → class_name_at ts ≡ Some (a, rest) → sees_point rest ≡ true
    → with_front (front ++ a ∷ []) (module_parts_at m (drop 1 rest)) ≡ with_front front (module_parts_at n ts)
parts_step n m ts front a rest e h c =
    front_again front a (module_parts_at m (drop 1 rest)) ∙ sym (ap (with_front front) (ap (λ x. module_parts_at x ts) (e ∙ add-one m) ∙ parts_go m ts a rest h c))

pub parts_fail : (n m : ℕ) (ts : List Lexeme) (front : List (List ℕ)) → n ≡ m + 1 → class_name_at ts ≡ None → with_front front (module_parts_at n ts) ≡ None
unfolding module_parts_at
parts_fail n m ts front e h = rw (e, add-one m, h)

pub parts_none : (n : ℕ) (ts : List Lexeme) (front : List (List ℕ)) → n ≡ 0 → with_front front (module_parts_at n ts) ≡ None
unfolding module_parts_at
parts_none n ts front e = rw e

pub name_turns : (ts : List Lexeme) → module_name_at ts ≡ module_parts_at (length ts) ts
unfolding module_name_at
name_turns ts = refl

-- a name with points is its first part, and each of the others behind a point
pub points : (first : List ℕ) (others : List (List ℕ)) → first ++ with_points others ≡ pointed (first ∷ others)
points first [] = append-nil first
points first (next ∷ others) = ap (λ z. first ++ 46 ∷ z) (points next others)

pub pointed_whole : {E : Type 0} (r : Result (List ℕ) E) (parts others : List (List ℕ)) (first : List ℕ) → 1 ≤ length parts → first ≡ get_or parts 0 first → others ≡ drop 1 parts
    → IfOk r (λ made. made ≡ first ++ with_points others) → IfOk r (λ made. made ≡ pointed parts)
pointed_whole r [] others first l e o h = absurd (omega arith)
pointed_whole (Ok made) (n ∷ ns) others first l e o h = h ∙ ap (λ z. first ++ with_points z) o ∙ ap (λ z. z ++ with_points ns) e ∙ points n ns
pointed_whole (Err x) (n ∷ ns) others first l e o h = tt

-- ---- the variables of a data type
pub parameter_turns : (ts : List Lexeme) → parameters_at ts ≡ many_at begins_variable parameter_at (length ts) ts
unfolding parameters_at
parameter_turns ts = refl

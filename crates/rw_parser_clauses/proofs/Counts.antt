-- How many frames stand in what readers have in hand before it is a tree: heads, chains, steps, and the entries of a block.
use Rattle.std.specs.Str.{bytes_eq}
use Rattle.std.proofs.Common.{◌≡◌, ℕ, zero, suc, max, Bool, true, false, List, [], ◌∷◌, ◌++◌, refl, ap, ◌∙◌, arith}
use Rattle.rw_base.specs.declared.place.Span.{Span}
use Rattle.rw_tree.specs.declared.expr.Expr.{Expr}
use Rattle.rw_tree.specs.declared.types.Written.TheVariants as y
use Rattle.rw_tree.specs.declared.clause.Alt.{Alt}
use Rattle.rw_tree.specs.declared.clause.Local.{Local}
use Rattle.rw_parser_grammar.specs.declared.item.Bound.{Bound}
use Rattle.rw_parser_grammar.specs.declared.item.Bound.TheVariants as b
use Rattle.rw_parser_grammar.specs.declared.lexeme.Lexeme.{Lexeme}
use Rattle.rw_parser_grammar.specs.Lexemes.{span_at}
use Rattle.rw_parser_grammar.specs.Clauses.{Group, alone, clauses, clause_before, local_groups, rows_span, locals_of}
use Rattle.rw_parser_reading.specs.Frames.{most, frames_of_type, frames_of_expression, frames_of_row, frames_of_local, frames_of_bound}
use Rattle.rw_parser_reading.proofs.FramesOf.{frames-type-Tuple, frames-type-Fun, frames-Lambda, frames-Let, frames-If, frames-chained, frames-local-Fun}
use Rattle.rw_parser_parts.specs.declared.frame.Head.{Head}
use Rattle.rw_parser_parts.specs.declared.frame.Head.TheVariants as h
use Rattle.rw_parser_parts.specs.declared.frame.Frame.{Frame}
use Rattle.rw_parser_parts.specs.declared.frame.Chain.{Chain}
use Rattle.rw_parser_parts.specs.declared.frame.Step.{Step}
use Rattle.rw_parser_parts.specs.declared.frame.Step.TheVariants as s
use Rattle.rw_parser_parts.specs.Steps.{headed, closed}
use Rattle.rw_parser_parts.specs.Within.{deep_type}

pub most_append : {A : Type 0} (frames : A → ℕ) (xs : List A) (a : A) → most frames (xs ++ a ∷ []) ≡ max (most frames xs) (frames a)
most_append frames [] a = omega arith
most_append frames (x ∷ xs) a = let i = most_append frames xs a in omega arith

-- ---- types
pub frames-deep_type : (n : ℕ) → frames_of_type (deep_type n) ≡ n
frames-deep_type zero = frames-type-Tuple []
frames-deep_type (suc n) =
    let i = frames-deep_type n in
    let d = frames-type-Fun (y.Tuple []) (deep_type n) in
    let c = frames-type-Tuple [] in
    omega arith

-- ---- heads, chains and steps
abbrev pub frames_of_head : Head → ℕ
frames_of_head (h.Lambda pats) = 0
frames_of_head (h.Let locals) = most frames_of_local locals
frames_of_head (h.If test first) = max (frames_of_expression test) (frames_of_expression first)

pub frames-headed : (head : Head) (span : Span) (body : Expr Span) → frames_of_expression (headed head span body) ≡ max (frames_of_head head) (suc (frames_of_expression body))
frames-headed (h.Lambda pats) span body = let i = frames-Lambda span pats body in omega arith
frames-headed (h.Let locals) span body = frames-Let span locals body
frames-headed (h.If test first) span body = let i = frames-If span test first body in omega arith

abbrev pub frames_of_chain : Chain → ℕ
frames_of_chain chain = most frames_of_expression chain.operands

abbrev pub frames_of_frame : Frame → ℕ
frames_of_frame frame = max (most frames_of_expression frame.operands) (frames_of_head frame.head)

pub frames-closed : (frame : Frame) (body : Expr Span) (rest : List Lexeme) → frames_of_expression (closed frame body rest) ≡ max (frames_of_frame frame) (suc (frames_of_expression body))
unfolding closed
frames-closed frame body rest =
    let last : Expr Span = headed frame.head (span_at frame.head_at rest) body in
    let i = frames-headed frame.head (span_at frame.head_at rest) body in
    let j = most_append frames_of_expression frame.operands last in
    let k = frames-chained (span_at frame.at rest) (frame.operands ++ last ∷ []) frame.operators in
    omega arith

abbrev pub frames_of_step : Step → ℕ
frames_of_step (s.Whole tree) = frames_of_expression tree
frames_of_step (s.Opens frame) = frames_of_frame frame

-- ---- the entries of a block
abbrev frames_of_group : Group (Local Span) → ℕ
frames_of_group (alone a) = frames_of_local a
frames_of_group (clauses name row rows) = max (frames_of_row row) (most frames_of_row rows)

groups_most : (groups : List (Group (Local Span))) → most frames_of_local (locals_of groups) ≡ most frames_of_group groups
groups_most [] = refl
groups_most (alone a ∷ groups) = ap (max (frames_of_local a)) (groups_most groups)
groups_most (clauses name row rows ∷ groups) =
    ap (λ n. max n (most frames_of_local (locals_of groups))) (frames-local-Fun (rows_span row rows) name (row ∷ rows)) ∙ ap (max (max (frames_of_row row) (most frames_of_row rows))) (groups_most groups)

clause_most : (name : List ℕ) (row : Alt Span) (groups : List (Group (Local Span))) → most frames_of_group (clause_before name row groups) ≡ max (frames_of_row row) (most frames_of_group groups)
clause_most name row [] = omega arith
clause_most name row (alone a ∷ groups) = omega arith
clause_most name row (clauses other first rows ∷ groups) = by_name (bytes_eq name other) refl
  where
    by_name : (x : Bool) → bytes_eq name other ≡ x
        → most frames_of_group (clause_before name row (clauses other first rows ∷ groups)) ≡ max (frames_of_row row) (most frames_of_group (clauses other first rows ∷ groups))
    by_name true k = rw k (omega arith)
    by_name false k = rw k (omega arith)

entries_most : (entries : List Bound) → most frames_of_group (local_groups entries) ≡ most frames_of_bound entries
entries_most [] = refl
entries_most (b.Clause name row ∷ entries) = clause_most name row (local_groups entries) ∙ ap (max (frames_of_row row)) (entries_most entries)
entries_most (b.Whole a ∷ entries) = ap (max (frames_of_local a)) (entries_most entries)

pub frames-locals : (entries : List Bound) → most frames_of_local (locals_of (local_groups entries)) ≡ most frames_of_bound entries
frames-locals entries = groups_most (local_groups entries) ∙ entries_most entries

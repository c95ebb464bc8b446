-- The groups of `rw_cover` have the rows of the tree, as rows of the matrix.
use Rattle.std.proofs.Common.{append-nil, ◌≡◌, refl, sym, ap, ◌∙◌, ℕ, List, [], ◌∷◌, ◌++◌, flat_map, if◌then◌else◌}
use Rattle.rw_scope_rules.specs.declared.binding.Bound.{Bound}
use Rattle.rw_scope_rules.specs.Nodes.{Node, expression_node, pattern_node, clause_node, group_node, binding_node, statement_node, declaration_nodes, clauses_of}
use Rattle.rw_tree.specs.Patterns.{Pattern}
use Rattle.rw_tree.specs.Trees.{variable, constructor, application, tuple, chain, lambda, let_in, if_then_else, case_of, do_block, Alternative, alternative, RightSide, plain_side, guarded_side, no_bodies, more_bodies}
use Rattle.rw_tree.specs.Trees.{local_signature, local_function, local_pattern, bind_statement, let_statement, run_statement}
use Rattle.rw_tree.specs.Declarations.{Declaration, import_declaration, data_declaration, fixity_declaration, signature_declaration, function_declaration, PlainProgram}
use Rattle.rw_cover_matrix.specs.Matching.{PlainPattern}
use Rattle.rw_cover.specs.declared.known.Known.{Known}
use Rattle.rw_cover.specs.Rows.{matrix_row, is_total, last_holds, counted_row, counted_rows, counts_of, known_of}
use Rattle.rw_cover.specs.Coverage.{Group, clauses_group, node_group, declaration_groups, groups_of}
use Rattle.rw_meaning_matching.specs.Rows.{PatternRow, has_body, row_with, pattern_row, pattern_rows, clauses_rows, node_rows, declaration_rows, rows_of}

-- a row that counts, as a row of the matrix
abbrev pub counted_of : List ℕ → PatternRow → List (List PlainPattern)
counted_of counts r = if r.counts then matrix_row counts r.patterns ∷ [] else []

-- group by group
abbrev pub AreSame : List ℕ → List Group → List (List PatternRow) → Type 0
AreSame counts [] [] = Unit {0}
AreSame counts (g ∷ gs) (r ∷ rs) = (g.rows ≡ flat_map (counted_of counts) r) × AreSame counts gs rs
AreSame counts _ _ = ⊥

module _ (counts : List ℕ) where
  same_behind : (gs hs : List Group) (rs ss : List (List PatternRow)) → AreSame counts gs rs → AreSame counts hs ss → AreSame counts (gs ++ hs) (rs ++ ss)
  same_behind [] hs [] ss h k = k
  same_behind [] hs (r ∷ rs) ss h k = absurd h
  same_behind (g ∷ gs) hs [] ss h k = absurd h
  same_behind (g ∷ gs) hs (r ∷ rs) ss h k = (h.0, same_behind gs hs rs ss h.1 k)

  module _ (known : Known) where
    -- a right side that is always taken has a body
    same_side : (pats : List (Pattern Bound)) (side : RightSide Bound) (others : List (List PlainPattern)) (rest : List PatternRow) → others ≡ flat_map (counted_of counts) rest
        → ((if is_total known side then matrix_row counts pats ∷ [] else []) ++ others) ≡ flat_map (counted_of counts) ((if has_body side then row_with known pats side ∷ [] else []) ++ rest)
    same_side pats (plain_side body) others rest e = ap (λ (rows : List (List PlainPattern)). matrix_row counts pats ∷ rows) e
    same_side pats (guarded_side no_bodies) others rest e = e
    same_side pats (guarded_side (more_bodies b bs)) others rest e =
        ap (λ (rows : List (List PlainPattern)). (if last_holds known (more_bodies b bs) then matrix_row counts pats ∷ [] else []) ++ rows) e

    same_rows : (cs : List (Alternative Bound)) → counted_rows counts known cs ≡ flat_map (counted_of counts) (pattern_rows known cs)
    same_rows [] = refl
    same_rows (alternative a pats side wheres ∷ cs) = same_side pats side (counted_rows counts known cs) (pattern_rows known cs) (same_rows cs)

    same_row : (c : Alternative Bound) → counted_row counts known c ≡ flat_map (counted_of counts) (pattern_row known c)
    same_row (alternative a pats side wheres) =
        sym (append-nil (if is_total known side then matrix_row counts pats ∷ [] else [])) ∙ same_side pats side [] [] refl
        ∙ ap (flat_map (counted_of counts)) (append-nil (if has_body side then row_with known pats side ∷ [] else []))

    same_clauses : (cs : List (Alternative Bound)) → AreSame counts (clauses_group counts known cs) (clauses_rows known cs)
    same_clauses [] = tt
    same_clauses (alternative a pats side wheres ∷ cs) = (same_rows (alternative a pats side wheres ∷ cs), tt)

    same_node : (n : Node Bound) → AreSame counts (node_group counts known n) (node_rows known n)
    same_node (expression_node (variable a x)) = tt
    same_node (expression_node (constructor a c)) = tt
    same_node (expression_node (application a head parts)) = tt
    same_node (expression_node (tuple a parts)) = tt
    same_node (expression_node (chain a operands operators)) = tt
    same_node (expression_node (lambda a pats body)) = (refl, tt)
    same_node (expression_node (let_in a group body)) = tt
    same_node (expression_node (if_then_else a test first second)) = tt
    same_node (expression_node (case_of a scrutinee rows)) = (same_rows (clauses_of rows), tt)
    same_node (expression_node (do_block a steps)) = tt
    same_node (pattern_node p) = tt
    same_node (clause_node c) = tt
    same_node (group_node group) = tt
    same_node (binding_node (local_signature a x type)) = tt
    same_node (binding_node (local_function a x clauses)) = same_clauses (clauses_of clauses)
    same_node (binding_node (local_pattern a bound)) = (same_row bound, tt)
    same_node (statement_node (bind_statement a p e)) = (refl, tt)
    same_node (statement_node (let_statement a group)) = tt
    same_node (statement_node (run_statement a e)) = tt

    same_nodes : (ns : List (Node Bound)) → AreSame counts (flat_map (node_group counts known) ns) (flat_map (node_rows known) ns)
    same_nodes [] = tt
    same_nodes (n ∷ ns) = same_behind (node_group counts known n) (flat_map (node_group counts known) ns) (node_rows known n) (flat_map (node_rows known) ns) (same_node n) (same_nodes ns)

    same_declaration : (d : Declaration Bound) → AreSame counts (declaration_groups counts known d) (declaration_rows known d)
    same_declaration (import_declaration a m) = tt
    same_declaration (data_declaration a x params constructors) = tt
    same_declaration (fixity_declaration a side strength names) = tt
    same_declaration (signature_declaration a names type) = tt
    same_declaration (function_declaration a x clauses) =
        same_behind (clauses_group counts known clauses) (flat_map (node_group counts known) (declaration_nodes (function_declaration a x clauses)))
        (clauses_rows known clauses) (flat_map (node_rows known) (declaration_nodes (function_declaration a x clauses))) (same_clauses clauses) (same_nodes (declaration_nodes (function_declaration a x clauses)))

    same_declarations : (ds : List (Declaration Bound)) → AreSame counts (flat_map (declaration_groups counts known) ds) (flat_map (declaration_rows known) ds)
    same_declarations [] = tt
    same_declarations (d ∷ ds) =
        same_behind (declaration_groups counts known d) (flat_map (declaration_groups counts known) ds) (declaration_rows known d) (flat_map (declaration_rows known) ds) (same_declaration d) (same_declarations ds)

pub program_same : (program : PlainProgram Bound) → AreSame (counts_of program.declarations) (groups_of program) (rows_of program)
program_same program = same_declarations (counts_of program.declarations) (known_of program.declarations) program.declarations

-- Closing commutes with what nodes name, and with their types.
use Rattle.std.proofs.Common.{◌≡◌, ℕ, suc, List, [], ◌∷◌, ◌++◌, Some, map, refl, sym, ◌∙◌, ap}
use Rattle.std.specs.List.{flat_map}
use Rattle.rw_tree.specs.Views.{itself}
use Rattle.rw_tree.specs.declared.decl.Decl.{Decl}
use Rattle.std.proofs.lemmas.List.{map-append}
use Rattle.rw_tree.specs.Patterns.{Pattern, wildcard, variable_pattern, constructor_pattern, tuple_pattern}
use Rattle.rw_tree.specs.Trees.{Expression, variable, constructor, application, tuple, chain, lambda, let_in, if_then_else, case_of, do_block}
use Rattle.rw_tree.specs.Trees.{alternative, local_signature, local_function, local_pattern}
use Rattle.rw_tree.specs.Declarations.{Declaration, declaration, import_declaration, data_declaration, fixity_declaration, signature_declaration, function_declaration}
use Rattle.rw_scope_rules.specs.Nodes.{Node, expression_node, pattern_node, clause_node, group_node, binding_node, statement_node, clause_nodes, declaration_nodes}
use Rattle.rw_types_solving.specs.Types.{Ty}
use Rattle.rw_types_rules.specs.Relabelled.{relabelled_pattern, relabelled_expression, relabelled_declaration}
use Rattle.rw_types_rules.specs.TypedTrees.{TypedNode, expression_label, expression_type, pattern_label, pattern_type}
use Rattle.rw_types_instances.specs.Instances.{closed_by, closed_node, in_instance}
use Rattle.rw_types_equations.specs.declared.numbered.Numbered.{Numbered}
use Rattle.rw_types_equations.specs.Numbered.{numbers_from, typed_by}
use Rattle.rw_types_numbering.proofs.Relabelling.{twice_declaration, alike_declaration}
use Rattle.rw_types_numbering.proofs.Typed.{seen_is}
use Rattle.rw_cover_laws.proofs.Relabelled.{relabelled_node, nodes_relabelled}
use Rattle.specialise_rules.specs.Instances.{Mention, named_at, mentioned_in, from_left}
use Rattle.specialise_rules.specs.Tables.{types_at, types_in}
use Rattle.specialise_mentions.specs.Named.{named_in}
use Rattle.specialise_mentions.specs.Typed.{numbers_at, numbers_in}

map_twice : {A B C : Type 0} (f : A → B) (g : B → C) (xs : List A) → map g (map f xs) ≡ map (λ x. g (f x)) xs
map_twice f g [] = refl
map_twice f g (x ∷ xs) = ap (λ z. g (f x) ∷ z) (map_twice f g xs)

node_closed : (arguments : List Ty) (t : ℕ → Ty) (a : Numbered) → closed_node arguments (typed_by t a) ≡ typed_by (λ x. closed_by arguments (t x)) a
node_closed arguments t a =
    λ i. record { node = a.node; type = closed_by arguments (t a.number); arguments = map_twice t (closed_by arguments) (numbers_from (suc a.number) a.arguments) i }

-- a numbered declaration in an instance
instance_typed : (arguments : List Ty) (t : ℕ → Ty) (tree : Decl Numbered) → in_instance arguments (declaration (typed_by t) tree) ≡ relabelled_declaration (typed_by (λ x. closed_by arguments (t x))) (declaration itself tree)
instance_typed arguments t tree =
    ap (in_instance arguments) (seen_is t tree)
    ∙ twice_declaration (typed_by t) (closed_node arguments) (declaration itself tree)
    ∙ alike_declaration (λ a. closed_node arguments (typed_by t a)) (typed_by (λ x. closed_by arguments (t x))) (declaration itself tree) (node_closed arguments t)

node_names : (t : ℕ → Ty) (n : Node Numbered) → named_at (relabelled_node (typed_by t) n) ≡ named_in t n
node_names t (expression_node (variable a x)) = refl
node_names t (expression_node (constructor a x)) = refl
node_names t (expression_node (application a head parts)) = refl
node_names t (expression_node (tuple a parts)) = refl
node_names t (expression_node (chain a operands operators)) = refl
node_names t (expression_node (lambda a pats body)) = refl
node_names t (expression_node (let_in a group body)) = refl
node_names t (expression_node (if_then_else a test first second)) = refl
node_names t (expression_node (case_of a scrutinee rows)) = refl
node_names t (expression_node (do_block a steps)) = refl
node_names t (pattern_node p) = refl
node_names t (clause_node c) = refl
node_names t (group_node bs) = refl
node_names t (binding_node b) = refl
node_names t (statement_node s) = refl

all_names : (t : ℕ → Ty) (ns : List (Node Numbered)) → flat_map named_at (map (relabelled_node (typed_by t)) ns) ≡ flat_map (named_in t) ns
all_names t [] = refl
all_names t (n ∷ ns) = let one = node_names t n in let rest = all_names t ns in λ i. one i ++ rest i

declaration_names : (t : ℕ → Ty) (d : Declaration Numbered) → flat_map named_at (declaration_nodes (relabelled_declaration (typed_by t) d)) ≡ flat_map (named_in t) (declaration_nodes d)
declaration_names t (import_declaration a m) = refl
declaration_names t (data_declaration a x params constructors) = refl
declaration_names t (fixity_declaration a side strength names) = refl
declaration_names t (signature_declaration a names type) = refl
declaration_names t (function_declaration a x clauses) = ap (flat_map named_at) (nodes_relabelled (typed_by t) clauses) ∙ all_names t (flat_map clause_nodes clauses)

pub mentioned_is : (t : ℕ → Ty) (tree : Decl Numbered) (arguments : List Ty) → mentioned_in (Some (in_instance arguments (declaration (typed_by t) tree)))
    ≡ map (λ (m : Mention). m.1) (from_left (flat_map (named_in (λ x. closed_by arguments (t x))) (declaration_nodes (declaration itself tree))))
mentioned_is t tree arguments =
    ap (λ (d : Declaration TypedNode). mentioned_in (Some d)) (instance_typed arguments t tree)
    ∙ ap (λ (ms : List Mention). map (λ (m : Mention). m.1) (from_left ms)) (declaration_names (λ x. closed_by arguments (t x)) (declaration itself tree))

-- == The types of nodes ==

expression_typed : (t : ℕ → Ty) (e : Expression Numbered) → expression_type (relabelled_expression (typed_by t) e) ≡ t (expression_label e).number
expression_typed t (variable a x) = refl
expression_typed t (constructor a x) = refl
expression_typed t (application a head parts) = refl
expression_typed t (tuple a parts) = refl
expression_typed t (chain a operands operators) = refl
expression_typed t (lambda a pats body) = refl
expression_typed t (let_in a group body) = refl
expression_typed t (if_then_else a test first second) = refl
expression_typed t (case_of a scrutinee rows) = refl
expression_typed t (do_block a steps) = refl

pattern_typed : (t : ℕ → Ty) (p : Pattern Numbered) → pattern_type (relabelled_pattern (typed_by t) p) ≡ t (pattern_label p).number
pattern_typed t (wildcard a) = refl
pattern_typed t (variable_pattern a x) = refl
pattern_typed t (constructor_pattern a c parts) = refl
pattern_typed t (tuple_pattern a parts) = refl

node_typed : (t : ℕ → Ty) (n : Node Numbered) → types_at (relabelled_node (typed_by t) n) ≡ map t (numbers_at n)
node_typed t (expression_node e) = ap (λ (z : Ty). z ∷ []) (expression_typed t e)
node_typed t (pattern_node p) = ap (λ (z : Ty). z ∷ []) (pattern_typed t p)
node_typed t (clause_node (alternative a pats side wheres)) = refl
node_typed t (group_node bs) = refl
node_typed t (binding_node (local_signature a x type)) = refl
node_typed t (binding_node (local_function a x clauses)) = refl
node_typed t (binding_node (local_pattern a bound)) = refl
node_typed t (statement_node s) = refl

all_typed : (t : ℕ → Ty) (ns : List (Node Numbered)) → flat_map types_at (map (relabelled_node (typed_by t)) ns) ≡ map t (flat_map numbers_at ns)
all_typed t [] = refl
all_typed t (n ∷ ns) =
    let one = node_typed t n in let rest = all_typed t ns in (λ i. one i ++ rest i) ∙ sym (map-append t (numbers_at n) (flat_map numbers_at ns))

declaration_typed : (t : ℕ → Ty) (d : Declaration Numbered) → types_in (Some (relabelled_declaration (typed_by t) d)) ≡ map t (numbers_in d)
declaration_typed t (import_declaration a m) = refl
declaration_typed t (data_declaration a x params constructors) = refl
declaration_typed t (fixity_declaration a side strength names) = refl
declaration_typed t (signature_declaration a names type) = refl
declaration_typed t (function_declaration a x clauses) =
    ap (λ (z : List Ty). t a.number ∷ z) (ap (flat_map types_at) (nodes_relabelled (typed_by t) clauses) ∙ all_typed t (flat_map clause_nodes clauses))

pub types_are : (t : ℕ → Ty) (tree : Decl Numbered) (arguments : List Ty) → types_in (Some (in_instance arguments (declaration (typed_by t) tree)))
    ≡ map (λ x. closed_by arguments (t x)) (numbers_in (declaration itself tree))
types_are t tree arguments =
    ap (λ (d : Declaration TypedNode). types_in (Some d)) (instance_typed arguments t tree) ∙ declaration_typed (λ x. closed_by arguments (t x)) (declaration itself tree)

-- The places of a whole program.
use Rattle.std.proofs.Common.{◌≡◌, ℕ, ◌≤◌, Bool, true, List, [], ◌++◌, append-nil, length, drop, drop_of_length-le, flat_map, Option, Some, refl, sym, ap, ◌∙◌}
use Rattle.rw_base.specs.declared.place.Place.{Place}
use Rattle.rw_base.specs.declared.place.Span.{Span}
use Rattle.rw_tree.specs.declared.types.Kind.{Kind}
use Rattle.rw_tree.specs.declared.types.Kind.TheVariants.{Plain}
use Rattle.rw_tree.specs.Types.{WrittenType}
use Rattle.rw_tree.specs.Trees.{LocalBinding, local_signature, local_function, local_pattern}
use Rattle.rw_tree.specs.Declarations.{Declaration, import_declaration, data_declaration, fixity_declaration, signature_declaration, function_declaration}
use Rattle.rw_scope_rules.specs.Names.{Bytes}
use Rattle.rw_scope_rules.specs.Nodes.{Node, expression_node, pattern_node, clause_node, group_node, binding_node, statement_node}
use Rattle.rw_scope_rules.specs.Kinds.{both, uses_of, well_used, plainly_used, field_is_kinded, signature_is_kinded, misused_in_declaration, misused_in_node}
use Rattle.rw_scope_nodes.specs.declared.node.Node.{Node as Node_}
use Rattle.rw_scope_nodes.specs.Plain.{plain_nodes}
use Rattle.rw_scope_uses.specs.declared.context.Context.{Context}
use Rattle.rw_scope_uses.specs.declared.uses.Use.{Use}
use Rattle.rw_scope_uses.specs.Spine.{plain_uses, if_fit}
use Rattle.rw_scope_kinds.specs.Agreeing.{agree_after}
use Rattle.rw_scope_uses.specs.Contexts.{IsOfSignatures, IsOfFields}
use Rattle.rw_scope_kinds.specs.Contexts.{fits_field, fits_signature, wrong_in_declaration, wrong_in_node}
use Rattle.rw_scope_uses.proofs.Joining.{nothing_both}
use Rattle.rw_scope_kinds.proofs.Agree.{agree_all}

-- a signature whose type is of a right kind
pub signature_right : (takes : Bytes → Kind → Option (List Kind)) (arrows : Bool) (type : WrittenType) (first : List Use) (uses : List (Bytes × Kind)) (fits all : Bool) → first ≡ [] → fits ≡ true
    → if_fit fits uses ≡ both (if_fit true (plain_uses first)) (uses_of takes arrows type [] Plain) → all ≡ agree_after [] uses → all ≡ well_used (uses_of takes arrows type [] Plain)
signature_right takes arrows type first uses fits all none right h says =
    let u : Some uses ≡ uses_of takes arrows type [] Plain =
    sym (ap (λ b. if_fit b uses) right) ∙ h ∙ ap (λ us. both (if_fit true (plain_uses us)) (uses_of takes arrows type [] Plain)) none ∙ nothing_both (uses_of takes arrows type [] Plain) in
    says ∙ agree_all uses ∙ ap well_used u

module _ (decls : List (Declaration Span)) (fields signatures : Context) (f : IsOfFields decls fields) (s : IsOfSignatures decls signatures) where
  same_fields : fits_field fields ≡ field_is_kinded decls
  same_fields = λ i. λ type. plainly_used (uses_of (f.takes i) (f.arrows i) type [] Plain)

  same_signatures : fits_signature signatures ≡ signature_is_kinded decls
  same_signatures = λ i. λ type. well_used (uses_of (s.takes i) (s.arrows i) type [] Plain)

  in_each : (d : Declaration Span) → wrong_in_declaration (field_is_kinded decls) (signature_is_kinded decls) d ≡ misused_in_declaration decls d
  in_each (import_declaration a m) = refl
  in_each (data_declaration a x params constructors) = refl
  in_each (fixity_declaration a side strength names) = refl
  in_each (signature_declaration a names type) = refl
  in_each (function_declaration a x clauses) = refl

  in_each_binding : (b : LocalBinding Span) → wrong_in_node (signature_is_kinded decls) (binding_node b) ≡ misused_in_node decls (binding_node b)
  in_each_binding (local_signature a x type) = refl
  in_each_binding (local_function a x clauses) = refl
  in_each_binding (local_pattern a bound) = refl

  in_each_node : (n : Node Span) → wrong_in_node (signature_is_kinded decls) n ≡ misused_in_node decls n
  in_each_node (expression_node e) = refl
  in_each_node (pattern_node p) = refl
  in_each_node (clause_node c) = refl
  in_each_node (group_node g) = refl
  in_each_node (binding_node b) = in_each_binding b
  in_each_node (statement_node t) = refl

  same_wrong : wrong_in_declaration (fits_field fields) (fits_signature signatures) ≡ misused_in_declaration decls
  same_wrong = (λ i. wrong_in_declaration (same_fields i) (same_signatures i)) ∙ (λ i. λ d. in_each d i)

  same_node : wrong_in_node (fits_signature signatures) ≡ misused_in_node decls
  same_node = (λ i. wrong_in_node (same_signatures i)) ∙ (λ i. λ n. in_each_node n i)

  pub all_found : (found items : List (Node_ Span)) (nodes : List (Node Span)) (i : ℕ) (now first : List Place) → first ≡ flat_map (wrong_in_declaration (fits_field fields) (fits_signature signatures)) decls → items ≡ found
      → plain_nodes found ≡ nodes → length items ≤ i
      → now ++ flat_map (wrong_in_node (fits_signature signatures)) (plain_nodes (drop i items)) ≡ first ++ flat_map (wrong_in_node (fits_signature signatures)) (plain_nodes items)
      → now ≡ flat_map (misused_in_declaration decls) decls ++ flat_map (misused_in_node decls) nodes
  all_found found items nodes i now first before same listed over h =
      sym (append-nil now)
      ∙ ap (λ ns. now ++ flat_map (wrong_in_node (fits_signature signatures)) (plain_nodes ns)) (sym (drop_of_length-le items over))
      ∙ h
      ∙ ap (λ ns. first ++ flat_map (wrong_in_node (fits_signature signatures)) (plain_nodes ns)) same
      ∙ ap (λ ns. first ++ flat_map (wrong_in_node (fits_signature signatures)) ns) listed
      ∙ ap (λ ps. ps ++ flat_map (wrong_in_node (fits_signature signatures)) nodes) before
      ∙ ap (λ w. flat_map w decls ++ flat_map (wrong_in_node (fits_signature signatures)) nodes) same_wrong
      ∙ ap (λ w. flat_map (misused_in_declaration decls) decls ++ flat_map w nodes) same_node

-- The places of a whole program, one list after the other.
use Rattle.std.proofs.Common.{◌≡◌, ◌∙◌, ℕ, suc, ◌+◌, ◌-◌, refl, sym, ap, List, [], ◌∷◌, ◌++◌, map, flat_map, take, drop, length, arith, codes, true, false, if◌then◌else◌, Option, Some, None}
use Rattle.std.proofs.lemmas.Grind.{flat_map-append}
use Rattle.std.proofs.lemmas.List.{take-map, drop-map, take_rest}
use Rattle.rw_base.specs.declared.place.Place.{Place}
use Rattle.rw_scope_rules.specs.declared.binding.Bound.{Bound}
use Rattle.rw_tree.specs.Views.{itself}
use Rattle.rw_tree.specs.declared.decl.Decl.{Decl}
use Rattle.rw_tree.specs.declared.clause.Local.{Local}
use Rattle.rw_tree.specs.Trees.{LocalBindings, local_binding, binding_parts}
use Rattle.rw_tree.specs.Declarations.{Declaration, declaration, import_declaration, data_declaration, fixity_declaration, signature_declaration, function_declaration}
use Rattle.rw_scope_rules.specs.Names.{is_among}
use Rattle.rw_start.specs.Start.{Start, start_from}
use Rattle.rw_scope_rules.specs.Nodes.{Node, binding_nodes, group_nodes, declaration_nodes}
use Rattle.rw_meaning.specs.Systems.{binding_of, SourceSystem, Body, system_of, body_of, start_of}
use Rattle.rw_start.specs.Positions.{beginning, leaves, inner_nodes, barred, strays, without, misplaced_by, misplaced_from, misplaced_with}
use Rattle.rw_scope_rules.proofs.Lists.{group_as}
use Rattle.rw_start.proofs.Found.{two, parted}

abbrev plain : List (Decl Bound) → List (Declaration Bound)
plain ds = map (declaration itself) ds

abbrev nodes : List (Declaration Bound) → List (Node Bound)
nodes ds = flat_map declaration_nodes ds

module _ (s : Option ℕ) (n : ℕ) (ds : List (Decl Bound)) where
  -- the declarations before and behind one
  others : strays s (nodes (without n (plain ds))) ≡ strays s (nodes (plain (take n ds))) ++ strays s (nodes (plain (drop (n + 1) ds)))
  others =
      let e : suc n ≡ n + 1 = omega arith in
      ap (λ z. strays s (nodes (z ++ drop (suc n) (plain ds)))) (take-map (declaration (λ (a : Bound). a)) n ds)
      ∙ ap (λ k. strays s (nodes (plain (take n ds) ++ drop k (plain ds)))) e
      ∙ ap (λ z. strays s (nodes (plain (take n ds) ++ z))) (drop-map (declaration (λ (a : Bound). a)) (n + 1) ds)
      ∙ ap (strays s) (flat_map-append declaration_nodes (plain (take n ds)) (plain (drop (n + 1) ds)))
      ∙ parted s (nodes (plain (take n ds))) (nodes (plain (drop (n + 1) ds)))

  pub in_order : (system : SourceSystem) (ws : List (Local Bound)) (none p q r t none_too begins given last : List Place) → s ≡ barred n system → none ≡ []
      → p ≡ none ++ strays s (nodes (plain (take n ds))) → q ≡ p ++ strays s (nodes (plain (take (length ds - (n + 1)) (drop (n + 1) ds))))
      → r ≡ q ++ strays s (inner_nodes system) → t ≡ r ++ strays s (flat_map binding_nodes (map (local_binding itself) ws))
      → none_too ≡ [] → begins ≡ none_too ++ map beginning (leaves system) → given ≡ begins → last ≡ t ++ drop 64 given
      → last ≡ misplaced_with (plain ds) n system (binding_parts (map (local_binding itself) ws))
  in_order system ws none p q r t none_too begins given last start_is is_none first second third fourth none_again all_begins same behind =
      let groups : List (Node Bound) = group_nodes (binding_parts (map (local_binding itself) ws)) in
      let outer : List Place = strays s (nodes (without n (plain ds))) in
      let in_decls : q ≡ none ++ outer = two none p q (strays s (nodes (plain (take n ds)))) (strays s (nodes (plain (drop (n + 1) ds)))) outer first (second ∙ ap (λ xs. p ++ strays s (nodes (plain xs))) (take_rest ds (n + 1))) others in
      let in_group : t ≡ r ++ strays s groups = fourth ∙ ap (λ ms. r ++ strays s ms) (sym (group_as (map (local_binding (λ (a : Bound). a)) ws))) in
      let in_body : t ≡ q ++ strays s (inner_nodes system ++ groups) = two q r t (strays s (inner_nodes system)) (strays s groups) (strays s (inner_nodes system ++ groups)) third in_group (parted s (inner_nodes system) groups) in
      let names : t ≡ strays s (nodes (without n (plain ds)) ++ (inner_nodes system ++ groups)) =
      two none q t outer (strays s (inner_nodes system ++ groups)) (strays s (nodes (without n (plain ds)) ++ (inner_nodes system ++ groups))) in_decls in_body (parted s (nodes (without n (plain ds))) (inner_nodes system ++ groups))
      ∙ ap (λ z. z ++ strays s (nodes (without n (plain ds)) ++ (inner_nodes system ++ groups))) is_none in
      let devices : drop 64 given ≡ map beginning (drop 64 (leaves system)) =
      ap (drop 64) (same ∙ all_begins ∙ ap (λ z. z ++ map beginning (leaves system)) none_again) ∙ drop-map beginning 64 (leaves system) in
      behind ∙ ap (λ z. z ++ drop 64 given) names ∙ ap (λ z. strays s (nodes (without n (plain ds)) ++ (inner_nodes system ++ groups)) ++ z) devices
      ∙ ap (λ b. strays b (nodes (without n (plain ds)) ++ (inner_nodes system ++ groups)) ++ map beginning (drop 64 (leaves system))) start_is

-- == The body of `start` ==

module _ (ds given : List (Decl Bound)) (start : Start) (body : Body Bound) (same : given ≡ ds) (is : start_from 0 (plain given) ≡ Some start)
    (bound : body_of start.clauses ≡ Some body) where
  found : start_from 0 (plain ds) ≡ Some start
  found = ap (λ z. start_from 0 (plain z)) (sym same) ∙ is

  pub in_whole : (system : SourceSystem) → system ≡ system_of binding_of body.expression
      → misplaced_with (plain given) start.number system body.wheres ≡ misplaced_from (plain ds) (start_from 0 (plain ds))
  in_whole system h =
      ap (λ z. misplaced_with (plain z) start.number system body.wheres) same
      ∙ ap (λ z. misplaced_with (plain ds) start.number z body.wheres) h
      ∙ ap (misplaced_by (plain ds) start.number) (sym bound)
      ∙ ap (misplaced_from (plain ds)) (sym found)

-- Bound clauses, from what their parts are bound to.
use Rattle.std.proofs.Common.{◌≡◌, ℕ, List, map, refl}
use Rattle.rw_base.specs.declared.place.Span.{Span}
use Rattle.rw_tree.specs.Views.{itself}
use Rattle.rw_tree.specs.declared.pattern.Pat.{Pat}
use Rattle.rw_tree.specs.declared.clause.Alt.{Alt}
use Rattle.rw_tree.specs.declared.clause.Local.{Local}
use Rattle.rw_tree.specs.declared.clause.Local.TheVariants as local
use Rattle.rw_tree.specs.Patterns.{Pattern, patterns}
use Rattle.rw_tree.specs.Trees.{Alternative, alternative, RightSide, LocalBindings, alternative_of, right_side, local_binding, binding_parts}
use Rattle.rw_tree.proofs.Plains.{alternative-parts, local_binding-Pattern}
use Rattle.rw_scope_rules.specs.declared.binding.Bound.{Bound}
use Rattle.rw_scope_rules.specs.Bindings.{Tops, Scope, inside_row, inside_group, group_names, unnamed, bound_row, bound_side, bound_group, bound_clause}
use Rattle.rw_scope_binding.specs.Numbered.{numbered_row, numbered_binding}

module _ (tops : Tops) (s : Scope) where
  pub built_clause : (tree : Alt Span) (made : Alternative Bound) (ps : List (Pat Span)) (ws : List (Local Span)) (s1 s2 : Scope) (ps' : List (Pattern Bound)) (side' : RightSide Bound) (ws' : LocalBindings Bound)
      → ps ≡ tree.pats → ws ≡ tree.wheres → made ≡ alternative (unnamed tree.at) ps' side' ws'
      → ps' ≡ bound_row tops s (patterns itself ps) → s1 ≡ inside_row (patterns itself ps) s
      → ws' ≡ bound_group tops (group_names (binding_parts (map (local_binding itself) ws))) (inside_group (binding_parts (map (local_binding itself) ws)) s1) s1 (binding_parts (map (local_binding itself) ws))
      → s2 ≡ inside_group (binding_parts (map (local_binding itself) ws)) s1
      → side' ≡ bound_side tops s2 (right_side itself tree.rhs)
      → made ≡ bound_clause tops s (alternative_of itself tree)
  built_clause tree made ps ws s1 s2 ps' side' ws' ps_is ws_is made_is pats s1_is group s2_is side =
      rw (made_is, pats, side, group, s2_is, s1_is, ps_is, ws_is, alternative-parts (λ (a : Span). a) tree) refl

  pub built_pattern : (outer n : ℕ) (tree : Local Span) (at : Span) (row : Alt Span) (at' : Bound) (made : Alt Bound) (ps : List (Pat Span)) (ws : List (Local Span)) (s2 : Scope) (ps' : List (Pattern Bound)) (side' : RightSide Bound) (ws' : LocalBindings Bound)
      → tree ≡ local.Pattern at row → at' ≡ unnamed at → ps ≡ row.pats → ws ≡ row.wheres → alternative_of itself made ≡ alternative (unnamed row.at) ps' side' ws'
      → ps' ≡ numbered_row tops n (patterns itself ps)
      → ws' ≡ bound_group tops (group_names (binding_parts (map (local_binding itself) ws))) (inside_group (binding_parts (map (local_binding itself) ws)) s) s (binding_parts (map (local_binding itself) ws))
      → s2 ≡ inside_group (binding_parts (map (local_binding itself) ws)) s
      → side' ≡ bound_side tops s2 (right_side itself row.rhs)
      → local_binding itself (local.Pattern at' made) ≡ numbered_binding tops outer s n (local_binding itself tree)
  built_pattern outer n tree at row at' made ps ws s2 ps' side' ws' is at_is ps_is ws_is made_is pats group s2_is side =
      rw (is, local_binding-Pattern (λ (a : Bound). a) at' made, local_binding-Pattern (λ (a : Span). a) at row, alternative-parts (λ (a : Span). a) row, made_is, at_is, pats, side, group, s2_is, ps_is, ws_is) refl

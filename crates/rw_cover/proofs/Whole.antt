-- The groups of a program: its declarations' own, and those of its nodes. The first place of all doesn't depend on the order.
use Rattle.std.proofs.Common.{◌≡◌, ◌∙◌, refl, sym, ap, subst, ℕ, List, [], ◌∷◌, ◌++◌, map, flat_map, Option, None}
use Rattle.std.proofs.lemmas.Grind.{flat_map-append}
use Rattle.rw_base.specs.declared.place.Place.{Place}
use Rattle.rw_scope_rules.specs.declared.binding.Bound.{Bound}
use Rattle.rw_scope_rules.specs.Names.{earliest}
use Rattle.rw_scope_rules.specs.Nodes.{Node, declaration_nodes}
use Rattle.rw_tree.specs.Views.{itself}
use Rattle.rw_tree.specs.declared.decl.Decl.{Decl}
use Rattle.rw_tree.specs.Declarations.{declaration, Declaration, import_declaration, data_declaration, fixity_declaration, signature_declaration, function_declaration}
use Rattle.rw_cover.specs.declared.known.Known.{Known}
use Rattle.rw_cover.specs.Rows.{counts_of, known_of}
use Rattle.rw_cover.specs.Coverage.{Group, declaration_groups, node_group}
use Rattle.rw_cover.specs.Correct.{IsFirst}
use Rattle.rw_cover.specs.Walk.{sooner, own_groups}
use Rattle.rw_cover.proofs.Places.{earliest-append, sooner_crossed}
use Rattle.rw_cover.proofs.Groups.{both_first, apart}

-- the first place of no groups
none_first : (first : Option Place) → IsFirst [] first → first ≡ None
none_first first h = h.2 ∙ ap earliest h.1

module _ {X : Type 0} (own inner : X → List Group) where
  abbrev together : X → List Group
  together x = own x ++ inner x

  -- two groups for each of several things: the first place, from those of either kind alone
  pub together_first : (xs : List X) (one other : Option Place) → IsFirst (flat_map own xs) one → IsFirst (flat_map inner xs) other → IsFirst (flat_map together xs) (sooner one other)
  together_first [] one other h k = ([], refl, ap (λ (x : Option Place). sooner x other) (none_first one h) ∙ none_first other k)
  together_first (x ∷ xs) one other h k =
      let s = apart (own x) (flat_map own xs) h.0 h.1 in
      let t = apart (inner x) (flat_map inner xs) k.0 k.1 in
      let rest = together_first xs (earliest s.1) (earliest t.1) (s.1, s.4, refl) (t.1, t.4, refl) in
      let here = both_first (own x) (inner x) (earliest s.0) (earliest t.0) (s.0, s.3, refl) (t.0, t.3, refl) in
      let all = both_first (together x) (flat_map together xs) (sooner (earliest s.0) (earliest t.0)) (sooner (earliest s.1) (earliest t.1)) here rest in
      let is_one : one ≡ sooner (earliest s.0) (earliest s.1) = h.2 ∙ ap earliest s.2 ∙ earliest-append s.0 s.1 in
      let is_other : other ≡ sooner (earliest t.0) (earliest t.1) = k.2 ∙ ap earliest t.2 ∙ earliest-append t.0 t.1 in
      subst (λ (first : Option Place). IsFirst (flat_map together (x ∷ xs)) first)
      (sooner_crossed (earliest s.0) (earliest t.0) (earliest s.1) (earliest t.1)
      ∙ sym (ap (λ (x : Option Place). sooner x other) is_one ∙ ap (sooner (sooner (earliest s.0) (earliest s.1))) is_other))
      all

flat_map-flat_map : {X Y Z : Type 0} (f : Y → List Z) (g : X → List Y) (xs : List X) → flat_map f (flat_map g xs) ≡ flat_map (λ x. flat_map f (g x)) xs
flat_map-flat_map f g [] = refl
flat_map-flat_map f g (x ∷ xs) = flat_map-append f (g x) (flat_map g xs) ∙ ap (λ zs. flat_map f (g x) ++ zs) (flat_map-flat_map f g xs)

module _ (counts : List ℕ) (known : Known) where
  abbrev inner_groups : Declaration Bound → List Group
  inner_groups d = flat_map (node_group counts known) (declaration_nodes d)

  -- the groups of a declaration are its own and those of its nodes
  declaration_is : (d : Declaration Bound) → declaration_groups counts known d ≡ own_groups counts known d ++ inner_groups d
  declaration_is (import_declaration a m) = refl
  declaration_is (data_declaration a x params constructors) = refl
  declaration_is (fixity_declaration a side strength names) = refl
  declaration_is (signature_declaration a names type) = refl
  declaration_is (function_declaration a x clauses) = refl

  declarations_are : (ds : List (Declaration Bound)) → flat_map (declaration_groups counts known) ds ≡ flat_map (together (own_groups counts known) inner_groups) ds
  declarations_are [] = refl
  declarations_are (d ∷ ds) =
      ap (λ gs. gs ++ flat_map (declaration_groups counts known) ds) (declaration_is d)
      ∙ ap (λ gs. together (own_groups counts known) inner_groups d ++ gs) (declarations_are ds)

  -- the first place of a program, from those of the declarations' own groups and of the nodes'
  pub program_first : (ds : List (Declaration Bound)) (one other : Option Place) → IsFirst (flat_map (own_groups counts known) ds) one
      → IsFirst (flat_map (node_group counts known) (flat_map declaration_nodes ds)) other → IsFirst (flat_map (declaration_groups counts known) ds) (sooner one other)
  program_first ds one other h k =
      subst (λ (gs : List Group). IsFirst gs (sooner one other)) (sym (declarations_are ds))
      (together_first (own_groups counts known) inner_groups ds one other h
      (subst (λ (gs : List Group). IsFirst gs other) (flat_map-flat_map (node_group counts known) declaration_nodes ds) k))

-- the same, as the code finds it
pub whole_first : (decls slice : List (Decl Bound)) (counts counts_of_own counts_of_nodes : List ℕ) (known : Known) (nodes : List (Node Bound)) (one other first : Option Place)
    → slice ≡ decls → counts ≡ counts_of (map (declaration itself) slice) → counts_of_own ≡ counts → counts_of_nodes ≡ counts
    → known ≡ known_of (map (declaration itself) slice) → nodes ≡ flat_map declaration_nodes (map (declaration itself) decls)
    → IsFirst (flat_map (own_groups counts_of_own known) (map (declaration itself) slice)) one → IsFirst (flat_map (node_group counts_of_nodes known) nodes) other → first ≡ sooner one other
    → IsFirst (flat_map (declaration_groups (counts_of (map (declaration itself) decls)) (known_of (map (declaration itself) decls))) (map (declaration itself) decls)) first
whole_first decls slice counts counts_of_own counts_of_nodes known nodes one other first s c own_c nodes_c k n h i f =
    let ds : List (Declaration Bound) = map (declaration itself) decls in
    let same : map (declaration itself) slice ≡ ds = ap (map (declaration itself)) s in
    let own_counts : counts_of_own ≡ counts_of ds = own_c ∙ c ∙ ap counts_of same in
    let node_counts : counts_of_nodes ≡ counts_of ds = nodes_c ∙ c ∙ ap counts_of same in
    let knows : known ≡ known_of ds = k ∙ ap known_of same in
    let own_is : flat_map (own_groups counts_of_own known) (map (declaration itself) slice) ≡ flat_map (own_groups (counts_of ds) (known_of ds)) ds =
    ap (λ (xs : List ℕ). flat_map (own_groups xs known) (map (declaration itself) slice)) own_counts
    ∙ ap (λ (x : Known). flat_map (own_groups (counts_of ds) x) (map (declaration itself) slice)) knows
    ∙ ap (flat_map (own_groups (counts_of ds) (known_of ds))) same in
    let nodes_are : flat_map (node_group counts_of_nodes known) nodes ≡ flat_map (node_group (counts_of ds) (known_of ds)) (flat_map declaration_nodes ds) =
    ap (λ (xs : List ℕ). flat_map (node_group xs known) nodes) node_counts
    ∙ ap (λ (x : Known). flat_map (node_group (counts_of ds) x) nodes) knows
    ∙ ap (flat_map (node_group (counts_of ds) (known_of ds))) n in
    subst (IsFirst (flat_map (declaration_groups (counts_of ds) (known_of ds)) ds)) (sym f)
    (program_first (counts_of ds) (known_of ds) ds one other
    (subst (λ (gs : List Group). IsFirst gs one) own_is h)
    (subst (λ (gs : List Group). IsFirst gs other) nodes_are i))

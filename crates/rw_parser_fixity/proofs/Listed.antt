-- Items, one at a time: what the clauses so far and the rest resolve to, all resolve to; what is broken first in the rest is broken first in all.
use Rattle.std.proofs.Common.{◌≡◌, ◌∙◌, ℕ, suc, min, max, ◌+◌, ◌<◌, ◌≤◌, true, false, List, [], ◌∷◌, ◌++◌, map, drop, length, get_or, Result, Ok, Err, refl, sym, ap, subst, arith, append_assoc, append-nil}
use Rattle.rw_base.specs.declared.place.Place.{Place}
use Rattle.rw_base.specs.declared.place.Span.{Span}
use Rattle.rw_base.specs.Answers.{Fail}
use Rattle.rw_base.specs.declared.fail.Failure.TheVariants as fail
use Rattle.rw_tree.specs.declared.types.Written.{Written}
use Rattle.rw_tree.specs.declared.clause.Alt.{Alt, out-Alt}
use Rattle.rw_tree.specs.declared.decl.Side.{Side}
use Rattle.rw_tree.specs.declared.decl.Constructor.{Constructor}
use Rattle.rw_tree.specs.declared.decl.DataDecl.{DataDecl}
use Rattle.rw_tree.specs.declared.decl.Decl.{Decl}
use Rattle.rw_tree.specs.declared.decl.Decl.TheVariants as d
use Rattle.rw_tree.specs.Trees.{alternative_of}
use Rattle.rw_tree.specs.Declarations.{plain_constructor}
use Rattle.rw_tree.specs.Types.{writtens}
use Rattle.rw_parser_grammar.specs.Chains.{Strength}
use Rattle.rw_parser_grammar.specs.Levels.{max_levels, alternative_levels, rows_levels, fields_levels, constructors_levels}
use Rattle.rw_parser_grammar.specs.Resolved as r
use Rattle.rw_parser_grammar.specs.Resolved.{IsRowResolved, AreRowsResolved}
use Rattle.rw_parser_grammar.specs.Resolution as p
use Rattle.rw_parser_grammar.specs.Resolution.{IsDeclarationResolved, IsShallow, AreDeclarationsResolved, IsRowBroken, FirstRowBroken, FirstDeclarationBroken}
use Rattle.rw_parser_chains.specs.Sizes.{type_size, types_size, constructors_size, data_size}
use Rattle.rw_parser_fixity.specs.Found.{Finds}
use Rattle.rw_parser_fixity.proofs.Chains.{at, beyond, none_dropped}

-- what is found is also found of more
pub found_of : {X : Type 0} (good more : X → Type 0) (broken worse : Place → Type 0) → ((x : X) → good x → more x) → ((place : Place) → broken place → worse place) → (result : Result X Fail) → Finds good broken result → Finds more worse result
found_of good more broken worse g b (Ok x) h = g x h
found_of good more broken worse g b (Err (fail.Refused refusal)) h = (h.0, b refusal.place h.1)
found_of good more broken worse g b (Err fail.OutOfMemory) h = tt

-- what is broken in a part is broken in the whole
pub broken_of : {X Y : Type 0} (good : X → Type 0) (more : Y → Type 0) (broken worse : Place → Type 0) → ((place : Place) → broken place → worse place) → (e : Fail) → Finds good broken (Err e) → Finds more worse (Err e)
broken_of good more broken worse b (fail.Refused refusal) h = (h.0, b refusal.place h.1)
broken_of good more broken worse b fail.OutOfMemory h = tt

one_behind : {T : Type 0} (all new others : List T) (one : T) → new ≡ all ++ one ∷ [] → all ++ one ∷ others ≡ new ++ others
one_behind all new others one e = sym (ap (λ z. z ++ others) e ∙ append_assoc all (one ∷ []) others)

-- ---- clauses
abbrev row_levels : Alt Span → ℕ
row_levels row = alternative_levels (alternative_of (λ span. span) row)

abbrev all_levels : List (Alt Span) → ℕ
all_levels rows = rows_levels (map (alternative_of (λ span. span)) rows)

one_more : (rows : List (Alt Span)) (row : Alt Span) → all_levels (rows ++ row ∷ []) ≡ max (all_levels rows) (row_levels row)
one_more [] row = omega arith
one_more (first ∷ rows) row = let e = one_more rows row in omega (arith, e)

module _ (strength : List ℕ → Strength) where
  -- what the clauses so far say of all of them
  pub record RowsSoFar (rows all : List (Alt Span)) (i : ℕ) : Type 0 where
    pub resolved : (others : List (Alt Span)) → AreRowsResolved strength (drop i rows) others → AreRowsResolved strength rows (all ++ others)
    pub broken : (place : Place) → FirstRowBroken strength (drop i rows) place → FirstRowBroken strength rows place
    pub within : all_levels all + 1 ≤ max_levels

  pub no_rows : (rows : List (Alt Span)) → RowsSoFar rows [] 0
  no_rows rows = record {
    resolved = λ others h. subst (λ z. AreRowsResolved strength z others) (none_dropped rows) h;
    broken = λ place h. subst (λ z. FirstRowBroken strength z place) (none_dropped rows) h;
    within = omega arith;
  }

  module _ (rows all : List (Alt Span)) (i : ℕ) (row : Alt Span) (l : i < length rows) (e : row ≡ get_or rows i row) (so_far : RowsSoFar rows all i) where
    pub row_broken : IsRowBroken strength row → FirstRowBroken strength rows (out-Alt Span row).at.first
    row_broken h = so_far.broken (out-Alt Span row).at.first (subst (λ z. FirstRowBroken strength z (out-Alt Span row).at.first) (sym (at rows i row l e)) (p.this_row row (drop (i + 1) rows) h))

    pub row_made : (new : List (Alt Span)) (made : Alt Span) → new ≡ all ++ made ∷ [] → IsRowResolved strength row made → row_levels made + 1 ≤ max_levels → RowsSoFar rows new (i + 1)
    row_made new made n h k = record {
      resolved = λ others rs. subst (AreRowsResolved strength rows) (one_behind all new others made n)
          (so_far.resolved (made ∷ others) (subst (λ z. AreRowsResolved strength z (made ∷ others)) (sym (at rows i row l e)) (r.more_rows_resolved row made (drop (i + 1) rows) others h rs)));
      broken = λ place b. so_far.broken place (subst (λ z. FirstRowBroken strength z place) (sym (at rows i row l e)) (p.later_row row made (drop (i + 1) rows) place h k b));
      within = let s : all_levels new ≡ max (all_levels all) (row_levels made) = ap all_levels n ∙ one_more all made in let w = so_far.within in omega (arith, s, w, k);
    }

  pub rows_made : (rows all : List (Alt Span)) (i : ℕ) → length rows ≤ i → RowsSoFar rows all i → AreRowsResolved strength rows all × (all_levels all + 1 ≤ max_levels)
  rows_made rows all i l so_far =
      (subst (AreRowsResolved strength rows) (append-nil all) (so_far.resolved [] (subst (λ z. AreRowsResolved strength z []) (sym (beyond rows i l)) r.no_rows_resolved)), so_far.within)

  -- ---- declarations

  -- the declaration is broken, whatever stands behind it
  abbrev pub IsBroken : Decl Span → Place → Type 0
  IsBroken a place = (others : List (Decl Span)) → FirstDeclarationBroken strength (a ∷ others) place

  pub record SoFar (decls all : List (Decl Span)) (i : ℕ) : Type 0 where
    pub resolved : (others : List (Decl Span)) → AreDeclarationsResolved strength (drop i decls) others → AreDeclarationsResolved strength decls (all ++ others)
    pub broken : (place : Place) → FirstDeclarationBroken strength (drop i decls) place → FirstDeclarationBroken strength decls place

  pub none_so_far : (decls : List (Decl Span)) → SoFar decls [] 0
  none_so_far decls = record {
    resolved = λ others h. subst (λ z. AreDeclarationsResolved strength z others) (none_dropped decls) h;
    broken = λ place h. subst (λ z. FirstDeclarationBroken strength z place) (none_dropped decls) h;
  }

  module _ (decls all : List (Decl Span)) (i : ℕ) (decl : Decl Span) (l : i < length decls) (e : decl ≡ get_or decls i decl) (so_far : SoFar decls all i) where
    pub declaration_broken : (place : Place) → IsBroken decl place → FirstDeclarationBroken strength decls place
    declaration_broken place h = so_far.broken place (subst (λ z. FirstDeclarationBroken strength z place) (sym (at decls i decl l e)) (h (drop (i + 1) decls)))

    pub declaration_made : (new : List (Decl Span)) (made : Decl Span) → new ≡ all ++ made ∷ [] → IsDeclarationResolved strength decl made → IsShallow made → SoFar decls new (i + 1)
    declaration_made new made n h k = record {
      resolved = λ others rs. subst (AreDeclarationsResolved strength decls) (one_behind all new others made n)
          (so_far.resolved (made ∷ others) (subst (λ z. AreDeclarationsResolved strength z (made ∷ others)) (sym (at decls i decl l e)) (p.more_declarations_resolved decl made (drop (i + 1) decls) others h k rs)));
      broken = λ place b. so_far.broken place (subst (λ z. FirstDeclarationBroken strength z place) (sym (at decls i decl l e)) (p.later_declaration decl made (drop (i + 1) decls) place h k b));
    }

  pub declarations_made : (decls all : List (Decl Span)) (i : ℕ) → length decls ≤ i → SoFar decls all i → AreDeclarationsResolved strength decls all
  declarations_made decls all i l so_far =
      subst (AreDeclarationsResolved strength decls) (append-nil all) (so_far.resolved [] (subst (λ z. AreDeclarationsResolved strength z []) (sym (beyond decls i l)) p.no_declarations_resolved))

  -- ---- one declaration

  -- what `whole` gives of a declaration at this span with these levels
  abbrev pub Whole : Span → ℕ → Decl Span → Result (Decl Span) Fail → Type 0
  Whole x n a = Finds (λ made. (made ≡ a) × (n + 1 ≤ max_levels)) (λ place. (place ≡ x.first) × (max_levels ≤ n))

  -- what an item gives
  abbrev pub Item : Decl Span → Result (Decl Span) Fail → Type 0
  Item a = Finds (λ made. IsDeclarationResolved strength a made × IsShallow made) (IsBroken a)

  import_item : (x : Span) (name : List ℕ) (made : Decl Span) → made ≡ d.Import x name → IsDeclarationResolved strength (d.Import x name) made × IsShallow made
  import_item x name made e = subst (λ z. IsDeclarationResolved strength (d.Import x name) z × IsShallow z) (sym e) (p.import_stays x name, omega arith)

  pub import_is : (x : Span) (name : List ℕ) (result : Result (Decl Span) Fail) → Whole x 0 (d.Import x name) result → Item (d.Import x name) result
  import_is x name result h =
      found_of (λ made. (made ≡ d.Import x name) × (0 + 1 ≤ max_levels)) (λ made. IsDeclarationResolved strength (d.Import x name) made × IsShallow made) (λ place. (place ≡ x.first) × (max_levels ≤ 0)) (IsBroken (d.Import x name))
      (λ made g. import_item x name made g.0) (λ place b. absurd (let k = b.1 in omega (arith, k))) result h

  fixity_item : (x : Span) (side : Side) (n : ℕ) (names : List (List ℕ)) (made : Decl Span) → made ≡ d.Fixity x side n names → IsDeclarationResolved strength (d.Fixity x side n names) made × IsShallow made
  fixity_item x side n names made e = subst (λ z. IsDeclarationResolved strength (d.Fixity x side n names) z × IsShallow z) (sym e) (p.fixity_stays x side n names, omega arith)

  pub fixity_is : (x : Span) (side : Side) (n : ℕ) (names : List (List ℕ)) (result : Result (Decl Span) Fail) → Whole x 0 (d.Fixity x side n names) result → Item (d.Fixity x side n names) result
  fixity_is x side n names result h =
      found_of (λ made. (made ≡ d.Fixity x side n names) × (0 + 1 ≤ max_levels)) (λ made. IsDeclarationResolved strength (d.Fixity x side n names) made × IsShallow made) (λ place. (place ≡ x.first) × (max_levels ≤ 0)) (IsBroken (d.Fixity x side n names))
      (λ made g. fixity_item x side n names made g.0) (λ place b. absurd (let k = b.1 in omega (arith, k))) result h

  signature_item : (x : Span) (names : List (List ℕ)) (type : Written) (made : Decl Span) → made ≡ d.Sig x names type → type_size type + 1 ≤ max_levels → IsDeclarationResolved strength (d.Sig x names type) made × IsShallow made
  signature_item x names type made e l = subst (λ z. IsDeclarationResolved strength (d.Sig x names type) z × IsShallow z) (sym e) (p.signature_stays x names type, omega (arith, l))

  pub signature_is : (x : Span) (names : List (List ℕ)) (type : Written) (n : ℕ) (result : Result (Decl Span) Fail) → n ≡ min 513 (type_size type) → Whole x n (d.Sig x names type) result → Item (d.Sig x names type) result
  signature_is x names type n result m h =
      found_of (λ made. (made ≡ d.Sig x names type) × (n + 1 ≤ max_levels)) (λ made. IsDeclarationResolved strength (d.Sig x names type) made × IsShallow made) (λ place. (place ≡ x.first) × (max_levels ≤ n)) (IsBroken (d.Sig x names type))
      (λ made g. let k = g.1 in signature_item x names type made g.0 (omega (arith, k, m)))
      (λ place b. λ others. let k = b.1 in subst (λ z. FirstDeclarationBroken strength (d.Sig x names type ∷ others) z) (sym b.0) (p.this_declaration (d.Sig x names type) others refl (omega (arith, k, m)))) result h

  fields_size : (types : List Written) → fields_levels (writtens types) ≡ types_size types
  fields_size [] = refl
  fields_size (type ∷ types) = ap (max (type_size type)) (fields_size types)

  made_size : (constructors : List Constructor) → constructors_levels (map plain_constructor constructors) ≡ constructors_size constructors
  made_size [] = refl
  made_size (made ∷ others) = let e = fields_size made.fields in let f = made_size others in omega (arith, e, f)

  data_item : (x : Span) (declared : DataDecl) (made : Decl Span) → made ≡ d.Data x declared → data_size declared + 1 ≤ max_levels → IsDeclarationResolved strength (d.Data x declared) made × IsShallow made
  data_item x declared made e l =
      let s = made_size declared.constructors in
      subst (λ z. IsDeclarationResolved strength (d.Data x declared) z × IsShallow z) (sym e) (p.data_stays x declared, omega (arith, l, s))

  pub data_is : (x : Span) (declared : DataDecl) (n : ℕ) (result : Result (Decl Span) Fail) → n ≡ min 513 (data_size declared) → Whole x n (d.Data x declared) result → Item (d.Data x declared) result
  data_is x declared n result m h =
      let s = made_size declared.constructors in
      found_of (λ made. (made ≡ d.Data x declared) × (n + 1 ≤ max_levels)) (λ made. IsDeclarationResolved strength (d.Data x declared) made × IsShallow made) (λ place. (place ≡ x.first) × (max_levels ≤ n)) (IsBroken (d.Data x declared))
      (λ made g. let k = g.1 in data_item x declared made g.0 (omega (arith, k, m)))
      (λ place b. λ others. let k = b.1 in subst (λ z. FirstDeclarationBroken strength (d.Data x declared ∷ others) z) (sym b.0) (p.this_declaration (d.Data x declared) others refl (omega (arith, k, m, s)))) result h

  pub function_made : (x : Span) (name : List ℕ) (rows others : List (Alt Span)) → AreRowsResolved strength rows others × (all_levels others + 1 ≤ max_levels) → IsDeclarationResolved strength (d.Fun x name rows) (d.Fun x name others) × IsShallow (d.Fun x name others)
  function_made x name rows others h = let l = h.1 in (p.clauses_resolved x name rows others h.0, omega (arith, l))

  pub function_broken : (x : Span) (name : List ℕ) (rows : List (Alt Span)) (place : Place) → FirstRowBroken strength rows place → IsBroken (d.Fun x name rows) place
  function_broken x name rows place h others = p.this_clause x name rows others place h

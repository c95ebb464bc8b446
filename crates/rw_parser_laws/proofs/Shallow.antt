-- Where some items are too deep, what is kept of the program tells the place that is named.
use Rattle.std.proofs.Common.{◌≡◌, ℕ, suc, ◌<◌, ◌≤◌, Bool, true, false, cond, List, [], ◌∷◌, ◌++◌, map, Some, None, refl, sym, ap, subst, ◌∙◌, arith, inl, inr, if◌then◌else◌}
use Rattle.std.specs.Str.{bytes_eq}
use Rattle.std.proofs.lemmas.Bool.{cases_Bool, leb-false}
use Rattle.std.proofs.Math.Path.{fun_ext}
use Rattle.rw_base.specs.declared.place.Place.{Place}
use Rattle.rw_base.specs.declared.place.Span.{Span}
use Rattle.rw_tree.specs.declared.pattern.Pat.{Pat}
use Rattle.rw_tree.specs.declared.expr.Expr.{Expr}
use Rattle.rw_tree.specs.declared.clause.Alt.{Alt, out-Alt}
use Rattle.rw_tree.specs.declared.clause.Local.{Local}
use Rattle.rw_tree.specs.declared.decl.Decl.{Decl}
use Rattle.rw_tree.specs.declared.decl.Decl.TheVariants as d
use Rattle.rw_tree.specs.declared.decl.Decl.TheVariants.{Import, Data, Fixity, Sig, Fun}
use Rattle.rw_tree.specs.declared.program.Program.{Program}
use Rattle.rw_tree.specs.Trees.{alternative_of}
use Rattle.rw_tree.specs.Declarations.{declaration}
use Rattle.rw_prelude.specs.PreludeText.{prelude}
use Rattle.rw_parser_grammar.specs.declared.item.Item.{Item}
use Rattle.rw_parser_grammar.specs.declared.item.Item.TheVariants as i
use Rattle.rw_parser_grammar.specs.declared.lexeme.Lexeme.{Lexeme}
use Rattle.rw_parser_grammar.specs.Chains.{Strength, is_named, strength_in, strength_of_name}
use Rattle.rw_parser_grammar.specs.Lexemes.{next_spot}
use Rattle.rw_parser_grammar.specs.Clauses.{Group, alone, clauses, clause_before, rows_span, IsClause, a_clause}
use Rattle.rw_parser_grammar.specs.Declarations.{an_import, a_data, a_newtype, a_fixity, a_signature, an_import_item, a_data_item, a_fixity_item, a_signature_item, a_clause_item}
use Rattle.rw_parser_grammar.specs.Grammar.{IsItem, AreItems, no_items, nothing, something, item_groups, declaration_of, declarations_of}
use Rattle.rw_parser_grammar.specs.Levels.{max_levels, declaration_levels, rows_levels}
use Rattle.rw_parser_grammar.specs.Resolved.{AreRowsResolved, no_rows_resolved, more_rows_resolved}
use Rattle.rw_parser_grammar.specs.Resolution.{IsDeclarationResolved, data_stays, signature_stays, clauses_resolved, IsShallow, AreDeclarationsResolved, no_declarations_resolved, more_declarations_resolved, IsProgramResolved, program_resolved}
use Rattle.rw_parser_grammar.specs.Resolution.{FirstRowBroken, this_row, later_row, is_function, FirstDeclarationBroken, this_clause, this_declaration, later_declaration}
use Rattle.rw_parser_reading.specs.Frames.{frames_of_declaration, frames_of_item}
use Rattle.rw_parser_reading.specs.Shallow.{of_items, is_fixity_declaration, is_fixity, fixities, is_shallow, shallow, item_place, first_deep}
use Rattle.rw_parser_reading.proofs.ReadExact.{chosen, some_is}
use Rattle.rw_parser_laws.proofs.Deep.{deep_row, declaration_deep}

-- ---- items are no functions that are whole, and stand at their first token
abbrev pub is_no_function : Item → Bool
is_no_function (i.Clause name row) = true
is_no_function (i.Whole (Import span name)) = true
is_no_function (i.Whole (Data span made)) = true
is_no_function (i.Whole (Fixity span side n names)) = true
is_no_function (i.Whole (Sig span names type)) = true
is_no_function (i.Whole (Fun span name rows)) = false

abbrev pub NoFunctions : List Item → Type 0
NoFunctions [] = Unit {0}
NoFunctions (item ∷ items) = (is_no_function item ≡ true) × NoFunctions items

item_no_function : (n : ℕ) {ts : List Lexeme} {item : Item} {rest : List Lexeme} → IsItem n ts item rest → is_no_function item ≡ true
item_no_function n (an_import_item _ _ _ (an_import w ts named behind hidden listed rest names listing q p a h x)) = refl
item_no_function n (a_data_item _ _ _ (a_data v w name ts mid next rest params classes all ds k x)) = refl
item_no_function n (a_data_item _ _ _ (a_newtype u v w x name made ts mid next rest params classes field ds k y)) = refl
item_no_function n (a_fixity_item _ _ _ (a_fixity w word at ts mid rest strength names e k ds)) = refl
item_no_function n (a_signature_item _ _ _ (a_signature w ts mid next rest names monads type xs c y)) = refl
item_no_function n (a_clause_item ts rest name row x) = refl

pub items_no_functions : {rs : List (List Lexeme × Lexeme)} {items : List Item} → AreItems rs items → NoFunctions items
items_no_functions no_items = tt
items_no_functions (nothing end rs items d) = items_no_functions d
items_no_functions (something n run end rs item items x d) = (item_no_function n x, items_no_functions d)

clause_place : {LeftSide : List Lexeme → List ℕ × List (Pat Span) → List Lexeme → Type 0} {Expression : List Lexeme → Expr Span → List Lexeme → Type 0} {Locals : List Lexeme → List (Local Span) → List Lexeme → Type 0}
    {ts : List Lexeme} {made : List ℕ × Alt Span} {rest : List Lexeme} → IsClause LeftSide Expression Locals ts made rest → (out-Alt Span made.1).at.first ≡ (next_spot ts).place
clause_place (a_clause ts mid next rest name pats rhs wheres d i w) = refl

pub place_of_item : (n : ℕ) {ts : List Lexeme} {item : Item} {rest : List Lexeme} → IsItem n ts item rest → item_place item ≡ (next_spot ts).place
place_of_item n (an_import_item _ _ _ (an_import w ts named behind hidden listed rest names listing q p a h x)) = refl
place_of_item n (a_data_item _ _ _ (a_data v w name ts mid next rest params classes all ds k x)) = refl
place_of_item n (a_data_item _ _ _ (a_newtype u v w x name made ts mid next rest params classes field ds k y)) = refl
place_of_item n (a_fixity_item _ _ _ (a_fixity w word at ts mid rest strength names e k ds)) = refl
place_of_item n (a_signature_item _ _ _ (a_signature w ts mid next rest names monads type xs c y)) = refl
place_of_item n (a_clause_item ts rest name row x) = clause_place x

-- ---- an item behind others
-- the second groups are the first with this item behind them, and maybe more
data Reach : List (Group (Decl Span)) → Item → List (Group (Decl Span)) → Type 0 where
  reach_whole : (a : Decl Span) (gs : List (Group (Decl Span))) → Reach [] (i.Whole a) (alone a ∷ gs)
  reach_clause : (name : List ℕ) (row : Alt Span) (more : List (Alt Span)) (gs : List (Group (Decl Span))) → Reach [] (i.Clause name row) (clauses name row more ∷ gs)
  reach_join : (name other : List ℕ) (first row : Alt Span) (rows more : List (Alt Span)) (gs : List (Group (Decl Span)))
      → Reach (clauses name first rows ∷ []) (i.Clause other row) (clauses name first (rows ++ row ∷ more) ∷ gs)
  reach_behind : (group : Group (Decl Span)) (gs hs : List (Group (Decl Span))) (item : Item) → Reach gs item hs → Reach (group ∷ gs) item (group ∷ hs)

clause_first : (name : List ℕ) (row : Alt Span) (gs : List (Group (Decl Span))) → Reach [] (i.Clause name row) (clause_before name row gs)
clause_first name row [] = reach_clause name row [] []
clause_first name row (alone a ∷ gs) = reach_clause name row [] (alone a ∷ gs)
clause_first name row (clauses other first rows ∷ gs) =
    elim (cases_Bool (bytes_eq name other)) [
      | inl k ↦ rw k (reach_clause name row (first ∷ rows) gs)
      | inr k ↦ rw k (reach_clause name row [] (clauses other first rows ∷ gs))
    ]

clause_reach : (name : List ℕ) (row : Alt Span) {gs hs : List (Group (Decl Span))} {item : Item} → Reach gs item hs → Reach (clause_before name row gs) item (clause_before name row hs)
clause_reach name row (reach_whole a gs) = reach_behind (clauses name row []) [] (alone a ∷ gs) (i.Whole a) (reach_whole a gs)
clause_reach name row (reach_clause other next more gs) =
    elim (cases_Bool (bytes_eq name other)) [
      | inl k ↦ rw k (reach_join name other row next [] more gs)
      | inr k ↦ rw k (reach_behind (clauses name row []) [] (clauses other next more ∷ gs) (i.Clause other next) (reach_clause other next more gs))
    ]
clause_reach name row (reach_join last other first next rows more gs) =
    elim (cases_Bool (bytes_eq name last)) [
      | inl k ↦ rw k (reach_join name other row next (first ∷ rows) more gs)
      | inr k ↦ rw k (reach_behind (clauses name row []) (clauses last first rows ∷ []) (clauses last first (rows ++ next ∷ more) ∷ gs) (i.Clause other next) (reach_join last other first next rows more gs))
    ]
clause_reach name row (reach_behind (alone a) gs hs item d) = reach_behind (clauses name row []) (alone a ∷ gs) (alone a ∷ hs) item (reach_behind (alone a) gs hs item d)
clause_reach name row (reach_behind (clauses other first rows) gs hs item d) =
    elim (cases_Bool (bytes_eq name other)) [
      | inl k ↦ rw k (reach_behind (clauses name row (first ∷ rows)) gs hs item d)
      | inr k ↦ rw k (reach_behind (clauses name row []) (clauses other first rows ∷ gs) (clauses other first rows ∷ hs) item (reach_behind (clauses other first rows) gs hs item d))
    ]

item_reach : (before : List Item) (item : Item) (behind : List Item) → Reach (item_groups before) item (item_groups (before ++ item ∷ behind))
item_reach [] (i.Clause name row) behind = clause_first name row (item_groups behind)
item_reach [] (i.Whole a) behind = reach_whole a (item_groups behind)
item_reach (i.Clause name row ∷ before) item behind = clause_reach name row (item_reach before item behind)
item_reach (i.Whole a ∷ before) item behind = reach_behind (alone a) (item_groups before) (item_groups (before ++ item ∷ behind)) item (item_reach before item behind)

-- ---- what breaks
whole_deep : (a : Decl Span) → is_no_function (i.Whole a) ≡ true → max_levels < frames_of_declaration a → (is_function a ≡ false) × (max_levels < declaration_levels (declaration (λ span. span) a))
whole_deep (Import span name) h k = absurd (omega arith)
whole_deep (Data span made) h k = (refl, let g = declaration_deep {strength = λ name. strength_in [] name} (data_stays span made) in omega arith)
whole_deep (Fixity span side n names) h k = absurd (omega arith)
whole_deep (Sig span names type) h k = (refl, let g = declaration_deep {strength = λ name. strength_in [] name} (signature_stays span names type) in omega arith)
whole_deep (Fun span name rows) h k = absurd (cc)

abbrev AllFixities : List (Decl Span) → Type 0
AllFixities [] = Unit {0}
AllFixities (a ∷ ds) = (is_fixity_declaration a ≡ true) × AllFixities ds

module _ (strength : List ℕ → Strength) where
  abbrev Broken : List (Decl Span) → Place → Type 0
  Broken decls at = FirstDeclarationBroken strength decls at

  -- more clauses behind leave the first that is broken
  rows_broken : {rows : List (Alt Span)} {at : Place} (more : List (Alt Span)) → FirstRowBroken strength rows at → FirstRowBroken strength (rows ++ more) at
  rows_broken more (this_row row rows b) = this_row row (rows ++ more) b
  rows_broken more (later_row row other rows at r s b) = later_row row other (rows ++ more) at r s (rows_broken more b)

  -- clauses that are resolved leave it to those behind
  rows_behind : {rows others more : List (Alt Span)} {at : Place} → AreRowsResolved strength rows others → suc (rows_levels (map (alternative_of (λ span. span)) others)) ≤ max_levels → FirstRowBroken strength more at
      → FirstRowBroken strength (rows ++ more) at
  rows_behind no_rows_resolved h b = b
  rows_behind {more = more} {at = at} (more_rows_resolved row other rows others r rs) h b = later_row row other (rows ++ more) at r (omega arith) (rows_behind rs (omega arith) b)

  none_broken : {A : Type 0} {at : Place} → Broken [] at → A
  none_broken b = elim b [ ]

  broken_more : (a : Decl Span) (ds es : List (Decl Span)) {at : Place} → (Broken ds at → Broken es at) → Broken (a ∷ ds) at → Broken (a ∷ es) at
  broken_more _ ds es f (this_clause x name rows _ at b) = this_clause x name rows es at b
  broken_more _ ds es f (this_declaration a _ n deep) = this_declaration a es n deep
  broken_more _ ds es f (later_declaration a other _ at r s b) = later_declaration a other es at r s (f b)

  broken_join : (x y : Span) (name : List ℕ) (rows more : List (Alt Span)) (es : List (Decl Span)) {at : Place} → Broken (d.Fun x name rows ∷ []) at → Broken (d.Fun y name (rows ++ more) ∷ es) at
  broken_join x y name rows more es (this_clause _ _ _ _ at b) = this_clause y name (rows ++ more) es at (rows_broken more b)
  broken_join x y name rows more es (this_declaration _ _ n deep) = absurd (cc)
  broken_join x y name rows more es (later_declaration _ other _ at r s b) = none_broken b

  reached_broken : {gs hs : List (Group (Decl Span))} {item : Item} {at : Place} → Reach gs item hs → Broken (declarations_of gs) at → Broken (declarations_of hs) at
  reached_broken (reach_whole a gs) b = none_broken b
  reached_broken (reach_clause name row more gs) b = none_broken b
  reached_broken (reach_join name other first row rows more gs) b =
      broken_join (rows_span first rows) (rows_span first (rows ++ row ∷ more)) name (first ∷ rows) (row ∷ more) (declarations_of gs) b
  reached_broken (reach_behind group gs hs item d) b = broken_more (declaration_of group) (declarations_of gs) (declarations_of hs) (reached_broken d) b

  resolved_more : (a : Decl Span) (ds es others : List (Decl Span)) (at : Place) → AreDeclarationsResolved strength (a ∷ ds) others → ((rest : List (Decl Span)) → AreDeclarationsResolved strength ds rest → Broken es at) → Broken (a ∷ es) at
  resolved_more _ ds es _ at (more_declarations_resolved a b _ rest r s rs) f = later_declaration a b es at r s (f rest rs)

  function_parts : (x : Span) (name : List ℕ) (rows : List (Alt Span)) (b : Decl Span) → IsDeclarationResolved strength (d.Fun x name rows) b → IsShallow b
      → (others : List (Alt Span)) × AreRowsResolved strength rows others × (suc (rows_levels (map (alternative_of (λ span. span)) others)) ≤ max_levels)
  function_parts x name rows _ (clauses_resolved _ _ _ others rs) s = (others, rs, s)

  resolved_join : (x y : Span) (name : List ℕ) (rows more : List (Alt Span)) (es others : List (Decl Span)) (at : Place) → AreDeclarationsResolved strength (d.Fun x name rows ∷ []) others → FirstRowBroken strength more at
      → Broken (d.Fun y name (rows ++ more) ∷ es) at
  resolved_join x y name rows more es _ at (more_declarations_resolved _ b _ rest r s rs) k =
      let p = function_parts x name rows b r s in this_clause y name (rows ++ more) es at (rows_behind p.1 p.2 k)

  reached_deep : {gs hs : List (Group (Decl Span))} {item : Item} (others : List (Decl Span)) → Reach gs item hs → is_no_function item ≡ true → max_levels < frames_of_item item
      → AreDeclarationsResolved strength (declarations_of gs) others → Broken (declarations_of hs) (item_place item)
  reached_deep others (reach_whole a gs) n deep r = let h = whole_deep a n deep in this_declaration a (declarations_of gs) h.0 h.1
  reached_deep others (reach_clause name row more gs) n deep r =
      this_clause (rows_span row more) name (row ∷ more) (declarations_of gs) (out-Alt Span row).at.first (this_row row more (deep_row {strength = strength} row deep))
  reached_deep others (reach_join name other first row rows more gs) n deep r =
      resolved_join (rows_span first rows) (rows_span first (rows ++ row ∷ more)) name (first ∷ rows) (row ∷ more) (declarations_of gs) others (out-Alt Span row).at.first r
      (this_row row more (deep_row {strength = strength} row deep))
  reached_deep others (reach_behind group gs hs item d) n deep r =
      resolved_more (declaration_of group) (declarations_of gs) (declarations_of hs) others (item_place item) r (λ rest rs. reached_deep rest d n deep rs)

  -- ---- fixity declarations behind
  fixity_whole : (a : Decl Span) (ds : List (Decl Span)) {A : Type 0} {at : Place} → is_fixity_declaration a ≡ true → (Broken ds at → A) → Broken (a ∷ ds) at → A
  fixity_whole _ ds h f (this_clause x name rows _ at b) = absurd (cc)
  fixity_whole _ ds h f (this_declaration (Fixity span side n names) _ k deep) = absurd (omega arith)
  fixity_whole _ ds h f (this_declaration a _ k deep) = absurd (cc)
  fixity_whole _ ds h f (later_declaration a other _ at r s b) = f b

  fixities_whole : (fs : List (Decl Span)) {A : Type 0} {at : Place} → AllFixities fs → Broken fs at → A
  fixities_whole [] h b = none_broken b
  fixities_whole (a ∷ fs) h b = fixity_whole a fs h.0 (fixities_whole fs h.1) b

  front_broken : (ds fs : List (Decl Span)) {at : Place} → AllFixities fs → Broken (ds ++ fs) at → Broken ds at
  front_broken [] fs h b = fixities_whole fs h b
  front_broken (a ∷ ds) fs h b = broken_more a (ds ++ fs) ds (front_broken ds fs h) b

  front_resolved : (ds fs others : List (Decl Span)) → AreDeclarationsResolved strength (ds ++ fs) others → (rest : List (Decl Span)) × AreDeclarationsResolved strength ds rest
  front_resolved [] fs others r = ([], no_declarations_resolved)
  front_resolved (_ ∷ ds) fs _ (more_declarations_resolved a b _ rest r s rs) = let h = front_resolved ds fs rest rs in (b ∷ h.0, more_declarations_resolved a b ds h.0 r s h.1)

-- ---- what is kept
fixities_joined : (items : List Item) → AllFixities (declarations_of (item_groups (fixities items)))
fixities_joined [] = tt
fixities_joined (i.Clause name row ∷ items) = fixities_joined items
fixities_joined (i.Whole (Import span name) ∷ items) = fixities_joined items
fixities_joined (i.Whole (Data span made) ∷ items) = fixities_joined items
fixities_joined (i.Whole (Fixity span side n names) ∷ items) = (refl, fixities_joined items)
fixities_joined (i.Whole (Sig span names type) ∷ items) = fixities_joined items
fixities_joined (i.Whole (Fun span name rows) ∷ items) = fixities_joined items

-- groups that begin with no clause
abbrev begins_whole : List (Group (Decl Span)) → Bool
begins_whole [] = true
begins_whole (alone a ∷ gs) = true
begins_whole (clauses name row rows ∷ gs) = false

fixities_begin : (items : List Item) → begins_whole (item_groups (fixities items)) ≡ true
fixities_begin [] = refl
fixities_begin (i.Clause name row ∷ items) = fixities_begin items
fixities_begin (i.Whole (Import span name) ∷ items) = fixities_begin items
fixities_begin (i.Whole (Data span made) ∷ items) = fixities_begin items
fixities_begin (i.Whole (Fixity span side n names) ∷ items) = refl
fixities_begin (i.Whole (Sig span names type) ∷ items) = fixities_begin items
fixities_begin (i.Whole (Fun span name rows) ∷ items) = fixities_begin items

clause_apart : (name : List ℕ) (row : Alt Span) (gs hs : List (Group (Decl Span))) → begins_whole hs ≡ true → clause_before name row (gs ++ hs) ≡ clause_before name row gs ++ hs
clause_apart name row [] [] h = refl
clause_apart name row [] (alone a ∷ hs) h = refl
clause_apart name row [] (clauses other first rows ∷ hs) h = absurd (cc)
clause_apart name row (alone a ∷ gs) hs h = refl
clause_apart name row (clauses other first rows ∷ gs) hs h =
    elim (cases_Bool (bytes_eq name other)) [
      | inl k ↦ rw k
      | inr k ↦ rw k
    ]

groups_apart : (before items : List Item) → begins_whole (item_groups items) ≡ true → item_groups (before ++ items) ≡ item_groups before ++ item_groups items
groups_apart [] items h = refl
groups_apart (i.Clause name row ∷ before) items h = ap (clause_before name row) (groups_apart before items h) ∙ clause_apart name row (item_groups before) (item_groups items) h
groups_apart (i.Whole a ∷ before) items h = ap (λ z. alone a ∷ z) (groups_apart before items h)

declarations_apart : (gs hs : List (Group (Decl Span))) → declarations_of (gs ++ hs) ≡ declarations_of gs ++ declarations_of hs
declarations_apart [] hs = refl
declarations_apart (group ∷ gs) hs = ap (λ z. declaration_of group ∷ z) (declarations_apart gs hs)

kept_apart : (before items : List Item) → declarations_of (item_groups (before ++ fixities items)) ≡ declarations_of (item_groups before) ++ declarations_of (item_groups (fixities items))
kept_apart before items = ap declarations_of (groups_apart before (fixities items) (fixities_begin items)) ∙ declarations_apart (item_groups before) (item_groups (fixities items))

-- ---- strengths
abbrev strength_with : Item → List ℕ → Strength → Strength
strength_with (i.Clause name row) n s = s
strength_with (i.Whole (Import span name)) n s = s
strength_with (i.Whole (Data span made)) n s = s
strength_with (i.Whole (Fixity span at k names)) n s = if is_named n names then (at, k) else s
strength_with (i.Whole (Sig span names type)) n s = s
strength_with (i.Whole (Fun span name rows)) n s = s

clause_strength : (name : List ℕ) (row : Alt Span) (gs : List (Group (Decl Span))) (n : List ℕ) → strength_in (declarations_of (clause_before name row gs) ++ prelude) n ≡ strength_in (declarations_of gs ++ prelude) n
clause_strength name row [] n = refl
clause_strength name row (alone a ∷ gs) n = refl
clause_strength name row (clauses other first rows ∷ gs) n =
    elim (cases_Bool (bytes_eq name other)) [
      | inl k ↦ rw k
      | inr k ↦ rw k
    ]

abbrev strength_by : List Item → List ℕ → Strength
strength_by items n = strength_in (declarations_of (item_groups items) ++ prelude) n

item_strength : (item : Item) (items : List Item) (n : List ℕ) → strength_by (item ∷ items) n ≡ strength_with item n (strength_by items n)
item_strength (i.Clause name row) items n = clause_strength name row (item_groups items) n
item_strength (i.Whole (Import span name)) items n = refl
item_strength (i.Whole (Data span made)) items n = refl
item_strength (i.Whole (Fixity span at k names)) items n = refl
item_strength (i.Whole (Sig span names type)) items n = refl
item_strength (i.Whole (Fun span name rows)) items n = refl

no_strength_with : (item : Item) (n : List ℕ) (s : Strength) → is_fixity item ≡ false → strength_with item n s ≡ s
no_strength_with (i.Clause name row) n s h = refl
no_strength_with (i.Whole (Import span name)) n s h = refl
no_strength_with (i.Whole (Data span made)) n s h = refl
no_strength_with (i.Whole (Fixity span at k names)) n s h = absurd (cc)
no_strength_with (i.Whole (Sig span names type)) n s h = refl
no_strength_with (i.Whole (Fun span name rows)) n s h = refl

same_with : (item : Item) (xs ys : List Item) (n : List ℕ) → strength_by xs n ≡ strength_by ys n → strength_by (item ∷ xs) n ≡ strength_by (item ∷ ys) n
same_with item xs ys n h = item_strength item xs n ∙ ap (strength_with item n) h ∙ sym (item_strength item ys n)

fixities_strength : (items : List Item) (n : List ℕ) → strength_by (fixities items) n ≡ strength_by items n
fixities_strength [] n = refl
fixities_strength (item ∷ items) n =
    elim (cases_Bool (is_fixity item)) [
      | inl k ↦ ap (λ z. strength_by (cond z (item ∷ fixities items) (fixities items)) n) k ∙ same_with item (fixities items) items n (fixities_strength items n)
      | inr k ↦ ap (λ z. strength_by (cond z (item ∷ fixities items) (fixities items)) n) k ∙ fixities_strength items n ∙ sym (item_strength item items n ∙ no_strength_with item n (strength_by items n) k)
    ]

deep_no_fixity : (item : Item) → is_shallow item ≡ false → is_fixity item ≡ false
deep_no_fixity (i.Clause name row) h = refl
deep_no_fixity (i.Whole (Import span name)) h = refl
deep_no_fixity (i.Whole (Data span made)) h = refl
deep_no_fixity (i.Whole (Fixity span at k names)) h = absurd (cc)
deep_no_fixity (i.Whole (Sig span names type)) h = refl
deep_no_fixity (i.Whole (Fun span name rows)) h = refl

kept_strength : (items : List Item) (n : List ℕ) → strength_by (shallow items) n ≡ strength_by items n
kept_strength [] n = refl
kept_strength (item ∷ items) n =
    elim (cases_Bool (is_shallow item)) [
      | inl k ↦ ap (λ z. strength_by (cond z (item ∷ shallow items) (fixities items)) n) k ∙ same_with item (shallow items) items n (kept_strength items n)
      | inr k ↦ ap (λ z. strength_by (cond z (item ∷ shallow items) (fixities items)) n) k ∙ fixities_strength items n ∙ sym (item_strength item items n ∙ no_strength_with item n (strength_by items n) (deep_no_fixity item k))
    ]

same_strengths : (items : List Item) → strength_of_name (of_items (shallow items)).decls ≡ strength_of_name (of_items items).decls
same_strengths items = fun_ext (kept_strength items)

-- ---- the first that is too deep
pub none_deep : (items : List Item) → first_deep items ≡ None → shallow items ≡ items
none_deep [] e = refl
none_deep (item ∷ items) e =
    elim (chosen (is_shallow item) _ _ _ e) [
      | inl h ↦ ap (λ z. cond z (item ∷ shallow items) (fixities items)) h.0 ∙ ap (λ z. item ∷ z) (none_deep items h.1)
      | inr h ↦ absurd (let f : Some (item_place item) ≡ None = h.1 in cc)
    ]

record Split (items : List Item) (at : Place) : Type 0 where
  before : List Item
  deep : Item
  behind : List Item
  all : items ≡ before ++ deep ∷ behind
  left : shallow items ≡ before ++ fixities behind
  place : item_place deep ≡ at
  too_deep : max_levels < frames_of_item deep
  no_function : is_no_function deep ≡ true

split : (items : List Item) (at : Place) → NoFunctions items → first_deep items ≡ Some at → Split items at
split [] at n e = absurd (cc)
split (item ∷ items) at n e =
    elim (chosen (is_shallow item) _ _ _ e) [
      | inl h ↦ let s = split items at n.1 h.1 in
          record {
            before = item ∷ s.before;
            deep = s.deep;
            behind = s.behind;
            all = ap (λ z. item ∷ z) s.all;
            left = ap (λ z. cond z (item ∷ shallow items) (fixities items)) h.0 ∙ ap (λ z. item ∷ z) s.left;
            place = s.place;
            too_deep = s.too_deep;
            no_function = s.no_function;
          }
      | inr h ↦ record {
        before = [];
        deep = item;
        behind = items;
        all = refl;
        left = ap (λ z. cond z (item ∷ shallow items) (fixities items)) h.0;
        place = some_is (item_place item) at h.1;
        too_deep = leb-false (frames_of_item item) max_levels h.0;
        no_function = n.0;
      }
    ]

module _ (strength : List ℕ → Strength) (items : List Item) (at : Place) (s : Split items at) where
  kept_is : (of_items (shallow items)).decls ≡ declarations_of (item_groups s.before) ++ declarations_of (item_groups (fixities s.behind))
  kept_is = ap (λ z. declarations_of (item_groups z)) s.left ∙ kept_apart s.before s.behind

  reach : Reach (item_groups s.before) s.deep (item_groups items)
  reach = subst (λ z. Reach (item_groups s.before) s.deep (item_groups z)) (sym s.all) (item_reach s.before s.deep s.behind)

  earlier_breaks : (place : Place) → FirstDeclarationBroken strength (of_items (shallow items)).decls place → FirstDeclarationBroken strength (of_items items).decls place
  earlier_breaks place b =
      reached_broken strength reach (front_broken strength (declarations_of (item_groups s.before)) _ (fixities_joined s.behind) (subst (λ z. FirstDeclarationBroken strength z place) kept_is b))

  deep_breaks : (others : List (Decl Span)) → AreDeclarationsResolved strength (of_items (shallow items)).decls others → FirstDeclarationBroken strength (of_items items).decls at
  deep_breaks others r =
      let h = front_resolved strength (declarations_of (item_groups s.before)) (declarations_of (item_groups (fixities s.behind))) others (subst (λ z. AreDeclarationsResolved strength z others) kept_is r) in
      subst (FirstDeclarationBroken strength (of_items items).decls) s.place (reached_deep strength h.0 reach s.no_function s.too_deep h.1)

abbrev pub Strengths : List Item → List ℕ → Strength
Strengths items = strength_of_name (of_items items).decls

pub earlier_broken : (items : List Item) (at place : Place) → NoFunctions items → first_deep items ≡ Some at → FirstDeclarationBroken (Strengths (shallow items)) (of_items (shallow items)).decls place
    → FirstDeclarationBroken (Strengths items) (of_items items).decls place
earlier_broken items at place n e b =
    earlier_breaks (Strengths items) items at (split items at n e) place (subst (λ z. FirstDeclarationBroken z (of_items (shallow items)).decls place) (same_strengths items) b)

resolved_parts : {p q : Program Span} → IsProgramResolved p q → (others : List (Decl Span)) × AreDeclarationsResolved (strength_of_name p.decls) p.decls others
resolved_parts (program_resolved decls others d) = (others, d)

pub deep_broken : (items : List Item) (at : Place) (q : Program Span) → NoFunctions items → first_deep items ≡ Some at → IsProgramResolved (of_items (shallow items)) q → FirstDeclarationBroken (Strengths items) (of_items items).decls at
deep_broken items at q n e r =
    let p = resolved_parts r in
    deep_breaks (Strengths items) items at (split items at n e) p.0 (subst (λ z. AreDeclarationsResolved z (of_items (shallow items)).decls p.0) (same_strengths items) p.1)

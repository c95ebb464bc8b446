-- The data types of a program in order, each with its number, and the graph of what they mention.
use Rattle.std.specs.Prelude.{ℕ, suc, List, [], ◌∷◌, map, flat_map, Bool, false, ◌||◌, Option, Some, None, option_to_list}
use Rattle.rw_scope_graph.specs.Waiting.{marked}
use Rattle.rw_base.specs.declared.place.Place.{Place}
use Rattle.rw_base.specs.declared.place.Span.{Span}
use Rattle.rw_tree.specs.Declarations.{PlainConstructor, Declaration, data_declaration, plain_constructor}
use Rattle.rw_scope_rules.specs.Names.{Bytes, first_named, at_if}
use Rattle.rw_scope_rules.specs.Scope.{type_constructors, fields_of}
use Rattle.rw_scope_rules.specs.Kinds.{is_empty, is_recursive}
use Rattle.rw_scope_kinds.specs.declared.mentions.Made.{Made}

-- where a data type stands, its name, and its constructors
abbrev pub PlainMade : Type 0
PlainMade = Span × Bytes × List PlainConstructor

abbrev pub made_of : Declaration Span → List PlainMade
made_of (data_declaration a x params constructors) = (a, x, constructors) ∷ []
made_of _ = []

abbrev pub plain_made : Made → PlainMade
plain_made m = (m.at, m.made.now.name, map plain_constructor m.made.now.constructors)

-- its name, and what it mentions
abbrev pub mentions_of : PlainMade → Bytes × List Bytes
mentions_of m = (m.1, flat_map type_constructors (fields_of m.2))

-- the names, each with the number of its data type, from this one on
abbrev pub numbered : ℕ → List PlainMade → List (Bytes × ℕ)
numbered n [] = []
numbered n (m ∷ ms) = (m.1, n) ∷ numbered (suc n) ms

-- the number of a name by a table, if it has one
abbrev pub numbers_by : List (Bytes × ℕ) → Bytes → List ℕ
numbers_by table x = option_to_list (first_named x table)

-- what each data type mentions, by number
abbrev pub mention_graph : List (Bytes × ℕ) → List PlainMade → List (List ℕ)
mention_graph table ms = map (λ m. flat_map (numbers_by table) (mentions_of m).1) ms

-- the place of a data type that is empty or recursive
abbrev pub ill_made : List (Bytes × List Bytes) → PlainMade → List Place
ill_made data_types m = at_if (is_empty m.2 || is_recursive data_types m.1) m.0.first

-- what marks say of the data type of a name
abbrev pub mark_at : List Bool → Option ℕ → Bool
mark_at marks None = false
mark_at marks (Some i) = marked marks i

abbrev pub is_marked_by : List (Bytes × ℕ) → List Bool → Bytes → Bool
is_marked_by table marks x = mark_at marks (first_named x table)

-- the place of a data type that is empty or marked
abbrev pub ill_by : List (Bytes × ℕ) → List Bool → PlainMade → List Place
ill_by table marks m = at_if (is_empty m.2 || is_marked_by table marks m.1) m.0.first

-- Names and places: what is the same name, what is declared twice, and which place is the first.
use Rattle.std.specs.Prelude.{ℕ, List, [], ◌∷◌, ◌++◌, Bool, ◌&&◌, ◌||◌, ◌==◌, nat_eq, nat_lt, Option, Some, None, if◌then◌else◌}
use Rattle.std.specs.List.{list_any}
use lib.Pointwise.{pointwise}
use Rattle.rw_base.specs.declared.place.Place.{Place}
use Rattle.rw_base.specs.declared.place.Span.{Span}

-- a name: its bytes
abbrev pub Bytes : Type 0
Bytes = List ℕ

-- whether two names are the same
abbrev pub same_name : Bytes → Bytes → Bool
same_name = pointwise nat_eq

-- whether a name is one of these
abbrev pub is_among : Bytes → List Bytes → Bool
is_among x names = list_any (same_name x) names

-- what the first of these that has the name is
abbrev pub first_named : {V : Type 0} → Bytes → List (Bytes × V) → Option V
first_named x [] = None
first_named x (v ∷ vs) = if same_name x v.0 then Some v.1 else first_named x vs

-- the place, where something is wrong
abbrev pub at_if : Bool → Place → List Place
at_if wrong place = if wrong then place ∷ [] else []

-- the places of those whose name is one of the given ones, or that of one before it
abbrev pub repeated : List Bytes → List (Bytes × Span) → List Place
repeated before [] = []
repeated before (v ∷ vs) = at_if (is_among v.0 before) v.1.first ++ repeated (v.0 ∷ before) vs

-- whether a place stands before another: on an earlier line, or further to the left
abbrev pub is_before : Place → Place → Bool
is_before p q = nat_lt p.line q.line || p.line == q.line && nat_lt p.column q.column

abbrev pub earlier : Place → Option Place → Place
earlier p None = p
earlier p (Some q) = if is_before q p then q else p

-- the first of these places in the source
abbrev pub earliest : List Place → Option Place
earliest [] = None
earliest (p ∷ ps) = Some (earlier p (earliest ps))

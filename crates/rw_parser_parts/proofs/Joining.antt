-- Joining from left to right gives the groups that the grammar names from the right, for any kind of declaration.
use Rattle.std.proofs.Common.{◌≡◌, ℕ, Bool, true, false, cond, List, [], ◌∷◌, ◌++◌, Option, Some, None, refl, sym, ◌∙◌, ap, append_assoc, append-nil}
use Rattle.std.specs.Str.{bytes_eq}
use Rattle.std.proofs.lemmas.Slice.Eq.{bytes_eq-Decides}
use Rattle.rw_base.specs.declared.place.Span.{Span}
use Rattle.rw_tree.specs.declared.clause.Alt.{Alt}
use Rattle.rw_parser_grammar.specs.Lexemes.{span_over}
use Rattle.rw_parser_grammar.specs.Clauses.{Group, alone, clauses, clause_before, rows_span}
use Rattle.rw_parser_parts.specs.Joined.{longer, begun, whole, closed, with_clause}
use Rattle.rw_parser_parts.specs.declared.joined.Group.{Group as Going}

-- groups as declarations: `fun` makes one of a span, a name and its clauses
pub record Declares {A : Type 0} (fun : Span → List ℕ → List (Alt Span) → A) (of : List (Group A) → List A) : Type 0 where
  pub none : of [] ≡ []
  pub one : (a : A) (groups : List (Group A)) → of (alone a ∷ groups) ≡ a ∷ of groups
  pub some : (name : List ℕ) (first : Alt Span) (rows : List (Alt Span)) (groups : List (Group A)) → of (clauses name first rows ∷ groups) ≡ fun (rows_span first rows) name (first ∷ rows) ∷ of groups

-- the groups that follow, where a group that is going on may take the first of them
module _ {A : Type 0} (fun : Span → List ℕ → List (Alt Span) → A) (of : List (Group A) → List A) where
  abbrev pub going_on : Option Going → List (Group A) → List A
  going_on None groups = of groups
  going_on (Some going) [] = whole fun going ∷ []
  going_on (Some going) (alone a ∷ groups) = whole fun going ∷ of (alone a ∷ groups)
  going_on (Some going) (clauses other first rows ∷ groups) =
      cond (bytes_eq going.name other) (fun (span_over going.span (rows_span first rows)) going.name (going.rows ++ first ∷ rows) ∷ of groups) (whole fun going ∷ of (clauses other first rows ∷ groups))

module _ {A : Type 0} {fun : Span → List ℕ → List (Alt Span) → A} {of : List (Group A) → List A} (declares : Declares fun of) where
  same_name : (g : Going) (name : List ℕ) (row : Alt Span) (groups : List (Group A)) → bytes_eq g.name name ≡ true
      → going_on fun of (Some g) (clause_before name row groups) ≡ going_on fun of (Some (longer g row)) groups
  same_name g name row [] h = rw (h, declares.none)
  same_name g name row (alone a ∷ groups) h = rw h
  same_name g name row (clauses other first rows ∷ groups) h = by_name (bytes_eq name other) refl
    where
      by_name : (x : Bool) → bytes_eq name other ≡ x → going_on fun of (Some g) (clause_before name row (clauses other first rows ∷ groups)) ≡ going_on fun of (Some (longer g row)) (clauses other first rows ∷ groups)
      by_name true k = let e : bytes_eq g.name other ≡ true = ap (λ z. bytes_eq z other) ((bytes_eq-Decides g.name name).0 h) ∙ k in rw (k, h, e, append_assoc)
      by_name false k = let e : bytes_eq g.name other ≡ false = ap (λ z. bytes_eq z other) ((bytes_eq-Decides g.name name).0 h) ∙ k in rw (k, h, e)

  other_name : (g : Going) (name : List ℕ) (row : Alt Span) (groups : List (Group A)) → bytes_eq g.name name ≡ false
      → going_on fun of (Some g) (clause_before name row groups) ≡ whole fun g ∷ going_on fun of (Some (begun name row)) groups
  other_name g name row [] h = rw (h, declares.some name row [] [], declares.none)
  other_name g name row (alone a ∷ groups) h = rw (h, declares.some name row [] (alone a ∷ groups))
  other_name g name row (clauses other first rows ∷ groups) h = by_name (bytes_eq name other) refl
    where
      by_name : (x : Bool) → bytes_eq name other ≡ x → going_on fun of (Some g) (clause_before name row (clauses other first rows ∷ groups)) ≡ whole fun g ∷ going_on fun of (Some (begun name row)) (clauses other first rows ∷ groups)
      by_name true k = rw (k, h, declares.some name row (first ∷ rows) groups)
      by_name false k = rw (k, h, declares.some name row [] (clauses other first rows ∷ groups))

  first_name : (name : List ℕ) (row : Alt Span) (groups : List (Group A)) → of (clause_before name row groups) ≡ going_on fun of (Some (begun name row)) groups
  first_name name row [] = rw (declares.some name row [] [], declares.none)
  first_name name row (alone a ∷ groups) = declares.some name row [] (alone a ∷ groups)
  first_name name row (clauses other first rows ∷ groups) = by_name (bytes_eq name other) refl
    where
      by_name : (x : Bool) → bytes_eq name other ≡ x → of (clause_before name row (clauses other first rows ∷ groups)) ≡ going_on fun of (Some (begun name row)) (clauses other first rows ∷ groups)
      by_name true k = rw (k, declares.some name row (first ∷ rows) groups)
      by_name false k = rw (k, declares.some name row [] (clauses other first rows ∷ groups))

  pub clause_joined : (all : List A) (going : Option Going) (name : List ℕ) (row : Alt Span) (groups : List (Group A))
      → (with_clause fun all going name row).0 ++ going_on fun of (with_clause fun all going name row).1 groups ≡ all ++ going_on fun of going (clause_before name row groups)
  clause_joined all None name row groups = ap (λ z. all ++ z) (sym (first_name name row groups))
  clause_joined all (Some g) name row groups = by_name (bytes_eq g.name name) refl
    where
      by_name : (x : Bool) → bytes_eq g.name name ≡ x → (with_clause fun all (Some g) name row).0 ++ going_on fun of (with_clause fun all (Some g) name row).1 groups ≡ all ++ going_on fun of (Some g) (clause_before name row groups)
      by_name true k = rw (k, same_name g name row groups k)
      by_name false k = let e = other_name g name row groups k in rw (k, e, append_assoc)

  pub whole_joined : (all : List A) (going : Option Going) (a : A) (groups : List (Group A)) → (closed fun all going ++ a ∷ []) ++ of groups ≡ all ++ going_on fun of going (alone a ∷ groups)
  whole_joined all None a groups = rw (declares.one a groups, append_assoc)
  whole_joined all (Some g) a groups = rw (declares.one a groups, append_assoc, append_assoc)

  pub all_joined : (all : List A) (going : Option Going) → all ++ going_on fun of going [] ≡ closed fun all going
  all_joined all None = ap (λ z. all ++ z) declares.none ∙ append-nil all
  all_joined all (Some g) = refl

-- Declarations that hold types are read as the functions on lists say, with their trees cut.
use Rattle.std.proofs.Common.{◌≡◌, ℕ, max, Bool, true, false, cond, List, [], ◌∷◌, length, drop, Option, Some, None, refl, sym, ◌∙◌, ap, arith}
use Rattle.rw_base.specs.declared.place.Span.{Span}
use Rattle.rw_tree.specs.declared.types.Written.{Written}
use Rattle.rw_tree.specs.declared.decl.Constructor.{Constructor}
use Rattle.rw_tree.specs.declared.decl.Decl.{Decl}
use Rattle.rw_tree.specs.declared.decl.Decl.TheVariants as d
use Rattle.rw_parser_grammar.specs.declared.lexeme.Mark.TheVariants as m
use Rattle.rw_parser_grammar.specs.declared.lexeme.Spot.{Spot}
use Rattle.rw_parser_grammar.specs.declared.lexeme.Lexeme.{Lexeme}
use Rattle.rw_parser_grammar.specs.Lexemes.{span_of}
use Rattle.rw_parser_reading.specs.Frames.{frames_of_type, frames_of_constructor, frames_of_declaration, most, kept, cut}
use Rattle.rw_parser_reading.specs.Read.{◌>>=◌, Read, sees, after, separated_at, constructor_at}
use Rattle.rw_parser_reading.specs.ReadTypes.{atype_at}
use Rattle.rw_parser_reading.specs.ReadDeclarations.{class_name_at, data_constructor_at, constructors_at, parameters_at, deriving_at, data_at, newtype_at, signed_name_at, context_at, signature_at}
use Rattle.rw_parser_patterns.specs.Depth.{any_type_at}
use Rattle.rw_parser_patterns.specs.Given.{counted}
use Rattle.rw_parser_patterns.proofs.Kept.{kept_alike, kept_empty}
use Rattle.rw_parser_items.proofs.Kept.{name_alone}
use Rattle.rw_parser_items.specs.Kept.{constructors_kept, data_of, data_kept, only_constructor, wrapper_kept, newtype_kept, signature_of, signature_kept}

data_is : (span : Span) (name : List ℕ) (params : List (List ℕ)) (made : Option (List Constructor))
    → data_of span name params made ≡ (made >>= λ x. Some (d.Data span (record { name = name; params = params; constructors = x })))
data_is span name params None = refl
data_is span name params (Some made) = refl

signature_is : (span : Span) (names : List (List ℕ)) (type : Option Written) → signature_of span names type ≡ (type >>= λ x. Some (d.Sig span names x))
signature_is span names None = refl
signature_is span names (Some type) = refl

only_is : (span : Span) (name : List ℕ) (params : List (List ℕ)) (made : List ℕ) (field : Option Written)
    → data_of span name params (only_constructor made field) ≡ (field >>= λ y. Some (d.Data span (record { name = name; params = params; constructors = record { name = made; fields = y ∷ [] } ∷ [] })))
only_is span name params made None = refl
only_is span name params made (Some field) = refl

only_frames : (n : ℕ) → max (max n 0) 0 ≡ n
only_frames n = omega arith

module _ (room : ℕ) where
  count_dropped : (r : Read (List Constructor)) → (counted frames_of_constructor room r >>= λ p. Some (p.1.0, p.1.1)) ≡ cut (most frames_of_constructor) room r
  count_dropped None = refl
  count_dropped (Some p) = refl

  constructors_or : (b : Bool) (ts : List Lexeme)
      → cond b (counted frames_of_constructor room (separated_at m.Bar (data_constructor_at any_type_at) (length (drop 1 ts)) (drop 1 ts)) >>= λ p. Some (p.1.0, p.1.1)) (Some (Some [], ts))
      ≡ cut (most frames_of_constructor) room (cond b (separated_at m.Bar (data_constructor_at any_type_at) (length (drop 1 ts)) (drop 1 ts)) (Some ([], ts)))
  constructors_or true ts = count_dropped (separated_at m.Bar (data_constructor_at any_type_at) (length (drop 1 ts)) (drop 1 ts))
  constructors_or false ts = ap (λ z. Some (z, ts)) (sym (kept_empty frames_of_constructor room))

  constructors_cut : (ts : List Lexeme) → constructors_kept room ts ≡ cut (most frames_of_constructor) room (constructors_at any_type_at ts)
  unfolding constructors_kept constructors_at
  constructors_cut ts = constructors_or (sees m.Equal ts) ts

  -- the field of a `newtype`
  abbrev pub field_made : List ℕ → Read Written → Read (Option (List Constructor))
  field_made made r = cut frames_of_type room r >>= λ f. Some (only_constructor made f.0, f.1)

  module _ (ts : List Lexeme) where
    classes_behind : (name : List ℕ) (params : List (List ℕ)) (made : List Constructor) (r : Read (List (List ℕ)))
        → (r >>= λ x. Some (data_of (span_of ts x.1) name params (kept (most frames_of_constructor) room made), x.1))
        ≡ cut frames_of_declaration room (r >>= λ x. Some (d.Data (span_of ts x.1) (record { name = name; params = params; constructors = made }), x.1))
    classes_behind name params made None = refl
    classes_behind name params made (Some x) =
        ap (λ z. Some (z, x.1)) (data_is (span_of ts x.1) name params (kept (most frames_of_constructor) room made)
        ∙ sym (kept_alike (most frames_of_constructor) frames_of_declaration (λ y. d.Data (span_of ts x.1) (record { name = name; params = params; constructors = y })) room made refl))

    made_behind : (name : List ℕ) (params : List (List ℕ)) (r : Read (List Constructor))
        → (cut (most frames_of_constructor) room r >>= λ q. deriving_at q.1 >>= λ x. Some (data_of (span_of ts x.1) name params q.0, x.1))
        ≡ cut frames_of_declaration room (r >>= λ q. deriving_at q.1 >>= λ x. Some (d.Data (span_of ts x.1) (record { name = name; params = params; constructors = q.0 }), x.1))
    made_behind name params None = refl
    made_behind name params (Some q) = classes_behind name params q.0 (deriving_at q.1)

    params_behind : (name : List ℕ) (r : Read (List (List ℕ)))
        → (r >>= λ p. constructors_kept room p.1 >>= λ q. deriving_at q.1 >>= λ x. Some (data_of (span_of ts x.1) name p.0 q.0, x.1))
        ≡ cut frames_of_declaration room (r >>= λ p. constructors_at any_type_at p.1 >>= λ q. deriving_at q.1 >>= λ x. Some (d.Data (span_of ts x.1) (record { name = name; params = p.0; constructors = q.0 }), x.1))
    params_behind name None = refl
    params_behind name (Some p) =
        ap (λ r. r >>= λ q. deriving_at q.1 >>= λ x. Some (data_of (span_of ts x.1) name p.0 q.0, x.1)) (constructors_cut p.1) ∙ made_behind name p.0 (constructors_at any_type_at p.1)

    name_behind : (r : Read (Spot × List ℕ))
        → (name_alone r >>= λ c. parameters_at c.1 >>= λ p. constructors_kept room p.1 >>= λ q. deriving_at q.1 >>= λ x. Some (data_of (span_of ts x.1) c.0 p.0 q.0, x.1))
        ≡ cut frames_of_declaration room (r >>= λ c. parameters_at c.1 >>= λ p. constructors_at any_type_at p.1 >>= λ q. deriving_at q.1 >>= λ x. Some (d.Data (span_of ts x.1) (record { name = c.0.1; params = p.0; constructors = q.0 }), x.1))
    name_behind None = refl
    name_behind (Some c) = params_behind c.0.1 (parameters_at c.1)

    field_classes : (name : List ℕ) (params : List (List ℕ)) (made : List ℕ) (field : Written) (r : Read (List (List ℕ)))
        → (r >>= λ x. Some (data_of (span_of ts x.1) name params (only_constructor made (kept frames_of_type room field)), x.1))
        ≡ cut frames_of_declaration room (r >>= λ x. Some (d.Data (span_of ts x.1) (record { name = name; params = params; constructors = record { name = made; fields = field ∷ [] } ∷ [] }), x.1))
    field_classes name params made field None = refl
    field_classes name params made field (Some x) =
        ap (λ z. Some (z, x.1)) (only_is (span_of ts x.1) name params made (kept frames_of_type room field)
        ∙ sym (kept_alike frames_of_type frames_of_declaration (λ y. d.Data (span_of ts x.1) (record { name = name; params = params; constructors = record { name = made; fields = y ∷ [] } ∷ [] })) room field (only_frames (frames_of_type field))))

    field_behind : (name : List ℕ) (params : List (List ℕ)) (made : List ℕ) (r : Read Written)
        → (field_made made r >>= λ q. deriving_at q.1 >>= λ x. Some (data_of (span_of ts x.1) name params q.0, x.1))
        ≡ cut frames_of_declaration room (r >>= λ f. deriving_at f.1 >>= λ x. Some (d.Data (span_of ts x.1) (record { name = name; params = params; constructors = record { name = made; fields = f.0 ∷ [] } ∷ [] }), x.1))
    field_behind name params made None = refl
    field_behind name params made (Some f) = field_classes name params made f.0 (deriving_at f.1)

    wrapper_behind : (name : List ℕ) (params : List (List ℕ)) (r : Read (Spot × List ℕ))
        → ((name_alone r >>= λ k. field_made k.0 (atype_at any_type_at k.1)) >>= λ q. deriving_at q.1 >>= λ x. Some (data_of (span_of ts x.1) name params q.0, x.1))
        ≡ cut frames_of_declaration room (r >>= λ k. atype_at any_type_at k.1 >>= λ f. deriving_at f.1 >>= λ x. Some (d.Data (span_of ts x.1) (record { name = name; params = params; constructors = record { name = k.0.1; fields = f.0 ∷ [] } ∷ [] }), x.1))
    wrapper_behind name params None = refl
    wrapper_behind name params (Some k) = field_behind name params k.0.1 (atype_at any_type_at k.1)

    equal_behind : (name : List ℕ) (params : List (List ℕ)) (r : Option (List Lexeme))
        → ((r >>= λ y. class_name_at y >>= λ k. field_made k.0 (atype_at any_type_at k.1)) >>= λ q. deriving_at q.1 >>= λ x. Some (data_of (span_of ts x.1) name params q.0, x.1))
        ≡ cut frames_of_declaration room (r >>= λ y. constructor_at y >>= λ k. atype_at any_type_at k.1 >>= λ f. deriving_at f.1 >>= λ x. Some (d.Data (span_of ts x.1) (record { name = name; params = params; constructors = record { name = k.0.1; fields = f.0 ∷ [] } ∷ [] }), x.1))
    unfolding class_name_at
    equal_behind name params None = refl
    equal_behind name params (Some y) = wrapper_behind name params (constructor_at y)

    wrapped_behind : (name : List ℕ) (r : Read (List (List ℕ)))
        → (r >>= λ p. wrapper_kept room p.1 >>= λ q. deriving_at q.1 >>= λ x. Some (data_of (span_of ts x.1) name p.0 q.0, x.1))
        ≡ cut frames_of_declaration room (r >>= λ p. after m.Equal p.1 >>= λ y. constructor_at y >>= λ k. atype_at any_type_at k.1 >>= λ f. deriving_at f.1
        >>= λ x. Some (d.Data (span_of ts x.1) (record { name = name; params = p.0; constructors = record { name = k.0.1; fields = f.0 ∷ [] } ∷ [] }), x.1))
    unfolding wrapper_kept
    wrapped_behind name None = refl
    wrapped_behind name (Some p) = equal_behind name p.0 (after m.Equal p.1)

    newtype_name_behind : (r : Read (Spot × List ℕ))
        → (name_alone r >>= λ c. parameters_at c.1 >>= λ p. wrapper_kept room p.1 >>= λ q. deriving_at q.1 >>= λ x. Some (data_of (span_of ts x.1) c.0 p.0 q.0, x.1))
        ≡ cut frames_of_declaration room (r >>= λ c. parameters_at c.1 >>= λ p. after m.Equal p.1 >>= λ y. constructor_at y >>= λ k. atype_at any_type_at k.1 >>= λ f. deriving_at f.1
        >>= λ x. Some (d.Data (span_of ts x.1) (record { name = c.0.1; params = p.0; constructors = record { name = k.0.1; fields = f.0 ∷ [] } ∷ [] }), x.1))
    newtype_name_behind None = refl
    newtype_name_behind (Some c) = wrapped_behind c.0.1 (parameters_at c.1)

    type_behind : (names : List (List ℕ)) (r : Read Written)
        → (cut frames_of_type room r >>= λ a. Some (signature_of (span_of ts a.1) names a.0, a.1)) ≡ cut frames_of_declaration room (r >>= λ a. Some (d.Sig (span_of ts a.1) names a.0, a.1))
    type_behind names None = refl
    type_behind names (Some a) =
        ap (λ z. Some (z, a.1)) (signature_is (span_of ts a.1) names (kept frames_of_type room a.0) ∙ sym (kept_alike frames_of_type frames_of_declaration (d.Sig (span_of ts a.1) names) room a.0 refl))

    context_behind : (names : List (List ℕ)) (r : Read (List (List ℕ)))
        → (r >>= λ c. cut frames_of_type room (any_type_at c.1) >>= λ a. Some (signature_of (span_of ts a.1) names a.0, a.1))
        ≡ cut frames_of_declaration room (r >>= λ c. any_type_at c.1 >>= λ a. Some (d.Sig (span_of ts a.1) names a.0, a.1))
    context_behind names None = refl
    context_behind names (Some c) = type_behind names (any_type_at c.1)

    colons_behind : (names : List (List ℕ)) (r : Option (List Lexeme))
        → (r >>= λ x. context_at x >>= λ c. cut frames_of_type room (any_type_at c.1) >>= λ a. Some (signature_of (span_of ts a.1) names a.0, a.1))
        ≡ cut frames_of_declaration room (r >>= λ x. context_at x >>= λ c. any_type_at c.1 >>= λ a. Some (d.Sig (span_of ts a.1) names a.0, a.1))
    colons_behind names None = refl
    colons_behind names (Some x) = context_behind names (context_at x)

    names_behind : (r : Read (List (List ℕ)))
        → (r >>= λ p. after m.Colons p.1 >>= λ x. context_at x >>= λ c. cut frames_of_type room (any_type_at c.1) >>= λ a. Some (signature_of (span_of ts a.1) p.0 a.0, a.1))
        ≡ cut frames_of_declaration room (r >>= λ p. after m.Colons p.1 >>= λ x. context_at x >>= λ c. any_type_at c.1 >>= λ a. Some (d.Sig (span_of ts a.1) p.0 a.0, a.1))
    names_behind None = refl
    names_behind (Some p) = colons_behind p.0 (after m.Colons p.1)

  pub data_cut : (ts : List Lexeme) → data_kept room ts ≡ cut frames_of_declaration room (data_at any_type_at ts)
  unfolding data_kept data_at class_name_at
  data_cut ts = name_behind ts (constructor_at (drop 1 ts))

  pub newtype_cut : (ts : List Lexeme) → newtype_kept room ts ≡ cut frames_of_declaration room (newtype_at any_type_at ts)
  unfolding newtype_kept newtype_at class_name_at
  newtype_cut ts = newtype_name_behind ts (constructor_at (drop 1 ts))

  pub signature_cut : (ts : List Lexeme) → signature_kept room ts ≡ cut frames_of_declaration room (signature_at any_type_at ts)
  unfolding signature_kept signature_at
  signature_cut ts = names_behind ts (separated_at m.Comma signed_name_at (length ts) ts)

-- Declarations that hold types, cut where there is no room for their arrows.
use Rattle.std.proofs.Common.{◌≡◌, ℕ, List, Option, Some, None, refl, sym, ◌∙◌, ap}
use Rattle.rw_tree.specs.declared.types.Written.{Written}
use Rattle.rw_parser_grammar.specs.declared.lexeme.Spot.{Spot}
use Rattle.rw_parser_grammar.specs.declared.lexeme.Lexeme.{Lexeme}
use Rattle.rw_parser_reading.specs.Frames.{frames_of_type, frames_of_constructor, most, kept, cut}
use Rattle.rw_parser_reading.specs.Read.{◌>>=◌, Read, constructor_at}
use Rattle.rw_parser_reading.specs.ReadTypes.{atypes_at}
use Rattle.rw_parser_reading.specs.ReadDeclarations.{class_name_at, data_constructor_at}
use Rattle.rw_parser_patterns.specs.Depth.{any_type_at}
use Rattle.rw_parser_patterns.proofs.Kept.{kept_alike}
use Rattle.rw_parser_items.specs.Kept.{constructor_of, data_constructor_kept}

-- a name without its spot
abbrev pub name_alone : Read (Spot × List ℕ) → Read (List ℕ)
name_alone r = r >>= λ c. Some (c.0.1, c.1)

constructor_is : (name : List ℕ) (fields : Option (List Written)) → constructor_of name fields ≡ (fields >>= λ x. Some (record { name = name; fields = x }))
constructor_is name None = refl
constructor_is name (Some fields) = refl

module _ (room : ℕ) where
  fields_kept : (name : List ℕ) (fields : List Written) → constructor_of name (kept (most frames_of_type) room fields) ≡ kept frames_of_constructor room (record { name = name; fields = fields })
  fields_kept name fields =
      constructor_is name (kept (most frames_of_type) room fields)
      ∙ sym (kept_alike (most frames_of_type) frames_of_constructor (λ x. record { name = name; fields = x }) room fields refl)

  fields_behind : (name : List ℕ) (r : Read (List Written))
      → (cut (most frames_of_type) room r >>= λ f. Some (constructor_of name f.0, f.1)) ≡ cut frames_of_constructor room (r >>= λ f. Some (record { name = name; fields = f.0 }, f.1))
  fields_behind name None = refl
  fields_behind name (Some f) = ap (λ z. Some (z, f.1)) (fields_kept name f.0)

  constructor_from : (r : Read (Spot × List ℕ))
      → (name_alone r >>= λ c. cut (most frames_of_type) room (atypes_at any_type_at c.1) >>= λ f. Some (constructor_of c.0 f.0, f.1))
      ≡ cut frames_of_constructor room (r >>= λ c. atypes_at any_type_at c.1 >>= λ f. Some (record { name = c.0.1; fields = f.0 }, f.1))
  constructor_from None = refl
  constructor_from (Some c) = fields_behind c.0.1 (atypes_at any_type_at c.1)

  pub data_constructor_cut : (ts : List Lexeme) → data_constructor_kept room ts ≡ cut frames_of_constructor room (data_constructor_at any_type_at ts)
  unfolding data_constructor_kept data_constructor_at class_name_at
  data_constructor_cut ts = constructor_from (constructor_at ts)

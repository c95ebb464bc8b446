-- Types without variables stay as they are.
use Rattle.std.proofs.Common.{◌≡◌, ℕ, Bool, true, false, List, [], ◌∷◌, ◌++◌, map, codes, Option, Some, None, refl, sym, ◌∙◌, ap}
use Rattle.std.specs.Bool.{if◌then◌else◌}
use Rattle.std.proofs.lemmas.List.{map-append}
use Rattle.rw_tree.specs.Types.{WrittenType, variable_type, constructor_type, applied_type, function_type, tuple_type as written_tuple, WrittenTypes, no_types, more_types}
use Rattle.rw_scope_rules.specs.Names.{Bytes, first_named}
use Rattle.rw_types_solving.specs.declared.term.Head.{Head}
use Rattle.rw_types_solving.specs.declared.term.Head.TheVariants as h
use Rattle.rw_types_solving.specs.Types.{Ty, app, apply, tys}
use Rattle.rw_types_solving.proofs.Plains.{tys_map}
use Rattle.rw_types_rules.specs.Words.{function, unit_type}
use Rattle.rw_types_rules.specs.Written.{variable_applied, identity_applied, state_applied, device_applied, data_applied, constructor_applied, type_applied, types_of, type_of}
use Rattle.rw_types_rules.specs.Schemes.{World, bool_type}

module _ (t : ℕ → Ty) where
  if_fixed : (b : Bool) (x y : Ty) → apply t x ≡ x → apply t y ≡ y → apply t (if b then x else y) ≡ (if b then x else y)
  if_fixed true x y e f = e
  if_fixed false x y e f = f

  variable_fixed : (us : List Ty) → map (apply t) us ≡ us → apply t (variable_applied unit_type us) ≡ variable_applied unit_type us
  variable_fixed [] e = refl
  variable_fixed (a ∷ []) e = let p : apply t a ≡ a = cc in cc
  variable_fixed (a ∷ b ∷ us) e = refl

  identity_fixed : (us : List Ty) → map (apply t) us ≡ us → apply t (identity_applied us) ≡ identity_applied us
  identity_fixed [] e = refl
  identity_fixed (a ∷ []) e = let p : apply t a ≡ a = cc in cc
  identity_fixed (a ∷ b ∷ us) e = refl

  state_fixed : (us : List Ty) → map (apply t) us ≡ us → apply t (state_applied us) ≡ state_applied us
  state_fixed [] e = refl
  state_fixed (a ∷ []) e = refl
  state_fixed (a ∷ b ∷ []) e = let p : apply t a ≡ a = cc in let q : apply t b ≡ b = cc in cc
  state_fixed (a ∷ b ∷ c ∷ []) e = let p : apply t a ≡ a = cc in let q : apply t b ≡ b = cc in let r : apply t c ≡ c = cc in cc
  state_fixed (a ∷ b ∷ c ∷ d ∷ us) e = refl

  device_fixed : (us : List Ty) → map (apply t) us ≡ us → apply t (device_applied us) ≡ device_applied us
  device_fixed [] e = refl
  device_fixed (a ∷ []) e = refl
  device_fixed (a ∷ b ∷ []) e = refl
  device_fixed (a ∷ b ∷ c ∷ []) e = let p : apply t a ≡ a = cc in let q : apply t b ≡ b = cc in let r : apply t c ≡ c = cc in cc
  device_fixed (a ∷ b ∷ c ∷ d ∷ []) e = let p : apply t a ≡ a = cc in let q : apply t b ≡ b = cc in let r : apply t c ≡ c = cc in let s : apply t d ≡ d = cc in cc
  device_fixed (a ∷ b ∷ c ∷ d ∷ x ∷ us) e = refl

  parts_fixed : (k : Head) (us : List Ty) → map (apply t) us ≡ us → apply t (app k (tys us)) ≡ app k (tys us)
  parts_fixed k us e = ap (app k) (sym (tys_map t us) ∙ ap tys e)

  data_fixed : (o : Option ℕ) (us : List Ty) → map (apply t) us ≡ us → apply t (data_applied o us) ≡ data_applied o us
  data_fixed None us e = refl
  data_fixed (Some n) us e = parts_fixed (h.Data n) us e

  constructor_fixed : (types : List (Bytes × ℕ)) (c : Bytes) (us : List Ty) → map (apply t) us ≡ us → apply t (constructor_applied types c us) ≡ constructor_applied types c us
  constructor_fixed types c us e =
      if_fixed _ _ _ (identity_fixed us e) (if_fixed _ _ _ (state_fixed us e) (if_fixed _ _ _ (device_fixed us e) (data_fixed (first_named c types) us e)))

  joined_fixed : (us bs : List Ty) → map (apply t) us ≡ us → map (apply t) bs ≡ bs → map (apply t) (us ++ bs) ≡ us ++ bs
  joined_fixed us bs e f = map-append (apply t) us bs ∙ ap (λ z. z ++ map (apply t) bs) e ∙ ap (λ z. us ++ z) f

  both_fixed : (a b : Ty) → apply t a ≡ a → apply t b ≡ b → apply t (function a b) ≡ function a b
  both_fixed a b e f = ap (λ z. function z (apply t b)) e ∙ ap (function a) f

  one_more_fixed : (a : Ty) (us : List Ty) → apply t a ≡ a → map (apply t) us ≡ us → map (apply t) (a ∷ us) ≡ a ∷ us
  one_more_fixed a us e f = ap (λ z. z ∷ map (apply t) us) e ∙ ap (λ z. a ∷ z) f

  mutual
    pub applied_fixed : (types : List (Bytes × ℕ)) (tree : WrittenType) (us : List Ty) → map (apply t) us ≡ us → apply t (type_applied types [] tree us) ≡ type_applied types [] tree us
    applied_fixed types (variable_type x) us e = variable_fixed us e
    applied_fixed types (constructor_type c) us e = constructor_fixed types c us e
    applied_fixed types (applied_type head parts) us e = applied_fixed types head (types_of types [] parts ++ us) (joined_fixed (types_of types [] parts) us (all_fixed types parts) e)
    applied_fixed types (function_type from to) us e = both_fixed (type_applied types [] from []) (type_applied types [] to []) (applied_fixed types from [] refl) (applied_fixed types to [] refl)
    applied_fixed types (written_tuple parts) us e = parts_fixed h.Tuple (types_of types [] parts) (all_fixed types parts)

    pub all_fixed : (types : List (Bytes × ℕ)) (trees : WrittenTypes) → map (apply t) (types_of types [] trees) ≡ types_of types [] trees
    all_fixed types no_types = refl
    all_fixed types (more_types tree trees) = one_more_fixed (type_applied types [] tree []) (types_of types [] trees) (applied_fixed types tree [] refl) (all_fixed types trees)

-- a type us written without variables, and `Bool`
pub written_stays : (types : List (Bytes × ℕ)) (tree : WrittenType) (t : ℕ → Ty) → apply t (type_of types [] tree) ≡ type_of types [] tree
written_stays types tree t = applied_fixed t types tree [] refl

pub bool_stays : (w : World) (t : ℕ → Ty) → apply t (bool_type w) ≡ bool_type w
bool_stays w t = constructor_fixed t w.types (codes "Bool") [] refl

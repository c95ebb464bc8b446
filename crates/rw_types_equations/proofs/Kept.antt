-- Schemes that are looked up.
use Rattle.std.proofs.Common.{◌≡◌, ℕ, zero, suc, List, [], ◌∷◌, map, get_or, slice_get, Option, Some, None, refl, sym, ◌∙◌, ap}
use Rattle.rw_scope_rules.specs.declared.binding.Binding.{Binding}
use Rattle.rw_types_rules.specs.Schemes.{Scheme, World, scheme_at}
use Rattle.rw_types_equations.specs.declared.scheme.Scheme.{Scheme as Kept}
use Rattle.rw_types_equations.specs.Seen.{seen_scheme, seen_option}

pub declared_there : (xs : List (Option Kept)) (n : ℕ) (o : Option Kept) → slice_get xs n ≡ Some o → get_or (map seen_option xs) n None ≡ seen_option o
declared_there [] n o e = absurd (cc)
declared_there (x ∷ xs) zero o e = let p : x ≡ o = cc in ap seen_option p
declared_there (x ∷ xs) (suc n) o e = declared_there xs n o e

pub declared_nowhere : (xs : List (Option Kept)) (n : ℕ) → slice_get xs n ≡ None → get_or (map seen_option xs) n None ≡ None
declared_nowhere [] n e = refl
declared_nowhere (x ∷ xs) zero e = absurd (cc)
declared_nowhere (x ∷ xs) (suc n) e = declared_nowhere xs n e

pub constructed_nowhere : (xs : List (List Kept)) (n place : ℕ) → slice_get xs n ≡ None → slice_get (get_or (map (map seen_scheme) xs) n []) place ≡ None
constructed_nowhere [] n place e = refl
constructed_nowhere (x ∷ xs) zero place e = absurd (cc)
constructed_nowhere (x ∷ xs) (suc n) place e = constructed_nowhere xs n place e

pub ruleset looked_up = (declared_there, declared_nowhere, constructed_nowhere)

-- what a binding was found to be
pub scheme_of : (w : World) (a b : Binding) (x : Option Scheme) → a ≡ b → x ≡ scheme_at w (Some b) → x ≡ scheme_at w (Some a)
scheme_of w a b x e p = p ∙ ap (λ z. scheme_at w (Some z)) (sym e)

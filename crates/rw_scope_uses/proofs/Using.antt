-- Uses that are noted one after the other.
use Rattle.std.proofs.Common.{◌≡◌, List, [], ◌∷◌, ◌++◌, refl, ap, ◌∙◌}
use Rattle.rw_scope_uses.specs.declared.uses.Use.{Use}
use Rattle.rw_scope_uses.specs.Spine.{plain_use, plain_uses}

map_more : (us : List Use) (u : Use) → plain_uses (us ++ u ∷ []) ≡ plain_uses us ++ plain_use u ∷ []
map_more [] u = refl
map_more (v ∷ vs) u = ap (λ ws. plain_use v ∷ ws) (map_more vs u)

pub uses_more : (new old : List Use) (u : Use) → new ≡ old ++ u ∷ [] → plain_uses new ≡ plain_uses old ++ plain_use u ∷ []
uses_more new old u e = ap plain_uses e ∙ map_more old u

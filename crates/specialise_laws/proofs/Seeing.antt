-- Tables of closed data types: one at most, and they grow.
use Rattle.std.proofs.Common.{◌≡◌, ◌≤◌, Bool, true, false, List, [], ◌∷◌, ◌++◌, length, append_assoc, append-nil, refl, sym, ◌∙◌, ap, subst, arith}
use Rattle.std.specs.List.{list_any}
use Rattle.std.proofs.lemmas.List.{length-append}
use Rattle.rw_types_solving.specs.Types.{Ty}
use Rattle.rw_types_rules.specs.Schemes.{World}
use Rattle.specialise_rules.specs.Instances.{same_type}
use Rattle.specialise_rules.specs.Tables.{Sees, sees_nothing, sees_known, sees_new}

clash : (b : Bool) → b ≡ true → b ≡ false → ⊥
clash b d e = absurd (cc)

pub sees_once : {world : World} {table types first second : List Ty} → Sees world table types first → Sees world table types second → first ≡ second
sees_once sees_nothing sees_nothing = refl
sees_once (sees_known e f) (sees_known e' g) = sees_once f g
sees_once (sees_known {table = table} {t = t} e f) (sees_new e' h g) = absurd (clash (list_any (same_type t) table) e e')
sees_once (sees_new e h f) (sees_known {table = table} {t = t} e' g) = absurd (clash (list_any (same_type t) table) e' e)
sees_once {world = world} (sees_new {types = types} {t = t} e h f) (sees_new {after = after} e' k g) =
    let s = sees_once h k in sees_once f (subst (λ z. Sees world (z ++ t ∷ []) types after) (sym s) g)

pub sees_more : {world : World} {table types after : List Ty} → Sees world table types after → (more : List Ty) × (after ≡ table ++ more)
sees_more {table = table} sees_nothing = ([], sym (append-nil table))
sees_more (sees_known e f) = sees_more f
sees_more (sees_new {table = table} {t = t} e h f) =
    let one = sees_more h in let other = sees_more f in (
      (one.0 ++ t ∷ []) ++ other.0,
      other.1 ∙ ap (λ (z : List Ty). (z ++ t ∷ []) ++ other.0) one.1 ∙ ap (λ (z : List Ty). z ++ other.0) (append_assoc table one.0 (t ∷ []))
          ∙ append_assoc table (one.0 ++ t ∷ []) other.0,
    )

pub sees_longer : {world : World} {table types after : List Ty} → Sees world table types after → length table ≤ length after
sees_longer {table = table} s = let m = sees_more s in let e = ap length m.1 ∙ length-append table m.0 in omega arith

pub sees_both : {world : World} {table between after types others : List Ty} → Sees world table types between → Sees world between others after → Sees world table (types ++ others) after
sees_both sees_nothing s = s
sees_both (sees_known e f) s = sees_known e (sees_both f s)
sees_both (sees_new e h f) s = sees_new e h (sees_both f s)

pub sees_split : {world : World} (types others : List Ty) {table after : List Ty} → Sees world table (types ++ others) after → (between : List Ty) × Sees world table types between × Sees world between others after
sees_split [] others {table} s = (table, sees_nothing, s)
sees_split (t ∷ types) others (sees_known e f) = let two = sees_split types others f in (two.0, sees_known e two.1, two.2)
sees_split (t ∷ types) others (sees_new e h f) = let two = sees_split types others f in (two.0, sees_new e h two.1, two.2)

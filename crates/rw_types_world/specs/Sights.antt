-- Names in order of first sight, behind those that were seen before.
use Rattle.std.specs.Prelude.{List, [], ◌∷◌, ◌++◌, if◌then◌else◌}
use Rattle.rw_scope_rules.specs.Names.{Bytes, is_among}

abbrev pub with_name : List Bytes → Bytes → List Bytes
with_name names x = if is_among x names then names else names ++ x ∷ []

abbrev pub seen_after : List Bytes → List Bytes → List Bytes
seen_after names [] = names
seen_after names (x ∷ xs) = seen_after (with_name names x) xs

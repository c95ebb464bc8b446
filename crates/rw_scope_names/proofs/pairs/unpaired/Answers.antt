-- The parts of the rule together.
use Rattle.std.proofs.Common.{◌≡◌, map, flat_map, refl, ap}
use Rattle.rw_tree.specs.Views.{itself}
use Rattle.rw_tree.specs.Declarations.{declaration, plain_program}
use Rattle.rw_scope_rules.specs.Names.{Bytes, is_among}
use Rattle.rw_scope_rules.specs.Bindings.{names_of}
use Rattle.rw_scope_rules.specs.Scope.{functions_at, signatures_at}
use Rattle.rw_scope_names.proofs.Rules.{unpaired_is}
use Rattle.rw_scope_names.proofs.Sets.{put_in_none}
use Rattle.rw_scope_names.proofs.pairs.unpaired.Goals as goal

pub returns : goal.returns
returns c =
    let decls = map (declaration itself) c.as_slice-decls.result.now in
    let functions : (x : Bytes) → is_among x c.put_functions.new.set ≡ is_among x (names_of (flat_map functions_at decls))
    = λ x. put_in_none x c.put_functions.new.set c.new-functions.result (names_of (flat_map functions_at decls)) (names_of (flat_map functions_at decls)) c.new-functions.ensures refl (c.in_ok-put_functions.ensures x) in
    let signatures : (x : Bytes) → is_among x c.put_signatures.new.set ≡ is_among x (names_of (flat_map signatures_at decls))
    = λ x. put_in_none x c.put_signatures.new.set c.new-signatures.result (names_of (flat_map signatures_at decls)) (names_of (flat_map signatures_at decls)) c.new-signatures.ensures refl (c.in_ok-put_signatures.ensures x) in
    unpaired_is (plain_program itself c.args.program.now) decls c.put_functions.new.set c.put_signatures.new.set c.new-places.result.items c.see_all_alone.new.places.items c.see_at_top.new.places.items
    c.see_inside.new.places.items (ap (map (declaration itself)) c.as_slice-decls.ensures) c.new-places.ensures.items functions signatures
    c.in_ok-see_all_alone.ensures c.in_ok-see_at_top.ensures c.in_ok-see_inside.ensures

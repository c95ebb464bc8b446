-- All was found.
use Rattle.std.proofs.Common.{◌++◌, ◌∙◌, ap, subst, map, flat_map, arith}
use Rattle.rw_tree.specs.Views.{itself}
use Rattle.rw_tree.specs.Declarations.{declaration}
use Rattle.rw_scope_uses.specs.Contexts.{IsOfFields, IsOfSignatures}
use Rattle.rw_scope_kinds.specs.Contexts.{fits_field, fits_signature, wrong_in_declaration}
use Rattle.rw_scope_kinds.proofs.Whole.{all_found}
use Rattle.rw_scope_kinds.proofs.wrong.misused.Goals as goal

pub returns : goal.returns
returns c =
    let same = c.as_slice-decls.ensures in
    let decls = map (declaration itself) c.args.program.now.decls in
    let wrong = wrong_in_declaration (fits_field c.in_ok-fields.fields) (fits_signature c.in_ok-signatures.signatures) in
    all_found decls c.in_ok-fields.fields c.in_ok-signatures.signatures
    (subst (λ ds. IsOfFields (map (declaration itself) ds) c.in_ok-fields.fields) same (c.in_ok-fields.ensures itself))
    (subst (λ ds. IsOfSignatures (map (declaration itself) ds) c.in_ok-signatures.signatures) same (c.in_ok-signatures.ensures itself))
    c.in_ok-found.found.items c.as_slice-node-items.result.now _ c.loop-node.node-index c.loop-node.places.items c.in_declarations.new.places.items
    (c.in_ok-in_declarations.ensures ∙ ap (λ ps. ps ++ flat_map wrong (map (declaration itself) c.as_slice-decls.result.now)) c.new-places.ensures.items
    ∙ ap (λ ds. flat_map wrong (map (declaration itself) ds)) same)
    c.as_slice-node-items.ensures.value c.in_ok-found.ensures (omega arith) c.loop-node.invariant

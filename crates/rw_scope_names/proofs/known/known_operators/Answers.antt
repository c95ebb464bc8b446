-- The operations, then the functions, then the constructors.
use Rattle.std.proofs.Common.{◌∙◌, ◌||◌, ap, map, flat_map}
use Rattle.rw_tree.specs.Views.{itself}
use Rattle.rw_tree.specs.Declarations.{declaration}
use Rattle.rw_scope_rules.specs.Names.{is_among}
use Rattle.rw_scope_rules.specs.Bindings.{names_of}
use Rattle.rw_scope_rules.specs.Scope.{constructors_at, functions_at, operation_names}
use Rattle.rw_scope_names.proofs.Sets.{three_put}
use Rattle.rw_scope_names.proofs.known.known_operators.Goals as goal

pub returns : goal.returns
returns c = λ x.
    three_put x c.put_constructors.new.set c.put_functions.new.set operation_names (names_of (flat_map functions_at (map (declaration itself) c.args.decls.now)))
    (names_of (flat_map constructors_at (map (declaration itself) c.args.decls.now))) (c.in_ok-put_constructors.ensures x)
    (c.in_ok-put_functions.ensures x ∙ ap (λ ns. is_among x (names_of (flat_map functions_at (map (declaration itself) c.args.decls.now))) || is_among x ns) c.in_ok-names.ensures)

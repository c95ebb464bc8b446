-- What the constructors of types take where a type stands, in a signature or in a field.
use Rattle.std.specs.Prelude.{◌≡◌, List, true, false, Option, None}
use Rattle.rw_base.specs.declared.place.Span.{Span}
use Rattle.rw_tree.specs.declared.types.Kind.{Kind}
use Rattle.rw_tree.specs.declared.types.Kind.TheVariants.{Plain, StateMonad, Monad}
use Rattle.rw_tree.specs.Declarations.{Declaration}
use Rattle.rw_scope_rules.specs.Names.{Bytes, first_named}
use Rattle.rw_scope_rules.specs.Kinds.{takes_in_signature, takes_in_field}
use Rattle.rw_scope_uses.specs.declared.context.Context.{Context}

-- what a constructor of types takes to be of a kind
abbrev pub takes_in : Context → Bytes → Kind → Option (List Kind)
takes_in context c Plain = first_named c context.types
takes_in context c StateMonad = first_named c context.monads
takes_in context c Monad = None

-- a context is that of signatures, or that of fields
pub record IsOfSignatures (decls : List (Declaration Span)) (context : Context) : Type 0 where
  pub takes : takes_in context ≡ takes_in_signature decls
  pub arrows : context.arrows ≡ true

pub record IsOfFields (decls : List (Declaration Span)) (context : Context) : Type 0 where
  pub takes : takes_in context ≡ takes_in_field decls
  pub arrows : context.arrows ≡ false

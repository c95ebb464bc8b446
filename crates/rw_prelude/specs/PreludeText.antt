-- The declarations of the prelude, in the words of its text (Haskell 2010 Report, chapter 9, in this project's profile).
use Rattle.std.specs.Prelude.{ℕ, List, [], ◌∷◌, ◌++◌, codes}
use Prim.Native.String.{String}
use Rattle.rw_base.specs.declared.place.Span.{Span}
use Rattle.rw_tree.specs.declared.types.Written.{Written}
use Rattle.rw_tree.specs.declared.types.Written.TheVariants as type
use Rattle.rw_tree.specs.declared.pattern.Pat.{Pat}
use Rattle.rw_tree.specs.declared.pattern.Pat.TheVariants as pat
use Rattle.rw_tree.specs.declared.expr.Expr.{Expr}
use Rattle.rw_tree.specs.declared.expr.Expr.TheVariants as expr
use Rattle.rw_tree.specs.declared.clause.Alt.{Alt}
use Rattle.rw_tree.specs.declared.decl.Constructor.{Constructor}
use Rattle.rw_tree.specs.declared.decl.Side.TheVariants.{Left, Right}
use Rattle.rw_tree.specs.declared.decl.Decl.{Decl}
use Rattle.rw_prelude.specs.PreludeTrees.{nowhere, plain_clause, constructor_named, data_named, strength_of, function_named}

abbrev pub type_variable : String → Written
type_variable name = type.Var (codes name)

abbrev pub type_constructor : String → Written
type_constructor name = type.Con (codes name)

abbrev pub type_application : Written → List Written → Written
type_application head parts = type.Apply head parts

abbrev pub arrow : Written → Written → Written
arrow from to = type.Fun from to

abbrev pub tuple_type : List Written → Written
tuple_type parts = type.Tuple parts

abbrev pub pattern_variable : String → Pat Span
pattern_variable name = pat.Var nowhere (codes name)

abbrev pub pattern_constructor : String → List (Pat Span) → Pat Span
pattern_constructor name parts = pat.Con nowhere (codes name) parts

abbrev pub tuple_pattern : List (Pat Span) → Pat Span
tuple_pattern parts = pat.Tuple nowhere parts

abbrev pub variable : String → Expr Span
variable name = expr.Var nowhere (codes name)

abbrev pub constructor : String → Expr Span
constructor name = expr.Con nowhere (codes name)

abbrev pub application : Expr Span → List (Expr Span) → Expr Span
application head parts = expr.Apply nowhere head parts

abbrev pub tuple : List (Expr Span) → Expr Span
tuple parts = expr.Tuple nowhere parts

abbrev pub lambda : List (Pat Span) → Expr Span → Expr Span
lambda pats body = expr.Lambda nowhere pats body

abbrev pub clause : List (Pat Span) → Expr Span → Alt Span
clause pats body = plain_clause pats body

abbrev pub constructs : String → List Written → Constructor
constructs name fields = constructor_named (codes name) fields

abbrev pub data_type : String → List (List ℕ) → List Constructor → List (Decl Span)
data_type name params constructors = data_named (codes name) params constructors

abbrev pub function : String → Written → List (Alt Span) → List (Decl Span)
function name written clauses = function_named (codes name) written clauses

-- infixr 9 .
-- infixr 3 &&
-- infixr 2 ||
unfoldable pub high_strengths : List (Decl Span)
high_strengths = strength_of Right 9 (codes "." ∷ []) ∷ strength_of Right 3 (codes "&&" ∷ []) ∷ strength_of Right 2 (codes "||" ∷ []) ∷ []

-- infixl 1 >>=, >>
-- infixr 0 $
unfoldable pub low_strengths : List (Decl Span)
low_strengths = strength_of Left 1 (codes ">>=" ∷ codes ">>" ∷ []) ∷ strength_of Right 0 (codes "$" ∷ []) ∷ []

-- data Bool = False | True
unfoldable pub bool_type : List (Decl Span)
bool_type = data_type "Bool" [] (constructs "False" [] ∷ constructs "True" [] ∷ [])

-- data Maybe a = Nothing | Just a
unfoldable pub maybe_type : List (Decl Span)
maybe_type = data_type "Maybe" (codes "a" ∷ []) (constructs "Nothing" [] ∷ constructs "Just" (type_variable "a" ∷ []) ∷ [])

-- data Either a b = Left a | Right b
unfoldable pub either_type : List (Decl Span)
either_type = data_type "Either" (codes "a" ∷ codes "b" ∷ []) (constructs "Left" (type_variable "a" ∷ []) ∷ constructs "Right" (type_variable "b" ∷ []) ∷ [])

-- id :: a -> a
-- id x = x
unfoldable pub identity_function : List (Decl Span)
identity_function =
    function "id"
    (arrow (type_variable "a") (type_variable "a"))
    (clause (pattern_variable "x" ∷ []) (variable "x")
    ∷ [])

-- const :: a -> b -> a
-- const x y = x
unfoldable pub constant_function : List (Decl Span)
constant_function =
    function "const"
    (arrow (type_variable "a") (arrow (type_variable "b") (type_variable "a")))
    (clause (pattern_variable "x" ∷ pattern_variable "y" ∷ []) (variable "x")
    ∷ [])

-- flip :: (a -> b -> c) -> b -> a -> c
-- flip f x y = f y x
unfoldable pub flip_function : List (Decl Span)
flip_function =
    function "flip"
    (arrow (arrow (type_variable "a") (arrow (type_variable "b") (type_variable "c"))) (arrow (type_variable "b") (arrow (type_variable "a") (type_variable "c"))))
    (clause (pattern_variable "f" ∷ pattern_variable "x" ∷ pattern_variable "y" ∷ []) (application (variable "f") (variable "y" ∷ variable "x" ∷ []))
    ∷ [])

-- (.) :: (b -> c) -> (a -> b) -> a -> c
-- f . g = \x -> f (g x)
unfoldable pub composition : List (Decl Span)
composition =
    function "."
    (arrow (arrow (type_variable "b") (type_variable "c")) (arrow (arrow (type_variable "a") (type_variable "b")) (arrow (type_variable "a") (type_variable "c"))))
    (clause (pattern_variable "f" ∷ pattern_variable "g" ∷ []) (lambda (pattern_variable "x" ∷ []) (application (variable "f") (application (variable "g") (variable "x" ∷ []) ∷ [])))
    ∷ [])

-- ($) :: (a -> b) -> a -> b
-- f $ x = f x
unfoldable pub application_operator : List (Decl Span)
application_operator =
    function "$"
    (arrow (arrow (type_variable "a") (type_variable "b")) (arrow (type_variable "a") (type_variable "b")))
    (clause (pattern_variable "f" ∷ pattern_variable "x" ∷ []) (application (variable "f") (variable "x" ∷ []))
    ∷ [])

-- not :: Bool -> Bool
-- not True = False
-- not False = True
unfoldable pub negation : List (Decl Span)
negation =
    function "not"
    (arrow (type_constructor "Bool") (type_constructor "Bool"))
    (clause (pattern_constructor "True" [] ∷ []) (constructor "False")
    ∷ clause (pattern_constructor "False" [] ∷ []) (constructor "True")
    ∷ [])

-- (&&) :: Bool -> Bool -> Bool
-- True && x = x
-- False && x = False
unfoldable pub conjunction : List (Decl Span)
conjunction =
    function "&&"
    (arrow (type_constructor "Bool") (arrow (type_constructor "Bool") (type_constructor "Bool")))
    (clause (pattern_constructor "True" [] ∷ pattern_variable "x" ∷ []) (variable "x")
    ∷ clause (pattern_constructor "False" [] ∷ pattern_variable "x" ∷ []) (constructor "False")
    ∷ [])

-- (||) :: Bool -> Bool -> Bool
-- True || x = True
-- False || x = x
unfoldable pub disjunction : List (Decl Span)
disjunction =
    function "||"
    (arrow (type_constructor "Bool") (arrow (type_constructor "Bool") (type_constructor "Bool")))
    (clause (pattern_constructor "True" [] ∷ pattern_variable "x" ∷ []) (constructor "True")
    ∷ clause (pattern_constructor "False" [] ∷ pattern_variable "x" ∷ []) (variable "x")
    ∷ [])

-- otherwise :: Bool
-- otherwise = True
unfoldable pub otherwise_value : List (Decl Span)
otherwise_value =
    function "otherwise"
    (type_constructor "Bool")
    (clause [] (constructor "True")
    ∷ [])

-- fst :: (a, b) -> a
-- fst (x, y) = x
unfoldable pub first_part : List (Decl Span)
first_part =
    function "fst"
    (arrow (tuple_type (type_variable "a" ∷ type_variable "b" ∷ [])) (type_variable "a"))
    (clause (tuple_pattern (pattern_variable "x" ∷ pattern_variable "y" ∷ []) ∷ []) (variable "x")
    ∷ [])

-- snd :: (a, b) -> b
-- snd (x, y) = y
unfoldable pub second_part : List (Decl Span)
second_part =
    function "snd"
    (arrow (tuple_type (type_variable "a" ∷ type_variable "b" ∷ [])) (type_variable "b"))
    (clause (tuple_pattern (pattern_variable "x" ∷ pattern_variable "y" ∷ []) ∷ []) (variable "y")
    ∷ [])

-- curry :: ((a, b) -> c) -> a -> b -> c
-- curry f x y = f (x, y)
unfoldable pub curry_function : List (Decl Span)
curry_function =
    function "curry"
    (arrow (arrow (tuple_type (type_variable "a" ∷ type_variable "b" ∷ [])) (type_variable "c")) (arrow (type_variable "a") (arrow (type_variable "b") (type_variable "c"))))
    (clause (pattern_variable "f" ∷ pattern_variable "x" ∷ pattern_variable "y" ∷ []) (application (variable "f") (tuple (variable "x" ∷ variable "y" ∷ []) ∷ []))
    ∷ [])

-- uncurry :: (a -> b -> c) -> (a, b) -> c
-- uncurry f (x, y) = f x y
unfoldable pub uncurry_function : List (Decl Span)
uncurry_function =
    function "uncurry"
    (arrow (arrow (type_variable "a") (arrow (type_variable "b") (type_variable "c"))) (arrow (tuple_type (type_variable "a" ∷ type_variable "b" ∷ [])) (type_variable "c")))
    (clause (pattern_variable "f" ∷ tuple_pattern (pattern_variable "x" ∷ pattern_variable "y" ∷ []) ∷ []) (application (variable "f") (variable "x" ∷ variable "y" ∷ []))
    ∷ [])

-- maybe :: b -> (a -> b) -> Maybe a -> b
-- maybe z f Nothing = z
-- maybe z f (Just x) = f x
unfoldable pub maybe_function : List (Decl Span)
maybe_function =
    function "maybe"
    (arrow (type_variable "b") (arrow (arrow (type_variable "a") (type_variable "b")) (arrow (type_application (type_constructor "Maybe") (type_variable "a" ∷ [])) (type_variable "b"))))
    (clause (pattern_variable "z" ∷ pattern_variable "f" ∷ pattern_constructor "Nothing" [] ∷ []) (variable "z")
    ∷ clause (pattern_variable "z" ∷ pattern_variable "f" ∷ pattern_constructor "Just" (pattern_variable "x" ∷ []) ∷ []) (application (variable "f") (variable "x" ∷ []))
    ∷ [])

-- either :: (a -> c) -> (b -> c) -> Either a b -> c
-- either f g (Left x) = f x
-- either f g (Right y) = g y
unfoldable pub either_function : List (Decl Span)
either_function =
    function "either"
    (arrow (arrow (type_variable "a") (type_variable "c")) (arrow (arrow (type_variable "b") (type_variable "c")) (arrow (type_application (type_constructor "Either") (type_variable "a" ∷ type_variable "b" ∷ [])) (type_variable "c"))))
    (clause (pattern_variable "f" ∷ pattern_variable "g" ∷ pattern_constructor "Left" (pattern_variable "x" ∷ []) ∷ []) (application (variable "f") (variable "x" ∷ []))
    ∷ clause (pattern_variable "f" ∷ pattern_variable "g" ∷ pattern_constructor "Right" (pattern_variable "y" ∷ []) ∷ []) (application (variable "g") (variable "y" ∷ []))
    ∷ [])

-- when :: Monad m => Bool -> m () -> m ()
-- when True k = k
-- when False k = return ()
unfoldable pub when_function : List (Decl Span)
when_function =
    function "when"
    (arrow (type_constructor "Bool") (arrow (type_application (type_variable "m") (tuple_type [] ∷ [])) (type_application (type_variable "m") (tuple_type [] ∷ []))))
    (clause (pattern_constructor "True" [] ∷ pattern_variable "k" ∷ []) (variable "k")
    ∷ clause (pattern_constructor "False" [] ∷ pattern_variable "k" ∷ []) (application (variable "return") (tuple [] ∷ []))
    ∷ [])

-- the strengths of the operators
unfoldable pub strengths : List (Decl Span)
strengths = high_strengths ++ low_strengths

-- the data types
unfoldable pub data_types : List (Decl Span)
data_types = bool_type ++ maybe_type ++ either_type

-- what combines functions
unfoldable pub combinators : List (Decl Span)
combinators = identity_function ++ constant_function ++ flip_function ++ composition ++ application_operator

-- what works on `Bool`
unfoldable pub logic : List (Decl Span)
logic = negation ++ conjunction ++ disjunction ++ otherwise_value

-- what works on pairs
unfoldable pub pairs : List (Decl Span)
pairs = first_part ++ second_part ++ curry_function ++ uncurry_function

-- what tells cases apart
unfoldable pub cases : List (Decl Span)
cases = maybe_function ++ either_function ++ when_function

-- the declarations of the prelude, in order
unfoldable pub prelude : List (Decl Span)
prelude = strengths ++ (data_types ++ (combinators ++ (logic ++ (pairs ++ cases))))

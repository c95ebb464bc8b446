-- Reading from the front of a list of words, as functions on lists.
use Rattle.std.specs.Prelude.{ℕ, zero, suc, List, [], ◌∷◌, length, drop, Option, Some, None, if◌then◌else◌, codes, nat_lt}
use Rattle.rw_lex.specs.declared.token.TokenKind.{TokenKind}
use Rattle.rw_lex.specs.declared.token.TokenKind.TheVariants.{Variable, Constructor}
use Rattle.explicit_form.specs.Words.{Word, same_kind, sees, variable, constructor, keyword, operator, special}
use Rattle.explicit_form.specs.declared.form.Data.{Data}
use Rattle.explicit_form.specs.declared.form.Ports.{Ports}
use Rattle.explicit_form.specs.declared.form.Arm.{Arm}
use Rattle.explicit_form.specs.declared.form.Function.{Function}
use Rattle.explicit_form.specs.declared.form.Form.{Form}
use Rattle.rw_base.specs.declared.fail.Failure.TheVariants as fail

-- a value and the words after it, or nothing
abbrev pub Read : Type 0 → Type 0
Read A = Option (A × List Word)

infixl 10 ◌>>=◌
abbrev pub ◌>>=◌ : {A B : Type 0} → Option A → (A → Option B) → Option B
None >>= f = None
(Some x) >>= f = f x

-- the words after this one
unfoldable pub after : Word → List Word → Option (List Word)
after wanted ws = if sees wanted ws then Some (drop 1 ws) else None

-- a name of this kind
abbrev pub name_at : TokenKind → List Word → Read (List ℕ)
name_at kind [] = None
name_at kind (word ∷ ws) = if same_kind word.kind kind then Some (word.text, ws) else None

-- one or more, with a word between two; the number bounds the turns
unfoldable pub separated_at : {A : Type 0} → Word → (List Word → Read A) → ℕ → List Word → Read (List A)
separated_at between one zero ws = None
separated_at between one (suc n) ws = do
  p ← one ws
  if sees between p.1 then (do q ← separated_at between one n (drop 1 p.1); Some (p.0 ∷ q.0, q.1)) else Some (p.0 ∷ [], p.1)

-- any number, each beginning with this word
unfoldable pub many_at : {A : Type 0} → Word → (List Word → Read A) → ℕ → List Word → Read (List A)
many_at begin one zero ws = Some ([], ws)
many_at begin one (suc n) ws = if sees begin ws then (do p ← one ws; q ← many_at begin one n p.1; Some (p.0 ∷ q.0, q.1)) else Some ([], ws)

unfoldable pub constructors_at : List Word → Read (List (List ℕ))
constructors_at ws = separated_at (operator (codes "|")) (name_at Constructor) (length ws) ws

unfoldable pub data_at : List Word → Read Data
data_at ws = do
  r ← after (keyword (codes "data")) ws
  name ← name_at Constructor r
  r ← after (operator (codes "=")) name.1
  constructors ← constructors_at r
  r ← after (special (codes ";")) constructors.1
  Some (record { name = name.0; constructors = constructors.0 }, r)

unfoldable pub datas_at : List Word → Read (List Data)
datas_at ws = many_at (keyword (codes "data")) data_at (length ws) ws

-- `I ( )`
unfoldable pub unit_at : List Word → Option (List Word)
unit_at ws = do
  r ← after (constructor (codes "I")) ws
  r ← after (special (codes "(")) r
  after (special (codes ")")) r

-- any type of a device
unfoldable pub ports_at : List Word → Read Ports
ports_at ws = do
  r ← after (constructor (codes "ReT")) ws
  input ← name_at Constructor r
  output ← name_at Constructor input.1
  r ← unit_at output.1
  Some (record { input = input.0; output = output.0 }, r)

-- this type of a device
unfoldable pub type_at : Ports → List Word → Option (List Word)
type_at ports ws = do
  r ← after (constructor (codes "ReT")) ws
  r ← after (constructor ports.input) r
  r ← after (constructor ports.output) r
  unit_at r

-- `;` v `=`
unfoldable pub binding_at : List ℕ → List Word → Option (List Word)
binding_at name ws = do
  r ← after (special (codes ";")) ws
  r ← after (variable name) r
  after (operator (codes "=")) r

-- `start ::` ty `; start =` v
unfoldable pub start_at : List Word → Read (Ports × List ℕ)
start_at ws = do
  r ← after (variable (codes "start")) ws
  r ← after (operator (codes "::")) r
  ports ← ports_at r
  r ← binding_at (codes "start") ports.1
  start ← name_at Variable r
  Some ((ports.0, start.0), start.1)

unfoldable pub arm_at : List Word → Read Arm
arm_at ws = do
  name ← name_at Constructor ws
  r ← after (operator (codes "->")) name.1
  target ← name_at Variable r
  Some (record { constructor = name.0; target = target.0 }, target.1)

unfoldable pub arms_at : List Word → Read (List Arm)
arms_at ws = separated_at (special (codes ";")) arm_at (length ws) ws

-- `;` v `::` ty `;` v `=`
unfoldable pub signature_at : Ports → List Word → Read (List ℕ)
signature_at ports ws = do
  r ← after (special (codes ";")) ws
  name ← name_at Variable r
  r ← after (operator (codes "::")) name.1
  r ← type_at ports r
  r ← binding_at name.0 r
  Some (name.0, r)

-- `signal` C
unfoldable pub signal_at : List Word → Read (List ℕ)
signal_at ws = do
  r ← after (variable (codes "signal")) ws
  name_at Constructor r

-- `>>= \` v `->`
unfoldable pub lambda_at : List Word → Read (List ℕ)
lambda_at ws = do
  r ← after (operator (codes ">>=")) ws
  r ← after (operator (codes "\\")) r
  bound ← name_at Variable r
  r ← after (operator (codes "->")) bound.1
  Some (bound.0, r)

-- `case` v `of {`
unfoldable pub case_at : List ℕ → List Word → Option (List Word)
case_at bound ws = do
  r ← after (keyword (codes "case")) ws
  r ← after (variable bound) r
  r ← after (keyword (codes "of")) r
  after (special (codes "{")) r

-- `>>= \` v `-> case` v `of {` .. `}`
unfoldable pub choice_at : List Word → Read (List ℕ × List Arm)
choice_at ws = do
  bound ← lambda_at ws
  r ← case_at bound.0 bound.1
  arms ← arms_at r
  r ← after (special (codes "}")) arms.1
  Some ((bound.0, arms.0), r)

unfoldable pub function_at : Ports → List Word → Read Function
function_at ports ws = do
  name ← signature_at ports ws
  shown ← signal_at name.1
  choice ← choice_at shown.1
  Some (record { name = name.0; shown = shown.0; bound = choice.0.0; arms = choice.0.1 }, choice.1)

unfoldable pub functions_at : Ports → List Word → Read (List Function)
functions_at ports ws = many_at (special (codes ";")) (function_at ports) (length ws) ws

-- the end of the words, behind at least one function
abbrev pub if_ended : Form → List Word → Option Form
if_ended form [] = if nat_lt 0 (length form.functions) then Some form else None
if_ended form (word ∷ ws) = None

unfoldable pub form_at : List Word → Option Form
form_at ws = do
  r ← after (special (codes "{")) ws
  datas ← datas_at r
  start ← start_at datas.1
  functions ← functions_at start.0.0 start.1
  r ← after (special (codes "}")) functions.1
  if_ended (record { datas = datas.0; ports = start.0.0; start = start.0.1; functions = functions.0 }) r

-- The grammar of the explicit form, one constructor for each alternative. `IsData ts data rest`: the words ts begin
-- with a spelling of the declaration, and rest follows it.
use Rattle.std.specs.Prelude.{ℕ, ◌<◌, List, [], ◌∷◌, length, codes}
use Rattle.explicit_form.specs.Words.{Word, variable, constructor, keyword, operator, special}
use Rattle.explicit_form.specs.Lists.{IsSeparated, IsMany}
use Rattle.explicit_form.specs.declared.form.Data.{Data}
use Rattle.explicit_form.specs.declared.form.Ports.{Ports}
use Rattle.explicit_form.specs.declared.form.Arm.{Arm}
use Rattle.explicit_form.specs.declared.form.Function.{Function}
use Rattle.explicit_form.specs.declared.form.Form.{Form}

-- a constructor's name
pub data IsConstructor : List Word → List ℕ → List Word → Type 0 where
  a_constructor : (name : List ℕ) (rest : List Word) → IsConstructor (constructor name ∷ rest) name rest

-- data ::= `data` C `=` C (`|` C)* `;`
pub data IsData : List Word → Data → List Word → Type 0 where
  a_data : (name : List ℕ) (constructors : List (List ℕ)) (ts rest : List Word) → IsSeparated (operator (codes "|")) IsConstructor ts constructors (special (codes ";") ∷ rest)
      → IsData (keyword (codes "data") ∷ constructor name ∷ operator (codes "=") ∷ ts) (record { name = name; constructors = constructors }) rest

-- ty ::= `ReT` C C `I ( )`, and then the rest
abbrev pub type_then : Ports → List Word → List Word
type_then ports rest =
    constructor (codes "ReT") ∷ constructor ports.input ∷ constructor ports.output ∷ constructor (codes "I") ∷ special (codes "(") ∷ special (codes ")") ∷ rest

-- v `::` ty `;` v `=`, and then the rest
abbrev pub signature_then : List ℕ → Ports → List Word → List Word
signature_then name ports rest = variable name ∷ operator (codes "::") ∷ type_then ports (special (codes ";") ∷ variable name ∷ operator (codes "=") ∷ rest)

-- `signal` C `>>= \` v `-> case` v `of {`, and then the rest
abbrev pub body_then : List ℕ → List ℕ → List Word → List Word
body_then shown bound rest =
    variable (codes "signal") ∷ constructor shown ∷ operator (codes ">>=") ∷ operator (codes "\\") ∷ variable bound ∷ operator (codes "->")
    ∷ keyword (codes "case") ∷ variable bound ∷ keyword (codes "of") ∷ special (codes "{") ∷ rest

-- C `->` v
pub data IsArm : List Word → Arm → List Word → Type 0 where
  an_arm : (name target : List ℕ) (rest : List Word) → IsArm (constructor name ∷ operator (codes "->") ∷ variable target ∷ rest) (record { constructor = name; target = target }) rest

-- `;` v `::` ty `;` v `= signal` C `>>= \` v `-> case` v `of {` C `->` v (`;` C `->` v)* `}`
pub data IsFunction (ports : Ports) : List Word → Function → List Word → Type 0 where
  a_function : (name shown bound : List ℕ) (arms : List Arm) (ts rest : List Word) → IsSeparated (special (codes ";")) IsArm ts arms (special (codes "}") ∷ rest)
      → IsFunction ports (special (codes ";") ∷ signature_then name ports (body_then shown bound ts)) (record { name = name; shown = shown; bound = bound; arms = arms }) rest

-- `{` data* `start ::` ty `; start =` v function+ `}`, and nothing else
pub data IsForm : List Word → Form → Type 0 where
  a_form : (ports : Ports) (start : List ℕ) (datas : List Data) (functions : List Function) (ts mid : List Word)
      → IsMany IsData ts datas (signature_then (codes "start") ports (variable start ∷ mid)) → IsMany (IsFunction ports) mid functions (special (codes "}") ∷ []) → 0 < length functions
      → IsForm (special (codes "{") ∷ ts) (record { datas = datas; ports = ports; start = start; functions = functions })

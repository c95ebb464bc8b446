-- What a representation of devices means, and what it is to keep that meaning.
use Rattle.std.specs.Prelude.{◌≡◌, List}
use Rattle.rw_base.specs.declared.bit.Bit9.{Bit9}

-- a list of input bit lists related to a list of output bit lists
abbrev pub Meaning : Type 1
Meaning = List (List Bit9) → List (List Bit9) → Type 0

-- for these inputs it has these outputs and no other
abbrev pub DenotesOnly : Meaning → List (List Bit9) → List (List Bit9) → Type 0
DenotesOnly meaning inputs outputs = meaning inputs outputs × ((others : List (List Bit9)) → meaning inputs others → others ≡ outputs)

-- wherever the given one denotes outputs, both denote these and no other
abbrev pub KeepsMeaning : Meaning → Meaning → Type 0
KeepsMeaning given made =
    (inputs outputs : List (List Bit9)) → given inputs outputs → DenotesOnly given inputs outputs × DenotesOnly made inputs outputs

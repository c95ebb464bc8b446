-- Which process assigns to a name.
use Rattle.std.specs.Prelude.{◌≡◌, ℕ, ◌+◌, ◌==◌, Bool, true, false, List, [], ◌∷◌, Option, Some, None, if◌then◌else◌}
use Rattle.vh_tree.specs.Bits.{Bytes}
use Rattle.vh_tree.specs.StaticRules.{drives}
use Rattle.vh_tree.specs.declared.process.Process.{Process}
use Rattle.rw_base_tables.specs.Tables.{Known}
use Rattle.vh_tree_static.specs.declared.drivers.Driver.{Driver}
use Rattle.vh_tree_static.specs.declared.drivers.Driver.TheVariants.{One, Several}

-- what is known of a name behind a process more, which stands at this place, and assigns to the name or does not
abbrev pub and_process : ℕ → Bool → Option Driver → Option Driver
and_process place false known = known
and_process place true None = Some (One place)
and_process place true (Some Several) = Some Several
and_process place true (Some (One other)) = if other == place then Some (One other) else Some Several

-- what is known of a name behind these processes too, the first of which stands at this place
abbrev pub and_processes : Bytes → ℕ → List Process → Option Driver → Option Driver
and_processes x place [] known = known
and_processes x place (p ∷ ps) known = and_processes x (place + 1) ps (and_process place (drives x p) known)

-- what is known of a name, by the processes of a design
abbrev pub driver_in : List Process → Known Driver
driver_in processes x = and_processes x 0 processes None

-- the process at this place assigns to these too
abbrev pub Assigns : ℕ → (Bytes → Bool) → Known Driver → Known Driver → Type 0
Assigns place assigned before after = (x : Bytes) → after x ≡ and_process place (assigned x) (before x)

-- one process assigns
abbrev pub is_one : Option Driver → Bool
is_one None = false
is_one (Some Several) = false
is_one (Some (One place)) = true

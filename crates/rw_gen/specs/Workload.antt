-- The stated workload: what is drawn for a number, the source with so many states, and its inputs.
use Rattle.std.specs.Prelude.{ℕ, zero, suc, ◌+◌, ◌-◌, ◌*◌, ◌%◌, ◌==◌, Bool, List, [], ◌∷◌, ◌++◌, codes, decimal}
use Rattle.rand_pcg.specs.Lcg.{Lcg, advance, started, increment_of}
use Rattle.rand_pcg.specs.Pcg.{multiplier_64, pcg32}

-- the generator `Pcg32::new(number, 0)` after it gave so many words
unfoldable pub generator_at : ℕ → ℕ → Lcg
generator_at number words = advance 64 multiplier_64 words (started 64 multiplier_64 number (increment_of 64 0))

-- draw number i, from 0, below a bound: the i-th word modulo the bound
unfoldable pub draw : ℕ → ℕ → ℕ → ℕ
draw number i bound = (pcg32 (generator_at number i)).0 % bound

-- some bytes and behind them a number in decimal
abbrev pub named : List ℕ → ℕ → List ℕ
named front number = front ++ decimal number

-- a line ends with LF
abbrev pub line : List ℕ → List ℕ
line bytes = bytes ++ 10 ∷ []

-- the states from S0 to number n, with bars between
abbrev pub states_to : ℕ → List ℕ
states_to zero = named (codes "S") 0
states_to (suc n) = states_to n ++ codes " | " ++ named (codes "S") (suc n)

-- the line that declares so many states
abbrev pub data_line : ℕ → List ℕ
data_line size = line (codes "data S = " ++ states_to (size - 1))

-- the signature of device number k
abbrev pub signature_line : ℕ → List ℕ
signature_line k = line (named (codes "d") k ++ codes " :: ReT Bool S I ()")

-- device number k shows state number k, and goes on as one device on False and as another on True
abbrev pub device_line : ℕ → ℕ → ℕ → List ℕ
device_line k on_false on_true =
    line (named (codes "d") k ++ named (codes " = signal S") k ++ named (codes " >>= \\x -> case x of { False -> d") on_false ++ named (codes " ; True -> d") on_true ++ codes " }")

-- the devices below number k among so many: draw 2k chooses what follows False, and draw 2k + 1 what follows True
abbrev pub devices_below : ℕ → ℕ → ℕ → List ℕ
devices_below number size zero = []
devices_below number size (suc k) =
    devices_below number size k ++ signature_line k ++ device_line k (draw number (2 * k) size) (draw number (2 * k + 1) size)

-- the source with so many states
abbrev pub source_text : ℕ → ℕ → List ℕ
source_text number size =
    data_line size ++ line (codes "start :: ReT Bool S I ()") ++ line (codes "start = d0") ++ devices_below number size size

-- the first so many inputs: the draws below 2 that follow the 2 * size draws of the source, with 1 for True
unfoldable pub inputs_below : ℕ → ℕ → ℕ → List Bool
inputs_below number size zero = []
inputs_below number size (suc i) = inputs_below number size i ++ (draw number (2 * size + i) 2 == 1) ∷ []

-- the inputs of the source: 1,000
unfoldable pub input_list : ℕ → ℕ → List Bool
input_list number size = inputs_below number size 1000

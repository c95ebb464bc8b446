-- Stores and sinks in memory: what they hold, and at which calls they fail.
use Rattle.std.specs.Prelude.{◌≡◌, ℕ, List, [], ◌∷◌, Option, Some, None, if◌then◌else◌, bytes_eq}
use Rattle.rw_base.specs.declared.memory.store.File.{File}
use Rattle.rw_base.specs.declared.memory.store.MemoryStore.{MemoryStore}
use Rattle.rw_base.specs.declared.memory.sink.MemorySink.{MemorySink}
use Rattle.rw_base.specs.Outside.{Files}

-- what a name holds: the newest file of that name, which stands first
abbrev pub find_file : List File → List ℕ → Option (List ℕ)
find_file [] name = None
find_file (file ∷ files) name = if bytes_eq file.name name then Some file.bytes else find_file files name

-- what a store holds
abbrev pub content_of : MemoryStore → Files
content_of store = find_file store.files.items

-- how many loads and saves a store has had
abbrev pub calls_of : MemoryStore → ℕ
calls_of store = store.calls

-- the numbers of the calls at which a store fails
abbrev pub failing_of : MemoryStore → List ℕ
failing_of store = store.failing

-- how often a load has failed
abbrev pub load_faults_of : MemoryStore → ℕ
load_faults_of store = store.load_faults

-- how often a save has failed
abbrev pub save_faults_of : MemoryStore → ℕ
save_faults_of store = store.save_faults

-- all that a sink was given
abbrev pub written_to : MemorySink → List ℕ
written_to sink = sink.bytes.items

-- how many puts a sink has had
abbrev pub puts_of : MemorySink → ℕ
puts_of sink = sink.calls

-- the numbers of the puts at which a sink fails
abbrev pub sink_failing_of : MemorySink → List ℕ
sink_failing_of sink = sink.failing

-- how often a put has failed
abbrev pub put_faults_of : MemorySink → ℕ
put_faults_of sink = sink.faults

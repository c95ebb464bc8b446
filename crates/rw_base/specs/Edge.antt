-- What a sink over a writer and the store of the system's files hold, and what a writer gets.
use Rattle.std.specs.Prelude.{ℕ, List, Option, take}
use Rattle.std.specs.Io.KnownBytes.{Appends}
use Rattle.rw_base.specs.declared.edge.FileStore.{FileStore}
use Rattle.rw_base.specs.declared.edge.StreamSink.{StreamSink}

-- known bytes grow by a prefix of these
abbrev pub AppendsPart : List ℕ → Option (List ℕ) → Option (List ℕ) → Type 0
AppendsPart bytes old new = (n : ℕ) × Appends old new (take n bytes)

-- how often a load has failed
abbrev pub loads_failed : {R A B : Type 0} → FileStore R A B → ℕ
loads_failed store = store.load_faults

-- how often a save has failed
abbrev pub saves_failed : {R A B : Type 0} → FileStore R A B → ℕ
saves_failed store = store.save_faults

-- how often a put has failed
abbrev pub puts_failed : {W : Type 0} → StreamSink W → ℕ
puts_failed sink = sink.faults

-- the writer beneath a sink
abbrev pub writer_of : {W : Type 0} → StreamSink W → W
writer_of sink = sink.writer

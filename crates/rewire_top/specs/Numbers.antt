-- The exit status of each status.
use Rattle.std.specs.Prelude.{ℕ}
use Rattle.rewire_top.specs.declared.status.Status.{Status}
use Rattle.rewire_top.specs.declared.status.Status.TheVariants.{Ok, Refused, Usage, ReadFault, WriteFault, OutOfMemory, VhdlRefused, TraceRefused, NotSettled}

abbrev pub number_of : Status → ℕ
number_of Ok = 0
number_of (Refused rule place) = 1
number_of Usage = 2
number_of ReadFault = 3
number_of WriteFault = 4
number_of OutOfMemory = 5
number_of (VhdlRefused rule) = 6
number_of (TraceRefused line) = 7
number_of (NotSettled change) = 8

-- The line that each status puts to `err`.
use Rattle.std.specs.Prelude.{ℕ, List, [], ◌++◌, codes, decimal}
use Rattle.rw_base.specs.Rules.{rule_row, vrule_row}
use Rattle.rewire_top.specs.declared.status.Status.{Status}
use Rattle.rewire_top.specs.declared.status.Status.TheVariants.{Ok, Refused, Usage, ReadFault, WriteFault, OutOfMemory, VhdlRefused, TraceRefused, NotSettled}

abbrev pub usage_line : List ℕ
usage_line = codes "usage: rewire check FILE, compile FILE OUT, run FILE TRACE, sim VHDL TRACE, report FILE, stress NUMBER SIZE\n"

-- nothing for Ok, and one line for each other status
abbrev pub line_of : Status → List ℕ
line_of Ok = []
line_of (Refused rule place) = (rule_row rule).0 ++ codes " " ++ decimal place.line ++ codes ":" ++ decimal place.column ++ codes " " ++ (rule_row rule).1 ++ codes "\n"
line_of Usage = usage_line
line_of ReadFault = codes "read fault\n"
line_of WriteFault = codes "write fault\n"
line_of OutOfMemory = codes "out of memory\n"
line_of (VhdlRefused rule) = (vrule_row rule).0 ++ codes " " ++ (vrule_row rule).1 ++ codes "\n"
line_of (TraceRefused line) = codes "trace line " ++ decimal line ++ codes " refused\n"
line_of (NotSettled change) = codes "change " ++ decimal change ++ codes " not settled\n"

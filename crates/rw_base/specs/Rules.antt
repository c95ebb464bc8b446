-- The code of each rule, and the text that is printed behind it.
use Rattle.std.specs.Prelude.{ℕ, List, codes}
use Rattle.rw_base.specs.declared.rule.Rule.{Rule}
use Rattle.rw_base.specs.declared.rule.Rule.TheVariants.{E00, E01, E02, E03, E04, E05, E06, E07, E08, E09, E10, E11, E12, E13, E14, E15, E16, E17, E18, E19, E20, E21, E22, E23, E24, E25}
use Rattle.rw_base.specs.declared.rule.VRule.{VRule}
use Rattle.rw_base.specs.declared.rule.VRule.TheVariants.{V1, V2, V3, V4, V5, V6, V7, V8}

-- the rules of a source: code and text
abbrev pub rule_row : Rule → List ℕ × List ℕ
rule_row E00 = (codes "E00", codes "form not built")
rule_row E01 = (codes "E01", codes "source too long")
rule_row E02 = (codes "E02", codes "not a token")
rule_row E03 = (codes "E03", codes "comment not closed")
rule_row E04 = (codes "E04", codes "brackets or blocks do not match")
rule_row E05 = (codes "E05", codes "not of the grammar")
rule_row E06 = (codes "E06", codes "unknown module")
rule_row E07 = (codes "E07", codes "name declared twice")
rule_row E08 = (codes "E08", codes "name not bound")
rule_row E09 = (codes "E09", codes "signature and binding do not pair")
rule_row E10 = (codes "E10", codes "wrong kind")
rule_row E11 = (codes "E11", codes "data type recursive or empty")
rule_row E12 = (codes "E12", codes "cycle in local bindings")
rule_row E13 = (codes "E13", codes "not typable")
rule_row E14 = (codes "E14", codes "patterns do not cover")
rule_row E15 = (codes "E15", codes "no proper start")
rule_row E16 = (codes "E16", codes "system operation out of place")
rule_row E17 = (codes "E17", codes "too many instances")
rule_row E18 = (codes "E18", codes "order too high")
rule_row E19 = (codes "E19", codes "recursion without a device")
rule_row E20 = (codes "E20", codes "recursion not in tail position")
rule_row E21 = (codes "E21", codes "recursion not guarded by a signal")
rule_row E22 = (codes "E22", codes "device may return before a signal")
rule_row E23 = (codes "E23", codes "data type too wide")
rule_row E24 = (codes "E24", codes "program too heavy")
rule_row E25 = (codes "E25", codes "program too deep")

-- the rules of a text of the VHDL subset: code and text
abbrev pub vrule_row : VRule → List ℕ × List ℕ
vrule_row V1 = (codes "V1", codes "byte not allowed")
vrule_row V2 = (codes "V2", codes "not a token")
vrule_row V3 = (codes "V3", codes "not of the grammar")
vrule_row V4 = (codes "V4", codes "name wrongly declared or used")
vrule_row V5 = (codes "V5", codes "widths do not agree")
vrule_row V6 = (codes "V6", codes "not exactly one driver")
vrule_row V7 = (codes "V7", codes "function used before its declaration")
vrule_row V8 = (codes "V8", codes "port too wide")

-- Flat programs of the code as plain data.
use Rattle.std.specs.Prelude.{ℕ, List, [], ◌∷◌, map}
use Rattle.rw_core.specs.Systems.{System as PlainSystem, leaf, side_by_side, fed_back}
use Rattle.rw_core_flat.specs.declared.pattern.FPat.{FPat, fold-FPat}
use Rattle.rw_core_flat.specs.declared.pattern.FPat.TheOpen.{FPat-F}
use Rattle.rw_core_flat.specs.declared.term.FArms.{FArms, fold-FArms}
use Rattle.rw_core_flat.specs.declared.term.FArms.TheOpen.{FArms-F, FTerm-F, FArm-F, FLet-F, FRow-F}
use Rattle.rw_core_flat.specs.declared.term.FTerm.{FTerm, fold-FTerm}
use Rattle.rw_core_flat.specs.declared.term.FRow.{FRow, fold-FRow}
use Rattle.rw_core_flat.specs.declared.term.FLet.{FLet, fold-FLet}
use Rattle.rw_core_flat.specs.declared.term.FArm.{FArm, fold-FArm}
use Rattle.rw_core_flat.specs.declared.function.FlatFun.{FlatFun}
use Rattle.rw_core_flat.specs.declared.function.FunKind.{FunKind}
use Rattle.rw_core_flat.specs.declared.function.FunKind.TheVariants as k
use Rattle.rw_core_flat.specs.declared.program.Flat.{Flat}
use Rattle.rw_core_flat.specs.declared.program.System.{System, fold-System}
use Rattle.rw_core_flat.specs.declared.program.System.TheOpen.{System-F}
use Rattle.rw_core_flat.specs.Terms.{FlatPattern, any_pattern, bound_pattern, built_pattern, FlatPatterns, no_patterns, more_patterns}
use Rattle.rw_core_flat.specs.Terms.{FlatTerm, local_term, built_term, case_term, let_term, call_term, mark_term, return_term, get_term, put_term, lift_term, bind_term, signal_term, extrude_term, FlatTerms, no_terms, more_terms}
use Rattle.rw_core_flat.specs.Terms.{FlatLets, no_lets, more_lets, FlatRows, no_rows, more_rows, FlatArms, body_arm, no_arms, more_arms}
use Rattle.rw_core_flat.specs.Programs.{FunctionKind, pure, state, device, FlatFunction, FlatProgram}

-- == Patterns ==

-- lists as the parts of a pattern or a term
abbrev pub pattern_parts : List FlatPattern → FlatPatterns
pattern_parts [] = no_patterns
pattern_parts (p ∷ ps) = more_patterns p (pattern_parts ps)

abbrev pub pattern_step : FPat-F FlatPattern → FlatPattern
pattern_step FPat-F.Any = any_pattern
pattern_step FPat-F.Bind = bound_pattern
pattern_step (FPat-F.Con place parts) = built_pattern place (pattern_parts parts)

abbrev pub pattern : FPat → FlatPattern
pattern = fold-FPat FlatPattern pattern_step

abbrev pub patterns : List FPat → FlatPatterns
patterns pats = pattern_parts (map pattern pats)

-- == Terms ==

abbrev pub term_parts : List FlatTerm → FlatTerms
term_parts [] = no_terms
term_parts (t ∷ ts) = more_terms t (term_parts ts)

-- a binding, a guard with its body, and a row, by their parts
abbrev pub Binding : Type 0
Binding = FlatPattern × FlatTerm

abbrev pub GuardedTerm : Type 0
GuardedTerm = FlatTerm × FlatTerm

abbrev pub Row : Type 0
Row = FlatPatterns × FlatLets × FlatArms

abbrev pub let_parts : List Binding → FlatLets
let_parts [] = no_lets
let_parts ((p, t) ∷ others) = more_lets p t (let_parts others)

abbrev pub guarded_arms : List GuardedTerm → FlatArms
guarded_arms [] = no_arms
guarded_arms ((g, t) ∷ others) = more_arms g t (guarded_arms others)

abbrev pub row_parts : List Row → FlatRows
row_parts [] = no_rows
row_parts ((ps, lets, arms) ∷ others) = more_rows ps lets arms (row_parts others)

-- one level, with each part already in its plain form
abbrev pub arms_step : FArms-F FlatArms FlatTerm GuardedTerm Binding Row → FlatArms
arms_step (FArms-F.Body t) = body_arm t
arms_step (FArms-F.Guarded arms) = guarded_arms arms

abbrev pub term_step : FTerm-F FlatArms FlatTerm GuardedTerm Binding Row → FlatTerm
term_step (FTerm-F.Local n) = local_term n
term_step (FTerm-F.Con type place parts) = built_term type place (term_parts parts)
term_step (FTerm-F.Case parts rows) = case_term (term_parts parts) (row_parts rows)
term_step (FTerm-F.Let lets body) = let_term (let_parts lets) body
term_step (FTerm-F.Call i parts) = call_term i (term_parts parts)
term_step (FTerm-F.Mark t) = mark_term t
term_step (FTerm-F.Return t) = return_term t
term_step FTerm-F.Get = get_term
term_step (FTerm-F.Put t) = put_term t
term_step (FTerm-F.Lift t) = lift_term t
term_step (FTerm-F.Bind t u) = bind_term t u
term_step (FTerm-F.Signal t) = signal_term t
term_step (FTerm-F.Extrude t u) = extrude_term t u

abbrev pub arm_step : FArm-F FlatArms FlatTerm GuardedTerm Binding Row → GuardedTerm
arm_step a = (a.guard, a.body)

abbrev pub let_step : FLet-F FlatArms FlatTerm GuardedTerm Binding Row → Binding
let_step l = (pattern l.pat, l.term)

abbrev pub row_step : FRow-F FlatArms FlatTerm GuardedTerm Binding Row → Row
row_step r = (patterns r.pats, let_parts r.lets, r.arms)

-- the plain form of each
abbrev pub term : FTerm → FlatTerm
term = fold-FTerm FlatArms FlatTerm GuardedTerm Binding Row arms_step term_step arm_step let_step row_step

abbrev pub arms_of : FArms → FlatArms
arms_of = fold-FArms FlatArms FlatTerm GuardedTerm Binding Row arms_step term_step arm_step let_step row_step

abbrev pub arm : FArm → GuardedTerm
arm = fold-FArm FlatArms FlatTerm GuardedTerm Binding Row arms_step term_step arm_step let_step row_step

abbrev pub binding : FLet → Binding
binding = fold-FLet FlatArms FlatTerm GuardedTerm Binding Row arms_step term_step arm_step let_step row_step

abbrev pub row : FRow → Row
row = fold-FRow FlatArms FlatTerm GuardedTerm Binding Row arms_step term_step arm_step let_step row_step

-- == Programs ==

abbrev pub kind_of : FunKind → FunctionKind
kind_of k.Pure = pure
kind_of (k.State layers) = state layers
kind_of (k.Device i o layers) = device i o layers

abbrev pub function_of : FlatFun → FlatFunction
function_of f = record { name = f.name; place = f.place; kind = kind_of f.kind; params = f.params; result = f.result; body = term f.body }

abbrev pub functions_of : List FlatFun → List FlatFunction
functions_of funs = map function_of funs

abbrev pub system_step : System-F (PlainSystem ℕ ℕ) → PlainSystem ℕ ℕ
system_step (System-F.Leaf i) = leaf i
system_step (System-F.Par d e) = side_by_side d e
system_step (System-F.Refold f g d) = fed_back f g d

abbrev pub system_of : System → PlainSystem ℕ ℕ
system_of = fold-System (PlainSystem ℕ ℕ) system_step

abbrev pub flat_program : Flat → FlatProgram
flat_program p = record { types = p.table.types; functions = functions_of p.funs; system = system_of p.system; input = p.input; output = p.output }

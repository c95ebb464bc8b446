-- A text and a trace have one answer at most.
use Rattle.std.proofs.Common.{◌≡◌, inl, inr, ℕ, List, Bool, Result, Ok, Err, refl, ap, sym, subst, ◌∙◌}
use Rattle.rw_base.specs.declared.rule.VRule.{VRule}
use Rattle.vh_tree.specs.Bits.{Bits}
use Rattle.vh_tree.specs.Bench.{Schedule, text_schedule}
use Rattle.vh_tree_laws.specs.Laws.{TextOrderLaw}
use Rattle.vh_tree.specs.declared.design.Design.{Design}
use Rattle.rw_trace.specs.Traces.{trace_of}
use Rattle.vhdl_bench.specs.Showing.{lines_of, inputs_of, ShowsText, NeverSettles, IsAccepted, BreaksText, IsSimulated, IsShown, IsUnlessMemory}
use Rattle.vhdl_bench.specs.Steps.{IsTextRead}
use Rattle.vhdl_bench.specs.declared.fail.BenchFail.{BenchFail}
use Rattle.vhdl_bench.specs.declared.fail.BenchFail.TheVariants.{VhdlRefused, TraceRefused, NotSettled, OutOfMemory}

abbrev Answer : Type 0
Answer = Result (List ℕ) BenchFail

abbrev failed : BenchFail → Answer
failed e = Err e

memory : (other given : Answer) → given ≡ Err OutOfMemory → IsUnlessMemory other given
memory other given e = inr e

-- ---- what the bench shows is one thing

abbrev ok_of : {A : Type 0} → A → Result A ℕ → A
ok_of a (Ok x) = x
ok_of a (Err n) = a

abbrev err_of : {A : Type 0} → ℕ → Result A ℕ → ℕ
err_of n (Ok x) = n
err_of n (Err m) = m

one_reading : (a b : List Bits) (r : Result (List Bits) ℕ) → r ≡ Ok a → r ≡ Ok b → a ≡ b
one_reading a b r e f = ap (ok_of a) (sym e ∙ f)

one_change : (a b : ℕ) (r : Result (List Bits) ℕ) → r ≡ Err a → r ≡ Err b → a ≡ b
one_change a b r e f = ap (err_of a) (sym e ∙ f)

never_both : {X : Type 0} (a : List Bits) (b : ℕ) (r : Result (List Bits) ℕ) → r ≡ Ok a → r ≡ Err b → X
never_both a b r e f = absurd (cc)

abbrev text_order : Design → Schedule
text_order d = text_schedule d

-- what is shown, and is not want of memory
abbrev pub IsShownWhole : Design → List Bits → Answer → Type 0
IsShownWhole d inputs (Ok text) = ShowsText d inputs text
IsShownWhole d inputs (Err (VhdlRefused rule)) = ⊥
IsShownWhole d inputs (Err (TraceRefused line)) = ⊥
IsShownWhole d inputs (Err (NotSettled change)) = NeverSettles d inputs change
IsShownWhole d inputs (Err OutOfMemory) = ⊥

shown_once : TextOrderLaw → (d : Design) (inputs : List Bits) (other given : Answer) → IsShownWhole d inputs other → IsShown d inputs given → IsUnlessMemory other given
shown_once law d inputs other (Err OutOfMemory) a b = inr refl
shown_once law d inputs other (Err (VhdlRefused rule)) a b = absurd b
shown_once law d inputs other (Err (TraceRefused line)) a b = absurd b
shown_once law d inputs (Err (VhdlRefused rule)) (Ok t) a b = absurd a
shown_once law d inputs (Err (TraceRefused line)) (Ok t) a b = absurd a
shown_once law d inputs (Err OutOfMemory) (Ok t) a b = absurd a
shown_once law d inputs (Err (VhdlRefused rule)) (Err (NotSettled k)) a b = absurd a
shown_once law d inputs (Err (TraceRefused line)) (Err (NotSettled k)) a b = absurd a
shown_once law d inputs (Err OutOfMemory) (Err (NotSettled k)) a b = absurd a
shown_once law d inputs (Ok s) (Ok t) a b =
    inl (ap Ok (b.2 ∙ sym (ap lines_of (one_reading a.0 b.0 _ (a.1 (text_order d) (law d)) (b.1 (text_order d) (law d)))) ∙ sym a.2))
shown_once law d inputs (Ok s) (Err (NotSettled k)) a b = never_both a.0 k _ (a.1 (text_order d) (law d)) (b (text_order d) (law d))
shown_once law d inputs (Err (NotSettled k)) (Ok t) a b = never_both b.0 k _ (b.1 (text_order d) (law d)) (a (text_order d) (law d))
shown_once law d inputs (Err (NotSettled k)) (Err (NotSettled m)) a b =
    inl (ap (λ n. failed (NotSettled n)) (one_change m k _ (b (text_order d) (law d)) (a (text_order d) (law d))))

-- ---- what comes of a text, where it comes of something else

abbrev Found : Type 0
Found = Result Design BenchFail

abbrev bench_error : BenchFail → Found → BenchFail
bench_error e (Ok d) = e
bench_error e (Err f) = f

abbrev design_in : Design → Found → Design
design_in d (Ok e) = e
design_in d (Err f) = d

same_design : (a b : Design) (r : Found) → r ≡ Ok a → r ≡ Ok b → a ≡ b
same_design a b r e f = ap (design_in a) (sym e ∙ f)

same_failure : (a b : BenchFail) (r : Found) → r ≡ Err a → r ≡ Err b → a ≡ b
same_failure a b r e f = ap (bench_error a) (sym e ∙ f)

not_both : {X : Type 0} (d : Design) (e : BenchFail) (r : Found) → r ≡ Ok d → r ≡ Err e → X
not_both d e r a b = absurd (cc)

-- the text is refused, or memory ran out
unread_accepted : (text : List ℕ) (r : Found) → IsTextRead text r → (e : BenchFail) → r ≡ Err e → (other : Answer) (d : Design) → IsAccepted text d → IsUnlessMemory other (Err e)
unread_accepted text r read e is other d a = elim (read.accepted d a) [ inl ok ↦ not_both d e r ok is | inr out ↦ inr (ap failed (same_failure e OutOfMemory r is out)) ]

pub exact_unread : (text trace : List ℕ) (r : Found) → IsTextRead text r → (e : BenchFail) → r ≡ Err e → (other : Answer) → IsSimulated text trace other → IsUnlessMemory other (Err e)
exact_unread text trace r read e is (Ok lines) s = unread_accepted text r read e is (Ok lines) s.0 s.2
exact_unread text trace r read e is (Err (VhdlRefused rule)) s =
    elim (read.broken rule s) [ inl ok ↦ inl (ap failed (same_failure e (VhdlRefused rule) r is ok)) | inr out ↦ inr (ap failed (same_failure e OutOfMemory r is out)) ]
exact_unread text trace r read e is (Err (TraceRefused line)) s = unread_accepted text r read e is (Err (TraceRefused line)) s.0 s.1
exact_unread text trace r read e is (Err (NotSettled k)) s = unread_accepted text r read e is (Err (NotSettled k)) s.0 s.2
exact_unread text trace r read e is (Err OutOfMemory) s = absurd s

-- the text is read, and the trace is not
found_accepted : (text : List ℕ) (r : Found) → IsTextRead text r → (d e : Design) → r ≡ Ok d → IsAccepted text e → d ≡ e
found_accepted text r read d e is a = elim (read.accepted e a) [ inl ok ↦ same_design d e r is ok | inr out ↦ not_both d OutOfMemory r is out ]

found_broken : {X : Type 0} (text : List ℕ) (r : Found) → IsTextRead text r → (d : Design) → r ≡ Ok d → (rule : VRule) → BreaksText text rule → X
found_broken text r read d is rule b = elim (read.broken rule b) [ inl ok ↦ not_both d (VhdlRefused rule) r is ok | inr out ↦ not_both d OutOfMemory r is out ]

abbrev Lines : Type 0
Lines = Result (List (List Bool)) ℕ

abbrev lines_in : List (List Bool) → Lines → List (List Bool)
lines_in d (Ok e) = e
lines_in d (Err f) = d

abbrev line_in : ℕ → Lines → ℕ
line_in n (Ok e) = n
line_in n (Err m) = m

lines_or_line : {X : Type 0} (bits : List (List Bool)) (line : ℕ) (r : Lines) → r ≡ Ok bits → r ≡ Err line → X
lines_or_line bits line r a b = absurd (cc)

abbrev read_by : Design → List ℕ → Lines
read_by d trace = trace_of d.inp trace

pub exact_untraced : (text trace : List ℕ) (r : Found) → IsTextRead text r → (d : Design) → r ≡ Ok d → (line : ℕ) → trace_of d.inp trace ≡ Err line →
    (other : Answer) → IsSimulated text trace other → IsUnlessMemory other (Err (TraceRefused line))
exact_untraced text trace r read d is line bad (Ok lines) s =
    lines_or_line s.1 line (read_by s.0 trace) s.3 (ap (λ e. read_by e trace) (sym (found_accepted text r read d s.0 is s.2)) ∙ bad)
exact_untraced text trace r read d is line bad (Err (VhdlRefused rule)) s = found_broken text r read d is rule s
exact_untraced text trace r read d is line bad (Err (TraceRefused other)) s =
    inl (ap (λ n. failed (TraceRefused n)) (ap (line_in line) (sym bad ∙ ap (λ e. read_by e trace) (found_accepted text r read d s.0 is s.1) ∙ s.2)))
exact_untraced text trace r read d is line bad (Err (NotSettled k)) s =
    lines_or_line s.1 line (read_by s.0 trace) s.3 (ap (λ e. read_by e trace) (sym (found_accepted text r read d s.0 is s.2)) ∙ bad)
exact_untraced text trace r read d is line bad (Err OutOfMemory) s = absurd s

-- both are read
same_inputs : (text trace : List ℕ) (r : Found) → IsTextRead text r → (d e : Design) → r ≡ Ok d → IsAccepted text e → (bits others : List (List Bool)) → trace_of d.inp trace ≡ Ok bits → trace_of e.inp trace ≡ Ok others → bits ≡ others
same_inputs text trace r read d e is a bits others t u =
    ap (lines_in bits) (sym t ∙ ap (λ f. read_by f trace) (found_accepted text r read d e is a) ∙ u)

shown_here : (d e : Design) (bits others : List (List Bool)) → d ≡ e → bits ≡ others → (a : Answer) → IsShownWhole e (inputs_of others) a → IsShownWhole d (inputs_of bits) a
shown_here d e bits others same inputs a s = subst (λ f. IsShownWhole f (inputs_of bits) a) (sym same) (subst (λ b. IsShownWhole e (inputs_of b) a) (sym inputs) s)

pub exact_shown : TextOrderLaw → (text trace : List ℕ) (r : Found) → IsTextRead text r → (d : Design) → r ≡ Ok d → (bits : List (List Bool)) → trace_of d.inp trace ≡ Ok bits →
    (given : Answer) → IsShown d (inputs_of bits) given → (other : Answer) → IsSimulated text trace other → IsUnlessMemory other given
exact_shown law text trace r read d is bits good given shown (Ok lines) s =
    shown_once law d (inputs_of bits) (Ok lines) given
    (shown_here d s.0 bits s.1 (found_accepted text r read d s.0 is s.2) (same_inputs text trace r read d s.0 is s.2 bits s.1 good s.3) (Ok lines) s.4) shown
exact_shown law text trace r read d is bits good given shown (Err (VhdlRefused rule)) s = found_broken text r read d is rule s
exact_shown law text trace r read d is bits good given shown (Err (TraceRefused line)) s =
    lines_or_line bits line (read_by d trace) good (ap (λ e. read_by e trace) (found_accepted text r read d s.0 is s.1) ∙ s.2)
exact_shown law text trace r read d is bits good given shown (Err (NotSettled k)) s =
    shown_once law d (inputs_of bits) (Err (NotSettled k)) given
    (shown_here d s.0 bits s.1 (found_accepted text r read d s.0 is s.2) (same_inputs text trace r read d s.0 is s.2 bits s.1 good s.3) (Err (NotSettled k)) s.4) shown
exact_shown law text trace r read d is bits good given shown (Err OutOfMemory) s = absurd s

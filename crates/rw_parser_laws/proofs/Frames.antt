-- Tokens have one frame at most, and spell one program at most.
use Rattle.std.proofs.Common.{◌≡◌, ℕ, suc, ◌+◌, true, false, not, List, [], ◌∷◌, drop, Some, refl, sym, ap, subst, ◌∙◌, arith}
use Rattle.rw_base.specs.declared.place.Span.{Span}
use Rattle.rw_tree.specs.declared.program.Program.{Program}
use Rattle.rw_lex.specs.declared.token.Token.{Token}
use Rattle.rw_parser_grammar.specs.declared.item.Item.{Item}
use Rattle.rw_parser_grammar.specs.declared.lexeme.Mark.{Mark}
use Rattle.rw_parser_grammar.specs.declared.lexeme.Mark.TheVariants as m
use Rattle.rw_parser_grammar.specs.declared.lexeme.Spot.{Spot}
use Rattle.rw_parser_grammar.specs.declared.lexeme.Lexeme.{Lexeme}
use Rattle.rw_parser_grammar.specs.declared.lexeme.Lexeme.TheVariants as t
use Rattle.rw_parser_grammar.specs.Declarations.{IsExports, no_exports, empty_exports, some_exports}
use Rattle.rw_parser_grammar.specs.Grammar.{IsItem, IsHeader, no_header, a_header, is_inside, IsRun, ends_by_semicolon, ends_by_brace, opens_braces, closes_braces, stays_in_braces, goes_on, IsRuns, the_last_run, another_run, IsFrame, a_frame}
use Rattle.rw_parser_grammar.specs.Grammar.{whole_run, AreItems, no_items, nothing, something, item_groups, declarations_of, Spells, spells}
use Rattle.rw_parser_reading.specs.Read.{same_mark, sees}
use Rattle.rw_parser_reading.specs.ReadClauses.{ends_entry}
use Rattle.rw_parser_reading.specs.ReadDeclarations.{sees_point, module_name_at, exports_at}
use Rattle.rw_parser_reading.specs.ReadProgram.{header_at, Run, run_before, run_at}
use Rattle.rw_parser_reading.proofs.ReadExact.{some_is, same_self, after_mark, one_front}
use Rattle.rw_parser_laws.proofs.ReadImports.{module_exact, exports_runs}
use Rattle.rw_parser_laws.proofs.ReadItems.{item_exact}
use Rattle.rw_parser_laws.proofs.Deeper.{item_deeper}

-- ---- headers
exports_no_point : (ts : List Lexeme) (listing : List (List ℕ)) (w : Spot) (rest : List Lexeme) → IsExports ts listing (t.Mark w m.Where ∷ rest) → not (sees_point ts) ≡ true
exports_no_point ts listing w rest d = go ts listing (t.Mark w m.Where ∷ rest) d refl
  where
    go : (ts : List Lexeme) (listing : List (List ℕ)) (behind : List Lexeme) → IsExports ts listing behind → sees_point behind ≡ false → not (sees_point ts) ≡ true
    go _ _ _ (no_exports ts) h = ap not h
    go _ _ _ (empty_exports v w rest) h = refl
    go _ _ _ (some_exports v w ts rest names d) h = refl

where_no_opening : (w : Spot) (rest : List Lexeme) → not (sees m.Opens (t.Mark w m.Where ∷ rest)) ≡ true
unfolding same_mark
where_no_opening w rest = refl

header_read : (v w : Spot) (ts mid rest : List Lexeme) (names listing : List (List ℕ)) → module_name_at ts ≡ Some (names, mid) → exports_at mid ≡ Some (listing, t.Mark w m.Where ∷ rest) → header_at (t.Mark v m.Module ∷ ts) ≡ Some rest
unfolding header_at
header_read v w ts mid rest names listing h g = rw (same_self m.Module, h, g, after_mark m.Where w rest)

bare_read : (w : Spot) (ts : List Lexeme) → header_at (t.Mark w m.OpensBlock ∷ ts) ≡ Some (t.Mark w m.OpensBlock ∷ ts)
unfolding header_at same_mark
bare_read w ts = refl

pub header_complete : (ts behind : List Lexeme) → IsHeader ts behind → (w : Spot) (rest : List Lexeme) → behind ≡ t.Mark w m.OpensBlock ∷ rest → header_at ts ≡ Some behind
header_complete _ _ (no_header ts) w rest h = subst (λ z. header_at z ≡ Some z) (sym h) (bare_read w rest)
header_complete _ _ (a_header v x ts mid behind names listing d k) w rest h =
    header_read v x ts mid behind names listing (module_exact.complete ts names mid d (exports_no_point mid listing x behind k)) (exports_runs.complete mid listing _ k (where_no_opening x behind))

-- ---- runs
inside_mark : (a : Mark) (w : Spot) → is_inside (t.Mark w a) ≡ true → (same_mark a m.OpensBlock ≡ false) × ((same_mark a m.ClosesBlock ≡ false) × (same_mark a m.Semicolon ≡ false))
unfolding same_mark
inside_mark m.OpensBlock w h = absurd (cc)
inside_mark m.ClosesBlock w h = absurd (cc)
inside_mark m.Semicolon w h = absurd (cc)
inside_mark a w h = (refl, (refl, refl))

inside_read : (d : ℕ) (x : Lexeme) (ts : List Lexeme) → is_inside x ≡ true → run_at d (x ∷ ts) ≡ run_before x (run_at d ts)
inside_read d (t.Mark w a) ts h = let k = inside_mark a w h in rw (k.0, k.1.0, k.1.1)
inside_read d (t.Variable w name) ts h = refl
inside_read d (t.Constructor w name) ts h = refl
inside_read d (t.Operator w name) ts h = refl
inside_read d (t.Number w digits) ts h = refl

opens_read : (d : ℕ) (w : Spot) (ts : List Lexeme) → run_at d (t.Mark w m.OpensBlock ∷ ts) ≡ run_before (t.Mark w m.OpensBlock) (run_at (suc d) ts)
unfolding same_mark
opens_read d w ts = refl

closes_read : (d : ℕ) (w : Spot) (ts : List Lexeme) → run_at (suc d) (t.Mark w m.ClosesBlock ∷ ts) ≡ run_before (t.Mark w m.ClosesBlock) (run_at d ts)
unfolding same_mark
closes_read d w ts = refl

stays_read : (d : ℕ) (w : Spot) (ts : List Lexeme) → run_at (suc d) (t.Mark w m.Semicolon ∷ ts) ≡ run_before (t.Mark w m.Semicolon) (run_at (suc d) ts)
unfolding same_mark
stays_read d w ts = refl

semicolon_read : (w : Spot) (ts : List Lexeme) → run_at 0 (t.Mark w m.Semicolon ∷ ts) ≡ Some ([], (t.Mark w m.Semicolon, ts))
unfolding same_mark
semicolon_read w ts = refl

brace_read : (w : Spot) (ts : List Lexeme) → run_at 0 (t.Mark w m.ClosesBlock ∷ ts) ≡ Some ([], (t.Mark w m.ClosesBlock, ts))
unfolding same_mark
brace_read w ts = refl

pub run_read : {d : ℕ} {ts run : List Lexeme} {end : Lexeme} {rest : List Lexeme} → IsRun d ts run end rest → run_at d ts ≡ Some (run, (end, rest))
run_read (ends_by_semicolon w rest) = semicolon_read w rest
run_read (ends_by_brace w rest) = brace_read w rest
run_read (opens_braces d w ts run rest end r) = opens_read d w ts ∙ ap (run_before (t.Mark w m.OpensBlock)) (run_read r)
run_read (closes_braces d w ts run rest end r) = closes_read d w ts ∙ ap (run_before (t.Mark w m.ClosesBlock)) (run_read r)
run_read (stays_in_braces d w ts run rest end r) = stays_read d w ts ∙ ap (run_before (t.Mark w m.Semicolon)) (run_read r)
run_read (goes_on d x ts run rest end h r) = inside_read d x ts h ∙ ap (run_before x) (run_read r)

one_run : {ts : List Lexeme} (p q : Run) → IsRun 0 ts p.0 p.1.0 p.1.1 → IsRun 0 ts q.0 q.1.0 q.1.1 → p ≡ q
one_run p q a b = some_is p q (sym (run_read a) ∙ run_read b)

closing : (p q : Run) → p ≡ q → sees m.ClosesBlock (p.1.0 ∷ []) ≡ sees m.ClosesBlock (q.1.0 ∷ [])
closing p q e = ap (λ (z : Run). sees m.ClosesBlock (z.1.0 ∷ [])) e

pub brace_closes : (w : Spot) → sees m.ClosesBlock (t.Mark w m.ClosesBlock ∷ []) ≡ true
unfolding same_mark
brace_closes w = refl

pub semicolon_stays : (w : Spot) → sees m.ClosesBlock (t.Mark w m.Semicolon ∷ []) ≡ false
unfolding same_mark
semicolon_stays w = refl

pub one_runs : {ts : List Lexeme} {rs qs : List (List Lexeme × Lexeme)} → IsRuns ts rs → IsRuns ts qs → rs ≡ qs
one_runs (the_last_run w ts run r) (the_last_run v us other s) = ap (λ (z : Run). (z.0, z.1.0) ∷ []) (one_run (run, (t.Mark w m.ClosesBlock, [])) (other, (t.Mark v m.ClosesBlock, [])) r s)
one_runs (the_last_run w ts run r) (another_run v us other rest others s k) =
    absurd (let e = closing (run, (t.Mark w m.ClosesBlock, [])) (other, (t.Mark v m.Semicolon, rest)) (one_run (run, (t.Mark w m.ClosesBlock, [])) (other, (t.Mark v m.Semicolon, rest)) r s) in
    let f : true ≡ false = sym (brace_closes w) ∙ e ∙ semicolon_stays v in cc)
one_runs (another_run w ts run rest others r k) (the_last_run v us other s) =
    absurd (let e = closing (run, (t.Mark w m.Semicolon, rest)) (other, (t.Mark v m.ClosesBlock, [])) (one_run (run, (t.Mark w m.Semicolon, rest)) (other, (t.Mark v m.ClosesBlock, [])) r s) in
    let f : true ≡ false = sym (brace_closes v) ∙ sym e ∙ semicolon_stays w in cc)
one_runs (another_run w ts run rest others r k) (another_run v us other behind more s l) =
    let e = one_run (run, (t.Mark w m.Semicolon, rest)) (other, (t.Mark v m.Semicolon, behind)) r s in
    let same : others ≡ more = one_runs k (subst (λ z. IsRuns z more) (sym (ap (λ (z : Run). z.1.1) e)) l) in
    ap (λ (z : Run). (z.0, z.1.0) ∷ others) e ∙ ap (λ z. (other, t.Mark v m.Semicolon) ∷ z) same

pub one_frame : {ts : List Lexeme} {rs qs : List (List Lexeme × Lexeme)} → IsFrame ts rs → IsFrame ts qs → rs ≡ qs
one_frame (a_frame w ts rest rs h r) (a_frame v us behind qs k s) =
    let e = some_is (t.Mark w m.OpensBlock ∷ rest) (t.Mark v m.OpensBlock ∷ behind) (sym (header_complete ts _ h w rest refl) ∙ header_complete ts _ k v behind refl) in
    one_runs r (subst (λ z. IsRuns z qs) (sym (ap (drop 1) e)) s)

-- ---- items
abbrev pub AllEnd : List (List Lexeme × Lexeme) → Type 0
AllEnd [] = Unit {0}
AllEnd (r ∷ rs) = (ends_entry (r.1 ∷ []) ≡ true) × AllEnd rs

brace_ends : (w : Spot) → ends_entry (t.Mark w m.ClosesBlock ∷ []) ≡ true
unfolding same_mark
brace_ends w = refl

semicolon_ends : (w : Spot) → ends_entry (t.Mark w m.Semicolon ∷ []) ≡ true
unfolding same_mark
semicolon_ends w = refl

runs_end : {ts : List Lexeme} {rs : List (List Lexeme × Lexeme)} → IsRuns ts rs → AllEnd rs
runs_end (the_last_run w ts run r) = (brace_ends w, tt)
runs_end (another_run w ts run rest others r k) = (semicolon_ends w, runs_end k)

pub frame_ends : {ts : List Lexeme} {rs : List (List Lexeme × Lexeme)} → IsFrame ts rs → AllEnd rs
frame_ends (a_frame w ts rest rs h r) = runs_end r

-- nothing is no item
pub no_item : {A : Type 0} (n : ℕ) (end : Lexeme) (item : Item) → IsItem n (end ∷ []) item (end ∷ []) → A
no_item n end item d = let h = (item_exact n).shorter (end ∷ []) item (end ∷ []) d in absurd (omega arith)

-- at two depths
pub one_item_of : (n k : ℕ) (ts rest : List Lexeme) (a b : Item) → IsItem n ts a rest → IsItem k ts b rest → ends_entry rest ≡ true → a ≡ b
one_item_of n k ts rest a b x y s =
    let p : k + n ≡ n + k = omega arith in
    ap (λ (z : Item × List Lexeme). z.0) (one_front (item_exact (k + n)) ts (a, rest) (b, rest) (item_deeper k n (k + n) refl ts a rest x) s (item_deeper n k (k + n) p ts b rest y) s)

one_items : {rs : List (List Lexeme × Lexeme)} {firsts seconds : List Item} → AllEnd rs → AreItems rs firsts → AreItems rs seconds → firsts ≡ seconds
one_items h no_items no_items = refl
one_items h (nothing end rs firsts x) (nothing other qs seconds y) = one_items h.1 x y
one_items h (nothing end rs firsts x) (something n run other qs item seconds d y) = no_item n other item d
one_items h (something n run end rs item firsts d x) (nothing other qs seconds y) = no_item n end item d
one_items h (something n run end rs item firsts d x) (something k other last qs made seconds e y) =
    ap (λ z. z ∷ firsts) (one_item_of n k (whole_run run end) (end ∷ []) item made d e h.0) ∙ ap (λ z. made ∷ z) (one_items h.1 x y)

pub one_program : (tokens : List Token) (a b : Program Span) → Spells tokens a → Spells tokens b → a ≡ b
one_program _ _ _ (spells tokens rs firsts f x) (spells others qs seconds g y) =
    let e : rs ≡ qs = one_frame f g in
    let s : firsts ≡ seconds = one_items (frame_ends f) x (subst (λ z. AreItems z seconds) (sym e) y) in
    ap (λ z. record { decls = declarations_of (item_groups z) }) s

-- Statements are read exactly, where what stands inside them is.
use Rattle.std.proofs.Common.{◌≡◌, ◌<◌, Bool, true, false, List, ◌∷◌, length, drop, Some, None, refl, sym, ap, subst, ◌∙◌, arith, inl, inr}
use Rattle.rw_base.specs.declared.place.Span.{Span}
use Rattle.rw_tree.specs.declared.pattern.Pat.{Pat}
use Rattle.rw_tree.specs.declared.expr.Expr.{Expr}
use Rattle.rw_tree.specs.declared.expr.Expr.TheVariants as e
use Rattle.rw_tree.specs.declared.clause.Local.{Local}
use Rattle.rw_tree.specs.declared.clause.Stmt.{Stmt}
use Rattle.rw_tree.specs.declared.clause.Stmt.TheVariants as s
use Rattle.rw_parser_grammar.specs.declared.lexeme.Mark.TheVariants as m
use Rattle.rw_parser_grammar.specs.declared.lexeme.Spot.{Spot}
use Rattle.rw_parser_grammar.specs.declared.lexeme.Lexeme.{Lexeme}
use Rattle.rw_parser_grammar.specs.declared.lexeme.Lexeme.TheVariants as t
use Rattle.rw_parser_grammar.specs.Lexemes.{next_spot, span_at, span_of}
use Rattle.rw_parser_grammar.specs.Lists.{IsBlock}
use Rattle.rw_parser_grammar.specs.Clauses.{IsStatement, a_bind, a_let_statement, a_run, IsStatements, statements, ends_in_run}
use Rattle.rw_parser_reading.specs.Read.{Read, same_mark, sees, after, block_at}
use Rattle.rw_parser_reading.specs.ReadTypes.{ends_pattern}
use Rattle.rw_parser_reading.specs.ReadExpressions.{ends_expression}
use Rattle.rw_parser_reading.specs.ReadClauses.{ends_entry, begins_bind, bind_at, let_statement_at, run_at, statement_at, statements_at}
use Rattle.rw_parser_reading.proofs.ReadExact.{bind_some, chosen, moved, same_self, seen_is, after_is, after_mark, always, Exact, block_exact}
use Rattle.rw_parser_laws.proofs.ReadExpressions.{Begins}
use Rattle.rw_parser_laws.proofs.Plain.{apat_is, IsPlainly, Passes}
use Rattle.rw_parser_laws.proofs.ReadLocals.{entry_ends, block_closes, block_goes}

-- the parts of an expression that begins with `let`, one level deeper
pub data LetParts (Lower : List Lexeme → List (Local Span) → List Lexeme → Type 0) (Below : List Lexeme → Expr Span → List Lexeme → Type 0) : List Lexeme → Expr Span → List Lexeme → Type 0 where
  let_parts : (v w : Spot) (ts mid rest : List Lexeme) (all : List (Local Span)) (body : Expr Span) → Lower ts all (t.Mark w m.In ∷ mid) → Below mid body rest
      → LetParts Lower Below (t.Mark v m.Let ∷ ts) (e.Let (span_at v rest) all body) rest

arrow_binds : (w : Spot) (ts : List Lexeme) → begins_bind (t.Mark w m.FromArrow ∷ ts) ≡ true
unfolding same_mark
arrow_binds w ts = refl

arrow_ends : (w : Spot) (ts : List Lexeme) → ends_pattern (t.Mark w m.FromArrow ∷ ts) ≡ true
unfolding same_mark
arrow_ends w ts = refl

let_no_bind : (w : Spot) (ts : List Lexeme) → begins_bind (t.Mark w m.Let ∷ ts) ≡ false
unfolding same_mark
let_no_bind w ts = refl

module _ (pattern : List Lexeme → Read (Pat Span)) (Pattern : List Lexeme → Pat Span → List Lexeme → Type 0) (pats_exact : Exact pattern Pattern ends_pattern)
    (plain : (ts : List Lexeme) (pat : Pat Span) (rest : List Lexeme) → Pattern ts pat rest → IsPlainly ts rest)
    (inner : List Lexeme → Read (Expr Span)) (Inner : List Lexeme → Expr Span → List Lexeme → Type 0) (exact : Exact inner Inner ends_expression)
    (begins : (ts : List Lexeme) (a : Expr Span) (rest : List Lexeme) → Inner ts a rest → Begins ts) (passes : (ts : List Lexeme) (a : Expr Span) (rest : List Lexeme) → Inner ts a rest → Passes ts rest)
    (lower : List Lexeme → Read (List (Local Span))) (Lower : List Lexeme → List (Local Span) → List Lexeme → Type 0) (bound : Exact lower Lower always)
    (below : List Lexeme → Read (Expr Span)) (Below : List Lexeme → Expr Span → List Lexeme → Type 0) (below_exact : Exact below Below ends_expression)
    (parts_of : (ts : List Lexeme) (a : Expr Span) (rest : List Lexeme) → Inner ts a rest → sees m.Let ts ≡ true → LetParts Lower Below ts a rest)
    (of_parts : (ts : List Lexeme) (a : Expr Span) (rest : List Lexeme) → LetParts Lower Below ts a rest → Inner ts a rest) where
  bind_sound : (ts : List Lexeme) (q : Stmt Span × List Lexeme) → bind_at pattern inner lower below ts ≡ Some q → IsStatement Pattern Inner Lower ts q.0 q.1
  unfolding bind_at
  bind_sound ts q h =
      let a = bind_some (pattern ts) _ q h in
      let x = bind_some (after m.FromArrow a.0.1) _ q a.2 in
      let c = bind_some (inner x.0) _ q x.2 in
      moved (λ z. IsStatement Pattern Inner Lower ts z.0 z.1) _ q c.2
      (a_bind (next_spot a.0.1) ts x.0 c.0.1 a.0.0 c.0.0 (subst (Pattern ts a.0.0) (after_is m.FromArrow a.0.1 x.0 x.1) (pats_exact.sound ts a.0 a.1)) (exact.sound x.0 c.0 c.1))

  let_sound : (ts : List Lexeme) (q : Stmt Span × List Lexeme) → sees m.Let ts ≡ true → let_statement_at pattern inner lower below ts ≡ Some q → IsStatement Pattern Inner Lower ts q.0 q.1
  unfolding let_statement_at
  let_sound ts q b h =
      let a = bind_some (lower (drop 1 ts)) _ q h in
      let all = bound.sound (drop 1 ts) a.0 a.1 in
      elim (chosen (sees m.In a.0.1) _ _ _ a.2) [
        | inl k ↦ let c = bind_some (below (drop 1 a.0.1)) _ q k.1 in
            moved (λ z. IsStatement Pattern Inner Lower ts z.0 z.1) _ q c.2
            (a_run ts c.0.1 (e.Let (span_of ts c.0.1) a.0.0 c.0.0)
            (of_parts ts (e.Let (span_of ts c.0.1) a.0.0 c.0.0) c.0.1
            (subst (λ z. LetParts Lower Below z (e.Let (span_of ts c.0.1) a.0.0 c.0.0) c.0.1) (sym (seen_is m.Let ts b))
            (let_parts (next_spot ts) (next_spot a.0.1) (drop 1 ts) (drop 1 a.0.1) c.0.1 a.0.0 c.0.0 (subst (Lower (drop 1 ts) a.0.0) (seen_is m.In a.0.1 k.0) all) (below_exact.sound (drop 1 a.0.1) c.0 c.1)))))
        | inr k ↦ moved (λ z. IsStatement Pattern Inner Lower ts z.0 z.1) _ q k.1
            (subst (λ z. IsStatement Pattern Inner Lower z (s.Let (span_of ts a.0.1) a.0.0) a.0.1) (sym (seen_is m.Let ts b)) (a_let_statement (next_spot ts) (drop 1 ts) a.0.1 a.0.0 all))
      ]

  run_sound : (ts : List Lexeme) (q : Stmt Span × List Lexeme) → run_at pattern inner lower below ts ≡ Some q → IsStatement Pattern Inner Lower ts q.0 q.1
  unfolding run_at
  run_sound ts q h = let a = bind_some (inner ts) _ q h in moved (λ z. IsStatement Pattern Inner Lower ts z.0 z.1) _ q a.2 (a_run ts a.0.1 a.0.0 (exact.sound ts a.0 a.1))

  statement_sound : (ts : List Lexeme) (q : Stmt Span × List Lexeme) → statement_at pattern inner lower below ts ≡ Some q → IsStatement Pattern Inner Lower ts q.0 q.1
  unfolding statement_at
  statement_sound ts q h =
      elim (chosen (begins_bind ts) _ _ _ h) [
        | inl k ↦ bind_sound ts q k.1
        | inr k ↦ elim (chosen (sees m.Let ts) _ _ _ k.1) [ inl c ↦ let_sound ts q c.0 c.1 | inr c ↦ run_sound ts q c.1 ]
      ]

  bind_read : (w : Spot) (ts mid rest : List Lexeme) (pat : Pat Span) (body : Expr Span) → begins_bind ts ≡ true → pattern ts ≡ Some (pat, t.Mark w m.FromArrow ∷ mid) → inner mid ≡ Some (body, rest)
      → statement_at pattern inner lower below ts ≡ Some (s.Bind (span_of ts rest) pat body, rest)
  unfolding statement_at bind_at
  bind_read w ts mid rest pat body b h g = rw (b, h, after_mark m.FromArrow w mid, g)

  let_read : (w : Spot) (ts rest : List Lexeme) (all : List (Local Span)) → lower ts ≡ Some (all, rest) → sees m.In rest ≡ false → statement_at pattern inner lower below (t.Mark w m.Let ∷ ts) ≡ Some (s.Let (span_at w rest) all, rest)
  unfolding statement_at let_statement_at
  let_read w ts rest all h n = rw (let_no_bind w ts, same_self m.Let, h, n)

  let_run_read : (v w : Spot) (ts mid rest : List Lexeme) (all : List (Local Span)) (body : Expr Span) → lower ts ≡ Some (all, t.Mark w m.In ∷ mid) → below mid ≡ Some (body, rest)
      → statement_at pattern inner lower below (t.Mark v m.Let ∷ ts) ≡ Some (s.Run (span_at v rest) (e.Let (span_at v rest) all body), rest)
  unfolding statement_at let_statement_at
  let_run_read v w ts mid rest all body h g = rw (let_no_bind v ts, same_self m.Let, h, same_self m.In, g)

  run_read : (ts rest : List Lexeme) (body : Expr Span) → begins_bind ts ≡ false → sees m.Let ts ≡ false → inner ts ≡ Some (body, rest) → statement_at pattern inner lower below ts ≡ Some (s.Run (span_of ts rest) body, rest)
  unfolding statement_at run_at
  run_read ts rest body b n h = rw (b, n, h)

  parts_read : (ts : List Lexeme) (a : Expr Span) (rest : List Lexeme) → LetParts Lower Below ts a rest → ends_expression rest ≡ true → statement_at pattern inner lower below ts ≡ Some (s.Run (span_of ts rest) a, rest)
  parts_read _ _ _ (let_parts v w ts mid rest all body d i) x = let_run_read v w ts mid rest all body (bound.complete ts all _ d refl) (below_exact.complete mid body rest i x)

  no_bind : (ts rest : List Lexeme) → Passes ts rest → begins_bind rest ≡ false → begins_bind ts ≡ false
  no_bind ts rest (inl h) n = h
  no_bind ts rest (inr h) n = ap (sees m.FromArrow) h ∙ n

  run_complete : (ts rest : List Lexeme) (body : Expr Span) → Inner ts body rest → ends_entry rest ≡ true → (x : Bool) → sees m.Let ts ≡ x → statement_at pattern inner lower below ts ≡ Some (s.Run (span_of ts rest) body, rest)
  run_complete ts rest body d z true l = parts_read ts body rest (parts_of ts body rest d l) (entry_ends rest z).expression
  run_complete ts rest body d z false l = run_read ts rest body (no_bind ts rest (passes ts body rest d) (entry_ends rest z).no_bind) l (exact.complete ts body rest d (entry_ends rest z).expression)

  statement_complete : (ts : List Lexeme) (a : Stmt Span) (rest : List Lexeme) → IsStatement Pattern Inner Lower ts a rest → ends_entry rest ≡ true → statement_at pattern inner lower below ts ≡ Some (a, rest)
  statement_complete _ _ _ (a_bind w ts mid rest pat body d i) z =
      bind_read w ts mid rest pat body (ap (sees m.FromArrow) (plain ts pat _ d).same ∙ arrow_binds w mid) (pats_exact.complete ts pat _ d (arrow_ends w mid)) (exact.complete mid body rest i (entry_ends rest z).expression)
  statement_complete _ _ _ (a_let_statement w ts rest all d) z = let_read w ts rest all (bound.complete ts all rest d refl) (entry_ends rest z).no_in
  statement_complete _ _ _ (a_run ts rest body d) z = run_complete ts rest body d z (sees m.Let ts) refl

  statement_shorter : (ts : List Lexeme) (a : Stmt Span) (rest : List Lexeme) → IsStatement Pattern Inner Lower ts a rest → length rest < length ts
  statement_shorter _ _ _ (a_bind w ts mid rest pat body d i) = let h = pats_exact.shorter ts pat _ d in let k = exact.shorter mid body rest i in omega arith
  statement_shorter _ _ _ (a_let_statement w ts rest all d) = let h = bound.shorter ts all rest d in omega arith
  statement_shorter _ _ _ (a_run ts rest body d) = exact.shorter ts body rest d

  statement_begins : (ts : List Lexeme) (a : Stmt Span) (rest : List Lexeme) → IsStatement Pattern Inner Lower ts a rest → (sees m.ClosesBlock ts ≡ false) × (sees m.Semicolon ts ≡ false)
  unfolding same_mark
  statement_begins _ _ _ (a_bind w ts mid rest pat body d i) = let b = apat_is ts (plain ts pat _ d).begins in (b.no_block_end, b.no_semicolon)
  statement_begins _ _ _ (a_let_statement w ts rest all d) = (refl, refl)
  statement_begins _ _ _ (a_run ts rest body d) = let b = begins ts body rest d in (b.no_block_end, b.no_semicolon)

  statements_block : Exact (block_at (statement_at pattern inner lower below)) (IsBlock (IsStatement Pattern Inner Lower)) always
  statements_block =
      block_exact (statement_at pattern inner lower below) (IsStatement Pattern Inner Lower) ends_entry (record { sound = statement_sound; complete = statement_complete; shorter = statement_shorter }) statement_begins block_closes block_goes

  statements_sound : (ts : List Lexeme) (q : List (Stmt Span) × List Lexeme) → statements_at (statement_at pattern inner lower below) ts ≡ Some q → IsStatements (IsStatement Pattern Inner Lower) ts q.0 q.1
  unfolding statements_at
  statements_sound ts q h =
      let a = bind_some (block_at (statement_at pattern inner lower below) ts) _ q h in
      elim (chosen (ends_in_run a.0.0) _ _ _ a.2) [
        | inl k ↦ moved (λ z. IsStatements (IsStatement Pattern Inner Lower) ts z.0 z.1) _ q k.1 (statements ts a.0.1 a.0.0 (statements_block.sound ts a.0 a.1) k.0)
        | inr k ↦ absurd (let n : None ≡ Some q = k.1 in cc)
      ]

  statements_read : (ts rest : List Lexeme) (all : List (Stmt Span)) → block_at (statement_at pattern inner lower below) ts ≡ Some (all, rest) → ends_in_run all ≡ true → statements_at (statement_at pattern inner lower below) ts ≡ Some (all, rest)
  unfolding statements_at
  statements_read ts rest all h k = rw (h, k)

  statements_complete : (ts : List Lexeme) (all : List (Stmt Span)) (rest : List Lexeme) → IsStatements (IsStatement Pattern Inner Lower) ts all rest → always rest ≡ true → statements_at (statement_at pattern inner lower below) ts ≡ Some (all, rest)
  statements_complete _ _ _ (statements ts rest all d k) z = statements_read ts rest all (statements_block.complete ts all rest d refl) k

  statements_shorter : (ts : List Lexeme) (all : List (Stmt Span)) (rest : List Lexeme) → IsStatements (IsStatement Pattern Inner Lower) ts all rest → length rest < length ts
  statements_shorter _ _ _ (statements ts rest all d k) = statements_block.shorter ts all rest d

  pub statements_exact : Exact (statements_at (statement_at pattern inner lower below)) (IsStatements (IsStatement Pattern Inner Lower)) always
  statements_exact = record { sound = statements_sound; complete = statements_complete; shorter = statements_shorter }

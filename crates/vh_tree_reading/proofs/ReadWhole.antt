-- Processes and a whole design are read exactly, so that tokens spell one design at most.
use Rattle.std.proofs.Common.{◌≡◌, ℕ, ◌<◌, Bool, true, false, not, List, [], ◌∷◌, ◌++◌, length, Option, Some, None, refl, sym, ap, subst, ◌∙◌, arith}
use Rattle.vh_tree.specs.declared.token.Mark.TheVariants as m
use Rattle.vh_tree.specs.declared.token.Token.{Token}
use Rattle.vh_tree.specs.declared.token.Token.TheVariants as t
use Rattle.vh_tree.specs.declared.token.Side.TheVariants as side
use Rattle.vh_tree.specs.declared.stmt.VStmt.{VStmt}
use Rattle.vh_tree.specs.declared.process.Process.{Process}
use Rattle.vh_tree.specs.declared.design.Item.{Item}
use Rattle.vh_tree.specs.declared.design.Design.{Design}
use Rattle.vh_tree.specs.VToken.{marks, library_marks, entity_marks, outp_marks, architecture_marks, end_marks}
use Rattle.vh_tree.specs.Grammar.{IsSeparated, IsMany, IsStmts, IsVec, IsItem, sensitive_of, IsSensitive, a_sensitive, IsProcess, a_process, IsDesign, a_design, max_levels}
use Rattle.vh_tree.specs.Spelling.{SpellsDesign, IsSpelled, IsJudged, spelled, bytes_broken, tokens_broken, grammar_broken}
use Rattle.vh_tree.specs.Text.{all_allowed, IsText}
use Rattle.vh_tree_reading.specs.Scan.{scanned}
use Rattle.vh_tree_reading.specs.Read.{Read, same_mark, sees, after, args_at, stmts_at, choice_levels, if_whole}
use Rattle.vh_tree_reading.specs.ReadDesign.{after_all, vec_at, begins_item, items_at, sensitive_at, names_at, process_at, processes_at, ports_at, design_at, design_of, read_text}
use Rattle.vh_tree_reading.proofs.ScanSound.{bind_some, some_is, moved}
use Rattle.vh_tree_reading.proofs.ScanComplete.{scanned_sound, scanned_complete, one_reading}
use Rattle.vh_tree_reading.proofs.ReadExact.{same_self, after_is, after_mark, Exact, separated_exact}
use Rattle.vh_tree_reading.proofs.ReadExprs.{not_true}
use Rattle.vh_tree_reading.proofs.ReadStmts.{Runs, ends_stmts, stmts_level}
use Rattle.vh_tree_reading.proofs.ReadVars.{always, after_all_is, after_all_marks, many_runs, vec_exact}
use Rattle.vh_tree_reading.proofs.ReadItems.{items_runs}

-- ---- processes
sensitive_sound : (ts : List Token) (p : List ℕ × List Token) → sensitive_at ts ≡ Some p → IsSensitive ts p.0 p.1
unfolding sensitive_at
sensitive_sound [] p e = absurd (cc)
sensitive_sound (x ∷ ts) p e = let n = bind_some (sensitive_of x) _ p e in moved (λ q. IsSensitive (x ∷ ts) q.0 q.1) _ p n.2 (a_sensitive x n.0 ts n.1)

sensitive_read : (x : Token) (name : List ℕ) (rest : List Token) → sensitive_of x ≡ Some name → sensitive_at (x ∷ rest) ≡ Some (name, rest)
unfolding sensitive_at
sensitive_read x name rest e = rw e

sensitive_complete : (ts : List Token) (x : List ℕ) (rest : List Token) → IsSensitive ts x rest → always rest ≡ true → sensitive_at ts ≡ Some (x, rest)
sensitive_complete _ _ _ (a_sensitive x name rest e) s = sensitive_read x name rest e

sensitive_shorter : (ts : List Token) (x : List ℕ) (rest : List Token) → IsSensitive ts x rest → length rest < length ts
sensitive_shorter _ _ _ (a_sensitive x name rest e) = omega arith

names_exact : Exact names_at (IsSeparated m.Comma IsSensitive) (λ ts. not (sees m.Comma ts))
unfolding names_at
names_exact =
    separated_exact m.Comma sensitive_at IsSensitive always (record { sound = sensitive_sound; complete = sensitive_complete; shorter = sensitive_shorter }) (λ rest. refl) (λ ts. not (sees m.Comma ts))
    (λ rest e. not_true _ e) (λ rest e. refl)

closes_ends : (ts : List Token) → not (sees m.Comma (t.Mark m.Closes ∷ ts)) ≡ true
unfolding same_mark
closes_ends ts = refl

end_ends : (ts : List Token) → ends_stmts side.Process (t.Mark m.End ∷ ts) ≡ true
unfolding same_mark
end_ends ts = refl

module _ (levels : ℕ) where
  abbrev body_at : List Token → Read (List VStmt)
  body_at = stmts_at side.Process (args_at levels) (choice_levels side.Process levels)

  body_runs : Runs body_at (IsStmts side.Process levels) (ends_stmts side.Process)
  body_runs = stmts_level side.Process levels

  process_sound : (ts : List Token) (p : Process × List Token) → process_at levels ts ≡ Some p → IsProcess levels ts p.0 p.1
  unfolding process_at
  process_sound ts p e =
      let a = bind_some (after_all (m.Process ∷ m.Opens ∷ []) ts) _ p e in
      let n = bind_some (names_at a.0) _ p a.2 in
      let r = bind_some (after_all (m.Closes ∷ m.Begin ∷ []) n.0.1) _ p n.2 in
      let b = bind_some (body_at r.0) _ p r.2 in
      let z = bind_some (after_all (m.End ∷ m.Process ∷ m.Semicolon ∷ []) b.0.1) _ p b.2 in
      moved (λ q. IsProcess levels ts q.0 q.1) _ p z.2
      (subst (λ q. IsProcess levels q (record { sensitive = n.0.0; body = b.0.0 }) z.0) (sym (after_all_is (m.Process ∷ m.Opens ∷ []) ts a.0 a.1))
      (a_process n.0.0 b.0.0 a.0 r.0 z.0 (subst (IsSeparated m.Comma IsSensitive a.0 n.0.0) (after_all_is (m.Closes ∷ m.Begin ∷ []) n.0.1 r.0 r.1) (names_exact.sound a.0 n.0 n.1))
      (subst (IsStmts side.Process levels r.0 b.0.0) (after_all_is (m.End ∷ m.Process ∷ m.Semicolon ∷ []) b.0.1 z.0 z.1) (body_runs.sound r.0 b.0 b.1))))

  process_read : (names : List (List ℕ)) (body : List VStmt) (ts inside rest : List Token) → names_at ts ≡ Some (names, t.Mark m.Closes ∷ t.Mark m.Begin ∷ inside)
      → body_at inside ≡ Some (body, t.Mark m.End ∷ t.Mark m.Process ∷ t.Mark m.Semicolon ∷ rest)
      → process_at levels (t.Mark m.Process ∷ t.Mark m.Opens ∷ ts) ≡ Some (record { sensitive = names; body = body }, rest)
  unfolding process_at
  process_read names body ts inside rest h k =
      rw (after_all_marks (m.Process ∷ m.Opens ∷ []) ts, h, after_all_marks (m.Closes ∷ m.Begin ∷ []) inside, k, after_all_marks (m.End ∷ m.Process ∷ m.Semicolon ∷ []) rest)

  process_complete : (ts : List Token) (p : Process) (rest : List Token) → IsProcess levels ts p rest → always rest ≡ true → process_at levels ts ≡ Some (p, rest)
  process_complete _ _ _ (a_process names body ts inside rest dn db) s =
      process_read names body ts inside rest (names_exact.complete ts names _ dn (closes_ends (t.Mark m.Begin ∷ inside))) (body_runs.complete inside body _ db (end_ends (t.Mark m.Process ∷ t.Mark m.Semicolon ∷ rest)))

  process_shorter : (ts : List Token) (p : Process) (rest : List Token) → IsProcess levels ts p rest → length rest < length ts
  process_shorter _ _ _ (a_process names body ts inside rest dn db) =
      let h = names_exact.shorter ts names (t.Mark m.Closes ∷ t.Mark m.Begin ∷ inside) dn in
      let g = body_runs.shorter inside body (t.Mark m.End ∷ t.Mark m.Process ∷ t.Mark m.Semicolon ∷ rest) db in omega arith

  process_begins : (ts : List Token) (p : Process) (rest : List Token) → IsProcess levels ts p rest → sees m.Process ts ≡ true
  process_begins _ _ _ (a_process names body ts inside rest dn db) = same_self m.Process

  processes_runs : Runs (processes_at levels) (IsMany (IsProcess levels)) (λ ts. not (sees m.Process ts))
  unfolding processes_at
  processes_runs = many_runs (sees m.Process) (process_at levels) (IsProcess levels) (record { sound = process_sound; complete = process_complete; shorter = process_shorter }) process_begins

-- ---- ports
data IsPorts : List Token → ℕ × ℕ → List Token → Type 0 where
  the_ports : (inp outp : ℕ) (first second rest : List Token) → IsVec first inp (marks outp_marks ++ second) → IsVec second outp (marks architecture_marks ++ rest)
      → IsPorts (marks library_marks ++ (marks entity_marks ++ first)) (inp, outp) rest

ports_sound : (ts : List Token) (p : (ℕ × ℕ) × List Token) → ports_at ts ≡ Some p → IsPorts ts p.0 p.1
unfolding ports_at
ports_sound ts p e =
    let a = bind_some (after_all library_marks ts) _ p e in
    let b = bind_some (after_all entity_marks a.0) _ p a.2 in
    let v = bind_some (vec_at b.0) _ p b.2 in
    let o = bind_some (after_all outp_marks v.0.1) _ p v.2 in
    let u = bind_some (vec_at o.0) _ p o.2 in
    let z = bind_some (after_all architecture_marks u.0.1) _ p u.2 in
    let whole : ts ≡ marks library_marks ++ (marks entity_marks ++ b.0) = after_all_is library_marks ts a.0 a.1 ∙ ap (λ q. marks library_marks ++ q) (after_all_is entity_marks a.0 b.0 b.1) in
    moved (λ q. IsPorts ts q.0 q.1) _ p z.2
    (subst (λ q. IsPorts q (v.0.0, u.0.0) z.0) (sym whole)
    (the_ports v.0.0 u.0.0 b.0 o.0 z.0 (subst (IsVec b.0 v.0.0) (after_all_is outp_marks v.0.1 o.0 o.1) (vec_exact.sound b.0 v.0 v.1))
    (subst (IsVec o.0 u.0.0) (after_all_is architecture_marks u.0.1 z.0 z.1) (vec_exact.sound o.0 u.0 u.1))))

ports_read : (inp outp : ℕ) (first second rest : List Token) → vec_at first ≡ Some (inp, marks outp_marks ++ second) → vec_at second ≡ Some (outp, marks architecture_marks ++ rest)
    → ports_at (marks library_marks ++ (marks entity_marks ++ first)) ≡ Some ((inp, outp), rest)
unfolding ports_at
ports_read inp outp first second rest h k =
    rw (after_all_marks library_marks (marks entity_marks ++ first), after_all_marks entity_marks first, h, after_all_marks outp_marks second, k, after_all_marks architecture_marks rest)

-- ---- designs
begin_no_item : (ts : List Token) → not (begins_item (t.Mark m.Begin ∷ ts)) ≡ true
unfolding same_mark
begin_no_item ts = refl

end_no_process : (ts : List Token) → not (sees m.Process (marks end_marks ++ ts)) ≡ true
unfolding same_mark end_marks
end_no_process ts = refl

module _ (levels : ℕ) where
  joins : (items : List Item) (processes : List Process) (ts declared behind rest : List Token) (w : ℕ × ℕ) → IsPorts ts w declared → IsMany (IsItem levels) declared items (t.Mark m.Begin ∷ behind)
      → IsMany (IsProcess levels) behind processes (marks end_marks ++ rest) → IsDesign levels ts (record { inp = w.0; outp = w.1; items = items; processes = processes }) rest
  joins items processes _ _ behind rest _ (the_ports inp outp first second declared d k) x p = a_design inp outp items processes first second declared behind rest d k x p

  design_sound : (ts : List Token) (p : Design × List Token) → design_at levels ts ≡ Some p → IsDesign levels ts p.0 p.1
  unfolding design_at
  design_sound ts p e =
      let w = bind_some (ports_at ts) _ p e in
      let x = bind_some (items_at levels w.0.1) _ p w.2 in
      let r = bind_some (after m.Begin x.0.1) _ p x.2 in
      let q = bind_some (processes_at levels r.0) _ p r.2 in
      let z = bind_some (after_all end_marks q.0.1) _ p q.2 in
      moved (λ y. IsDesign levels ts y.0 y.1) _ p z.2
      (joins x.0.0 q.0.0 ts w.0.1 r.0 z.0 w.0.0 (ports_sound ts w.0 w.1) (subst (IsMany (IsItem levels) w.0.1 x.0.0) (after_is m.Begin x.0.1 r.0 r.1) ((items_runs levels).sound w.0.1 x.0 x.1))
      (subst (IsMany (IsProcess levels) r.0 q.0.0) (after_all_is end_marks q.0.1 z.0 z.1) ((processes_runs levels).sound r.0 q.0 q.1)))

  design_read : (inp outp : ℕ) (items : List Item) (processes : List Process) (ts declared behind rest : List Token) → ports_at ts ≡ Some ((inp, outp), declared)
      → items_at levels declared ≡ Some (items, t.Mark m.Begin ∷ behind) → processes_at levels behind ≡ Some (processes, marks end_marks ++ rest)
      → design_at levels ts ≡ Some (record { inp = inp; outp = outp; items = items; processes = processes }, rest)
  unfolding design_at
  design_read inp outp items processes ts declared behind rest h k g = rw (h, k, after_mark m.Begin behind, g, after_all_marks end_marks rest)

  design_complete : (ts : List Token) (d : Design) (rest : List Token) → IsDesign levels ts d rest → design_at levels ts ≡ Some (d, rest)
  design_complete _ _ _ (a_design inp outp items processes first second declared behind rest di do_ dx dp) =
      design_read inp outp items processes (marks library_marks ++ (marks entity_marks ++ first)) declared behind rest
      (ports_read inp outp first second declared (vec_exact.complete first inp _ di refl) (vec_exact.complete second outp _ do_ refl))
      ((items_runs levels).complete declared items _ dx (begin_no_item behind)) ((processes_runs levels).complete behind processes _ dp (end_no_process rest))

whole_is : (ts : List Token) (a : Design) (p : Design × List Token) → IsDesign max_levels ts p.0 p.1 → if_whole p ≡ Some a → IsDesign max_levels ts a []
whole_is ts a (b, []) d e = subst (λ z. IsDesign max_levels ts z []) (some_is b a e) d
whole_is ts a (b, x ∷ rest) d e = absurd (cc)

pub design_of_sound : (ts : List Token) (d : Design) → design_of ts ≡ Some d → SpellsDesign ts d
unfolding design_of
design_of_sound ts d e = let b = bind_some (design_at max_levels ts) if_whole d e in whole_is ts d b.0 (design_sound max_levels ts b.0 b.1) b.2

pub design_of_complete : (ts : List Token) (d : Design) → SpellsDesign ts d → design_of ts ≡ Some d
unfolding design_of
design_of_complete ts d s = rw (design_complete max_levels ts d [] s)

pub one_design : (bytes : List ℕ) (a b : Design) → IsSpelled bytes a → IsSpelled bytes b → a ≡ b
one_design bytes a b s u =
    let same : u.tokens ≡ s.tokens = one_reading bytes u.tokens s.tokens u.text s.text in
    some_is a b (sym (design_of_complete s.tokens a s.tree) ∙ design_of_complete s.tokens b (subst (λ z. SpellsDesign z b) same u.tree))

-- a text whose bytes are allowed, and what reading gives
judged_tokens : (bytes : List ℕ) (ts : List Token) → all_allowed bytes ≡ true → IsText bytes ts → (o : Option Design) → o ≡ design_of ts → IsJudged bytes
judged_tokens bytes ts h d (Some design) e = spelled design (record { allowed = h; tokens = ts; text = d; tree = design_of_sound ts design (sym e) })
judged_tokens bytes ts h d None e =
    grammar_broken (record { allowed = h; tokens = ts; text = d; no_design = λ design s. let k : None ≡ Some design = e ∙ design_of_complete ts design s in cc })

judged_text : (bytes : List ℕ) → all_allowed bytes ≡ true → (o : Option (List Token)) → o ≡ scanned bytes → IsJudged bytes
judged_text bytes h (Some ts) e = judged_tokens bytes ts h (scanned_sound bytes ts (sym e)) (design_of ts) refl
judged_text bytes h None e = tokens_broken (record { allowed = h; no_tokens = λ ts d. let k : None ≡ Some ts = e ∙ scanned_complete bytes ts d in cc })

judged_bytes : (bytes : List ℕ) (b : Bool) → b ≡ all_allowed bytes → IsJudged bytes
judged_bytes bytes true e = judged_text bytes (sym e) (scanned bytes) refl
judged_bytes bytes false e = bytes_broken (sym e)

pub judged : (bytes : List ℕ) → IsJudged bytes
judged bytes = judged_bytes bytes (all_allowed bytes) refl

-- what reading gives is spelled
pub spelled_if : {bytes : List ℕ} {design : Design} → all_allowed bytes ≡ true → read_text bytes ≡ Some design → IsSpelled bytes design
spelled_if {bytes} {design} h e =
    let b = bind_some (scanned bytes) design_of design e in
    record { allowed = h; tokens = b.0; text = scanned_sound bytes b.0 b.1; tree = design_of_sound b.0 design b.2 }

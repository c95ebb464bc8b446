-- The canonical tokens of processes and of a whole design spell them, and so does the canonical text.
use Rattle.std.proofs.Common.{◌≡◌, ℕ, List, [], ◌∷◌, ◌++◌, map, sym, subst, append_assoc, append-nil}
use Rattle.vh_tree.specs.declared.token.Mark.TheVariants as m
use Rattle.vh_tree.specs.declared.token.Token.{Token}
use Rattle.vh_tree.specs.declared.token.Token.TheVariants as t
use Rattle.vh_tree.specs.declared.token.Side.TheVariants as side
use Rattle.vh_tree.specs.declared.process.Process.{Process}
use Rattle.vh_tree.specs.declared.design.Item.{Item}
use Rattle.vh_tree.specs.declared.design.Design.{Design}
use Rattle.vh_tree.specs.VToken.{name_token, marks, library_marks, entity_marks, outp_marks, architecture_marks, end_marks}
use Rattle.vh_tree.specs.Grammar.{IsSeparated, IsMany, IsItem, IsSensitive, a_sensitive, IsProcess, a_process, IsDesign, a_design, max_levels}
use Rattle.vh_tree.specs.Spelling.{IsSpelled}
use Rattle.vh_tree.specs.Canonical.{joined, stmts_tokens, vec_tokens, item_tokens, names_tokens, process_tokens, head_tokens, design_tokens, canonical_text}
use Rattle.vh_tree_spelling.proofs.Texts.{IsToken, mark_token, AllTokens, text_tokens, spelled_text, spelled_allowed}
use Rattle.vh_tree_spelling.proofs.Names.{sensitive_is}
use Rattle.vh_tree_spelling.proofs.Again.{Again, all_both, all_behind, all_marks, separated_again, many_again}
use Rattle.vh_tree_spelling.proofs.AgainStmts.{stmts_again}
use Rattle.vh_tree_spelling.proofs.AgainDesign.{vec_again, item_again}

-- ---- processes
sensitive_once : (ts : List Token) (x : List ℕ) (rest later : List Token) → AllTokens ts → IsSensitive ts x rest → IsSensitive (name_token x ∷ [] ++ later) x later
sensitive_once _ _ _ later h (a_sensitive x name rest e) = subst (λ z. IsSensitive (z ∷ later) name later) (sensitive_is x name h.0 e) (a_sensitive x name later e)

sensitive_front : (ts : List Token) (x : List ℕ) (rest : List Token) → AllTokens ts → IsSensitive ts x rest → AllTokens (name_token x ∷ [])
sensitive_front _ _ _ h (a_sensitive x name rest e) = (subst IsToken (sensitive_is x name h.0 e) h.0, tt)

pub sensitive_behind : (ts : List Token) (x : List ℕ) (rest : List Token) → AllTokens ts → IsSensitive ts x rest → AllTokens rest
sensitive_behind _ _ _ h (a_sensitive x name rest e) = h.1

pub names_again : Again names_tokens (IsSeparated m.Comma IsSensitive)
names_again =
    let all = separated_again (λ (x : List ℕ). name_token x ∷ []) m.Comma IsSensitive (record { again = sensitive_once; front = sensitive_front; behind = sensitive_behind }) in
    record { again = all.again; front = all.front; behind = all.behind }

pub process_whole : (n b later : List Token)
    → (t.Mark m.Process ∷ t.Mark m.Opens ∷ (n ++ t.Mark m.Closes ∷ t.Mark m.Begin ∷ (b ++ t.Mark m.End ∷ t.Mark m.Process ∷ t.Mark m.Semicolon ∷ []))) ++ later
    ≡ t.Mark m.Process ∷ t.Mark m.Opens ∷ (n ++ t.Mark m.Closes ∷ t.Mark m.Begin ∷ (b ++ t.Mark m.End ∷ t.Mark m.Process ∷ t.Mark m.Semicolon ∷ later))
process_whole n b later = simp append_assoc

pub design_whole : (l e v o u a x p d later : List Token)
    → ((l ++ (e ++ (v ++ (o ++ (u ++ a))))) ++ (x ++ t.Mark m.Begin ∷ (p ++ d))) ++ later ≡ l ++ (e ++ (v ++ (o ++ (u ++ (a ++ (x ++ t.Mark m.Begin ∷ (p ++ (d ++ later))))))))
design_whole l e v o u a x p d later = simp append_assoc

module _ (levels : ℕ) where
  process_once : (ts : List Token) (p : Process) (rest later : List Token) → AllTokens ts → IsProcess levels ts p rest → IsProcess levels (process_tokens p ++ later) p later
  process_once _ _ _ later h (a_process names body ts inside rest dn db) =
      let body_again = stmts_again side.Process levels in
      let hb = names_again.behind ts names (t.Mark m.Closes ∷ t.Mark m.Begin ∷ inside) h.1.1 dn in
      let n = names_tokens names in
      let b = stmts_tokens side.Process body in
      let last = t.Mark m.End ∷ t.Mark m.Process ∷ t.Mark m.Semicolon ∷ later in
      subst (λ z. IsProcess levels z (record { sensitive = names; body = body }) later) (sym (process_whole n b later))
      (a_process names body (n ++ t.Mark m.Closes ∷ t.Mark m.Begin ∷ (b ++ last)) (b ++ last) later
      (names_again.again ts names (t.Mark m.Closes ∷ t.Mark m.Begin ∷ inside) (t.Mark m.Closes ∷ t.Mark m.Begin ∷ (b ++ last)) h.1.1 dn)
      (body_again.again inside body (t.Mark m.End ∷ t.Mark m.Process ∷ t.Mark m.Semicolon ∷ rest) last hb.1.1 db))

  process_front : (ts : List Token) (p : Process) (rest : List Token) → AllTokens ts → IsProcess levels ts p rest → AllTokens (process_tokens p)
  process_front _ _ _ h (a_process names body ts inside rest dn db) =
      let body_again = stmts_again side.Process levels in
      let hb = names_again.behind ts names (t.Mark m.Closes ∷ t.Mark m.Begin ∷ inside) h.1.1 dn in (
        mark_token m.Process,
        (
          mark_token m.Opens,
          all_both (names_tokens names) _ (names_again.front ts names _ h.1.1 dn) (
            mark_token m.Closes,
            (
              mark_token m.Begin,
              all_both (stmts_tokens side.Process body) _ (body_again.front inside body _ hb.1.1 db)
                  (mark_token m.End, (mark_token m.Process, (mark_token m.Semicolon, tt))),
            ),
          ),
        ),
      )

  pub process_behind : (ts : List Token) (p : Process) (rest : List Token) → AllTokens ts → IsProcess levels ts p rest → AllTokens rest
  process_behind _ _ _ h (a_process names body ts inside rest dn db) =
      let body_again = stmts_again side.Process levels in
      let hb = names_again.behind ts names (t.Mark m.Closes ∷ t.Mark m.Begin ∷ inside) h.1.1 dn in
      let k = body_again.behind inside body (t.Mark m.End ∷ t.Mark m.Process ∷ t.Mark m.Semicolon ∷ rest) hb.1.1 db in
      k.1.1.1

  pub processes_again : Again (λ (ps : List Process). joined (map process_tokens ps)) (IsMany (IsProcess levels))
  processes_again = many_again process_tokens (IsProcess levels) (record { again = process_once; front = process_front; behind = process_behind })

  pub items_again : Again (λ (xs : List Item). joined (map item_tokens xs)) (IsMany (IsItem levels))
  items_again = many_again item_tokens (IsItem levels) (item_again levels)

  -- ---- the whole
  design_once : (ts : List Token) (d : Design) (rest later : List Token) → AllTokens ts → IsDesign levels ts d rest → IsDesign levels (design_tokens d ++ later) d later
  unfolding head_tokens
  design_once _ _ _ later h (a_design inp outp items processes first second inner behind rest di do_ dx dp) =
      let h1 = all_behind (marks entity_marks) first (all_behind (marks library_marks) _ h) in
      let h2 = all_behind (marks outp_marks) second (vec_again.behind first inp _ h1 di) in
      let h3 = all_behind (marks architecture_marks) inner (vec_again.behind second outp _ h2 do_) in
      let h4 = items_again.behind inner items (t.Mark m.Begin ∷ behind) h3 dx in
      let x = joined (map item_tokens items) in
      let p = joined (map process_tokens processes) in
      let inner' = x ++ t.Mark m.Begin ∷ (p ++ (marks end_marks ++ later)) in
      let second' = vec_tokens outp ++ (marks architecture_marks ++ inner') in
      let first' = vec_tokens inp ++ (marks outp_marks ++ second') in
      subst (λ z. IsDesign levels z (record { inp = inp; outp = outp; items = items; processes = processes }) later)
      (sym (design_whole (marks library_marks) (marks entity_marks) (vec_tokens inp) (marks outp_marks) (vec_tokens outp) (marks architecture_marks) x p (marks end_marks) later))
      (a_design inp outp items processes first' second' inner' (p ++ (marks end_marks ++ later)) later
      (vec_again.again first inp _ (marks outp_marks ++ second') h1 di)
      (vec_again.again second outp _ (marks architecture_marks ++ inner') h2 do_)
      (items_again.again inner items (t.Mark m.Begin ∷ behind) (t.Mark m.Begin ∷ (p ++ (marks end_marks ++ later))) h3 dx)
      (processes_again.again behind processes (marks end_marks ++ rest) (marks end_marks ++ later) h4.1 dp))

  design_front : (ts : List Token) (d : Design) (rest : List Token) → AllTokens ts → IsDesign levels ts d rest → AllTokens (design_tokens d)
  unfolding head_tokens
  design_front _ _ _ h (a_design inp outp items processes first second inner behind rest di do_ dx dp) =
      let h1 = all_behind (marks entity_marks) first (all_behind (marks library_marks) _ h) in
      let h2 = all_behind (marks outp_marks) second (vec_again.behind first inp _ h1 di) in
      let h3 = all_behind (marks architecture_marks) inner (vec_again.behind second outp _ h2 do_) in
      let h4 = items_again.behind inner items (t.Mark m.Begin ∷ behind) h3 dx in
      let front : AllTokens (marks library_marks ++ (marks entity_marks ++ (vec_tokens inp ++ (marks outp_marks ++ (vec_tokens outp ++ marks architecture_marks))))) =
      all_both (marks library_marks) _ (all_marks library_marks)
      (all_both (marks entity_marks) _ (all_marks entity_marks)
      (all_both (vec_tokens inp) _ (vec_again.front first inp _ h1 di)
      (all_both (marks outp_marks) _ (all_marks outp_marks)
      (all_both (vec_tokens outp) (marks architecture_marks) (vec_again.front second outp _ h2 do_) (all_marks architecture_marks))))) in
      all_both (marks library_marks ++ (marks entity_marks ++ (vec_tokens inp ++ (marks outp_marks ++ (vec_tokens outp ++ marks architecture_marks))))) _ front
      (all_both (joined (map item_tokens items)) _ (items_again.front inner items (t.Mark m.Begin ∷ behind) h3 dx)
      (mark_token m.Begin, all_both (joined (map process_tokens processes)) (marks end_marks) (processes_again.front behind processes (marks end_marks ++ rest) h4.1 dp) (all_marks end_marks)))

-- where a text spells a design, its canonical text spells it
pub canonical_again : (bytes : List ℕ) (design : Design) → IsSpelled bytes design → IsSpelled (canonical_text design) design
canonical_again bytes design s =
    let h = text_tokens s.text in
    let all = design_front max_levels s.tokens design [] h s.tree in
    record {
      allowed = spelled_allowed (design_tokens design) all;
      tokens = design_tokens design;
      text = spelled_text (design_tokens design) all;
      tree = subst (λ z. IsDesign max_levels z design []) (append-nil (design_tokens design)) (design_once max_levels s.tokens design [] [] h s.tree);
    }

-- Local declarations are read exactly, where what stands inside them is.
use Rattle.std.proofs.Common.{◌≡◌, ℕ, ◌<◌, Bool, true, false, not, ◌||◌, ◌&&◌, List, [], ◌∷◌, length, drop, Some, None, refl, sym, ap, subst, ◌∙◌, arith, ◌⊎◌, inl, inr}
use Rattle.rw_base.specs.declared.place.Span.{Span}
use Rattle.rw_tree.specs.declared.types.Written.{Written}
use Rattle.rw_tree.specs.declared.pattern.Pat.{Pat}
use Rattle.rw_tree.specs.declared.pattern.Pat.TheVariants as p
use Rattle.rw_tree.specs.declared.expr.Expr.{Expr}
use Rattle.rw_tree.specs.declared.clause.Alt.{Alt}
use Rattle.rw_tree.specs.declared.clause.Rhs.{Rhs}
use Rattle.rw_tree.specs.declared.clause.Local.{Local}
use Rattle.rw_tree.specs.declared.clause.Local.TheVariants as l
use Rattle.rw_parser_grammar.specs.declared.item.Bound.{Bound}
use Rattle.rw_parser_grammar.specs.declared.item.Bound.TheVariants as b
use Rattle.rw_parser_grammar.specs.declared.lexeme.Mark.TheVariants as m
use Rattle.rw_parser_grammar.specs.declared.lexeme.Spot.{Spot}
use Rattle.rw_parser_grammar.specs.declared.lexeme.Lexeme.{Lexeme}
use Rattle.rw_parser_grammar.specs.declared.lexeme.Lexeme.TheVariants as t
use Rattle.rw_parser_grammar.specs.Lexemes.{next_spot, span_at, span_of}
use Rattle.rw_parser_grammar.specs.Lists.{IsSeparated, IsBlock}
use Rattle.rw_parser_grammar.specs.Names.{IsVariableName, a_name, an_operator_name, IsVariableOperator}
use Rattle.rw_parser_grammar.specs.Types.{few}
use Rattle.rw_parser_grammar.specs.Patterns.{grouped_pattern, takes_apart, IsApat, IsBindingPattern, binds_constructor, binds_group}
use Rattle.rw_parser_grammar.specs.Clauses.{IsLeftSide, a_prefix, an_infix, IsClause, a_clause, may_be_local, IsLocal, a_local_signature, a_local_clause, a_local_pattern, local_groups, locals_of, IsLocalsOver, some_locals}
use Rattle.rw_parser_reading.specs.Read.{Read, same_mark, sees, after, separated_at, block_at, variable_at}
use Rattle.rw_parser_reading.specs.ReadTypes.{ends_type, ends_pattern, apats_at}
use Rattle.rw_parser_reading.specs.ReadNames.{begins_op, beyond}
use Rattle.rw_parser_reading.specs.ReadExpressions.{ends_expression}
use Rattle.rw_parser_reading.specs.ReadClauses.{ends_clause, ends_entry, right_side_at, where_at, opens_operator, begins_infix, ends_left_side, left_side_at, clause_at, begins_signature, begins_binding, binding_group_at, binding_built_at, binding_at, local_signature_at, local_clause_at, local_pattern_at, local_at, locals_over_at, begins_bind}
use Rattle.rw_parser_reading.proofs.ReadExact.{bind_some, chosen, moved, is_same, same_self, seen_is, after_is, after_mark, always, Exact, separated_sound, separated_read, separated_shorter, block_exact}
use Rattle.rw_parser_laws.proofs.ReadPatterns.{apats_runs}
use Rattle.rw_parser_laws.proofs.Plain.{apat_is, IsPlainly, separated_beyond, separated_begins, apats_beyond, beyond_opens, beyond_closes}
use Rattle.rw_parser_laws.proofs.ReadSides.{variable_is, operator_stands, ends_left, equal_arrow, side_exact, side_follows, where_runs, where_ends_side, left_exact, clause_exact}

-- ---- what follows an entry of a block: `;` or `}`
-- what an entry's end ends
pub record EndsAll (ts : List Lexeme) : Type 0 where
  pub clause : ends_clause ts ≡ true
  pub type : ends_type ts ≡ true
  pub expression : ends_expression ts ≡ true
  pub no_in : sees m.In ts ≡ false
  pub no_bind : begins_bind ts ≡ false

one_of : (a b : Bool) → (a || b) ≡ true → (a ≡ true) ⊎ (b ≡ true)
one_of true b h = inl refl
one_of false b h = inr h

both : (a b : Bool) → (a && b) ≡ true → (a ≡ true) × (b ≡ true)
both true b h = (refl, h)
both false b h = absurd (cc)

and_false : (a : Bool) → (a && false) ≡ false
and_false true = refl
and_false false = refl

pub entry_ends : (ts : List Lexeme) → ends_entry ts ≡ true → EndsAll ts
unfolding same_mark
entry_ends [] h = absurd (cc)
entry_ends (t.Mark w a ∷ ts) h =
    elim (one_of (same_mark a m.Semicolon) (same_mark a m.ClosesBlock) h) [
      | inl k ↦ subst (λ z. EndsAll (t.Mark w z ∷ ts)) (sym (is_same a m.Semicolon k)) (record { clause = refl; type = refl; expression = refl; no_in = refl; no_bind = refl })
      | inr k ↦ subst (λ z. EndsAll (t.Mark w z ∷ ts)) (sym (is_same a m.ClosesBlock k)) (record { clause = refl; type = refl; expression = refl; no_in = refl; no_bind = refl })
    ]
entry_ends (t.Variable w name ∷ ts) h = absurd (cc)
entry_ends (t.Constructor w name ∷ ts) h = absurd (cc)
entry_ends (t.Operator w name ∷ ts) h = absurd (cc)
entry_ends (t.Number w digits ∷ ts) h = absurd (cc)

pub block_closes : (w : Spot) (rest : List Lexeme) → ends_entry (t.Mark w m.ClosesBlock ∷ rest) ≡ true
unfolding same_mark
block_closes w rest = refl

pub block_goes : (w : Spot) (rest : List Lexeme) → ends_entry (t.Mark w m.Semicolon ∷ rest) ≡ true
unfolding same_mark
block_goes w rest = refl

comma_ends : (w : Spot) (rest : List Lexeme) → ends_pattern (t.Mark w m.Comma ∷ rest) ≡ true
unfolding same_mark
comma_ends w rest = refl

no_comma : (w : Spot) (rest : List Lexeme) → sees m.Comma (t.Mark w m.Closes ∷ rest) ≡ false
unfolding same_mark
no_comma w rest = refl

closes_ends : (w : Spot) (rest : List Lexeme) → ends_pattern (t.Mark w m.Closes ∷ rest) ≡ true
unfolding same_mark
closes_ends w rest = refl

-- ---- what begins a signature
colons_stay : (v : Spot) (xs : List Lexeme) → sees m.Colons (beyond (t.Mark v m.Colons ∷ xs)) ≡ true
unfolding same_mark
colons_stay v xs = refl

signature_beyond : (ts : List Lexeme) → begins_signature ts ≡ true → sees m.Colons (beyond ts) ≡ true
signature_beyond [] h = absurd (cc)
signature_beyond (t.Mark w a ∷ ts) h = absurd (cc)
signature_beyond (t.Variable w name ∷ ts) h = subst (λ z. sees m.Colons (beyond z) ≡ true) (sym (seen_is m.Colons ts h)) (colons_stay (next_spot ts) (drop 1 ts))
signature_beyond (t.Constructor w name ∷ ts) h = absurd (cc)
signature_beyond (t.Operator w name ∷ ts) h = absurd (cc)
signature_beyond (t.Number w digits ∷ ts) h = absurd (cc)

op_no_colons : (ts : List Lexeme) → begins_op ts ≡ true → sees m.Colons ts ≡ false
unfolding same_mark
op_no_colons [] h = absurd (cc)
op_no_colons (t.Mark w a ∷ ts) h = subst (λ z. sees m.Colons (t.Mark w z ∷ ts) ≡ false) (sym (is_same a m.Backquote h)) refl
op_no_colons (t.Variable w name ∷ ts) h = absurd (cc)
op_no_colons (t.Constructor w name ∷ ts) h = absurd (cc)
op_no_colons (t.Operator w name ∷ ts) h = refl
op_no_colons (t.Number w digits ∷ ts) h = absurd (cc)

left_no_colons : (ts : List Lexeme) → ends_left_side ts ≡ true → sees m.Colons (beyond ts) ≡ false
unfolding same_mark
left_no_colons [] h = absurd (cc)
left_no_colons (t.Mark w a ∷ ts) h =
    elim (one_of (same_mark a m.Equal) (same_mark a m.Bar) h) [
      | inl k ↦ subst (λ z. sees m.Colons (beyond (t.Mark w z ∷ ts)) ≡ false) (sym (is_same a m.Equal k)) refl
      | inr k ↦ subst (λ z. sees m.Colons (beyond (t.Mark w z ∷ ts)) ≡ false) (sym (is_same a m.Bar k)) refl
    ]
left_no_colons (t.Variable w name ∷ ts) h = absurd (cc)
left_no_colons (t.Constructor w name ∷ ts) h = absurd (cc)
left_no_colons (t.Operator w name ∷ ts) h = absurd (cc)
left_no_colons (t.Number w digits ∷ ts) h = absurd (cc)

no_signature : (ts rest : List Lexeme) → beyond ts ≡ beyond rest → sees m.Colons (beyond rest) ≡ false → begins_signature ts ≡ false
no_signature ts rest e c = go (begins_signature ts) refl
  where
    go : (x : Bool) → begins_signature ts ≡ x → x ≡ false
    go false h = refl
    go true h = absurd (let f : true ≡ false = sym (signature_beyond ts h) ∙ ap (sees m.Colons) e ∙ c in cc)

-- what a clause begins with
pub record BeginsClause (ts : List Lexeme) : Type 0 where
  pub no_signature : begins_signature ts ≡ false
  pub no_binding : (not (begins_infix ts) && begins_binding ts) ≡ false
  pub no_end : (sees m.ClosesBlock ts ≡ false) × (sees m.Semicolon ts ≡ false)

name_no_binding : (ts mid : List Lexeme) (a : Spot × List ℕ) → IsVariableName ts a mid → (begins_binding ts ≡ false) × ((sees m.ClosesBlock ts ≡ false) × (sees m.Semicolon ts ≡ false))
unfolding same_mark
name_no_binding _ _ _ (a_name w name rest) = (refl, (refl, refl))
name_no_binding _ _ _ (an_operator_name u v w name rest) = (refl, (refl, refl))

-- the name of a prefix and what stands behind it have the same beyond, where the name is bare
name_no_signature : (ts mid rest : List Lexeme) (a : Spot × List ℕ) → IsVariableName ts a mid → beyond mid ≡ beyond rest → sees m.Colons (beyond rest) ≡ false → begins_signature ts ≡ false
unfolding same_mark
name_no_signature _ _ rest _ (a_name w name mid) e c = no_signature (t.Variable w name ∷ mid) rest e c
name_no_signature _ _ rest _ (an_operator_name u v w name mid) e c = refl

module _ (pattern : List Lexeme → Read (Pat Span)) (Pattern : List Lexeme → Pat Span → List Lexeme → Type 0) (pats_exact : Exact pattern Pattern ends_pattern)
    (opens : (ts : List Lexeme) (pat : Pat Span) (rest : List Lexeme) → Pattern ts pat rest → sees m.Closes ts ≡ false)
    (plain : (ts : List Lexeme) (pat : Pat Span) (rest : List Lexeme) → Pattern ts pat rest → IsPlainly ts rest) where
  -- ---- clauses
  infix_is : (ts mid next : List Lexeme) (name : List ℕ) (left : Pat Span) → Pattern ts left mid → IsVariableOperator mid name next → begins_infix ts ≡ true
  infix_is ts mid next name left d o = rw ((plain ts left mid d).bare, (plain ts left mid d).same, (operator_stands mid name next o).0)

  left_begins : (ts : List Lexeme) (a : List ℕ × List (Pat Span)) (rest : List Lexeme) → IsLeftSide Pattern (IsApat Pattern) ts a rest → ends_left_side rest ≡ true → BeginsClause ts
  left_begins _ _ _ (a_prefix ts mid rest w name pats d ds) s =
      let n = name_no_binding ts mid (w, name) d in
      record {
        no_signature = name_no_signature ts mid rest (w, name) d (apats_beyond Pattern plain ds) (left_no_colons rest s);
        no_binding = ap (λ z. not (begins_infix ts) && z) n.0 ∙ and_false (not (begins_infix ts));
        no_end = n.1;
      }
  left_begins _ _ _ (an_infix ts mid next rest name left right d o c) s =
      let b = apat_is ts (plain ts left mid d).begins in
      record {
        no_signature = no_signature ts mid (plain ts left mid d).same (op_no_colons (beyond mid) (operator_stands mid name next o).0);
        no_binding = ap (λ z. not z && begins_binding ts) (infix_is ts mid next name left d o);
        no_end = (b.no_block_end, b.no_semicolon);
      }

  -- ---- patterns that take something apart
  group_sound : (v : Spot) (ts : List Lexeme) (q : Pat Span × List Lexeme) → binding_group_at pattern (apats_at pattern) v ts ≡ Some q → IsBindingPattern Pattern (t.Mark v m.Opens ∷ ts) q.0 q.1
  unfolding binding_group_at
  group_sound v ts q h =
      let a = bind_some (separated_at m.Comma pattern (length ts) ts) _ q h in
      let x = bind_some (after m.Closes a.0.1) _ q a.2 in
      elim (chosen (few a.0.0 && takes_apart (grouped_pattern (span_at v x.0) a.0.0)) _ _ _ x.2) [
        | inl k ↦ let f = both (few a.0.0) _ k.0 in
            moved (λ z. IsBindingPattern Pattern (t.Mark v m.Opens ∷ ts) z.0 z.1) _ q k.1
            (binds_group v (next_spot a.0.1) ts x.0 a.0.0
            (subst (IsSeparated m.Comma Pattern ts a.0.0) (after_is m.Closes a.0.1 x.0 x.1) (separated_sound m.Comma pattern Pattern ends_pattern pats_exact comma_ends (length ts) ts a.0 a.1)) f.0 f.1)
        | inr k ↦ absurd (let n : None ≡ Some q = k.1 in cc)
      ]

  built_sound : (w : Spot) (name : List ℕ) (ts : List Lexeme) (q : Pat Span × List Lexeme) → binding_built_at pattern (apats_at pattern) w name ts ≡ Some q → IsBindingPattern Pattern (t.Constructor w name ∷ ts) q.0 q.1
  unfolding binding_built_at
  built_sound w name ts q h =
      let a = bind_some (apats_at pattern ts) _ q h in
      moved (λ z. IsBindingPattern Pattern (t.Constructor w name ∷ ts) z.0 z.1) _ q a.2 (binds_constructor w name ts a.0.1 a.0.0 ((apats_runs pattern Pattern pats_exact opens).sound ts a.0 a.1))

  binding_sound : (ts : List Lexeme) (q : Pat Span × List Lexeme) → binding_at pattern (apats_at pattern) ts ≡ Some q → IsBindingPattern Pattern ts q.0 q.1
  binding_sound [] q h = absurd (cc)
  binding_sound (t.Mark w a ∷ ts) q h =
      elim (chosen (same_mark a m.Opens) _ _ _ h) [
        | inl k ↦ subst (λ z. IsBindingPattern Pattern (t.Mark w z ∷ ts) q.0 q.1) (sym (is_same a m.Opens k.0)) (group_sound w ts q k.1)
        | inr k ↦ absurd (let n : None ≡ Some q = k.1 in cc)
      ]
  binding_sound (t.Variable w name ∷ ts) q h = absurd (cc)
  binding_sound (t.Constructor w name ∷ ts) q h = built_sound w name ts q h
  binding_sound (t.Operator w name ∷ ts) q h = absurd (cc)
  binding_sound (t.Number w digits ∷ ts) q h = absurd (cc)

  built_read : (w : Spot) (name : List ℕ) (ts rest : List Lexeme) (parts : List (Pat Span)) → apats_at pattern ts ≡ Some (parts, rest) → binding_built_at pattern (apats_at pattern) w name ts ≡ Some (p.Con (span_at w rest) name parts, rest)
  unfolding binding_built_at
  built_read w name ts rest parts h = rw h

  group_read : (v w : Spot) (ts rest : List Lexeme) (parts : List (Pat Span)) → separated_at m.Comma pattern (length ts) ts ≡ Some (parts, t.Mark w m.Closes ∷ rest) → few parts ≡ true
      → takes_apart (grouped_pattern (span_at v rest) parts) ≡ true → binding_at pattern (apats_at pattern) (t.Mark v m.Opens ∷ ts) ≡ Some (grouped_pattern (span_at v rest) parts, rest)
  unfolding binding_group_at
  group_read v w ts rest parts h f k = rw (same_self m.Opens, h, after_mark m.Closes w rest, f, k)

  binding_complete : (ts : List Lexeme) (pat : Pat Span) (rest : List Lexeme) → IsBindingPattern Pattern ts pat rest → ends_pattern rest ≡ true → binding_at pattern (apats_at pattern) ts ≡ Some (pat, rest)
  binding_complete _ _ _ (binds_constructor w name ts rest parts ds) s = built_read w name ts rest parts ((apats_runs pattern Pattern pats_exact opens).complete ts parts rest ds s)
  binding_complete _ _ _ (binds_group v w ts rest parts d f k) s =
      group_read v w ts rest parts (separated_read m.Comma pattern Pattern ends_pattern pats_exact comma_ends d (length ts) (omega arith) (no_comma w rest) (closes_ends w rest)) f k

  binding_shorter : (ts : List Lexeme) (pat : Pat Span) (rest : List Lexeme) → IsBindingPattern Pattern ts pat rest → length rest < length ts
  binding_shorter _ _ _ (binds_constructor w name ts rest parts ds) = let h = (apats_runs pattern Pattern pats_exact opens).shorter ts parts rest ds in omega arith
  binding_shorter _ _ _ (binds_group v w ts rest parts d f k) = let h = separated_shorter m.Comma pattern Pattern ends_pattern pats_exact comma_ends d in omega arith

  pub binding_exact : Exact (binding_at pattern (apats_at pattern)) (IsBindingPattern Pattern) ends_pattern
  binding_exact = record { sound = binding_sound; complete = binding_complete; shorter = binding_shorter }

  -- what such a pattern begins with, before a right side
  binding_begins : (ts : List Lexeme) (pat : Pat Span) (rest : List Lexeme) → IsBindingPattern Pattern ts pat rest
      → (beyond ts ≡ beyond rest) × ((begins_binding ts ≡ true) × ((begins_signature ts ≡ false) × ((sees m.ClosesBlock ts ≡ false) × (sees m.Semicolon ts ≡ false))))
  unfolding same_mark
  binding_begins _ _ _ (binds_constructor w name ts rest parts ds) = (apats_beyond Pattern plain ds, (refl, (refl, (refl, refl))))
  binding_begins _ _ _ (binds_group v w ts rest parts d f k) =
      (beyond_opens v ts ∙ separated_beyond Pattern plain d ∙ beyond_closes w rest, (ap not (separated_begins Pattern plain d), (refl, (refl, refl))))

  binding_no_infix : (ts rest : List Lexeme) → beyond ts ≡ beyond rest → ends_left_side rest ≡ true → begins_infix ts ≡ false
  binding_no_infix ts rest e s = ap (λ z. not (opens_operator ts) && z) (ap begins_op e ∙ (ends_left rest s).0) ∙ and_false (not (opens_operator ts))

  module _ (signature : List Lexeme → Read Written) (Signature : List Lexeme → Written → List Lexeme → Type 0) (sigs : Exact signature Signature ends_type)
      (inner : List Lexeme → Read (Expr Span)) (Inner : List Lexeme → Expr Span → List Lexeme → Type 0) (exact : Exact inner Inner ends_expression)
      (locals : List Lexeme → Read (List (Local Span))) (Locals : List Lexeme → List (Local Span) → List Lexeme → Type 0) (bound : Exact locals Locals always) where
    abbrev left_at : List Lexeme → Read (List ℕ × List (Pat Span))
    left_at = left_side_at pattern (apats_at pattern)

    abbrev Left : List Lexeme → List ℕ × List (Pat Span) → List Lexeme → Type 0
    Left = IsLeftSide Pattern (IsApat Pattern)

    abbrev pub clause_reader : List Lexeme → Read (List ℕ × Alt Span)
    clause_reader = clause_at (left_side_at pattern (apats_at pattern)) inner locals

    abbrev pub ClauseOf : List Lexeme → List ℕ × Alt Span → List Lexeme → Type 0
    ClauseOf = IsClause (IsLeftSide Pattern (IsApat Pattern)) Inner Locals

    pub clauses_exact : Exact clause_reader ClauseOf ends_clause
    clauses_exact =
        clause_exact left_at Left (left_exact pattern Pattern pats_exact plain (apats_at pattern) (IsApat Pattern) (apats_runs pattern Pattern pats_exact opens) (λ ts pats rest ds. apats_beyond Pattern plain ds))
        inner Inner exact locals Locals bound

    clause_begins : (ts : List Lexeme) (a : List ℕ × Alt Span) (rest : List Lexeme) → ClauseOf ts a rest → BeginsClause ts
    clause_begins _ _ _ (a_clause ts mid next rest name pats rhs wheres d i w) = left_begins ts (name, pats) mid d (side_follows inner Inner exact mid rhs next i)

    abbrev one_at : List Lexeme → Read Bound
    one_at = local_at (binding_at pattern (apats_at pattern)) signature clause_reader inner locals

    abbrev One : List Lexeme → Bound → List Lexeme → Type 0
    One = IsLocal (IsBindingPattern Pattern) Signature ClauseOf Inner Locals

    signature_sound : (ts : List Lexeme) (q : Bound × List Lexeme) → local_signature_at (binding_at pattern (apats_at pattern)) signature clause_reader inner locals ts ≡ Some q → One ts q.0 q.1
    unfolding local_signature_at
    signature_sound ts q h =
        let v = bind_some (variable_at ts) _ q h in
        let x = bind_some (after m.Colons v.0.1) _ q v.2 in
        let a = bind_some (signature x.0) _ q x.2 in
        let whole : ts ≡ t.Variable v.0.0.0 v.0.0.1 ∷ t.Mark (next_spot v.0.1) m.Colons ∷ x.0 = variable_is ts v.0 v.1 ∙ ap (λ z. t.Variable v.0.0.0 v.0.0.1 ∷ z) (after_is m.Colons v.0.1 x.0 x.1) in
        subst (λ z. One z q.0 q.1) (sym whole)
        (moved (λ z. One (t.Variable v.0.0.0 v.0.0.1 ∷ t.Mark (next_spot v.0.1) m.Colons ∷ x.0) z.0 z.1) _ q (subst (λ z. Some (b.Whole (l.Sig (span_of z a.0.1) v.0.0.1 a.0.0), a.0.1) ≡ Some q) whole a.2)
        (a_local_signature v.0.0.0 (next_spot v.0.1) v.0.0.1 x.0 a.0.1 a.0.0 (sigs.sound x.0 a.0 a.1)))

    clause_entry_sound : (ts : List Lexeme) (q : Bound × List Lexeme) → local_clause_at (binding_at pattern (apats_at pattern)) signature clause_reader inner locals ts ≡ Some q → One ts q.0 q.1
    unfolding local_clause_at
    clause_entry_sound ts q h =
        let a = bind_some (clause_reader ts) _ q h in
        elim (chosen (may_be_local a.0.0.0) _ _ _ a.2) [
          | inl k ↦ moved (λ z. One ts z.0 z.1) _ q k.1 (a_local_clause ts a.0.1 a.0.0.0 a.0.0.1 (clauses_exact.sound ts a.0 a.1) k.0)
          | inr k ↦ absurd (let n : None ≡ Some q = k.1 in cc)
        ]

    pattern_entry_sound : (ts : List Lexeme) (q : Bound × List Lexeme) → local_pattern_at (binding_at pattern (apats_at pattern)) signature clause_reader inner locals ts ≡ Some q → One ts q.0 q.1
    unfolding local_pattern_at
    pattern_entry_sound ts q h =
        let a = bind_some (binding_at pattern (apats_at pattern) ts) _ q h in
        let c = bind_some (right_side_at m.Equal inner a.0.1) _ q a.2 in
        let d = bind_some (where_at locals c.0.1) _ q c.2 in
        moved (λ z. One ts z.0 z.1) _ q d.2
        (a_local_pattern ts a.0.1 c.0.1 d.0.1 a.0.0 c.0.0 d.0.0 (binding_sound ts a.0 a.1) ((side_exact m.Equal equal_arrow inner Inner exact).sound a.0.1 c.0 c.1) ((where_runs locals Locals bound).sound c.0.1 d.0 d.1))

    local_sound : (ts : List Lexeme) (q : Bound × List Lexeme) → one_at ts ≡ Some q → One ts q.0 q.1
    unfolding local_at
    local_sound ts q h =
        elim (chosen (begins_signature ts) _ _ _ h) [
          | inl k ↦ signature_sound ts q k.1
          | inr k ↦ elim (chosen (not (begins_infix ts) && begins_binding ts) _ _ _ k.1) [ inl c ↦ pattern_entry_sound ts q c.1 | inr c ↦ clause_entry_sound ts q c.1 ]
        ]

    signature_begins : (v w : Spot) (name : List ℕ) (ts : List Lexeme) → begins_signature (t.Variable v name ∷ t.Mark w m.Colons ∷ ts) ≡ true
    signature_begins v w name ts = same_self m.Colons

    signature_read : (v w : Spot) (name : List ℕ) (ts rest : List Lexeme) (type : Written) → signature ts ≡ Some (type, rest)
        → one_at (t.Variable v name ∷ t.Mark w m.Colons ∷ ts) ≡ Some (b.Whole (l.Sig (span_at v rest) name type), rest)
    unfolding local_at local_signature_at
    signature_read v w name ts rest type h = rw (signature_begins v w name ts, after_mark m.Colons w ts, h)

    clause_entry_read : (ts rest : List Lexeme) (name : List ℕ) (row : Alt Span) → BeginsClause ts → clause_reader ts ≡ Some ((name, row), rest) → may_be_local name ≡ true → one_at ts ≡ Some (b.Clause name row, rest)
    unfolding local_at local_clause_at
    clause_entry_read ts rest name row c h k = rw (c.no_signature, c.no_binding, h, k)

    pattern_entry_read : (ts mid next rest : List Lexeme) (pat : Pat Span) (rhs : Rhs Span) (wheres : List (Local Span)) → begins_signature ts ≡ false → begins_infix ts ≡ false → begins_binding ts ≡ true
        → binding_at pattern (apats_at pattern) ts ≡ Some (pat, mid) → right_side_at m.Equal inner mid ≡ Some (rhs, next) → where_at locals next ≡ Some (wheres, rest)
        → one_at ts ≡ Some (b.Whole (l.Pattern (span_of ts rest) (record { at = span_of ts rest; pats = pat ∷ []; rhs = rhs; wheres = wheres })), rest)
    unfolding local_at local_pattern_at
    pattern_entry_read ts mid next rest pat rhs wheres a c d h g k = rw (a, c, d, h, g, k)

    local_complete : (ts : List Lexeme) (a : Bound) (rest : List Lexeme) → One ts a rest → ends_entry rest ≡ true → one_at ts ≡ Some (a, rest)
    local_complete _ _ _ (a_local_signature v w name ts rest type d) s = signature_read v w name ts rest type (sigs.complete ts type rest d (entry_ends rest s).type)
    local_complete _ _ _ (a_local_clause ts rest name row d k) s = clause_entry_read ts rest name row (clause_begins ts (name, row) rest d) (clauses_exact.complete ts (name, row) rest d (entry_ends rest s).clause) k
    local_complete _ _ _ (a_local_pattern ts mid next rest pat rhs wheres d i w) s =
        let f = binding_begins ts pat mid d in
        let g = side_follows inner Inner exact mid rhs next i in
        pattern_entry_read ts mid next rest pat rhs wheres f.1.1.0 (binding_no_infix ts mid f.0 g) f.1.0 (binding_complete ts pat mid d (ends_left mid g).1)
        ((side_exact m.Equal equal_arrow inner Inner exact).complete mid rhs next i (where_ends_side locals Locals bound next wheres rest w (entry_ends rest s).clause))
        ((where_runs locals Locals bound).complete next wheres rest w (entry_ends rest s).clause)

    local_shorter : (ts : List Lexeme) (a : Bound) (rest : List Lexeme) → One ts a rest → length rest < length ts
    local_shorter _ _ _ (a_local_signature v w name ts rest type d) = let h = sigs.shorter ts type rest d in omega arith
    local_shorter _ _ _ (a_local_clause ts rest name row d k) = clauses_exact.shorter ts (name, row) rest d
    local_shorter _ _ _ (a_local_pattern ts mid next rest pat rhs wheres d i w) =
        let h = binding_shorter ts pat mid d in let k = (side_exact m.Equal equal_arrow inner Inner exact).shorter mid rhs next i in let j = (where_runs locals Locals bound).shorter next wheres rest w in omega arith

    local_begins : (ts : List Lexeme) (a : Bound) (rest : List Lexeme) → One ts a rest → (sees m.ClosesBlock ts ≡ false) × (sees m.Semicolon ts ≡ false)
    local_begins _ _ _ (a_local_signature v w name ts rest type d) = (refl, refl)
    local_begins _ _ _ (a_local_clause ts rest name row d k) = (clause_begins ts (name, row) rest d).no_end
    local_begins _ _ _ (a_local_pattern ts mid next rest pat rhs wheres d i w) = (binding_begins ts pat mid d).1.1.1

    locals_block : Exact (block_at one_at) (IsBlock One) always
    locals_block = block_exact one_at One ends_entry (record { sound = local_sound; complete = local_complete; shorter = local_shorter }) local_begins block_closes block_goes

    locals_sound : (ts : List Lexeme) (q : List (Local Span) × List Lexeme) → locals_over_at one_at ts ≡ Some q → IsLocalsOver One ts q.0 q.1
    unfolding locals_over_at
    locals_sound ts q h =
        let a = bind_some (block_at one_at ts) _ q h in
        moved (λ z. IsLocalsOver One ts z.0 z.1) _ q a.2 (some_locals ts a.0.1 a.0.0 (locals_block.sound ts a.0 a.1))

    locals_read : (ts rest : List Lexeme) (entries : List Bound) → block_at one_at ts ≡ Some (entries, rest) → locals_over_at one_at ts ≡ Some (locals_of (local_groups entries), rest)
    unfolding locals_over_at
    locals_read ts rest entries h = rw h

    locals_complete : (ts : List Lexeme) (all : List (Local Span)) (rest : List Lexeme) → IsLocalsOver One ts all rest → always rest ≡ true → locals_over_at one_at ts ≡ Some (all, rest)
    locals_complete _ _ _ (some_locals ts rest entries d) s = locals_read ts rest entries (locals_block.complete ts entries rest d refl)

    locals_shorter : (ts : List Lexeme) (all : List (Local Span)) (rest : List Lexeme) → IsLocalsOver One ts all rest → length rest < length ts
    locals_shorter _ _ _ (some_locals ts rest entries d) = locals_block.shorter ts entries rest d

    pub locals_exact : Exact (locals_over_at (local_at (binding_at pattern (apats_at pattern)) signature clause_reader inner locals)) (IsLocalsOver (IsLocal (IsBindingPattern Pattern) Signature ClauseOf Inner Locals)) always
    locals_exact = record { sound = locals_sound; complete = locals_complete; shorter = locals_shorter }

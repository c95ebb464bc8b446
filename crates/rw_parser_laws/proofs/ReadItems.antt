-- Items are read exactly.
use Rattle.std.proofs.Common.{◌≡◌, ℕ, zero, suc, ◌<◌, Bool, true, false, ◌||◌, ◌&&◌, List, [], ◌∷◌, length, Option, Some, None, refl, sym, ap, subst, ◌∙◌, ◌⊎◌, inl, inr}
use Rattle.rw_base.specs.declared.place.Span.{Span}
use Rattle.rw_tree.specs.declared.pattern.Pat.{Pat}
use Rattle.rw_tree.specs.declared.clause.Alt.{Alt}
use Rattle.rw_tree.specs.declared.decl.Side.{Side}
use Rattle.rw_tree.specs.declared.decl.Decl.{Decl}
use Rattle.rw_parser_grammar.specs.declared.item.Item.{Item}
use Rattle.rw_parser_grammar.specs.declared.item.Item.TheVariants as i
use Rattle.rw_parser_grammar.specs.declared.lexeme.Mark.{Mark}
use Rattle.rw_parser_grammar.specs.declared.lexeme.Mark.TheVariants as m
use Rattle.rw_parser_grammar.specs.declared.lexeme.Spot.{Spot}
use Rattle.rw_parser_grammar.specs.declared.lexeme.Lexeme.{Lexeme}
use Rattle.rw_parser_grammar.specs.declared.lexeme.Lexeme.TheVariants as t
use Rattle.rw_parser_grammar.specs.Lists.{IsSeparated, the_last, and_more, IsMany, no_more, one_more}
use Rattle.rw_parser_grammar.specs.Names.{IsVariableName, a_name, an_operator_name, IsVariableOperator, a_symbol_operator, a_named_operator}
use Rattle.rw_parser_grammar.specs.Types.{IsType}
use Rattle.rw_parser_grammar.specs.Patterns.{IsApat, a_variable_pattern, a_wildcard, a_constant_pattern, a_unit_pattern, a_pattern_group, IsPatternOver, an_apat, a_constructor_pattern, IsPattern}
use Rattle.rw_parser_grammar.specs.Clauses.{IsLeftSide, a_prefix, an_infix, IsClause, a_clause, IsExpression, IsLocals}
use Rattle.rw_parser_grammar.specs.Declarations.{IsImport, an_import, IsData, a_data, a_newtype, side_of, IsFixity, a_fixity, IsSignedName, a_signed_name, IsSignature, a_signature}
use Rattle.rw_parser_grammar.specs.Declarations.{an_import_item, a_data_item, a_fixity_item, a_signature_item, a_clause_item}
use Rattle.rw_parser_grammar.specs.Grammar.{IsItem}
use Rattle.rw_parser_reading.specs.Read.{◌>>=◌, Read, same_mark, sees}
use Rattle.rw_parser_reading.specs.ReadTypes.{begins_apat, type_at}
use Rattle.rw_parser_reading.specs.ReadClauses.{ends_entry, opens_operator, ends_left_side, variable_name_at}
use Rattle.rw_parser_reading.specs.ReadLevels.{clause_over, expression_at, locals_at}
use Rattle.rw_parser_reading.specs.ReadDeclarations.{import_at, data_or_newtype_at, fixity_at, signature_at, goes_signed, begins_signed, begins_fixity, whole_item, named_item_at, item_over_at, item_at}
use Rattle.rw_parser_reading.proofs.ReadExact.{bind_some, chosen, moved, is_same, same_self, Exact}
use Rattle.rw_parser_laws.proofs.ReadTypes.{type_level}
use Rattle.rw_parser_laws.proofs.Plain.{pattern_plain, apat_plain}
use Rattle.rw_parser_reading.proofs.ReadNames.{name_exact}
use Rattle.rw_parser_laws.proofs.ReadSides.{side_follows}
use Rattle.rw_parser_laws.proofs.ReadData.{data_exact}
use Rattle.rw_parser_laws.proofs.ReadHeads.{import_exact, fixity_exact}
use Rattle.rw_parser_laws.proofs.ReadSignatures.{type_passes, signature_exact}
use Rattle.rw_parser_laws.proofs.ReadLocals.{entry_ends}
use Rattle.rw_parser_laws.proofs.ReadLevels.{level, clause_level}

one_of : (a b : Bool) → (a || b) ≡ true → (a ≡ true) ⊎ (b ≡ true)
one_of true b h = inl refl
one_of false b h = inr h

-- ---- what begins no declaration with a reserved word
pub record NoWord (ts : List Lexeme) : Type 0 where
  pub no_import : sees m.Import ts ≡ false
  pub no_data : (sees m.Data ts || sees m.Newtype ts) ≡ false
  pub no_fixity : begins_fixity ts ≡ false

name_no_word : (ts : List Lexeme) (a : Spot × List ℕ) (rest : List Lexeme) → IsVariableName ts a rest → NoWord ts
unfolding same_mark
name_no_word _ _ _ (a_name w name rest) = record { no_import = refl; no_data = refl; no_fixity = refl }
name_no_word _ _ _ (an_operator_name u v w name rest) = record { no_import = refl; no_data = refl; no_fixity = refl }

-- and neither a comma nor `::`
pub record NoSign (ts : List Lexeme) : Type 0 where
  pub no_comma : sees m.Comma ts ≡ false
  pub no_colons : sees m.Colons ts ≡ false

apat_no_word : (ts : List Lexeme) → begins_apat ts ≡ true → NoWord ts × NoSign ts
unfolding same_mark
apat_no_word [] h = absurd (cc)
apat_no_word (t.Mark w a ∷ ts) h =
    elim (one_of (same_mark a m.Opens) (same_mark a m.Underscore) h) [
      | inl k ↦ subst (λ z. NoWord (t.Mark w z ∷ ts) × NoSign (t.Mark w z ∷ ts)) (sym (is_same a m.Opens k)) (record { no_import = refl; no_data = refl; no_fixity = refl }, record { no_comma = refl; no_colons = refl })
      | inr k ↦ subst (λ z. NoWord (t.Mark w z ∷ ts) × NoSign (t.Mark w z ∷ ts)) (sym (is_same a m.Underscore k)) (record { no_import = refl; no_data = refl; no_fixity = refl }, record { no_comma = refl; no_colons = refl })
    ]
apat_no_word (t.Variable w name ∷ ts) h = (record { no_import = refl; no_data = refl; no_fixity = refl }, record { no_comma = refl; no_colons = refl })
apat_no_word (t.Constructor w name ∷ ts) h = (record { no_import = refl; no_data = refl; no_fixity = refl }, record { no_comma = refl; no_colons = refl })
apat_no_word (t.Operator w name ∷ ts) h = absurd (cc)
apat_no_word (t.Number w digits ∷ ts) h = absurd (cc)

left_no_sign : (ts : List Lexeme) → ends_left_side ts ≡ true → NoSign ts
unfolding same_mark
left_no_sign [] h = absurd (cc)
left_no_sign (t.Mark w a ∷ ts) h =
    elim (one_of (same_mark a m.Equal) (same_mark a m.Bar) h) [
      | inl k ↦ subst (λ z. NoSign (t.Mark w z ∷ ts)) (sym (is_same a m.Equal k)) (record { no_comma = refl; no_colons = refl })
      | inr k ↦ subst (λ z. NoSign (t.Mark w z ∷ ts)) (sym (is_same a m.Bar k)) (record { no_comma = refl; no_colons = refl })
    ]
left_no_sign (t.Variable w name ∷ ts) h = absurd (cc)
left_no_sign (t.Constructor w name ∷ ts) h = absurd (cc)
left_no_sign (t.Operator w name ∷ ts) h = absurd (cc)
left_no_sign (t.Number w digits ∷ ts) h = absurd (cc)

operator_no_sign : (ts : List Lexeme) (a : List ℕ) (rest : List Lexeme) → IsVariableOperator ts a rest → NoSign ts
unfolding same_mark
operator_no_sign _ _ _ (a_symbol_operator w name rest) = record { no_comma = refl; no_colons = refl }
operator_no_sign _ _ _ (a_named_operator u v w name rest) = record { no_comma = refl; no_colons = refl }

no_sign_or : (ts : List Lexeme) → NoSign ts → (sees m.Comma ts || sees m.Colons ts) ≡ false
no_sign_or ts n = rw (n.no_comma, n.no_colons)

-- a pattern that begins with a variable is that variable
apat_variable : (Inner : List Lexeme → Pat Span → List Lexeme → Type 0) (ts : List Lexeme) (pat : Pat Span) (rest : List Lexeme) → IsApat Inner ts pat rest → (w : Spot) (name : List ℕ) (xs : List Lexeme) → ts ≡ t.Variable w name ∷ xs → rest ≡ xs
apat_variable Inner _ _ _ (a_variable_pattern v other rest) w name xs h = cc
apat_variable Inner _ _ _ (a_wildcard v rest) w name xs h = absurd (cc)
apat_variable Inner _ _ _ (a_constant_pattern v other rest) w name xs h = absurd (cc)
apat_variable Inner _ _ _ (a_unit_pattern u v rest) w name xs h = absurd (cc)
apat_variable Inner _ _ _ (a_pattern_group u v ts rest parts x f) w name xs h = absurd (cc)

over_variable : (Inner : List Lexeme → Pat Span → List Lexeme → Type 0) (ts : List Lexeme) (pat : Pat Span) (rest : List Lexeme) → IsPatternOver Inner ts pat rest → (w : Spot) (name : List ℕ) (xs : List Lexeme) → ts ≡ t.Variable w name ∷ xs → rest ≡ xs
over_variable Inner _ _ _ (an_apat ts rest pat x) w name xs h = apat_variable Inner ts pat rest x w name xs h
over_variable Inner _ _ _ (a_constructor_pattern v other ts rest part parts ds) w name xs h = absurd (cc)

pattern_variable : (n : ℕ) (ts : List Lexeme) (pat : Pat Span) (rest : List Lexeme) → IsPattern n ts pat rest → (w : Spot) (name : List ℕ) (xs : List Lexeme) → ts ≡ t.Variable w name ∷ xs → rest ≡ xs
pattern_variable zero ts pat rest x w name xs h = absurd x
pattern_variable (suc n) ts pat rest x w name xs h = over_variable (IsPattern n) ts pat rest x w name xs h

-- a name in front of a pattern before an operator goes on with no signature
infix_name : (n : ℕ) (ts mid behind : List Lexeme) (pat : Pat Span) (a : Spot × List ℕ) → IsVariableName ts a behind → IsPattern n ts pat mid → NoSign mid → NoSign behind
infix_name n _ mid _ pat _ (a_name w name rest) x s = subst NoSign (pattern_variable n (t.Variable w name ∷ rest) pat mid x w name rest refl) s
infix_name n _ mid _ pat _ (an_operator_name u v w name rest) x s = absurd (let f : true ≡ false = sym (opened u v name (t.Mark w m.Closes ∷ rest)) ∙ (pattern_plain n _ pat mid x).bare in cc)
  where
    opened : (u v : Spot) (name : List ℕ) (xs : List Lexeme) → opens_operator (t.Mark u m.Opens ∷ t.Operator v name ∷ xs) ≡ true
    opened u v name xs = ap (λ z. z && true) (same_self m.Opens)

goes_none : (n : ℕ) (ts mid : List Lexeme) (pat : Pat Span) → IsPattern n ts pat mid → NoSign mid → (o : Option ((Spot × List ℕ) × List Lexeme)) → variable_name_at ts ≡ o → goes_signed o ≡ false
goes_none n ts mid pat x s None h = refl
goes_none n ts mid pat x s (Some v) h = no_sign_or v.1 (infix_name n ts mid v.1 pat v.0 (name_exact.sound ts v h) x s)

many_no_sign : (n : ℕ) (ts : List Lexeme) (pats : List (Pat Span)) (rest : List Lexeme) → IsMany (IsApat (IsPattern n)) ts pats rest → ends_left_side rest ≡ true → NoSign ts
many_no_sign n _ _ _ (no_more ts) s = left_no_sign ts s
many_no_sign n _ _ _ (one_more ts mid rest a others x xs) s = (apat_no_word ts (apat_plain (IsPattern n) (pattern_plain n) ts a mid x).begins).1

abbrev Left : ℕ → List Lexeme → List ℕ × List (Pat Span) → List Lexeme → Type 0
Left n = IsLeftSide (IsPattern n) (IsApat (IsPattern n))

-- what a clause begins with
left_stands : (n : ℕ) (ts : List Lexeme) (a : List ℕ × List (Pat Span)) (rest : List Lexeme) → Left n ts a rest → ends_left_side rest ≡ true → NoWord ts × (begins_signed ts ≡ false)
left_stands n _ _ _ (a_prefix ts mid rest w name pats x xs) s =
    (name_no_word ts (w, name) mid x, ap goes_signed (name_exact.complete ts (w, name) mid x refl) ∙ no_sign_or mid (many_no_sign n mid pats rest xs s))
left_stands n _ _ _ (an_infix ts mid next rest name left right x o y) s =
    ((apat_no_word ts (pattern_plain n ts left mid x).begins).0, goes_none n ts mid left x (operator_no_sign mid name next o) (variable_name_at ts) refl)

clause_stands : (n : ℕ) (ts : List Lexeme) (a : List ℕ × Alt Span) (rest : List Lexeme) → IsClause (Left n) (IsExpression n) (IsLocals n) ts a rest → NoWord ts × (begins_signed ts ≡ false)
clause_stands n _ _ _ (a_clause ts mid next rest name pats rhs wheres x y z) = left_stands n ts (name, pats) mid x (side_follows (expression_at n) (IsExpression n) (level n).expression mid rhs next y)

-- what a signature begins with
signed_goes : (ts : List Lexeme) (name : List ℕ) (rest : List Lexeme) → IsSignedName ts name rest → (sees m.Comma rest || sees m.Colons rest) ≡ true → NoWord ts × (begins_signed ts ≡ true)
signed_goes _ _ _ (a_signed_name ts rest w name x) s = (name_no_word ts (w, name) rest x, ap goes_signed (name_exact.complete ts (w, name) rest x refl) ∙ s)

names_go : (ts : List Lexeme) (names : List (List ℕ)) (rest : List Lexeme) → IsSeparated m.Comma IsSignedName ts names rest → (sees m.Comma rest || sees m.Colons rest) ≡ true → NoWord ts × (begins_signed ts ≡ true)
names_go _ _ _ (the_last ts rest a x) s = signed_goes ts a rest x s
names_go _ _ _ (and_more ts mid rest w a others x xs) s = signed_goes ts a _ x (ap (λ z. z || sees m.Colons (t.Mark w m.Comma ∷ mid)) (same_self m.Comma))

colons_go : (w : Spot) (ts : List Lexeme) → (sees m.Comma (t.Mark w m.Colons ∷ ts) || sees m.Colons (t.Mark w m.Colons ∷ ts)) ≡ true
unfolding same_mark
colons_go w ts = refl

-- a word that names a side
side_word : (word : Mark) (at : Side) (w : Spot) (ts : List Lexeme) → side_of word ≡ Some at
    → (sees m.Import (t.Mark w word ∷ ts) ≡ false) × (((sees m.Data (t.Mark w word ∷ ts) || sees m.Newtype (t.Mark w word ∷ ts)) ≡ false) × (begins_fixity (t.Mark w word ∷ ts) ≡ true))
unfolding same_mark
side_word m.Infix at w ts h = (refl, (refl, refl))
side_word m.Infixl at w ts h = (refl, (refl, refl))
side_word m.Infixr at w ts h = (refl, (refl, refl))
side_word word at w ts h = absurd (cc)

module _ (n : ℕ) where
  abbrev clause_at : List Lexeme → Read (List ℕ × Alt Span)
  clause_at = clause_over n (expression_at n) (locals_at n)

  abbrev Clause : List Lexeme → List ℕ × Alt Span → List Lexeme → Type 0
  Clause = IsClause (Left n) (IsExpression n) (IsLocals n)

  signatures : Exact (signature_at (type_at n)) (IsSignature (IsType n)) ends_entry
  signatures = signature_exact (type_at n) (IsType n) (type_level n).0 (type_passes n)

  datas : Exact (data_or_newtype_at (type_at n)) (IsData (IsType n)) ends_entry
  datas = data_exact (type_at n) (IsType n) (type_level n).0 (type_level n).1

  whole_sound : (Is : List Lexeme → Decl Span → List Lexeme → Type 0) (ts : List Lexeme) (o : Read (Decl Span)) (p : Item × List Lexeme) → ((q : Decl Span × List Lexeme) → o ≡ Some q → Is ts q.0 q.1)
      → ((a : Decl Span) (rest : List Lexeme) → Is ts a rest → IsItem n ts (i.Whole a) rest) → (o >>= whole_item) ≡ Some p → IsItem n ts p.0 p.1
  whole_sound Is ts o p f g h = let q = bind_some o whole_item p h in moved (λ z. IsItem n ts z.0 z.1) _ p q.2 (g q.0.0 q.0.1 (f q.0 q.1))

  item_sound : (ts : List Lexeme) (p : Item × List Lexeme) → item_at n ts ≡ Some p → IsItem n ts p.0 p.1
  unfolding item_at item_over_at named_item_at
  item_sound ts p h =
      elim (chosen (sees m.Import ts) _ _ _ h) [
        | inl k ↦ whole_sound IsImport ts (import_at ts) p (import_exact.sound ts) (λ a rest x. an_import_item ts rest a x) k.1
        | inr k ↦ elim (chosen (sees m.Data ts || sees m.Newtype ts) _ _ _ k.1) [
          | inl b ↦ whole_sound (IsData (IsType n)) ts (data_or_newtype_at (type_at n) ts) p (datas.sound ts) (λ a rest x. a_data_item ts rest a x) b.1
          | inr b ↦ elim (chosen (begins_fixity ts) _ _ _ b.1) [
            | inl f ↦ whole_sound IsFixity ts (fixity_at ts) p (fixity_exact.sound ts) (λ a rest x. a_fixity_item ts rest a x) f.1
            | inr f ↦ elim (chosen (begins_signed ts) _ _ _ f.1) [
              | inl s ↦ whole_sound (IsSignature (IsType n)) ts (signature_at (type_at n) ts) p (signatures.sound ts) (λ a rest x. a_signature_item ts rest a x) s.1
              | inr s ↦ let c = bind_some (clause_at ts) _ p s.1 in moved (λ z. IsItem n ts z.0 z.1) _ p c.2 (a_clause_item ts c.0.1 c.0.0.0 c.0.0.1 ((clause_level n).sound ts c.0 c.1))
            ]
          ]
        ]
      ]

  import_read : (ts rest : List Lexeme) (a : Decl Span) → sees m.Import ts ≡ true → import_at ts ≡ Some (a, rest) → item_at n ts ≡ Some (i.Whole a, rest)
  unfolding item_at item_over_at
  import_read ts rest a k h = rw (k, h)

  data_read : (ts rest : List Lexeme) (a : Decl Span) → sees m.Import ts ≡ false → (sees m.Data ts || sees m.Newtype ts) ≡ true → data_or_newtype_at (type_at n) ts ≡ Some (a, rest) → item_at n ts ≡ Some (i.Whole a, rest)
  unfolding item_at item_over_at
  data_read ts rest a k b h = rw (k, b, h)

  fixity_read : (ts rest : List Lexeme) (a : Decl Span) → sees m.Import ts ≡ false → (sees m.Data ts || sees m.Newtype ts) ≡ false → begins_fixity ts ≡ true → fixity_at ts ≡ Some (a, rest) → item_at n ts ≡ Some (i.Whole a, rest)
  unfolding item_at item_over_at
  fixity_read ts rest a k b f h = rw (k, b, f, h)

  signature_read : (ts rest : List Lexeme) (a : Decl Span) → NoWord ts → begins_signed ts ≡ true → signature_at (type_at n) ts ≡ Some (a, rest) → item_at n ts ≡ Some (i.Whole a, rest)
  unfolding item_at item_over_at named_item_at
  signature_read ts rest a w s h = rw (w.no_import, w.no_data, w.no_fixity, s, h)

  clause_read : (ts rest : List Lexeme) (name : List ℕ) (row : Alt Span) → NoWord ts → begins_signed ts ≡ false → clause_at ts ≡ Some ((name, row), rest) → item_at n ts ≡ Some (i.Clause name row, rest)
  unfolding item_at item_over_at named_item_at
  clause_read ts rest name row w s h = rw (w.no_import, w.no_data, w.no_fixity, s, h)

  import_begins : (ts : List Lexeme) (a : Decl Span) (rest : List Lexeme) → IsImport ts a rest → sees m.Import ts ≡ true
  import_begins _ _ _ (an_import w ts named behind hidden listed rest names listing q p a h x) = same_self m.Import

  data_begins : (ts : List Lexeme) (a : Decl Span) (rest : List Lexeme) → IsData (IsType n) ts a rest → (sees m.Import ts ≡ false) × ((sees m.Data ts || sees m.Newtype ts) ≡ true)
  unfolding same_mark
  data_begins _ _ _ (a_data v w name ts mid next rest params classes all ds k x) = (refl, refl)
  data_begins _ _ _ (a_newtype u v w y name made ts mid next rest params classes field ds k x) = (refl, refl)

  fixity_item : (ts : List Lexeme) (a : Decl Span) (rest : List Lexeme) → IsFixity ts a rest → fixity_at ts ≡ Some (a, rest) → item_at n ts ≡ Some (i.Whole a, rest)
  fixity_item _ _ _ (a_fixity w word at ts mid rest k names e x ds) h = let s = side_word word at w ts e in fixity_read (t.Mark w word ∷ ts) rest _ s.0 s.1.0 s.1.1 h

  signature_item : (ts : List Lexeme) (a : Decl Span) (rest : List Lexeme) → IsSignature (IsType n) ts a rest → signature_at (type_at n) ts ≡ Some (a, rest) → item_at n ts ≡ Some (i.Whole a, rest)
  signature_item _ _ _ (a_signature w ts mid next rest names monads type xs c y) h = let s = names_go ts names _ xs (colons_go w mid) in signature_read ts rest _ s.0 s.1 h

  item_complete : (ts : List Lexeme) (a : Item) (rest : List Lexeme) → IsItem n ts a rest → ends_entry rest ≡ true → item_at n ts ≡ Some (a, rest)
  item_complete _ _ _ (an_import_item ts rest a x) s = import_read ts rest a (import_begins ts a rest x) (import_exact.complete ts a rest x s)
  item_complete _ _ _ (a_data_item ts rest a x) s = let b = data_begins ts a rest x in data_read ts rest a b.0 b.1 (datas.complete ts a rest x s)
  item_complete _ _ _ (a_fixity_item ts rest a x) s = fixity_item ts a rest x (fixity_exact.complete ts a rest x s)
  item_complete _ _ _ (a_signature_item ts rest a x) s = signature_item ts a rest x (signatures.complete ts a rest x s)
  item_complete _ _ _ (a_clause_item ts rest name row x) s = let b = clause_stands n ts (name, row) rest x in clause_read ts rest name row b.0 b.1 ((clause_level n).complete ts (name, row) rest x (entry_ends rest s).clause)

  item_shorter : (ts : List Lexeme) (a : Item) (rest : List Lexeme) → IsItem n ts a rest → length rest < length ts
  item_shorter _ _ _ (an_import_item ts rest a x) = import_exact.shorter ts a rest x
  item_shorter _ _ _ (a_data_item ts rest a x) = datas.shorter ts a rest x
  item_shorter _ _ _ (a_fixity_item ts rest a x) = fixity_exact.shorter ts a rest x
  item_shorter _ _ _ (a_signature_item ts rest a x) = signatures.shorter ts a rest x
  item_shorter _ _ _ (a_clause_item ts rest name row x) = (clause_level n).shorter ts (name, row) rest x

  pub item_exact : Exact (item_at n) (IsItem n) ends_entry
  item_exact = record { sound = item_sound; complete = item_complete; shorter = item_shorter }

-- Each kind of declaration.
use Rattle.std.proofs.Common.{◌≡◌, ◌∙◌, ◌≤◌, ◌+◌, ℕ, List, ap, sym, subst, map, Result}
use Rattle.std.proofs.lemmas.Result.{err_from_is_err_and}
use Rattle.rw_base.specs.declared.place.Span.{Span}
use Rattle.rw_base.specs.Answers.{Fail}
use Rattle.rw_tree.specs.declared.decl.Decl.{Decl}
use Rattle.rw_tree.specs.declared.decl.Decl.TheVariants as d
use Rattle.rw_tree.specs.Trees.{alternative_of}
use Rattle.rw_parser_grammar.specs.Chains.{Strength}
use Rattle.rw_parser_grammar.specs.Levels.{max_levels, rows_levels}
use Rattle.rw_parser_grammar.specs.Resolved.{AreRowsResolved}
use Rattle.rw_parser_grammar.specs.Resolution.{IsDeclarationResolved, IsShallow, FirstRowBroken}
use Rattle.rw_parser_chains.specs.Fixities.{strength_at}
use Rattle.rw_parser_fixity.proofs.Listed.{Whole, Item, IsBroken, import_is, data_is, fixity_is, signature_is, function_made, function_broken, broken_of}
use Rattle.rw_parser_fixity.proofs.items.item.Goals as goal

-- the same of equal declarations, of which one was given and one made
same : (strength : List ℕ → Strength) (x : Span) (n : ℕ) (a b made : Decl Span) (result : Result (Decl Span) Fail) → a ≡ b → made ≡ b → (Whole strength x n b result → Item strength b result) → Whole strength x n made result → Item strength a result
same strength x n a b made result e g f h = subst (λ z. Item strength z result) (sym e) (f (subst (λ z. Whole strength x n z result) g h))

pub returns-in_ok-copied-in-Import : goal.returns-in_ok-copied-in-Import
returns-in_ok-copied-in-Import c =
    let s = strength_at c.args.fixities.now in
    same s c.in-Import.at 0 c.args.decl.now (d.Import c.in-Import.at c.in-Import.name) _ c.whole.result c.in-Import.is
    (ap (d.Import c.in-Import.at) c.in_ok-copied-in-Import.ensures) (import_is s c.in-Import.at c.in-Import.name c.whole.result) c.whole.ensures

pub returns-in_ok-copy-in-Data : goal.returns-in_ok-copy-in-Data
returns-in_ok-copy-in-Data c =
    let s = strength_at c.args.fixities.now in
    same s c.in-Data.at c.data_levels.result c.args.decl.now (d.Data c.in-Data.at c.in-Data.made) _ c.whole-in-Data.result c.in-Data.is
    (ap (d.Data c.in-Data.at) c.in_ok-copy-in-Data.ensures) (data_is s c.in-Data.at c.in-Data.made c.data_levels.result c.whole-in-Data.result c.data_levels.ensures) c.whole-in-Data.ensures

pub returns-in_ok-names-in-Fixity : goal.returns-in_ok-names-in-Fixity
returns-in_ok-names-in-Fixity c =
    let s = strength_at c.args.fixities.now in
    same s c.in-Fixity.at 0 c.args.decl.now (d.Fixity c.in-Fixity.at c.in-Fixity.side c.in-Fixity.strength c.in-Fixity.names) _ c.whole-in-Fixity.result c.in-Fixity.is
    (ap (d.Fixity c.in-Fixity.at c.in-Fixity.side c.in-Fixity.strength) (c.in_ok-names-in-Fixity.ensures ∙ c.as_slice.ensures))
    (fixity_is s c.in-Fixity.at c.in-Fixity.side c.in-Fixity.strength c.in-Fixity.names c.whole-in-Fixity.result) c.whole-in-Fixity.ensures

pub returns-in_ok-copy-in-Sig : goal.returns-in_ok-copy-in-Sig
returns-in_ok-copy-in-Sig c =
    let s = strength_at c.args.fixities.now in
    same s c.in-Sig.at c.type_levels.result c.args.decl.now (d.Sig c.in-Sig.at c.in-Sig.names c.in-Sig.written) _ c.whole-in-Sig.result c.in-Sig.is
    (ap (λ z. d.Sig c.in-Sig.at z c.in_ok-copy-in-Sig.copy) (c.in_ok-names-in-Sig.ensures ∙ c.as_slice-in-Sig.ensures) ∙ ap (d.Sig c.in-Sig.at c.in-Sig.names) c.in_ok-copy-in-Sig.ensures)
    (signature_is s c.in-Sig.at c.in-Sig.names c.in-Sig.written c.type_levels.result c.whole-in-Sig.result c.type_levels.ensures) c.whole-in-Sig.ensures

pub returns-in_err-rows-in-Fun : goal.returns-in_err-rows-in-Fun
returns-in_err-rows-in-Fun c =
    let p = err_from_is_err_and c.from_residual-in_err-rows-in-Fun.result c.from_residual-in_err-rows-in-Fun.ensures.1 in
    let s = strength_at c.args.fixities.now in
    rw (p.1, p.2) (broken_of (λ made. AreRowsResolved s c.as_slice-in-Fun.result.now made × (rows_levels (map (alternative_of (λ span. span)) made) + 1 ≤ max_levels)) (λ made. IsDeclarationResolved s c.args.decl.now made × IsShallow made)
    (FirstRowBroken s c.as_slice-in-Fun.result.now) (IsBroken s c.args.decl.now)
    (λ place b. subst (λ z. IsBroken s z place) (sym c.in-Fun.is) (function_broken s c.in-Fun.at c.in-Fun.name c.in-Fun.rows place (subst (λ z. FirstRowBroken s z place) c.as_slice-in-Fun.ensures b)))
    c.in_err-rows-in-Fun.field-0.0 c.in_err-rows-in-Fun.ensures)

pub returns-in_ok-copied-in-Fun : goal.returns-in_ok-copied-in-Fun
returns-in_ok-copied-in-Fun c =
    let s = strength_at c.args.fixities.now in
    let rows = c.in_ok-rows-in-Fun.rows in
    let h : AreRowsResolved s c.in-Fun.rows rows × (rows_levels (map (alternative_of (λ span. span)) rows) + 1 ≤ max_levels) =
    subst (λ z. AreRowsResolved s z rows × (rows_levels (map (alternative_of (λ span. span)) rows) + 1 ≤ max_levels)) c.as_slice-in-Fun.ensures c.in_ok-rows-in-Fun.ensures in
    let made = function_made s c.in-Fun.at c.in-Fun.name c.in-Fun.rows rows h in
    subst (λ z. IsDeclarationResolved s z (d.Fun c.in-Fun.at c.in_ok-copied-in-Fun.field-0 rows) × IsShallow (d.Fun c.in-Fun.at c.in_ok-copied-in-Fun.field-0 rows)) (sym c.in-Fun.is)
    (subst (λ z. IsDeclarationResolved s (d.Fun c.in-Fun.at c.in-Fun.name c.in-Fun.rows) (d.Fun c.in-Fun.at z rows) × IsShallow (d.Fun c.in-Fun.at z rows)) (sym c.in_ok-copied-in-Fun.ensures) made)

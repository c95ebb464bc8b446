-- The nodes of each variant that has a list.
use Rattle.rw_scope_nodes.proofs.Variants as variant
use Rattle.rw_scope_nodes.proofs.parts.expression_parts.Goals as goal

pub returns-in-Apply : goal.returns-in-Apply
returns-in-Apply g c = variant.apply _ _ _ _ _ _ _ c.in-Apply.is c.get.ensures c.as_slice.ensures c.two.ensures

pub returns-in-Tuple : goal.returns-in-Tuple
returns-in-Tuple g c = variant.tuple _ _ _ _ _ c.in-Tuple.is c.as_slice-in-Tuple.ensures c.one-in-Tuple.ensures

pub returns-in-Chain : goal.returns-in-Chain
returns-in-Chain g c = variant.chain _ _ _ _ _ _ _ c.in-Chain.is c.as_slice-in-Chain.ensures c.as_slice-in-Chain-2.ensures c.two-in-Chain.ensures

pub returns-in-Let : goal.returns-in-Let
returns-in-Let g c = variant.let_in _ _ _ _ _ _ _ c.in-Let.is c.as_slice-in-Let.ensures c.get-in-Let.ensures c.two-in-Let.ensures

pub returns-in-Case : goal.returns-in-Case
returns-in-Case g c = variant.case_of _ _ _ _ _ _ _ c.in-Case.is c.get-in-Case.ensures c.as_slice-in-Case.ensures c.two-in-Case.ensures

pub returns-in-Do : goal.returns-in-Do
returns-in-Do g c = variant.do_block _ _ _ _ _ c.in-Do.is c.as_slice-in-Do.ensures c.one-in-Do.ensures

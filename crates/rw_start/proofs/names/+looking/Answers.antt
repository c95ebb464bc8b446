-- The names in each variant of a tree.
use Rattle.rw_start.proofs.Found as found
use Rattle.rw_start.proofs.names.+looking.Goals as goal

pub in_expression-returns-in_ok-in_expressions-in-Apply : goal.in_expression-returns-in_ok-in_expressions-in-Apply
in_expression-returns-in_ok-in_expressions-in-Apply t c =
    found.apply c.args.start c.args.tree.now c.in-Apply.field-0 c.args.places.now.items c.in-Apply.head c.in-Apply.parts c.as_slice.result.now c.in_boxed.new.places.items c.in_expressions.new.places.items
    c.in-Apply.is c.as_slice.ensures c.in_ok-in_boxed-in-Apply.ensures c.in_ok-in_expressions-in-Apply.ensures

pub in_expression-returns-in_ok-in_expressions-in-Tuple : goal.in_expression-returns-in_ok-in_expressions-in-Tuple
in_expression-returns-in_ok-in_expressions-in-Tuple t c =
    found.tuple c.args.start c.args.tree.now c.in-Tuple.field-0 c.args.places.now.items c.in-Tuple.parts c.as_slice-in-Tuple.result.now c.in_expressions-in-Tuple.new.places.items
    c.in-Tuple.is c.as_slice-in-Tuple.ensures c.in_ok-in_expressions-in-Tuple.ensures

pub in_expression-returns-in_ok-in_expressions-in-Chain-2 : goal.in_expression-returns-in_ok-in_expressions-in-Chain-2
in_expression-returns-in_ok-in_expressions-in-Chain-2 t c =
    found.chain c.args.start c.args.tree.now c.in-Chain.field-0 c.args.places.now.items c.in-Chain.operands c.as_slice-in-Chain.result.now c.in-Chain.operators c.as_slice-in-Chain-2.result.now
    c.in_expressions-in-Chain.new.places.items c.in_expressions-in-Chain-2.new.places.items
    c.in-Chain.is c.as_slice-in-Chain.ensures c.as_slice-in-Chain-2.ensures c.in_ok-in_expressions-in-Chain.ensures c.in_ok-in_expressions-in-Chain-2.ensures

pub in_expression-returns-in_ok-in_boxed-in-Lambda : goal.in_expression-returns-in_ok-in_boxed-in-Lambda
in_expression-returns-in_ok-in_boxed-in-Lambda t c =
    found.lambda c.args.start c.args.tree.now c.in-Lambda.field-0 c.args.places.now.items c.in-Lambda.field-1 c.in-Lambda.body c.in_boxed-in-Lambda.new.places.items c.in-Lambda.is c.in_ok-in_boxed-in-Lambda.ensures

pub in_expression-returns-in_ok-in_boxed-in-Let : goal.in_expression-returns-in_ok-in_boxed-in-Let
in_expression-returns-in_ok-in_boxed-in-Let t c =
    found.let_in c.args.start c.args.tree.now c.in-Let.field-0 c.args.places.now.items c.in-Let.group c.as_slice-in-Let.result.now c.in-Let.body c.in_group.new.places.items c.in_boxed-in-Let.new.places.items
    c.in-Let.is c.as_slice-in-Let.ensures c.in_ok-in_group-in-Let.ensures c.in_ok-in_boxed-in-Let.ensures

pub in_expression-returns-in_ok-in_boxed-in-If-3 : goal.in_expression-returns-in_ok-in_boxed-in-If-3
in_expression-returns-in_ok-in_boxed-in-If-3 t c =
    found.if_then_else c.args.start c.args.tree.now c.in-If.field-0 c.args.places.now.items c.in-If.test c.in-If.yes c.in-If.no c.in_boxed-in-If.new.places.items c.in_boxed-in-If-2.new.places.items c.in_boxed-in-If-3.new.places.items
    c.in-If.is c.in_ok-in_boxed-in-If.ensures c.in_ok-in_boxed-in-If-2.ensures c.in_ok-in_boxed-in-If-3.ensures

pub in_expression-returns-in_ok-in_clauses-in-Case : goal.in_expression-returns-in_ok-in_clauses-in-Case
in_expression-returns-in_ok-in_clauses-in-Case t c =
    found.case_of c.args.start c.args.tree.now c.in-Case.field-0 c.args.places.now.items c.in-Case.scrutinee c.in-Case.rows c.as_slice-in-Case.result.now c.in_boxed-in-Case.new.places.items c.in_clauses.new.places.items
    c.in-Case.is c.as_slice-in-Case.ensures c.in_ok-in_boxed-in-Case.ensures c.in_ok-in_clauses-in-Case.ensures

pub in_expression-returns-in_ok-in_statements-in-Do : goal.in_expression-returns-in_ok-in_statements-in-Do
in_expression-returns-in_ok-in_statements-in-Do t c =
    found.do_block c.args.start c.args.tree.now c.in-Do.field-0 c.args.places.now.items c.in-Do.statements c.as_slice-in-Do.result.now c.in_statements.new.places.items
    c.in-Do.is c.as_slice-in-Do.ensures c.in_ok-in_statements-in-Do.ensures

pub in_clause-returns : goal.in_clause-returns
in_clause-returns t c =
    found.clause c.args.start c.args.clause.now c.as_slice.result.now c.args.places.now.items c.in_side.new.places.items c.in_group.new.places.items c.as_slice.ensures c.in_ok-in_side.ensures c.in_ok-in_group.ensures

pub in_side-returns-in_ok-in_guards-in-Guarded : goal.in_side-returns-in_ok-in_guards-in-Guarded
in_side-returns-in_ok-in_guards-in-Guarded t c =
    found.guarded_side c.args.start c.args.side.now c.in-Guarded.guards c.as_slice.result.now c.args.places.now.items c.in_guards.new.places.items c.in-Guarded.is c.as_slice.ensures c.in_ok-in_guards-in-Guarded.ensures

pub in_binding-returns-in_ok-in_clauses-in-Fun : goal.in_binding-returns-in_ok-in_clauses-in-Fun
in_binding-returns-in_ok-in_clauses-in-Fun t c =
    found.function c.args.start c.args.binding.now c.in-Fun.field-0 c.in-Fun.field-1 c.in-Fun.clauses c.as_slice.result.now c.args.places.now.items c.in_clauses.new.places.items c.in-Fun.is c.as_slice.ensures c.in_ok-in_clauses-in-Fun.ensures

pub in_statement-returns-in_ok-in_expression-in-Bind : goal.in_statement-returns-in_ok-in_expression-in-Bind
in_statement-returns-in_ok-in_expression-in-Bind t c =
    found.bind_statement c.args.start c.args.tree.now c.in-Bind.field-0 c.in-Bind.field-1 c.in-Bind.body c.args.places.now.items c.in_expression.new.places.items c.in-Bind.is c.in_ok-in_expression-in-Bind.ensures

pub in_statement-returns-in_ok-in_group-in-Let : goal.in_statement-returns-in_ok-in_group-in-Let
in_statement-returns-in_ok-in_group-in-Let t c =
    found.let_statement c.args.start c.args.tree.now c.in-Let.field-0 c.in-Let.group c.as_slice.result.now c.args.places.now.items c.in_group.new.places.items c.in-Let.is c.as_slice.ensures c.in_ok-in_group-in-Let.ensures

-- By reading.
use Rattle.std.proofs.Common.{refl}
use Rattle.vh_tree.specs.VToken.{library_marks, entity_marks, outp_marks, architecture_marks, end_marks}
use Rattle.vh_tree_reading.specs.Scan.{scanned, tokens_at, front, string_at, symbol_at, word_token, number_of, value_of}
use Rattle.vh_tree_reading.specs.Read.{same_mark, after, separated_at, many_at, slice_at, call_at, opened_at, ref_at, term_at, expr_at, args_at, rising_at, reset_at, equal_at, test_at, branch_at, else_at, choice_at, assign_at, stmt_at, stmts_at, choice_levels}
use Rattle.vh_tree_reading.specs.ReadDesign.{after_all, zero_at, vec_at, var_at, vars_at, item_at, items_at, sensitive_at, names_at, process_at, processes_at, ports_at, design_at, design_of, function_at, param_at, param_list_at, params_at, head_at, end_at, tail_at}
use Rattle.vhdl_worked.proofs.texts.a_register_is_read.Goals as goal

pub returns : goal.returns
unfolding scanned tokens_at front string_at symbol_at word_token number_of value_of library_marks entity_marks outp_marks architecture_marks end_marks same_mark after separated_at many_at slice_at call_at opened_at ref_at term_at expr_at args_at rising_at reset_at equal_at test_at branch_at else_at choice_at assign_at stmt_at stmts_at choice_levels after_all zero_at vec_at var_at vars_at item_at items_at sensitive_at names_at process_at processes_at ports_at design_at design_of function_at param_at param_list_at params_at head_at end_at tail_at
returns c = refl

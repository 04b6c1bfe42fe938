-- Reading, as a function. It reads from any stream that shows its next token, to a depth, and looks no further than that
-- token, but to tell whether a variable is deleted.
pub use Rattle.cc_grammar.specs.ReadingParts.{Cause, Fault, Due, refused_there, either, fault, Sized, Outcome, and_then, ◌>>=◌, ◌>>◌, allowed, variable_of, Head, head_by, Suffix, suffix_of, is_ending, is_element, is_remedy, is_delete, goes_on, ends_return, label_by, label_of, is_some_label, Clause, clause_of, ends_list, Start, start_of, syntax, depth, spent, refused, a_token, a_variable, an_operand, no_head, is_this, is_operand, is_paren, is_array, is_object, is_function, is_new, is_literal, is_variable, no_suffix, by_dot, by_bracket, by_call, no_clause, is_case, is_default, is_close, is_block, is_vars, is_empty, is_if, is_do, is_while, is_for, is_continue, is_break, is_return, is_switch, is_throw, is_try, is_declaration, is_any, is_plain, is_name, pure, fail, stops, refuse, peek, take, variable_by, own_name_by, unless_deleted, Inner, no_depth}
unfoldable pub use Rattle.cc_grammar.specs.ReadingParts.{head_of, expect, expect_word, variable, params, params_of, own_name, closed, opened}
pub use Rattle.cc_grammar.specs.ReadingExpressions.{key_by, primary_by, property_by, suffix_by, postfix_by, wrong_prefix, prefix_by, climb_by, assign_by, comma_by, expr_by}
unfoldable pub use Rattle.cc_grammar.specs.ReadingExpressions.{elements, field, object_fields, arguments, arguments_of, list, body, function, parentheses, array, object, function_expr, new_expr, primary, dotted, bracketed, called, suffixes, postfix, prefix_expr, prefixed, climb, conditional, assign, commas, after_unary, after_head, expr_of}
pub use Rattle.cc_grammar.specs.ReadingStatements.{simple, for_vars_by, for_value_by, jump_by, clause_by, name_by, stmt_by, semicolon_symbol, look_token, rest_tokens, semicolon_token}
unfoldable pub use Rattle.cc_grammar.specs.ReadingStatements.{declarator, declarators, vars, plain, block, head, otherwise, choice, do_while, while, optional, for_rest, for_in, for, continue, break, return, throw, clauses, switch, begins_with_name, block_in, finally, catch, after_catch, try, declaration, stmt_of, reader, expect_end, program, read_symbols, read_tokens}

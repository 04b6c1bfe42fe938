-- Tests of tokens, and the tokens that they are true of.
use Rattle.std.specs.Prelude.{◌≡◌, ℕ, List, [], Bool, true, false, Option, Some, None}
use Rattle.std.proofs.Common.{refl, sym, ap, ◌∙◌}
use denote.Enum.Bare.{same_true, true_same}
use Rattle.cc_ast.specs.declared.reading.Construct.{Construct}
use Rattle.cc_ast.specs.Syntax.{Prim}
use Rattle.cc_lexer.specs.declared.token.Mark.{Mark}
use Rattle.cc_lexer.specs.declared.token.Mark.TheVariants as mark
use Rattle.cc_lexer.specs.contracts.token.Mark as the_mark
use Rattle.cc_lexer.specs.declared.word.Word.{Word}
use Rattle.cc_lexer.specs.declared.word.Word.TheVariants as word
use Rattle.cc_lexer.specs.contracts.word.Word as the_word
use Rattle.cc_grammar.specs.Symbols.{Kind, is_mark, is_word}
use Rattle.cc_grammar.specs.Symbols as k
use Rattle.cc_grammar.specs.Fronts.{is_end}
use Rattle.cc_grammar.specs.Signs.{literal_of, refused_name}
use Rattle.cc_grammar.specs.Grammar.{opens_no_expression}
use Rattle.cc_grammar.specs.Reading.{Head, Suffix, Clause, Start, head_by, head_of, variable_of, suffix_of, clause_of, start_of, is_remedy, is_element, allowed}
use Rattle.cc_grammar.specs.Reading as r

pub mark_true : (m : Mark) (x : Kind) → is_mark m x ≡ true → x ≡ k.mark m
mark_true m (k.mark n) e = ap k.mark (same_true the_mark.the_type tt n m e)
mark_true m (k.name u) e = cc
mark_true m (k.word w) e = cc
mark_true m (k.number z) e = cc
mark_true m (k.text u) e = cc
mark_true m k.end e = cc
mark_true m (k.stop c) e = cc
mark_true m (k.due p) e = cc

pub mark_self : (m : Mark) → is_mark m (k.mark m) ≡ true
mark_self m = true_same the_mark.the_type m m refl

pub word_true : (w : Word) (x : Kind) → is_word w x ≡ true → x ≡ k.word w
word_true w (k.word v) e = ap k.word (same_true the_word.the_type tt v w e)
word_true w (k.mark m) e = cc
word_true w (k.name u) e = cc
word_true w (k.number z) e = cc
word_true w (k.text u) e = cc
word_true w k.end e = cc
word_true w (k.stop c) e = cc
word_true w (k.due p) e = cc

pub word_self : (w : Word) → is_word w (k.word w) ≡ true
word_self w = true_same the_word.the_type w w refl

pub end_true : (x : Kind) → is_end x ≡ true → x ≡ k.end
end_true k.end e = refl
end_true _ e = cc

pub remedy_true : (x : Kind) → is_remedy x ≡ true → x ≡ k.due k.remedy
remedy_true (k.due k.remedy) e = refl
remedy_true _ e = cc

pub element_true : (x : Kind) → is_element x ≡ true → x ≡ k.due k.element
element_true (k.due k.element) e = refl
element_true _ e = cc

-- ---- what a token begins

pub data IsHead : Kind → Head → Type 0 where
  literal : {x : Kind} {p : Prim} → literal_of x ≡ Some p → IsHead x (r.is_literal p)
  variable : {x : Kind} {n : List ℕ} → variable_of x ≡ Some n → IsHead x (r.is_variable n)
  this : IsHead (k.word word.This) r.is_this
  function : IsHead (k.word word.Function) r.is_function
  new : IsHead (k.word word.New) r.is_new
  paren : IsHead (k.mark mark.OpenParen) r.is_paren
  array : IsHead (k.mark mark.OpenBracket) r.is_array
  object : IsHead (k.mark mark.OpenBrace) r.is_object
  operand : IsHead (k.due k.operand) r.is_operand
  none : {x : Kind} → literal_of x ≡ None → variable_of x ≡ None → IsHead x r.no_head

by_tables : (p : Option Prim) (v : Option (List ℕ)) (x : Kind) → literal_of x ≡ p → variable_of x ≡ v → IsHead x (head_by p v x)
by_tables (Some p) v x e f = literal e
by_tables None (Some n) x e f = variable f
by_tables None None (k.word word.This) e f = this
by_tables None None (k.word word.Function) e f = function
by_tables None None (k.word word.New) e f = new
by_tables None None (k.mark mark.OpenParen) e f = paren
by_tables None None (k.mark mark.OpenBracket) e f = array
by_tables None None (k.mark mark.OpenBrace) e f = object
by_tables None None (k.due k.operand) e f = operand
by_tables None None _ e f = none e f

pub head_is : (x : Kind) → IsHead x (head_of x)
unfolding head_of
head_is x = by_tables (literal_of x) (variable_of x) x refl refl

-- the token of a variable
pub data IsVariable : Kind → List ℕ → Type 0 where
  name : {n : List ℕ} → refused_name n ≡ None → IsVariable (k.name n) n
  any : IsVariable (k.due k.variable) []

by_refusal : (c : Option Construct) (n v : List ℕ) → refused_name n ≡ c → allowed c n ≡ Some v → IsVariable (k.name n) v
by_refusal None n v e f = let same : n ≡ v = cc in let P : List ℕ → Type 0 = λ u. IsVariable (k.name n) u in Rattle.std.proofs.Common.subst P same (name e)
by_refusal (Some c) n v e f = cc

pub variable_is : (x : Kind) (v : List ℕ) → variable_of x ≡ Some v → IsVariable x v
variable_is (k.name n) v e = by_refusal (refused_name n) n v refl e
variable_is (k.due k.variable) v e = let same : ◌≡◌ {A = List ℕ} [] v = cc in let P : List ℕ → Type 0 = λ u. IsVariable (k.due k.variable) u in Rattle.std.proofs.Common.subst P same any
variable_is _ v e = cc

pub data IsSuffix : Kind → Suffix → Type 0 where
  dot : IsSuffix (k.mark mark.Dot) r.by_dot
  bracket : IsSuffix (k.mark mark.OpenBracket) r.by_bracket
  call : IsSuffix (k.mark mark.OpenParen) r.by_call
  none : {x : Kind} → IsSuffix x r.no_suffix

pub suffix_is : (calls : Bool) (x : Kind) → IsSuffix x (suffix_of calls x)
suffix_is true (k.mark mark.Dot) = dot
suffix_is true (k.mark mark.OpenBracket) = bracket
suffix_is true (k.mark mark.OpenParen) = call
suffix_is true _ = none
suffix_is false (k.mark mark.Dot) = dot
suffix_is false (k.mark mark.OpenBracket) = bracket
suffix_is false _ = none

pub data IsClause : Kind → Clause → Type 0 where
  «case» : IsClause (k.word word.Case) r.is_case
  default : IsClause (k.word word.Default) r.is_default
  close : IsClause (k.mark mark.CloseBrace) r.is_close
  none : {x : Kind} → IsClause x r.no_clause

pub clause_is : (x : Kind) → IsClause x (clause_of x)
clause_is (k.word word.Case) = «case»
clause_is (k.word word.Default) = default
clause_is (k.mark mark.CloseBrace) = close
clause_is _ = none

pub data IsStart : Kind → Start → Type 0 where
  block : IsStart (k.mark mark.OpenBrace) r.is_block
  empty : IsStart (k.mark mark.Semicolon) r.is_empty
  vars : IsStart (k.word word.Var) r.is_vars
  if : IsStart (k.word word.If) r.is_if
  do_while : IsStart (k.word word.Do) r.is_do
  while : IsStart (k.word word.While) r.is_while
  for : IsStart (k.word word.For) r.is_for
  continue : IsStart (k.word word.Continue) r.is_continue
  break : IsStart (k.word word.Break) r.is_break
  return : IsStart (k.word word.Return) r.is_return
  switch : IsStart (k.word word.Switch) r.is_switch
  throw : IsStart (k.word word.Throw) r.is_throw
  try : IsStart (k.word word.Try) r.is_try
  declaration : IsStart (k.word word.Function) r.is_declaration
  any_statement : IsStart (k.due k.statement) r.is_any
  name : {n : List ℕ} → IsStart (k.name n) (r.is_name n)
  plain : {x : Kind} → opens_no_expression x ≡ false → IsStart x r.is_plain

pub start_is : (x : Kind) → IsStart x (start_of x)
start_is (k.mark mark.OpenBrace) = block
start_is (k.mark mark.Semicolon) = empty
start_is (k.word word.Var) = vars
start_is (k.word word.If) = if
start_is (k.word word.Do) = do_while
start_is (k.word word.While) = while
start_is (k.word word.For) = for
start_is (k.word word.Continue) = continue
start_is (k.word word.Break) = break
start_is (k.word word.Return) = return
start_is (k.word word.Switch) = switch
start_is (k.word word.Throw) = throw
start_is (k.word word.Try) = try
start_is (k.word word.Function) = declaration
start_is (k.due k.statement) = any_statement
start_is (k.name n) = name
start_is _ = plain refl

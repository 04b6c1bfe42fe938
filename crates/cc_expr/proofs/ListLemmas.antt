-- One turn of the lists of expressions and of the fields of an object.
use Rattle.std.proofs.Common.{◌≡◌, ◌∙◌, refl, ap, ℕ, suc, max, Bool, true, false, List, [], ◌∷◌, ◌++◌, Ok, Err, if◌then◌else◌}
use Rattle.cc_ast.specs.declared.reading.Construct.TheVariants as construct
use Rattle.cc_lexer.specs.declared.token.Mark.{Mark}
use Rattle.cc_lexer.specs.declared.token.Mark.TheVariants as mark
use Rattle.cc_grammar.specs.RawTree as S
use Rattle.cc_grammar.specs.Reading.{Outcome, Sized, and_then, is_element, refused, look_token, rest_tokens}
use Rattle.cc_grammar.specs.ReadingExpressions.{elements, arguments, object_fields}
use Rattle.cc_grammar.specs.Symbols.{is_mark}
use Rattle.cc_cursor.specs.declared.limits.Limits.{Limits}
use Rattle.cc_cursor.specs.Reads.{Tokens, within, expect}
use Rattle.cc_expr.specs.Expressions as spec

abbrev limits : ℕ → ℕ → Limits
limits t d = record { turns = t; depth = d }

abbrev Reader : Type 0 → Type 0
Reader A = Tokens → Outcome Tokens A

abbrev choose : {A : Type 0} → Bool → Reader A → Reader A → Reader A
choose b p q = if b then p else q

-- ---- behind an item

-- what follows an item of a list, where the list goes on and where it doesn't
abbrev pub goes : {A : Type 0} → ℕ → (A → ℕ → Reader (Sized A)) → Sized A × Bool → Reader (Sized A)
goes h again x l = if x.1 then again x.0.0 (max h x.0.1) l else Ok ((x.0.0, max h x.0.1), l)

-- the same as the grammar has it
abbrev comma_or : {A : Type 0} → Mark → ℕ → (A → ℕ → Reader (Sized A)) → Sized A → Bool → Reader (Sized A)
comma_or k h again x b = choose b (λ i. again x.0 (max h x.1) (rest_tokens i)) (λ i. and_then (expect k i) (λ _ l. Ok ((x.0, max h x.1), l)))

closes : {A : Type 0} (h : ℕ) (again : A → ℕ → Reader (Sized A)) (x : Sized A) (o : Outcome Tokens (Unit {0}))
    → and_then o (λ _ l. Ok ((x.0, max h x.1), l)) ≡ and_then (and_then (and_then o (λ _ l. Ok (false, l))) (λ c l. Ok ((x, c), l))) (goes h again)
closes h again x (Ok p) = refl
closes h again x (Err f) = refl

goes_by : {A : Type 0} (k : Mark) (h : ℕ) (again : A → ℕ → Reader (Sized A)) (x : Sized A) (b : Bool) (j : Tokens)
    → comma_or k h again x b j
    ≡ and_then (and_then (if b then Ok (true, rest_tokens j) else and_then (expect k j) (λ _ l. Ok (false, l))) (λ c l. Ok ((x, c), l))) (goes h again)
goes_by k h again x true j = refl
goes_by k h again x false j = closes h again x (expect k j)

item_same : {X A : Type 0} (o : Outcome Tokens (Sized X)) (put : X → A) (k : Mark) (h : ℕ) (again : A → ℕ → Reader (Sized A))
    → and_then o (λ x j. comma_or k h again (put x.0, x.1) (is_mark mark.Comma (look_token j).kind) j)
    ≡ and_then (and_then o (λ x j. and_then (spec.continues k j) (λ c l. Ok (((put x.0, x.1), c), l)))) (goes h again)
item_same (Ok q) put k h again = goes_by k h again (put q.0.0, q.0.1) (is_mark mark.Comma (look_token q.1).kind) q.1
item_same (Err x) put k h again = refl

-- ---- arguments

pub arguments_turn : (t d turns : ℕ) (found : List S.RawExpr) (h : ℕ) (i : Tokens)
    → spec.arguments (limits t d) (suc turns) found h i ≡ and_then (spec.pushed (limits t d) mark.CloseParen found i) (goes h (spec.arguments (limits t d) turns))
unfolding arguments
arguments_turn t d turns found h i = item_same ((within (limits t d)).expr true 1 i) (λ e. found ++ e ∷ []) mark.CloseParen h (spec.arguments (limits t d) turns)

-- ---- fields

abbrev field_on : Limits → ℕ → List S.RawField → ℕ → Reader (Sized (List S.RawField))
field_on m turns found h i = and_then (spec.field m i) (λ x j. comma_or mark.CloseBrace h (spec.object_fields m turns) (found ++ x.0 ∷ [], x.1) (is_mark mark.Comma (look_token j).kind) j)

abbrev by_brace : Limits → ℕ → List S.RawField → ℕ → Bool → Reader (Sized (List S.RawField))
by_brace m turns found h b = choose b (λ i. Ok ((found, h), rest_tokens i)) (field_on m turns found h)

fields_opened : (t d turns : ℕ) (found : List S.RawField) (h : ℕ) (i : Tokens)
    → spec.object_fields (limits t d) (suc turns) found h i ≡ by_brace (limits t d) turns found h (is_mark mark.CloseBrace (look_token i).kind) i
unfolding object_fields
fields_opened t d turns found h i = refl

pub fields_end : (t d turns : ℕ) (found : List S.RawField) (h : ℕ) (i : Tokens) → is_mark mark.CloseBrace (look_token i).kind ≡ true
    → spec.object_fields (limits t d) (suc turns) found h i ≡ Ok ((found, h), rest_tokens i)
fields_end t d turns found h i e = fields_opened t d turns found h i ∙ ap (λ b. by_brace (limits t d) turns found h b i) e

pub fields_turn : (t d turns : ℕ) (found : List S.RawField) (h : ℕ) (i : Tokens) → is_mark mark.CloseBrace (look_token i).kind ≡ false
    → spec.object_fields (limits t d) (suc turns) found h i ≡ and_then (spec.pushed_field (limits t d) found i) (goes h (spec.object_fields (limits t d) turns))
fields_turn t d turns found h i e = fields_opened t d turns found h i ∙ ap (λ b. by_brace (limits t d) turns found h b i) e
    ∙ item_same (spec.field (limits t d) i) (λ x. found ++ x ∷ []) mark.CloseBrace h (spec.object_fields (limits t d) turns)

-- ---- elements

abbrev element_on : Limits → ℕ → List S.RawExpr → ℕ → Reader (Sized (List S.RawExpr))
element_on m turns found h i = and_then ((within m).expr true 1 i) (λ x j. comma_or mark.CloseBracket h (spec.elements m turns) (found ++ x.0 ∷ [], x.1) (is_mark mark.Comma (look_token j).kind) j)

abbrev hole : {A : Type 0} → Reader A
hole i = Err (record { cause = refused construct.Hole; place = (look_token i).place }, i)

abbrev by_hole : Limits → ℕ → List S.RawExpr → ℕ → Bool → Reader (Sized (List S.RawExpr))
by_hole m turns found h b = choose b hole (element_on m turns found h)

abbrev by_due : Limits → ℕ → List S.RawExpr → ℕ → Bool → Bool → Reader (Sized (List S.RawExpr))
by_due m turns found h u b = choose u (λ i. and_then (expect mark.CloseBracket (rest_tokens i)) (λ _ l. Ok ((found, h), l))) (by_hole m turns found h b)

abbrev by_bracket : Limits → ℕ → List S.RawExpr → ℕ → Bool → Bool → Bool → Reader (Sized (List S.RawExpr))
by_bracket m turns found h c u b = choose c (λ i. Ok ((found, h), rest_tokens i)) (by_due m turns found h u b)

elements_opened : (t d turns : ℕ) (found : List S.RawExpr) (h : ℕ) (i : Tokens)
    → spec.elements (limits t d) (suc turns) found h i
    ≡ by_bracket (limits t d) turns found h (is_mark mark.CloseBracket (look_token i).kind) (is_element (look_token i).kind) (is_mark mark.Comma (look_token i).kind) i
unfolding elements
elements_opened t d turns found h i = refl

pub elements_end : (t d turns : ℕ) (found : List S.RawExpr) (h : ℕ) (i : Tokens) → is_mark mark.CloseBracket (look_token i).kind ≡ true
    → spec.elements (limits t d) (suc turns) found h i ≡ Ok ((found, h), rest_tokens i)
elements_end t d turns found h i e = elements_opened t d turns found h i
    ∙ ap (λ c. by_bracket (limits t d) turns found h c (is_element (look_token i).kind) (is_mark mark.Comma (look_token i).kind) i) e

element_by : (t d turns : ℕ) (found : List S.RawExpr) (h : ℕ) (i : Tokens) (b : Bool)
    → by_hole (limits t d) turns found h b i ≡ and_then (if b then hole i else spec.pushed (limits t d) mark.CloseBracket found i) (goes h (spec.elements (limits t d) turns))
element_by t d turns found h i true = refl
element_by t d turns found h i false = item_same ((within (limits t d)).expr true 1 i) (λ e. found ++ e ∷ []) mark.CloseBracket h (spec.elements (limits t d) turns)

pub elements_turn : (t d turns : ℕ) (found : List S.RawExpr) (h : ℕ) (i : Tokens) → is_mark mark.CloseBracket (look_token i).kind ≡ false → is_element (look_token i).kind ≡ false
    → spec.elements (limits t d) (suc turns) found h i ≡ and_then (spec.element (limits t d) found i) (goes h (spec.elements (limits t d) turns))
elements_turn t d turns found h i e u = elements_opened t d turns found h i
    ∙ ap (λ c. by_bracket (limits t d) turns found h c (is_element (look_token i).kind) (is_mark mark.Comma (look_token i).kind) i) e
    ∙ ap (λ c. by_due (limits t d) turns found h c (is_mark mark.Comma (look_token i).kind) i) u
    ∙ element_by t d turns found h i (is_mark mark.Comma (look_token i).kind)

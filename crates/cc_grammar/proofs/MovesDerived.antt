-- What is derived before one list is derived before another.
use Rattle.std.specs.Prelude.{ℕ, Bool, List, [], ◌∷◌, Option}
use Rattle.std.proofs.Common.{refl, ap, ◌∙◌, subst, arith}
use Rattle.cc_lexer.specs.declared.word.Word.TheVariants as word
use Rattle.cc_grammar.specs.Symbols.{Lexeme, Symbols, real, inserted}
use Rattle.cc_grammar.specs.RawTree.{RawExpr, RawStmt, RawField, RawDeclarator, RawCase, RawInit, RawCatch, RawFinally, MaybeExpr, Named}
use Rattle.cc_grammar.specs.RawTree as raw
use Rattle.cc_grammar.specs.Grammar as g
use Rattle.cc_grammar.specs.Grammar.{Context, Ends, Variable, OwnName, Params, MoreParams, E, Elements, Field, Fields, Arguments, MoreArguments, Function, Declarator, Declarators, Init, Optional, Cases, Catch, Finally, T, Body, opens_no_expression}
use Rattle.cc_grammar.proofs.Shrinks.{e_less, ends_less, t_less, catch_less, finally_less, cases_less}
use Rattle.cc_grammar.proofs.Moves.{stays, one, joined, behind, before_token, Moved, MovedTo, same, look_kept, kept_fits, fits_front, still_no}

pub ends_move : {xs ys : Symbols} → Ends xs ys → Moved Ends xs ys
ends_move (g.written (g.at_token t {ys} q)) = record { front = one (real t) ys; holds = λ zs. g.written (g.at_token t q) }
ends_move (g.added {ys}) = record { front = one inserted ys; holds = λ zs. g.added }

pub own_moves : {w : Option Named} {xs ys : Symbols} → OwnName xs w ys → Moved (λ us vs. OwnName us w vs) xs ys
own_moves (g.no_name {xs}) = record { front = stays xs; holds = λ zs. g.no_name }
own_moves (g.own_name (g.variable (g.at_token t {ys} q) e)) = record { front = one (real t) ys; holds = λ zs. g.own_name (g.variable (g.at_token t q) e) }
own_moves (g.own_name (g.any_variable (g.at_token t {ys} q))) = record { front = one (real t) ys; holds = λ zs. g.own_name (g.any_variable (g.at_token t q)) }

pub more_params_move : {ps : List Named} {xs ys : Symbols} → MoreParams xs ps ys → Moved (λ us vs. MoreParams us ps vs) xs ys
more_params_move (g.last_param (g.variable (g.at_token t q) e) (g.at_token u {ys} r)) = record { front = behind t (one (real u) ys); holds = λ zs. g.last_param (g.variable (g.at_token t q) e) (g.at_token u r) }
more_params_move (g.last_param (g.any_variable (g.at_token t q)) (g.at_token u {ys} r)) = record { front = behind t (one (real u) ys); holds = λ zs. g.last_param (g.any_variable (g.at_token t q)) (g.at_token u r) }
more_params_move (g.more_params (g.variable (g.at_token t q) e) (g.at_token u r) x) = let m = more_params_move x in
    record { front = behind t (behind u m.front); holds = λ zs. g.more_params (g.variable (g.at_token t q) e) (g.at_token u r) (m.holds zs) }
more_params_move (g.more_params (g.any_variable (g.at_token t q)) (g.at_token u r) x) = let m = more_params_move x in
    record { front = behind t (behind u m.front); holds = λ zs. g.more_params (g.any_variable (g.at_token t q)) (g.at_token u r) (m.holds zs) }

pub params_move : {ps : List Named} {xs ys : Symbols} → Params xs ps ys → Moved (λ us vs. Params us ps vs) xs ys
params_move (g.no_params (g.at_token t {ys} q)) = record { front = one (real t) ys; holds = λ zs. g.no_params (g.at_token t q) }
params_move (g.some_params x) = let m = more_params_move x in record { front = m.front; holds = λ zs. g.some_params (m.holds zs) }

mutual
  pub e_moves : {h l : ℕ} {n : Bool} {xs ys : Symbols} {e : RawExpr} → E h n l xs e ys → Moved (λ us vs. E h n l us e vs) xs ys
  e_moves (g.this (g.at_token t {ys} q)) = record { front = one (real t) ys; holds = λ zs. g.this (g.at_token t q) }
  e_moves (g.name (g.variable (g.at_token t {ys} q) e)) = record { front = one (real t) ys; holds = λ zs. g.name (g.variable (g.at_token t q) e) }
  e_moves (g.name (g.any_variable (g.at_token t {ys} q))) = record { front = one (real t) ys; holds = λ zs. g.name (g.any_variable (g.at_token t q)) }
  e_moves (g.literal (g.at_token t {ys} q) f) = record { front = one (real t) ys; holds = λ zs. g.literal (g.at_token t q) f }
  e_moves (g.operand (g.at_token t {ys} q)) = record { front = one (real t) ys; holds = λ zs. g.operand (g.at_token t q) }
  e_moves (g.paren lt (g.at_token t q) x (g.at_token u r)) = let m = e_moves x in
      record { front = behind t (before_token u m.front); holds = λ zs. g.paren lt (g.at_token t q) (m.holds (real u ∷ zs)) (g.at_token u r) }
  e_moves (g.array lt (g.at_token t q) x) = let m = elements_move x in record { front = behind t m.front; holds = λ zs. g.array lt (g.at_token t q) (m.holds zs) }
  e_moves (g.object lt (g.at_token t q) x) = let m = fields_move x in record { front = behind t m.front; holds = λ zs. g.object lt (g.at_token t q) (m.holds zs) }
  e_moves (g.function lt (g.at_token t q) w x) = let o = own_moves w in let m = function_moves x in
      record { front = behind t (joined o.front m.front); holds = λ zs. g.function lt (g.at_token t q) (o.holds (m.front.go zs)) (m.holds zs) }
  e_moves (g.dotted c v lt x (g.at_token t q) (g.at_token u r) p) = let m = e_moves x in
      record { front = before_token u (before_token t m.front); holds = λ zs. g.dotted c v lt (m.holds (real t ∷ real u ∷ zs)) (g.at_token t q) (g.at_token u r) p }
  e_moves (g.bracketed c v lt lu x (g.at_token t q) y (g.at_token u r)) = let m = e_moves x in let w = e_moves y in
      record { front = joined m.front (behind t (before_token u w.front)); holds = λ zs. g.bracketed c v lt lu (m.holds (real t ∷ w.front.go (real u ∷ zs))) (g.at_token t q) (w.holds (real u ∷ zs)) (g.at_token u r) }
  e_moves (g.call v lt lu x (g.at_token t q) y) = let m = e_moves x in let w = arguments_move y in
      record { front = joined m.front (behind t w.front); holds = λ zs. g.call v lt lu (m.holds (real t ∷ w.front.go zs)) (g.at_token t q) (w.holds zs) }
  e_moves (g.new_call v lt lu (g.at_token t q) x (g.at_token u r) y) = let m = e_moves x in let w = arguments_move y in
      record { front = behind t (joined m.front (behind u w.front)); holds = λ zs. g.new_call v lt lu (g.at_token t q) (m.holds (real u ∷ w.front.go zs)) (g.at_token u r) (w.holds zs) }
  e_moves (g.new v i lt (g.at_token t q) x) = let m = e_moves x in record { front = behind t m.front; holds = λ zs. g.new v i lt (g.at_token t q) (m.holds zs) }
  e_moves (g.postfix v lt x f a (g.at_token t q) p) = let m = e_moves x in record { front = before_token t m.front; holds = λ zs. g.postfix v lt (m.holds (real t ∷ zs)) f a (g.at_token t q) p }
  e_moves (g.prefix v lt (g.at_token t q) p x f) = let m = e_moves x in record { front = behind t m.front; holds = λ zs. g.prefix v lt (g.at_token t q) p (m.holds zs) f }
  e_moves (g.wrong_prefix v lt (g.at_token t q) p x f (g.at_token u r)) = let m = e_moves x in
      record { front = behind t (before_token u m.front); holds = λ zs. g.wrong_prefix v lt (g.at_token t q) p (m.holds (real u ∷ zs)) f (g.at_token u r) }
  e_moves (g.binary v lt lu x (g.at_token t q) p y) = let m = e_moves x in let w = e_moves y in
      record { front = joined m.front (behind t w.front); holds = λ zs. g.binary v lt lu (m.holds (real t ∷ w.front.go zs)) (g.at_token t q) p (w.holds zs) }
  e_moves (g.conditional v lt lu lv x (g.at_token t q) y (g.at_token u r) z) = let m = e_moves x in let w = e_moves y in let o = e_moves z in
      record { front = joined m.front (behind t (joined w.front (behind u o.front))); holds = λ zs. g.conditional v lt lu lv (m.holds (real t ∷ w.front.go (real u ∷ o.front.go zs))) (g.at_token t q) (w.holds (real u ∷ o.front.go zs)) (g.at_token u r) (o.holds zs) }
  e_moves (g.assign v lt lu x f (g.at_token t q) p y) = let m = e_moves x in let w = e_moves y in
      record { front = joined m.front (behind t w.front); holds = λ zs. g.assign v lt lu (m.holds (real t ∷ w.front.go zs)) f (g.at_token t q) p (w.holds zs) }
  e_moves (g.comma lt lu x (g.at_token t q) y) = let m = e_moves x in let w = e_moves y in
      record { front = joined m.front (behind t w.front); holds = λ zs. g.comma lt lu (m.holds (real t ∷ w.front.go zs)) (g.at_token t q) (w.holds zs) }

  pub elements_move : {h : ℕ} {xs ys : Symbols} {es : List RawExpr} → Elements h xs es ys → Moved (λ us vs. Elements h us es vs) xs ys
  elements_move (g.no_element (g.at_token t {ys} q)) = record { front = one (real t) ys; holds = λ zs. g.no_element (g.at_token t q) }
  elements_move (g.last_element x (g.at_token t q)) = let m = e_moves x in record { front = before_token t m.front; holds = λ zs. g.last_element (m.holds (real t ∷ zs)) (g.at_token t q) }
  elements_move (g.more_elements x (g.at_token t q) y) = let m = e_moves x in let w = elements_move y in
      record { front = joined m.front (behind t w.front); holds = λ zs. g.more_elements (m.holds (real t ∷ w.front.go zs)) (g.at_token t q) (w.holds zs) }
  elements_move (g.any_element (g.at_token t q) (g.at_token u {ys} r)) = record { front = behind t (one (real u) ys); holds = λ zs. g.any_element (g.at_token t q) (g.at_token u r) }

  pub field_moves : {h : ℕ} {xs ys : Symbols} {f : RawField} → Field h xs f ys → Moved (λ us vs. Field h us f vs) xs ys
  field_moves (g.field (g.at_token t q) e (g.at_token u r) x) = let m = e_moves x in
      record { front = behind t (behind u m.front); holds = λ zs. g.field (g.at_token t q) e (g.at_token u r) (m.holds zs) }

  pub fields_move : {h : ℕ} {xs ys : Symbols} {fs : List RawField} → Fields h xs fs ys → Moved (λ us vs. Fields h us fs vs) xs ys
  fields_move (g.no_field (g.at_token t {ys} q)) = record { front = one (real t) ys; holds = λ zs. g.no_field (g.at_token t q) }
  fields_move (g.last_field x (g.at_token t q)) = let m = field_moves x in record { front = before_token t m.front; holds = λ zs. g.last_field (m.holds (real t ∷ zs)) (g.at_token t q) }
  fields_move (g.more_fields x (g.at_token t q) y) = let m = field_moves x in let w = fields_move y in
      record { front = joined m.front (behind t w.front); holds = λ zs. g.more_fields (m.holds (real t ∷ w.front.go zs)) (g.at_token t q) (w.holds zs) }

  pub arguments_move : {h : ℕ} {xs ys : Symbols} {es : List RawExpr} → Arguments h xs es ys → Moved (λ us vs. Arguments h us es vs) xs ys
  arguments_move (g.no_argument (g.at_token t {ys} q)) = record { front = one (real t) ys; holds = λ zs. g.no_argument (g.at_token t q) }
  arguments_move (g.some_arguments x) = let m = more_arguments_move x in record { front = m.front; holds = λ zs. g.some_arguments (m.holds zs) }

  pub more_arguments_move : {h : ℕ} {xs ys : Symbols} {es : List RawExpr} → MoreArguments h xs es ys → Moved (λ us vs. MoreArguments h us es vs) xs ys
  more_arguments_move (g.last_argument x (g.at_token t q)) = let m = e_moves x in record { front = before_token t m.front; holds = λ zs. g.last_argument (m.holds (real t ∷ zs)) (g.at_token t q) }
  more_arguments_move (g.more_arguments x (g.at_token t q) y) = let m = e_moves x in let w = more_arguments_move y in
      record { front = joined m.front (behind t w.front); holds = λ zs. g.more_arguments (m.holds (real t ∷ w.front.go zs)) (g.at_token t q) (w.holds zs) }

  pub function_moves : {h : ℕ} {xs ys : Symbols} {ps : List Named} {b : List RawStmt} → Function h xs ps b ys → Moved (λ us vs. Function h us ps b vs) xs ys
  function_moves (g.function_body (g.at_token t q) p (g.at_token u r) x (g.at_token w z)) = let m = params_move p in let o = body_moves x in
      record { front = behind t (joined m.front (behind u (before_token w o.front))); holds = λ zs. g.function_body (g.at_token t q) (m.holds (real u ∷ o.front.go (real w ∷ zs))) (g.at_token u r) (o.holds (real w ∷ zs) (same refl)) (g.at_token w z) }

  pub declarator_moves : {h : ℕ} {n : Bool} {xs ys : Symbols} {v : RawDeclarator} → Declarator h n xs v ys → Moved (λ us vs. Declarator h n us v vs) xs ys
  declarator_moves (g.unset (g.variable (g.at_token t {ys} q) e)) = record { front = one (real t) ys; holds = λ zs. g.unset (g.variable (g.at_token t q) e) }
  declarator_moves (g.unset (g.any_variable (g.at_token t {ys} q))) = record { front = one (real t) ys; holds = λ zs. g.unset (g.any_variable (g.at_token t q)) }
  declarator_moves (g.set (g.variable (g.at_token t q) e) (g.at_token u r) x) = let m = e_moves x in
      record { front = behind t (behind u m.front); holds = λ zs. g.set (g.variable (g.at_token t q) e) (g.at_token u r) (m.holds zs) }
  declarator_moves (g.set (g.any_variable (g.at_token t q)) (g.at_token u r) x) = let m = e_moves x in
      record { front = behind t (behind u m.front); holds = λ zs. g.set (g.any_variable (g.at_token t q)) (g.at_token u r) (m.holds zs) }

  pub declarators_move : {h : ℕ} {n : Bool} {xs ys : Symbols} {vs : List RawDeclarator} → Declarators h n xs vs ys → Moved (λ us ws. Declarators h n us vs ws) xs ys
  declarators_move (g.last_declarator x) = let m = declarator_moves x in record { front = m.front; holds = λ zs. g.last_declarator (m.holds zs) }
  declarators_move (g.more_declarators x (g.at_token t q) y) = let m = declarator_moves x in let w = declarators_move y in
      record { front = joined m.front (behind t w.front); holds = λ zs. g.more_declarators (m.holds (real t ∷ w.front.go zs)) (g.at_token t q) (w.holds zs) }

  pub init_moves : {h : ℕ} {xs ys : Symbols} {a : RawInit} → Init h xs a ys → Moved (λ us vs. Init h us a vs) xs ys
  init_moves (g.no_init {xs}) = record { front = stays xs; holds = λ zs. g.no_init }
  init_moves (g.init_value x) = let m = e_moves x in record { front = m.front; holds = λ zs. g.init_value (m.holds zs) }
  init_moves (g.init_vars (g.at_token t q) x) = let m = declarators_move x in record { front = behind t m.front; holds = λ zs. g.init_vars (g.at_token t q) (m.holds zs) }

  pub optional_moves : {h : ℕ} {xs ys : Symbols} {e : MaybeExpr} → Optional h xs e ys → Moved (λ us vs. Optional h us e vs) xs ys
  optional_moves (g.absent {xs}) = record { front = stays xs; holds = λ zs. g.absent }
  optional_moves (g.present x) = let m = e_moves x in record { front = m.front; holds = λ zs. g.present (m.holds zs) }

  pub cases_move : {c : Context} {h : ℕ} {seen : Bool} {xs ys : Symbols} {cs : List RawCase} → Cases c h seen xs cs ys → Moved (λ us vs. Cases c h seen us cs vs) xs ys
  cases_move (g.no_case (g.at_token t {ys} q)) = record { front = one (real t) ys; holds = λ zs. g.no_case (g.at_token t q) }
  cases_move (g.case (g.at_token t q) x (g.at_token u r) y z) = let m = e_moves x in let w = body_moves y in let o = cases_move z in
      record { front = behind t (joined m.front (behind u (joined w.front o.front))); holds = λ zs. g.case (g.at_token t q) (m.holds (real u ∷ w.front.go (o.front.go zs))) (g.at_token u r) (w.holds (o.front.go zs) (kept_fits o.front (cases_less z) zs)) (o.holds zs) }
  cases_move (g.default (g.at_token t q) (g.at_token u r) y z) = let w = body_moves y in let o = cases_move z in
      record { front = behind t (behind u (joined w.front o.front)); holds = λ zs. g.default (g.at_token t q) (g.at_token u r) (w.holds (o.front.go zs) (kept_fits o.front (cases_less z) zs)) (o.holds zs) }

  pub catch_moves : {c : Context} {h : ℕ} {xs ys : Symbols} {f : RawCatch} → Catch c h xs f ys → MovedTo (λ us vs. Catch c h us f vs) xs ys
  catch_moves (g.caught (g.at_token t q) (g.at_token u r) (g.variable (g.at_token v w) e) (g.at_token o p) b x) = let m = t_moves x in
      record { front = behind t (behind u (behind v (behind o m.front))); holds = λ zs f. g.caught (g.at_token t q) (g.at_token u r) (g.variable (g.at_token v w) e) (g.at_token o p) (ap (λ z. z.kind) (look_kept m.front (t_less x) zs) ∙ b) (m.holds zs f) }
  catch_moves (g.caught (g.at_token t q) (g.at_token u r) (g.any_variable (g.at_token v w)) (g.at_token o p) b x) = let m = t_moves x in
      record { front = behind t (behind u (behind v (behind o m.front))); holds = λ zs f. g.caught (g.at_token t q) (g.at_token u r) (g.any_variable (g.at_token v w)) (g.at_token o p) (ap (λ z. z.kind) (look_kept m.front (t_less x) zs) ∙ b) (m.holds zs f) }

  pub finally_moves : {c : Context} {h : ℕ} {xs ys : Symbols} {f : RawFinally} → Finally c h xs f ys → MovedTo (λ us vs. Finally c h us f vs) xs ys
  finally_moves (g.finally (g.at_token t q) b x) = let m = t_moves x in
      record { front = behind t m.front; holds = λ zs f. g.finally (g.at_token t q) (ap (λ z. z.kind) (look_kept m.front (t_less x) zs) ∙ b) (m.holds zs f) }

  pub t_moves : {c : Context} {h : ℕ} {xs ys : Symbols} {b : List RawStmt} → T c h xs b ys → MovedTo (λ us vs. T c h us b vs) xs ys
  t_moves (g.block lt (g.at_token t q) x (g.at_token u r)) = let m = body_moves x in
      record { front = behind t (before_token u m.front); holds = λ zs _. g.block lt (g.at_token t q) (m.holds (real u ∷ zs) (same refl)) (g.at_token u r) }
  t_moves (g.vars (g.at_token t q) x e) = let m = declarators_move x in let w = ends_move e in
      record { front = behind t (joined m.front w.front); holds = λ zs _. g.vars (g.at_token t q) (m.holds (w.front.go zs)) (w.holds zs) }
  t_moves (g.empty (g.at_token t {ys} q)) = record { front = one (real t) ys; holds = λ zs _. g.empty (g.at_token t q) }
  t_moves (g.simple {c} {d} {e = v} {xs} b x e) = let m = e_moves x in let w = ends_move e in let f = joined m.front w.front in
      record {
        front = f;
        holds = λ zs _. let kept = look_kept f (omega (arith, e_less x, ends_less e)) zs in
            subst (λ (z : Lexeme). T c d (f.go zs) (raw.simple z.place v ∷ []) zs) kept (g.simple (ap (λ z. opens_no_expression z.kind) kept ∙ b) (m.holds (w.front.go zs)) (w.holds zs));
      }
  t_moves (g.if_else lt lu lv (g.at_token t q) (g.at_token u r) x (g.at_token v w) y (g.at_token o p) z) = let m = e_moves x in let a = t_moves y in let b = t_moves z in
      record {
        front = behind t (behind u (joined m.front (behind v (joined a.front (behind o b.front)))));
        holds = λ zs f.
            g.if_else lt lu lv (g.at_token t q) (g.at_token u r) (m.holds (real v ∷ a.front.go (real o ∷ b.front.go zs))) (g.at_token v w) (a.holds (real o ∷ b.front.go zs) (same refl)) (g.at_token o p) (b.holds zs f);
      }
  t_moves (g.if_only lt lu (g.at_token t q) (g.at_token u r) x (g.at_token v w) y n) = let m = e_moves x in let a = t_moves y in
      record {
        front = behind t (behind u (joined m.front (behind v a.front)));
        holds = λ zs f.
            g.if_only lt lu (g.at_token t q) (g.at_token u r) (m.holds (real v ∷ a.front.go zs)) (g.at_token v w) (a.holds zs f) (still_no word.Else refl n f);
      }
  t_moves (g.do_while lt lu (g.at_token t q) x (g.at_token u r) (g.at_token v w) y (g.at_token o p) e) = let m = t_moves x in let a = e_moves y in let b = ends_move e in
      record {
        front = behind t (joined m.front (behind u (behind v (joined a.front (behind o b.front)))));
        holds = λ zs _.
            g.do_while lt lu (g.at_token t q) (m.holds (real u ∷ real v ∷ a.front.go (real o ∷ b.front.go zs)) (same refl)) (g.at_token u r) (g.at_token v w) (a.holds (real o ∷ b.front.go zs)) (g.at_token o p) (b.holds zs);
      }
  t_moves (g.while lt lu (g.at_token t q) (g.at_token u r) x (g.at_token v w) y) = let m = e_moves x in let a = t_moves y in
      record { front = behind t (behind u (joined m.front (behind v a.front))); holds = λ zs f. g.while lt lu (g.at_token t q) (g.at_token u r) (m.holds (real v ∷ a.front.go zs)) (g.at_token v w) (a.holds zs f) }
  t_moves (g.for lt lu (g.at_token t q) (g.at_token u r) i (g.at_token v w) x (g.at_token o p) y (g.at_token j l) z) =
      let a = init_moves i in let b = optional_moves x in let c = optional_moves y in let d = t_moves z in
      record {
        front = behind t (behind u (joined a.front (behind v (joined b.front (behind o (joined c.front (behind j d.front)))))));
        holds = λ zs f.
            g.for lt lu (g.at_token t q) (g.at_token u r) (a.holds (real v ∷ b.front.go (real o ∷ c.front.go (real j ∷ d.front.go zs)))) (g.at_token v w) (b.holds (real o ∷ c.front.go (real j ∷ d.front.go zs))) (g.at_token o p)
            (c.holds (real j ∷ d.front.go zs)) (g.at_token j l) (d.holds zs f);
      }
  t_moves (g.for_in lt lu (g.at_token t q) (g.at_token u r) x m (g.at_token v w) y (g.at_token o p) z) = let a = e_moves x in let b = e_moves y in let d = t_moves z in
      record {
        front = behind t (behind u (joined a.front (behind v (joined b.front (behind o d.front)))));
        holds = λ zs f.
            g.for_in lt lu (g.at_token t q) (g.at_token u r) (a.holds (real v ∷ b.front.go (real o ∷ d.front.go zs))) m (g.at_token v w) (b.holds (real o ∷ d.front.go zs)) (g.at_token o p) (d.holds zs f);
      }
  t_moves (g.for_in_var lt lu (g.at_token t q) (g.at_token u r) (g.at_token j l) x (g.at_token v w) y (g.at_token o p) z) = let a = declarator_moves x in let b = e_moves y in let d = t_moves z in
      record {
        front = behind t (behind u (behind j (joined a.front (behind v (joined b.front (behind o d.front))))));
        holds = λ zs f.
            g.for_in_var lt lu (g.at_token t q) (g.at_token u r) (g.at_token j l) (a.holds (real v ∷ b.front.go (real o ∷ d.front.go zs))) (g.at_token v w) (b.holds (real o ∷ d.front.go zs)) (g.at_token o p) (d.holds zs f);
      }
  t_moves (g.continue a (g.at_token t q) e) = let w = ends_move e in record { front = behind t w.front; holds = λ zs _. g.continue a (g.at_token t q) (w.holds zs) }
  t_moves (g.continue_to a (g.at_token t q) s (g.at_token u r) i e) = let w = ends_move e in
      record { front = behind t (behind u w.front); holds = λ zs _. g.continue_to a (g.at_token t q) s (g.at_token u r) i (w.holds zs) }
  t_moves (g.break a (g.at_token t q) e) = let w = ends_move e in record { front = behind t w.front; holds = λ zs _. g.break a (g.at_token t q) (w.holds zs) }
  t_moves (g.break_to (g.at_token t q) s (g.at_token u r) i e) = let w = ends_move e in
      record { front = behind t (behind u w.front); holds = λ zs _. g.break_to (g.at_token t q) s (g.at_token u r) i (w.holds zs) }
  t_moves (g.return a (g.at_token t q) e) = let w = ends_move e in record { front = behind t w.front; holds = λ zs _. g.return a (g.at_token t q) (w.holds zs) }
  t_moves (g.return_value a (g.at_token t q) s x e) = let m = e_moves x in let w = ends_move e in
      record { front = behind t (joined m.front w.front); holds = λ zs _. g.return_value a (g.at_token t q) (ap (λ z. z.after_line) (look_kept m.front (e_less x) (w.front.go zs)) ∙ s) (m.holds (w.front.go zs)) (w.holds zs) }
  t_moves (g.switch lt lu (g.at_token t q) (g.at_token u r) x (g.at_token v w) (g.at_token o p) y) = let m = e_moves x in let a = cases_move y in
      record { front = behind t (behind u (joined m.front (behind v (behind o a.front)))); holds = λ zs _. g.switch lt lu (g.at_token t q) (g.at_token u r) (m.holds (real v ∷ real o ∷ a.front.go zs)) (g.at_token v w) (g.at_token o p) (a.holds zs) }
  t_moves (g.label lt (g.at_token t q) (g.at_token u r) i x) = let m = t_moves x in record { front = behind t (behind u m.front); holds = λ zs f. g.label lt (g.at_token t q) (g.at_token u r) i (m.holds zs f) }
  t_moves (g.half_label (g.at_token t q) e (g.at_token u {ys} r)) = record { front = behind t (one (real u) ys); holds = λ zs _. g.half_label (g.at_token t q) e (g.at_token u r) }
  t_moves (g.throw (g.at_token t q) s x e) = let m = e_moves x in let w = ends_move e in
      record { front = behind t (joined m.front w.front); holds = λ zs _. g.throw (g.at_token t q) (ap (λ z. z.after_line) (look_kept m.front (e_less x) (w.front.go zs)) ∙ s) (m.holds (w.front.go zs)) (w.holds zs) }
  t_moves (g.try_catch lt lu (g.at_token t q) b x y n) = let m = t_moves x in let w = catch_moves y in
      record {
        front = behind t (joined m.front w.front);
        holds = λ zs f. g.try_catch lt lu (g.at_token t q) (ap (λ z. z.kind) (look_kept m.front (t_less x) (w.front.go zs)) ∙ b) (m.holds (w.front.go zs) (kept_fits w.front (catch_less y) zs)) (w.holds zs f)
            (still_no word.Finally refl n f);
      }
  t_moves (g.try_finally lt lu (g.at_token t q) b x y) = let m = t_moves x in let w = finally_moves y in
      record { front = behind t (joined m.front w.front); holds = λ zs f. g.try_finally lt lu (g.at_token t q) (ap (λ z. z.kind) (look_kept m.front (t_less x) (w.front.go zs)) ∙ b) (m.holds (w.front.go zs) (kept_fits w.front (finally_less y) zs)) (w.holds zs f) }
  t_moves (g.try_both lt lu lv (g.at_token t q) b x y z) = let m = t_moves x in let w = catch_moves y in let o = finally_moves z in
      record {
        front = behind t (joined m.front (joined w.front o.front));
        holds = λ zs f.
            g.try_both lt lu lv (g.at_token t q) (ap (λ z. z.kind) (look_kept m.front (t_less x) (w.front.go (o.front.go zs))) ∙ b) (m.holds (w.front.go (o.front.go zs)) (kept_fits w.front (catch_less y) (o.front.go zs)))
            (w.holds (o.front.go zs) (kept_fits o.front (finally_less z) zs)) (o.holds zs f);
      }
  t_moves (g.declare a lt (g.at_token t q) (g.variable (g.at_token u r) e) x) = let m = function_moves x in
      record { front = behind t (behind u m.front); holds = λ zs _. g.declare a lt (g.at_token t q) (g.variable (g.at_token u r) e) (m.holds zs) }
  t_moves (g.declare a lt (g.at_token t q) (g.any_variable (g.at_token u r)) x) = let m = function_moves x in
      record { front = behind t (behind u m.front); holds = λ zs _. g.declare a lt (g.at_token t q) (g.any_variable (g.at_token u r)) (m.holds zs) }
  t_moves (g.any_statement (g.at_token t {ys} q)) = record { front = one (real t) ys; holds = λ zs _. g.any_statement (g.at_token t q) }

  pub body_moves : {c : Context} {h : ℕ} {xs ys : Symbols} {b : List RawStmt} → Body c h xs b ys → MovedTo (λ us vs. Body c h us b vs) xs ys
  body_moves (g.done {xs}) = record { front = stays xs; holds = λ zs _. g.done }
  body_moves (g.next x y) = let m = t_moves x in let w = body_moves y in
      record { front = joined m.front w.front; holds = λ zs f. g.next (m.holds (w.front.go zs) (fits_front w.front zs f)) (w.holds zs f) }

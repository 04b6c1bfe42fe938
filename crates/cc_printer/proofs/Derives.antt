-- The tokens of a tree derive it.
use Rattle.std.specs.Prelude.{max, ◌≡◌, ℕ, zero, suc, pos, negsuc, ◌+◌, ◌-◌, ◌<◌, ◌≤◌, List, [], ◌∷◌, Bool, true, false, not, ◌||◌, ◌&&◌, cond, ◌⊎◌, Option, Some, None}
use Rattle.std.specs.Option.{option_map}
use Rattle.std.proofs.Common.{refl, inl, inr, sym, ap, subst, ◌∙◌, arith, ap₂}
use Rattle.cc_ast.specs.declared.operator.UnOp.{UnOp}
use Rattle.cc_ast.specs.declared.operator.UnOp.TheVariants as u
use Rattle.cc_ast.specs.declared.place.Place.{Place}
use Rattle.cc_ast.specs.Syntax.{Prim, undefined, null, truth, whole, text}
use Rattle.cc_lexer.specs.declared.token.Mark.TheVariants as m
use Rattle.cc_lexer.specs.declared.word.Word.TheVariants as word
use Rattle.cc_grammar.specs.Symbols.{Kind, Lexeme, Symbol, Symbols, real, look, is_word}
use Rattle.cc_grammar.specs.Symbols as k
use Rattle.cc_grammar.specs.RawTree.{RawExpr, RawTarget, RawExprs, MaybeExpr, RawFields, RawField, RawKey, RawDeclarators, RawDeclarator, RawInit, RawForTarget, RawStmt, RawStmts, RawCatch, RawFinally, RawCases, RawCase, Named}
use Rattle.cc_grammar.specs.RawTree as raw
use Rattle.cc_grammar.specs.Signs as sign
use Rattle.cc_grammar.specs.Grammar.{At, Chain, E, T, Body, Elements, Field, Fields, Arguments, MoreArguments, Function, Declarator, Declarators, Init, Optional, Cases, Catch, Finally, OwnName, MoreParams, Params, Variable, Context, of_function, inside, in_loop, in_switch, labelled, opens_no_expression}
use Rattle.cc_grammar.specs.Grammar as g
use Rattle.cc_printer.specs.Printing.{operator, prefix, stepping, assigning, identifier, literal, level_of, is_has, is_whole, needs, parens, braces, is_simple, is_loop_or_label, is_if, is_one, is_bare, is_bare_label, first_opens, names, own_name, otherwise, expr, target, exprs, fields, maybe, initial, declarators, init, stmt, stmts, catch, finally, cases}
use Rattle.cc_printer.specs.Bare.{bare_named}
use Rattle.cc_printer.specs.Printable.{stays_unary, PrintableNames, PrintableOwn, under_label, Printable, PrintableTarget, PrintableExprs, PrintableMaybe, PrintableFields, PrintableDeclarators, PrintableInit, PrintableStmt, PrintableStmts, PrintableCatch, PrintableCases}
use Rattle.cc_printer.specs.Heights.{enclosed_height, body_height, literal_height, height_initial, height, height_target, height_exprs, height_maybe, height_fields, height_declarators, height_init, height_stmt, height_stmts, height_cases}
use Rattle.cc_printer.specs.Placed.{symbols}
use Rattle.cc_printer.proofs.Kit.{here, infix_back, prefix_back, step_back, prefix_step_back, is_cast, stays_bare, tree_stays, free, levels, links, ap₃, ap₄}
use Rattle.cc_printer.proofs.Derived.{DerivedExpr, DerivedTarget, DerivedExprs, DerivedArguments, DerivedElements, DerivedFields, DerivedNames, DerivedMore, DerivedOwn, DerivedBody, DerivedOne, DerivedStmt, DerivedFunction, DerivedDeclarator, DerivedDeclarators, DerivedInit, DerivedMaybe, DerivedCases, DerivedCatch, DerivedFinally}
use Rattle.cc_printer.proofs.Words.{property_back, key_back}
use Rattle.cc_printer.proofs.Opens.{opens_expr}

no_cast : (a : RawExpr) → Printable a → is_cast a ≡ false
no_cast (raw.cast p a) h = absurd h
no_cast _ h = refl

module _ (f : List Kind → Place) where
  -- ---- what follows a statement

  abbrev pub NoTail : List Kind → Type 0
  NoTail ks = (is_word word.Else (look (symbols f ks)).kind ≡ false) × (is_word word.Finally (look (symbols f ks)).kind ≡ false)

  no_line : (ks : List Kind) → (look (symbols f ks)).after_line ≡ false
  no_line [] = refl
  no_line (x ∷ ks) = refl

  behind : (v : Bool) (a : RawExpr) (n : Bool) (ks : List Kind) → ((n : Bool) (ks : List Kind) → NoTail (expr a n ks)) → NoTail (parens v (expr a) n ks)
  behind true a n ks h = (refl, refl)
  behind false a n ks h = h n ks

  tail_prefix : (o : UnOp) (ks : List Kind) → NoTail (prefix o ∷ ks)
  tail_prefix u.Plus ks = (refl, refl)
  tail_prefix _ ks = (refl, refl)

  tail_literal : (v : Prim) (ks : List Kind) → NoTail (literal v ks)
  tail_literal undefined ks = (refl, refl)
  tail_literal null ks = (refl, refl)
  tail_literal (truth true) ks = (refl, refl)
  tail_literal (truth false) ks = (refl, refl)
  tail_literal (whole (pos n)) ks = (refl, refl)
  tail_literal (whole (negsuc n)) ks = (refl, refl)
  tail_literal (text t) ks = (refl, refl)

  mutual
    unfolding expr

    tail_expr : (a : RawExpr) (n : Bool) (ks : List Kind) → NoTail (expr a n ks)
    tail_expr (raw.lit p v) n ks = tail_literal v ks
    tail_expr (raw.var p v) n ks = (refl, refl)
    tail_expr (raw.this p) n ks = (refl, refl)
    tail_expr (raw.fun p o ps body) n ks = (refl, refl)
    tail_expr (raw.list p es) n ks = (refl, refl)
    tail_expr (raw.object p fs) n ks = (refl, refl)
    tail_expr (raw.unary p o e) n ks = tail_prefix o (parens (needs 13 n e) (expr e) n ks)
    tail_expr (raw.binary p o e x) n ks = behind _ e n _ (tail_expr e)
    tail_expr (raw.and p e x) n ks = behind _ e n _ (tail_expr e)
    tail_expr (raw.or p e x) n ks = behind _ e n _ (tail_expr e)
    tail_expr (raw.cond p e x y) n ks = behind _ e n _ (tail_expr e)
    tail_expr (raw.assign p o t e) n ks = tail_target t n _
    tail_expr (raw.step p true true t) n ks = (refl, refl)
    tail_expr (raw.step p false true t) n ks = (refl, refl)
    tail_expr (raw.step p up false t) n ks = tail_target t n _
    tail_expr (raw.member p e q v) n ks = behind _ e n _ (tail_expr e)
    tail_expr (raw.index p e x) n ks = behind _ e n _ (tail_expr e)
    tail_expr (raw.call p e es) n ks = behind _ e n _ (tail_expr e)
    tail_expr (raw.new p e es) n ks = (refl, refl)
    tail_expr (raw.comma p e x) n ks = behind _ e n _ (tail_expr e)
    tail_expr (raw.cast p e) n ks = tail_expr e n ks

    tail_target : (t : RawTarget) (n : Bool) (ks : List Kind) → NoTail (target t n ks)
    tail_target (raw.to_var p v) n ks = (refl, refl)
    tail_target (raw.to_member p e q v) n ks = behind _ e n _ (tail_expr e)
    tail_target (raw.to_index p e x) n ks = behind _ e n _ (tail_expr e)

  tail_stmt : (s : RawStmt) (ks : List Kind) → NoTail (stmt s ks)
  unfolding stmt
  tail_stmt (raw.simple p e) ks = behind _ e true _ (tail_expr e)
  tail_stmt (raw.vars p ds) ks = (refl, refl)
  tail_stmt _ ks = (refl, refl)

  tail_stmts : (ss : RawStmts) (ks : List Kind) → NoTail ks → NoTail (stmts ss ks)
  unfolding stmts
  tail_stmts raw.no_stmts ks h = h
  tail_stmts (raw.more_stmts s ss) ks h = tail_stmt s (stmts ss ks)

  tail_cases : (cs : RawCases) (ks : List Kind) → NoTail (cases cs ks)
  unfolding cases
  tail_cases raw.no_cases ks = (refl, refl)
  tail_cases (raw.more_cases raw.no_expr body cs) ks = (refl, refl)
  tail_cases (raw.more_cases (raw.one_expr e) body cs) ks = (refl, refl)

  -- ---- names

  more_names : (v : Named) (vs : List Named) (ks : List Kind) → PrintableNames (v ∷ vs) → DerivedMore (symbols f (names (v ∷ vs) ks)) (v ∷ vs) (symbols f ks)
  more_names v [] ks h = record { list = _; is = g.last_param (g.variable here h.0) here; same = refl }
  more_names v (x ∷ vs) ks h = let y = more_names x vs ks h.1 in record { list = _; is = g.more_params (g.variable here h.0) here y.is; same = ap (λ x. bare_named v ∷ x) y.same }

  some_names : (vs : List Named) (ks : List Kind) → PrintableNames vs → DerivedNames (symbols f (names vs ks)) vs (symbols f ks)
  some_names [] ks h = record { list = []; is = g.no_params here; same = refl }
  some_names (v ∷ vs) ks h = let y = more_names v vs ks h in record { list = y.list; is = g.some_params y.is; same = y.same }

  own : (o : Option Named) (ks : List Kind) → PrintableOwn o → DerivedOwn (symbols f (own_name o ks)) o (symbols f ks)
  own None ks h = record { own = None; is = g.no_name; same = refl }
  own (Some v) ks h = record { own = _; is = g.own_name (g.variable here h); same = refl }

  -- ---- operands

  abbrev Derives : RawExpr → Type 0
  Derives a = (d l : ℕ) (n : Bool) (ks : List Kind) → height a n ≤ d → l ≤ level_of a → (not n && is_has a) ≡ false → DerivedExpr d n l (symbols f (expr a n ks)) a (symbols f ks)

  -- in parentheses where it's asked, else where the level allows it
  wrapped : (a : RawExpr) (v : Bool) (d l : ℕ) (n : Bool) (ks : List Kind) → Derives a → enclosed_height v (height a) n ≤ d → (v ≡ false → (l ≤ level_of a) × ((not n && is_has a) ≡ false)) → DerivedExpr d n l (symbols f (parens v (expr a) n ks)) a (symbols f ks)
  wrapped a true d l n ks h w q = let x = h (d - 1) 0 true (k.mark m.CloseParen ∷ ks) (omega arith) (omega arith) refl in record { tree = x.tree; is = g.paren {h = d - 1} (omega arith) here x.is here; same = x.same; plain = x.plain }
  wrapped a false d l n ks h w q = h d l n ks (omega arith) (q refl).0 (q refl).1

  pub operand : (a : RawExpr) (d l : ℕ) (n : Bool) (ks : List Kind) → Derives a → enclosed_height (needs l n a) (height a) n ≤ d → DerivedExpr d n l (symbols f (parens (needs l n a) (expr a) n ks)) a (symbols f ks)
  operand a d l n ks h w = wrapped a (needs l n a) d l n ks h w (λ e. free (level_of a) l (not n && is_has a) e)

  -- where a chain goes on, perhaps with more reasons for parentheses
  linked : (a : RawExpr) (v : Bool) (d : ℕ) (n : Bool) (ks : List Kind) → Derives a → enclosed_height (needs 16 n a || v) (height a) n ≤ d → DerivedExpr d n (links (level_of a) (levels a)).level (symbols f (parens (needs 16 n a || v) (expr a) n ks)) a (symbols f ks)
  linked a v d n ks h w = wrapped a (needs 16 n a || v) d (links (level_of a) (levels a)).level n ks h w (λ e. let y = free (level_of a) 16 (not n && is_has a) (first e) in ((links (level_of a) (levels a)).high y.0, y.1)) where
    first : (needs 16 n a || v) ≡ false → needs 16 n a ≡ false
    first e = by (needs 16 n a) e where
      by : (x : Bool) → (x || v) ≡ false → x ≡ false
      by true e = e
      by false e = refl

  linked_plain : (a : RawExpr) (d : ℕ) (n : Bool) (ks : List Kind) → Derives a → enclosed_height (needs 16 n a) (height a) n ≤ d → DerivedExpr d n (links (level_of a) (levels a)).level (symbols f (parens (needs 16 n a) (expr a) n ks)) a (symbols f ks)
  linked_plain a d n ks h w = wrapped a (needs 16 n a) d (links (level_of a) (levels a)).level n ks h w (λ e. let y = free (level_of a) 16 (not n && is_has a) e in ((links (level_of a) (levels a)).high y.0, y.1))

  literal_derives : (v : Prim) (p : Place) (d l : ℕ) (n : Bool) (ks : List Kind) → literal_height v ≤ d → l ≤ level_of (raw.lit p v) → DerivedExpr d n l (symbols f (literal v ks)) (raw.lit p v) (symbols f ks)
  literal_derives undefined p d l n ks w q = record { tree = _; is = g.prefix {h = d - 1} q (omega arith) here refl (g.literal here refl) refl; same = refl; plain = refl }
  literal_derives null p d l n ks w q = record { tree = _; is = g.literal here refl; same = refl; plain = refl }
  literal_derives (truth true) p d l n ks w q = record { tree = _; is = g.literal here refl; same = refl; plain = refl }
  literal_derives (truth false) p d l n ks w q = record { tree = _; is = g.literal here refl; same = refl; plain = refl }
  literal_derives (whole (pos v)) p d l n ks w q = record { tree = _; is = g.literal here refl; same = refl; plain = refl }
  literal_derives (whole (negsuc v)) p d l n ks w q = record { tree = _; is = g.prefix {h = d - 1} q (omega arith) here refl (g.literal here refl) refl; same = refl; plain = refl }
  literal_derives (text t) p d l n ks w q = record { tree = _; is = g.literal here refl; same = refl; plain = refl }

  -- ---- bodies

  -- a body in braces, or as it stands
  enclosed : (x : RawStmts) (v : Bool) (c : Context) (d : ℕ) (ks : List Kind) → body_height v (height_stmts x) ≤ d
      → (v ≡ true → DerivedBody (inside c) (d - 1) (symbols f (stmts x (k.mark m.CloseBrace ∷ ks))) x (symbols f (k.mark m.CloseBrace ∷ ks)))
      → (v ≡ false → DerivedOne c d (symbols f (stmts x ks)) x (symbols f ks)) → DerivedOne c d (symbols f (braces v (stmts x) ks)) x (symbols f ks)
  enclosed x true c d ks w h i = let y = h refl in record { list = y.list; is = g.block {h = d - 1} (omega arith) here y.is here; same = y.same }
  enclosed x false c d ks w h i = i refl

  opposite : (v : Bool) → not v ≡ false → v ≡ true
  opposite true e = refl
  opposite false e = cc

  opened : (a : RawExpr) (zs : List Kind) (v : Bool) → v ≡ first_opens (expr a true zs) → opens_no_expression (look (symbols f (parens v (expr a) true zs))).kind ≡ false
  opened a zs true e = refl
  opened a zs false e = by (expr a true zs) e where
    by : (ts : List Kind) → false ≡ first_opens ts → opens_no_expression (look (symbols f ts)).kind ≡ false
    by [] e = refl
    by (t ∷ ts) e = sym e

  abbrev Follows : Bool → List Kind → Type 0
  Follows v ks = (v ≡ true) ⊎ NoTail ks

  abbrev DerivesStmts : RawStmts → Type 0
  DerivesStmts ss = (c : Context) (d : ℕ) (ks : List Kind) → PrintableStmts c ss → height_stmts ss ≤ d → NoTail ks → DerivedBody c d (symbols f (stmts ss ks)) ss (symbols f ks)

  abbrev DerivesOne : RawStmts → Type 0
  DerivesOne ss = (c : Context) (d : ℕ) (p : RawStmt → Bool) (ks : List Kind) → PrintableStmts c ss → height_stmts ss ≤ d → is_one p ss ≡ true → Follows (is_bare ss) ks → DerivedOne c d (symbols f (stmts ss ks)) ss (symbols f ks)

  -- a body whose context takes no declaration and no label
  inner : (x : RawStmts) (p : RawStmt → Bool) (c : Context) (d : ℕ) (ks : List Kind) → DerivesStmts x → DerivesOne x → PrintableStmts (inside c) x → PrintableStmts c x → body_height (not (is_one p x)) (height_stmts x) ≤ d
      → (is_one p x ≡ true → Follows (is_bare x) ks) → DerivedOne c d (symbols f (braces (not (is_one p x)) (stmts x) ks)) x (symbols f ks)
  inner x p c d ks h i gs gt w t = enclosed x (not (is_one p x)) c d ks w (λ e. let b = subst (λ v. body_height v (height_stmts x) ≤ d) e w in h (inside c) (d - 1) (k.mark m.CloseBrace ∷ ks) gs (omega (arith, b)) (refl, refl))
      (λ e. i c d p ks gt (subst (λ v. body_height v (height_stmts x) ≤ d) e w) (opposite (is_one p x) e) (t (opposite (is_one p x) e)))

  if_derives : (q : Place) (a : RawExpr) (x y : RawStmts) → Derives a → DerivesStmts x → DerivesOne x → DerivesStmts y → DerivesOne y → (c : Context) (d : ℕ) (ks : List Kind) → PrintableStmts (inside c) x → PrintableStmts (inside c) y
      → height_stmt (raw.if q a x y) ≤ d → NoTail ks → DerivedStmt c d (symbols f (stmt (raw.if q a x y) ks)) (raw.if q a x y) (symbols f ks)
  unfolding stmt
  if_derives q a x raw.no_stmts ha hx ox hy oy c d ks gx gy w t =
      let e = ha (d - 1) 0 true (k.mark m.CloseParen ∷ braces (not (is_bare x)) (stmts x) ks) (omega arith) (omega arith) refl in
      let b = inner x is_simple (inside c) (d - 1) ks hx ox gx gx (omega arith) (λ z. inl z) in
      record { tree = raw.if _ e.tree (raw.stmts b.list) raw.no_stmts; is = g.if_only {h = d - 1} {i = d - 1} (omega arith) (omega arith) here here e.is here b.is t.0; same = ap₂ (λ x y. raw.if k.nowhere x y raw.no_stmts) e.same b.same }
  if_derives q a x (raw.more_stmts z zs) ha hx ox hy oy c d ks gx gy w t =
      let y = raw.more_stmts z zs in
      let e = ha (d - 1) 0 true (k.mark m.CloseParen ∷ braces (not (is_bare x)) (stmts x) (otherwise y (stmts y) ks)) (omega arith) (omega arith) refl in
      let b = inner x is_simple (inside c) (d - 1) (otherwise y (stmts y) ks) hx ox gx gx (omega arith) (λ z. inl z) in
      let o = inner y (λ s. is_simple s || is_if s) (inside c) (d - 1) ks hy oy gy gy (omega arith) (λ z. inr t) in
      record { tree = raw.if _ e.tree (raw.stmts b.list) (raw.stmts o.list); is = g.if_else {h = d - 1} {i = d - 1} {j = d - 1} (omega arith) (omega arith) (omega arith) here here e.is here b.is here o.is; same = ap₃ (λ x y z. raw.if k.nowhere x y z) e.same b.same o.same }

  catch_derives : (v : Named) (b : RawStmts) (c : Context) → PrintableCatch (inside c) (raw.caught v b) → (d : ℕ) (ks : List Kind) → height_stmts b < d → DerivesStmts b → DerivedCatch c d (symbols f (catch (raw.caught v b) ks)) (raw.caught v b) (symbols f ks)
  unfolding catch
  catch_derives v b c gs d ks w h = let x = h (inside c) (d - 1) (k.mark m.CloseBrace ∷ ks) gs.1 (omega arith) (refl, refl) in
      record { tree = raw.caught _ (raw.stmts x.list); is = g.caught here here (g.variable here gs.0) here refl (g.block {h = d - 1} (omega arith) here x.is here); same = ap (λ x. raw.caught (bare_named v) x) x.same }

  finally_derives : (b : RawStmts) (c : Context) → PrintableStmts (inside c) b → (d : ℕ) (ks : List Kind) → height_stmts b < d → DerivesStmts b → DerivedFinally c d (symbols f (finally (raw.finally b) ks)) (raw.finally b) (symbols f ks)
  unfolding finally
  finally_derives b c gs d ks w h = let x = h (inside c) (d - 1) (k.mark m.CloseBrace ∷ ks) gs (omega arith) (refl, refl) in
      record { tree = raw.finally (raw.stmts x.list); is = g.finally here refl (g.block {h = d - 1} (omega arith) here x.is here); same = ap (λ x. raw.finally x) x.same }

  below : (l o : ℕ) → Chain o → l ≤ 15 → l ≤ o
  below l o g.chain h = omega arith
  below l o g.member_chain h = omega arith

  -- a body in braces has lost its label; what stands bare keeps it
  labelled_body : (x : RawStmts) (v : List ℕ) (c : Context) → PrintableStmts (under_label v c x) x → (d : ℕ) (ks : List Kind) → body_height (not (is_bare_label x)) (height_stmts x) ≤ d → DerivesStmts x → DerivesOne x → NoTail ks
      → DerivedOne (labelled v c) d (symbols f (braces (not (is_bare_label x)) (stmts x) ks)) x (symbols f ks)
  labelled_body x v c gs d ks w h i t = by (is_bare_label x) refl w gs where
    by : (u : Bool) → is_bare_label x ≡ u → body_height (not u) (height_stmts x) ≤ d → PrintableStmts (cond u (labelled v c) (inside (labelled v c))) x → DerivedOne (labelled v c) d (symbols f (braces (not u) (stmts x) ks)) x (symbols f ks)
    by true e w gx = i (labelled v c) d (λ s. is_simple s || is_loop_or_label s) ks gx w e (inr t)
    by false e w gx = let y = h (inside (labelled v c)) (d - 1) (k.mark m.CloseBrace ∷ ks) gx (omega (arith, w)) (refl, refl) in record { list = y.list; is = g.block {h = d - 1} (omega (arith, w)) here y.is here; same = y.same }

  function_derives : (vs : List Named) (ss : RawStmts) (d : ℕ) (ks : List Kind) → PrintableNames vs → PrintableStmts of_function ss → DerivesStmts ss → height_stmts ss ≤ d
      → DerivedFunction d (symbols f (k.mark m.OpenParen ∷ names vs (k.mark m.OpenBrace ∷ stmts ss (k.mark m.CloseBrace ∷ ks)))) vs ss (symbols f ks)
  function_derives vs ss d ks gv gs h w =
      let x = some_names vs (k.mark m.OpenBrace ∷ stmts ss (k.mark m.CloseBrace ∷ ks)) gv in
      let y = h of_function d (k.mark m.CloseBrace ∷ ks) gs w (refl, refl) in
      record { params = x.list; list = y.list; is = g.function_body here x.is here y.is here; named = x.same; same = y.same }

  mutual
    unfolding expr

    pub derive : (a : RawExpr) → Printable a → Derives a
    derive (raw.lit p v) ga d l n ks w q o = literal_derives v p d l n ks w q
    derive (raw.var p v) ga d l n ks w q o = record { tree = _; is = g.name (g.variable here ga); same = refl; plain = refl }
    derive (raw.this p) ga d l n ks w q o = record { tree = _; is = g.this here; same = refl; plain = refl }
    derive (raw.fun p o ps body) ga d l n ks w q h =
        let x = own o (k.mark m.OpenParen ∷ names ps (k.mark m.OpenBrace ∷ stmts body (k.mark m.CloseBrace ∷ ks))) ga.0 in
        let y = function_derives ps body (d - 1) ks ga.1 ga.2 (derive_stmts body) (omega arith) in
        record { tree = raw.fun _ x.own y.params (raw.stmts y.list); is = g.function {h = d - 1} (omega arith) here x.is y.is; same = ap₃ (λ x y z. raw.fun k.nowhere x y z) x.same y.named y.same; plain = refl }
    derive (raw.list p es) ga d l n ks w q o = let x = derive_elements es ga (d - 1) ks (omega arith) in record { tree = _; is = g.array {h = d - 1} (omega arith) here x.is; same = ap (λ x. raw.list k.nowhere x) x.same; plain = refl }
    derive (raw.object p fs) ga d l n ks w q o = let x = derive_fields fs ga (d - 1) ks (omega arith) in record { tree = _; is = g.object {h = d - 1} (omega arith) here x.is; same = ap (λ x. raw.object k.nowhere x) x.same; plain = refl }
    derive (raw.unary p i a) ga d l n ks w q o =
        let x = operand a (d - 1) 13 n ks (derive a ga.0) (omega arith) in
        let stays : stays_unary i x.tree ≡ true = stays_bare i x.tree x.plain ∙ ap (stays_unary i) x.same ∙ sym (stays_bare i a (no_cast a ga.0)) ∙ ga.1 in
        record { tree = raw.unary _ i x.tree; is = g.prefix {h = d - 1} q (omega arith) here (prefix_back i) x.is (tree_stays i _ x.tree stays); same = ap (λ x. raw.unary k.nowhere i x) x.same; plain = refl }
    derive (raw.binary p i a b) ga d l n ks w q o =
        let x = operand a (d - 1) (sign.level_of i) n (operator i ∷ parens (needs (sign.level_of i + 1) n b) (expr b) n ks) (derive a ga.0) (omega arith) in
        let y = operand b (d - 1) (sign.level_of i + 1) n ks (derive b ga.1) (omega arith) in
        record { tree = raw.binary _ i x.tree y.tree; is = g.binary {h = d - 1} {i = d - 1} {o = sign.operator i} q (omega arith) (omega arith) x.is here (infix_back n i p a b o) y.is; same = ap₂ (λ x y. raw.binary k.nowhere i x y) x.same y.same; plain = refl }
    derive (raw.and p a b) ga d l n ks w q o =
        let x = operand a (d - 1) 4 n (k.mark m.AmpersandAmpersand ∷ parens (needs 5 n b) (expr b) n ks) (derive a ga.0) (omega arith) in
        let y = operand b (d - 1) 5 n ks (derive b ga.1) (omega arith) in
        record { tree = raw.and _ x.tree y.tree; is = g.binary {h = d - 1} {i = d - 1} {o = sign.logical_and} q (omega arith) (omega arith) x.is here refl y.is; same = ap₂ (λ x y. raw.and k.nowhere x y) x.same y.same; plain = refl }
    derive (raw.or p a b) ga d l n ks w q o =
        let x = operand a (d - 1) 3 n (k.mark m.BarBar ∷ parens (needs 4 n b) (expr b) n ks) (derive a ga.0) (omega arith) in
        let y = operand b (d - 1) 4 n ks (derive b ga.1) (omega arith) in
        record { tree = raw.or _ x.tree y.tree; is = g.binary {h = d - 1} {i = d - 1} {o = sign.logical_or} q (omega arith) (omega arith) x.is here refl y.is; same = ap₂ (λ x y. raw.or k.nowhere x y) x.same y.same; plain = refl }
    derive (raw.cond p a b c) ga d l n ks w q o =
        let x = operand a (d - 1) 3 n (k.mark m.Question ∷ parens (needs 1 true b) (expr b) true (k.mark m.Colon ∷ parens (needs 1 n c) (expr c) n ks)) (derive a ga.0) (omega arith) in
        let y = operand b (d - 1) 1 true (k.mark m.Colon ∷ parens (needs 1 n c) (expr c) n ks) (derive b ga.1) (omega arith) in
        let z = operand c (d - 1) 1 n ks (derive c ga.2) (omega arith) in
        record { tree = raw.cond _ x.tree y.tree z.tree; is = g.conditional {h = d - 1} {i = d - 1} {j = d - 1} q (omega arith) (omega arith) (omega arith) x.is here y.is here z.is; same = ap₃ (λ x y z. raw.cond k.nowhere x y z) x.same y.same z.same; plain = refl }
    derive (raw.assign p i t a) ga d l n ks w q o =
        let x = derive_target t ga.0 (d - 1) 15 n (assigning i ∷ parens (needs 1 n a) (expr a) n ks) (omega arith) (omega arith) in
        let y = operand a (d - 1) 1 n ks (derive a ga.1) (omega arith) in
        record { tree = raw.assign _ i x.goal y.tree; is = g.assign {h = d - 1} {i = d - 1} q (omega arith) (omega arith) x.is x.aims here ga.2 y.is; same = ap₂ (λ x y. raw.assign k.nowhere i x y) x.same y.same; plain = refl }
    derive (raw.step p up true t) ga d l n ks w q o =
        let x = derive_target t ga (d - 1) 13 n ks (omega arith) (omega arith) in
        record { tree = raw.step _ up true x.goal; is = g.prefix {h = d - 1} q (omega arith) here (prefix_step_back up) x.is (ap (option_map (λ t. raw.step _ up true t)) x.aims); same = ap (λ x. raw.step k.nowhere up true x) x.same; plain = refl }
    derive (raw.step p up false t) ga d l n ks w q o =
        let x = derive_target t ga (d - 1) 15 n (stepping up ∷ ks) (omega arith) (omega arith) in
        record { tree = raw.step _ up false x.goal; is = g.postfix {h = d - 1} q (omega arith) x.is x.aims refl here (step_back up); same = ap (λ x. raw.step k.nowhere up false x) x.same; plain = refl }
    derive (raw.member p a q v) ga d l n ks w r o =
        let x = linked a (is_whole a) (d - 1) n (k.mark m.Dot ∷ identifier v ∷ ks) (derive a ga) (omega arith) in
        let e = links (level_of a) (levels a) in let le : l ≤ e.level = omega (arith, r, e.low) in
        record { tree = raw.member _ x.tree _ v; is = g.dotted {h = d - 1} e.is le (omega arith) x.is here here (property_back v); same = ap (λ x. raw.member k.nowhere x k.nowhere v) x.same; plain = refl }
    derive (raw.index p a b) ga d l n ks w r o =
        let x = linked_plain a (d - 1) n (k.mark m.OpenBracket ∷ expr b true (k.mark m.CloseBracket ∷ ks)) (derive a ga.0) (omega arith) in
        let y = derive b ga.1 (d - 1) 0 true (k.mark m.CloseBracket ∷ ks) (omega arith) (omega arith) refl in
        let e = links (level_of a) (levels a) in let le : l ≤ e.level = omega (arith, r, e.low) in
        record { tree = raw.index _ x.tree y.tree; is = g.bracketed {h = d - 1} {i = d - 1} e.is le (omega arith) (omega arith) x.is here y.is here; same = ap₂ (λ x y. raw.index k.nowhere x y) x.same y.same; plain = refl }
    derive (raw.call p a es) ga d l n ks w q o =
        let x = operand a (d - 1) 16 n (k.mark m.OpenParen ∷ exprs es (k.mark m.CloseParen) ks) (derive a ga.0) (omega arith) in
        let y = derive_arguments es ga.1 (d - 1) ks (omega arith) in
        record { tree = raw.call _ x.tree (raw.exprs y.list); is = g.call {h = d - 1} {i = d - 1} q (omega arith) (omega arith) x.is here y.is; same = ap₂ (λ x y. raw.call k.nowhere x y) x.same y.same; plain = refl }
    derive (raw.new p a es) ga d l n ks w q o =
        let x = operand a (d - 1) 18 n (k.mark m.OpenParen ∷ exprs es (k.mark m.CloseParen) ks) (derive a ga.0) (omega arith) in
        let y = derive_arguments es ga.1 (d - 1) ks (omega arith) in
        record { tree = raw.new _ x.tree (raw.exprs y.list); is = g.new_call {h = d - 1} {i = d - 1} q (omega arith) (omega arith) here x.is here y.is; same = ap₂ (λ x y. raw.new k.nowhere x y) x.same y.same; plain = refl }
    derive (raw.comma p a b) ga d zero n ks w q o =
        let x = operand a (d - 1) 0 n (k.mark m.Comma ∷ parens (needs 1 n b) (expr b) n ks) (derive a ga.0) (omega arith) in
        let y = operand b (d - 1) 1 n ks (derive b ga.1) (omega arith) in
        record { tree = raw.comma _ x.tree y.tree; is = g.comma {h = d - 1} {i = d - 1} (omega arith) (omega arith) x.is here y.is; same = ap₂ (λ x y. raw.comma k.nowhere x y) x.same y.same; plain = refl }
    derive (raw.comma p a b) ga d (suc l) n ks w q o = absurd (omega (arith, q))
    derive (raw.cast p a) ga d l n ks w q o = absurd ga

    derive_target : (t : RawTarget) → PrintableTarget t → (d l : ℕ) (n : Bool) (ks : List Kind) → height_target t n ≤ d → l ≤ 15 → DerivedTarget d n l (symbols f (target t n ks)) t (symbols f ks)
    derive_target (raw.to_var p v) gt d l n ks w q = record { tree = _; goal = _; is = g.name (g.variable here gt); aims = refl; same = refl }
    derive_target (raw.to_member p a i v) gt d l n ks w r =
        let x = linked a (is_whole a) (d - 1) n (k.mark m.Dot ∷ identifier v ∷ ks) (derive a gt) (omega arith) in
        let e = links (level_of a) (levels a) in let le : l ≤ e.level = below l e.level e.is r in
        record { tree = raw.member _ x.tree _ v; goal = raw.to_member _ x.tree _ v; is = g.dotted {h = d - 1} e.is le (omega arith) x.is here here (property_back v); aims = refl; same = ap (λ x. raw.to_member k.nowhere x k.nowhere v) x.same }
    derive_target (raw.to_index p a b) gt d l n ks w r =
        let x = linked_plain a (d - 1) n (k.mark m.OpenBracket ∷ expr b true (k.mark m.CloseBracket ∷ ks)) (derive a gt.0) (omega arith) in
        let y = derive b gt.1 (d - 1) 0 true (k.mark m.CloseBracket ∷ ks) (omega arith) (omega arith) refl in
        let e = links (level_of a) (levels a) in let le : l ≤ e.level = below l e.level e.is r in
        record { tree = raw.index _ x.tree y.tree; goal = raw.to_index _ x.tree y.tree; is = g.bracketed {h = d - 1} {i = d - 1} e.is le (omega arith) (omega arith) x.is here y.is here; aims = refl; same = ap₂ (λ x y. raw.to_index k.nowhere x y) x.same y.same }

    derive_elements : (es : RawExprs) → PrintableExprs es → (d : ℕ) (ks : List Kind) → height_exprs es ≤ d → DerivedElements d (symbols f (exprs es (k.mark m.CloseBracket) ks)) es (symbols f ks)
    derive_elements raw.no_exprs ge d ks w = record { list = []; is = g.no_element here; same = refl }
    derive_elements (raw.more_exprs a raw.no_exprs) ge d ks w = let x = operand a d 1 true (k.mark m.CloseBracket ∷ ks) (derive a ge.0) (omega arith) in record { list = x.tree ∷ []; is = g.last_element x.is here; same = ap (λ x. raw.more_exprs x raw.no_exprs) x.same }
    derive_elements (raw.more_exprs a (raw.more_exprs b es)) ge d ks w =
        let x = operand a d 1 true (k.mark m.Comma ∷ exprs (raw.more_exprs b es) (k.mark m.CloseBracket) ks) (derive a ge.0) (omega arith) in
        let y = derive_elements (raw.more_exprs b es) ge.1 d ks (omega arith) in
        record { list = x.tree ∷ y.list; is = g.more_elements x.is here y.is; same = ap₂ (λ x y. raw.more_exprs x y) x.same y.same }

    derive_arguments : (es : RawExprs) → PrintableExprs es → (d : ℕ) (ks : List Kind) → height_exprs es ≤ d → DerivedArguments d (symbols f (exprs es (k.mark m.CloseParen) ks)) es (symbols f ks)
    derive_arguments raw.no_exprs ge d ks w = record { list = []; is = g.no_argument here; same = refl }
    derive_arguments (raw.more_exprs a es) ge d ks w = let x = derive_more es ge.1 a (derive a ge.0) d ks w in record { list = x.list; is = g.some_arguments x.is; same = x.same }

    derive_more : (es : RawExprs) → PrintableExprs es → (a : RawExpr) → Derives a → (d : ℕ) (ks : List Kind) → max (enclosed_height (needs 1 true a) (height a) true) (height_exprs es) ≤ d → DerivedExprs d (symbols f (exprs (raw.more_exprs a es) (k.mark m.CloseParen) ks)) (raw.more_exprs a es) (symbols f ks)
    derive_more raw.no_exprs ge a h d ks w = let x = operand a d 1 true (k.mark m.CloseParen ∷ ks) h (omega arith) in record { list = x.tree ∷ []; is = g.last_argument x.is here; same = ap (λ x. raw.more_exprs x raw.no_exprs) x.same }
    derive_more (raw.more_exprs b es) ge a h d ks w =
        let x = operand a d 1 true (k.mark m.Comma ∷ exprs (raw.more_exprs b es) (k.mark m.CloseParen) ks) h (omega arith) in
        let y = derive_more es ge.1 b (derive b ge.0) d ks (omega arith) in
        record { list = x.tree ∷ y.list; is = g.more_arguments x.is here y.is; same = ap₂ (λ x y. raw.more_exprs x y) x.same y.same }

    derive_fields : (fs : RawFields) → PrintableFields fs → (d : ℕ) (ks : List Kind) → height_fields fs ≤ d → DerivedFields d (symbols f (fields fs ks)) fs (symbols f ks)
    derive_fields raw.no_fields gf d ks w = record { list = []; is = g.no_field here; same = refl }
    derive_fields (raw.more_fields p i a raw.no_fields) gf d ks w = let x = operand a d 1 true (k.mark m.CloseBrace ∷ ks) (derive a gf.1) (omega arith) in
        record { list = record { place = _; key = i; value = x.tree } ∷ []; is = g.last_field (g.field here (key_back i gf.0) here x.is) here; same = ap (λ x. raw.more_fields k.nowhere i x raw.no_fields) x.same }
    derive_fields (raw.more_fields p i a (raw.more_fields r j b fs)) gf d ks w =
        let x = operand a d 1 true (k.mark m.Comma ∷ fields (raw.more_fields r j b fs) ks) (derive a gf.1) (omega arith) in
        let y = derive_fields (raw.more_fields r j b fs) gf.2 d ks (omega arith) in
        record { list = record { place = _; key = i; value = x.tree } ∷ y.list; is = g.more_fields (g.field here (key_back i gf.0) here x.is) here y.is; same = ap₂ (λ x y. raw.more_fields k.nowhere i x y) x.same y.same }

    derive_maybe : (a : MaybeExpr) → PrintableMaybe a → (d : ℕ) (ks : List Kind) → height_maybe a ≤ d → DerivedMaybe d (symbols f (maybe a ks)) a (symbols f ks)
    derive_maybe raw.no_expr ge d ks w = record { tree = raw.no_expr; is = g.absent; same = refl }
    derive_maybe (raw.one_expr a) ge d ks w = let x = derive a ge d 0 true ks (omega arith) (omega arith) refl in record { tree = raw.one_expr x.tree; is = g.present x.is; same = ap (λ x. raw.one_expr x) x.same }

    derive_declarator : (v : Named) (a : MaybeExpr) → sign.refused_name v.name ≡ None → PrintableMaybe a → (d : ℕ) (n : Bool) (ks : List Kind) → height_initial a n ≤ d → DerivedDeclarator d n (symbols f (k.name v.name ∷ initial a n ks)) v a (symbols f ks)
    derive_declarator v raw.no_expr gv ge d n ks w = record { tree = _; is = g.unset (g.variable here gv); named = refl; same = refl }
    derive_declarator v (raw.one_expr a) gv ge d n ks w = let x = operand a d 1 n ks (derive a ge) (omega arith) in record { tree = _; is = g.set (g.variable here gv) here x.is; named = refl; same = ap (λ x. raw.one_expr x) x.same }

    derive_declarators : (ds : RawDeclarators) → PrintableDeclarators ds → (d : ℕ) (n : Bool) (ks : List Kind) → height_declarators ds n ≤ d → DerivedDeclarators d n (symbols f (declarators ds n ks)) ds (symbols f ks)
    derive_declarators raw.no_declarators gd d n ks w = absurd gd
    derive_declarators (raw.more_declarators v a raw.no_declarators) gd d n ks w = let x = derive_declarator v a gd.0 gd.1 d n ks (omega arith) in
        record { list = x.tree ∷ []; is = g.last_declarator x.is; same = ap₂ (λ x y. raw.more_declarators x y raw.no_declarators) x.named x.same }
    derive_declarators (raw.more_declarators v a (raw.more_declarators u b ds)) gd d n ks w =
        let x = derive_declarator v a gd.0 gd.1 d n (k.mark m.Comma ∷ declarators (raw.more_declarators u b ds) n ks) (omega arith) in
        let y = derive_declarators (raw.more_declarators u b ds) gd.2 d n ks (omega arith) in
        record { list = x.tree ∷ y.list; is = g.more_declarators x.is here y.is; same = ap₃ (λ x y z. raw.more_declarators x y z) x.named x.same y.same }

    derive_init : (i : RawInit) → PrintableInit i → (d : ℕ) (ks : List Kind) → height_init i ≤ d → DerivedInit d (symbols f (init i ks)) i (symbols f ks)
    derive_init raw.no_init gi d ks w = record { tree = raw.no_init; is = g.no_init; same = refl }
    derive_init (raw.init_value a) gi d ks w = let x = operand a d 0 false ks (derive a gi) (omega arith) in record { tree = raw.init_value x.tree; is = g.init_value x.is; same = ap (λ x. raw.init_value x) x.same }
    derive_init (raw.init_vars ds) gi d ks w = let x = derive_declarators ds gi d false ks (omega arith) in record { tree = raw.init_vars (raw.declarators x.list); is = g.init_vars here x.is; same = ap (λ x. raw.init_vars x) x.same }

    derive_stmt : (s : RawStmt) (c : Context) → PrintableStmt c s → (d : ℕ) (ks : List Kind) → height_stmt s ≤ d → Follows (is_simple s) ks → DerivedStmt c d (symbols f (stmt s ks)) s (symbols f ks)
    derive_stmt (raw.simple p a) c gs d ks w t =
        let x = wrapped a (first_opens (expr a true (k.mark m.Semicolon ∷ ks))) d 0 true (k.mark m.Semicolon ∷ ks) (derive a gs) (subst (λ v. enclosed_height v (height a) true ≤ d) (opens_expr a true [] (k.mark m.Semicolon ∷ ks)) w) (λ e. (omega arith, refl)) in
        record { tree = raw.simple _ x.tree; is = g.simple (opened a (k.mark m.Semicolon ∷ ks) (first_opens (expr a true (k.mark m.Semicolon ∷ ks))) refl) x.is (g.written here); same = ap (λ x. raw.simple k.nowhere x) x.same }
    derive_stmt (raw.vars p ds) c gs d ks w t = let x = derive_declarators ds gs d true (k.mark m.Semicolon ∷ ks) (omega arith) in
        record { tree = raw.vars _ (raw.declarators x.list); is = g.vars here x.is (g.written here); same = ap (λ x. raw.vars k.nowhere x) x.same }
    derive_stmt (raw.fun_decl p v ps body) c gs d ks w t = let y = function_derives ps body (d - 1) ks gs.2 gs.3 (derive_stmts body) (omega arith) in
        record { tree = raw.fun_decl _ _ y.params (raw.stmts y.list); is = g.declare {h = d - 1} gs.0 (omega arith) here (g.variable here gs.1) y.is; same = ap₂ (λ x y. raw.fun_decl k.nowhere (bare_named v) x y) y.named y.same }
    derive_stmt (raw.if p a x y) c gs d ks w (inl e) = cc
    derive_stmt (raw.if p a x y) c gs d ks w (inr e) = if_derives p a x y (derive a gs.0) (derive_stmts x) (derive_one x) (derive_stmts y) (derive_one y) c d ks gs.1 gs.2 w e
    derive_stmt (raw.while p a body) c gs d ks w (inl e) = cc
    derive_stmt (raw.while p a body) c gs d ks w (inr t) =
        let x = derive a gs.0 (d - 1) 0 true (k.mark m.CloseParen ∷ braces (not (is_bare body)) (stmts body) ks) (omega arith) (omega arith) refl in
        let y = inner body is_simple (in_loop c) (d - 1) ks (derive_stmts body) (derive_one body) gs.1 gs.1 (omega arith) (λ z. inl z) in
        record { tree = raw.while _ x.tree (raw.stmts y.list); is = g.while {h = d - 1} {i = d - 1} (omega arith) (omega arith) here here x.is here y.is; same = ap₂ (λ x y. raw.while k.nowhere x y) x.same y.same }
    derive_stmt (raw.do_while p body a) c gs d ks w t =
        let y = inner body is_simple (in_loop c) (d - 1) (k.word word.While ∷ k.mark m.OpenParen ∷ expr a true (k.mark m.CloseParen ∷ k.mark m.Semicolon ∷ ks)) (derive_stmts body) (derive_one body) gs.0 gs.0 (omega arith) (λ z. inl z) in
        let x = derive a gs.1 (d - 1) 0 true (k.mark m.CloseParen ∷ k.mark m.Semicolon ∷ ks) (omega arith) (omega arith) refl in
        record { tree = raw.do_while _ (raw.stmts y.list) x.tree; is = g.do_while {h = d - 1} {i = d - 1} (omega arith) (omega arith) here y.is here here x.is here (g.written here); same = ap₂ (λ x y. raw.do_while k.nowhere y x) x.same y.same }
    derive_stmt (raw.for p i a b body) c gs d ks w (inl e) = cc
    derive_stmt (raw.for p i a b body) c gs d ks w (inr t) =
        let tail = braces (not (is_bare body)) (stmts body) ks in
        let x = derive_init i gs.0 (d - 1) (k.mark m.Semicolon ∷ maybe a (k.mark m.Semicolon ∷ maybe b (k.mark m.CloseParen ∷ tail))) (omega arith) in
        let y = derive_maybe a gs.1 (d - 1) (k.mark m.Semicolon ∷ maybe b (k.mark m.CloseParen ∷ tail)) (omega arith) in
        let z = derive_maybe b gs.2 (d - 1) (k.mark m.CloseParen ∷ tail) (omega arith) in
        let o = inner body is_simple (in_loop c) (d - 1) ks (derive_stmts body) (derive_one body) gs.3 gs.3 (omega arith) (λ z. inl z) in
        record { tree = raw.for _ x.tree y.tree z.tree (raw.stmts o.list); is = g.for {h = d - 1} {i = d - 1} (omega arith) (omega arith) here here x.is here y.is here z.is here o.is; same = ap₄ (λ x y z o. raw.for k.nowhere x y z o) x.same y.same z.same o.same }
    derive_stmt (raw.for_in p i a body) c gs d ks w (inl e) = cc
    derive_stmt (raw.for_in p (raw.in_target i) a body) c gs d ks w (inr t) =
        let tail = braces (not (is_bare body)) (stmts body) ks in
        let x = derive_target i gs.0 (d - 1) 15 false (k.word word.In ∷ expr a true (k.mark m.CloseParen ∷ tail)) (omega arith) (omega arith) in
        let y = derive a gs.1 (d - 1) 0 true (k.mark m.CloseParen ∷ tail) (omega arith) (omega arith) refl in
        let o = inner body is_simple (in_loop c) (d - 1) ks (derive_stmts body) (derive_one body) gs.2 gs.2 (omega arith) (λ z. inl z) in
        record { tree = raw.for_in _ (raw.in_target x.goal) y.tree (raw.stmts o.list); is = g.for_in {h = d - 1} {i = d - 1} (omega arith) (omega arith) here here x.is x.aims here y.is here o.is; same = ap₃ (λ x y z. raw.for_in k.nowhere (raw.in_target x) y z) x.same y.same o.same }
    derive_stmt (raw.for_in p (raw.in_declared v i) a body) c gs d ks w (inr t) =
        let tail = braces (not (is_bare body)) (stmts body) ks in
        let x = derive_declarator v i gs.0.0 gs.0.1 (d - 1) false (k.word word.In ∷ expr a true (k.mark m.CloseParen ∷ tail)) (omega arith) in
        let y = derive a gs.1 (d - 1) 0 true (k.mark m.CloseParen ∷ tail) (omega arith) (omega arith) refl in
        let o = inner body is_simple (in_loop c) (d - 1) ks (derive_stmts body) (derive_one body) gs.2 gs.2 (omega arith) (λ z. inl z) in
        record { tree = raw.for_in _ (raw.in_declared x.tree.variable x.tree.value) y.tree (raw.stmts o.list); is = g.for_in_var {h = d - 1} {i = d - 1} (omega arith) (omega arith) here here here x.is here y.is here o.is; same = ap₄ (λ x y z o. raw.for_in k.nowhere (raw.in_declared x y) z o) x.named x.same y.same o.same }
    derive_stmt (raw.return p raw.no_expr) c gs d ks w t = record { tree = _; is = g.return gs.0 here (g.written here); same = refl }
    derive_stmt (raw.return p (raw.one_expr a)) c gs d ks w t = let x = derive a gs.1 d 0 true (k.mark m.Semicolon ∷ ks) (omega arith) (omega arith) refl in
        record { tree = raw.return _ (raw.one_expr x.tree); is = g.return_value gs.0 here (no_line (expr a true (k.mark m.Semicolon ∷ ks))) x.is (g.written here); same = ap (λ x. raw.return k.nowhere (raw.one_expr x)) x.same }
    derive_stmt (raw.throw p a) c gs d ks w t = let x = derive a gs d 0 true (k.mark m.Semicolon ∷ ks) (omega arith) (omega arith) refl in
        record { tree = raw.throw _ x.tree; is = g.throw here (no_line (expr a true (k.mark m.Semicolon ∷ ks))) x.is (g.written here); same = ap (λ x. raw.throw k.nowhere x) x.same }
    derive_stmt (raw.break p None) c gs d ks w t = record { tree = _; is = g.break gs here (g.written here); same = refl }
    derive_stmt (raw.break p (Some v)) c gs d ks w t = record { tree = _; is = g.break_to here refl here gs (g.written here); same = refl }
    derive_stmt (raw.continue p None) c gs d ks w t = record { tree = _; is = g.continue gs here (g.written here); same = refl }
    derive_stmt (raw.continue p (Some v)) c gs d ks w t = record { tree = _; is = g.continue_to gs.0 here refl here gs.1 (g.written here); same = refl }
    derive_stmt (raw.label p v body) c gs d ks w (inl e) = cc
    derive_stmt (raw.label p v body) c gs d ks w (inr t) =
        let x = labelled_body body v c gs.1 (d - 1) ks (omega arith) (derive_stmts body) (derive_one body) t in
        record { tree = raw.label _ v (raw.stmts x.list); is = g.label {h = d - 1} (omega arith) here here gs.0 x.is; same = ap (λ x. raw.label k.nowhere v x) x.same }
    derive_stmt (raw.switch p a cs) c gs d ks w t =
        let x = derive a gs.0 (d - 1) 0 true (k.mark m.CloseParen ∷ k.mark m.OpenBrace ∷ cases cs ks) (omega arith) (omega arith) refl in
        let y = derive_cases cs (in_switch c) false gs.1 (d - 1) ks (omega arith) in
        record { tree = raw.switch _ x.tree (raw.cases y.list); is = g.switch {h = d - 1} {i = d - 1} (omega arith) (omega arith) here here x.is here here y.is; same = ap₂ (λ x y. raw.switch k.nowhere x y) x.same y.same }
    derive_stmt (raw.try p body raw.no_catch raw.no_finally) c gs d ks w t = absurd gs
    derive_stmt (raw.try p body (raw.caught v b) raw.no_finally) c gs d ks w (inl e) = cc
    derive_stmt (raw.try p body (raw.caught v b) raw.no_finally) c gs d ks w (inr t) =
        let x = derive_stmts body (inside c) (d - 2) (k.mark m.CloseBrace ∷ catch (raw.caught v b) ks) gs.0 (omega arith) (refl, refl) in
        let y = catch_derives v b (inside c) gs.1 (d - 1) ks (omega arith) (derive_stmts b) in
        record { tree = raw.try _ (raw.stmts x.list) y.tree raw.no_finally; is = g.try_catch {h = d - 1} {i = d - 1} (omega arith) (omega arith) here refl (g.block {h = d - 2} (omega arith) here x.is here) y.is t.1; same = ap₂ (λ x y. raw.try k.nowhere x y raw.no_finally) x.same y.same }
    derive_stmt (raw.try p body raw.no_catch (raw.finally z)) c gs d ks w t =
        let x = derive_stmts body (inside c) (d - 2) (k.mark m.CloseBrace ∷ finally (raw.finally z) ks) gs.0 (omega arith) (refl, refl) in
        let y = finally_derives z (inside c) gs.2 (d - 1) ks (omega arith) (derive_stmts z) in
        record { tree = raw.try _ (raw.stmts x.list) raw.no_catch y.tree; is = g.try_finally {h = d - 1} {i = d - 1} (omega arith) (omega arith) here refl (g.block {h = d - 2} (omega arith) here x.is here) y.is; same = ap₂ (λ x y. raw.try k.nowhere x raw.no_catch y) x.same y.same }
    derive_stmt (raw.try p body (raw.caught v b) (raw.finally z)) c gs d ks w t =
        let x = derive_stmts body (inside c) (d - 2) (k.mark m.CloseBrace ∷ catch (raw.caught v b) (finally (raw.finally z) ks)) gs.0 (omega arith) (refl, refl) in
        let y = catch_derives v b (inside c) gs.1 (d - 1) (finally (raw.finally z) ks) (omega arith) (derive_stmts b) in
        let o = finally_derives z (inside c) gs.2 (d - 1) ks (omega arith) (derive_stmts z) in
        record { tree = raw.try _ (raw.stmts x.list) y.tree o.tree; is = g.try_both {h = d - 1} {i = d - 1} {j = d - 1} (omega arith) (omega arith) (omega arith) here refl (g.block {h = d - 2} (omega arith) here x.is here) y.is o.is; same = ap₃ (λ x y z. raw.try k.nowhere x y z) x.same y.same o.same }

    derive_one : (ss : RawStmts) → DerivesOne ss
    derive_one raw.no_stmts c d p ks gs w e t = cc
    derive_one (raw.more_stmts s raw.no_stmts) c d p ks gs w e t = let x = derive_stmt s c gs.0 d ks (omega arith) t in record { list = x.tree ∷ []; is = x.is; same = ap (λ x. raw.more_stmts x raw.no_stmts) x.same }
    derive_one (raw.more_stmts s (raw.more_stmts r rs)) c d p ks gs w e t = cc

    pub derive_stmts : (ss : RawStmts) → DerivesStmts ss
    derive_stmts raw.no_stmts c d ks gs w t = record { list = []; is = g.done; same = refl }
    derive_stmts (raw.more_stmts s ss) c d ks gs w t =
        let x = derive_stmt s c gs.0 d (stmts ss ks) (omega arith) (inr (tail_stmts ss ks t)) in
        let y = derive_stmts ss c d ks gs.1 (omega arith) t in
        record { list = x.tree ∷ y.list; is = g.next x.is y.is; same = ap₂ (λ x y. raw.more_stmts x y) x.same y.same }

    derive_cases : (cs : RawCases) (c : Context) (s : Bool) → PrintableCases c s cs → (d : ℕ) (ks : List Kind) → height_cases cs ≤ d → DerivedCases c d s (symbols f (cases cs ks)) cs (symbols f ks)
    derive_cases raw.no_cases c s gs d ks w = record { list = []; is = g.no_case here; same = refl }
    derive_cases (raw.more_cases raw.no_expr body cs) c true gs d ks w = cc gs.0
    derive_cases (raw.more_cases raw.no_expr body cs) c false gs d ks w =
        let x = derive_stmts body c d (cases cs ks) gs.1 (omega arith) (tail_cases cs ks) in
        let y = derive_cases cs c true gs.2 d ks (omega arith) in
        record { list = record { test = raw.no_expr; body = x.list } ∷ y.list; is = g.default here here x.is y.is; same = ap₂ (λ x y. raw.more_cases raw.no_expr x y) x.same y.same }
    derive_cases (raw.more_cases (raw.one_expr a) body cs) c s gs d ks w =
        let e = derive a gs.0 d 0 true (k.mark m.Colon ∷ stmts body (cases cs ks)) (omega arith) (omega arith) refl in
        let x = derive_stmts body c d (cases cs ks) gs.1 (omega arith) (tail_cases cs ks) in
        let y = derive_cases cs c s gs.2 d ks (omega arith) in
        record { list = record { test = raw.one_expr e.tree; body = x.list } ∷ y.list; is = g.«case» here e.is here x.is y.is; same = ap₃ (λ x y z. raw.more_cases (raw.one_expr x) y z) e.same x.same y.same }

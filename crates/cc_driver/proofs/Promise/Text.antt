-- The text that is written for a source is that of its statements under the new names.
use Rattle.std.proofs.Common.{◌≡◌, ℕ, lt-ltb, cond, List, [], ◌∷◌, ◌++◌, map, Option, None, Some, refl, sym, ap, ap₂, ◌∙◌, subst, codes, append_assoc, append-nil}
use Rattle.std.proofs.lemmas.List.Concat.{flat_map-append}
use Rattle.std.specs.Fmt.{decimal}
use Rattle.cc_ast.specs.Bridge.{exprs}
use Rattle.cc_ast.specs.Syntax as S
use Rattle.cc_ast.specs.declared.operator.BinOp.TheVariants.{Add}
use Rattle.cc_ast.specs.StmtBridge.{stmts}
use Rattle.cc_driver.specs.Source.{number_of, operand_tree, chain_tree, value_tree, statement_tree, program_of, global_names}
use Rattle.cc_driver.specs.Spelling.{join, one, spell_operand, spell_value, spell_values, spell_statement, spell_statements, spell_chunk, piece_text, text_of}
use Rattle.cc_driver.specs.declared.form.Operand.{Operand}
use Rattle.cc_driver.specs.declared.form.Operand.TheVariants.{Named, Text, Whole}
use Rattle.cc_driver.specs.declared.form.Added.{Added}
use Rattle.cc_driver.specs.declared.form.Value.{Value}
use Rattle.cc_driver.specs.declared.form.Statement.{Statement}
use Rattle.cc_driver.specs.declared.form.Statement.TheVariants.{Declares, Calls}
use Rattle.cc_driver.specs.declared.spelling.Piece.{Piece}
use Rattle.cc_driver.specs.declared.spelling.Piece.TheVariants as piece
use Rattle.cc_driver.specs.Again.{new_name, operand_text, more_text, value_text, values_text, statement_text, statements_text}
use Rattle.cc_driver.specs.Names.{IsName}
use Rattle.cc_driver.specs.Sound as sound
use Rattle.cc_driver.specs.Form.{whole_limit}
use Rattle.cc_driver.specs.Sound.{OperandFit, MoreFit, ValueFit, ValuesFit, StatementFit, StatementsFit, AreSound}

-- pieces that are there, with this text
pub record Spells (names : List (List ℕ)) (o : Option (List Piece)) (text : List ℕ) : Type 0 where
  pub pieces : List Piece
  pub there : o ≡ Some pieces
  pub is : text_of names pieces ≡ text

module _ (old names : List (List ℕ)) (C Q : List ℕ → Type 0) where
  abbrev f : List ℕ → List ℕ
  f = new_name old names

  joined : (a b : Option (List Piece)) (t u : List ℕ) → Spells names a t → Spells names b u → Spells names (join a b) (t ++ u)
  joined a b t u h k = record {
    pieces = h.pieces ++ k.pieces;
    there = λ i. join (h.there i) (k.there i);
    is = flat_map-append (piece_text names) h.pieces k.pieces ∙ ap₂ (λ x y. x ++ y) h.is k.is;
  }

  bytes : (t : List ℕ) → Spells names (one t) t
  bytes t = record { pieces = piece.Bytes t ∷ []; there = refl; is = append-nil t }

  same_text : (o : Option (List Piece)) (t u : List ℕ) → t ≡ u → Spells names o t → Spells names o u
  same_text o t u e h = record { pieces = h.pieces; there = h.there; is = h.is ∙ e }

  operand_spells : (o : Operand) → OperandFit C Q o → Spells names (spell_operand (operand_tree old o)) (operand_text f o)
  operand_spells (Named at n) h = record { pieces = piece.Global (number_of old n) ∷ []; there = refl; is = append-nil (f n) }
  operand_spells (Text at t) h = record {
    pieces = piece.Bytes (34 ∷ t ++ 34 ∷ []) ∷ [];
    there = ap (λ b. cond b (Some (piece.Bytes (34 ∷ t ++ 34 ∷ []) ∷ [])) None) h;
    is = append-nil (34 ∷ t ++ 34 ∷ []);
  }
  operand_spells (Whole at _) (sound.small {n} l) = record {
    pieces = piece.Bytes (decimal n) ∷ [];
    there = ap (λ b. cond b (Some (piece.Bytes (decimal n) ∷ [])) None) (lt-ltb n whole_limit l);
    is = append-nil (decimal n);
  }

  -- an operand alone is spelled as a value
  alone : (o : Operand) → spell_operand (operand_tree old o) ≡ spell_value (operand_tree old o)
  alone (Named at n) = refl
  alone (Text at t) = refl
  alone (Whole at z) = refl

  chain_spells : (e : S.Expr) (t : List ℕ) (ms : List Added) → Spells names (spell_value e) t → MoreFit C Q ms → Spells names (spell_value (chain_tree old e ms)) (t ++ more_text f ms)
  chain_spells e t [] k h = same_text (spell_value e) t (t ++ []) (sym (append-nil t)) k
  chain_spells e t (m ∷ ms) k h =
      let right = spell_operand (operand_tree old m.operand) in
      let last = operand_text f m.operand in
      let sum = joined (spell_value e) (join (one (codes "+")) right) t (43 ∷ last) k (joined (one (codes "+")) right (codes "+") last (bytes (codes "+")) (operand_spells m.operand h.0)) in
      let next : S.Expr = S.binary m.plus Add e (operand_tree old m.operand) in
      same_text (spell_value (chain_tree old next ms)) ((t ++ 43 ∷ last) ++ more_text f ms) (t ++ (43 ∷ last ++ more_text f ms)) (append_assoc t (43 ∷ last) (more_text f ms))
      (chain_spells next (t ++ 43 ∷ last) ms sum h.1)

  value_spells : (v : Value) → ValueFit C Q v → Spells names (spell_value (value_tree old v)) (value_text f v)
  value_spells v h = chain_spells (operand_tree old v.first) (operand_text f v.first) v.more (subst (λ o. Spells names o (operand_text f v.first)) (alone v.first) (operand_spells v.first h.0)) h.1.0

  values_spell : (vs : List Value) → ValuesFit C Q vs → Spells names (spell_values (exprs (map (value_tree old) vs))) (values_text f vs)
  unfolding exprs
  values_spell [] h = record { pieces = []; there = refl; is = refl }
  values_spell (v ∷ []) h = value_spells v h.0
  values_spell (v ∷ w ∷ vs) h =
      joined (spell_value (value_tree old v)) (join (one (codes ",")) (spell_values (exprs (map (value_tree old) (w ∷ vs))))) (value_text f v) (44 ∷ values_text f (w ∷ vs)) (value_spells v h.0)
      (joined (one (codes ",")) (spell_values (exprs (map (value_tree old) (w ∷ vs)))) (codes ",") (values_text f (w ∷ vs)) (bytes (codes ",")) (values_spell (w ∷ vs) h.1))

  called_head : (n : List ℕ) → Spells names (Some (piece.Global (number_of old n) ∷ piece.Bytes (codes "(") ∷ [])) (f n ++ 40 ∷ [])
  called_head n = record { pieces = piece.Global (number_of old n) ∷ piece.Bytes (codes "(") ∷ []; there = refl; is = refl }

  declared_head : (n : List ℕ) → Spells names (Some (piece.Bytes (codes "var ") ∷ piece.Global (number_of old n) ∷ piece.Bytes (codes "=") ∷ [])) (codes "var " ++ (f n ++ 61 ∷ []))
  declared_head n = record { pieces = piece.Bytes (codes "var ") ∷ piece.Global (number_of old n) ∷ piece.Bytes (codes "=") ∷ []; there = refl; is = refl }

  statement_spells : (s : Statement) → StatementFit C Q s → Spells names (spell_statement (statement_tree old s)) (statement_text f s)
  statement_spells (Declares at n v) h =
      let head = Some (piece.Bytes (codes "var ") ∷ piece.Global (number_of old n) ∷ piece.Bytes (codes "=") ∷ []) in
      let value = spell_value (value_tree old v) in
      let same : (codes "var " ++ (f n ++ 61 ∷ [])) ++ (value_text f v ++ 59 ∷ []) ≡ codes "var " ++ f n ++ 61 ∷ value_text f v ++ 59 ∷ [] = simp append_assoc in
      same_text (join head (join value (one (codes ";")))) ((codes "var " ++ (f n ++ 61 ∷ [])) ++ (value_text f v ++ 59 ∷ [])) (codes "var " ++ f n ++ 61 ∷ value_text f v ++ 59 ∷ []) same
      (joined head (join value (one (codes ";"))) (codes "var " ++ (f n ++ 61 ∷ [])) (value_text f v ++ 59 ∷ []) (declared_head n)
      (joined value (one (codes ";")) (value_text f v) (59 ∷ []) (value_spells v h.1) (bytes (codes ";"))))
  statement_spells (Calls at n vs) h =
      let head = Some (piece.Global (number_of old n) ∷ piece.Bytes (codes "(") ∷ []) in
      let values = spell_values (exprs (map (value_tree old) vs)) in
      let same : (f n ++ 40 ∷ []) ++ (values_text f vs ++ 41 ∷ 59 ∷ []) ≡ f n ++ 40 ∷ values_text f vs ++ 41 ∷ 59 ∷ [] = simp append_assoc in
      same_text (join head (join values (one (codes ");")))) ((f n ++ 40 ∷ []) ++ (values_text f vs ++ 41 ∷ 59 ∷ [])) (f n ++ 40 ∷ values_text f vs ++ 41 ∷ 59 ∷ []) same
      (joined head (join values (one (codes ");"))) (f n ++ 40 ∷ []) (values_text f vs ++ 41 ∷ 59 ∷ []) (called_head n)
      (joined values (one (codes ");")) (values_text f vs) (41 ∷ 59 ∷ []) (values_spell vs h.1) (bytes (codes ");"))))

  pub statements_spell : (ss : List Statement) → StatementsFit C Q ss → Spells names (spell_statements (stmts (map (statement_tree old) ss))) (statements_text f ss)
  unfolding stmts
  statements_spell [] h = record { pieces = []; there = refl; is = refl }
  statements_spell (s ∷ ss) h =
      joined (spell_statement (statement_tree old s)) (spell_statements (stmts (map (statement_tree old) ss))) (statement_text f s) (statements_text f ss) (statement_spells s h.0) (statements_spell ss h.1)

-- sound statements are spelled
pub sound_spelled : (externs : List (List ℕ)) (size : ℕ) (ss : List Statement) → AreSound externs ss → (pieces : List Piece) × (spell_chunk (program_of externs size ss) 0 ≡ Some pieces)
sound_spelled externs size ss h = let t = statements_spell (global_names externs ss) [] IsName IsName ss h.writable in (t.pieces, t.there)

-- the pieces of the program of a source
pub spelled_text : (externs : List (List ℕ)) (size : ℕ) (ss : List Statement) (names : List (List ℕ)) (pieces : List Piece) (C Q : List ℕ → Type 0) → StatementsFit C Q ss
    → spell_chunk (program_of externs size ss) 0 ≡ Some pieces → text_of names pieces ≡ statements_text (new_name (global_names externs ss) names) ss
spelled_text externs size ss names pieces C Q h e =
    let t = statements_spell (global_names externs ss) names C Q ss h in
    let both : Some t.pieces ≡ Some pieces = sym t.there ∙ e in
    let same : t.pieces ≡ pieces = cc in
    subst (λ p. text_of names p ≡ statements_text (new_name (global_names externs ss) names) ss) same t.is

-- What is read is of the form.
use Rattle.std.proofs.Common.{◌≡◌, ℕ, zero, suc, ◌+◌, ◌≤◌, pos, Bool, true, nat_eq, List, [], ◌∷◌, ◌++◌, length, take, drop, None, Some, refl, sym, ap, subst, ◌∙◌, arith, eqb-true, ⊎_elim, length-append, append_assoc, append-nil, codes, length-take-le}
use Rattle.std.specs.List.{list_all, prefix_len}
use Rattle.std.proofs.lemmas.List.{take-append-drop}
use Rattle.std.proofs.lemmas.List.Sums.{prefix_len-le-length}
use Rattle.std.proofs.lemmas.Bool.{and_parts, or_cases}
use Rattle.cc_driver.specs.Names.{is_name_part, IsName}
use Rattle.cc_driver.specs.Form as form
use Rattle.cc_driver.specs.Form.{is_plain, most_more, IsOperand, IsMore, IsValue, IsValues, IsStatement, IsStatements, IsFunctions}
use Rattle.cc_driver.specs.declared.form.Operand.{Operand}
use Rattle.cc_driver.specs.declared.form.Operand.TheVariants.{Named, Text, Whole}
use Rattle.cc_driver.specs.declared.form.Added.{Added}
use Rattle.cc_driver.specs.declared.form.Value.{Value}
use Rattle.cc_driver.specs.declared.form.Statement.{Statement}
use Rattle.cc_driver.specs.declared.form.Statement.TheVariants.{Declares, Calls}
use Rattle.cc_driver.specs.FormReading.{and_then, look, expect, is_digit, number_behind, read_name, read_text, read_number, read_operand, read_more, read_value, read_values, read_arguments, read_declaration, read_call, read_statement, read_statements, read_function, read_functions}
use Rattle.cc_driver.proofs.WholeLaws.{free_parts, free_written}
use Rattle.cc_driver.proofs.Runs.{run_passes, looked, parts, tested, either, same_some, expected, expected_word, begun}

-- what was read has a text of the form, which stood at the beginning
pub record Is {A : Type 0} (R : List ℕ → A → Type 0) (at : ℕ) (xs : List ℕ) (p : A × ℕ × List ℕ) : Type 0 where
  pub text : List ℕ
  pub is : R text p.0
  pub here : xs ≡ text ++ p.2
  pub ends : p.1 ≡ at + length text

-- a name that was read
pub record IsRead (at : ℕ) (xs : List ℕ) (p : List ℕ × ℕ × List ℕ) : Type 0 where
  pub name : IsName p.0
  pub here : xs ≡ p.0 ++ p.2
  pub ends : p.1 ≡ at + length p.0

taken : (p : ℕ → Bool) (xs : List ℕ) → length (take (prefix_len p xs) xs) ≡ prefix_len p xs
taken p xs = length-take-le (prefix_len p xs) xs (prefix_len-le-length p xs)

pub name_sound : (at : ℕ) (xs : List ℕ) (p : List ℕ × ℕ × List ℕ) → read_name at xs ≡ Some p → IsRead at xs p
unfolding read_name
name_sound at xs p e =
    let k = prefix_len is_name_part xs in
    let w = tested _ _ _ e in
    let free = and_parts _ _ w.0 in
    let name : IsName (take k xs) = record { starts = free.0; parts = run_passes is_name_part xs; free = free.1 } in
    subst (IsRead at xs) w.1 (record {
      name = name;
      here = sym (take-append-drop k xs);
      ends = ap (λ n. at + n) (sym (taken is_name_part xs));
    })

pub record IsText (quote at : ℕ) (xs : List ℕ) (p : Operand × ℕ × List ℕ) : Type 0 where
  pub text : List ℕ
  pub plain : list_all is_plain text ≡ true
  pub value : p.0 ≡ Text at text
  pub here : xs ≡ text ++ (quote ∷ p.2)
  pub ends : p.1 ≡ at + 1 + length text + 1

pub text_sound : (quote at : ℕ) (xs : List ℕ) (p : Operand × ℕ × List ℕ) → read_text (suc quote) at xs ≡ Some p → IsText (suc quote) at xs p
unfolding read_text
text_sound quote at xs p e =
    let k = prefix_len is_plain xs in
    let w = parts _ _ _ e in
    let q = expected quote (at + 1 + k) (drop k xs) w.first w.end w.rest w.read in
    let s : (Text at (take k xs), w.end, w.rest) ≡ p = same_some w.then in
    subst (IsText (suc quote) at xs) s (record {
      text = take k xs;
      plain = run_passes is_plain xs;
      value = refl;
      here = sym (take-append-drop k xs) ∙ ap (λ r. take k xs ++ r) q.here;
      ends = q.ends ∙ ap (λ n. at + 1 + n + 1) (sym (taken is_plain xs));
    })

quoted : (quote at : ℕ) (xs : List ℕ) (p : Operand × ℕ × List ℕ)
    → ((t : List ℕ) → list_all is_plain t ≡ true → IsOperand at (suc quote ∷ t ++ suc quote ∷ []) (Text at t))
    → look xs ≡ suc quote → read_text (look xs) at (drop 1 xs) ≡ Some p → Is (IsOperand at) at xs p
quoted quote at xs p make l e =
    let t = text_sound quote at (drop 1 xs) p (ap (λ q. read_text q at (drop 1 xs)) (sym l) ∙ e) in
    record {
      text = suc quote ∷ t.text ++ suc quote ∷ [];
      is = subst (IsOperand at (suc quote ∷ t.text ++ suc quote ∷ [])) (sym t.value) (make t.text t.plain);
      here = looked xs quote l ∙ ap (λ r. suc quote ∷ r) (t.here ∙ sym (append_assoc t.text (suc quote ∷ []) p.2));
      ends = t.ends ∙ (let n : length (suc quote ∷ t.text ++ suc quote ∷ []) ≡ suc (length t.text + 1) = ap suc (length-append t.text (suc quote ∷ [])) in omega arith);
    }

pub number_sound : (at : ℕ) (xs : List ℕ) (p : Operand × ℕ × List ℕ) → read_number at xs ≡ Some p → Is (IsOperand at) at xs p
unfolding read_number
number_sound at xs p e =
    let k = prefix_len is_digit xs in
    let w = tested _ _ _ e in
    let free = free_parts (take k xs) w.0 in
    let written = free_written (take k xs) (run_passes is_digit xs) free in
    subst (Is (IsOperand at) at xs) w.1 (record {
      text = take k xs;
      is = subst (λ t. IsOperand at t (Whole at (pos (number_behind 0 (take k xs))))) written (form.a_whole free.small);
      here = sym (take-append-drop k xs);
      ends = ap (λ n. at + n) (sym (taken is_digit xs));
    })

pub operand_sound : (at : ℕ) (xs : List ℕ) (p : Operand × ℕ × List ℕ) → read_operand at xs ≡ Some p → Is (IsOperand at) at xs p
unfolding read_operand
operand_sound at xs p e =
    ⊎_elim (λ h. ⊎_elim (single h.1) (double h.1) (or_cases _ _ h.0)) (λ h. ⊎_elim (λ d. number_sound at xs p d.1) (λ d. bare d.1) (either _ _ _ _ h.1)) (either _ _ _ _ e)
  where
    single : read_text (look xs) at (drop 1 xs) ≡ Some p → nat_eq (look xs) 39 ≡ true → Is (IsOperand at) at xs p
    single r l = quoted 38 at xs p (λ t h. form.in_single_quotes h) (eqb-true _ _ l) r

    double : read_text (look xs) at (drop 1 xs) ≡ Some p → nat_eq (look xs) 34 ≡ true → Is (IsOperand at) at xs p
    double r l = quoted 33 at xs p (λ t h. form.in_double_quotes h) (eqb-true _ _ l) r

    bare : and_then (read_name at xs) (λ n end rest. Some (Named at n, end, rest)) ≡ Some p → Is (IsOperand at) at xs p
    bare r =
        let w = parts _ _ _ r in
        let n = name_sound at xs (w.first, w.end, w.rest) w.read in
        let s : (Named at w.first, w.end, w.rest) ≡ p = same_some w.then in
        subst (Is (IsOperand at) at xs) s (record {
          text = w.first;
          is = form.a_name n.name;
          here = n.here;
          ends = n.ends;
        })

-- operands that were read, each behind a `+`, as many as n at most, after those that were found before
pub record AreMore (n : ℕ) (found : List Added) (at : ℕ) (xs : List ℕ) (p : List Added × ℕ × List ℕ) : Type 0 where
  pub text : List ℕ
  pub more : List Added
  pub is : IsMore at text more
  pub few : length more ≤ n
  pub all : p.0 ≡ found ++ more
  pub here : xs ≡ text ++ p.2
  pub ends : p.1 ≡ at + length text

no_more_read : (n : ℕ) (found : List Added) (at : ℕ) (xs : List ℕ) (p : List Added × ℕ × List ℕ) → (found, at, xs) ≡ p → AreMore n found at xs p
no_more_read n found at xs p s = subst (AreMore n found at xs) s (record { text = []; more = []; is = form.no_more; few = omega arith; all = sym (append-nil found); here = refl; ends = omega arith })

pub more_sound : (n : ℕ) (found : List Added) (at : ℕ) (xs : List ℕ) (p : List Added × ℕ × List ℕ) → read_more n found at xs ≡ Some p → AreMore n found at xs p
unfolding read_more
more_sound zero found at xs p e = no_more_read zero found at xs p (same_some e)
more_sound (suc n) found at xs p e = ⊎_elim (λ h. next (eqb-true _ _ h.0) h.1 (λ m a ys. more_sound n (found ++ m ∷ []) a ys p)) (λ h. no_more_read (suc n) found at xs p (same_some h.1)) (either _ _ _ _ e)
  where
    next : look xs ≡ 43 → and_then (read_operand (at + 1) (drop 1 xs)) (λ o a ys. read_more n (found ++ (record { plus = at; operand = o }) ∷ []) a ys) ≡ Some p
        → ((m : Added) (a : ℕ) (ys : List ℕ) → read_more n (found ++ m ∷ []) a ys ≡ Some p → AreMore n (found ++ m ∷ []) a ys p) → AreMore (suc n) found at xs p
    next l h again =
        let w = parts _ _ _ h in
        let m : Added = record { plus = at; operand = w.first } in
        let o = operand_sound (at + 1) (drop 1 xs) (w.first, w.end, w.rest) w.read in
        let r = again m w.end w.rest w.then in
        record {
          text = 43 ∷ o.text ++ r.text;
          more = m ∷ r.more;
          is = form.one_more o.is (subst (λ k. IsMore k r.text r.more) o.ends r.is);
          few = (let less : length r.more ≤ n = r.few in omega arith);
          all = r.all ∙ append_assoc found (m ∷ []) r.more;
          here = looked xs 42 l ∙ ap (λ t. 43 ∷ t) (o.here ∙ ap (λ t. o.text ++ t) r.here ∙ sym (append_assoc o.text r.text p.2));
          ends = (let whole : length (43 ∷ o.text ++ r.text) ≡ suc (length o.text + length r.text) = ap suc (length-append o.text r.text) in
              let o_is : w.end ≡ at + 1 + length o.text = o.ends in
              let r_is : p.1 ≡ w.end + length r.text = r.ends in omega arith);
        }

pub value_sound : (at : ℕ) (xs : List ℕ) (p : Value × ℕ × List ℕ) → read_value at xs ≡ Some p → Is (IsValue at) at xs p
unfolding read_value
value_sound at xs p e =
    let w = parts _ _ _ e in
    let o = operand_sound at xs (w.first, w.end, w.rest) w.read in
    let v = parts _ _ _ w.then in
    let m = more_sound most_more [] w.end w.rest (v.first, v.end, v.rest) v.read in
    let chain : Value = record { first = w.first; more = v.first } in
    let s : (chain, v.end, v.rest) ≡ p = same_some v.then in
    let all : IsMore w.end m.text v.first = subst (IsMore w.end m.text) (sym m.all) m.is in
    let whole : length (o.text ++ m.text) ≡ length o.text + length m.text = length-append o.text m.text in
    let o_is : w.end ≡ at + length o.text = o.ends in
    let m_is : v.end ≡ w.end + length m.text = m.ends in
    subst (Is (IsValue at) at xs) s (record {
      text = o.text ++ m.text;
      is = form.a_chain o.is (subst (λ k. IsMore k m.text v.first) o.ends all) (subst (λ ms. length ms ≤ most_more) (sym m.all) m.few);
      here = o.here ∙ ap (λ t. o.text ++ t) m.here ∙ sym (append_assoc o.text m.text v.rest);
      ends = omega arith;
    })

-- values that were read, with the parenthesis behind them, after those that were found before
pub record AreValues (found : List Value) (at : ℕ) (xs : List ℕ) (p : List Value × ℕ × List ℕ) : Type 0 where
  pub text : List ℕ
  pub first : Value
  pub more : List Value
  pub is : IsValues at text (first ∷ more)
  pub values : p.0 ≡ found ++ (first ∷ more)
  pub here : xs ≡ text ++ (41 ∷ p.2)
  pub ends : p.1 ≡ at + length text + 1

pub values_sound : (n : ℕ) (found : List Value) (at : ℕ) (xs : List ℕ) (p : List Value × ℕ × List ℕ) → read_values n found at xs ≡ Some p → AreValues found at xs p
unfolding read_values
values_sound zero found at xs p e = absurd (no e)
  where
    no : None ≡ Some p → ⊥
    no e = cc
values_sound (suc n) found at xs p e =
    let w = parts _ _ _ e in
    let v = value_sound at xs (w.first, w.end, w.rest) w.read in
    ⊎_elim (λ h. more w.first w.end w.rest v (eqb-true _ _ h.0) (values_sound n (found ++ w.first ∷ []) (w.end + 1) (drop 1 w.rest) p h.1)) (λ h. last w.first w.end w.rest v h.1) (either _ _ _ _ w.then)
  where
    more : (v : Value) (a : ℕ) (ys : List ℕ) → Is (IsValue at) at xs (v, a, ys) → look ys ≡ 44 → AreValues (found ++ v ∷ []) (a + 1) (drop 1 ys) p → AreValues found at xs p
    more v a ys i l r = record {
      text = i.text ++ 44 ∷ r.text;
      first = v;
      more = r.first ∷ r.more;
      is = form.more_values i.is (let same : a + 1 ≡ at + length i.text + 1 = ap (λ k. k + 1) i.ends in subst (λ k. IsValues k r.text (r.first ∷ r.more)) same r.is);
      values = r.values ∙ append_assoc found (v ∷ []) (r.first ∷ r.more);
      here = i.here ∙ ap (λ t. i.text ++ t) (looked ys 43 l ∙ ap (λ t. 44 ∷ t) r.here) ∙ sym (append_assoc i.text (44 ∷ r.text) (41 ∷ p.2));
      ends = (let n : length (i.text ++ 44 ∷ r.text) ≡ length i.text + suc (length r.text) = length-append i.text (44 ∷ r.text) in
          let a_is : a ≡ at + length i.text = i.ends in
          let p_is : p.1 ≡ a + 1 + length r.text + 1 = r.ends in omega arith);
    }

    last : (v : Value) (a : ℕ) (ys : List ℕ) → Is (IsValue at) at xs (v, a, ys) → and_then (expect 41 a ys) (λ u b zs. Some (found ++ v ∷ [], b, zs)) ≡ Some p → AreValues found at xs p
    last v a ys i e =
        let w = parts _ _ _ e in
        let q = expected 40 a ys w.first w.end w.rest w.read in
        let s : (found ++ v ∷ [], w.end, w.rest) ≡ p = same_some w.then in
        subst (AreValues found at xs) s (record {
          text = i.text;
          first = v;
          more = [];
          is = form.last_value i.is;
          values = refl;
          here = i.here ∙ ap (λ t. i.text ++ t) q.here;
          ends = q.ends ∙ ap (λ k. k + 1) i.ends;
        })

-- the arguments of a call that were read, with the parenthesis behind them
pub record AreArguments (at : ℕ) (xs : List ℕ) (p : List Value × ℕ × List ℕ) : Type 0 where
  pub text : List ℕ
  pub is : IsValues at text p.0
  pub here : xs ≡ text ++ (41 ∷ p.2)
  pub ends : p.1 ≡ at + length text + 1

pub arguments_sound : (at : ℕ) (xs : List ℕ) (p : List Value × ℕ × List ℕ) → read_arguments at xs ≡ Some p → AreArguments at xs p
unfolding read_arguments
arguments_sound at xs p e = ⊎_elim (λ h. none (eqb-true _ _ h.0) (same_some h.1)) (λ h. some (values_sound (length xs) [] at xs p h.1)) (either _ _ _ _ e)
  where
    none : look xs ≡ 41 → ([], at + 1, drop 1 xs) ≡ p → AreArguments at xs p
    none l s = subst (AreArguments at xs) s (record { text = []; is = form.no_values; here = looked xs 40 l; ends = omega arith })

    some : AreValues [] at xs p → AreArguments at xs p
    some r = record { text = r.text; is = subst (IsValues at r.text) (sym r.values) r.is; here = r.here; ends = r.ends }

declared_text : (w xs ys n r1 r2 x r3 r4 : List ℕ) → xs ≡ w ++ ys → ys ≡ n ++ r1 → r1 ≡ 61 ∷ r2 → r2 ≡ x ++ r3 → r3 ≡ 59 ∷ r4 → xs ≡ (w ++ n ++ 61 ∷ x ++ 59 ∷ []) ++ r4
declared_text w xs ys n r1 r2 x r3 r4 e0 e1 e2 e3 e4 =
    let apart : (w ++ n ++ 61 ∷ x ++ 59 ∷ []) ++ r4 ≡ w ++ (n ++ (61 ∷ (x ++ (59 ∷ r4)))) = simp append_assoc in
    e0 ∙ ap (λ t. w ++ t) (e1 ∙ ap (λ t. n ++ t) (e2 ∙ ap (λ t. 61 ∷ t) (e3 ∙ ap (λ t. x ++ t) e4))) ∙ sym apart

pub declaration_sound : (at : ℕ) (xs ys : List ℕ) (p : Statement × ℕ × List ℕ) → xs ≡ codes "var " ++ ys → read_declaration at ys ≡ Some p → Is (IsStatement at) at xs p
unfolding read_declaration
declaration_sound at xs ys p e0 e =
    let w1 = parts _ _ _ e in
    let n = name_sound (at + 4) ys (w1.first, w1.end, w1.rest) w1.read in
    let w2 = parts _ _ _ w1.then in
    let q = expected 60 w1.end w1.rest w2.first w2.end w2.rest w2.read in
    let w3 = parts _ _ _ w2.then in
    let v = value_sound w2.end w2.rest (w3.first, w3.end, w3.rest) w3.read in
    let w4 = parts _ _ _ w3.then in
    let z = expected 58 w3.end w3.rest w4.first w4.end w4.rest w4.read in
    let s : (Declares at w1.first w3.first, w4.end, w4.rest) ≡ p = same_some w4.then in
    let n_is : w1.end ≡ at + 4 + length w1.first = n.ends in
    let q_is : w2.end ≡ w1.end + 1 = q.ends in
    let v_is : w3.end ≡ w2.end + length v.text = v.ends in
    let z_is : w4.end ≡ w3.end + 1 = z.ends in
    let from : w2.end ≡ at + 5 + length w1.first = omega arith in
    subst (Is (IsStatement at) at xs) s (record {
      text = codes "var " ++ w1.first ++ 61 ∷ v.text ++ 59 ∷ [];
      is = form.a_declaration n.name (subst (λ k. IsValue k v.text w3.first) from v.is);
      here = declared_text (codes "var ") xs ys w1.first w1.rest w2.rest v.text w3.rest w4.rest e0 n.here q.here v.here z.here;
      ends = simp length-append (omega arith);
    })

called_text : (xs n r1 r2 x r3 r4 : List ℕ) → xs ≡ n ++ r1 → r1 ≡ 40 ∷ r2 → r2 ≡ x ++ (41 ∷ r3) → r3 ≡ 59 ∷ r4 → xs ≡ (n ++ 40 ∷ x ++ 41 ∷ 59 ∷ []) ++ r4
called_text xs n r1 r2 x r3 r4 e1 e2 e3 e4 =
    let apart : (n ++ 40 ∷ x ++ 41 ∷ 59 ∷ []) ++ r4 ≡ n ++ (40 ∷ (x ++ (41 ∷ 59 ∷ r4))) = simp append_assoc in
    e1 ∙ ap (λ t. n ++ t) (e2 ∙ ap (λ t. 40 ∷ t) (e3 ∙ ap (λ t. x ++ (41 ∷ t)) e4)) ∙ sym apart

pub call_sound : (at : ℕ) (xs : List ℕ) (p : Statement × ℕ × List ℕ) → read_call at xs ≡ Some p → Is (IsStatement at) at xs p
unfolding read_call
call_sound at xs p e =
    let w1 = parts _ _ _ e in
    let n = name_sound at xs (w1.first, w1.end, w1.rest) w1.read in
    let w2 = parts _ _ _ w1.then in
    let q = expected 39 w1.end w1.rest w2.first w2.end w2.rest w2.read in
    let w3 = parts _ _ _ w2.then in
    let v = arguments_sound w2.end w2.rest (w3.first, w3.end, w3.rest) w3.read in
    let w4 = parts _ _ _ w3.then in
    let z = expected 58 w3.end w3.rest w4.first w4.end w4.rest w4.read in
    let s : (Calls at w1.first w3.first, w4.end, w4.rest) ≡ p = same_some w4.then in
    let n_is : w1.end ≡ at + length w1.first = n.ends in
    let q_is : w2.end ≡ w1.end + 1 = q.ends in
    let v_is : w3.end ≡ w2.end + length v.text + 1 = v.ends in
    let z_is : w4.end ≡ w3.end + 1 = z.ends in
    let from : w2.end ≡ at + length w1.first + 1 = omega arith in
    subst (Is (IsStatement at) at xs) s (record {
      text = w1.first ++ 40 ∷ v.text ++ 41 ∷ 59 ∷ [];
      is = form.a_call n.name (subst (λ k. IsValues k v.text w3.first) from v.is);
      here = called_text xs w1.first w1.rest w2.rest v.text w3.rest w4.rest n.here q.here v.here z.here;
      ends = simp length-append (omega arith);
    })

pub statement_sound : (at : ℕ) (xs : List ℕ) (p : Statement × ℕ × List ℕ) → read_statement at xs ≡ Some p → Is (IsStatement at) at xs p
unfolding read_statement
statement_sound at xs p e = ⊎_elim (λ h. declaration_sound at xs (drop 4 xs) p (begun (codes "var ") xs h.0) h.1) (λ h. call_sound at xs p h.1) (either _ _ _ _ e)

pub empty : (xs : List ℕ) → nat_eq (length xs) 0 ≡ true → xs ≡ []
empty [] e = refl
empty (x ∷ xs) e = absurd (let none : length (x ∷ xs) ≡ 0 = eqb-true _ _ e in omega arith)

-- statements that were read to the end, after those that were found before
pub record AreStatements (found : List Statement) (at : ℕ) (xs : List ℕ) (all : List Statement) : Type 0 where
  pub more : List Statement
  pub is : IsStatements at xs more
  pub statements : all ≡ found ++ more

pub statements_sound : (n : ℕ) (found : List Statement) (at : ℕ) (xs : List ℕ) (all : List Statement) → read_statements n found at xs ≡ Some all → AreStatements found at xs all
unfolding read_statements
statements_sound zero found at xs all e = absurd (no e)
  where
    no : None ≡ Some all → ⊥
    no e = cc
statements_sound (suc n) found at xs all e =
    ⊎_elim (λ h. done (empty xs h.0) (same_some h.1)) (λ h. next h.1 (λ s a ys. statements_sound n (found ++ s ∷ []) a ys all)) (either _ _ _ _ e)
  where
    done : xs ≡ [] → found ≡ all → AreStatements found at xs all
    done none s = record { more = []; is = subst (λ t. IsStatements at t []) (sym none) form.no_statements; statements = sym s ∙ sym (append-nil found) }

    next : and_then (read_statement at xs) (λ s a ys. read_statements n (found ++ s ∷ []) a ys) ≡ Some all
        → ((s : Statement) (a : ℕ) (ys : List ℕ) → read_statements n (found ++ s ∷ []) a ys ≡ Some all → AreStatements (found ++ s ∷ []) a ys all) → AreStatements found at xs all
    next h again =
        let w = parts _ _ _ h in
        let f = statement_sound at xs (w.first, w.end, w.rest) w.read in
        let r = again w.first w.end w.rest w.then in
        record {
          more = w.first ∷ r.more;
          is = subst (λ t. IsStatements at t (w.first ∷ r.more)) (sym f.here) (form.more_statements f.is (subst (λ k. IsStatements k w.rest r.more) f.ends r.is));
          statements = r.statements ∙ append_assoc found (w.first ∷ []) r.more;
        }

-- a function that was read
pub record IsFunction (xs : List ℕ) (p : List ℕ × ℕ × List ℕ) : Type 0 where
  pub parameter : List ℕ
  pub name : IsName p.0
  pub other : IsName parameter
  pub here : xs ≡ codes "function " ++ p.0 ++ 40 ∷ parameter ++ codes "){}" ++ p.2

function_text : (w xs n r0 r1 r2 m r3 v r4 : List ℕ) → xs ≡ w ++ r0 → r0 ≡ n ++ r1 → r1 ≡ 40 ∷ r2 → r2 ≡ m ++ r3 → r3 ≡ v ++ r4 → xs ≡ w ++ n ++ 40 ∷ m ++ v ++ r4
function_text w xs n r0 r1 r2 m r3 v r4 e0 e1 e2 e3 e4 =
    let apart : w ++ n ++ 40 ∷ m ++ v ++ r4 ≡ w ++ (n ++ (40 ∷ (m ++ (v ++ r4)))) = simp append_assoc in
    e0 ∙ ap (λ t. w ++ t) (e1 ∙ ap (λ t. n ++ t) (e2 ∙ ap (λ t. 40 ∷ t) (e3 ∙ ap (λ t. m ++ t) e4))) ∙ sym apart

pub function_sound : (at : ℕ) (xs : List ℕ) (p : List ℕ × ℕ × List ℕ) → read_function at xs ≡ Some p → IsFunction xs p
unfolding read_function
function_sound at xs p e =
    let w0 = parts _ _ _ e in
    let f = expected_word (codes "function ") at xs w0.first w0.end w0.rest w0.read in
    let w1 = parts _ _ _ w0.then in
    let n = name_sound w0.end w0.rest (w1.first, w1.end, w1.rest) w1.read in
    let w2 = parts _ _ _ w1.then in
    let q = expected 39 w1.end w1.rest w2.first w2.end w2.rest w2.read in
    let w3 = parts _ _ _ w2.then in
    let m = name_sound w2.end w2.rest (w3.first, w3.end, w3.rest) w3.read in
    let w4 = parts _ _ _ w3.then in
    let z = expected_word (codes "){}") w3.end w3.rest w4.first w4.end w4.rest w4.read in
    let s : (w1.first, w4.end, w4.rest) ≡ p = same_some w4.then in
    subst (IsFunction xs) s (record {
      parameter = w3.first;
      name = n.name;
      other = m.name;
      here = function_text (codes "function ") xs w1.first w0.rest w1.rest w2.rest w3.first w3.rest (codes "){}") w4.rest f.here n.here q.here m.here z.here;
    })

-- functions that were read to the end, after those that were found before
pub record AreFunctions (found : List (List ℕ)) (xs : List ℕ) (all : List (List ℕ)) : Type 0 where
  pub more : List (List ℕ)
  pub is : IsFunctions xs more
  pub functions : all ≡ found ++ more

pub functions_sound : (n : ℕ) (found : List (List ℕ)) (at : ℕ) (xs : List ℕ) (all : List (List ℕ)) → read_functions n found at xs ≡ Some all → AreFunctions found xs all
unfolding read_functions
functions_sound zero found at xs all e = absurd (no e)
  where
    no : None ≡ Some all → ⊥
    no e = cc
functions_sound (suc n) found at xs all e =
    ⊎_elim (λ h. done (empty xs h.0) (same_some h.1)) (λ h. next h.1 (λ s a ys. functions_sound n (found ++ s ∷ []) a ys all)) (either _ _ _ _ e)
  where
    done : xs ≡ [] → found ≡ all → AreFunctions found xs all
    done none s = record { more = []; is = subst (λ t. IsFunctions t []) (sym none) form.no_functions; functions = sym s ∙ sym (append-nil found) }

    next : and_then (read_function at xs) (λ s a ys. read_functions n (found ++ s ∷ []) a ys) ≡ Some all
        → ((s : List ℕ) (a : ℕ) (ys : List ℕ) → read_functions n (found ++ s ∷ []) a ys ≡ Some all → AreFunctions (found ++ s ∷ []) ys all) → AreFunctions found xs all
    next h again =
        let w = parts _ _ _ h in
        let f = function_sound at xs (w.first, w.end, w.rest) w.read in
        let r = again w.first w.end w.rest w.then in
        record {
          more = w.first ∷ r.more;
          is = subst (λ t. IsFunctions t (w.first ∷ r.more)) (sym f.here) (form.more_functions f.name f.other r.is);
          functions = r.functions ∙ append_assoc found (w.first ∷ []) r.more;
        }

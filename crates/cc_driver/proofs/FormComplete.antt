-- What is of the form is read, whatever follows that doesn't go on with a name.
use Rattle.std.proofs.Common.{◌≡◌, ℕ, zero, suc, ◌+◌, ◌<◌, ◌≤◌, pos, ◌⊎◌, inl, inr, Bool, true, false, nat_le, eqb-true, leb-true, take, ◌&&◌, ◌||◌, not, nat_eq, List, [], ◌∷◌, ◌++◌, length, Some, refl, sym, ap, subst, ◌∙◌, arith, ne_eqb, ⊎_elim, length-append, append_assoc, append-nil, codes, true≢false}
use Rattle.std.specs.List.{list_all, prefix_len}
use Rattle.std.specs.Fmt.{decimal}
use Rattle.std.proofs.Math.Seq.{take-append_seam, drop-append_seam}
use Rattle.std.proofs.lemmas.Bool.{and_parts, and_from, or_cases, cases_Bool, eqb-false}
use Rattle.cc_driver.specs.Names.{between, is_name_part, is_name_start, starts_name, is_in, IsName, reserved_words, built_in_names, special_names}
use Rattle.cc_driver.specs.Form as form
use Rattle.cc_driver.specs.Form.{is_plain, whole_limit, most_more, IsOperand, IsMore, IsValue, IsValues, IsStatement, IsStatements, IsFunctions}
use Rattle.cc_driver.specs.declared.form.Operand.{Operand}
use Rattle.cc_driver.specs.declared.form.Operand.TheVariants.{Text, Whole}
use Rattle.cc_driver.specs.declared.form.Added.{Added}
use Rattle.cc_driver.specs.declared.form.Value.{Value}
use Rattle.cc_driver.specs.declared.form.Statement.{Statement}
use Rattle.cc_driver.specs.declared.form.Statement.TheVariants.{Declares, Calls}
use Rattle.cc_driver.specs.FormReading.{Reading, look, begins, expect, named, read_name, texted, read_text, is_digit, number_behind, is_free_number, numbered, read_number, read_operand, read_more, read_value, read_values, read_arguments, read_declaration, read_call, read_statement, read_statements, read_function, read_functions}
use Rattle.cc_driver.proofs.WholeLaws.{decimal_digits, decimal_number, decimal_some, decimal_free, digits_begin}
use Rattle.cc_driver.proofs.Runs.{run_of, step, chosen, skipped, takes, takes_word, begun}

pub name_complete : (at : ℕ) (n rest : List ℕ) → IsName n → is_name_part (look rest) ≡ false → read_name at (n ++ rest) ≡ Some (n, at + length n, rest)
unfolding read_name
name_complete at n rest h ends =
    let e : prefix_len is_name_part (n ++ rest) ≡ length n = run_of is_name_part n rest h.parts ends in
    let t = take-append_seam n rest in
    let d = drop-append_seam n rest in
    ap (named at (n ++ rest)) e ∙ chosen _ _ (ap (λ m. starts_name m && not (is_in m (reserved_words ++ built_in_names ++ special_names))) t ∙ and_from _ _ h.starts h.free) (λ i. Some (t i, at + length n, d i))

pub text_complete : (quote at : ℕ) (t rest : List ℕ) → list_all is_plain t ≡ true → is_plain quote ≡ false → read_text quote at (t ++ quote ∷ rest) ≡ Some (Text at t, at + 1 + length t + 1, rest)
unfolding read_text
text_complete quote at t rest all ends =
    let e : prefix_len is_plain (t ++ quote ∷ rest) ≡ length t = run_of is_plain t (quote ∷ rest) all ends in
    let d = drop-append_seam t (quote ∷ rest) in
    ap (texted quote at (t ++ quote ∷ rest)) e ∙ step _ (ap (expect quote (at + 1 + length t)) d ∙ takes quote (at + 1 + length t) rest) (ap (λ m. Some (Text at m, at + 1 + length t + 1, rest)) (take-append_seam t (quote ∷ rest)))

-- a byte that begins a name is no other
other : (c d : ℕ) → is_name_start d ≡ false → is_name_start c ≡ true → nat_eq c d ≡ false
other c d apart begun = ne_eqb c d (λ e. true≢false (sym begun ∙ ap is_name_start e ∙ apart))

pub name_begins : (n rest : List ℕ) (d : ℕ) → IsName n → is_name_start d ≡ false → nat_eq (look (n ++ rest)) d ≡ false
name_begins n rest d h apart = by n h.starts
  where
    by : (n : List ℕ) → starts_name n ≡ true → nat_eq (look (n ++ rest)) d ≡ false
    by [] e = absurd (true≢false (sym e))
    by (c ∷ cs) e = other c d apart e

-- a byte that begins a name is no digit
start_range : (c : ℕ) → is_name_start c ≡ true → (58 ≤ c) ⊎ (c < 48)
start_range c e = ⊎_elim (λ t. ⊎_elim (λ u. ⊎_elim (λ l. inl (from_low 97 122 l (omega arith))) (λ l. inl (from_low 65 90 l (omega arith))) (or_cases _ _ u)) (λ d. inr (let same : c ≡ 36 = eqb-true c 36 d in omega arith)) (or_cases _ _ t)) (λ d. inl (let same : c ≡ 95 = eqb-true c 95 d in omega arith)) (or_cases _ _ e)
  where
    from_low : (low high : ℕ) → between low high c ≡ true → 58 ≤ low → 58 ≤ c
    from_low low high h l = let more : low ≤ c = leb-true low c (and_parts (nat_le low c) (nat_le c high) h).0 in omega arith

start_no_digit : (c : ℕ) → is_name_start c ≡ true → is_digit c ≡ false
start_no_digit c e = ⊎_elim (λ d. absurd (by d)) (λ d. d) (cases_Bool (is_digit c))
  where
    by : is_digit c ≡ true → ⊥
    by d =
        let w = and_parts (nat_le 48 c) (nat_le c 57) d in
        let low : 48 ≤ c = leb-true 48 c w.0 in
        let high : c ≤ 57 = leb-true c 57 w.1 in
        ⊎_elim (λ h. omega arith) (λ h. omega arith) (start_range c e)

name_no_digit : (n rest : List ℕ) → IsName n → is_digit (look (n ++ rest)) ≡ false
name_no_digit n rest h = by n h.starts
  where
    by : (n : List ℕ) → starts_name n ≡ true → is_digit (look (n ++ rest)) ≡ false
    by [] e = absurd (true≢false (sym e))
    by (c ∷ cs) e = start_no_digit c e

-- a digit is no byte that isn't one
digit_other : (c d : ℕ) → is_digit d ≡ false → is_digit c ≡ true → nat_eq c d ≡ false
digit_other c d apart begun = ne_eqb c d (λ e. true≢false (sym begun ∙ ap is_digit e ∙ apart))

-- a byte that is no part of a name is no digit
part_no_digit : (c : ℕ) → is_name_part c ≡ false → is_digit c ≡ false
part_no_digit c e = right (is_name_start c) (is_digit c) e
  where
    right : (a b : Bool) → (a || b) ≡ false → b ≡ false
    right true b e = absurd (true≢false e)
    right false b e = e

pub number_complete : (at n : ℕ) (rest : List ℕ) → n < whole_limit → is_name_part (look rest) ≡ false → read_number at (decimal n ++ rest) ≡ Some (Whole at (pos n), at + length (decimal n), rest)
unfolding read_number
number_complete at n rest l ends =
    let e : prefix_len is_digit (decimal n ++ rest) ≡ length (decimal n) = run_of is_digit (decimal n) rest (decimal_digits n l) (part_no_digit (look rest) ends) in
    let t = take-append_seam (decimal n) rest in
    let d = drop-append_seam (decimal n) rest in
    let same : number_behind 0 (take (length (decimal n)) (decimal n ++ rest)) ≡ n = ap (number_behind 0) t ∙ decimal_number n l in
    ap (numbered at (decimal n ++ rest)) e ∙ chosen _ _ (ap is_free_number t ∙ decimal_free n l) (λ i. Some (Whole at (pos (same i)), at + length (decimal n), d i))

pub operand_complete : (at : ℕ) (x : List ℕ) (o : Operand) (rest : List ℕ) → IsOperand at x o → is_name_part (look rest) ≡ false → read_operand at (x ++ rest) ≡ Some (o, at + length x, rest)
unfolding read_operand
operand_complete at x o rest (form.a_name {n} h) ends =
    let bare : (nat_eq (look (n ++ rest)) 39 || nat_eq (look (n ++ rest)) 34) ≡ false = (λ i. name_begins n rest 39 h refl i || name_begins n rest 34 h refl i) in
    skipped _ _ bare (skipped _ _ (name_no_digit n rest h) (step _ (name_complete at n rest h ends) refl))
operand_complete at x o rest (form.in_single_quotes {t} h) ends =
    let same : t ++ 39 ∷ [] ++ rest ≡ t ++ 39 ∷ rest = append_assoc t (39 ∷ []) rest in
    let n : at + 1 + length t + 1 ≡ at + suc (length (t ++ 39 ∷ [])) = simp length-append (omega arith) in
    ap (read_text 39 at) same ∙ text_complete 39 at t rest h refl ∙ ap (λ k. Some (Text at t, k, rest)) n
operand_complete at x o rest (form.in_double_quotes {t} h) ends =
    let same : t ++ 34 ∷ [] ++ rest ≡ t ++ 34 ∷ rest = append_assoc t (34 ∷ []) rest in
    let n : at + 1 + length t + 1 ≡ at + suc (length (t ++ 34 ∷ [])) = simp length-append (omega arith) in
    ap (read_text 34 at) same ∙ text_complete 34 at t rest h refl ∙ ap (λ k. Some (Text at t, k, rest)) n
operand_complete at x o rest (form.a_whole {n} l) ends =
    let first : is_digit (look (decimal n ++ rest)) ≡ true = digits_begin (decimal n) rest (decimal_digits n l) (decimal_some n l) in
    let bare : (nat_eq (look (decimal n ++ rest)) 39 || nat_eq (look (decimal n ++ rest)) 34) ≡ false = (λ i. digit_other (look (decimal n ++ rest)) 39 refl first i || digit_other (look (decimal n ++ rest)) 34 refl first i) in
    skipped _ _ bare (chosen _ _ first (number_complete at n rest l ends))

-- what follows an operand goes on with no name
more_ends : (at : ℕ) (x : List ℕ) (ms : List Added) (rest : List ℕ) → IsMore at x ms → is_name_part (look rest) ≡ false → is_name_part (look (x ++ rest)) ≡ false
more_ends at _ _ rest form.no_more ends = ends
more_ends at _ _ rest (form.one_more h hs) ends = refl

none_more : (found : List Added) (at : ℕ) (rest : List ℕ) → ◌≡◌ {A = Reading (List Added)} (Some (found, at, rest)) (Some (found ++ [], at + 0, rest))
none_more found at rest = let none : at ≡ at + 0 = omega arith in (λ i. Some (sym (append-nil found) i, none i, rest))

pub more_complete : (n : ℕ) (found : List Added) (at : ℕ) (x : List ℕ) (ms : List Added) (rest : List ℕ)
    → IsMore at x ms → length ms ≤ n → is_name_part (look rest) ≡ false → nat_eq (look rest) 43 ≡ false → read_more n found at (x ++ rest) ≡ Some (found ++ ms, at + length x, rest)
unfolding read_more
more_complete zero found at _ _ rest form.no_more few ends stops = none_more found at rest
more_complete zero found at _ _ rest (form.one_more {ms = ms} h hs) few ends stops = absurd (omega arith)
more_complete (suc n) found at _ _ rest form.no_more few ends stops = skipped _ _ stops (none_more found at rest)
more_complete (suc n) found at _ _ rest (form.one_more {x = x} {y = y} {o = o} {ms = ms} h hs) few ends stops =
    let m : Added = record { plus = at; operand = o } in
    let fits : length ms ≤ n = omega arith in
    let l : length (43 ∷ x ++ y) ≡ suc (length x + length y) = ap suc (length-append x y) in
    let behind : at + 1 + length x + length y ≡ at + length (43 ∷ x ++ y) = omega arith in
    step _ (ap (read_operand (at + 1)) (append_assoc x y rest) ∙ operand_complete (at + 1) x o (y ++ rest) h (more_ends (at + 1 + length x) y ms rest hs ends))
    (more_complete n (found ++ m ∷ []) (at + 1 + length x) y ms rest hs fits ends stops ∙ (λ i. Some (append_assoc found (m ∷ []) ms i, behind i, rest)))

pub value_complete : (at : ℕ) (x : List ℕ) (v : Value) (rest : List ℕ) → IsValue at x v → is_name_part (look rest) ≡ false → nat_eq (look rest) 43 ≡ false → read_value at (x ++ rest) ≡ Some (v, at + length x, rest)
unfolding read_value
value_complete at _ _ rest (form.a_chain {x} {y} {o} {ms} h hs few) ends stops =
    let l : length (x ++ y) ≡ length x + length y = length-append x y in
    let behind : at + length x + length y ≡ at + length (x ++ y) = omega arith in
    step _ (ap (read_operand at) (append_assoc x y rest) ∙ operand_complete at x o (y ++ rest) h (more_ends (at + length x) y ms rest hs ends))
    (step _ (more_complete most_more [] (at + length x) y ms rest hs few ends stops) (ap (λ k. Some (record { first = o; more = ms }, k, rest)) behind))

pub values_complete : (n : ℕ) (found : List Value) (at : ℕ) (x : List ℕ) (v : Value) (vs : List Value) (rest : List ℕ)
    → IsValues at x (v ∷ vs) → length x < n → read_values n found at (x ++ 41 ∷ rest) ≡ Some (found ++ (v ∷ vs), at + length x + 1, rest)
unfolding read_values
values_complete zero found at x v vs rest h lt = absurd (omega arith)
values_complete (suc n) found at _ v _ rest (form.last_value {x = x} h) lt = step _ (value_complete at x v (41 ∷ rest) h refl refl) (step _ (takes 41 (at + length x) rest) refl)
values_complete (suc n) found at _ v _ rest (form.more_values {x = x} {y = y} {w = w} {vs = vs} h hs) lt =
    let l : length (x ++ 44 ∷ y) ≡ length x + suc (length y) = length-append x (44 ∷ y) in
    let fits : length y < n = omega arith in
    let same : (x ++ 44 ∷ y) ++ 41 ∷ rest ≡ x ++ (44 ∷ (y ++ 41 ∷ rest)) = append_assoc x (44 ∷ y) (41 ∷ rest) in
    let ends : at + length x + 1 + length y + 1 ≡ at + length (x ++ 44 ∷ y) + 1 = omega arith in
    ap (read_values (suc n) found at) same
    ∙ step _ (value_complete at x v (44 ∷ (y ++ 41 ∷ rest)) h refl refl)
    (values_complete n (found ++ v ∷ []) (at + length x + 1) y w vs rest hs fits ∙ (λ i. Some (append_assoc found (v ∷ []) (w ∷ vs) i, ends i, rest)))

-- a value doesn't begin with a parenthesis
operand_begins : (at : ℕ) (x : List ℕ) (o : Operand) (rest : List ℕ) → IsOperand at x o → nat_eq (look (x ++ rest)) 41 ≡ false
operand_begins at x o rest (form.a_name {n} h) = name_begins n rest 41 h refl
operand_begins at x o rest (form.in_single_quotes h) = refl
operand_begins at x o rest (form.in_double_quotes h) = refl
operand_begins at x o rest (form.a_whole {n} l) = digit_other (look (decimal n ++ rest)) 41 refl (digits_begin (decimal n) rest (decimal_digits n l) (decimal_some n l))

value_begins : (at : ℕ) (x : List ℕ) (v : Value) (rest : List ℕ) → IsValue at x v → nat_eq (look (x ++ rest)) 41 ≡ false
value_begins at _ _ rest (form.a_chain {x} {y} {o} h hs few) = ap (λ t. nat_eq (look t) 41) (append_assoc x y rest) ∙ operand_begins at x o (y ++ rest) h

values_begin : (at : ℕ) (x : List ℕ) (v : Value) (vs : List Value) (rest : List ℕ) → IsValues at x (v ∷ vs) → nat_eq (look (x ++ rest)) 41 ≡ false
values_begin at _ v _ rest (form.last_value {x = x} h) = value_begins at x v rest h
values_begin at _ v _ rest (form.more_values {x = x} {y = y} h hs) = ap (λ t. nat_eq (look t) 41) (append_assoc x (44 ∷ y) rest) ∙ value_begins at x v ((44 ∷ y) ++ rest) h

pub arguments_complete : (at : ℕ) (x : List ℕ) (vs : List Value) (rest : List ℕ) → IsValues at x vs → read_arguments at (x ++ 41 ∷ rest) ≡ Some (vs, at + length x + 1, rest)
unfolding read_arguments
arguments_complete at x (v ∷ vs) rest h =
    let long : length (x ++ 41 ∷ rest) ≡ length x + suc (length rest) = length-append x (41 ∷ rest) in
    let fits : length x < length (x ++ 41 ∷ rest) = omega arith in
    skipped _ _ (values_begin at x v vs (41 ∷ rest) h) (values_complete (length (x ++ 41 ∷ rest)) [] at x v vs rest h fits)
arguments_complete at _ [] rest form.no_values = let ends : at + 1 ≡ at + 0 + 1 = omega arith in ap (λ k. Some ([], k, rest)) ends

passes_first : (c : ℕ) (cs : List ℕ) → list_all is_name_part (c ∷ cs) ≡ true → is_name_part c ≡ true
passes_first c cs h = (and_parts (is_name_part c) (list_all is_name_part cs) h).0

passes_rest : (c : ℕ) (cs : List ℕ) → list_all is_name_part (c ∷ cs) ≡ true → list_all is_name_part cs ≡ true
passes_rest c cs h = (and_parts (is_name_part c) (list_all is_name_part cs) h).1

-- the space behind `var` is no part of a name
not_var : (n r tail : List ℕ) → IsName n → n ++ 40 ∷ r ≡ codes "var " ++ tail → ⊥
not_var [] r tail h e = eqb-false 40 118 refl (cc)
not_var (a ∷ []) r tail h e = eqb-false 40 97 refl (cc)
not_var (a ∷ b ∷ []) r tail h e = eqb-false 40 114 refl (cc)
not_var (a ∷ b ∷ c ∷ []) r tail h e = eqb-false 40 32 refl (cc)
not_var (a ∷ b ∷ c ∷ d ∷ n) r tail h e =
    let space : d ≡ 32 = cc in
    let part : is_name_part d ≡ true = passes_first d n (passes_rest c (d ∷ n) (passes_rest b (c ∷ d ∷ n) (passes_rest a (b ∷ c ∷ d ∷ n) h.parts))) in
    true≢false (sym part ∙ ap is_name_part space)

pub statement_complete : (at : ℕ) (x : List ℕ) (s : Statement) (rest : List ℕ) → IsStatement at x s → read_statement at (x ++ rest) ≡ Some (s, at + length x, rest)
unfolding read_statement read_declaration read_call
statement_complete at _ _ rest (form.a_declaration {n} {x} {v} hn hv) =
    let tail = n ++ (61 ∷ (x ++ (59 ∷ rest))) in
    let apart : (codes "var " ++ n ++ 61 ∷ x ++ 59 ∷ []) ++ rest ≡ codes "var " ++ tail = simp append_assoc in
    let from : at + 5 + length n ≡ at + 4 + length n + 1 = omega arith in
    let ends : at + 4 + length n + 1 + length x + 1 ≡ at + length (codes "var " ++ n ++ 61 ∷ x ++ 59 ∷ []) = simp length-append (omega arith) in
    let value : IsValue (at + 4 + length n + 1) x v = subst (λ k. IsValue k x v) from hv in
    ap (read_statement at) apart
    ∙ (step _ (name_complete (at + 4) n (61 ∷ (x ++ (59 ∷ rest))) hn refl)
    (step _ (takes 61 (at + 4 + length n) (x ++ (59 ∷ rest)))
    (step _ (value_complete (at + 4 + length n + 1) x v (59 ∷ rest) value refl refl)
    (step _ (takes 59 (at + 4 + length n + 1 + length x) rest) (ap (λ k. Some (Declares at n v, k, rest)) ends)))))
statement_complete at _ _ rest (form.a_call {n} {xs} {vs} hn hv) =
    let tail = xs ++ (41 ∷ (59 ∷ rest)) in
    let apart : (n ++ 40 ∷ xs ++ 41 ∷ 59 ∷ []) ++ rest ≡ n ++ (40 ∷ tail) = simp append_assoc in
    let ends : at + length n + 1 + length xs + 1 + 1 ≡ at + length (n ++ 40 ∷ xs ++ 41 ∷ 59 ∷ []) = simp length-append (omega arith) in
    let bare : begins (codes "var ") (n ++ (40 ∷ tail)) ≡ false = ⊎_elim (λ b. absurd (not_var n tail _ hn (begun (codes "var ") (n ++ (40 ∷ tail)) b))) (λ b. b) (cases_Bool (begins (codes "var ") (n ++ (40 ∷ tail)))) in
    ap (read_statement at) apart ∙ skipped _ _ bare
    (step _ (name_complete at n (40 ∷ tail) hn refl)
    (step _ (takes 40 (at + length n) tail)
    (step _ (arguments_complete (at + length n + 1) xs vs (59 ∷ rest) hv)
    (step _ (takes 59 (at + length n + 1 + length xs + 1) rest) (ap (λ k. Some (Calls at n vs, k, rest)) ends)))))

some_bytes : (at : ℕ) (x : List ℕ) (s : Statement) → IsStatement at x s → 0 < length x
some_bytes at _ _ (form.a_declaration {n} {x} {v} hn hv) = simp length-append (omega arith)
some_bytes at _ _ (form.a_call {n} {xs} {vs} hn hv) = simp length-append (omega arith)

pub statements_complete : (n : ℕ) (found : List Statement) (at : ℕ) (x : List ℕ) (ss : List Statement) → IsStatements at x ss → length x < n → read_statements n found at x ≡ Some (found ++ ss)
unfolding read_statements
statements_complete zero found at x ss h lt = absurd (omega arith)
statements_complete (suc n) found at _ _ form.no_statements lt = ap Some (sym (append-nil found))
statements_complete (suc n) found at _ _ (form.more_statements {x = x} {y = y} {s = s} {ss = ss} h hs) lt =
    let some : 0 < length x = some_bytes at x s h in
    let l : length (x ++ y) ≡ length x + length y = length-append x y in
    let fits : length y < n = omega arith in
    let more : nat_eq (length (x ++ y)) 0 ≡ false = ne_eqb _ _ (λ e. absurd (omega arith)) in
    skipped _ _ more (step _ (statement_complete at x s y h)
    (statements_complete n (found ++ s ∷ []) (at + length x) y ss hs fits ∙ ap Some (append_assoc found (s ∷ []) ss)))

pub function_complete : (at : ℕ) (n m rest : List ℕ) → IsName n → IsName m → (end : ℕ) × (read_function at (codes "function " ++ n ++ 40 ∷ m ++ codes "){}" ++ rest) ≡ Some (n, end, rest))
unfolding read_function
function_complete at n m rest hn hm =
    let tail = m ++ (codes "){}" ++ rest) in
    let apart : codes "function " ++ n ++ 40 ∷ m ++ codes "){}" ++ rest ≡ codes "function " ++ (n ++ (40 ∷ tail)) = simp append_assoc in (
      _,
      ap (read_function at) apart ∙ step _ (takes_word (codes "function ") at (n ++ (40 ∷ tail)))
          (step _ (name_complete (at + 9) n (40 ∷ tail) hn refl)
          (step _ (takes 40 (at + 9 + length n) tail)
          (step _ (name_complete (at + 9 + length n + 1) m (codes "){}" ++ rest) hm refl)
          (step _ (takes_word (codes "){}") (at + 9 + length n + 1 + length m) rest) refl)))),
    )

pub functions_complete : (n : ℕ) (found : List (List ℕ)) (at : ℕ) (x : List ℕ) (all : List (List ℕ)) → IsFunctions x all → length x < n → read_functions n found at x ≡ Some (found ++ all)
unfolding read_functions
functions_complete zero found at x all h lt = absurd (omega arith)
functions_complete (suc n) found at _ _ form.no_functions lt = ap Some (sym (append-nil found))
functions_complete (suc k) found at _ _ (form.more_functions {n = n} {p = p} {x = x} {ns = ns} hn hp hs) lt =
    let l : length (codes "function " ++ n ++ 40 ∷ p ++ codes "){}" ++ x) ≡ 13 + length n + length p + length x = simp length-append (omega arith) in
    let fits : length x < k = omega arith in
    let more : nat_eq (length (codes "function " ++ n ++ 40 ∷ p ++ codes "){}" ++ x)) 0 ≡ false = ne_eqb _ _ (λ e. absurd (omega arith)) in
    let f = function_complete at n p x hn hp in
    skipped _ _ more (step _ f.1 (functions_complete k (found ++ n ∷ []) f.0 x ns hs fits ∙ ap Some (append_assoc found (n ∷ []) ns)))

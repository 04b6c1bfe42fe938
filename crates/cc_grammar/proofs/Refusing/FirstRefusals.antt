-- Where reading stops at a refused construct, where it begins, and that no refused construct begins earlier.
use Rattle.std.specs.Prelude.{◌≡◌, ℕ, suc, ◌+◌, ◌<◌, not, Bool, true, false, is_some, Ok, Err, List, [], ◌∷◌, ◌++◌, map, length, ◌⊎◌, Some}
use Rattle.std.proofs.Common.{refl, sym, ap, ◌∙◌, subst, arith, append_assoc, append-nil, length-append, inl, inr}
use Rattle.cc_ast.specs.declared.reading.Construct.{Construct}
use Rattle.cc_ast.specs.declared.reading.Construct.TheVariants as construct
use Rattle.cc_lexer.specs.declared.token.Mark.TheVariants as mark
use Rattle.cc_lexer.specs.declared.word.Word.{Word}
use Rattle.cc_lexer.specs.declared.word.Word.TheVariants as word
use Rattle.cc_grammar.specs.Symbols.{Kind, Lexeme, Symbol, Symbols, real, inserted, lexemes_of, look, is_mark}
use Rattle.cc_grammar.specs.Symbols as k
use Rattle.cc_grammar.specs.RawTree.{RawStmt}
use Rattle.cc_grammar.specs.Grammar.{E}
use Rattle.cc_grammar.specs.Signs.{refused_kind, refused_word, refused_name, key_of}
use Rattle.cc_grammar.specs.Fronts.{IsFront, IsFrontWithin}
use Rattle.cc_grammar.specs.Faults.{any, Begins, name, delete, RefusedAt}
use Rattle.cc_grammar.specs.Laws.{IsText}
use Rattle.cc_grammar.specs.Reading.{Outcome, Sized, Fault, Cause, goes_on, is_remedy, syntax, depth, spent, refused, read_symbols}
use Rattle.cc_grammar.proofs.Clashes.{clash, never, none_some, some_is, same_construct}
use Rattle.cc_grammar.proofs.Shrinks.{reals}
use Rattle.cc_grammar.proofs.Alikeness.Alike.{is_limit}
use Rattle.cc_grammar.proofs.Refusing.NoFront.{no_front}
use Rattle.cc_grammar.proofs.Deletions.{nest_found, all_closed}
use Rattle.cc_grammar.proofs.Nests.{nest_opened}
use Rattle.cc_grammar.proofs.Copying.Copies.{L, lexemes_real}
use Rattle.cc_grammar.proofs.TokenFronts.{lexemes_append, first_token, shorter_within}
use Rattle.cc_grammar.proofs.Halts.{Halt}
use Rattle.cc_grammar.proofs.Swapping.Swap.{Pair, Fitting, IsRefused, is_refused, Falls, falls_there, no_colon}
use Rattle.cc_grammar.proofs.Swapping.Swap as swap
use Rattle.cc_grammar.proofs.Swapping.SwapSites.{change}
use Rattle.cc_grammar.proofs.Refusing.Verdicts.{Verdict, passing, limiting, refusing, falling, verdict, no_such_front, limit_is}
use Rattle.cc_grammar.proofs.Foreign.{foreign, Foreign, refused_at_foreign}
use Rattle.cc_grammar.proofs.Foreign as before_it
use Rattle.cc_grammar.proofs.GoesOn.{bare_nest, no_later, other_name, no_deletion, pair_delete}
use Rattle.cc_grammar.proofs.Refusing.Refusals.{Refusal, may_stop, firm, part_due, Where, now, at_name, at_key, at_delete, earlier}
use Rattle.cc_grammar.proofs.Refusing.Refutations.{Deleting, key_refuses, name_pair}
use Rattle.cc_grammar.proofs.Settled.{Answered, by_name, by_key, by_delete, Settled, answered, same_end, firm_end, settled, name_settled, delete_settled, reads_on}
use Rattle.cc_grammar.proofs.Refusing.PlainFaults.{told}
use Rattle.cc_grammar.proofs.OnSymbols as symbols

abbrev Read : Type 0
Read = Outcome Symbols (Sized (List RawStmt))

-- ---- constructs that begin before the token at which they are refused

abbrev begins_before : Construct → Bool
begins_before construct.EvalName = true
begins_before construct.ArgumentsName = true
begins_before construct.Accessor = true
begins_before construct.DeleteName = true
begins_before _ = false

name_before : (v : List ℕ) {x : Construct} → refused_name v ≡ Some x → begins_before x ≡ true
name_before v {x} e = by (other_name v e) where
  by : (x ≡ construct.EvalName) ⊎ (x ≡ construct.ArgumentsName) → begins_before x ≡ true
  by (inl q) = ap begins_before q
  by (inr q) = ap begins_before q

abbrev is_stop : Kind → Bool
is_stop (k.stop c) = true
is_stop _ = false

word_begins : (w : Word) {x : Construct} → refused_word w ≡ Some x → begins_before x ≡ false
word_begins word.With e = ap begins_before (sym (some_is e))
word_begins word.Debugger e = ap begins_before (sym (some_is e))
word_begins word.Class e = ap begins_before (sym (some_is e))
word_begins word.Const e = ap begins_before (sym (some_is e))
word_begins word.Enum e = ap begins_before (sym (some_is e))
word_begins word.Export e = ap begins_before (sym (some_is e))
word_begins word.Extends e = ap begins_before (sym (some_is e))
word_begins word.Import e = ap begins_before (sym (some_is e))
word_begins word.Super e = ap begins_before (sym (some_is e))
word_begins _ e = none_some e

-- no word begins such a construct
firm_begins : (y : Kind) {x : Construct} → is_stop y ≡ false → refused_kind y ≡ Some x → begins_before x ≡ false
firm_begins (k.stop c) s e = clash s
firm_begins (k.word w) s e = word_begins w e
firm_begins _ s e = none_some e

due_quiet : (p : k.Part) (t : Lexeme) → may_stop p ≡ true → goes_on (record t { kind = k.due p }) ≡ false
due_quiet k.operand t e = refl
due_quiet k.element t e = refl
due_quiet k.variable t e = refl
due_quiet k.statement t e = refl
due_quiet _ t e = never e

due_remedy : (p : k.Part) → may_stop p ≡ true → is_remedy (k.due p) ≡ false
due_remedy k.operand e = refl
due_remedy k.element e = refl
due_remedy k.variable e = refl
due_remedy k.statement e = refl
due_remedy _ e = never e

stop_key : (y : Kind) → is_stop y ≡ true → is_some (key_of y) ≡ true → ⊥
stop_key (k.stop c) s e = never e
stop_key _ s e = never s

stop_colon : (y : Kind) → is_stop y ≡ true → is_mark mark.Colon y ≡ false
stop_colon (k.stop c) s = refl
stop_colon _ s = never s

begins_delete : {q : Symbols} {t : Lexeme} {after : L} → Deleting q t after → Begins q t after construct.DeleteName
begins_delete {q} {t} w = let x = nest_found false 13 (w.nest []) in
    delete x.height false x.tree w.operand w.others w.next w.kind w.due w.is (subst (λ l. E x.height false 13 l x.tree []) (append-nil (map real w.operand)) (all_closed x)) x.variable w.front w.sharp

module _ (n d : ℕ) (ts : L) (f : Fault) (text : IsText ts) (enough : length ts < n) (s : Halt n d ts f) (c : Construct) (cause : f.cause ≡ refused c) where
  all : ts ≡ lexemes_of s.before ++ s.token ∷ s.after
  all = s.tokens ∙ append_assoc (lexemes_of s.before) (s.token ∷ []) s.after

  sharp : is_limit f.cause ≡ false
  sharp = ap is_limit cause

  no_front_there : ¬ (IsFront (s.before ++ real s.token ∷ []))
  no_front_there y = s.none y.height (s.before ++ real s.token ∷ []) y.within s.justified (inl sharp) (lexemes_append s.before (real s.token ∷ []))

  -- what begins before reading stops is what it answers
  answer : {i : ℕ} {x : Construct} → i < length (lexemes_of s.before) → (v : RefusedAt ts i x) → Answered n d ts f text enough s v.symbols v.token v.after x
  answer {x} lt v = by (settled n d ts f text enough s v.symbols v.token v.after (v.splits.is ∙ ap (λ z. z ++ v.token ∷ v.after) (sym v.front.tokens)) v.front.justified v.front.front (omega (arith, lt, ap length v.front.tokens, v.splits.count)) v.begins) where
    by : Settled n d ts f text enough s v.symbols v.token v.after x → Answered n d ts f text enough s v.symbols v.token v.after x
    by (answered y) = y
    by (same_end e) = absurd (omega (arith, lt, ap length (ap lexemes_of e), ap length v.front.tokens, v.splits.count))
    by (firm_end e h) = absurd (omega (arith, lt, ap length (ap lexemes_of e ∙ lexemes_append v.symbols (inserted ∷ []) ∙ append-nil (lexemes_of v.symbols)), ap length v.front.tokens, v.splits.count))

  -- no refused construct begins before the token number m
  abbrev pub NoneBefore : ℕ → Type 0
  NoneBefore m = (i : ℕ) (x : Construct) → i < m → ¬ (RefusedAt ts i x)

  -- how many tokens there are up to the token t and some more
  count : (q : Symbols) (t : Lexeme) (us : L) → s.before ≡ q ++ real t ∷ map real us → length (lexemes_of s.before) ≡ length (lexemes_of q) + suc (length us)
  count q t us e = omega (arith, ap length (ap lexemes_of e ∙ lexemes_append q (real t ∷ map real us)), length-append (lexemes_of q) (t ∷ lexemes_of (map real us)), ap length (lexemes_real us))

  number : {i : ℕ} {x : Construct} (v : RefusedAt ts i x) → length (lexemes_of v.symbols) ≡ i
  number v = ap length v.front.tokens ∙ v.splits.count

  -- ---- at the last token before

  last_first : (q : Symbols) (u : Lexeme) → s.before ≡ q ++ real u ∷ [] → ¬ (c ≡ construct.DeleteName) → NoneBefore (length (lexemes_of q))
  last_first q u e other i x lt v = by (answer (omega (arith, lt, count q u [] e)) v) where
    by : Answered n d ts f text enough s v.symbols v.token v.after x → ⊥
    by (by_name y h w due o m p) = omega (arith, lt, count q u [] e, count v.symbols v.token [] y, number v)
    by (by_key y h o m p) = omega (arith, lt, count q u [] e, count v.symbols v.token [] y, number v)
    by (by_delete w y g o m p) = other (same_construct (sym cause ∙ m) ∙ o)

  -- ---- at a `delete`

  delete_first : (q : Symbols) (u : Lexeme) (us : L) → s.before ≡ q ++ real u ∷ map real us → u.kind ≡ k.word word.Delete → NoneBefore (length (lexemes_of q))
  delete_first q u us e kind i x lt v = by (answer (omega (arith, lt, count q u us e)) v) where
    by : Answered n d ts f text enough s v.symbols v.token v.after x → ⊥
    by (by_name y h w due o m p) = omega (arith, lt, count q u us e, count v.symbols v.token [] y, number v)
    by (by_key y h o m p) = omega (arith, lt, count q u us e, count v.symbols v.token [] y, number v)
    by (by_delete w y g o m p) = omega (arith, lt, number v, no_later v.symbols q v.token u w.operand (map real us) (bare_nest w.operand w.nest) kind (sym y ∙ e))

  -- ---- where reading stops, and a part is due or a word refuses itself

  due_first : (p : k.Part) → may_stop p ≡ true → IsFront (s.before ++ any p s.token ∷ []) → (refused_kind s.token.kind ≡ Some c) ⊎ ¬ (c ≡ construct.Accessor) → NoneBefore (length (lexemes_of s.before))
  due_first p may front other i x lt v = by (answer lt v) where
    front_on : (us : L) → s.before ≡ v.symbols ++ real v.token ∷ map real us → IsFront (v.symbols ++ real v.token ∷ (map real us ++ any p s.token ∷ []))
    front_on us e = subst (λ z. IsFront z) (ap (λ z. z ++ any p s.token ∷ []) e ∙ append_assoc v.symbols (real v.token ∷ map real us) (any p s.token ∷ [])) front

    no_key : is_some (key_of s.token.kind) ≡ true → c ≡ construct.Accessor → (refused_kind s.token.kind ≡ Some c) ⊎ ¬ (c ≡ construct.Accessor) → ⊥
    no_key h o (inl e) = key_refuses s.token.kind h (e ∙ ap (λ (z : Construct). Some z) o)
    no_key h o (inr e) = e o

    by : Answered n d ts f text enough s v.symbols v.token v.after x → ⊥
    by (by_name y h w due o m q) = no_such_front v.token (name_pair v.token.kind h w) v.symbols (any p s.token ∷ []) due (λ m more lt. (refl, due_remedy p may)) (front_on [] y)
    by (by_key y h o m q) = no_key h (same_construct (sym cause ∙ m) ∙ o) other
    by (by_delete w y g o m q) = no_such_front v.token (pair_delete v.token w.kind) v.symbols (map real w.operand ++ any p s.token ∷ []) w.due
        (λ m more lt. let is = append_assoc (map real w.operand) (any p s.token ∷ []) more in
        (any p s.token ∷ more, ap (symbols.opened m 0) is ∙ nest_opened m (subst (λ z. reals z < m) is lt) (w.nest (any p s.token ∷ more)) ∙ ap (λ b. Ok (not b, any p s.token ∷ more)) (due_quiet p s.token may)))
        (front_on w.operand y)

  word_first : is_stop s.token.kind ≡ false → refused_kind s.token.kind ≡ Some c → NoneBefore (length (lexemes_of s.before))
  word_first other h i x lt v = by (answer lt v) where
    sooner : begins_before x ≡ true → f.cause ≡ refused x → ⊥
    sooner b m = clash (sym b ∙ ap begins_before (same_construct (sym m ∙ cause)) ∙ firm_begins s.token.kind other h)

    by : Answered n d ts f text enough s v.symbols v.token v.after x → ⊥
    by (by_name {v = z} y kind w due o m q) = sooner (name_before z w) m
    by (by_key y key o m q) = sooner (ap begins_before o) m
    by (by_delete w y g o m q) = sooner (ap begins_before o) m

  -- ---- where reading stops at the place where no token begins

  -- in place of the token nothing begins that is refused
  stop_first : is_stop s.token.kind ≡ true → ((g : Fault) (ys : Symbols) (y : Construct) → read_symbols n d (s.before ++ real (foreign s.token) ∷ []) ≡ Err (g, ys) → g.cause ≡ refused y → ⊥) → NoneBefore (length (lexemes_of s.before))
  stop_first stop none i x lt v = by (answer lt v) where
    splits : ts ≡ lexemes_of v.symbols ++ v.token ∷ v.after
    splits = v.splits.is ∙ ap (λ z. z ++ v.token ∷ v.after) (sym v.front.tokens)

    refuted : {x : swap.Change} {o : Read} → read_symbols n d (s.before ++ real (foreign s.token) ∷ []) ≡ o → IsRefused x o → ⊥
    refuted {x} e (is_refused {f = g} {ys} m p) = none g ys x.construct e m

    -- the list, from the token on
    list : (us : L) → s.before ≡ v.symbols ++ real v.token ∷ map real us → s.before ++ real (foreign s.token) ∷ [] ≡ v.symbols ++ real v.token ∷ (map real us ++ real (foreign s.token) ∷ [])
    list us e = ap (λ z. z ++ real (foreign s.token) ∷ []) e ∙ append_assoc v.symbols (real v.token ∷ map real us) (real (foreign s.token) ∷ [])

    no_limit : (us : L) → s.before ≡ v.symbols ++ real v.token ∷ map real us → {x : swap.Change} → swap.IsLimit x (read_symbols n d (v.symbols ++ real v.token ∷ map real v.after)) → ⊥
    no_limit us e h = clash (sym (limit_is h (reads_on n d ts f text enough s v.symbols v.token v.after splits us e)) ∙ sharp)

    named : {z : List ℕ} → s.before ≡ v.symbols ++ real v.token ∷ [] → v.token.kind ≡ k.name z → refused_name z ≡ Some x → Verdict (change v.token k.variable v.token.kind false x no_colon n) d v.symbols → ⊥
    named e h w (passing free y) = never free
    named e h w (limiting y) = no_limit [] e (y (map real v.after))
    named e h w (refusing y) = refuted (ap (read_symbols n d) (list [] e)) (y (real (foreign s.token) ∷ []) (refl, refl))
    named e h w (falling o y) = absurd (cc)

    fallen : {o : Read} → IsFront (v.symbols ++ real v.token ∷ []) → read_symbols n d (v.symbols ++ real v.token ∷ []) ≡ o → Falls (change v.token k.operand v.token.kind false construct.DeleteName swap.deleted n) [] o → ⊥
    fallen front e (falls_there {f = g} l) = no_front n d v.symbols (real v.token) [] g l e front

    gone : (w : Deleting v.symbols v.token v.after) → s.before ≡ v.symbols ++ real v.token ∷ map real w.operand → Verdict (change v.token k.operand v.token.kind false construct.DeleteName swap.deleted n) d v.symbols → ⊥
    gone w e (passing free y) = never free
    gone w e (limiting y) = no_limit w.operand e (y (map real v.after))
    gone w e (refusing y) = refuted (ap (read_symbols n d) (list w.operand e)) (y (map real w.operand ++ real (foreign s.token) ∷ []) (
      real (foreign s.token) ∷ [],
      nest_opened n (omega (
        arith,
        enough,
        ap length all,
        length-append (lexemes_of s.before) (s.token ∷ s.after),
        count v.symbols v.token w.operand e,
        ap length (lexemes_append (map real w.operand) (real (foreign s.token) ∷ []) ∙ ap (λ z. z ++ foreign s.token ∷ []) (lexemes_real w.operand)),
        length-append w.operand (foreign s.token ∷ []),
      )) (w.nest (real (foreign s.token) ∷ [])),
    ))
    gone w e (falling o y) = fallen (first_token v.symbols (real v.token) (map real w.operand) w.front) refl (y [])

    by : Answered n d ts f text enough s v.symbols v.token v.after x → ⊥
    by (by_name y h w due o m q) = named y h w (verdict (change v.token k.variable v.token.kind false x no_colon n) (name_pair v.token.kind h w) d v.symbols due)
    by (by_key y h o m q) = stop_key s.token.kind stop h
    by (by_delete w y g o m q) = gone w y (verdict (change v.token k.operand v.token.kind false construct.DeleteName swap.deleted n) (pair_delete v.token w.kind) d v.symbols w.due)

  -- The construct, and that none begins earlier.
  pub record First : Type 0 where
    pub symbols : Symbols
    pub token : Lexeme
    pub after : L
    pub refusal : Refusal d ts f c symbols token after
    pub first : NoneBefore (length (lexemes_of symbols))

  less : reals (s.before ++ real (foreign s.token) ∷ []) < n
  less = omega (arith, enough, ap length all, length-append (lexemes_of s.before) (s.token ∷ s.after), ap length (lexemes_append s.before (real (foreign s.token) ∷ [])), length-append (lexemes_of s.before) (foreign s.token ∷ []))

  here_first : Refusal d ts f c s.before s.token s.after → NoneBefore (length (lexemes_of s.before)) → First
  here_first h none = record { symbols = s.before; token = s.token; after = s.after; refusal = h; first = none }

  -- what is refused in place of the token is refused at the token
  by_foreign : is_stop s.token.kind ≡ true → Refusal d ts f c s.before s.token s.after → {g : Fault} → Foreign d s.before g → First
  by_foreign stop h (before_it.at_name q u {v} {x} e o kind w due) =
      let y = told (name_settled n d ts f text enough s q u (s.token ∷ s.after) (all ∙ ap (λ z. z ++ s.token ∷ s.after) (ap lexemes_of e ∙ lexemes_append q (real u ∷ [])) ∙ append_assoc (lexemes_of q) (u ∷ []) (s.token ∷ s.after)) e kind w due (stop_colon s.token.kind stop)) in
      let same : x ≡ c = same_construct (sym y.0 ∙ cause) in
      record {
        symbols = q;
        token = u;
        after = s.token ∷ s.after;
        refusal = earlier d ts f s.before s.token s.after all s.justified s.stopped_there.front no_front_there q u [] c e (shorter_within q (real u ∷ []) (subst (λ z. IsFrontWithin d z) e h.within)) y.1
            (name kind (w ∙ ap (λ (z : Construct). Some z) same) due (λ (colon : is_mark mark.Colon s.token.kind ≡ true). clash (sym colon ∙ stop_colon s.token.kind stop)));
        first = last_first q u e (λ z. no_deletion v (w ∙ ap (λ (z : Construct). Some z) (same ∙ z)));
      }
  by_foreign stop h (before_it.at_delete q u us e o kind nest due onwards) =
      let w : Deleting q u (us ++ s.token ∷ s.after) = record {
        operand = us;
        next = s.token;
        others = s.after;
        kind = kind;
        due = record { height = d; within = due };
        is = refl;
        nest = nest;
        front = subst (λ z. IsFront z) e s.stopped_there.front;
        sharp = λ z. no_front_there (subst (λ l. IsFront l) (sym (append_assoc q (real u ∷ map real us) (real s.token ∷ [])) ∙ ap (λ l. l ++ real s.token ∷ []) (sym e)) z);
      } in
      let y = told (delete_settled n d ts f text enough s q u (us ++ s.token ∷ s.after) (all ∙ ap (λ z. z ++ s.token ∷ s.after) (ap lexemes_of e ∙ lexemes_append q (real u ∷ map real us) ∙ ap (λ z. lexemes_of q ++ u ∷ z) (lexemes_real us)) ∙ append_assoc (lexemes_of q) (u ∷ us) (s.token ∷ s.after)) w e) in
      let same : construct.DeleteName ≡ c = same_construct (sym y.0 ∙ cause) in
      record {
        symbols = q;
        token = u;
        after = us ++ s.token ∷ s.after;
        refusal = earlier d ts f s.before s.token s.after all s.justified s.stopped_there.front no_front_there q u us c e (shorter_within q (any k.operand u ∷ []) due) y.1 (subst (λ z. Begins q u (us ++ s.token ∷ s.after) z) same (begins_delete w));
        first = delete_first q u us e kind;
      }

  by_stop : is_stop s.token.kind ≡ true → Refusal d ts f c s.before s.token s.after → First
  by_stop stop h = by (read_symbols n d (s.before ++ real (foreign s.token) ∷ [])) refl where
    ok_err : {a : Sized (List RawStmt) × Symbols} {b : Fault × Symbols} → ◌≡◌ {A = Read} (Ok a) (Err b) → ⊥
    ok_err e = cc

    cause_is : {g e : Fault} {xs ys : Symbols} → ◌≡◌ {A = Read} (Err (g, xs)) (Err (e, ys)) → g.cause ≡ e.cause
    cause_is {g} {e} {xs} {ys} q = let pairs : ◌≡◌ {A = Fault × Symbols} (g, xs) (e, ys) = cc in ap (λ (z : Fault × Symbols). z.0.cause) pairs

    plainly : {g : Fault} {ys : Symbols} → read_symbols n d (s.before ++ real (foreign s.token) ∷ []) ≡ Err (g, ys) → ((y : Construct) → g.cause ≡ refused y → ⊥) → First
    plainly e no_refusal = here_first h (stop_first stop (λ _ _ y r m. no_refusal y (cause_is (sym e ∙ r) ∙ m)))

    caused : (z : Cause) {g : Fault} {ys : Symbols} → g.cause ≡ z → read_symbols n d (s.before ++ real (foreign s.token) ∷ []) ≡ Err (g, ys) → First
    caused (refused y) q e = by_foreign stop h (refused_at_foreign n d s.before s.token s.stopped_there.front less q e)
    caused syntax q e = plainly e (λ y m. let no : syntax ≡ refused y = sym q ∙ m in (cc))
    caused depth q e = plainly e (λ y m. let no : depth ≡ refused y = sym q ∙ m in (cc))
    caused spent q e = plainly e (λ y m. let no : spent ≡ refused y = sym q ∙ m in (cc))

    by : (o : Read) → read_symbols n d (s.before ++ real (foreign s.token) ∷ []) ≡ o → First
    by (Ok a) e = here_first h (stop_first stop (λ _ _ y r m. ok_err (sym e ∙ r)))
    by (Err (g, ys)) e = caused g.cause refl e

  pub first_refusal : Where d ts f c s.before s.token s.after → First
  first_refusal (now (part_due p may front o) h) = here_first h (due_first p may front o)
  first_refusal (now (firm e) h) = by (is_stop s.token.kind) refl where
    by : (b : Bool) → is_stop s.token.kind ≡ b → First
    by true q = by_stop q h
    by false q = here_first h (word_first q e)
  first_refusal (at_name q u v e w h) = record { symbols = q; token = u; after = s.token ∷ s.after; refusal = h; first = last_first q u e (λ z. no_deletion v (w ∙ ap (λ (z : Construct). Some z) z)) }
  first_refusal (at_key q u e w h) = record { symbols = q; token = u; after = s.token ∷ s.after; refusal = h; first = last_first q u e (λ z. let no : construct.Accessor ≡ construct.DeleteName = sym w ∙ z in (cc)) }
  first_refusal (at_delete q u us e kind w h) = record { symbols = q; token = u; after = us ++ s.token ∷ s.after; refusal = h; first = delete_first q u us e kind }

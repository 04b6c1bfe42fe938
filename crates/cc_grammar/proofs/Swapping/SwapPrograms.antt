-- Two readings of the same symbols up to a place where a part is due: statements and programs.
use Rattle.std.specs.Prelude.{◌≡◌, ℕ, zero, suc, ◌≤◌, Bool, true, false, cond, nat_lt, Ok, Err, List, [], ◌∷◌, ◌++◌, Some}
use Rattle.std.proofs.Common.{refl, ap, ◌∙◌, arith}
use Rattle.cc_ast.specs.declared.reading.Construct.{Construct}
use Rattle.cc_ast.specs.declared.reading.Construct.TheVariants as construct
use Rattle.cc_lexer.specs.declared.token.Mark.TheVariants as mark
use Rattle.cc_lexer.specs.declared.word.Word.TheVariants as word
use Rattle.cc_grammar.specs.Symbols.{Kind, Lexeme, Symbol, Symbols, real, look, rest, is_mark}
use Rattle.cc_grammar.specs.Symbols as k
use Rattle.cc_grammar.specs.RawTree.{RawStmt}
use Rattle.cc_grammar.specs.Signs.{refused_name}
use Rattle.cc_grammar.specs.Grammar.{Context, of_program}
use Rattle.cc_grammar.specs.Reading.{Outcome, Sized, Start, semicolon_symbol, head_of, is_remedy, start_of, refused, depth, read_symbols}
use Rattle.cc_grammar.specs.Reading as r
use Rattle.cc_grammar.proofs.Marked.{In}
use Rattle.cc_grammar.proofs.Alikeness.Alike.{IsErr, is_err}
use Rattle.cc_grammar.proofs.Swapping.Swap.{Next, Change, Pair, slash, slash_equal, comma, function, label, name, accessor, delete, IsPair, IsRefused, is_refused, held, Swaps, barred, refuses, Later, Swap, Taking, part, first_taken, refused_by, swap_after, swap_pure, swap_look, behind, later_fork, swap_stops, swap_limit, swap_expect_end}
use Rattle.cc_grammar.proofs.Swapping.SwapSites.{change}
use Rattle.cc_grammar.proofs.Swapping.SwapAhead.{Opens, settled_limited}
use Rattle.cc_grammar.proofs.Swapping.SwapParts.{SwapInner, deeper}
use Rattle.cc_grammar.proofs.Swapping.SwapLists.{list_swap}
use Rattle.cc_grammar.proofs.Swapping.SwapExpressions.{expr_swap, named_settled, expr_keyed}
use Rattle.cc_grammar.proofs.Swapping.SwapStatements.{vars_swap, plain_swap, block_swap, choice_swap, do_while_swap, while_swap, for_swap}
use Rattle.cc_grammar.proofs.Swapping.SwapClauses.{continue_later, break_later, return_later, throw_swap, switch_swap, begins_with_name_swap, try_swap, declaration_swap}
use Rattle.cc_grammar.proofs.OnSymbols as s

-- ---- where a statement is due

module _ (d e n o : ℕ) (inner outer : In) (h : Context) where
  -- a declaration where none may stand
  declaration_first : {t : Lexeme} {b : Bool} {z : Next} {m : ℕ} (u : s.Reader (Sized (List RawStmt))) → b ≡ true → Taking (change t k.statement (k.word word.Function) b construct.BlockFunction z m) (s.declaration d n inner) (s.declaration e o outer)
      → Swaps (change t k.statement (k.word word.Function) b construct.BlockFunction z m) (s.stmt_by d n inner h r.is_declaration) u []
  declaration_first {t} {b} {z} {m} u free l = by h.declares where
    by : (c : Bool) → Swaps (change t k.statement (k.word word.Function) b construct.BlockFunction z m)
        (cond c (λ i. cond (nat_lt 0 d) (s.declaration d n inner i) (Err (record { cause = depth; place = (look i).place }, i))) (r.stops Symbols look rest semicolon_symbol (refused construct.BlockFunction))) u []
    by true = first_taken _ free (deeper _ d e 0 _ _ l)
    by false = refuses (λ xs _. is_refused refl refl)

  -- a name that no variable has, and no colon behind it
  name_refused : {t : Lexeme} {p : k.Part} {b : Bool} {c : Construct} {z : Next} {m : ℕ} (v : List ℕ) (xs : Symbols) → refused_name v ≡ Some c → is_mark mark.Colon (look xs).kind ≡ false → is_remedy (look xs).kind ≡ false
      → IsRefused (change t p (k.name v) b c z m) (s.begins_with_name d n inner h v (real (record t { kind = k.name v }) ∷ xs))
  unfolding r.begins_with_name
  name_refused {t} {c} v xs q f g = refused_by _ (ap (λ y. s.name_by d n inner h t.place v y (is_mark mark.Colon (look xs).kind) xs) q
      ∙ ap (λ y. s.name_by d n inner h t.place v (Some c) y xs) f
      ∙ ap (λ y. cond y (λ i. Ok (([], 0), rest i)) (r.refuse Symbols look rest semicolon_symbol c t.place) xs) g) (is_refused refl refl)

  -- no statement begins with a key
  key_barred : (t : Lexeme) (xs : Symbols) → IsErr (s.stmt_by e o outer h r.is_plain (real (record t { kind = k.due k.key }) ∷ xs))
  unfolding r.plain r.expr_of r.primary head_of
  key_barred t xs = is_err

  stmt_first : {t : Lexeme} {p : k.Part} {y : Kind} {b : Bool} {c : Construct} {z : Next} {m : ℕ} → Pair p y b c z → Swaps (change t p y b c z m) (s.plain d n inner) (s.plain e o outer) []
      → Taking (change t p y b c z m) (s.declaration d n inner) (s.declaration e o outer) → ((v : List ℕ) → Taking (change t p y b c z m) (s.begins_with_name d n inner h v) (s.begins_with_name e o outer h v))
      → Swaps (change t p y b c z m) (s.stmt_by d n inner h (start_of y)) (s.stmt_by e o outer h (start_of (k.due p))) []
  stmt_first slash l f g = l
  stmt_first slash_equal l f g = l
  stmt_first comma l f g = l
  stmt_first function l f g = declaration_first _ refl f
  stmt_first (label {n = v} q) l f g = first_taken _ refl (g v)
  stmt_first (name {n = v} q) l f g = refuses (λ xs u. name_refused v xs q u.0 u.1)
  stmt_first {t} (accessor q) l f g = barred (λ xs. key_barred t xs)
  stmt_first delete l f g = l

module _ (x : Change) (w : IsPair x) (d e n o : ℕ) (inner outer : In) (same : x.turns ≡ n) (le : d ≤ e) (lo : n ≤ o) (all : SwapInner x inner outer) where
  stmt_later : (c : Context) (y : Start) → Later x (s.stmt_by d n inner c y) (s.stmt_by e o outer c y)
  stmt_later c r.is_block = (deeper x d e 0 _ _ (block_swap x w d e n o inner outer same le lo all c)).later
  stmt_later c r.is_vars = (vars_swap x w d e n o inner outer same le lo all).later
  stmt_later c r.is_empty = (behind x (swap_pure x ([], 0))).later
  stmt_later c r.is_if = (deeper x d e 0 _ _ (choice_swap x w d e n o inner outer same le lo all c)).later
  stmt_later c r.is_do = (deeper x d e 0 _ _ (do_while_swap x w d e n o inner outer same le lo all c)).later
  stmt_later c r.is_while = (deeper x d e 0 _ _ (while_swap x w d e n o inner outer same le lo all c)).later
  stmt_later c r.is_for = (deeper x d e 0 _ _ (for_swap x w d e n o inner outer same le lo all c)).later
  stmt_later c r.is_continue = continue_later x w d e n o inner outer same le lo all c
  stmt_later c r.is_break = break_later x w d e n o inner outer same le lo all c
  stmt_later c r.is_return = return_later x w d e n o inner outer same le lo all c
  stmt_later c r.is_switch = (deeper x d e 0 _ _ (switch_swap x w d e n o inner outer same le lo all c)).later
  stmt_later c r.is_throw = (throw_swap x w d e n o inner outer same le lo all).later
  stmt_later c r.is_try = (deeper x d e 1 _ _ (try_swap x w d e n o inner outer same le lo all c)).later
  stmt_later c r.is_declaration = later_fork x c.declares _ _ _ _ (deeper x d e 0 _ _ (declaration_swap x w d e n o inner outer same le lo all)).later (swap_stops x (refused construct.BlockFunction)).later
  stmt_later c r.is_any = (behind x (swap_pure x ([], 0))).later
  stmt_later c (r.is_name v) = (begins_with_name_swap x w d e n o inner outer same le lo all c v).later
  stmt_later c r.is_plain = (plain_swap x w d e n o inner outer same le lo all).later

  stmt_swap : (c : Context) → Swap x (s.stmt_of d n inner c) (s.stmt_of e o outer c)
  unfolding r.stmt_of
  stmt_swap c = swap_look x {p = λ t. s.stmt_by d n inner c (start_of t.kind)} {q = λ t. s.stmt_by e o outer c (start_of t.kind)} (record {
    first = stmt_first d e n o inner outer c w (plain_swap x w d e n o inner outer same le lo all).first (declaration_swap x w d e n o inner outer same le lo all) (λ v. begins_with_name_swap x w d e n o inner outer same le lo all c v);
    later = λ t. stmt_later c (start_of t.kind);
  })

  deeper_inner : SwapInner x (record { expr = s.expr_of d n inner; stmt = s.stmt_of d n inner }) (record { expr = s.expr_of e o outer; stmt = s.stmt_of e o outer })
  deeper_inner = record {
    expr = λ b l. expr_swap x w d e n o inner outer same le lo all b l;
    stmt = stmt_swap;
    named = named_settled x w d e n o inner outer all;
    keyed = λ q. expr_keyed x e o outer q (all.keyed q);
  }

-- ---- at each depth

module _ (x : Change) where
  reader_keyed : (o e : ℕ) → x.part ≡ k.key → (b : Bool) (l : ℕ) (before : Symbols) → Opens before → (xs : Symbols) → IsErr ((s.reader o e).expr b l (before ++ part x ∷ xs))
  unfolding r.reader
  reader_keyed o zero q = expr_keyed x 0 o s.no_depth q (λ b l before u xs. is_err)
  reader_keyed o (suc e) q = expr_keyed x (suc e) o (s.reader o e) q (reader_keyed o e q)

  no_depth_swap : (outer : In) → (x.part ≡ k.key → (b : Bool) (l : ℕ) (before : Symbols) → Opens before → (xs : Symbols) → IsErr (outer.expr b l (before ++ part x ∷ xs))) → SwapInner x s.no_depth outer
  no_depth_swap outer h = record { expr = λ b l. swap_limit x depth (outer.expr b l) refl; stmt = λ c. swap_limit x depth (outer.stmt c) refl; named = λ q b l before u. settled_limited (λ xs. held refl); keyed = h }

  module _ (w : IsPair x) (n o : ℕ) (same : x.turns ≡ n) (lo : n ≤ o) where
    reader_swap : (d e : ℕ) → d ≤ e → SwapInner x (s.reader n d) (s.reader o e)
    unfolding r.reader
    reader_swap zero zero le = deeper_inner x w 0 0 n o s.no_depth s.no_depth same le lo (no_depth_swap s.no_depth (λ q b l before u xs. is_err))
    reader_swap zero (suc e) le = deeper_inner x w 0 (suc e) n o s.no_depth (s.reader o e) same le lo (no_depth_swap (s.reader o e) (reader_keyed o e))
    reader_swap (suc d) zero le = absurd (omega arith)
    reader_swap (suc d) (suc e) le = deeper_inner x w (suc d) (suc e) n o (s.reader n d) (s.reader o e) same le lo (reader_swap d e (omega arith))

-- What becomes of the token where the part goes on, with turns that the change is told of.
pub program_swap : (x : Change) → IsPair x → (n u d e : ℕ) → x.turns ≡ n → n ≤ u → d ≤ e → Swap x (read_symbols n d) (read_symbols u e)
unfolding read_symbols r.program
program_swap x w n u d e same lo le = swap_after x (list_swap x w (suc d) (suc e) n u (s.reader n d) (s.reader u e) lo (reader_swap x w n u same lo d e le) of_program n u [] 0 lo) (λ b. swap_after x (swap_expect_end x w) (λ _. swap_pure x b))

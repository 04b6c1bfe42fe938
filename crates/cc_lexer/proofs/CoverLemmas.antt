-- A text is covered by the texts of its tokens.
use Rattle.std.specs.Prelude.{◌≡◌, ℕ, List, [], ◌∷◌, ◌++◌, Bool, true, false, not, ◌&&◌, ◌==◌, if◌then◌else◌, Option, Some, None, drop, is_some}
use Rattle.std.specs.Option.{option_map_or}
use Rattle.std.proofs.Common.{refl, sym, ◌∙◌, ap, subst, arith, append_assoc}
use Rattle.std.proofs.lemmas.Bool.Decides.{nat_tests}
use Rattle.cc_ast.specs.declared.place.Place.{Place}
use Rattle.cc_ast.specs.declared.reading.Refusal.{Refusal}
use Rattle.cc_ast.specs.declared.reading.Construct.TheVariants as construct
use Rattle.cc_text.specs.Characters.{is_digit, is_line_end, first_is}
use Rattle.cc_text.specs.Utf16.{utf16}
use Rattle.cc_text.specs.Whole.{whole_of}
use Rattle.cc_lexer.specs.declared.token.Fault.TheVariants as fault
use Rattle.cc_lexer.specs.declared.token.Mark.{Mark}
use Rattle.cc_lexer.specs.declared.token.Token.{Token}
use Rattle.cc_lexer.specs.declared.token.TokenKind.TheVariants as kind
use Rattle.cc_lexer.specs.Characters.{is_white, is_start, is_part, is_quote, run, behind}
use Rattle.cc_lexer.specs.Marks.{spelling, single, longer}
use Rattle.cc_lexer.specs.Strings.{StringEnd, closes, fails, InString}
use Rattle.cc_lexer.specs.Numbers.{is_number_form}
use Rattle.cc_lexer.specs.Comments.{behind_comment, comment, is_annotation, has_line_end}
use Rattle.cc_lexer.specs.Items.{Item, blank, token, annotation, nothing, word_or_name, literal, number, block, longest, mark, token_item, item, string_item, Begins, string, other}
use Rattle.cc_lexer.specs.Lexes as lexes
use Rattle.cc_lexer.specs.Lexes.{Passed, here, over, Lexes}
use Rattle.cc_lexer.specs.Covers as covers
use Rattle.cc_lexer.specs.Covers.{IsGap, Spells, Covered, StopsAt, IsCovered}
use Rattle.cc_lexer.proofs.Runs.{run_behind}
use Rattle.cc_lexer.proofs.CommentLemmas.{comment_is}
use Rattle.cc_lexer.proofs.MarkLemmas.{longer_spells, single_spells}
use Rattle.cc_lexer.proofs.PlaceLemmas.{passed_then}
use Rattle.cc_lexer.proofs.ItemLemmas.{start_part, string_leaves, StringLeaves}

-- the item's own text, before what is behind it
abbrev Explains : List ℕ → Item → Type 0
Explains cs (blank k rest) = (ws : List ℕ) × (cs ≡ ws ++ rest) × IsGap ws
Explains cs (token t rest) = (ws : List ℕ) × (cs ≡ ws ++ rest) × Spells t ws rest
Explains cs (annotation us k rest) = (ws : List ℕ) × (cs ≡ ws ++ rest) × Spells (kind.Doc us) ws rest
Explains cs (nothing f) = Unit {0}

explains_if : (cs : List ℕ) (b : Bool) (x y : Item) → (b ≡ true → Explains cs x) → Explains cs y → Explains cs (if b then x else y)
explains_if cs true x y h k = h refl
explains_if cs false x y h k = k

-- a run is the run of itself and what is behind it
run_again : (p : ℕ → Bool) (cs : List ℕ) → run p cs ≡ run p (run p cs ++ behind p cs)
run_again p cs = ap (run p) (run_behind p cs)

first_of_run : (p q : ℕ → Bool) (c : ℕ) (cs : List ℕ) → p c ≡ true → q c ≡ true → first_is q (run p (c ∷ cs)) ≡ true
first_of_run p q c cs e h = subst (λ b. first_is q (if b then c ∷ run p cs else []) ≡ true) (sym e) h

longer_explains : (m : Mark) (c : ℕ) (cs : List ℕ) (o : Option Mark) → longer m c ≡ o → ((n : Mark) → Explains (spelling n ++ cs) (longest n cs))
    → Explains (spelling m ++ c ∷ cs) (option_map_or (λ n. longest n cs) o (token (kind.Mark m) (c ∷ cs)))
longer_explains m c cs None e h = (spelling m, refl, covers.mark m (ap is_some e))
longer_explains m c cs (Some n) e h = subst (λ l. Explains l (longest n cs)) (ap (λ x. x ++ cs) (longer_spells m c n e) ∙ append_assoc (spelling m) (c ∷ []) cs) (h n)

longest_explains : (cs : List ℕ) (m : Mark) → Explains (spelling m ++ cs) (longest m cs)
longest_explains [] m = (spelling m, refl, covers.mark m refl)
longest_explains (c ∷ cs) m = longer_explains m c cs (longer m c) refl (λ n. longest_explains cs n)

mark_explains : (c : ℕ) (cs : List ℕ) (o : Option Mark) → single c ≡ o → Explains (c ∷ cs) (option_map_or (λ m. longest m cs) o (nothing fault.Syntax))
mark_explains c cs None e = tt
mark_explains c cs (Some m) e = subst (λ l. Explains l (longest m cs)) (ap (λ x. x ++ cs) (single_spells c m e)) (longest_explains cs m)

literal_explains : (cs : List ℕ) (o : Option ℕ) → whole_of (run is_part cs) ≡ o → Explains cs (literal o (behind is_part cs))
literal_explains cs None e = tt
literal_explains cs (Some n) e = (run is_part cs, run_behind is_part cs, covers.number e (run_again is_part cs))

number_explains : (c : ℕ) (cs : List ℕ) → Explains (c ∷ cs) (number c cs)
number_explains c cs = explains_if (c ∷ cs) (is_number_form c cs) (nothing (fault.Refused construct.NumberForm)) (literal (whole_of (run is_part (c ∷ cs))) (behind is_part (c ∷ cs))) (λ _. tt)
    (literal_explains (c ∷ cs) (whole_of (run is_part (c ∷ cs))) refl)

name_explains : (c : ℕ) (cs : List ℕ) → is_start c ≡ true → Explains (c ∷ cs) (token (word_or_name (run is_part (c ∷ cs))) (behind is_part (c ∷ cs)))
name_explains c cs e = (run is_part (c ∷ cs), run_behind is_part (c ∷ cs), covers.name (first_of_run is_part is_start c cs (start_part c e) e) (run_again is_part (c ∷ cs)))

token_explains : (c : ℕ) (cs : List ℕ) → Explains (c ∷ cs) (token_item c cs)
token_explains c cs =
    let last : Item = if c == 92 then nothing (fault.Refused construct.NameEscape) else mark c cs in
    let dotted : Item = if c == 46 && first_is is_digit cs then nothing (fault.Refused construct.NumberForm) else last in
    explains_if (c ∷ cs) (is_start c) (token (word_or_name (run is_part (c ∷ cs))) (behind is_part (c ∷ cs))) (if is_digit c then number c cs else dotted) (λ e. name_explains c cs e)
    (explains_if (c ∷ cs) (is_digit c) (number c cs) dotted (λ _. number_explains c cs)
    (explains_if (c ∷ cs) (c == 46 && first_is is_digit cs) (nothing (fault.Refused construct.NumberForm)) last (λ _. tt)
    (explains_if (c ∷ cs) (c == 92) (nothing (fault.Refused construct.NameEscape)) (mark c cs) (λ _. tt) (mark_explains c cs (single c) refl))))

block_explains : (cs : List ℕ) (o : Option (List ℕ)) → behind_comment cs ≡ o → Explains (47 ∷ 42 ∷ cs) (block cs o)
block_explains cs None e = tt
block_explains cs (Some rest) e = explains_if (47 ∷ 42 ∷ cs) (is_annotation cs) (annotation (utf16 (comment cs)) (has_line_end (comment cs)) rest) (blank (has_line_end (comment cs)) rest)
    (λ _. (comment cs, comment_is cs rest e, covers.note cs)) (comment cs, comment_is cs rest e, covers.block_comment cs)

both : (a b : Bool) → a && b ≡ true → (a ≡ true) × (b ≡ true)
both true b e = (refl, e)
both false b e = cc

is_slash : (c : ℕ) → c == 47 ≡ true → c ≡ 47
is_slash c e = grind (arith, nat_tests)

starred : (c : ℕ) (cs : List ℕ) → c ≡ 47 → first_is (λ d. d == 42) cs ≡ true → c ∷ cs ≡ 47 ∷ 42 ∷ drop 1 cs
starred c [] e h = cc
starred c (d ∷ ds) e h = let k : d ≡ 42 = grind (arith, nat_tests) in cc

comment_explains : (c : ℕ) (cs : List ℕ) → c == 47 && first_is (λ d. d == 42) cs ≡ true → Explains (c ∷ cs) (block (drop 1 cs) (behind_comment (drop 1 cs)))
comment_explains c cs e = let t = both (c == 47) (first_is (λ d. d == 42) cs) e in
    subst (λ l. Explains l (block (drop 1 cs) (behind_comment (drop 1 cs)))) (sym (starred c cs (is_slash c t.0) t.1)) (block_explains (drop 1 cs) (behind_comment (drop 1 cs)) refl)

line_explains : (c : ℕ) (cs : List ℕ) → c == 47 && first_is (λ d. d == 47) cs ≡ true → Explains (c ∷ cs) (blank false (behind (λ d. not (is_line_end d)) cs))
line_explains c cs e = let t = both (c == 47) (first_is (λ d. d == 47) cs) e in
    (c ∷ run (λ d. not (is_line_end d)) cs, ap (λ x. c ∷ x) (run_behind (λ d. not (is_line_end d)) cs), covers.line_comment cs (is_slash c t.0) t.1)

item_explains : (c : ℕ) (cs : List ℕ) → Explains (c ∷ cs) (item c cs)
item_explains c cs =
    let third : Item = if c == 47 && first_is (λ d. d == 42) cs then block (drop 1 cs) (behind_comment (drop 1 cs)) else token_item c cs in
    let line : Item = blank false (behind (λ d. not (is_line_end d)) cs) in
    let second : Item = if c == 47 && first_is (λ d. d == 47) cs then line else third in
    explains_if (c ∷ cs) (is_white c) (blank false cs) (if is_line_end c then blank true cs else second) (λ e. (c ∷ [], refl, covers.white e))
    (explains_if (c ∷ cs) (is_line_end c) (blank true cs) second (λ e. (c ∷ [], refl, covers.line_end e))
    (explains_if (c ∷ cs) (c == 47 && first_is (λ d. d == 47) cs) line third (λ e. line_explains c cs e)
    (explains_if (c ∷ cs) (c == 47 && first_is (λ d. d == 42) cs) (block (drop 1 cs) (behind_comment (drop 1 cs))) (token_item c cs) (λ e. comment_explains c cs e)
    (token_explains c cs))))

string_explains : (q : ℕ) (cs : List ℕ) (e : StringEnd) → is_quote q ≡ true → InString q cs e → StringLeaves cs e → Explains (q ∷ cs) (string_item e)
string_explains q cs (closes us rest) h i l = (q ∷ l.0, ap (λ x. q ∷ x) l.1, covers.quoted h (subst (λ x. InString q x (closes us rest)) l.1 i))
string_explains q cs (fails f) h i l = tt

begins_explains : {cs : List ℕ} {i : Item} → Begins cs i → Explains cs i
begins_explains (string {q} {cs} {e} h i) = string_explains q cs e h i (string_leaves q i)
begins_explains (other {c} {cs} h) = item_explains c cs

stops_before : {p q : Place} {cs ds : List ℕ} (rest : List ℕ) (s : Option Refusal) → Passed p cs q ds → StopsAt q ds rest s → StopsAt p cs rest s
stops_before rest None w e = e
stops_before rest (Some r) w e = record { fault = e.fault; place = e.place; begins = e.begins; passed = passed_then w e.passed; refusal = e.refusal }

pub lexes_covered : {l : Bool} {p : Place} {cs : List ℕ} {ts : List Token} {s : Option Refusal} → Lexes l p cs ts s → IsCovered p cs ts s
lexes_covered lexes.end = record { rest = []; covered = covers.ended refl; stops = refl }
lexes_covered {s} (lexes.gap b w x) = let e = begins_explains b in let d = lexes_covered x in
    record { rest = d.rest; covered = covers.gap e.1 e.2 d.covered; stops = stops_before d.rest s w d.stops }
lexes_covered {s} (lexes.next b w x) = let e = begins_explains b in let d = lexes_covered x in
    record { rest = d.rest; covered = covers.piece e.1 e.2 d.covered; stops = stops_before d.rest s w d.stops }
lexes_covered {s} (lexes.note b w x) = let e = begins_explains b in let d = lexes_covered x in
    record { rest = d.rest; covered = covers.piece e.1 e.2 d.covered; stops = stops_before d.rest s w d.stops }
lexes_covered {cs} (lexes.stop {p = p} {f = f} b) = record { rest = cs; covered = covers.none; stops = record { fault = f; place = p; begins = b; passed = here; refusal = refl } }

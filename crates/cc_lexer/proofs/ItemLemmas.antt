-- Behind what a text begins with, a later part of the text follows.
use Rattle.std.specs.Prelude.{◌≡◌, ℕ, ◌<◌, List, [], ◌∷◌, ◌++◌, Bool, true, false, not, ◌||◌, ◌&&◌, ◌==◌, if◌then◌else◌, Option, Some, None, drop, nat_le, length}
use Rattle.std.specs.Char.{is_ascii_alphanumeric}
use Rattle.std.specs.Option.{option_map_or}
use Rattle.std.proofs.Common.{refl, sym, ◌∙◌, ap, subst, arith, length-append}
use Rattle.std.proofs.lemmas.Bool.Decides.{nat_tests}
use Rattle.unicode_ident.specs.Ident.{is_xid_start, is_xid_continue}
use Rattle.unicode_ident.proofs.IdentLemmas.{is_xid_continue-ascii, is_xid_start-is_xid_continue}
use Rattle.cc_text.specs.Characters.{is_digit, is_line_end, first_is}
use Rattle.cc_text.specs.Ends.{Ends}
use Rattle.cc_text.specs.Whole.{whole_of}
use Rattle.cc_text.proofs.EscapeLemmas.{ends_from, ends_trans, ends_more, ends_here, ends_one}
use Rattle.cc_lexer.specs.declared.token.Mark.{Mark}
use Rattle.cc_lexer.specs.declared.token.Fault.TheVariants as fault
use Rattle.cc_lexer.specs.declared.token.TokenKind.TheVariants as kind
use Rattle.cc_ast.specs.declared.reading.Construct.TheVariants as construct
use Rattle.cc_lexer.specs.Characters.{is_white, is_start, is_part, is_quote, run, behind}
use Rattle.cc_lexer.specs.Marks.{single, longer}
use Rattle.cc_lexer.specs.Strings.{StringEnd, closes, fails, before, InString, quote, plain, escape, no_escape, cut, unclosed}
use Rattle.cc_lexer.specs.Numbers.{is_number_form}
use Rattle.cc_lexer.specs.Comments.{behind_comment, inside, is_annotation}
use Rattle.cc_lexer.specs.Items.{Item, blank, token, annotation, nothing, word_or_name, literal, number, block, longest, mark, token_item, item, string_item, Begins, string, other, IsItem, IsString, BeginsWith}
use Rattle.cc_lexer.specs.declared.item.Item.TheVariants as code
use Rattle.cc_lexer.specs.declared.item.Item as coded
use Rattle.cc_lexer.proofs.Runs.{behind_ends}
use Rattle.cc_lexer.proofs.CommentLemmas.{inside_is}

-- what is behind the item is an end of the list
abbrev pub Leaves : List ℕ → Item → Type 0
Leaves cs (blank k rest) = Ends cs rest
Leaves cs (token t rest) = Ends cs rest
Leaves cs (annotation us k rest) = Ends cs rest
Leaves cs (nothing f) = Unit {0}

leaves_if : (cs : List ℕ) (b : Bool) (x y : Item) → (b ≡ true → Leaves cs x) → Leaves cs y → Leaves cs (if b then x else y)
leaves_if cs true x y h k = h refl
leaves_if cs false x y h k = k

any_true : (a b d e x y : Bool) → (a || b || x) ≡ true → (x ≡ true → y ≡ true) → (a || b || d || e || y) ≡ true
any_true true b d e x y h k = refl
any_true false true d e x y h k = refl
any_true false false true e x y h k = refl
any_true false false false true x y h k = refl
any_true false false false false x y h k = k h

last_true : (a b d e y : Bool) → y ≡ true → (a || b || d || e || y) ≡ true
last_true true b d e y k = refl
last_true false true d e y k = refl
last_true false false true e y k = refl
last_true false false false true y k = refl
last_true false false false false y k = k

pub start_part : (c : ℕ) → is_start c ≡ true → is_part c ≡ true
start_part c e = any_true (c == 36) (c == 95) (c == 0x200C) (c == 0x200D) (is_xid_start c) (is_xid_continue c) e (is_xid_start-is_xid_continue c)

digit_ascii : (c : ℕ) → is_digit c ≡ true → c < 58
digit_ascii c e = grind (arith, nat_tests)

first_true : (a b d e : Bool) → a ≡ true → (a || b || d || e) ≡ true
first_true true b d e h = refl
first_true false b d e h = cc

digit_alphanumeric : (c : ℕ) → is_digit c ≡ true → (is_ascii_alphanumeric c || (c == 95)) ≡ true
digit_alphanumeric c e =
    let h : (nat_le 48 c && nat_le c 57) ≡ true = grind (arith, nat_tests) in
    first_true (nat_le 48 c && nat_le c 57) (nat_le 65 c && nat_le c 90) (nat_le 97 c && nat_le c 122) (c == 95) h

pub digit_part : (c : ℕ) → is_digit c ≡ true → is_part c ≡ true
digit_part c e =
    let small = digit_ascii c e in
    let x : is_xid_continue c ≡ true = is_xid_continue-ascii c (omega arith) ∙ digit_alphanumeric c e in
    last_true (c == 36) (c == 95) (c == 0x200C) (c == 0x200D) (is_xid_continue c) x

-- a run that its first character belongs to
run_ends : (p : ℕ → Bool) (c : ℕ) (cs : List ℕ) → p c ≡ true → Ends cs (behind p (c ∷ cs))
run_ends p c cs e = subst (λ b. Ends cs (if b then behind p cs else c ∷ cs)) (sym e) (behind_ends p cs)

longer_leaves : (m : Mark) (c : ℕ) (cs : List ℕ) (o : Option Mark) → ((n : Mark) → Leaves cs (longest n cs)) → Leaves (c ∷ cs) (option_map_or (λ n. longest n cs) o (token (kind.Mark m) (c ∷ cs)))
longer_leaves m c cs None h = ends_here (c ∷ cs)
longer_leaves m c cs (Some n) h = more (longest n cs) (h n) where
  more : (i : Item) → Leaves cs i → Leaves (c ∷ cs) i
  more (blank k rest) e = ends_more c cs rest e
  more (token t rest) e = ends_more c cs rest e
  more (annotation us k rest) e = ends_more c cs rest e
  more (nothing f) e = tt

longest_leaves : (cs : List ℕ) (m : Mark) → Leaves cs (longest m cs)
longest_leaves [] m = ends_here []
longest_leaves (c ∷ cs) m = longer_leaves m c cs (longer m c) (λ n. longest_leaves cs n)

mark_leaves : (cs : List ℕ) (o : Option Mark) → Leaves cs (option_map_or (λ m. longest m cs) o (nothing fault.Syntax))
mark_leaves cs None = tt
mark_leaves cs (Some m) = longest_leaves cs m

literal_leaves : (cs rest : List ℕ) (o : Option ℕ) → Ends cs rest → Leaves cs (literal o rest)
literal_leaves cs rest None e = tt
literal_leaves cs rest (Some n) e = e

number_leaves : (c : ℕ) (cs : List ℕ) → is_digit c ≡ true → Leaves cs (number c cs)
number_leaves c cs e = leaves_if cs (is_number_form c cs) (nothing (fault.Refused construct.NumberForm)) (literal (whole_of (run is_part (c ∷ cs))) (behind is_part (c ∷ cs))) (λ _. tt)
    (literal_leaves cs (behind is_part (c ∷ cs)) (whole_of (run is_part (c ∷ cs))) (run_ends is_part c cs (digit_part c e)))

token_leaves : (c : ℕ) (cs : List ℕ) → Leaves cs (token_item c cs)
token_leaves c cs =
    let other : Item = if c == 92 then nothing (fault.Refused construct.NameEscape) else mark c cs in
    let dotted : Item = if c == 46 && first_is is_digit cs then nothing (fault.Refused construct.NumberForm) else other in
    leaves_if cs (is_start c) (token (word_or_name (run is_part (c ∷ cs))) (behind is_part (c ∷ cs))) (if is_digit c then number c cs else dotted) (λ e. run_ends is_part c cs (start_part c e))
    (leaves_if cs (is_digit c) (number c cs) dotted (λ e. number_leaves c cs e)
    (leaves_if cs (c == 46 && first_is is_digit cs) (nothing (fault.Refused construct.NumberForm)) other (λ _. tt)
    (leaves_if cs (c == 92) (nothing (fault.Refused construct.NameEscape)) (mark c cs) (λ _. tt) (mark_leaves cs (single c)))))

block_leaves : (cs : List ℕ) (o : Option (List ℕ)) → behind_comment cs ≡ o → Leaves cs (block cs o)
block_leaves cs None e = tt
block_leaves cs (Some rest) e = leaves_if cs (is_annotation cs) (annotation _ _ rest) (blank _ rest) (λ _. ends) ends where
  ends : Ends cs rest
  ends = (inside cs ++ 42 ∷ 47 ∷ [], inside_is cs rest e)

drop_ends : (cs : List ℕ) (i : Item) → Leaves (drop 1 cs) i → Leaves cs i
drop_ends [] (blank k rest) e = e
drop_ends [] (token t rest) e = e
drop_ends [] (annotation us k rest) e = e
drop_ends [] (nothing f) e = tt
drop_ends (c ∷ cs) (blank k rest) e = ends_more c cs rest e
drop_ends (c ∷ cs) (token t rest) e = ends_more c cs rest e
drop_ends (c ∷ cs) (annotation us k rest) e = ends_more c cs rest e
drop_ends (c ∷ cs) (nothing f) e = tt

item_leaves : (c : ℕ) (cs : List ℕ) → Leaves cs (item c cs)
item_leaves c cs =
    let third : Item = if c == 47 && first_is (λ d. d == 42) cs then block (drop 1 cs) (behind_comment (drop 1 cs)) else token_item c cs in
    let line : Item = blank false (behind (λ d. not (is_line_end d)) cs) in
    let second : Item = if c == 47 && first_is (λ d. d == 47) cs then line else third in
    leaves_if cs (is_white c) (blank false cs) (if is_line_end c then blank true cs else second) (λ _. ends_here cs)
    (leaves_if cs (is_line_end c) (blank true cs) second (λ _. ends_here cs)
    (leaves_if cs (c == 47 && first_is (λ d. d == 47) cs) line third (λ _. behind_ends (λ d. not (is_line_end d)) cs)
    (leaves_if cs (c == 47 && first_is (λ d. d == 42) cs) (block (drop 1 cs) (behind_comment (drop 1 cs))) (token_item c cs) (λ _. drop_ends cs _ (block_leaves (drop 1 cs) _ refl))
    (token_leaves c cs))))

abbrev pub StringLeaves : List ℕ → StringEnd → Type 0
StringLeaves cs (closes us rest) = Ends cs rest
StringLeaves cs (fails f) = Unit {0}

before_leaves : (ds cs us : List ℕ) (e : StringEnd) → Ends ds cs → StringLeaves cs e → StringLeaves ds (before us e)
before_leaves ds cs us (closes vs rest) h k = ends_trans ds cs rest h k
before_leaves ds cs us (fails f) h k = tt

pub string_leaves : (q : ℕ) {cs : List ℕ} {e : StringEnd} → InString q cs e → StringLeaves cs e
string_leaves q (quote {c} {rest} h) = ends_one c rest
string_leaves q (plain {c} {cs} {e} h i) = before_leaves (c ∷ cs) cs _ e (ends_one c cs) (string_leaves q i)
string_leaves q (escape {c} {cs} {us} {rest} {e} h k i) = before_leaves (c ∷ cs) rest us e (ends_more c cs rest (ends_from cs us rest k)) (string_leaves q i)
string_leaves q (no_escape h k) = tt
string_leaves q (cut h) = tt
string_leaves q unclosed = tt

-- the list begins with a character, behind which the other is an end
pub record Later (cs rest : List ℕ) : Type 0 where
  pub first : ℕ
  pub tail : List ℕ
  pub parts : cs ≡ first ∷ tail
  pub ends : Ends tail rest

abbrev pub LeavesLater : List ℕ → Item → Type 0
LeavesLater cs (blank k rest) = Later cs rest
LeavesLater cs (token t rest) = Later cs rest
LeavesLater cs (annotation us k rest) = Later cs rest
LeavesLater cs (nothing f) = Unit {0}

later : (c : ℕ) (cs : List ℕ) (i : Item) → Leaves cs i → LeavesLater (c ∷ cs) i
later c cs (blank k rest) e = record { first = c; tail = cs; parts = refl; ends = e }
later c cs (token t rest) e = record { first = c; tail = cs; parts = refl; ends = e }
later c cs (annotation us k rest) e = record { first = c; tail = cs; parts = refl; ends = e }
later c cs (nothing f) e = tt

string_item_leaves : (cs : List ℕ) (e : StringEnd) → StringLeaves cs e → Leaves cs (string_item e)
string_item_leaves cs (closes us rest) h = h
string_item_leaves cs (fails f) h = tt

pub begins_later : {cs : List ℕ} {i : Item} → Begins cs i → LeavesLater cs i
begins_later (string {q} {cs} {e} h i) = later q cs (string_item e) (string_item_leaves cs e (string_leaves q i))
begins_later (other {c} {cs} h) = later c cs (item c cs) (item_leaves c cs)

pub later_ends : (cs rest : List ℕ) → Later cs rest → Ends cs rest
later_ends cs rest l = subst (λ x. Ends x rest) (sym l.parts) (ends_more l.first l.tail rest l.ends)

pub later_shorter : (cs rest : List ℕ) → Later cs rest → length rest < length cs
later_shorter cs rest l = let k = ap length l.parts in let h = ap length l.ends.1 ∙ length-append l.ends.0 rest in omega arith

-- an item of the code begins the text
pub as_begun : (text : List ℕ) (x : Item) (i : coded.Item) → Begins text x → IsItem x i → BeginsWith text i
as_begun text x (code.Blank k r) b h = (subst (Begins text) h.0 b, h.1)
as_begun text x (code.Token t r) b h = (subst (Begins text) h.0 b, h.1)
as_begun text x (code.Annotation us k r) b h = (subst (Begins text) h.0 b, h.1)
as_begun text x (code.Nothing f) b h = subst (Begins text) h b

pub begins_string : (q : ℕ) (cs text : List ℕ) (i : coded.Item) → text ≡ q ∷ cs → is_quote q ≡ true → IsString q cs i → BeginsWith text i
begins_string q cs text i e h s = as_begun text _ i (subst (λ t. Begins t (string_item s.0)) (sym e) (string h s.1)) s.2

pub begins_other : (c : ℕ) (cs text : List ℕ) (i : coded.Item) → text ≡ c ∷ cs → is_quote c ≡ false → IsItem (item c cs) i → BeginsWith text i
begins_other c cs text i e h s = as_begun text (item c cs) i (subst (λ t. Begins t (item c cs)) (sym e) (other h)) s

-- Behind an escape the text goes on.
use Rattle.std.specs.Prelude.{◌≡◌, ℕ, ◌+◌, ◌-◌, ◌*◌, ◌≤◌, List, [], ◌∷◌, ◌++◌, Bool, true, false, not, ◌&&◌, ◌==◌, nat_lt, if◌then◌else◌, Option, Some, None, option_and_then, length, take, drop, encode_utf8_all}
use Rattle.std.specs.Option.{option_map}
use Rattle.std.specs.Str.{chars, IsUtf8, IsCharBoundary}
use Rattle.std.specs.Char.{digit_value}
use Rattle.std.proofs.Common.{refl, sym, ◌∙◌, ap, subst, arith, append_assoc, length-append}
use Rattle.std.proofs.lemmas.Str.{encodes-chars, encodes-append, IsCharBoundary-at_seam}
use Rattle.std.proofs.lemmas.List.{take-append-drop}
use Rattle.cc_text.specs.Ends.{Ends}
use Rattle.cc_text.specs.Escape.{Escaped, gives, octal, bad, hex_digit, hex_pair, hex_quad, unit_of, digit, escaped, behind_line_end, itself, GoesOn, GivesText}
use Rattle.cc_text.specs.Characters.{is_digit, is_line_end, first_is}

pub ends_trans : (cs ds es : List ℕ) → Ends cs ds → Ends ds es → Ends cs es
ends_trans cs ds es a b = (a.0 ++ b.0, a.1 ∙ ap (λ x. a.0 ++ x) b.1 ∙ sym (append_assoc a.0 b.0 es))

pub ends_here : (cs : List ℕ) → Ends cs cs
ends_here cs = ([], refl)

pub ends_one : (c : ℕ) (cs : List ℕ) → Ends (c ∷ cs) cs
ends_one c cs = (c ∷ [], refl)

pub ends_more : (c : ℕ) (cs ds : List ℕ) → Ends cs ds → Ends (c ∷ cs) ds
ends_more c cs ds e = (c ∷ e.0, ap (λ x. c ∷ x) e.1)

abbrev pub Leaves : List ℕ → Escaped → Type 0
Leaves cs (gives us ds) = Ends cs ds
Leaves cs octal = Unit {0}
Leaves cs bad = Unit {0}

abbrev LeavesValue : List ℕ → Option (ℕ × List ℕ) → Type 0
LeavesValue cs None = Unit {0}
LeavesValue cs (Some a) = Ends cs a.1

leaves_if : (cs : List ℕ) (b : Bool) (x y : Escaped) → Leaves cs x → Leaves cs y → Leaves cs (if b then x else y)
leaves_if cs true x y h k = h
leaves_if cs false x y h k = k

value_if : (cs : List ℕ) (b : Bool) (x y : Option (ℕ × List ℕ)) → LeavesValue cs x → LeavesValue cs y → LeavesValue cs (if b then x else y)
value_if cs true x y h k = h
value_if cs false x y h k = k

value_then : (cs : List ℕ) (o : Option (ℕ × List ℕ)) (f : ℕ × List ℕ → Option (ℕ × List ℕ)) → LeavesValue cs o → ((a : ℕ × List ℕ) → LeavesValue a.1 (f a)) → LeavesValue cs (option_and_then f o)
value_then cs None f h k = tt
value_then cs (Some a) f h k = further (f a) (k a) where
  further : (o : Option (ℕ × List ℕ)) → LeavesValue a.1 o → LeavesValue cs o
  further None _ = tt
  further (Some b) e = ends_trans cs a.1 b.1 h e

value_map : (cs : List ℕ) (o : Option (ℕ × List ℕ)) (f : ℕ × List ℕ → ℕ) → LeavesValue cs o → LeavesValue cs (option_map (λ b. (f b, b.1)) o)
value_map cs None f h = tt
value_map cs (Some a) f h = h

leaves_digit : (cs : List ℕ) → LeavesValue cs (hex_digit cs)
leaves_digit [] = tt
leaves_digit (c ∷ cs) = value_if (c ∷ cs) (nat_lt (digit_value c) 16) (Some (digit_value c, cs)) None (ends_one c cs) tt

leaves_pair : (cs : List ℕ) → LeavesValue cs (hex_pair cs)
leaves_pair cs = value_then cs (hex_digit cs) _ (leaves_digit cs) (λ a. value_map a.1 (hex_digit a.1) (λ b. a.0 * 16 + b.0) (leaves_digit a.1))

leaves_quad : (cs : List ℕ) → LeavesValue cs (hex_quad cs)
leaves_quad cs = value_then cs (hex_pair cs) _ (leaves_pair cs) (λ a. value_map a.1 (hex_pair a.1) (λ b. a.0 * 256 + b.0) (leaves_pair a.1))

leaves_unit : (c : ℕ) (cs : List ℕ) (o : Option (ℕ × List ℕ)) → LeavesValue cs o → Leaves (c ∷ cs) (unit_of o)
leaves_unit c cs None h = tt
leaves_unit c cs (Some a) h = ends_more c cs a.1 h

line_end : (c : ℕ) (cs : List ℕ) → Ends cs (behind_line_end c cs)
line_end c [] = ends_here []
line_end c (d ∷ cs) = choose _ where
  choose : (b : Bool) → Ends (d ∷ cs) (if b then cs else d ∷ cs)
  choose true = ends_one d cs
  choose false = ends_here (d ∷ cs)

leaves_end : (c : ℕ) (cs : List ℕ) → Leaves (c ∷ cs) (if is_line_end c then gives [] (behind_line_end c cs) else gives (itself c) cs)
leaves_end c cs = leaves_if (c ∷ cs) (is_line_end c) (gives [] (behind_line_end c cs)) (gives (itself c) cs) (ends_more c cs _ (line_end c cs)) (ends_one c cs)

leaves_octal : (c : ℕ) (cs : List ℕ) → Leaves (c ∷ cs) (digit c cs)
leaves_octal c cs = leaves_if (c ∷ cs) (c == 48 && not (first_is is_digit cs)) (gives (0 ∷ []) cs) octal (ends_one c cs) tt

leaves_letter : (c : ℕ) (cs : List ℕ) (e : Escaped) → Leaves (c ∷ cs) e → Leaves (c ∷ cs) (if c == 120 then unit_of (hex_pair cs) else (if c == 117 then unit_of (hex_quad cs) else e))
leaves_letter c cs e h =
    leaves_if (c ∷ cs) (c == 120) (unit_of (hex_pair cs)) (if c == 117 then unit_of (hex_quad cs) else e) (leaves_unit c cs (hex_pair cs) (leaves_pair cs))
    (leaves_if (c ∷ cs) (c == 117) (unit_of (hex_quad cs)) e (leaves_unit c cs (hex_quad cs) (leaves_quad cs)) h)

pub leaves : (cs : List ℕ) → Leaves cs (escaped cs)
leaves [] = tt
leaves (c ∷ cs) = leaves_if (c ∷ cs) (is_digit c) (digit c cs) (if c == 120 then unit_of (hex_pair cs) else (if c == 117 then unit_of (hex_quad cs) else (if is_line_end c then gives [] (behind_line_end c cs) else gives (itself c) cs)))
    (leaves_octal c cs) (leaves_letter c cs _ (leaves_end c cs))

pub ends_from : (cs us ds : List ℕ) → escaped cs ≡ gives us ds → Ends cs ds
ends_from cs us ds e = subst (Leaves cs) e (leaves cs)

-- the bytes end in those of the characters that follow
pub bytes_end : (bs ds : List ℕ) → IsUtf8 bs → IsUtf8 ds → Ends (chars bs) (chars ds) → Ends bs ds
bytes_end bs ds u v e = (encode_utf8_all e.0, sym (encodes-chars bs u) ∙ ap encode_utf8_all e.1 ∙ encodes-append e.0 (chars ds) ∙ ap (λ x. encode_utf8_all e.0 ++ x) (encodes-chars ds v))

drop_front : (ws ds : List ℕ) → drop (length ws) (ws ++ ds) ≡ ds
drop_front [] ds = refl
drop_front (w ∷ ws) ds = drop_front ws ds

pub seam : (bs ws ds : List ℕ) → bs ≡ ws ++ ds → length bs - length ds ≡ length ws
seam bs ws ds e = let k = ap length e ∙ length-append ws ds in omega arith

pub shorter : (bs ds : List ℕ) → Ends bs ds → length ds ≤ length bs
shorter bs ds e = let k = ap length e.1 ∙ length-append e.0 ds in omega arith

pub at_end : (bs ds : List ℕ) → Ends bs ds → drop (length bs - length ds) bs ≡ ds
at_end bs ds e = ap (λ n. drop n bs) (seam bs e.0 ds e.1) ∙ ap (drop (length e.0)) e.1 ∙ drop_front e.0 ds

pub goes_on : (bs rest us ds : List ℕ) (at : ℕ) → rest ≡ drop (at + 1) bs → IsUtf8 rest → GivesText (escaped (chars rest)) us ds
    → GoesOn bs (escaped (chars (drop (at + 1) bs))) us (length bs - length ds) × (length ds ≤ length bs)
goes_on bs rest us ds at e u g =
    let back = bytes_end rest ds u g.text (ends_from _ _ _ g.found) in
    let all = ends_trans bs rest ds (take (at + 1) bs, sym (take-append-drop (at + 1) bs) ∙ ap (λ x. take (at + 1) bs ++ x) (sym e)) back in (
      record {
        found = ap (λ x. escaped (chars x)) (sym e) ∙ g.found ∙ ap (λ x. gives us (chars x)) (sym (at_end bs ds all));
        within = omega arith;
        boundary = subst (IsCharBoundary bs) (sym (seam bs all.0 ds all.1)) (IsCharBoundary-at_seam bs all.0 ds all.1 g.text);
      },
      shorter bs ds all,
    )

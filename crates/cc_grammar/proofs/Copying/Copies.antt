-- What the reader of tokens does, the reader of symbols does with the semicolons that were inserted, and without each
-- of them it stops at the token that follows.
use Rattle.std.specs.Prelude.{◌≡◌, Bool, true, false, List, [], ◌∷◌, map, Ok, Err, ◌⊎◌}
use Rattle.std.proofs.Common.{refl, sym, ap, ◌∙◌, inl, inr}
use Rattle.cc_lexer.specs.declared.token.Mark.TheVariants as mark
use Rattle.cc_grammar.specs.Symbols.{Lexeme, Symbols, real, inserted, look, semicolon, lexemes_of, is_mark}
use Rattle.cc_grammar.specs.Fronts.{offends}
use Rattle.cc_grammar.specs.Reading.{Outcome, Fault, fault, and_then, look_token}
use Rattle.cc_grammar.specs.Reading as r
use Rattle.cc_grammar.proofs.Alikeness.Alike.{is_limit}

abbrev pub L : Type 0
L = List Lexeme

-- the tokens from ts up to us, with insertions
pub data Copy : L → L → Type 0 where
  end : {us : L} → Copy us us
  take : {ts us : L} (t : Lexeme) → Copy ts us → Copy (t ∷ ts) us
  insert : {ts us : L} → offends (look_token ts) ≡ true → Copy ts us → Copy ts us

abbrev pub put : {ts us : L} → Copy ts us → Symbols → Symbols
put end xs = xs
put (take t w) xs = real t ∷ put w xs
put (insert o w) xs = inserted ∷ put w xs

pub join : {ts us vs : L} → Copy ts us → Copy us vs → Copy ts vs
join end v = v
join (take t w) v = take t (join w v)
join (insert o w) v = insert o (join w v)

pub put_join : {ts us vs : L} (w : Copy ts us) (v : Copy us vs) (xs : Symbols) → put (join w v) xs ≡ put w (put v xs)
unfolding join
put_join end v xs = refl
put_join (take t w) v xs = ap (λ ys. real t ∷ ys) (put_join w v xs)
put_join (insert o w) v xs = ap (λ ys. inserted ∷ ys) (put_join w v xs)

pub lexemes_real : (us : L) → lexemes_of (map real us) ≡ us
lexemes_real [] = refl
lexemes_real (u ∷ us) = ap (λ vs. u ∷ vs) (lexemes_real us)

pub put_lexemes : {ts us : L} (w : Copy ts us) (xs : Symbols) → lexemes_of xs ≡ us → lexemes_of (put w xs) ≡ ts
put_lexemes end xs h = h
put_lexemes (take t w) xs h = ap (λ vs. t ∷ vs) (put_lexemes w xs h)
put_lexemes (insert o w) xs h = put_lexemes w xs h

pub look_real : (us : L) → look (map real us) ≡ look_token us
look_real [] = refl
look_real (u ∷ us) = refl

-- the symbols begin with the token that the tokens begin with, or with an insertion
pub shown : (xs : Symbols) (ts : L) → lexemes_of xs ≡ ts → (look xs ≡ look_token ts) ⊎ (look xs ≡ semicolon)
shown [] ts h = inl (ap look_token h)
shown (real t ∷ xs) ts h = inl (ap look_token h)
shown (inserted ∷ xs) ts h = inr refl

-- ---- what holds at each insertion, of the tokens that follow and of all symbols up to it with these tokens behind

abbrev pub Each : {ts us : L} → (L → Symbols → Type 0) → Copy ts us → Type 0
Each P end = Unit {0}
Each P (take t w) = Each (λ vs xs. P vs (real t ∷ xs)) w
Each {ts} P (insert o w) = P ts (map real ts) × Each (λ vs xs. P vs (inserted ∷ xs)) w

pub each_map : {ts us : L} (P Q : L → Symbols → Type 0) (w : Copy ts us) → ((vs : L) (xs : Symbols) → P vs xs → Q vs xs) → Each P w → Each Q w
each_map P Q end f h = h
each_map P Q (take t w) f h = each_map (λ vs xs. P vs (real t ∷ xs)) (λ vs xs. Q vs (real t ∷ xs)) w (λ vs xs. f vs (real t ∷ xs)) h
each_map P Q (insert {ts} o w) f h = (f ts (map real ts) h.0, each_map (λ vs xs. P vs (inserted ∷ xs)) (λ vs xs. Q vs (inserted ∷ xs)) w (λ vs xs. f vs (inserted ∷ xs)) h.1)

pub each_both : {ts us : L} (P Q : L → Symbols → Type 0) (w : Copy ts us) → Each P w → Each Q w → Each (λ vs xs. P vs xs × Q vs xs) w
each_both P Q end h l = h
each_both P Q (take t w) h l = each_both (λ vs xs. P vs (real t ∷ xs)) (λ vs xs. Q vs (real t ∷ xs)) w h l
each_both P Q (insert o w) h l = ((h.0, l.0), each_both (λ vs xs. P vs (inserted ∷ xs)) (λ vs xs. Q vs (inserted ∷ xs)) w h.1 l.1)

pub each_join : {ts us vs : L} (P : L → Symbols → Type 0) (w : Copy ts us) (v : Copy us vs) → Each P w → Each (λ ws xs. P ws (put w xs)) v → Each P (join w v)
unfolding join
each_join P end v h l = l
each_join P (take t w) v h l = each_join (λ vs xs. P vs (real t ∷ xs)) w v h l
each_join P (insert o w) v h l = (h.0, each_join (λ vs xs. P vs (inserted ∷ xs)) w v h.1 l)

-- they are the tokens of the whole
pub each_lexemes : {ts us : L} (w : Copy ts us) → Each (λ vs xs. lexemes_of xs ≡ ts) w
each_lexemes end = tt
each_lexemes (take {ts} t w) = each_map (λ vs xs. lexemes_of xs ≡ ts) (λ vs xs. lexemes_of (real t ∷ xs) ≡ t ∷ ts) w (λ vs xs h. ap (λ us. t ∷ us) h) (each_lexemes w)
each_lexemes (insert {ts} o w) = (lexemes_real ts, each_lexemes w)

-- the reader stops at the token
abbrev pub StopsAt : {A : Type 0} → (Symbols → Outcome Symbols A) → L → Symbols → Type 0
StopsAt q vs xs = q xs ≡ Err (fault r.a_token (look_token vs), map real vs)

abbrev pub Just : {A : Type 0} {ts us : L} → (Symbols → Outcome Symbols A) → Copy ts us → Type 0
Just q w = Each (StopsAt q) w

-- nothing is inserted before the first brace
abbrev pub Late : {ts us : L} → Copy ts us → Type 0
Late end = Unit {0}
Late (take t w) = (is_mark mark.OpenBrace t.kind ≡ true) ⊎ Late w
Late (insert o w) = ⊥

abbrev pub Kept : {ts us : L} → Bool → Copy ts us → Type 0
Kept true w = Late w
Kept false w = Unit {0}

late_join : {ts us vs : L} (w : Copy ts us) (v : Copy us vs) → Late w → Late v → Late (join w v)
unfolding join
late_join end v h l = l
late_join (take t w) v (inl b) l = inl b
late_join (take t w) v (inr h) l = inr (late_join w v h l)
late_join (insert o w) v h l = absurd h

pub kept_join : (late : Bool) {ts us vs : L} (w : Copy ts us) (v : Copy us vs) → Kept late w → Kept late v → Kept late (join w v)
kept_join true w v h l = late_join w v h l
kept_join false w v h l = tt

pub kept_end : (late : Bool) (ts : L) → Kept late (end {us = ts})
kept_end true ts = tt
kept_end false ts = tt

pub kept_take : (late : Bool) {ts us : L} (t : Lexeme) (w : Copy ts us) → Kept late w → Kept late (take t w)
kept_take true t w h = inr h
kept_take false t w h = tt

pub kept_brace : (late : Bool) {ts us : L} (t : Lexeme) (w : Copy ts us) → is_mark mark.OpenBrace t.kind ≡ true → Kept late (take t w)
kept_brace true t w e = inl e
kept_brace false t w e = tt

-- an inserted semicolon is not read there
pub record Shut {A : Type 0} (o : Outcome Symbols A) (xs : Symbols) : Type 0 where
  pub fault : Fault
  pub no_limit : is_limit fault.cause ≡ false
  pub is : o ≡ Err (fault, inserted ∷ xs)

-- a reader that reads none first
abbrev pub Bars : {A : Type 0} → (Symbols → Outcome Symbols A) → Type 0
Bars q = (xs : Symbols) → Shut (q (inserted ∷ xs)) xs

-- what an insertion there comes to, behind what was read: it is left to what follows, or it isn't read
pub data Beyond {A : Type 0} {ts us : L} (q : Symbols → Outcome Symbols A) (w : Copy ts us) (a : A) : Type 0 where
  passes : ((xs : Symbols) → lexemes_of xs ≡ us → q (put w (inserted ∷ xs)) ≡ Ok (a, inserted ∷ xs)) → Beyond q w a
  shuts : ((xs : Symbols) → lexemes_of xs ≡ us → Shut (q (put w (inserted ∷ xs))) xs) → Beyond q w a

-- A colon doesn't go on with an insertion, so where it isn't read nothing is said.
abbrev pub Excused : Fault → Lexeme → Type 0
Excused c t = is_limit c.cause ≡ false → offends t ≡ true → is_mark mark.Colon t.kind ≡ true

-- what an insertion comes to, where reading stopped, but not at a limit
abbrev pub Bar : {A : Type 0} {ts us : L} → Fault → (Symbols → Outcome Symbols A) → Copy ts us → Type 0
Bar {us} c q w = is_limit c.cause ≡ false → offends (look_token us) ≡ true → (is_mark mark.Colon (look_token us).kind ≡ true) ⊎ Shut (q (put w (inserted ∷ map real us))) (map real us)

-- F: which symbols may follow
pub data Copies {A : Type 0} (late : Bool) (F : Symbols → L → Type 0) (q : Symbols → Outcome Symbols A) (ts : L) : Outcome L A → Type 0 where
  read : {a : A} {us : L} (w : Copy ts us) → ((xs : Symbols) → F xs us → q (put w xs) ≡ Ok (a, xs)) → Just q w → Kept late w → Beyond q w a → Copies late F q ts (Ok (a, us))
  stop : {c : Fault} {us : L} (w : Copy ts us) → q (put w (map real us)) ≡ Err (c, map real us) → Just q w → Kept late w → Bar c q w → Copies late F q ts (Err (c, us))

-- the tokens that follow, with any insertions
abbrev pub Quiet : Symbols → L → Type 0
Quiet xs us = lexemes_of xs ≡ us

-- or with none before the first
abbrev pub Shows : Symbols → L → Type 0
Shows xs us = (lexemes_of xs ≡ us) × (look xs ≡ look_token us)

pub reads : {A : Type 0} {late : Bool} {q : Symbols → Outcome Symbols A} {a : A} {ts us : L} (w : Copy ts us) → ((xs : Symbols) → Quiet xs us → q (put w xs) ≡ Ok (a, xs)) → Just q w → Kept late w → Copies late Quiet q ts (Ok (a, us))
reads w e j k = read w e j k (passes (λ xs h. e (inserted ∷ xs) h))

-- why nothing is said of an insertion before the token: the reader as a whole says it, or it is excused
abbrev pub Free : Bool → Fault → Lexeme → Type 0
Free true c t = Unit {0}
Free false c t = Excused c t

-- A reader that goes on with a token, or stops at it: q reads behind the token.
pub data Head {A : Type 0} (free late : Bool) (F : Symbols → L → Type 0) (q : Symbols → Outcome Symbols A) (t : Lexeme) (us : L) : Outcome L A → Type 0 where
  goes : {o : Outcome L A} → Copies late F q us o → Head free late F q t us o
  goes_in : {o : Outcome L A} → is_mark mark.OpenBrace t.kind ≡ true → Copies false F q us o → Head free late F q t us o
  halts : {c : Fault} → q (map real us) ≡ Err (c, real t ∷ map real us) → Free free c t → Head free late F q t us (Err (c, t ∷ us))

-- a reader that takes a token first, or stops, and reads no insertion first
pub data Starts {A : Type 0} (late : Bool) (F : Symbols → L → Type 0) (q : Symbols → Outcome Symbols A) : L → Outcome L A → Type 0 where
  starts : {t : Lexeme} {us : L} {o : Outcome L A} → Head true late F (λ xs. q (real t ∷ xs)) t us o → Bars q → Starts late F q (t ∷ us) o
  halts_end : {c : Fault} → q [] ≡ Err (c, []) → Starts late F q [] (Err (c, []))
  limits : {c : Fault} {ts : L} → q (map real ts) ≡ Err (c, map real ts) → is_limit c.cause ≡ true → Starts late F q ts (Err (c, ts))

pub taken : {A : Type 0} {late : Bool} {F : Symbols → L → Type 0} {q : Symbols → Outcome Symbols A} {us : L} {o : Outcome L A} (t : Lexeme) → Copies late F (λ xs. q (real t ∷ xs)) us o → Copies late F q (t ∷ us) o
taken {late} t (read w e j k (passes b)) = read (take t w) e j (kept_take late t w k) (passes b)
taken {late} t (read w e j k (shuts b)) = read (take t w) e j (kept_take late t w k) (shuts b)
taken {late} t (stop w e j k b) = stop (take t w) e j (kept_take late t w k) b

pub braced : {A : Type 0} {late : Bool} {F : Symbols → L → Type 0} {q : Symbols → Outcome Symbols A} {us : L} {o : Outcome L A} (t : Lexeme) → is_mark mark.OpenBrace t.kind ≡ true → Copies false F (λ xs. q (real t ∷ xs)) us o → Copies late F q (t ∷ us) o
braced {late} t b (read w e j k (passes f)) = read (take t w) e j (kept_brace late t w b) (passes f)
braced {late} t b (read w e j k (shuts f)) = read (take t w) e j (kept_brace late t w b) (shuts f)
braced {late} t b (stop w e j k f) = stop (take t w) e j (kept_brace late t w b) f

pub clash : (c : Fault) → is_limit c.cause ≡ true → is_limit c.cause ≡ false → ⊥
clash c l n = let no : true ≡ false = sym l ∙ n in (cc)

pub excused : (c : Fault) (t : Lexeme) → is_limit c.cause ≡ true → Excused c t
excused c t l n o = absurd (clash c l n)

pub went : {A : Type 0} {late : Bool} {F : Symbols → L → Type 0} {q : Symbols → Outcome Symbols A} {t : Lexeme} {us : L} {o : Outcome L A} → Head false late F (λ xs. q (real t ∷ xs)) t us o → Copies late F q (t ∷ us) o
went {t} (goes h) = taken t h
went {t} (goes_in b h) = braced t b h
went {late} {t} {us} (halts h f) = stop end h tt (kept_end late (t ∷ us)) (λ n o. inl (f n o))

pub no_offence : offends (look_token []) ≡ true → ⊥
no_offence e = cc

pub started : {A : Type 0} {late : Bool} {F : Symbols → L → Type 0} {q : Symbols → Outcome Symbols A} {ts : L} {o : Outcome L A} → Starts late F q ts o → Copies late F q ts o
started (starts {t} (goes h) b) = taken t h
started (starts {t} (goes_in e h) b) = braced t e h
started {late} (starts {t} {us} (halts h f) b) = stop end h tt (kept_end late (t ∷ us)) (λ n o. inr (b (real t ∷ map real us)))
started {late} (halts_end e) = stop end e tt (kept_end late []) (λ n o. absurd (no_offence o))
started {late} (limits {c} {ts} e l) = stop end e tt (kept_end late ts) (λ n o. absurd (clash c l n))

kept_any : (late : Bool) {ts us : L} (w : Copy ts us) → Late w → Kept late w
kept_any true w h = h
kept_any false w h = tt

-- that nothing is inserted before a brace may be forgotten
pub relaxed : {A : Type 0} {F : Symbols → L → Type 0} {q : Symbols → Outcome Symbols A} {ts : L} {o : Outcome L A} (late : Bool) → Copies true F q ts o → Copies late F q ts o
relaxed late (read w e j k b) = read w e j (kept_any late w k) b
relaxed late (stop w e j k b) = stop w e j (kept_any late w k) b

pub loosened : {A : Type 0} {late : Bool} {F : Symbols → L → Type 0} {q : Symbols → Outcome Symbols A} {ts : L} {o : Outcome L A} → Copies late F q ts o → Copies false F q ts o
loosened (read w e j k b) = read w e j tt b
loosened (stop w e j k b) = stop w e j tt b

relaxed_head : {A : Type 0} {free : Bool} {F : Symbols → L → Type 0} {q : Symbols → Outcome Symbols A} {t : Lexeme} {us : L} {o : Outcome L A} (late : Bool) → Head free true F q t us o → Head free late F q t us o
relaxed_head late (goes h) = goes (relaxed late h)
relaxed_head late (goes_in b h) = goes_in b h
relaxed_head late (halts h f) = halts h f

pub relaxed_start : {A : Type 0} {F : Symbols → L → Type 0} {q : Symbols → Outcome Symbols A} {ts : L} {o : Outcome L A} (late : Bool) → Starts true F q ts o → Starts late F q ts o
relaxed_start late (starts h b) = starts (relaxed_head late h) b
relaxed_start late (halts_end h) = halts_end h
relaxed_start late (limits h l) = limits h l

just_same : {A : Type 0} {ts us : L} (p q : Symbols → Outcome Symbols A) (w : Copy ts us) → ((xs : Symbols) → lexemes_of xs ≡ ts → q xs ≡ p xs) → Just p w → Just q w
just_same {ts} p q w h j = each_map (λ vs xs. StopsAt p vs xs × (lexemes_of xs ≡ ts)) (StopsAt q) w (λ vs xs m. h xs m.1 ∙ m.0) (each_both (StopsAt p) (λ vs xs. lexemes_of xs ≡ ts) w j (each_lexemes w))

pub shut_by : {A : Type 0} {o u : Outcome Symbols A} {xs : Symbols} → o ≡ u → Shut u xs → Shut o xs
shut_by e h = record { fault = h.fault; no_limit = h.no_limit; is = e ∙ h.is }

beyond_same : {A : Type 0} {ts us : L} {p : Symbols → Outcome Symbols A} (q : Symbols → Outcome Symbols A) {a : A} (w : Copy ts us) → ((xs : Symbols) → lexemes_of xs ≡ ts → q xs ≡ p xs) → Beyond p w a → Beyond q w a
beyond_same q w h (passes b) = passes (λ xs l. h (put w (inserted ∷ xs)) (put_lexemes w (inserted ∷ xs) l) ∙ b xs l)
beyond_same q w h (shuts b) = shuts (λ xs l. shut_by (h (put w (inserted ∷ xs)) (put_lexemes w (inserted ∷ xs) l)) (b xs l))

pub bar_same : {B A : Type 0} {o u : Outcome Symbols A} {xs : Symbols} → o ≡ u → B ⊎ Shut u xs → B ⊎ Shut o xs
bar_same e (inl b) = inl b
bar_same e (inr h) = inr (shut_by e h)

-- where two readers agree on the tokens, whatever is inserted
pub same_copies : {A : Type 0} {late : Bool} {F : Symbols → L → Type 0} {p : Symbols → Outcome Symbols A} {ts : L} {o : Outcome L A} (q : Symbols → Outcome Symbols A)
    → ((xs : Symbols) (us : L) → F xs us → lexemes_of xs ≡ us) → Copies late F p ts o → ((xs : Symbols) → lexemes_of xs ≡ ts → q xs ≡ p xs) → Copies late F q ts o
same_copies {p} q quiet (read w e j k b) h = read w (λ xs f. h (put w xs) (put_lexemes w xs (quiet xs _ f)) ∙ e xs f) (just_same p q w h j) k (beyond_same q w h b)
same_copies {p} q quiet (stop {us} w e j k b) h = stop w (h (put w (map real us)) (put_lexemes w (map real us) (lexemes_real us)) ∙ e) (just_same p q w h j) k
    (λ n o. bar_same (h (put w (inserted ∷ map real us)) (put_lexemes w (inserted ∷ map real us) (lexemes_real us))) (b n o))

-- The texts of a program under its names are read in one way, and what is read resolves to a program that is alike.
use Rattle.std.specs.Prelude.{◌≡◌, ℕ, suc, ◌+◌, ◌<◌, true, false, List, [], ◌∷◌, length, Some, None, slice_get}
use Rattle.std.specs.Str.{chars}
use Rattle.std.proofs.Common.{refl, sym, ap, ap₂, ◌∙◌, subst, arith}
use Rattle.std.proofs.lemmas.Bool.Decides.{nat_tests}
use Rattle.std.proofs.lemmas.Option.{slice_get_within}
use Rattle.cc_ast.specs.declared.place.Place.{Place}
use Rattle.cc_ast.specs.Syntax as S
use Rattle.cc_lexer.specs.Lexes.{Lexed}
use Rattle.cc_lexer.proofs.OnceLemmas.{lexes_once}
use Rattle.cc_grammar.specs.Symbols.{Kind, Lexeme, Symbols, real, inserted, lexemes_of, lexemes}
use Rattle.cc_grammar.specs.Symbols as k
use Rattle.cc_grammar.specs.RawTree.{RawStmts, stmts}
use Rattle.cc_meaning.specs.Shapes.{body_of}
use Rattle.cc_meaning.specs.Alike.{In, here, there, Alike}
use Rattle.cc_meaning.specs.WellMade.{is_chunk}
use Rattle.cc_printer.specs.Printing.{tokens}
use Rattle.cc_printer.specs.Bare.{bare_stmts}
use Rattle.cc_printer.specs.Heights.{height_stmts}
use Rattle.cc_printer.specs.Placed.{at_places}
use Rattle.cc_printer.specs.Spelling.{glue, last}
use Rattle.cc_printer.specs.RawOf.{raw_of}
use Rattle.cc_printer.specs.Laws.{HasTokens, Back}
use Rattle.cc_printer.specs.Naming.{AreNames}
use Rattle.cc_printer.proofs.Back.{text_has}
use Rattle.cc_printer.proofs.Bytes.{is_utf8}
use Rattle.cc_printer.proofs.Spells.{of_stmts}
use Rattle.cc_printer.proofs.Nesting.{chunk_within}
use Rattle.cc_printer.proofs.WrittenPrograms.{are_written, read_back}
use Rattle.cc_rename.specs.Naming.{naming_of}
use Rattle.cc_rename.proofs.Given.{names_serve}
use Rattle.cc_scope.specs.Resolve.{Source, program_of}
use Rattle.cc_scope.specs.Refusals.{answered, resolve}
use Rattle.cc_scope.specs.Written.{StmtsN, ChunksN, no_chunks_n, more_chunks_n}
use Rattle.cc_scope.specs.Promises.{Meant, declared_from}
use Rattle.cc_scope.proofs.Answered.{is_answered}
use Rattle.cc_scope.proofs.Globals as resolution
use Rattle.cc_written.specs.Laws.{CanBeWritten, text_of, IsReading, IsRead, IsReadOnce, IsSourceOf, IsResolved, ReadsBack}
use Rattle.cc_written.proofs.NoCasts.{PlainStmts, Quiet, body_plain}
use Rattle.cc_written.proofs.AnyPlaces as places
use Rattle.cc_written.proofs.NoPlaces as bare
use Rattle.cc_written.proofs.Seen.{a_chunk}
use Rattle.cc_written.proofs.Scopes.{bodies_stand}
use Rattle.cc_written.proofs.Outer.{naming, locals, globals, are_apart, is_outside, mentioned, declared}

-- no printed token has an annotation
quiet_places : (ps : List Place) (ks : List Kind) (t : Lexeme) → In t (at_places ps ks) → t.noted ≡ false
quiet_places [] ks t i = elim i [ ]
quiet_places (p ∷ ps) [] t i = elim i [ ]
quiet_places (p ∷ ps) (x ∷ ks) _ here = refl
quiet_places (p ∷ ps) (x ∷ ks) t (there i) = quiet_places ps ks t i

in_tokens : (t : Lexeme) (xs : Symbols) → In (real t) xs → In t (lexemes_of xs)
in_tokens t [] i = elim i [ ]
in_tokens _ (real u ∷ xs) here = here
in_tokens t (real u ∷ xs) (there i) = there (in_tokens t xs i)
in_tokens t (inserted ∷ xs) (there i) = in_tokens t xs i

module _ (P : S.Program) (C : CanBeWritten P) where
  abbrev ns : S.Names
  ns = naming_of P

  abbrev tree : ℕ → RawStmts
  tree c = raw_of P ns c

  names : AreNames P ns
  names = names_serve P C.well C.outer

  back : (c file : ℕ) → is_chunk P c ≡ true → Back (height_stmts (tree c)) (chars (text_of P c)) file (tree c)
  back c file t = (read_back P ns c file C.well C.spelled C.units names t).1

  -- ---- each chunk

  pub is_read : IsRead P
  is_read c file t =
      let b = back c file t in
      ((read_back P ns c file C.well C.spelled C.units names t).0, (stmts b.tree, record { tokens = b.tokens; stop = None; lexed = b.lexed; height = height_stmts (tree c); list = b.tree; derived = b.reads; same = refl }))

  one_tree : (c file : ℕ) (t : RawStmts) (h : is_chunk P c ≡ true) → IsReading (chars (text_of P c)) file t → t ≡ stmts (back c file h).tree
  one_tree c file t h r = r.same ∙ ap (λ l. stmts l) ((back c file h).only r.tokens r.stop r.height r.list r.lexed r.derived)

  pub is_read_once : IsReadOnce P
  is_read_once c file t u h r q = one_tree c file t h r ∙ sym (one_tree c file u h q)

  -- what is read has no casts
  no_casts : (c file : ℕ) (t : RawStmts) → is_chunk P c ≡ true → IsReading (chars (text_of P c)) file t → PlainStmts t
  no_casts c file t h r =
      let x = are_written P ns c C.well C.spelled C.units names h in
      let sound = of_stmts (tree c) x.1 (k.end ∷ []) last in
      let u = is_utf8 (tokens (tree c)) sound in
      let w : HasTokens (glue (tokens (tree c))) file (tokens (tree c)) = text_has (tokens (tree c)) file sound in
      let o = lexes_once (subst (λ z. Lexed z file r.tokens r.stop) u.1 r.lexed) w.lexed in
      let same : lexemes false r.tokens r.stop ≡ at_places w.places (tokens (tree c)) = ap₂ (λ a b. lexemes false a b) o.0 o.1 ∙ w.same in
      let quiet : Quiet r.derived.symbols = λ y i. quiet_places w.places (tokens (tree c)) y (subst (λ ts. In y ts) (r.derived.tokens ∙ same) (in_tokens y r.derived.symbols i)) in
      subst PlainStmts (sym r.same) (body_plain quiet r.derived.derives.body)

  same_bare : (c file : ℕ) (t : RawStmts) → is_chunk P c ≡ true → IsReading (chars (text_of P c)) file t → bare_stmts t ≡ bare_stmts (tree c)
  same_bare c file t h r = ap (λ z. bare_stmts z) (one_tree c file t h r) ∙ (back c file h).same

  -- ---- all chunks

  module _ (file : ℕ → ℕ) (Q : Source) (I : IsSourceOf P file Q) where
    abbrev known : ℕ → Type 0
    known = Meant (naming P C.well C.outer) Q (declared_from P 0 (length Q.trees))

    chunk_at : (c : ℕ) (t : RawStmts) → slice_get Q.trees c ≡ Some t → is_chunk P c ≡ true
    unfolding is_chunk
    chunk_at c t e = let l = slice_get_within Q.trees c t e in let q = I.one_each in let m : c < length P.chunks = omega (arith, l, q) in grind (arith, nat_tests)

    chunk_stands : (c : ℕ) (t : RawStmts) → slice_get Q.trees c ≡ Some t → StmtsN (naming P C.well C.outer) P known true 0 [] (body_of P c) t
    chunk_stands c t e =
        let h = chunk_at c t e in
        let v = naming P C.well C.outer in
        let r = I.trees c t e in
        let s = bodies_stand v P ns C.well C.spelled C.units names known (locals P C.well C.outer) (globals P C.well C.outer) (mentioned P C.well C.outer Q I.one_each I.externs) (declared P C.well C.outer Q I.one_each I.externs)
        (suc (length P.scopes)) c [] [] (c ∷ []) (a_chunk c h) (chunk_within P C.well c h) (omega arith) in
        let z : StmtsN v P known true 0 [] (body_of P c) (tree c) = subst (λ b. StmtsN v P known b 0 [] (body_of P c) (tree c)) h s in
        places.stmts v P known t (no_casts c (file c) t h r) (subst (λ u. StmtsN v P known true 0 [] (body_of P c) u) (sym (same_bare c (file c) t h r)) (bare.stmts v P known z))

    chunks_from : (c : ℕ) (ts : List RawStmts) → ((m : ℕ) (t : RawStmts) → slice_get ts m ≡ Some t → StmtsN (naming P C.well C.outer) P known true 0 [] (body_of P (c + m)) t) → ChunksN (naming P C.well C.outer) P known c ts
    chunks_from c [] h = no_chunks_n
    chunks_from c (t ∷ ts) h = more_chunks_n (subst (λ d. StmtsN (naming P C.well C.outer) P known true 0 [] (body_of P d) t) (omega arith) (h 0 t refl))
        (chunks_from (suc c) ts (λ m u e. subst (λ d. StmtsN (naming P C.well C.outer) P known true 0 [] (body_of P d) u) (omega arith) (h (suc m) u e)))

    chunks_stand : ChunksN (naming P C.well C.outer) P known 0 Q.trees
    chunks_stand = chunks_from 0 Q.trees (λ m t e. subst (λ d. StmtsN (naming P C.well C.outer) P known true 0 [] (body_of P d) t) (omega arith) (chunk_stands m t e))

    pub resolved : (resolve Q ≡ answered (program_of Q)) × Alike P (program_of Q)
    resolved =
        let v = naming P C.well C.outer in
        let o = is_outside P C.well C.outer Q I.one_each I.externs in
        let a = are_apart P C.well C.outer in
        (is_answered v a P Q I.one_each o chunks_stand (λ f s e. (C.well.scopes f s e).statements), resolution.reads_back v a P Q I.chunks I.one_each o chunks_stand)

  pub is_resolved : IsResolved P
  is_resolved file Q I = resolved file Q I

pub reads_back : ReadsBack
reads_back P C = (is_read P C, is_read_once P C, is_resolved P C)

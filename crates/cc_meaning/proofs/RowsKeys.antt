-- Keys of arrays, names that aren't found, and built-in methods that a value between brackets names.
use Rattle.std.specs.Prelude.{◌≡◌, refl, ℕ, negsuc, [], ◌∷◌, List, codes}
use Rattle.cc_ast.specs.Syntax.{whole, Expr, lit, list, object, member, index, call, Stmt, if, Program}
use Rattle.cc_ast.specs.declared.tables.PropInfo.{PropInfo}
use Rattle.cc_meaning.specs.Values.{at_site}
use Rattle.cc_meaning.specs.Monad.{broken}
use Rattle.cc_meaning.specs.Script.{run, checked, finished, stopped}
use Rattle.cc_meaning.proofs.Opened.{opened}
use Rattle.cc_meaning.proofs.Trees.{num, txt, glo, exprs, fields, stmts, alert, do_expr, var_glo, set_dot, set_key, fn, one_chunk, prop, kept_prop, undef, nwhole, reply, main, alerted, done}

-- with one extern, `alert`, which is global 0; the first of the chunk's globals is global 4
abbrev keyed : List (List ℕ) → List PropInfo → List Stmt → Program
keyed globals props ss = one_chunk (codes "alert" ∷ []) globals props (fn 0 0 ss ∷ [])

abbrev array_of_one : Stmt
array_of_one = var_glo 4 (list 0 (exprs (num 1 ∷ [])))

abbrev minus_one : Expr
minus_one = lit 0 (whole (negsuc 0))

--     var a=[1];alert(a[-1]);
read_before_first : run checked (keyed (codes "a" ∷ []) [] (array_of_one ∷ alert (index 7 (glo 4) minus_one) ∷ [])) (main []) 9 ≡ record { events = []; end = stopped (broken 2 (at_site 7)) }
unfolding opened
read_before_first = refl

--     var a=[1];a[4294967295]=2;
write_past_indexes : run checked (keyed (codes "a" ∷ []) [] (array_of_one ∷ set_key 7 (glo 4) (num 4294967295) (num 2) ∷ [])) (main []) 9 ≡ record { events = []; end = stopped (broken 2 (at_site 7)) }
unfolding opened
write_past_indexes = refl

--     var a=[1];var k='-1';a[k]=2;alert(a[k]);
text_key : run checked (keyed (codes "a" ∷ codes "k" ∷ []) [] (array_of_one ∷ var_glo 5 (txt (codes "-1")) ∷ set_key 7 (glo 4) (glo 5) (num 2) ∷ alert (index 8 (glo 4) (glo 5)) ∷ [])) (main (reply undef ∷ [])) 9 ≡ record { events = alerted (nwhole 2) ∷ done ∷ []; end = finished }
unfolding opened
text_key = refl

--     var o={};o[-1]=2;alert(o[-1]);
key_of_an_object : run checked (keyed (codes "o" ∷ []) [] (var_glo 4 (object 0 (fields [])) ∷ set_key 7 (glo 4) minus_one (num 2) ∷ alert (index 8 (glo 4) minus_one) ∷ [])) (main (reply undef ∷ [])) 9 ≡ record { events = alerted (nwhole 2) ∷ done ∷ []; end = finished }
unfolding opened
key_of_an_object = refl

--     var o={};if(o.filter)alert(1);alert(o.split);
names_elsewhere : run checked (keyed (codes "o" ∷ []) (kept_prop (codes "filter") ∷ kept_prop (codes "split") ∷ []) (var_glo 4 (object 0 (fields [])) ∷ if 0 (member 7 (glo 4) 0) (stmts (alert (num 1) ∷ [])) (stmts []) ∷ alert (member 8 (glo 4) 1) ∷ [])) (main (reply undef ∷ [])) 9 ≡ record { events = alerted undef ∷ done ∷ []; end = finished }
unfolding opened
names_elsewhere = refl

--     var a=[1];alert(a.split);alert(a.filter);
name_of_arrays : run checked (keyed (codes "a" ∷ []) (kept_prop (codes "filter") ∷ kept_prop (codes "split") ∷ []) (array_of_one ∷ alert (member 7 (glo 4) 1) ∷ alert (member 8 (glo 4) 0) ∷ [])) (main (reply undef ∷ [])) 9 ≡ record { events = alerted undef ∷ []; end = stopped (broken 10 (at_site 8)) }
unfolding opened
name_of_arrays = refl

--     var o={};alert(o.toString);
name_of_objects : run checked (keyed (codes "o" ∷ []) (kept_prop (codes "toString") ∷ []) (var_glo 4 (object 0 (fields [])) ∷ alert (member 7 (glo 4) 0) ∷ [])) (main []) 9 ≡ record { events = []; end = stopped (broken 10 (at_site 7)) }
unfolding opened
name_of_objects = refl

--     var a=[1];a.foo=1;var m='push';a[m](2);
method_past_a_dotted_slot : run checked (keyed (codes "a" ∷ codes "m" ∷ []) (prop (codes "foo") ∷ []) (array_of_one ∷ set_dot 6 (glo 4) 0 (num 1) ∷ var_glo 5 (txt (codes "push")) ∷ do_expr (call 8 (index 7 (glo 4) (glo 5)) (exprs (num 2 ∷ []))) ∷ [])) (main []) 9 ≡ record { events = []; end = stopped (broken 8 (at_site 7)) }
unfolding opened
method_past_a_dotted_slot = refl

--     var a=[1];var m='push';a[m](2);alert(a[1]);
method_by_a_key : run checked (keyed (codes "a" ∷ codes "m" ∷ []) [] (array_of_one ∷ var_glo 5 (txt (codes "push")) ∷ do_expr (call 8 (index 7 (glo 4) (glo 5)) (exprs (num 2 ∷ []))) ∷ alert (index 9 (glo 4) (num 1)) ∷ [])) (main (reply undef ∷ [])) 9 ≡ record { events = alerted (nwhole 2) ∷ done ∷ []; end = finished }
unfolding opened
method_by_a_key = refl

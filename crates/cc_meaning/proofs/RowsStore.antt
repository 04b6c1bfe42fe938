-- Objects, operators and what is built in.
use Rattle.std.specs.Prelude.{◌≡◌, refl, pos, negsuc, true, false, [], ◌∷◌, Some, None, codes}
use Rattle.cc_ast.specs.Syntax.{Prim, undefined, null, truth, whole, text, lit, var, object, unary, binary, assign, step, member, index, call, cast, to_var, to_member, to_index, simple, vars, fun_decl, Program}
use Rattle.cc_ast.specs.declared.operator.BinOp.TheVariants.{Add, Mul, Div, Rem, BitXor, Shl, Shr, UShr, Equal, Has}
use Rattle.cc_ast.specs.declared.operator.UnOp.TheVariants.{Minus, BitNot, Typeof, Delete}
use Rattle.cc_ast.specs.declared.tree.Ref.{Ref}
use Rattle.cc_ast.specs.declared.tree.Key.{Key}
use Rattle.cc_meaning.specs.Values.{shown_prim, shown_out, called, ended, at_site}
use Rattle.cc_meaning.specs.State.{gives}
use Rattle.cc_meaning.specs.Monad.{broken}
use Rattle.cc_meaning.specs.Names.{always_kept}
use Rattle.cc_meaning.specs.Script.{load, run, checked, finished, stopped}
use Rattle.cc_meaning.proofs.Opened.{opened}
use Rattle.cc_meaning.proofs.Trees.{exprs, fields, stmts, no_doc, chunk_of, prop, kept_prop, undef, stext}

--     var o={'a':1};alert(delete o['a']);alert(o['a']);delete o['a'];
abbrev deletes : Program
deletes = record {
  scopes =
      (record { params = 0; names = 0; own = false; body = stmts ((vars 1001 ((record { site = 1005; variable = (Ref.Global 4); value = Some (object 1007 (fields ((Key.Quoted (codes "a"), (lit 1012 (whole (pos 1)))) ∷ []))) }) ∷ [])) ∷ (simple 1015 (call 1020 (var 1015 (Ref.Global 0)) (exprs ((unary 1021 Delete (index 1029 (var 1028 (Ref.Global 4)) (lit 1030 (text (codes "a"))))) ∷ [])))) ∷ (simple 1036 (call 1041 (var 1036 (Ref.Global 0)) (exprs ((index 1043 (var 1042 (Ref.Global 4)) (lit 1044 (text (codes "a")))) ∷ [])))) ∷ (simple 1050 (unary 1050 Delete (index 1058 (var 1057 (Ref.Global 4)) (lit 1059 (text (codes "a")))))) ∷ []); parent = None; doc = 0 }) ∷ [];
  chunks = (chunk_of [] ∷ []);
  globals = ((record { name = (codes "alert"); chunk = None; doc = 0; flat = [] }) ∷ (record { name = (codes "Object"); chunk = None; doc = 0; flat = [] }) ∷ (record { name = (codes "Math"); chunk = None; doc = 0; flat = [] }) ∷ (record { name = (codes "String"); chunk = None; doc = 0; flat = [] }) ∷ (record { name = (codes "o"); chunk = Some 0; doc = 0; flat = [] }) ∷ []);
  props = [];
  kept = always_kept;
  classes = [];
  places = [];
  docs = (no_doc ∷ []);
}

deletes_run : run checked deletes (record { turns = (load 0 ∷ []); replies = ((record { first = []; answer = gives undef }) ∷ (record { first = []; answer = gives undef }) ∷ []) }) 40 ≡ record { events = (called (shown_out 0) undef ((shown_prim (truth true)) ∷ []) ∷ called (shown_out 0) undef (undef ∷ []) ∷ []); end = stopped (broken 2 (at_site 1058)) }
unfolding opened
deletes_run = refl

--     var o={'a':1};delete /** @type {number} */(o['a']);alert('a' in o);
abbrev delete_under_cast : Program
delete_under_cast = record {
  scopes =
      (record { params = 0; names = 0; own = false; body = stmts ((vars 1001 ((record { site = 1005; variable = (Ref.Global 4); value = Some (object 1007 (fields ((Key.Quoted (codes "a"), (lit 1012 (whole (pos 1)))) ∷ []))) }) ∷ [])) ∷ (simple 1015 (unary 1015 Delete (cast 1043 1 (index 1045 (var 1044 (Ref.Global 4)) (lit 1046 (text (codes "a"))))))) ∷ (simple 1052 (call 1057 (var 1052 (Ref.Global 0)) (exprs ((binary 1062 Has (lit 1058 (text (codes "a"))) (var 1065 (Ref.Global 4))) ∷ [])))) ∷ []); parent = None; doc = 0 }) ∷ [];
  chunks = (chunk_of [] ∷ []);
  globals = ((record { name = (codes "alert"); chunk = None; doc = 0; flat = [] }) ∷ (record { name = (codes "Object"); chunk = None; doc = 0; flat = [] }) ∷ (record { name = (codes "Math"); chunk = None; doc = 0; flat = [] }) ∷ (record { name = (codes "String"); chunk = None; doc = 0; flat = [] }) ∷ (record { name = (codes "o"); chunk = Some 0; doc = 0; flat = [] }) ∷ []);
  props = [];
  kept = always_kept;
  classes = [];
  places = [];
  docs = (no_doc ∷ (record no_doc { value = Some (record { kinds = 1; classes = []; unknown = false; element = None }) }) ∷ []);
}

delete_under_cast_run : run checked delete_under_cast (record { turns = (load 0 ∷ []); replies = ((record { first = []; answer = gives undef }) ∷ []) }) 40 ≡ record { events = (called (shown_out 0) undef ((shown_prim (truth false)) ∷ []) ∷ ended undef ∷ []); end = finished }
unfolding opened
delete_under_cast_run = refl

--     var z=0;alert(z*-1);
abbrev negative_zero : Program
negative_zero = record {
  scopes =
      (record { params = 0; names = 0; own = false; body = stmts ((vars 1001 ((record { site = 1005; variable = (Ref.Global 4); value = Some (lit 1007 (whole (pos 0))) }) ∷ [])) ∷ (simple 1009 (call 1014 (var 1009 (Ref.Global 0)) (exprs ((binary 1016 Mul (var 1015 (Ref.Global 4)) (lit 1017 (whole (negsuc 0)))) ∷ [])))) ∷ []); parent = None; doc = 0 }) ∷ [];
  chunks = (chunk_of [] ∷ []);
  globals = ((record { name = (codes "alert"); chunk = None; doc = 0; flat = [] }) ∷ (record { name = (codes "Object"); chunk = None; doc = 0; flat = [] }) ∷ (record { name = (codes "Math"); chunk = None; doc = 0; flat = [] }) ∷ (record { name = (codes "String"); chunk = None; doc = 0; flat = [] }) ∷ (record { name = (codes "z"); chunk = Some 0; doc = 0; flat = [] }) ∷ []);
  props = [];
  kept = always_kept;
  classes = [];
  places = [];
  docs = (no_doc ∷ []);
}

negative_zero_run : run checked negative_zero (record { turns = (load 0 ∷ []); replies = [] }) 40 ≡ record { events = []; end = stopped (broken 1 (at_site 1016)) }
unfolding opened
negative_zero_run = refl

--     var z=0;alert(-z);
abbrev minus_zero : Program
minus_zero = record {
  scopes =
      (record { params = 0; names = 0; own = false; body = stmts ((vars 1001 ((record { site = 1005; variable = (Ref.Global 4); value = Some (lit 1007 (whole (pos 0))) }) ∷ [])) ∷ (simple 1009 (call 1014 (var 1009 (Ref.Global 0)) (exprs ((unary 1015 Minus (var 1016 (Ref.Global 4))) ∷ [])))) ∷ []); parent = None; doc = 0 }) ∷ [];
  chunks = (chunk_of [] ∷ []);
  globals = ((record { name = (codes "alert"); chunk = None; doc = 0; flat = [] }) ∷ (record { name = (codes "Object"); chunk = None; doc = 0; flat = [] }) ∷ (record { name = (codes "Math"); chunk = None; doc = 0; flat = [] }) ∷ (record { name = (codes "String"); chunk = None; doc = 0; flat = [] }) ∷ (record { name = (codes "z"); chunk = Some 0; doc = 0; flat = [] }) ∷ []);
  props = [];
  kept = always_kept;
  classes = [];
  places = [];
  docs = (no_doc ∷ []);
}

minus_zero_run : run checked minus_zero (record { turns = (load 0 ∷ []); replies = [] }) 40 ≡ record { events = []; end = stopped (broken 1 (at_site 1015)) }
unfolding opened
minus_zero_run = refl

--     alert(1+null);
abbrev mixed_kinds : Program
mixed_kinds = record {
  scopes =
      (record { params = 0; names = 0; own = false; body = stmts ((simple 1001 (call 1006 (var 1001 (Ref.Global 0)) (exprs ((binary 1008 Add (lit 1007 (whole (pos 1))) (lit 1009 null)) ∷ [])))) ∷ []); parent = None; doc = 0 }) ∷ [];
  chunks = (chunk_of [] ∷ []);
  globals = ((record { name = (codes "alert"); chunk = None; doc = 0; flat = [] }) ∷ (record { name = (codes "Object"); chunk = None; doc = 0; flat = [] }) ∷ (record { name = (codes "Math"); chunk = None; doc = 0; flat = [] }) ∷ (record { name = (codes "String"); chunk = None; doc = 0; flat = [] }) ∷ []);
  props = [];
  kept = always_kept;
  classes = [];
  places = [];
  docs = (no_doc ∷ []);
}

mixed_kinds_run : run checked mixed_kinds (record { turns = (load 0 ∷ []); replies = [] }) 40 ≡ record { events = []; end = stopped (broken 2 (at_site 1008)) }
unfolding opened
mixed_kinds_run = refl

--     alert('a'+null+true+undefined+1);
abbrev joined : Program
joined = record {
  scopes =
      (record { params = 0; names = 0; own = false; body = stmts ((simple 1001 (call 1006 (var 1001 (Ref.Global 0)) (exprs ((binary 1030 Add (binary 1020 Add (binary 1015 Add (binary 1010 Add (lit 1007 (text (codes "a"))) (lit 1011 null)) (lit 1016 (truth true))) (lit 1021 undefined)) (lit 1031 (whole (pos 1)))) ∷ [])))) ∷ []); parent = None; doc = 0 }) ∷ [];
  chunks = (chunk_of [] ∷ []);
  globals = ((record { name = (codes "alert"); chunk = None; doc = 0; flat = [] }) ∷ (record { name = (codes "Object"); chunk = None; doc = 0; flat = [] }) ∷ (record { name = (codes "Math"); chunk = None; doc = 0; flat = [] }) ∷ (record { name = (codes "String"); chunk = None; doc = 0; flat = [] }) ∷ []);
  props = [];
  kept = always_kept;
  classes = [];
  places = [];
  docs = (no_doc ∷ []);
}

joined_run : run checked joined (record { turns = (load 0 ∷ []); replies = ((record { first = []; answer = gives undef }) ∷ []) }) 40 ≡ record { events = (called (shown_out 0) undef ((stext (codes "anulltrueundefined1")) ∷ []) ∷ ended undef ∷ []); end = finished }
unfolding opened
joined_run = refl

--     typeof X;
abbrev type_of_outside : Program
type_of_outside = record {
  scopes =
      (record { params = 0; names = 0; own = false; body = stmts ((simple 1001 (unary 1001 Typeof (var 1008 (Ref.Global 0)))) ∷ []); parent = None; doc = 0 }) ∷ [];
  chunks = (chunk_of [] ∷ []);
  globals = ((record { name = (codes "X"); chunk = None; doc = 0; flat = [] }) ∷ (record { name = (codes "Object"); chunk = None; doc = 0; flat = [] }) ∷ (record { name = (codes "Math"); chunk = None; doc = 0; flat = [] }) ∷ (record { name = (codes "String"); chunk = None; doc = 0; flat = [] }) ∷ []);
  props = [];
  kept = always_kept;
  classes = [];
  places = [];
  docs = (no_doc ∷ []);
}

type_of_outside_run : run checked type_of_outside (record { turns = (load 0 ∷ []); replies = [] }) 40 ≡ record { events = []; end = stopped (broken 2 (at_site 1001)) }
unfolding opened
type_of_outside_run = refl

--     alert(typeof alert2);function alert2(){}
abbrev type_of_function : Program
type_of_function = record {
  scopes =
      (record { params = 0; names = 0; own = false; body = stmts ((simple 1001 (call 1006 (var 1001 (Ref.Global 0)) (exprs ((unary 1007 Typeof (var 1014 (Ref.Global 4))) ∷ [])))) ∷ (fun_decl 1022 (Ref.Global 4) 1) ∷ []); parent = None; doc = 0 })
      ∷ (record { params = 0; names = 0; own = false; body = stmts []; parent = None; doc = 0 }) ∷ [];
  chunks = (chunk_of [] ∷ []);
  globals = ((record { name = (codes "alert"); chunk = None; doc = 0; flat = [] }) ∷ (record { name = (codes "Object"); chunk = None; doc = 0; flat = [] }) ∷ (record { name = (codes "Math"); chunk = None; doc = 0; flat = [] }) ∷ (record { name = (codes "String"); chunk = None; doc = 0; flat = [] }) ∷ (record { name = (codes "alert2"); chunk = Some 0; doc = 0; flat = [] }) ∷ []);
  props = [];
  kept = always_kept;
  classes = [];
  places = [];
  docs = (no_doc ∷ []);
}

type_of_function_run : run checked type_of_function (record { turns = (load 0 ∷ []); replies = ((record { first = []; answer = gives undef }) ∷ []) }) 40 ≡ record { events = (called (shown_out 0) undef ((stext (codes "function")) ∷ []) ∷ ended undef ∷ []); end = finished }
unfolding opened
type_of_function_run = refl

--     var o={};alert(o==o);alert(o==null);alert(null==undefined);alert(o=='x');
abbrev equal_objects : Program
equal_objects = record {
  scopes =
      (record { params = 0; names = 0; own = false; body = stmts ((vars 1001 ((record { site = 1005; variable = (Ref.Global 4); value = Some (object 1007 (fields [])) }) ∷ [])) ∷ (simple 1010 (call 1015 (var 1010 (Ref.Global 0)) (exprs ((binary 1017 Equal (var 1016 (Ref.Global 4)) (var 1019 (Ref.Global 4))) ∷ [])))) ∷ (simple 1022 (call 1027 (var 1022 (Ref.Global 0)) (exprs ((binary 1029 Equal (var 1028 (Ref.Global 4)) (lit 1031 null)) ∷ [])))) ∷ (simple 1037 (call 1042 (var 1037 (Ref.Global 0)) (exprs ((binary 1047 Equal (lit 1043 null) (lit 1049 undefined)) ∷ [])))) ∷ (simple 1060 (call 1065 (var 1060 (Ref.Global 0)) (exprs ((binary 1067 Equal (var 1066 (Ref.Global 4)) (lit 1069 (text (codes "x")))) ∷ [])))) ∷ []); parent = None; doc = 0 }) ∷ [];
  chunks = (chunk_of [] ∷ []);
  globals = ((record { name = (codes "alert"); chunk = None; doc = 0; flat = [] }) ∷ (record { name = (codes "Object"); chunk = None; doc = 0; flat = [] }) ∷ (record { name = (codes "Math"); chunk = None; doc = 0; flat = [] }) ∷ (record { name = (codes "String"); chunk = None; doc = 0; flat = [] }) ∷ (record { name = (codes "o"); chunk = Some 0; doc = 0; flat = [] }) ∷ []);
  props = [];
  kept = always_kept;
  classes = [];
  places = [];
  docs = (no_doc ∷ []);
}

equal_objects_run : run checked equal_objects (record { turns = (load 0 ∷ []); replies = ((record { first = []; answer = gives undef }) ∷ (record { first = []; answer = gives undef }) ∷ (record { first = []; answer = gives undef }) ∷ []) }) 40 ≡ record { events = (called (shown_out 0) undef ((shown_prim (truth true)) ∷ []) ∷ called (shown_out 0) undef ((shown_prim (truth false)) ∷ []) ∷ called (shown_out 0) undef ((shown_prim (truth true)) ∷ []) ∷ []); end = stopped (broken 2 (at_site 1067)) }
unfolding opened
equal_objects_run = refl

--     var p={};p['x']=1;var d=Object.create(p);alert(d.x);
abbrev quoted_in_chain : Program
quoted_in_chain = record {
  scopes =
      (record { params = 0; names = 0; own = false; body = stmts ((vars 1001 ((record { site = 1005; variable = (Ref.Global 4); value = Some (object 1007 (fields [])) }) ∷ [])) ∷ (simple 1010 (assign 1016 None (to_index 1011 (var 1010 (Ref.Global 4)) (lit 1012 (text (codes "x")))) (lit 1017 (whole (pos 1))))) ∷ (vars 1019 ((record { site = 1023; variable = (Ref.Global 5); value = Some (call 1038 (member 1031 (var 1025 (Ref.Global 1)) 0) (exprs ((var 1039 (Ref.Global 4)) ∷ []))) }) ∷ [])) ∷ (simple 1042 (call 1047 (var 1042 (Ref.Global 0)) (exprs ((member 1049 (var 1048 (Ref.Global 5)) 1) ∷ [])))) ∷ []); parent = None; doc = 0 }) ∷ [];
  chunks = (chunk_of [] ∷ []);
  globals = ((record { name = (codes "alert"); chunk = None; doc = 0; flat = [] }) ∷ (record { name = (codes "Object"); chunk = None; doc = 0; flat = [] }) ∷ (record { name = (codes "Math"); chunk = None; doc = 0; flat = [] }) ∷ (record { name = (codes "String"); chunk = None; doc = 0; flat = [] }) ∷ (record { name = (codes "p"); chunk = Some 0; doc = 0; flat = [] }) ∷ (record { name = (codes "d"); chunk = Some 0; doc = 0; flat = [] }) ∷ []);
  props = (kept_prop (codes "create") ∷ prop (codes "x") ∷ []);
  kept = always_kept;
  classes = [];
  places = [];
  docs = (no_doc ∷ []);
}

quoted_in_chain_run : run checked quoted_in_chain (record { turns = (load 0 ∷ []); replies = [] }) 40 ≡ record { events = []; end = stopped (broken 7 (at_site 1049)) }
unfolding opened
quoted_in_chain_run = refl

--     var o={};o.a=1;o[5]=2;alert(o[5]);alert(o['5']);o['b']=1;
abbrev runtime_index : Program
runtime_index = record {
  scopes =
      (record { params = 0; names = 0; own = false; body = stmts ((vars 1001 ((record { site = 1005; variable = (Ref.Global 4); value = Some (object 1007 (fields [])) }) ∷ [])) ∷ (simple 1010 (assign 1013 None (to_member 1011 (var 1010 (Ref.Global 4)) 0) (lit 1014 (whole (pos 1))))) ∷ (simple 1016 (assign 1020 None (to_index 1017 (var 1016 (Ref.Global 4)) (lit 1018 (whole (pos 5)))) (lit 1021 (whole (pos 2))))) ∷ (simple 1023 (call 1028 (var 1023 (Ref.Global 0)) (exprs ((index 1030 (var 1029 (Ref.Global 4)) (lit 1031 (whole (pos 5)))) ∷ [])))) ∷ (simple 1035 (call 1040 (var 1035 (Ref.Global 0)) (exprs ((index 1042 (var 1041 (Ref.Global 4)) (lit 1043 (text (codes "5")))) ∷ [])))) ∷ (simple 1049 (assign 1055 None (to_index 1050 (var 1049 (Ref.Global 4)) (lit 1051 (text (codes "b")))) (lit 1056 (whole (pos 1))))) ∷ []); parent = None; doc = 0 }) ∷ [];
  chunks = (chunk_of [] ∷ []);
  globals = ((record { name = (codes "alert"); chunk = None; doc = 0; flat = [] }) ∷ (record { name = (codes "Object"); chunk = None; doc = 0; flat = [] }) ∷ (record { name = (codes "Math"); chunk = None; doc = 0; flat = [] }) ∷ (record { name = (codes "String"); chunk = None; doc = 0; flat = [] }) ∷ (record { name = (codes "o"); chunk = Some 0; doc = 0; flat = [] }) ∷ []);
  props = (prop (codes "a") ∷ []);
  kept = always_kept;
  classes = [];
  places = [];
  docs = (no_doc ∷ []);
}

runtime_index_run : run checked runtime_index (record { turns = (load 0 ∷ []); replies = ((record { first = []; answer = gives undef }) ∷ (record { first = []; answer = gives undef }) ∷ []) }) 40 ≡ record { events = (called (shown_out 0) undef ((shown_prim (whole (pos 2))) ∷ []) ∷ called (shown_out 0) undef ((shown_prim (whole (pos 2))) ∷ []) ∷ ended undef ∷ []); end = finished }
unfolding opened
runtime_index_run = refl

--     var o={};o['a'+'b']=1;o.c=1;
abbrev runtime_text : Program
runtime_text = record {
  scopes =
      (record { params = 0; names = 0; own = false; body = stmts ((vars 1001 ((record { site = 1005; variable = (Ref.Global 4); value = Some (object 1007 (fields [])) }) ∷ [])) ∷ (simple 1010 (assign 1020 None (to_index 1011 (var 1010 (Ref.Global 4)) (binary 1015 Add (lit 1012 (text (codes "a"))) (lit 1016 (text (codes "b"))))) (lit 1021 (whole (pos 1))))) ∷ (simple 1023 (assign 1026 None (to_member 1024 (var 1023 (Ref.Global 4)) 0) (lit 1027 (whole (pos 1))))) ∷ []); parent = None; doc = 0 }) ∷ [];
  chunks = (chunk_of [] ∷ []);
  globals = ((record { name = (codes "alert"); chunk = None; doc = 0; flat = [] }) ∷ (record { name = (codes "Object"); chunk = None; doc = 0; flat = [] }) ∷ (record { name = (codes "Math"); chunk = None; doc = 0; flat = [] }) ∷ (record { name = (codes "String"); chunk = None; doc = 0; flat = [] }) ∷ (record { name = (codes "o"); chunk = Some 0; doc = 0; flat = [] }) ∷ []);
  props = (prop (codes "c") ∷ []);
  kept = always_kept;
  classes = [];
  places = [];
  docs = (no_doc ∷ []);
}

runtime_text_run : run checked runtime_text (record { turns = (load 0 ∷ []); replies = [] }) 40 ≡ record { events = []; end = stopped (broken 8 (at_site 1024)) }
unfolding opened
runtime_text_run = refl

--     var o={};o[-1]=2;alert(o['-1']);
abbrev number_key : Program
number_key = record {
  scopes =
      (record { params = 0; names = 0; own = false; body = stmts ((vars 1001 ((record { site = 1005; variable = (Ref.Global 4); value = Some (object 1007 (fields [])) }) ∷ [])) ∷ (simple 1010 (assign 1015 None (to_index 1011 (var 1010 (Ref.Global 4)) (lit 1012 (whole (negsuc 0)))) (lit 1016 (whole (pos 2))))) ∷ (simple 1018 (call 1023 (var 1018 (Ref.Global 0)) (exprs ((index 1025 (var 1024 (Ref.Global 4)) (lit 1026 (text (codes "-1")))) ∷ [])))) ∷ []); parent = None; doc = 0 }) ∷ [];
  chunks = (chunk_of [] ∷ []);
  globals = ((record { name = (codes "alert"); chunk = None; doc = 0; flat = [] }) ∷ (record { name = (codes "Object"); chunk = None; doc = 0; flat = [] }) ∷ (record { name = (codes "Math"); chunk = None; doc = 0; flat = [] }) ∷ (record { name = (codes "String"); chunk = None; doc = 0; flat = [] }) ∷ (record { name = (codes "o"); chunk = Some 0; doc = 0; flat = [] }) ∷ []);
  props = [];
  kept = always_kept;
  classes = [];
  places = [];
  docs = (no_doc ∷ []);
}

number_key_run : run checked number_key (record { turns = (load 0 ∷ []); replies = ((record { first = []; answer = gives undef }) ∷ []) }) 40 ≡ record { events = (called (shown_out 0) undef ((shown_prim (whole (pos 2))) ∷ []) ∷ ended undef ∷ []); end = finished }
unfolding opened
number_key_run = refl

--     var o={};o[true]=alert(1);
abbrev bad_key : Program
bad_key = record {
  scopes =
      (record { params = 0; names = 0; own = false; body = stmts ((vars 1001 ((record { site = 1005; variable = (Ref.Global 4); value = Some (object 1007 (fields [])) }) ∷ [])) ∷ (simple 1010 (assign 1017 None (to_index 1011 (var 1010 (Ref.Global 4)) (lit 1012 (truth true))) (call 1023 (var 1018 (Ref.Global 0)) (exprs ((lit 1024 (whole (pos 1))) ∷ []))))) ∷ []); parent = None; doc = 0 }) ∷ [];
  chunks = (chunk_of [] ∷ []);
  globals = ((record { name = (codes "alert"); chunk = None; doc = 0; flat = [] }) ∷ (record { name = (codes "Object"); chunk = None; doc = 0; flat = [] }) ∷ (record { name = (codes "Math"); chunk = None; doc = 0; flat = [] }) ∷ (record { name = (codes "String"); chunk = None; doc = 0; flat = [] }) ∷ (record { name = (codes "o"); chunk = Some 0; doc = 0; flat = [] }) ∷ []);
  props = [];
  kept = always_kept;
  classes = [];
  places = [];
  docs = (no_doc ∷ []);
}

bad_key_run : run checked bad_key (record { turns = (load 0 ∷ []); replies = [] }) 40 ≡ record { events = []; end = stopped (broken 2 (at_site 1011)) }
unfolding opened
bad_key_run = refl

--     var i=1;alert(i++);alert(++i);alert(i--);alert(i);var s='1';s++;
abbrev steps : Program
steps = record {
  scopes =
      (record { params = 0; names = 0; own = false; body = stmts ((vars 1001 ((record { site = 1005; variable = (Ref.Global 4); value = Some (lit 1007 (whole (pos 1))) }) ∷ [])) ∷ (simple 1009 (call 1014 (var 1009 (Ref.Global 0)) (exprs ((step 1016 true false (to_var 1015 (Ref.Global 4))) ∷ [])))) ∷ (simple 1020 (call 1025 (var 1020 (Ref.Global 0)) (exprs ((step 1026 true true (to_var 1028 (Ref.Global 4))) ∷ [])))) ∷ (simple 1031 (call 1036 (var 1031 (Ref.Global 0)) (exprs ((step 1038 false false (to_var 1037 (Ref.Global 4))) ∷ [])))) ∷ (simple 1042 (call 1047 (var 1042 (Ref.Global 0)) (exprs ((var 1048 (Ref.Global 4)) ∷ [])))) ∷ (vars 1051 ((record { site = 1055; variable = (Ref.Global 5); value = Some (lit 1057 (text (codes "1"))) }) ∷ [])) ∷ (simple 1061 (step 1062 true false (to_var 1061 (Ref.Global 5)))) ∷ []); parent = None; doc = 0 }) ∷ [];
  chunks = (chunk_of [] ∷ []);
  globals = ((record { name = (codes "alert"); chunk = None; doc = 0; flat = [] }) ∷ (record { name = (codes "Object"); chunk = None; doc = 0; flat = [] }) ∷ (record { name = (codes "Math"); chunk = None; doc = 0; flat = [] }) ∷ (record { name = (codes "String"); chunk = None; doc = 0; flat = [] }) ∷ (record { name = (codes "i"); chunk = Some 0; doc = 0; flat = [] }) ∷ (record { name = (codes "s"); chunk = Some 0; doc = 0; flat = [] }) ∷ []);
  props = [];
  kept = always_kept;
  classes = [];
  places = [];
  docs = (no_doc ∷ []);
}

steps_run : run checked steps (record { turns = (load 0 ∷ []); replies = ((record { first = []; answer = gives undef }) ∷ (record { first = []; answer = gives undef }) ∷ (record { first = []; answer = gives undef }) ∷ (record { first = []; answer = gives undef }) ∷ []) }) 40 ≡ record { events = (called (shown_out 0) undef ((shown_prim (whole (pos 1))) ∷ []) ∷ called (shown_out 0) undef ((shown_prim (whole (pos 3))) ∷ []) ∷ called (shown_out 0) undef ((shown_prim (whole (pos 3))) ∷ []) ∷ called (shown_out 0) undef ((shown_prim (whole (pos 2))) ∷ []) ∷ []); end = stopped (broken 2 (at_site 1062)) }
unfolding opened
steps_run = refl

--     alert(1<<31);alert(-1>>>0);alert(-8>>1);alert(5^1);alert(~5);alert(-7%3);alert(7/2);
abbrev shifts : Program
shifts = record {
  scopes =
      (record { params = 0; names = 0; own = false; body = stmts ((simple 1001 (call 1006 (var 1001 (Ref.Global 0)) (exprs ((binary 1008 Shl (lit 1007 (whole (pos 1))) (lit 1010 (whole (pos 31)))) ∷ [])))) ∷ (simple 1014 (call 1019 (var 1014 (Ref.Global 0)) (exprs ((binary 1022 UShr (lit 1020 (whole (negsuc 0))) (lit 1025 (whole (pos 0)))) ∷ [])))) ∷ (simple 1028 (call 1033 (var 1028 (Ref.Global 0)) (exprs ((binary 1036 Shr (lit 1034 (whole (negsuc 7))) (lit 1038 (whole (pos 1)))) ∷ [])))) ∷ (simple 1041 (call 1046 (var 1041 (Ref.Global 0)) (exprs ((binary 1048 BitXor (lit 1047 (whole (pos 5))) (lit 1049 (whole (pos 1)))) ∷ [])))) ∷ (simple 1052 (call 1057 (var 1052 (Ref.Global 0)) (exprs ((unary 1058 BitNot (lit 1059 (whole (pos 5)))) ∷ [])))) ∷ (simple 1062 (call 1067 (var 1062 (Ref.Global 0)) (exprs ((binary 1070 Rem (lit 1068 (whole (negsuc 6))) (lit 1071 (whole (pos 3)))) ∷ [])))) ∷ (simple 1074 (call 1079 (var 1074 (Ref.Global 0)) (exprs ((binary 1081 Div (lit 1080 (whole (pos 7))) (lit 1082 (whole (pos 2)))) ∷ [])))) ∷ []); parent = None; doc = 0 }) ∷ [];
  chunks = (chunk_of [] ∷ []);
  globals = ((record { name = (codes "alert"); chunk = None; doc = 0; flat = [] }) ∷ (record { name = (codes "Object"); chunk = None; doc = 0; flat = [] }) ∷ (record { name = (codes "Math"); chunk = None; doc = 0; flat = [] }) ∷ (record { name = (codes "String"); chunk = None; doc = 0; flat = [] }) ∷ []);
  props = [];
  kept = always_kept;
  classes = [];
  places = [];
  docs = (no_doc ∷ []);
}

shifts_run : run checked shifts (record { turns = (load 0 ∷ []); replies = ((record { first = []; answer = gives undef }) ∷ (record { first = []; answer = gives undef }) ∷ (record { first = []; answer = gives undef }) ∷ (record { first = []; answer = gives undef }) ∷ (record { first = []; answer = gives undef }) ∷ (record { first = []; answer = gives undef }) ∷ []) }) 40 ≡ record { events = (called (shown_out 0) undef ((shown_prim (whole (negsuc 2147483647))) ∷ []) ∷ called (shown_out 0) undef ((shown_prim (whole (pos 4294967295))) ∷ []) ∷ called (shown_out 0) undef ((shown_prim (whole (negsuc 3))) ∷ []) ∷ called (shown_out 0) undef ((shown_prim (whole (pos 4))) ∷ []) ∷ called (shown_out 0) undef ((shown_prim (whole (negsuc 5))) ∷ []) ∷ called (shown_out 0) undef ((shown_prim (whole (negsuc 0))) ∷ []) ∷ []); end = stopped (broken 1 (at_site 1081)) }
unfolding opened
shifts_run = refl

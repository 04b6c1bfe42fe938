-- Expressions and calls, where one meets another.
use Rattle.std.specs.Prelude.{◌≡◌, refl, pos, true, false, [], ◌∷◌, Some, None, codes}
use Rattle.cc_ast.specs.Syntax.{Prim, undefined, truth, whole, text, lit, var, this, fun, object, unary, binary, assign, member, index, call, new, comma, cast, tick, to_var, to_index, simple, vars, fun_decl, if, return, pay_stmt, Program}
use Rattle.cc_ast.specs.declared.operator.BinOp.TheVariants.{Add, Sub, Mul, Strict, Instance}
use Rattle.cc_ast.specs.declared.operator.UnOp.TheVariants.{Typeof}
use Rattle.cc_ast.specs.declared.tree.Ref.{Ref}
use Rattle.cc_ast.specs.declared.tree.Key.{Key}
use Rattle.cc_meaning.specs.Values.{shown_prim, shown_out, called, ended, at_site}
use Rattle.cc_meaning.specs.State.{gives}
use Rattle.cc_meaning.specs.Monad.{spent, broken}
use Rattle.cc_meaning.specs.Names.{always_kept}
use Rattle.cc_meaning.specs.Script.{load, run, checked, plain, finished, stopped}
use Rattle.cc_meaning.proofs.Opened.{opened}
use Rattle.cc_meaning.proofs.Trees.{exprs, fields, stmts, no_doc, chunk_of, kept_prop, undef, stext}

--     var f=function g(){g=1;return typeof g;};alert(f());var h=function k(){return k=2;};alert(h());
abbrev own_name : Program
own_name = record {
  scopes =
      (record { params = 0; names = 0; own = false; body = stmts ((vars 1001 ((record { site = 1005; variable = (Ref.Global 4); value = Some (fun 1007 1) }) ∷ [])) ∷ (simple 1042 (call 1047 (var 1042 (Ref.Global 0)) (exprs ((call 1049 (var 1048 (Ref.Global 4)) (exprs [])) ∷ [])))) ∷ (vars 1053 ((record { site = 1057; variable = (Ref.Global 5); value = Some (fun 1059 2) }) ∷ [])) ∷ (simple 1085 (call 1090 (var 1085 (Ref.Global 0)) (exprs ((call 1092 (var 1091 (Ref.Global 5)) (exprs [])) ∷ [])))) ∷ []); parent = None; doc = 0 })
      ∷ (record { params = 0; names = 0; own = true; body = stmts ((simple 1020 (assign 1021 None (to_var 1020 (Ref.Frame 1 0)) (lit 1022 (whole (pos 1))))) ∷ (return 1024 (Some (unary 1031 Typeof (var 1038 (Ref.Frame 1 0))))) ∷ []); parent = None; doc = 0 })
      ∷ (record { params = 0; names = 0; own = true; body = stmts ((return 1072 (Some (assign 1080 None (to_var 1079 (Ref.Frame 1 0)) (lit 1081 (whole (pos 2)))))) ∷ []); parent = None; doc = 0 }) ∷ [];
  chunks = (chunk_of [] ∷ []);
  globals = ((record { name = (codes "alert"); chunk = None; doc = 0; flat = [] }) ∷ (record { name = (codes "Object"); chunk = None; doc = 0; flat = [] }) ∷ (record { name = (codes "Math"); chunk = None; doc = 0; flat = [] }) ∷ (record { name = (codes "String"); chunk = None; doc = 0; flat = [] }) ∷ (record { name = (codes "f"); chunk = Some 0; doc = 0; flat = [] }) ∷ (record { name = (codes "h"); chunk = Some 0; doc = 0; flat = [] }) ∷ []);
  props = [];
  kept = always_kept;
  classes = [];
  places = [];
  docs = (no_doc ∷ []);
}

own_name_run : run checked own_name (record { turns = (load 0 ∷ []); replies = ((record { first = []; answer = gives undef }) ∷ (record { first = []; answer = gives undef }) ∷ []) }) 40 ≡ record { events = (called (shown_out 0) undef ((stext (codes "function")) ∷ []) ∷ called (shown_out 0) undef ((shown_prim (whole (pos 2))) ∷ []) ∷ ended undef ∷ []); end = finished }
unfolding opened
own_name_run = refl

--     var x=1;function f(){x=10;return 5;}x+=f();alert(x);
abbrev compound : Program
compound = record {
  scopes =
      (record { params = 0; names = 0; own = false; body = stmts ((vars 1001 ((record { site = 1005; variable = (Ref.Global 4); value = Some (lit 1007 (whole (pos 1))) }) ∷ [])) ∷ (fun_decl 1009 (Ref.Global 5) 1) ∷ (simple 1037 (assign 1038 (Some Add) (to_var 1037 (Ref.Global 4)) (call 1041 (var 1040 (Ref.Global 5)) (exprs [])))) ∷ (simple 1044 (call 1049 (var 1044 (Ref.Global 0)) (exprs ((var 1050 (Ref.Global 4)) ∷ [])))) ∷ []); parent = None; doc = 0 })
      ∷ (record { params = 0; names = 0; own = false; body = stmts ((simple 1022 (assign 1023 None (to_var 1022 (Ref.Global 4)) (lit 1024 (whole (pos 10))))) ∷ (return 1027 (Some (lit 1034 (whole (pos 5))))) ∷ []); parent = None; doc = 0 }) ∷ [];
  chunks = (chunk_of [] ∷ []);
  globals = ((record { name = (codes "alert"); chunk = None; doc = 0; flat = [] }) ∷ (record { name = (codes "Object"); chunk = None; doc = 0; flat = [] }) ∷ (record { name = (codes "Math"); chunk = None; doc = 0; flat = [] }) ∷ (record { name = (codes "String"); chunk = None; doc = 0; flat = [] }) ∷ (record { name = (codes "x"); chunk = Some 0; doc = 0; flat = [] }) ∷ (record { name = (codes "f"); chunk = Some 0; doc = 0; flat = [] }) ∷ []);
  props = [];
  kept = always_kept;
  classes = [];
  places = [];
  docs = (no_doc ∷ []);
}

compound_run : run checked compound (record { turns = (load 0 ∷ []); replies = ((record { first = []; answer = gives undef }) ∷ []) }) 40 ≡ record { events = (called (shown_out 0) undef ((shown_prim (whole (pos 6))) ∷ []) ∷ ended undef ∷ []); end = finished }
unfolding opened
compound_run = refl

--     var u;u(alert(1));
abbrev unset_callee : Program
unset_callee = record {
  scopes =
      (record { params = 0; names = 0; own = false; body = stmts ((vars 1001 ((record { site = 1005; variable = (Ref.Global 4); value = None }) ∷ [])) ∷ (simple 1007 (call 1008 (var 1007 (Ref.Global 4)) (exprs ((call 1014 (var 1009 (Ref.Global 0)) (exprs ((lit 1015 (whole (pos 1))) ∷ []))) ∷ [])))) ∷ []); parent = None; doc = 0 }) ∷ [];
  chunks = (chunk_of [] ∷ []);
  globals = ((record { name = (codes "alert"); chunk = None; doc = 0; flat = [] }) ∷ (record { name = (codes "Object"); chunk = None; doc = 0; flat = [] }) ∷ (record { name = (codes "Math"); chunk = None; doc = 0; flat = [] }) ∷ (record { name = (codes "String"); chunk = None; doc = 0; flat = [] }) ∷ (record { name = (codes "u"); chunk = Some 0; doc = 0; flat = [] }) ∷ []);
  props = [];
  kept = always_kept;
  classes = [];
  places = [];
  docs = (no_doc ∷ []);
}

unset_callee_run : run checked unset_callee (record { turns = (load 0 ∷ []); replies = ((record { first = []; answer = gives undef }) ∷ []) }) 40 ≡ record { events = (called (shown_out 0) undef ((shown_prim (whole (pos 1))) ∷ []) ∷ []); end = stopped (broken 3 (at_site 1008)) }
unfolding opened
unset_callee_run = refl

--     var u;u();
abbrev judged_before_cost : Program
judged_before_cost = record {
  scopes =
      (record { params = 0; names = 0; own = false; body = stmts ((vars 1001 ((record { site = 1005; variable = (Ref.Global 4); value = None }) ∷ [])) ∷ (simple 1007 (call 1008 (var 1007 (Ref.Global 4)) (exprs []))) ∷ []); parent = None; doc = 0 }) ∷ [];
  chunks = (chunk_of [] ∷ []);
  globals = ((record { name = (codes "alert"); chunk = None; doc = 0; flat = [] }) ∷ (record { name = (codes "Object"); chunk = None; doc = 0; flat = [] }) ∷ (record { name = (codes "Math"); chunk = None; doc = 0; flat = [] }) ∷ (record { name = (codes "String"); chunk = None; doc = 0; flat = [] }) ∷ (record { name = (codes "u"); chunk = Some 0; doc = 0; flat = [] }) ∷ []);
  props = [];
  kept = always_kept;
  classes = [];
  places = [];
  docs = (no_doc ∷ []);
}

judged_before_cost_run : run checked judged_before_cost (record { turns = (load 0 ∷ []); replies = [] }) 0 ≡ record { events = []; end = stopped (broken 3 (at_site 1008)) }
unfolding opened
judged_before_cost_run = refl

--     var f=function(){return 1;};function g(){f=function(){return 2;};return 0;}alert(f(g()));
abbrev callee_first : Program
callee_first = record {
  scopes =
      (record { params = 0; names = 0; own = false; body = stmts ((vars 1001 ((record { site = 1005; variable = (Ref.Global 4); value = Some (fun 1007 1) }) ∷ [])) ∷ (fun_decl 1029 (Ref.Global 5) 2) ∷ (simple 1076 (call 1081 (var 1076 (Ref.Global 0)) (exprs ((call 1083 (var 1082 (Ref.Global 4)) (exprs ((call 1085 (var 1084 (Ref.Global 5)) (exprs [])) ∷ []))) ∷ [])))) ∷ []); parent = None; doc = 0 })
      ∷ (record { params = 0; names = 0; own = false; body = stmts ((return 1018 (Some (lit 1025 (whole (pos 1))))) ∷ []); parent = None; doc = 0 })
      ∷ (record { params = 0; names = 0; own = false; body = stmts ((simple 1042 (assign 1043 None (to_var 1042 (Ref.Global 4)) (fun 1044 3))) ∷ (return 1066 (Some (lit 1073 (whole (pos 0))))) ∷ []); parent = None; doc = 0 })
      ∷ (record { params = 0; names = 0; own = false; body = stmts ((return 1055 (Some (lit 1062 (whole (pos 2))))) ∷ []); parent = None; doc = 0 }) ∷ [];
  chunks = (chunk_of [] ∷ []);
  globals = ((record { name = (codes "alert"); chunk = None; doc = 0; flat = [] }) ∷ (record { name = (codes "Object"); chunk = None; doc = 0; flat = [] }) ∷ (record { name = (codes "Math"); chunk = None; doc = 0; flat = [] }) ∷ (record { name = (codes "String"); chunk = None; doc = 0; flat = [] }) ∷ (record { name = (codes "f"); chunk = Some 0; doc = 0; flat = [] }) ∷ (record { name = (codes "g"); chunk = Some 0; doc = 0; flat = [] }) ∷ []);
  props = [];
  kept = always_kept;
  classes = [];
  places = [];
  docs = (no_doc ∷ []);
}

callee_first_run : run checked callee_first (record { turns = (load 0 ∷ []); replies = ((record { first = []; answer = gives undef }) ∷ []) }) 40 ≡ record { events = (called (shown_out 0) undef ((shown_prim (whole (pos 1))) ∷ []) ∷ ended undef ∷ []); end = finished }
unfolding opened
callee_first_run = refl

--     var o={};o(alert(1));
abbrev no_function : Program
no_function = record {
  scopes =
      (record { params = 0; names = 0; own = false; body = stmts ((vars 1001 ((record { site = 1005; variable = (Ref.Global 4); value = Some (object 1007 (fields [])) }) ∷ [])) ∷ (simple 1010 (call 1011 (var 1010 (Ref.Global 4)) (exprs ((call 1017 (var 1012 (Ref.Global 0)) (exprs ((lit 1018 (whole (pos 1))) ∷ []))) ∷ [])))) ∷ []); parent = None; doc = 0 }) ∷ [];
  chunks = (chunk_of [] ∷ []);
  globals = ((record { name = (codes "alert"); chunk = None; doc = 0; flat = [] }) ∷ (record { name = (codes "Object"); chunk = None; doc = 0; flat = [] }) ∷ (record { name = (codes "Math"); chunk = None; doc = 0; flat = [] }) ∷ (record { name = (codes "String"); chunk = None; doc = 0; flat = [] }) ∷ (record { name = (codes "o"); chunk = Some 0; doc = 0; flat = [] }) ∷ []);
  props = [];
  kept = always_kept;
  classes = [];
  places = [];
  docs = (no_doc ∷ []);
}

no_function_run : run checked no_function (record { turns = (load 0 ∷ []); replies = ((record { first = []; answer = gives undef }) ∷ []) }) 40 ≡ record { events = (called (shown_out 0) undef ((shown_prim (whole (pos 1))) ∷ []) ∷ []); end = stopped (broken 2 (at_site 1011)) }
unfolding opened
no_function_run = refl

--     function s(x){alert(x);return x;}s(1)+s(2)*s(3);
abbrev left_to_right : Program
left_to_right = record {
  scopes =
      (record { params = 0; names = 0; own = false; body = stmts ((fun_decl 1001 (Ref.Global 4) 1) ∷ (simple 1034 (binary 1038 Add (call 1035 (var 1034 (Ref.Global 4)) (exprs ((lit 1036 (whole (pos 1))) ∷ []))) (binary 1043 Mul (call 1040 (var 1039 (Ref.Global 4)) (exprs ((lit 1041 (whole (pos 2))) ∷ []))) (call 1045 (var 1044 (Ref.Global 4)) (exprs ((lit 1046 (whole (pos 3))) ∷ [])))))) ∷ []); parent = None; doc = 0 })
      ∷ (record { params = 1; names = 0; own = false; body = stmts ((simple 1015 (call 1020 (var 1015 (Ref.Global 0)) (exprs ((var 1021 (Ref.Frame 0 0)) ∷ [])))) ∷ (return 1024 (Some (var 1031 (Ref.Frame 0 0)))) ∷ []); parent = None; doc = 0 }) ∷ [];
  chunks = (chunk_of [] ∷ []);
  globals = ((record { name = (codes "alert"); chunk = None; doc = 0; flat = [] }) ∷ (record { name = (codes "Object"); chunk = None; doc = 0; flat = [] }) ∷ (record { name = (codes "Math"); chunk = None; doc = 0; flat = [] }) ∷ (record { name = (codes "String"); chunk = None; doc = 0; flat = [] }) ∷ (record { name = (codes "s"); chunk = Some 0; doc = 0; flat = [] }) ∷ []);
  props = [];
  kept = always_kept;
  classes = [];
  places = [];
  docs = (no_doc ∷ []);
}

left_to_right_run : run checked left_to_right (record { turns = (load 0 ∷ []); replies = ((record { first = []; answer = gives undef }) ∷ (record { first = []; answer = gives undef }) ∷ (record { first = []; answer = gives undef }) ∷ []) }) 40 ≡ record { events = (called (shown_out 0) undef ((shown_prim (whole (pos 1))) ∷ []) ∷ called (shown_out 0) undef ((shown_prim (whole (pos 2))) ∷ []) ∷ called (shown_out 0) undef ((shown_prim (whole (pos 3))) ∷ []) ∷ ended undef ∷ []); end = finished }
unfolding opened
left_to_right_run = refl

--     var o={'f':function(){return this;}};alert(o['f']()===o);alert((0,o['f'])());
abbrev receiver : Program
receiver = record {
  scopes =
      (record { params = 0; names = 0; own = false; body = stmts ((vars 1001 ((record { site = 1005; variable = (Ref.Global 4); value = Some (object 1007 (fields ((Key.Quoted (codes "f"), (fun 1012 1)) ∷ []))) }) ∷ [])) ∷ (simple 1038 (call 1043 (var 1038 (Ref.Global 0)) (exprs ((binary 1052 Strict (call 1050 (index 1045 (var 1044 (Ref.Global 4)) (lit 1046 (text (codes "f")))) (exprs [])) (var 1055 (Ref.Global 4))) ∷ [])))) ∷ (simple 1058 (call 1063 (var 1058 (Ref.Global 0)) (exprs ((call 1074 (comma 1065 (lit 1065 (whole (pos 0))) (index 1068 (var 1067 (Ref.Global 4)) (lit 1069 (text (codes "f"))))) (exprs [])) ∷ [])))) ∷ []); parent = None; doc = 0 })
      ∷ (record { params = 0; names = 0; own = false; body = stmts ((return 1023 (Some (this 1030))) ∷ []); parent = None; doc = 0 }) ∷ [];
  chunks = (chunk_of [] ∷ []);
  globals = ((record { name = (codes "alert"); chunk = None; doc = 0; flat = [] }) ∷ (record { name = (codes "Object"); chunk = None; doc = 0; flat = [] }) ∷ (record { name = (codes "Math"); chunk = None; doc = 0; flat = [] }) ∷ (record { name = (codes "String"); chunk = None; doc = 0; flat = [] }) ∷ (record { name = (codes "o"); chunk = Some 0; doc = 0; flat = [] }) ∷ []);
  props = [];
  kept = always_kept;
  classes = [];
  places = [];
  docs = (no_doc ∷ []);
}

receiver_run : run checked receiver (record { turns = (load 0 ∷ []); replies = ((record { first = []; answer = gives undef }) ∷ []) }) 40 ≡ record { events = (called (shown_out 0) undef ((shown_prim (truth true)) ∷ []) ∷ []); end = stopped (broken 4 (at_site 1030)) }
unfolding opened
receiver_run = refl

--     var o={'f':function(){return this;}};alert((/** @type {Function} */(o['f']))()===o);alert($tick(2,o['f'])()===o);
abbrev receiver_under_cast : Program
receiver_under_cast = record {
  scopes =
      (record { params = 0; names = 0; own = false; body = stmts ((vars 1001 ((record { site = 1005; variable = (Ref.Global 4); value = Some (object 1007 (fields ((Key.Quoted (codes "f"), (fun 1012 1)) ∷ []))) }) ∷ [])) ∷ (simple 1038 (call 1043 (var 1038 (Ref.Global 0)) (exprs ((binary 1079 Strict (call 1077 (cast 1068 1 (index 1070 (var 1069 (Ref.Global 4)) (lit 1071 (text (codes "f"))))) (exprs [])) (var 1082 (Ref.Global 4))) ∷ [])))) ∷ (simple 1085 (call 1090 (var 1085 (Ref.Global 0)) (exprs ((binary 1108 Strict (call 1106 (tick 1091 2 (index 1100 (var 1099 (Ref.Global 4)) (lit 1101 (text (codes "f"))))) (exprs [])) (var 1111 (Ref.Global 4))) ∷ [])))) ∷ []); parent = None; doc = 0 })
      ∷ (record { params = 0; names = 0; own = false; body = stmts ((return 1023 (Some (this 1030))) ∷ []); parent = None; doc = 0 }) ∷ [];
  chunks = (chunk_of [] ∷ []);
  globals = ((record { name = (codes "alert"); chunk = None; doc = 0; flat = [] }) ∷ (record { name = (codes "Object"); chunk = None; doc = 0; flat = [] }) ∷ (record { name = (codes "Math"); chunk = None; doc = 0; flat = [] }) ∷ (record { name = (codes "String"); chunk = None; doc = 0; flat = [] }) ∷ (record { name = (codes "o"); chunk = Some 0; doc = 0; flat = [] }) ∷ []);
  props = [];
  kept = always_kept;
  classes = [];
  places = [];
  docs = (no_doc ∷ (record no_doc { value = Some (record { kinds = 8; classes = []; unknown = false; element = None }) }) ∷ []);
}

receiver_under_cast_run : run checked receiver_under_cast (record { turns = (load 0 ∷ []); replies = ((record { first = []; answer = gives undef }) ∷ (record { first = []; answer = gives undef }) ∷ []) }) 40 ≡ record { events = (called (shown_out 0) undef ((shown_prim (truth true)) ∷ []) ∷ called (shown_out 0) undef ((shown_prim (truth true)) ∷ []) ∷ ended undef ∷ []); end = finished }
unfolding opened
receiver_under_cast_run = refl

--     function f(){return this;}alert(f.call(undefined));alert(f.call(7,1));
abbrev given_receiver : Program
given_receiver = record {
  scopes =
      (record { params = 0; names = 0; own = false; body = stmts ((fun_decl 1001 (Ref.Global 4) 1) ∷ (simple 1027 (call 1032 (var 1027 (Ref.Global 0)) (exprs ((call 1039 (member 1034 (var 1033 (Ref.Global 4)) 0) (exprs ((lit 1040 undefined) ∷ []))) ∷ [])))) ∷ (simple 1052 (call 1057 (var 1052 (Ref.Global 0)) (exprs ((call 1064 (member 1059 (var 1058 (Ref.Global 4)) 0) (exprs ((lit 1065 (whole (pos 7))) ∷ (lit 1067 (whole (pos 1))) ∷ []))) ∷ [])))) ∷ []); parent = None; doc = 0 })
      ∷ (record { params = 0; names = 0; own = false; body = stmts ((return 1014 (Some (this 1021))) ∷ []); parent = None; doc = 0 }) ∷ [];
  chunks = (chunk_of [] ∷ []);
  globals = ((record { name = (codes "alert"); chunk = None; doc = 0; flat = [] }) ∷ (record { name = (codes "Object"); chunk = None; doc = 0; flat = [] }) ∷ (record { name = (codes "Math"); chunk = None; doc = 0; flat = [] }) ∷ (record { name = (codes "String"); chunk = None; doc = 0; flat = [] }) ∷ (record { name = (codes "f"); chunk = Some 0; doc = 0; flat = [] }) ∷ []);
  props = (kept_prop (codes "call") ∷ []);
  kept = always_kept;
  classes = [];
  places = [];
  docs = (no_doc ∷ []);
}

given_receiver_run : run checked given_receiver (record { turns = (load 0 ∷ []); replies = ((record { first = []; answer = gives undef }) ∷ (record { first = []; answer = gives undef }) ∷ []) }) 40 ≡ record { events = (called (shown_out 0) undef (undef ∷ []) ∷ called (shown_out 0) undef ((shown_prim (whole (pos 7))) ∷ []) ∷ ended undef ∷ []); end = finished }
unfolding opened
given_receiver_run = refl

--     function F(){this['a']=1;}function G(){return {'a':2};}function H(){return 3;}alert(new F()['a']);alert(new G()['a']);alert(new H() instanceof H);
abbrev new_object : Program
new_object = record {
  scopes =
      (record { params = 0; names = 0; own = false; body = stmts ((fun_decl 1001 (Ref.Global 4) 1) ∷ (fun_decl 1027 (Ref.Global 5) 2) ∷ (fun_decl 1056 (Ref.Global 6) 3) ∷ (simple 1079 (call 1084 (var 1079 (Ref.Global 0)) (exprs ((index 1092 (new 1085 (var 1089 (Ref.Global 4)) (exprs [])) (lit 1093 (text (codes "a")))) ∷ [])))) ∷ (simple 1099 (call 1104 (var 1099 (Ref.Global 0)) (exprs ((index 1112 (new 1105 (var 1109 (Ref.Global 5)) (exprs [])) (lit 1113 (text (codes "a")))) ∷ [])))) ∷ (simple 1119 (call 1124 (var 1119 (Ref.Global 0)) (exprs ((binary 1133 Instance (new 1125 (var 1129 (Ref.Global 6)) (exprs [])) (var 1144 (Ref.Global 6))) ∷ [])))) ∷ []); parent = None; doc = 0 })
      ∷ (record { params = 0; names = 0; own = false; body = stmts ((simple 1014 (assign 1023 None (to_index 1018 (this 1014) (lit 1019 (text (codes "a")))) (lit 1024 (whole (pos 1))))) ∷ []); parent = None; doc = 0 })
      ∷ (record { params = 0; names = 0; own = false; body = stmts ((return 1040 (Some (object 1047 (fields ((Key.Quoted (codes "a"), (lit 1052 (whole (pos 2)))) ∷ []))))) ∷ []); parent = None; doc = 0 })
      ∷ (record { params = 0; names = 0; own = false; body = stmts ((return 1069 (Some (lit 1076 (whole (pos 3))))) ∷ []); parent = None; doc = 0 }) ∷ [];
  chunks = (chunk_of [] ∷ []);
  globals = ((record { name = (codes "alert"); chunk = None; doc = 0; flat = [] }) ∷ (record { name = (codes "Object"); chunk = None; doc = 0; flat = [] }) ∷ (record { name = (codes "Math"); chunk = None; doc = 0; flat = [] }) ∷ (record { name = (codes "String"); chunk = None; doc = 0; flat = [] }) ∷ (record { name = (codes "F"); chunk = Some 0; doc = 0; flat = [] }) ∷ (record { name = (codes "G"); chunk = Some 0; doc = 0; flat = [] }) ∷ (record { name = (codes "H"); chunk = Some 0; doc = 0; flat = [] }) ∷ []);
  props = [];
  kept = always_kept;
  classes = [];
  places = [];
  docs = (no_doc ∷ []);
}

new_object_run : run checked new_object (record { turns = (load 0 ∷ []); replies = ((record { first = []; answer = gives undef }) ∷ (record { first = []; answer = gives undef }) ∷ (record { first = []; answer = gives undef }) ∷ []) }) 40 ≡ record { events = (called (shown_out 0) undef ((shown_prim (whole (pos 1))) ∷ []) ∷ called (shown_out 0) undef ((shown_prim (whole (pos 2))) ∷ []) ∷ called (shown_out 0) undef ((shown_prim (truth true)) ∷ []) ∷ ended undef ∷ []); end = finished }
unfolding opened
new_object_run = refl

--     $pay(3);alert($tick(2,1));
abbrev marks : Program
marks = record {
  scopes =
      (record { params = 0; names = 0; own = false; body = stmts ((pay_stmt 1001 3) ∷ (simple 1009 (call 1014 (var 1009 (Ref.Global 0)) (exprs ((tick 1015 2 (lit 1023 (whole (pos 1)))) ∷ [])))) ∷ []); parent = None; doc = 0 }) ∷ [];
  chunks = (chunk_of [] ∷ []);
  globals = ((record { name = (codes "alert"); chunk = None; doc = 0; flat = [] }) ∷ (record { name = (codes "Object"); chunk = None; doc = 0; flat = [] }) ∷ (record { name = (codes "Math"); chunk = None; doc = 0; flat = [] }) ∷ (record { name = (codes "String"); chunk = None; doc = 0; flat = [] }) ∷ []);
  props = [];
  kept = always_kept;
  classes = [];
  places = [];
  docs = (no_doc ∷ []);
}

marks_run : run checked marks (record { turns = (load 0 ∷ []); replies = ((record { first = []; answer = gives undef }) ∷ []) }) 6 ≡ record { events = (called (shown_out 0) undef ((shown_prim (whole (pos 1))) ∷ []) ∷ ended undef ∷ []); end = finished }
unfolding opened
marks_run = refl

marks_spent : run checked marks (record { turns = (load 0 ∷ []); replies = ((record { first = []; answer = gives undef }) ∷ []) }) 5 ≡ record { events = []; end = stopped spent }
unfolding opened
marks_spent = refl

marks_plain : run plain marks (record { turns = (load 0 ∷ []); replies = ((record { first = []; answer = gives undef }) ∷ []) }) 1 ≡ record { events = (called (shown_out 0) undef ((shown_prim (whole (pos 1))) ∷ []) ∷ ended undef ∷ []); end = finished }
unfolding opened
marks_plain = refl

--     function f(n){if(n===0)return 0;return f(n-1)+1;}alert(f(3));
abbrev deep : Program
deep = record {
  scopes =
      (record { params = 0; names = 0; own = false; body = stmts ((fun_decl 1001 (Ref.Global 4) 1) ∷ (simple 1050 (call 1055 (var 1050 (Ref.Global 0)) (exprs ((call 1057 (var 1056 (Ref.Global 4)) (exprs ((lit 1058 (whole (pos 3))) ∷ []))) ∷ [])))) ∷ []); parent = None; doc = 0 })
      ∷ (record { params = 1; names = 0; own = false; body = stmts ((if 1015 (binary 1019 Strict (var 1018 (Ref.Frame 0 0)) (lit 1022 (whole (pos 0)))) (stmts ((return 1024 (Some (lit 1031 (whole (pos 0))))) ∷ [])) (stmts [])) ∷ (return 1033 (Some (binary 1046 Add (call 1041 (var 1040 (Ref.Global 4)) (exprs ((binary 1043 Sub (var 1042 (Ref.Frame 0 0)) (lit 1044 (whole (pos 1)))) ∷ []))) (lit 1047 (whole (pos 1)))))) ∷ []); parent = None; doc = 0 }) ∷ [];
  chunks = (chunk_of [] ∷ []);
  globals = ((record { name = (codes "alert"); chunk = None; doc = 0; flat = [] }) ∷ (record { name = (codes "Object"); chunk = None; doc = 0; flat = [] }) ∷ (record { name = (codes "Math"); chunk = None; doc = 0; flat = [] }) ∷ (record { name = (codes "String"); chunk = None; doc = 0; flat = [] }) ∷ (record { name = (codes "f"); chunk = Some 0; doc = 0; flat = [] }) ∷ []);
  props = [];
  kept = always_kept;
  classes = [];
  places = [];
  docs = (no_doc ∷ []);
}

deep_run : run checked deep (record { turns = (load 0 ∷ []); replies = ((record { first = []; answer = gives undef }) ∷ []) }) 5 ≡ record { events = (called (shown_out 0) undef ((shown_prim (whole (pos 3))) ∷ []) ∷ ended undef ∷ []); end = finished }
unfolding opened
deep_run = refl

deep_spent : run checked deep (record { turns = (load 0 ∷ []); replies = ((record { first = []; answer = gives undef }) ∷ []) }) 4 ≡ record { events = []; end = stopped spent }
unfolding opened
deep_spent = refl

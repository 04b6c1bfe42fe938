-- Statements, where one meets another.
use Rattle.std.specs.Prelude.{◌≡◌, refl, pos, true, false, [], ◌∷◌, Some, None, codes}
use Rattle.cc_ast.specs.Syntax.{Prim, undefined, null, truth, whole, text, lit, var, fun, list, object, unary, binary, assign, step, member, index, call, to_var, to_index, init_vars, in_target, in_declared, simple, vars, fun_decl, if, while, do_while, for, for_in, return, throw, break, continue, label, switch, try, absent, present, no_cases, more_cases, Program}
use Rattle.cc_ast.specs.declared.operator.BinOp.TheVariants.{Add, Less, Strict}
use Rattle.cc_ast.specs.declared.operator.UnOp.TheVariants.{Delete}
use Rattle.cc_ast.specs.declared.tree.Ref.{Ref}
use Rattle.cc_ast.specs.declared.tree.Key.{Key}
use Rattle.cc_meaning.specs.Values.{shown_prim, shown_out, called, put, ended, at_site}
use Rattle.cc_meaning.specs.State.{gives}
use Rattle.cc_meaning.specs.Monad.{spent, broken}
use Rattle.cc_meaning.specs.Names.{always_kept}
use Rattle.cc_meaning.specs.Script.{load, run, checked, finished, stopped}
use Rattle.cc_meaning.proofs.Opened.{opened}
use Rattle.cc_meaning.proofs.Trees.{exprs, fields, stmts, no_doc, chunk_of, kept_prop, undef, stext}

--     function f(){try{throw 1;}finally{return 2;}}alert(f());
abbrev finally_over_throw : Program
finally_over_throw = record {
  scopes =
      (record { params = 0; names = 0; own = false; body = stmts ((fun_decl 1001 (Ref.Global 4) 1) ∷ (simple 1046 (call 1051 (var 1046 (Ref.Global 0)) (exprs ((call 1053 (var 1052 (Ref.Global 4)) (exprs [])) ∷ [])))) ∷ []); parent = None; doc = 0 })
      ∷ (record { params = 0; names = 0; own = false; body = stmts ((try 1014 (stmts ((throw 1018 (lit 1024 (whole (pos 1)))) ∷ [])) absent (present (stmts ((return 1035 (Some (lit 1042 (whole (pos 2))))) ∷ [])))) ∷ []); parent = None; doc = 0 }) ∷ [];
  chunks = (chunk_of [] ∷ []);
  globals = ((record { name = (codes "alert"); chunk = None; doc = 0; flat = [] }) ∷ (record { name = (codes "Object"); chunk = None; doc = 0; flat = [] }) ∷ (record { name = (codes "Math"); chunk = None; doc = 0; flat = [] }) ∷ (record { name = (codes "String"); chunk = None; doc = 0; flat = [] }) ∷ (record { name = (codes "f"); chunk = Some 0; doc = 0; flat = [] }) ∷ []);
  props = [];
  kept = always_kept;
  classes = [];
  places = [];
  docs = (no_doc ∷ []);
}

finally_over_throw_run : run checked finally_over_throw (record { turns = (load 0 ∷ []); replies = ((record { first = []; answer = gives undef }) ∷ []) }) 40 ≡ record { events = (called (shown_out 0) undef ((shown_prim (whole (pos 2))) ∷ []) ∷ ended undef ∷ []); end = finished }
unfolding opened
finally_over_throw_run = refl

--     function f(){try{throw 1;}finally{alert(0);}}try{f();}catch(e){alert(e);}
abbrev finally_goes_on : Program
finally_goes_on = record {
  scopes =
      (record { params = 0; names = 0; own = false; body = stmts ((fun_decl 1001 (Ref.Global 4) 1) ∷ (try 1046 (stmts ((simple 1050 (call 1051 (var 1050 (Ref.Global 4)) (exprs []))) ∷ [])) (present (stmts ((simple 1064 (call 1069 (var 1064 (Ref.Global 0)) (exprs ((var 1070 (Ref.Frame 0 0)) ∷ [])))) ∷ []))) absent) ∷ []); parent = None; doc = 0 })
      ∷ (record { params = 0; names = 0; own = false; body = stmts ((try 1014 (stmts ((throw 1018 (lit 1024 (whole (pos 1)))) ∷ [])) absent (present (stmts ((simple 1035 (call 1040 (var 1035 (Ref.Global 0)) (exprs ((lit 1041 (whole (pos 0))) ∷ [])))) ∷ [])))) ∷ []); parent = None; doc = 0 }) ∷ [];
  chunks = (chunk_of [] ∷ []);
  globals = ((record { name = (codes "alert"); chunk = None; doc = 0; flat = [] }) ∷ (record { name = (codes "Object"); chunk = None; doc = 0; flat = [] }) ∷ (record { name = (codes "Math"); chunk = None; doc = 0; flat = [] }) ∷ (record { name = (codes "String"); chunk = None; doc = 0; flat = [] }) ∷ (record { name = (codes "f"); chunk = Some 0; doc = 0; flat = [] }) ∷ []);
  props = [];
  kept = always_kept;
  classes = [];
  places = [];
  docs = (no_doc ∷ []);
}

finally_goes_on_run : run checked finally_goes_on (record { turns = (load 0 ∷ []); replies = ((record { first = []; answer = gives undef }) ∷ (record { first = []; answer = gives undef }) ∷ []) }) 40 ≡ record { events = (called (shown_out 0) undef ((shown_prim (whole (pos 0))) ∷ []) ∷ called (shown_out 0) undef ((shown_prim (whole (pos 1))) ∷ []) ∷ ended undef ∷ []); end = finished }
unfolding opened
finally_goes_on_run = refl

--     function h(){while(true){try{return 1;}finally{break;}}return 2;}alert(h());
abbrev break_from_finally : Program
break_from_finally = record {
  scopes =
      (record { params = 0; names = 0; own = false; body = stmts ((fun_decl 1001 (Ref.Global 4) 1) ∷ (simple 1066 (call 1071 (var 1066 (Ref.Global 0)) (exprs ((call 1073 (var 1072 (Ref.Global 4)) (exprs [])) ∷ [])))) ∷ []); parent = None; doc = 0 })
      ∷ (record { params = 0; names = 0; own = false; body = stmts ((while 1014 (lit 1020 (truth true)) (stmts ((try 1026 (stmts ((return 1030 (Some (lit 1037 (whole (pos 1))))) ∷ [])) absent (present (stmts ((break 1048 None) ∷ [])))) ∷ []))) ∷ (return 1056 (Some (lit 1063 (whole (pos 2))))) ∷ []); parent = None; doc = 0 }) ∷ [];
  chunks = (chunk_of [] ∷ []);
  globals = ((record { name = (codes "alert"); chunk = None; doc = 0; flat = [] }) ∷ (record { name = (codes "Object"); chunk = None; doc = 0; flat = [] }) ∷ (record { name = (codes "Math"); chunk = None; doc = 0; flat = [] }) ∷ (record { name = (codes "String"); chunk = None; doc = 0; flat = [] }) ∷ (record { name = (codes "h"); chunk = Some 0; doc = 0; flat = [] }) ∷ []);
  props = [];
  kept = always_kept;
  classes = [];
  places = [];
  docs = (no_doc ∷ []);
}

break_from_finally_run : run checked break_from_finally (record { turns = (load 0 ∷ []); replies = ((record { first = []; answer = gives undef }) ∷ []) }) 40 ≡ record { events = (called (shown_out 0) undef ((shown_prim (whole (pos 2))) ∷ []) ∷ ended undef ∷ []); end = finished }
unfolding opened
break_from_finally_run = refl

--     function f(){try{throw 1;}catch(e){return e;}finally{alert(3);}}alert(f());
abbrev catch_returns : Program
catch_returns = record {
  scopes =
      (record { params = 0; names = 0; own = false; body = stmts ((fun_decl 1001 (Ref.Global 4) 1) ∷ (simple 1065 (call 1070 (var 1065 (Ref.Global 0)) (exprs ((call 1072 (var 1071 (Ref.Global 4)) (exprs [])) ∷ [])))) ∷ []); parent = None; doc = 0 })
      ∷ (record { params = 0; names = 0; own = false; body = stmts ((try 1014 (stmts ((throw 1018 (lit 1024 (whole (pos 1)))) ∷ [])) (present (stmts ((return 1036 (Some (var 1043 (Ref.Frame 0 0)))) ∷ []))) (present (stmts ((simple 1054 (call 1059 (var 1054 (Ref.Global 0)) (exprs ((lit 1060 (whole (pos 3))) ∷ [])))) ∷ [])))) ∷ []); parent = None; doc = 0 }) ∷ [];
  chunks = (chunk_of [] ∷ []);
  globals = ((record { name = (codes "alert"); chunk = None; doc = 0; flat = [] }) ∷ (record { name = (codes "Object"); chunk = None; doc = 0; flat = [] }) ∷ (record { name = (codes "Math"); chunk = None; doc = 0; flat = [] }) ∷ (record { name = (codes "String"); chunk = None; doc = 0; flat = [] }) ∷ (record { name = (codes "f"); chunk = Some 0; doc = 0; flat = [] }) ∷ []);
  props = [];
  kept = always_kept;
  classes = [];
  places = [];
  docs = (no_doc ∷ []);
}

catch_returns_run : run checked catch_returns (record { turns = (load 0 ∷ []); replies = ((record { first = []; answer = gives undef }) ∷ (record { first = []; answer = gives undef }) ∷ []) }) 40 ≡ record { events = (called (shown_out 0) undef ((shown_prim (whole (pos 3))) ∷ []) ∷ called (shown_out 0) undef ((shown_prim (whole (pos 1))) ∷ []) ∷ ended undef ∷ []); end = finished }
unfolding opened
catch_returns_run = refl

--     var e=1,f;try{throw 2;}catch(x){f=function(){return x+e;};x=5;}alert(f());
abbrev catch_frame : Program
catch_frame = record {
  scopes =
      (record { params = 0; names = 0; own = false; body = stmts ((vars 1001 ((record { site = 1005; variable = (Ref.Global 4); value = Some (lit 1007 (whole (pos 1))) }) ∷ (record { site = 1009; variable = (Ref.Global 5); value = None }) ∷ [])) ∷ (try 1011 (stmts ((throw 1015 (lit 1021 (whole (pos 2)))) ∷ [])) (present (stmts ((simple 1033 (assign 1034 None (to_var 1033 (Ref.Global 5)) (fun 1035 1))) ∷ (simple 1059 (assign 1060 None (to_var 1059 (Ref.Frame 0 0)) (lit 1061 (whole (pos 5))))) ∷ []))) absent) ∷ (simple 1064 (call 1069 (var 1064 (Ref.Global 0)) (exprs ((call 1071 (var 1070 (Ref.Global 5)) (exprs [])) ∷ [])))) ∷ []); parent = None; doc = 0 })
      ∷ (record { params = 0; names = 0; own = false; body = stmts ((return 1046 (Some (binary 1054 Add (var 1053 (Ref.Frame 1 0)) (var 1055 (Ref.Global 4))))) ∷ []); parent = None; doc = 0 }) ∷ [];
  chunks = (chunk_of [] ∷ []);
  globals = ((record { name = (codes "alert"); chunk = None; doc = 0; flat = [] }) ∷ (record { name = (codes "Object"); chunk = None; doc = 0; flat = [] }) ∷ (record { name = (codes "Math"); chunk = None; doc = 0; flat = [] }) ∷ (record { name = (codes "String"); chunk = None; doc = 0; flat = [] }) ∷ (record { name = (codes "e"); chunk = Some 0; doc = 0; flat = [] }) ∷ (record { name = (codes "f"); chunk = Some 0; doc = 0; flat = [] }) ∷ []);
  props = [];
  kept = always_kept;
  classes = [];
  places = [];
  docs = (no_doc ∷ []);
}

catch_frame_run : run checked catch_frame (record { turns = (load 0 ∷ []); replies = ((record { first = []; answer = gives undef }) ∷ []) }) 40 ≡ record { events = (called (shown_out 0) undef ((shown_prim (whole (pos 6))) ∷ []) ∷ ended undef ∷ []); end = finished }
unfolding opened
catch_frame_run = refl

--     function s(v){switch(v){default:alert('d');case 1:alert(1);break;case 2:alert(2);}}s(3);s(2);
abbrev default_first : Program
default_first = record {
  scopes =
      (record { params = 0; names = 0; own = false; body = stmts ((fun_decl 1001 (Ref.Global 4) 1) ∷ (simple 1084 (call 1085 (var 1084 (Ref.Global 4)) (exprs ((lit 1086 (whole (pos 3))) ∷ [])))) ∷ (simple 1089 (call 1090 (var 1089 (Ref.Global 4)) (exprs ((lit 1091 (whole (pos 2))) ∷ [])))) ∷ []); parent = None; doc = 0 })
      ∷ (record { params = 1; names = 0; own = false; body = stmts ((switch 1015 (var 1022 (Ref.Frame 0 0)) (more_cases None (stmts ((simple 1033 (call 1038 (var 1033 (Ref.Global 0)) (exprs ((lit 1039 (text (codes "d"))) ∷ [])))) ∷ [])) (more_cases (Some (lit 1049 (whole (pos 1)))) (stmts ((simple 1051 (call 1056 (var 1051 (Ref.Global 0)) (exprs ((lit 1057 (whole (pos 1))) ∷ [])))) ∷ (break 1060 None) ∷ [])) (more_cases (Some (lit 1071 (whole (pos 2)))) (stmts ((simple 1073 (call 1078 (var 1073 (Ref.Global 0)) (exprs ((lit 1079 (whole (pos 2))) ∷ [])))) ∷ [])) no_cases)))) ∷ []); parent = None; doc = 0 }) ∷ [];
  chunks = (chunk_of [] ∷ []);
  globals = ((record { name = (codes "alert"); chunk = None; doc = 0; flat = [] }) ∷ (record { name = (codes "Object"); chunk = None; doc = 0; flat = [] }) ∷ (record { name = (codes "Math"); chunk = None; doc = 0; flat = [] }) ∷ (record { name = (codes "String"); chunk = None; doc = 0; flat = [] }) ∷ (record { name = (codes "s"); chunk = Some 0; doc = 0; flat = [] }) ∷ []);
  props = [];
  kept = always_kept;
  classes = [];
  places = [];
  docs = (no_doc ∷ []);
}

default_first_run : run checked default_first (record { turns = (load 0 ∷ []); replies = ((record { first = []; answer = gives undef }) ∷ (record { first = []; answer = gives undef }) ∷ (record { first = []; answer = gives undef }) ∷ []) }) 40 ≡ record { events = (called (shown_out 0) undef ((stext (codes "d")) ∷ []) ∷ called (shown_out 0) undef ((shown_prim (whole (pos 1))) ∷ []) ∷ called (shown_out 0) undef ((shown_prim (whole (pos 2))) ∷ []) ∷ ended undef ∷ []); end = finished }
unfolding opened
default_first_run = refl

--     function s(v){switch(v){case 0:alert(0);default:alert('d');case 1:alert(1);}}s(1);s(7);s(0);
abbrev default_between : Program
default_between = record {
  scopes =
      (record { params = 0; names = 0; own = false; body = stmts ((fun_decl 1001 (Ref.Global 4) 1) ∷ (simple 1078 (call 1079 (var 1078 (Ref.Global 4)) (exprs ((lit 1080 (whole (pos 1))) ∷ [])))) ∷ (simple 1083 (call 1084 (var 1083 (Ref.Global 4)) (exprs ((lit 1085 (whole (pos 7))) ∷ [])))) ∷ (simple 1088 (call 1089 (var 1088 (Ref.Global 4)) (exprs ((lit 1090 (whole (pos 0))) ∷ [])))) ∷ []); parent = None; doc = 0 })
      ∷ (record { params = 1; names = 0; own = false; body = stmts ((switch 1015 (var 1022 (Ref.Frame 0 0)) (more_cases (Some (lit 1030 (whole (pos 0)))) (stmts ((simple 1032 (call 1037 (var 1032 (Ref.Global 0)) (exprs ((lit 1038 (whole (pos 0))) ∷ [])))) ∷ [])) (more_cases None (stmts ((simple 1049 (call 1054 (var 1049 (Ref.Global 0)) (exprs ((lit 1055 (text (codes "d"))) ∷ [])))) ∷ [])) (more_cases (Some (lit 1065 (whole (pos 1)))) (stmts ((simple 1067 (call 1072 (var 1067 (Ref.Global 0)) (exprs ((lit 1073 (whole (pos 1))) ∷ [])))) ∷ [])) no_cases)))) ∷ []); parent = None; doc = 0 }) ∷ [];
  chunks = (chunk_of [] ∷ []);
  globals = ((record { name = (codes "alert"); chunk = None; doc = 0; flat = [] }) ∷ (record { name = (codes "Object"); chunk = None; doc = 0; flat = [] }) ∷ (record { name = (codes "Math"); chunk = None; doc = 0; flat = [] }) ∷ (record { name = (codes "String"); chunk = None; doc = 0; flat = [] }) ∷ (record { name = (codes "s"); chunk = Some 0; doc = 0; flat = [] }) ∷ []);
  props = [];
  kept = always_kept;
  classes = [];
  places = [];
  docs = (no_doc ∷ []);
}

default_between_run : run checked default_between (record { turns = (load 0 ∷ []); replies = ((record { first = []; answer = gives undef }) ∷ (record { first = []; answer = gives undef }) ∷ (record { first = []; answer = gives undef }) ∷ (record { first = []; answer = gives undef }) ∷ (record { first = []; answer = gives undef }) ∷ (record { first = []; answer = gives undef }) ∷ []) }) 40 ≡ record { events = (called (shown_out 0) undef ((shown_prim (whole (pos 1))) ∷ []) ∷ called (shown_out 0) undef ((stext (codes "d")) ∷ []) ∷ called (shown_out 0) undef ((shown_prim (whole (pos 1))) ∷ []) ∷ called (shown_out 0) undef ((shown_prim (whole (pos 0))) ∷ []) ∷ called (shown_out 0) undef ((stext (codes "d")) ∷ []) ∷ called (shown_out 0) undef ((shown_prim (whole (pos 1))) ∷ []) ∷ ended undef ∷ []); end = finished }
unfolding opened
default_between_run = refl

--     switch('1'){case 1:alert('n');break;case '1':alert('s');}
abbrev switch_strict : Program
switch_strict = record {
  scopes =
      (record { params = 0; names = 0; own = false; body = stmts ((switch 1001 (lit 1008 (text (codes "1"))) (more_cases (Some (lit 1018 (whole (pos 1)))) (stmts ((simple 1020 (call 1025 (var 1020 (Ref.Global 0)) (exprs ((lit 1026 (text (codes "n"))) ∷ [])))) ∷ (break 1031 None) ∷ [])) (more_cases (Some (lit 1042 (text (codes "1")))) (stmts ((simple 1046 (call 1051 (var 1046 (Ref.Global 0)) (exprs ((lit 1052 (text (codes "s"))) ∷ [])))) ∷ [])) no_cases))) ∷ []); parent = None; doc = 0 }) ∷ [];
  chunks = (chunk_of [] ∷ []);
  globals = ((record { name = (codes "alert"); chunk = None; doc = 0; flat = [] }) ∷ (record { name = (codes "Object"); chunk = None; doc = 0; flat = [] }) ∷ (record { name = (codes "Math"); chunk = None; doc = 0; flat = [] }) ∷ (record { name = (codes "String"); chunk = None; doc = 0; flat = [] }) ∷ []);
  props = [];
  kept = always_kept;
  classes = [];
  places = [];
  docs = (no_doc ∷ []);
}

switch_strict_run : run checked switch_strict (record { turns = (load 0 ∷ []); replies = ((record { first = []; answer = gives undef }) ∷ []) }) 40 ≡ record { events = (called (shown_out 0) undef ((stext (codes "s")) ∷ []) ∷ ended undef ∷ []); end = finished }
unfolding opened
switch_strict_run = refl

--     switch(undefined){case null:alert(0);break;default:alert(1);}
abbrev switch_nothing : Program
switch_nothing = record {
  scopes =
      (record { params = 0; names = 0; own = false; body = stmts ((switch 1001 (lit 1008 undefined) (more_cases (Some (lit 1024 null)) (stmts ((simple 1029 (call 1034 (var 1029 (Ref.Global 0)) (exprs ((lit 1035 (whole (pos 0))) ∷ [])))) ∷ (break 1038 None) ∷ [])) (more_cases None (stmts ((simple 1052 (call 1057 (var 1052 (Ref.Global 0)) (exprs ((lit 1058 (whole (pos 1))) ∷ [])))) ∷ [])) no_cases))) ∷ []); parent = None; doc = 0 }) ∷ [];
  chunks = (chunk_of [] ∷ []);
  globals = ((record { name = (codes "alert"); chunk = None; doc = 0; flat = [] }) ∷ (record { name = (codes "Object"); chunk = None; doc = 0; flat = [] }) ∷ (record { name = (codes "Math"); chunk = None; doc = 0; flat = [] }) ∷ (record { name = (codes "String"); chunk = None; doc = 0; flat = [] }) ∷ []);
  props = [];
  kept = always_kept;
  classes = [];
  places = [];
  docs = (no_doc ∷ []);
}

switch_nothing_run : run checked switch_nothing (record { turns = (load 0 ∷ []); replies = ((record { first = []; answer = gives undef }) ∷ []) }) 40 ≡ record { events = (called (shown_out 0) undef ((shown_prim (whole (pos 1))) ∷ []) ∷ ended undef ∷ []); end = finished }
unfolding opened
switch_nothing_run = refl

--     a:for(var i=0;i<3;i++){for(var j=0;j<3;j++){if(j===1)continue a;if(i===2)break a;alert(i);}}alert(9);
abbrev labels : Program
labels = record {
  scopes =
      (record { params = 0; names = 0; own = false; body = stmts ((label 1001 (codes "a") (stmts ((for 1003 (init_vars ((record { site = 1011; variable = (Ref.Global 4); value = Some (lit 1013 (whole (pos 0))) }) ∷ [])) (Some (binary 1016 Less (var 1015 (Ref.Global 4)) (lit 1017 (whole (pos 3))))) (Some (step 1020 true false (to_var 1019 (Ref.Global 4)))) (stmts ((for 1024 (init_vars ((record { site = 1032; variable = (Ref.Global 5); value = Some (lit 1034 (whole (pos 0))) }) ∷ [])) (Some (binary 1037 Less (var 1036 (Ref.Global 5)) (lit 1038 (whole (pos 3))))) (Some (step 1041 true false (to_var 1040 (Ref.Global 5)))) (stmts ((if 1045 (binary 1049 Strict (var 1048 (Ref.Global 5)) (lit 1052 (whole (pos 1)))) (stmts ((continue 1054 (Some (codes "a"))) ∷ [])) (stmts [])) ∷ (if 1065 (binary 1069 Strict (var 1068 (Ref.Global 4)) (lit 1072 (whole (pos 2)))) (stmts ((break 1074 (Some (codes "a"))) ∷ [])) (stmts [])) ∷ (simple 1082 (call 1087 (var 1082 (Ref.Global 0)) (exprs ((var 1088 (Ref.Global 4)) ∷ [])))) ∷ []))) ∷ []))) ∷ []))) ∷ (simple 1093 (call 1098 (var 1093 (Ref.Global 0)) (exprs ((lit 1099 (whole (pos 9))) ∷ [])))) ∷ []); parent = None; doc = 0 }) ∷ [];
  chunks = (chunk_of [] ∷ []);
  globals = ((record { name = (codes "alert"); chunk = None; doc = 0; flat = [] }) ∷ (record { name = (codes "Object"); chunk = None; doc = 0; flat = [] }) ∷ (record { name = (codes "Math"); chunk = None; doc = 0; flat = [] }) ∷ (record { name = (codes "String"); chunk = None; doc = 0; flat = [] }) ∷ (record { name = (codes "i"); chunk = Some 0; doc = 0; flat = [] }) ∷ (record { name = (codes "j"); chunk = Some 0; doc = 0; flat = [] }) ∷ []);
  props = [];
  kept = always_kept;
  classes = [];
  places = [];
  docs = (no_doc ∷ []);
}

labels_run : run checked labels (record { turns = (load 0 ∷ []); replies = ((record { first = []; answer = gives undef }) ∷ (record { first = []; answer = gives undef }) ∷ (record { first = []; answer = gives undef }) ∷ []) }) 40 ≡ record { events = (called (shown_out 0) undef ((shown_prim (whole (pos 0))) ∷ []) ∷ called (shown_out 0) undef ((shown_prim (whole (pos 1))) ∷ []) ∷ called (shown_out 0) undef ((shown_prim (whole (pos 9))) ∷ []) ∷ ended undef ∷ []); end = finished }
unfolding opened
labels_run = refl

--     a:{alert(1);if(true)break a;alert(2);}alert(3);
abbrev label_of_block : Program
label_of_block = record {
  scopes =
      (record { params = 0; names = 0; own = false; body = stmts ((label 1001 (codes "a") (stmts ((simple 1004 (call 1009 (var 1004 (Ref.Global 0)) (exprs ((lit 1010 (whole (pos 1))) ∷ [])))) ∷ (if 1013 (lit 1016 (truth true)) (stmts ((break 1021 (Some (codes "a"))) ∷ [])) (stmts [])) ∷ (simple 1029 (call 1034 (var 1029 (Ref.Global 0)) (exprs ((lit 1035 (whole (pos 2))) ∷ [])))) ∷ []))) ∷ (simple 1039 (call 1044 (var 1039 (Ref.Global 0)) (exprs ((lit 1045 (whole (pos 3))) ∷ [])))) ∷ []); parent = None; doc = 0 }) ∷ [];
  chunks = (chunk_of [] ∷ []);
  globals = ((record { name = (codes "alert"); chunk = None; doc = 0; flat = [] }) ∷ (record { name = (codes "Object"); chunk = None; doc = 0; flat = [] }) ∷ (record { name = (codes "Math"); chunk = None; doc = 0; flat = [] }) ∷ (record { name = (codes "String"); chunk = None; doc = 0; flat = [] }) ∷ []);
  props = [];
  kept = always_kept;
  classes = [];
  places = [];
  docs = (no_doc ∷ []);
}

label_of_block_run : run checked label_of_block (record { turns = (load 0 ∷ []); replies = ((record { first = []; answer = gives undef }) ∷ (record { first = []; answer = gives undef }) ∷ []) }) 40 ≡ record { events = (called (shown_out 0) undef ((shown_prim (whole (pos 1))) ∷ []) ∷ called (shown_out 0) undef ((shown_prim (whole (pos 3))) ∷ []) ∷ ended undef ∷ []); end = finished }
unfolding opened
label_of_block_run = refl

--     for(var i=0;i<2;i++){switch(i){case 0:continue;case 1:break;}alert(i);}
abbrev switch_in_loop : Program
switch_in_loop = record {
  scopes =
      (record { params = 0; names = 0; own = false; body = stmts ((for 1001 (init_vars ((record { site = 1009; variable = (Ref.Global 4); value = Some (lit 1011 (whole (pos 0))) }) ∷ [])) (Some (binary 1014 Less (var 1013 (Ref.Global 4)) (lit 1015 (whole (pos 2))))) (Some (step 1018 true false (to_var 1017 (Ref.Global 4)))) (stmts ((switch 1022 (var 1029 (Ref.Global 4)) (more_cases (Some (lit 1037 (whole (pos 0)))) (stmts ((continue 1039 None) ∷ [])) (more_cases (Some (lit 1053 (whole (pos 1)))) (stmts ((break 1055 None) ∷ [])) no_cases))) ∷ (simple 1062 (call 1067 (var 1062 (Ref.Global 0)) (exprs ((var 1068 (Ref.Global 4)) ∷ [])))) ∷ []))) ∷ []); parent = None; doc = 0 }) ∷ [];
  chunks = (chunk_of [] ∷ []);
  globals = ((record { name = (codes "alert"); chunk = None; doc = 0; flat = [] }) ∷ (record { name = (codes "Object"); chunk = None; doc = 0; flat = [] }) ∷ (record { name = (codes "Math"); chunk = None; doc = 0; flat = [] }) ∷ (record { name = (codes "String"); chunk = None; doc = 0; flat = [] }) ∷ (record { name = (codes "i"); chunk = Some 0; doc = 0; flat = [] }) ∷ []);
  props = [];
  kept = always_kept;
  classes = [];
  places = [];
  docs = (no_doc ∷ []);
}

switch_in_loop_run : run checked switch_in_loop (record { turns = (load 0 ∷ []); replies = ((record { first = []; answer = gives undef }) ∷ []) }) 40 ≡ record { events = (called (shown_out 0) undef ((shown_prim (whole (pos 1))) ∷ []) ∷ ended undef ∷ []); end = finished }
unfolding opened
switch_in_loop_run = refl

--     var i=5;do{alert(i);i++;}while(i<5);
abbrev do_once : Program
do_once = record {
  scopes =
      (record { params = 0; names = 0; own = false; body = stmts ((vars 1001 ((record { site = 1005; variable = (Ref.Global 4); value = Some (lit 1007 (whole (pos 5))) }) ∷ [])) ∷ (do_while 1009 (stmts ((simple 1012 (call 1017 (var 1012 (Ref.Global 0)) (exprs ((var 1018 (Ref.Global 4)) ∷ [])))) ∷ (simple 1021 (step 1022 true false (to_var 1021 (Ref.Global 4)))) ∷ [])) (binary 1033 Less (var 1032 (Ref.Global 4)) (lit 1034 (whole (pos 5))))) ∷ []); parent = None; doc = 0 }) ∷ [];
  chunks = (chunk_of [] ∷ []);
  globals = ((record { name = (codes "alert"); chunk = None; doc = 0; flat = [] }) ∷ (record { name = (codes "Object"); chunk = None; doc = 0; flat = [] }) ∷ (record { name = (codes "Math"); chunk = None; doc = 0; flat = [] }) ∷ (record { name = (codes "String"); chunk = None; doc = 0; flat = [] }) ∷ (record { name = (codes "i"); chunk = Some 0; doc = 0; flat = [] }) ∷ []);
  props = [];
  kept = always_kept;
  classes = [];
  places = [];
  docs = (no_doc ∷ []);
}

do_once_run : run checked do_once (record { turns = (load 0 ∷ []); replies = ((record { first = []; answer = gives undef }) ∷ []) }) 40 ≡ record { events = (called (shown_out 0) undef ((shown_prim (whole (pos 5))) ∷ []) ∷ ended undef ∷ []); end = finished }
unfolding opened
do_once_run = refl

do_once_spent : run checked do_once (record { turns = (load 0 ∷ []); replies = [] }) 0 ≡ record { events = []; end = stopped spent }
unfolding opened
do_once_spent = refl

--     do{X['n']=1;}while(false);
abbrev do_before : Program
do_before = record {
  scopes =
      (record { params = 0; names = 0; own = false; body = stmts ((do_while 1001 (stmts ((simple 1004 (assign 1010 None (to_index 1005 (var 1004 (Ref.Global 0)) (lit 1006 (text (codes "n")))) (lit 1011 (whole (pos 1))))) ∷ [])) (lit 1020 (truth false))) ∷ []); parent = None; doc = 0 }) ∷ [];
  chunks = (chunk_of [] ∷ []);
  globals = ((record { name = (codes "X"); chunk = None; doc = 0; flat = [] }) ∷ (record { name = (codes "Object"); chunk = None; doc = 0; flat = [] }) ∷ (record { name = (codes "Math"); chunk = None; doc = 0; flat = [] }) ∷ (record { name = (codes "String"); chunk = None; doc = 0; flat = [] }) ∷ []);
  props = [];
  kept = always_kept;
  classes = [];
  places = [];
  docs = (no_doc ∷ []);
}

do_before_run : run checked do_before (record { turns = (load 0 ∷ []); replies = [] }) 0 ≡ record { events = []; end = stopped spent }
unfolding opened
do_before_run = refl

do_before_paid : run checked do_before (record { turns = (load 0 ∷ []); replies = [] }) 1 ≡ record { events = (put (shown_out 0) (codes "n") (shown_prim (whole (pos 1))) ∷ ended undef ∷ []); end = finished }
unfolding opened
do_before_paid = refl

--     for(var i=0;i<3;i++);alert(i);
abbrev loop_costs : Program
loop_costs = record {
  scopes =
      (record { params = 0; names = 0; own = false; body = stmts ((for 1001 (init_vars ((record { site = 1009; variable = (Ref.Global 4); value = Some (lit 1011 (whole (pos 0))) }) ∷ [])) (Some (binary 1014 Less (var 1013 (Ref.Global 4)) (lit 1015 (whole (pos 3))))) (Some (step 1018 true false (to_var 1017 (Ref.Global 4)))) (stmts [])) ∷ (simple 1022 (call 1027 (var 1022 (Ref.Global 0)) (exprs ((var 1028 (Ref.Global 4)) ∷ [])))) ∷ []); parent = None; doc = 0 }) ∷ [];
  chunks = (chunk_of [] ∷ []);
  globals = ((record { name = (codes "alert"); chunk = None; doc = 0; flat = [] }) ∷ (record { name = (codes "Object"); chunk = None; doc = 0; flat = [] }) ∷ (record { name = (codes "Math"); chunk = None; doc = 0; flat = [] }) ∷ (record { name = (codes "String"); chunk = None; doc = 0; flat = [] }) ∷ (record { name = (codes "i"); chunk = Some 0; doc = 0; flat = [] }) ∷ []);
  props = [];
  kept = always_kept;
  classes = [];
  places = [];
  docs = (no_doc ∷ []);
}

loop_costs_run : run checked loop_costs (record { turns = (load 0 ∷ []); replies = ((record { first = []; answer = gives undef }) ∷ []) }) 4 ≡ record { events = (called (shown_out 0) undef ((shown_prim (whole (pos 3))) ∷ []) ∷ ended undef ∷ []); end = finished }
unfolding opened
loop_costs_run = refl

loop_costs_spent : run checked loop_costs (record { turns = (load 0 ∷ []); replies = ((record { first = []; answer = gives undef }) ∷ []) }) 3 ≡ record { events = []; end = stopped spent }
unfolding opened
loop_costs_spent = refl

--     var o={'a':1,'b':2};for(var k in o){delete o['b'];}alert(k);
abbrev name_costs : Program
name_costs = record {
  scopes =
      (record { params = 0; names = 0; own = false; body = stmts ((vars 1001 ((record { site = 1005; variable = (Ref.Global 4); value = Some (object 1007 (fields ((Key.Quoted (codes "a"), (lit 1012 (whole (pos 1)))) ∷ (Key.Quoted (codes "b"), (lit 1018 (whole (pos 2)))) ∷ []))) }) ∷ [])) ∷ (for_in 1021 (in_declared (record { site = 1029; variable = (Ref.Global 5); value = None })) (var 1034 (Ref.Global 4)) (stmts ((simple 1037 (unary 1037 Delete (index 1045 (var 1044 (Ref.Global 4)) (lit 1046 (text (codes "b")))))) ∷ []))) ∷ (simple 1052 (call 1057 (var 1052 (Ref.Global 0)) (exprs ((var 1058 (Ref.Global 5)) ∷ [])))) ∷ []); parent = None; doc = 0 }) ∷ [];
  chunks = (chunk_of [] ∷ []);
  globals = ((record { name = (codes "alert"); chunk = None; doc = 0; flat = [] }) ∷ (record { name = (codes "Object"); chunk = None; doc = 0; flat = [] }) ∷ (record { name = (codes "Math"); chunk = None; doc = 0; flat = [] }) ∷ (record { name = (codes "String"); chunk = None; doc = 0; flat = [] }) ∷ (record { name = (codes "o"); chunk = Some 0; doc = 0; flat = [] }) ∷ (record { name = (codes "k"); chunk = Some 0; doc = 0; flat = [] }) ∷ []);
  props = [];
  kept = always_kept;
  classes = [];
  places = [];
  docs = (no_doc ∷ []);
}

-- a name that is gone costs nothing
name_costs_run : run checked name_costs (record { turns = (load 0 ∷ []); replies = ((record { first = []; answer = gives undef }) ∷ []) }) 2 ≡ record { events = (called (shown_out 0) undef ((stext (codes "a")) ∷ []) ∷ ended undef ∷ []); end = finished }
unfolding opened
name_costs_run = refl

name_costs_spent : run checked name_costs (record { turns = (load 0 ∷ []); replies = ((record { first = []; answer = gives undef }) ∷ []) }) 1 ≡ record { events = []; end = stopped spent }
unfolding opened
name_costs_spent = refl

--     var p={'b':1,'a':2};var d=Object.create(p);d['c']=1;d['a']=3;d['7']=1;for(var k in d)alert(k);
abbrev inherited_names : Program
inherited_names = record {
  scopes =
      (record { params = 0; names = 0; own = false; body = stmts ((vars 1001 ((record { site = 1005; variable = (Ref.Global 4); value = Some (object 1007 (fields ((Key.Quoted (codes "b"), (lit 1012 (whole (pos 1)))) ∷ (Key.Quoted (codes "a"), (lit 1018 (whole (pos 2)))) ∷ []))) }) ∷ [])) ∷ (vars 1021 ((record { site = 1025; variable = (Ref.Global 5); value = Some (call 1040 (member 1033 (var 1027 (Ref.Global 1)) 0) (exprs ((var 1041 (Ref.Global 4)) ∷ []))) }) ∷ [])) ∷ (simple 1044 (assign 1050 None (to_index 1045 (var 1044 (Ref.Global 5)) (lit 1046 (text (codes "c")))) (lit 1051 (whole (pos 1))))) ∷ (simple 1053 (assign 1059 None (to_index 1054 (var 1053 (Ref.Global 5)) (lit 1055 (text (codes "a")))) (lit 1060 (whole (pos 3))))) ∷ (simple 1062 (assign 1068 None (to_index 1063 (var 1062 (Ref.Global 5)) (lit 1064 (text (codes "7")))) (lit 1069 (whole (pos 1))))) ∷ (for_in 1071 (in_declared (record { site = 1079; variable = (Ref.Global 6); value = None })) (var 1084 (Ref.Global 5)) (stmts ((simple 1086 (call 1091 (var 1086 (Ref.Global 0)) (exprs ((var 1092 (Ref.Global 6)) ∷ [])))) ∷ []))) ∷ []); parent = None; doc = 0 }) ∷ [];
  chunks = (chunk_of [] ∷ []);
  globals = ((record { name = (codes "alert"); chunk = None; doc = 0; flat = [] }) ∷ (record { name = (codes "Object"); chunk = None; doc = 0; flat = [] }) ∷ (record { name = (codes "Math"); chunk = None; doc = 0; flat = [] }) ∷ (record { name = (codes "String"); chunk = None; doc = 0; flat = [] }) ∷ (record { name = (codes "p"); chunk = Some 0; doc = 0; flat = [] }) ∷ (record { name = (codes "d"); chunk = Some 0; doc = 0; flat = [] }) ∷ (record { name = (codes "k"); chunk = Some 0; doc = 0; flat = [] }) ∷ []);
  props = (kept_prop (codes "create") ∷ []);
  kept = always_kept;
  classes = [];
  places = [];
  docs = (no_doc ∷ []);
}

inherited_names_run : run checked inherited_names (record { turns = (load 0 ∷ []); replies = ((record { first = []; answer = gives undef }) ∷ (record { first = []; answer = gives undef }) ∷ (record { first = []; answer = gives undef }) ∷ (record { first = []; answer = gives undef }) ∷ []) }) 40 ≡ record { events = (called (shown_out 0) undef ((stext (codes "7")) ∷ []) ∷ called (shown_out 0) undef ((stext (codes "c")) ∷ []) ∷ called (shown_out 0) undef ((stext (codes "a")) ∷ []) ∷ called (shown_out 0) undef ((stext (codes "b")) ∷ []) ∷ ended undef ∷ []); end = finished }
unfolding opened
inherited_names_run = refl

--     var a=[4,5];a['x']=1;for(var k in a)alert(k);
abbrev array_names : Program
array_names = record {
  scopes =
      (record { params = 0; names = 0; own = false; body = stmts ((vars 1001 ((record { site = 1005; variable = (Ref.Global 4); value = Some (list 1007 (exprs ((lit 1008 (whole (pos 4))) ∷ (lit 1010 (whole (pos 5))) ∷ []))) }) ∷ [])) ∷ (simple 1013 (assign 1019 None (to_index 1014 (var 1013 (Ref.Global 4)) (lit 1015 (text (codes "x")))) (lit 1020 (whole (pos 1))))) ∷ (for_in 1022 (in_declared (record { site = 1030; variable = (Ref.Global 5); value = None })) (var 1035 (Ref.Global 4)) (stmts ((simple 1037 (call 1042 (var 1037 (Ref.Global 0)) (exprs ((var 1043 (Ref.Global 5)) ∷ [])))) ∷ []))) ∷ []); parent = None; doc = 0 }) ∷ [];
  chunks = (chunk_of [] ∷ []);
  globals = ((record { name = (codes "alert"); chunk = None; doc = 0; flat = [] }) ∷ (record { name = (codes "Object"); chunk = None; doc = 0; flat = [] }) ∷ (record { name = (codes "Math"); chunk = None; doc = 0; flat = [] }) ∷ (record { name = (codes "String"); chunk = None; doc = 0; flat = [] }) ∷ (record { name = (codes "a"); chunk = Some 0; doc = 0; flat = [] }) ∷ (record { name = (codes "k"); chunk = Some 0; doc = 0; flat = [] }) ∷ []);
  props = [];
  kept = always_kept;
  classes = [];
  places = [];
  docs = (no_doc ∷ []);
}

array_names_run : run checked array_names (record { turns = (load 0 ∷ []); replies = ((record { first = []; answer = gives undef }) ∷ (record { first = []; answer = gives undef }) ∷ (record { first = []; answer = gives undef }) ∷ []) }) 40 ≡ record { events = (called (shown_out 0) undef ((stext (codes "0")) ∷ []) ∷ called (shown_out 0) undef ((stext (codes "1")) ∷ []) ∷ called (shown_out 0) undef ((stext (codes "x")) ∷ []) ∷ ended undef ∷ []); end = finished }
unfolding opened
array_names_run = refl

--     for(var k in null)alert(k);for(k in undefined)alert(k);alert(1);for(k in 5)alert(k);
abbrev no_names : Program
no_names = record {
  scopes =
      (record { params = 0; names = 0; own = false; body = stmts ((for_in 1001 (in_declared (record { site = 1009; variable = (Ref.Global 4); value = None })) (lit 1014 null) (stmts ((simple 1019 (call 1024 (var 1019 (Ref.Global 0)) (exprs ((var 1025 (Ref.Global 4)) ∷ [])))) ∷ []))) ∷ (for_in 1028 (in_target (to_var 1032 (Ref.Global 4))) (lit 1037 undefined) (stmts ((simple 1047 (call 1052 (var 1047 (Ref.Global 0)) (exprs ((var 1053 (Ref.Global 4)) ∷ [])))) ∷ []))) ∷ (simple 1056 (call 1061 (var 1056 (Ref.Global 0)) (exprs ((lit 1062 (whole (pos 1))) ∷ [])))) ∷ (for_in 1065 (in_target (to_var 1069 (Ref.Global 4))) (lit 1074 (whole (pos 5))) (stmts ((simple 1076 (call 1081 (var 1076 (Ref.Global 0)) (exprs ((var 1082 (Ref.Global 4)) ∷ [])))) ∷ []))) ∷ []); parent = None; doc = 0 }) ∷ [];
  chunks = (chunk_of [] ∷ []);
  globals = ((record { name = (codes "alert"); chunk = None; doc = 0; flat = [] }) ∷ (record { name = (codes "Object"); chunk = None; doc = 0; flat = [] }) ∷ (record { name = (codes "Math"); chunk = None; doc = 0; flat = [] }) ∷ (record { name = (codes "String"); chunk = None; doc = 0; flat = [] }) ∷ (record { name = (codes "k"); chunk = Some 0; doc = 0; flat = [] }) ∷ []);
  props = [];
  kept = always_kept;
  classes = [];
  places = [];
  docs = (no_doc ∷ []);
}

no_names_run : run checked no_names (record { turns = (load 0 ∷ []); replies = ((record { first = []; answer = gives undef }) ∷ []) }) 40 ≡ record { events = (called (shown_out 0) undef ((shown_prim (whole (pos 1))) ∷ []) ∷ []); end = stopped (broken 2 (at_site 1065)) }
unfolding opened
no_names_run = refl

--     function f(){}f['a']=1;for(var k in f)alert(k);
abbrev function_names_hidden : Program
function_names_hidden = record {
  scopes =
      (record { params = 0; names = 0; own = false; body = stmts ((fun_decl 1001 (Ref.Global 4) 1) ∷ (simple 1015 (assign 1021 None (to_index 1016 (var 1015 (Ref.Global 4)) (lit 1017 (text (codes "a")))) (lit 1022 (whole (pos 1))))) ∷ (for_in 1024 (in_declared (record { site = 1032; variable = (Ref.Global 5); value = None })) (var 1037 (Ref.Global 4)) (stmts ((simple 1039 (call 1044 (var 1039 (Ref.Global 0)) (exprs ((var 1045 (Ref.Global 5)) ∷ [])))) ∷ []))) ∷ []); parent = None; doc = 0 })
      ∷ (record { params = 0; names = 0; own = false; body = stmts []; parent = None; doc = 0 }) ∷ [];
  chunks = (chunk_of [] ∷ []);
  globals = ((record { name = (codes "alert"); chunk = None; doc = 0; flat = [] }) ∷ (record { name = (codes "Object"); chunk = None; doc = 0; flat = [] }) ∷ (record { name = (codes "Math"); chunk = None; doc = 0; flat = [] }) ∷ (record { name = (codes "String"); chunk = None; doc = 0; flat = [] }) ∷ (record { name = (codes "f"); chunk = Some 0; doc = 0; flat = [] }) ∷ (record { name = (codes "k"); chunk = Some 0; doc = 0; flat = [] }) ∷ []);
  props = [];
  kept = always_kept;
  classes = [];
  places = [];
  docs = (no_doc ∷ []);
}

function_names_hidden_run : run checked function_names_hidden (record { turns = (load 0 ∷ []); replies = ((record { first = []; answer = gives undef }) ∷ []) }) 40 ≡ record { events = (called (shown_out 0) undef ((stext (codes "a")) ∷ []) ∷ ended undef ∷ []); end = finished }
unfolding opened
function_names_hidden_run = refl

--     var o={'toString':1};for(var k in o)alert(k);
abbrev standard_name : Program
standard_name = record {
  scopes =
      (record { params = 0; names = 0; own = false; body = stmts ((vars 1001 ((record { site = 1005; variable = (Ref.Global 4); value = Some (object 1007 (fields ((Key.Quoted (codes "toString"), (lit 1019 (whole (pos 1)))) ∷ []))) }) ∷ [])) ∷ (for_in 1022 (in_declared (record { site = 1030; variable = (Ref.Global 5); value = None })) (var 1035 (Ref.Global 4)) (stmts ((simple 1037 (call 1042 (var 1037 (Ref.Global 0)) (exprs ((var 1043 (Ref.Global 5)) ∷ [])))) ∷ []))) ∷ []); parent = None; doc = 0 }) ∷ [];
  chunks = (chunk_of [] ∷ []);
  globals = ((record { name = (codes "alert"); chunk = None; doc = 0; flat = [] }) ∷ (record { name = (codes "Object"); chunk = None; doc = 0; flat = [] }) ∷ (record { name = (codes "Math"); chunk = None; doc = 0; flat = [] }) ∷ (record { name = (codes "String"); chunk = None; doc = 0; flat = [] }) ∷ (record { name = (codes "o"); chunk = Some 0; doc = 0; flat = [] }) ∷ (record { name = (codes "k"); chunk = Some 0; doc = 0; flat = [] }) ∷ []);
  props = [];
  kept = always_kept;
  classes = [];
  places = [];
  docs = (no_doc ∷ []);
}

standard_name_run : run checked standard_name (record { turns = (load 0 ∷ []); replies = [] }) 40 ≡ record { events = []; end = stopped (broken 9 (at_site 1022)) }
unfolding opened
standard_name_run = refl

--     alert(f());function f(){return g();}function g(){return 1;}
abbrev bound_before : Program
bound_before = record {
  scopes =
      (record { params = 0; names = 0; own = false; body = stmts ((simple 1001 (call 1006 (var 1001 (Ref.Global 0)) (exprs ((call 1008 (var 1007 (Ref.Global 4)) (exprs [])) ∷ [])))) ∷ (fun_decl 1012 (Ref.Global 4) 1) ∷ (fun_decl 1037 (Ref.Global 5) 2) ∷ []); parent = None; doc = 0 })
      ∷ (record { params = 0; names = 0; own = false; body = stmts ((return 1025 (Some (call 1033 (var 1032 (Ref.Global 5)) (exprs [])))) ∷ []); parent = None; doc = 0 })
      ∷ (record { params = 0; names = 0; own = false; body = stmts ((return 1050 (Some (lit 1057 (whole (pos 1))))) ∷ []); parent = None; doc = 0 }) ∷ [];
  chunks = (chunk_of [] ∷ []);
  globals = ((record { name = (codes "alert"); chunk = None; doc = 0; flat = [] }) ∷ (record { name = (codes "Object"); chunk = None; doc = 0; flat = [] }) ∷ (record { name = (codes "Math"); chunk = None; doc = 0; flat = [] }) ∷ (record { name = (codes "String"); chunk = None; doc = 0; flat = [] }) ∷ (record { name = (codes "f"); chunk = Some 0; doc = 0; flat = [] }) ∷ (record { name = (codes "g"); chunk = Some 0; doc = 0; flat = [] }) ∷ []);
  props = [];
  kept = always_kept;
  classes = [];
  places = [];
  docs = (no_doc ∷ []);
}

bound_before_run : run checked bound_before (record { turns = (load 0 ∷ []); replies = ((record { first = []; answer = gives undef }) ∷ []) }) 40 ≡ record { events = (called (shown_out 0) undef ((shown_prim (whole (pos 1))) ∷ []) ∷ ended undef ∷ []); end = finished }
unfolding opened
bound_before_run = refl

--     function f(){return h();function h(){return 4;}}alert(f());
abbrev bound_in_body : Program
bound_in_body = record {
  scopes =
      (record { params = 0; names = 0; own = false; body = stmts ((fun_decl 1001 (Ref.Global 4) 1) ∷ (simple 1049 (call 1054 (var 1049 (Ref.Global 0)) (exprs ((call 1056 (var 1055 (Ref.Global 4)) (exprs [])) ∷ [])))) ∷ []); parent = None; doc = 0 })
      ∷ (record { params = 0; names = 1; own = false; body = stmts ((return 1014 (Some (call 1022 (var 1021 (Ref.Frame 0 0)) (exprs [])))) ∷ (fun_decl 1025 (Ref.Frame 0 0) 2) ∷ []); parent = None; doc = 0 })
      ∷ (record { params = 0; names = 0; own = false; body = stmts ((return 1038 (Some (lit 1045 (whole (pos 4))))) ∷ []); parent = None; doc = 0 }) ∷ [];
  chunks = (chunk_of [] ∷ []);
  globals = ((record { name = (codes "alert"); chunk = None; doc = 0; flat = [] }) ∷ (record { name = (codes "Object"); chunk = None; doc = 0; flat = [] }) ∷ (record { name = (codes "Math"); chunk = None; doc = 0; flat = [] }) ∷ (record { name = (codes "String"); chunk = None; doc = 0; flat = [] }) ∷ (record { name = (codes "f"); chunk = Some 0; doc = 0; flat = [] }) ∷ []);
  props = [];
  kept = always_kept;
  classes = [];
  places = [];
  docs = (no_doc ∷ []);
}

bound_in_body_run : run checked bound_in_body (record { turns = (load 0 ∷ []); replies = ((record { first = []; answer = gives undef }) ∷ []) }) 40 ≡ record { events = (called (shown_out 0) undef ((shown_prim (whole (pos 4))) ∷ []) ∷ ended undef ∷ []); end = finished }
unfolding opened
bound_in_body_run = refl

--     var o={},n=0;for(o['k'+n++] in {'x':1,'y':2});alert(o['k0']);alert(o['k1']);
abbrev target_each_turn : Program
target_each_turn = record {
  scopes =
      (record { params = 0; names = 0; own = false; body = stmts ((vars 1001 ((record { site = 1005; variable = (Ref.Global 4); value = Some (object 1007 (fields [])) }) ∷ (record { site = 1010; variable = (Ref.Global 5); value = Some (lit 1012 (whole (pos 0))) }) ∷ [])) ∷ (for_in 1014 (in_target (to_index 1019 (var 1018 (Ref.Global 4)) (binary 1023 Add (lit 1020 (text (codes "k"))) (step 1025 true false (to_var 1024 (Ref.Global 5)))))) (object 1032 (fields ((Key.Quoted (codes "x"), (lit 1037 (whole (pos 1)))) ∷ (Key.Quoted (codes "y"), (lit 1043 (whole (pos 2)))) ∷ []))) (stmts [])) ∷ (simple 1047 (call 1052 (var 1047 (Ref.Global 0)) (exprs ((index 1054 (var 1053 (Ref.Global 4)) (lit 1055 (text (codes "k0")))) ∷ [])))) ∷ (simple 1062 (call 1067 (var 1062 (Ref.Global 0)) (exprs ((index 1069 (var 1068 (Ref.Global 4)) (lit 1070 (text (codes "k1")))) ∷ [])))) ∷ []); parent = None; doc = 0 }) ∷ [];
  chunks = (chunk_of [] ∷ []);
  globals = ((record { name = (codes "alert"); chunk = None; doc = 0; flat = [] }) ∷ (record { name = (codes "Object"); chunk = None; doc = 0; flat = [] }) ∷ (record { name = (codes "Math"); chunk = None; doc = 0; flat = [] }) ∷ (record { name = (codes "String"); chunk = None; doc = 0; flat = [] }) ∷ (record { name = (codes "o"); chunk = Some 0; doc = 0; flat = [] }) ∷ (record { name = (codes "n"); chunk = Some 0; doc = 0; flat = [] }) ∷ []);
  props = [];
  kept = always_kept;
  classes = [];
  places = [];
  docs = (no_doc ∷ []);
}

target_each_turn_run : run checked target_each_turn (record { turns = (load 0 ∷ []); replies = ((record { first = []; answer = gives undef }) ∷ (record { first = []; answer = gives undef }) ∷ []) }) 40 ≡ record { events = (called (shown_out 0) undef ((stext (codes "x")) ∷ []) ∷ called (shown_out 0) undef ((stext (codes "y")) ∷ []) ∷ ended undef ∷ []); end = finished }
unfolding opened
target_each_turn_run = refl

-- Uses of what is built in.
use Rattle.std.specs.Prelude.{◌≡◌, refl, pos, negsuc, true, false, [], ◌∷◌, Some, None, codes}
use Rattle.cc_ast.specs.Syntax.{Prim, null, truth, whole, text, lit, var, fun, list, object, unary, binary, assign, member, index, call, to_member, to_index, simple, vars, return, Program}
use Rattle.cc_ast.specs.declared.operator.BinOp.TheVariants.{Add, Has}
use Rattle.cc_ast.specs.declared.operator.UnOp.TheVariants.{Delete}
use Rattle.cc_ast.specs.declared.tree.Ref.{Ref}
use Rattle.cc_ast.specs.declared.tree.Key.{Key}
use Rattle.cc_meaning.specs.Values.{shown_prim, shown_out, called, ended, at_site}
use Rattle.cc_meaning.specs.State.{gives}
use Rattle.cc_meaning.specs.Monad.{broken}
use Rattle.cc_meaning.specs.Names.{always_kept}
use Rattle.cc_meaning.specs.Script.{load, run, checked, finished, stopped}
use Rattle.cc_meaning.proofs.Opened.{opened}
use Rattle.cc_meaning.proofs.Trees.{exprs, fields, stmts, no_doc, chunk_of, prop, kept_prop, undef, stext}

--     var a=[1];delete a[0];
abbrev delete_element : Program
delete_element = record {
  scopes =
      (record { params = 0; names = 0; own = false; body = stmts ((vars 1001 ((record { site = 1005; variable = (Ref.Global 4); value = Some (list 1007 (exprs ((lit 1008 (whole (pos 1))) ∷ []))) }) ∷ [])) ∷ (simple 1011 (unary 1011 Delete (index 1019 (var 1018 (Ref.Global 4)) (lit 1020 (whole (pos 0)))))) ∷ []); parent = None; doc = 0 }) ∷ [];
  chunks = (chunk_of [] ∷ []);
  globals = ((record { name = (codes "alert"); chunk = None; doc = 0; flat = [] }) ∷ (record { name = (codes "Object"); chunk = None; doc = 0; flat = [] }) ∷ (record { name = (codes "Math"); chunk = None; doc = 0; flat = [] }) ∷ (record { name = (codes "String"); chunk = None; doc = 0; flat = [] }) ∷ (record { name = (codes "a"); chunk = Some 0; doc = 0; flat = [] }) ∷ []);
  props = [];
  kept = always_kept;
  classes = [];
  places = [];
  docs = (no_doc ∷ []);
}

delete_element_run : run checked delete_element (record { turns = (load 0 ∷ []); replies = [] }) 40 ≡ record { events = []; end = stopped (broken 2 (at_site 1019)) }
unfolding opened
delete_element_run = refl

--     var a=[1,2];alert(a.push(3));alert(a.length);alert(a.join('-'));alert(a.pop());alert(a.slice(-1)[0]);alert(a.concat([7],a).join());alert(a.indexOf(2));alert(a[5]);
abbrev arrays : Program
arrays = record {
  scopes =
      (record { params = 0; names = 0; own = false; body = stmts ((vars 1001 ((record { site = 1005; variable = (Ref.Global 4); value = Some (list 1007 (exprs ((lit 1008 (whole (pos 1))) ∷ (lit 1010 (whole (pos 2))) ∷ []))) }) ∷ [])) ∷ (simple 1013 (call 1018 (var 1013 (Ref.Global 0)) (exprs ((call 1025 (member 1020 (var 1019 (Ref.Global 4)) 0) (exprs ((lit 1026 (whole (pos 3))) ∷ []))) ∷ [])))) ∷ (simple 1030 (call 1035 (var 1030 (Ref.Global 0)) (exprs ((member 1037 (var 1036 (Ref.Global 4)) 1) ∷ [])))) ∷ (simple 1046 (call 1051 (var 1046 (Ref.Global 0)) (exprs ((call 1058 (member 1053 (var 1052 (Ref.Global 4)) 2) (exprs ((lit 1059 (text (codes "-"))) ∷ []))) ∷ [])))) ∷ (simple 1065 (call 1070 (var 1065 (Ref.Global 0)) (exprs ((call 1076 (member 1072 (var 1071 (Ref.Global 4)) 3) (exprs [])) ∷ [])))) ∷ (simple 1080 (call 1085 (var 1080 (Ref.Global 0)) (exprs ((index 1097 (call 1093 (member 1087 (var 1086 (Ref.Global 4)) 4) (exprs ((lit 1094 (whole (negsuc 0))) ∷ []))) (lit 1098 (whole (pos 0)))) ∷ [])))) ∷ (simple 1102 (call 1107 (var 1102 (Ref.Global 0)) (exprs ((call 1128 (member 1123 (call 1116 (member 1109 (var 1108 (Ref.Global 4)) 5) (exprs ((list 1117 (exprs ((lit 1118 (whole (pos 7))) ∷ []))) ∷ (var 1121 (Ref.Global 4)) ∷ []))) 2) (exprs [])) ∷ [])))) ∷ (simple 1132 (call 1137 (var 1132 (Ref.Global 0)) (exprs ((call 1147 (member 1139 (var 1138 (Ref.Global 4)) 6) (exprs ((lit 1148 (whole (pos 2))) ∷ []))) ∷ [])))) ∷ (simple 1152 (call 1157 (var 1152 (Ref.Global 0)) (exprs ((index 1159 (var 1158 (Ref.Global 4)) (lit 1160 (whole (pos 5)))) ∷ [])))) ∷ []); parent = None; doc = 0 }) ∷ [];
  chunks = (chunk_of [] ∷ []);
  globals = ((record { name = (codes "alert"); chunk = None; doc = 0; flat = [] }) ∷ (record { name = (codes "Object"); chunk = None; doc = 0; flat = [] }) ∷ (record { name = (codes "Math"); chunk = None; doc = 0; flat = [] }) ∷ (record { name = (codes "String"); chunk = None; doc = 0; flat = [] }) ∷ (record { name = (codes "a"); chunk = Some 0; doc = 0; flat = [] }) ∷ []);
  props = (kept_prop (codes "push") ∷ kept_prop (codes "length") ∷ kept_prop (codes "join") ∷ kept_prop (codes "pop") ∷ kept_prop (codes "slice") ∷ kept_prop (codes "concat") ∷ kept_prop (codes "indexOf") ∷ []);
  kept = always_kept;
  classes = [];
  places = [];
  docs = (no_doc ∷ []);
}

arrays_run : run checked arrays (record { turns = (load 0 ∷ []); replies = ((record { first = []; answer = gives undef }) ∷ (record { first = []; answer = gives undef }) ∷ (record { first = []; answer = gives undef }) ∷ (record { first = []; answer = gives undef }) ∷ (record { first = []; answer = gives undef }) ∷ (record { first = []; answer = gives undef }) ∷ (record { first = []; answer = gives undef }) ∷ (record { first = []; answer = gives undef }) ∷ []) }) 40 ≡ record { events = (called (shown_out 0) undef ((shown_prim (whole (pos 3))) ∷ []) ∷ called (shown_out 0) undef ((shown_prim (whole (pos 3))) ∷ []) ∷ called (shown_out 0) undef ((stext (codes "1-2-3")) ∷ []) ∷ called (shown_out 0) undef ((shown_prim (whole (pos 3))) ∷ []) ∷ called (shown_out 0) undef ((shown_prim (whole (pos 2))) ∷ []) ∷ called (shown_out 0) undef ((stext (codes "1,2,7,1,2")) ∷ []) ∷ called (shown_out 0) undef ((shown_prim (whole (pos 1))) ∷ []) ∷ called (shown_out 0) undef (undef ∷ []) ∷ ended undef ∷ []); end = finished }
unfolding opened
arrays_run = refl

--     var a=[1];a[1]=2;alert(a.length);a[3]=1;
abbrev array_beyond : Program
array_beyond = record {
  scopes =
      (record { params = 0; names = 0; own = false; body = stmts ((vars 1001 ((record { site = 1005; variable = (Ref.Global 4); value = Some (list 1007 (exprs ((lit 1008 (whole (pos 1))) ∷ []))) }) ∷ [])) ∷ (simple 1011 (assign 1015 None (to_index 1012 (var 1011 (Ref.Global 4)) (lit 1013 (whole (pos 1)))) (lit 1016 (whole (pos 2))))) ∷ (simple 1018 (call 1023 (var 1018 (Ref.Global 0)) (exprs ((member 1025 (var 1024 (Ref.Global 4)) 0) ∷ [])))) ∷ (simple 1034 (assign 1038 None (to_index 1035 (var 1034 (Ref.Global 4)) (lit 1036 (whole (pos 3)))) (lit 1039 (whole (pos 1))))) ∷ []); parent = None; doc = 0 }) ∷ [];
  chunks = (chunk_of [] ∷ []);
  globals = ((record { name = (codes "alert"); chunk = None; doc = 0; flat = [] }) ∷ (record { name = (codes "Object"); chunk = None; doc = 0; flat = [] }) ∷ (record { name = (codes "Math"); chunk = None; doc = 0; flat = [] }) ∷ (record { name = (codes "String"); chunk = None; doc = 0; flat = [] }) ∷ (record { name = (codes "a"); chunk = Some 0; doc = 0; flat = [] }) ∷ []);
  props = (kept_prop (codes "length") ∷ []);
  kept = always_kept;
  classes = [];
  places = [];
  docs = (no_doc ∷ []);
}

array_beyond_run : run checked array_beyond (record { turns = (load 0 ∷ []); replies = ((record { first = []; answer = gives undef }) ∷ []) }) 40 ≡ record { events = (called (shown_out 0) undef ((shown_prim (whole (pos 2))) ∷ []) ∷ []); end = stopped (broken 2 (at_site 1035)) }
unfolding opened
array_beyond_run = refl

--     var a=[1];a.length=0;
abbrev array_length_write : Program
array_length_write = record {
  scopes =
      (record { params = 0; names = 0; own = false; body = stmts ((vars 1001 ((record { site = 1005; variable = (Ref.Global 4); value = Some (list 1007 (exprs ((lit 1008 (whole (pos 1))) ∷ []))) }) ∷ [])) ∷ (simple 1011 (assign 1019 None (to_member 1012 (var 1011 (Ref.Global 4)) 0) (lit 1020 (whole (pos 0))))) ∷ []); parent = None; doc = 0 }) ∷ [];
  chunks = (chunk_of [] ∷ []);
  globals = ((record { name = (codes "alert"); chunk = None; doc = 0; flat = [] }) ∷ (record { name = (codes "Object"); chunk = None; doc = 0; flat = [] }) ∷ (record { name = (codes "Math"); chunk = None; doc = 0; flat = [] }) ∷ (record { name = (codes "String"); chunk = None; doc = 0; flat = [] }) ∷ (record { name = (codes "a"); chunk = Some 0; doc = 0; flat = [] }) ∷ []);
  props = (kept_prop (codes "length") ∷ []);
  kept = always_kept;
  classes = [];
  places = [];
  docs = (no_doc ∷ []);
}

array_length_write_run : run checked array_length_write (record { turns = (load 0 ∷ []); replies = [] }) 40 ≡ record { events = []; end = stopped (broken 2 (at_site 1012)) }
unfolding opened
array_length_write_run = refl

--     var a=[1];var f=a.push;
abbrev method_as_value : Program
method_as_value = record {
  scopes =
      (record { params = 0; names = 0; own = false; body = stmts ((vars 1001 ((record { site = 1005; variable = (Ref.Global 4); value = Some (list 1007 (exprs ((lit 1008 (whole (pos 1))) ∷ []))) }) ∷ [])) ∷ (vars 1011 ((record { site = 1015; variable = (Ref.Global 5); value = Some (member 1018 (var 1017 (Ref.Global 4)) 0) }) ∷ [])) ∷ []); parent = None; doc = 0 }) ∷ [];
  chunks = (chunk_of [] ∷ []);
  globals = ((record { name = (codes "alert"); chunk = None; doc = 0; flat = [] }) ∷ (record { name = (codes "Object"); chunk = None; doc = 0; flat = [] }) ∷ (record { name = (codes "Math"); chunk = None; doc = 0; flat = [] }) ∷ (record { name = (codes "String"); chunk = None; doc = 0; flat = [] }) ∷ (record { name = (codes "a"); chunk = Some 0; doc = 0; flat = [] }) ∷ (record { name = (codes "f"); chunk = Some 0; doc = 0; flat = [] }) ∷ []);
  props = (kept_prop (codes "push") ∷ []);
  kept = always_kept;
  classes = [];
  places = [];
  docs = (no_doc ∷ []);
}

method_as_value_run : run checked method_as_value (record { turns = (load 0 ∷ []); replies = [] }) 40 ≡ record { events = []; end = stopped (broken 10 (at_site 1018)) }
unfolding opened
method_as_value_run = refl

--     var a=[1];a['push']=function(x){return x+1;};alert(a.push(3));
abbrev own_method : Program
own_method = record {
  scopes =
      (record { params = 0; names = 0; own = false; body = stmts ((vars 1001 ((record { site = 1005; variable = (Ref.Global 4); value = Some (list 1007 (exprs ((lit 1008 (whole (pos 1))) ∷ []))) }) ∷ [])) ∷ (simple 1011 (assign 1020 None (to_index 1012 (var 1011 (Ref.Global 4)) (lit 1013 (text (codes "push")))) (fun 1021 1))) ∷ (simple 1046 (call 1051 (var 1046 (Ref.Global 0)) (exprs ((call 1058 (member 1053 (var 1052 (Ref.Global 4)) 0) (exprs ((lit 1059 (whole (pos 3))) ∷ []))) ∷ [])))) ∷ []); parent = None; doc = 0 })
      ∷ (record { params = 1; names = 0; own = false; body = stmts ((return 1033 (Some (binary 1041 Add (var 1040 (Ref.Frame 0 0)) (lit 1042 (whole (pos 1)))))) ∷ []); parent = None; doc = 0 }) ∷ [];
  chunks = (chunk_of [] ∷ []);
  globals = ((record { name = (codes "alert"); chunk = None; doc = 0; flat = [] }) ∷ (record { name = (codes "Object"); chunk = None; doc = 0; flat = [] }) ∷ (record { name = (codes "Math"); chunk = None; doc = 0; flat = [] }) ∷ (record { name = (codes "String"); chunk = None; doc = 0; flat = [] }) ∷ (record { name = (codes "a"); chunk = Some 0; doc = 0; flat = [] }) ∷ []);
  props = (kept_prop (codes "push") ∷ []);
  kept = always_kept;
  classes = [];
  places = [];
  docs = (no_doc ∷ []);
}

own_method_run : run checked own_method (record { turns = (load 0 ∷ []); replies = ((record { first = []; answer = gives undef }) ∷ []) }) 40 ≡ record { events = (called (shown_out 0) undef ((shown_prim (whole (pos 4))) ∷ []) ∷ ended undef ∷ []); end = finished }
unfolding opened
own_method_run = refl

--     var t='abc';alert(t.length);alert(t.charAt(1));alert(t.indexOf('c'));alert(t.slice(1));alert(t+1);alert(String(null));alert(String.fromCharCode(104,105));alert(t.charCodeAt(9));
abbrev texts : Program
texts = record {
  scopes =
      (record { params = 0; names = 0; own = false; body = stmts ((vars 1001 ((record { site = 1005; variable = (Ref.Global 4); value = Some (lit 1007 (text (codes "abc"))) }) ∷ [])) ∷ (simple 1013 (call 1018 (var 1013 (Ref.Global 0)) (exprs ((member 1020 (var 1019 (Ref.Global 4)) 0) ∷ [])))) ∷ (simple 1029 (call 1034 (var 1029 (Ref.Global 0)) (exprs ((call 1043 (member 1036 (var 1035 (Ref.Global 4)) 1) (exprs ((lit 1044 (whole (pos 1))) ∷ []))) ∷ [])))) ∷ (simple 1048 (call 1053 (var 1048 (Ref.Global 0)) (exprs ((call 1063 (member 1055 (var 1054 (Ref.Global 4)) 2) (exprs ((lit 1064 (text (codes "c"))) ∷ []))) ∷ [])))) ∷ (simple 1070 (call 1075 (var 1070 (Ref.Global 0)) (exprs ((call 1083 (member 1077 (var 1076 (Ref.Global 4)) 3) (exprs ((lit 1084 (whole (pos 1))) ∷ []))) ∷ [])))) ∷ (simple 1088 (call 1093 (var 1088 (Ref.Global 0)) (exprs ((binary 1095 Add (var 1094 (Ref.Global 4)) (lit 1096 (whole (pos 1)))) ∷ [])))) ∷ (simple 1099 (call 1104 (var 1099 (Ref.Global 0)) (exprs ((call 1111 (var 1105 (Ref.Global 3)) (exprs ((lit 1112 null) ∷ []))) ∷ [])))) ∷ (simple 1119 (call 1124 (var 1119 (Ref.Global 0)) (exprs ((call 1144 (member 1131 (var 1125 (Ref.Global 3)) 4) (exprs ((lit 1145 (whole (pos 104))) ∷ (lit 1149 (whole (pos 105))) ∷ []))) ∷ [])))) ∷ (simple 1155 (call 1160 (var 1155 (Ref.Global 0)) (exprs ((call 1173 (member 1162 (var 1161 (Ref.Global 4)) 5) (exprs ((lit 1174 (whole (pos 9))) ∷ []))) ∷ [])))) ∷ []); parent = None; doc = 0 }) ∷ [];
  chunks = (chunk_of [] ∷ []);
  globals = ((record { name = (codes "alert"); chunk = None; doc = 0; flat = [] }) ∷ (record { name = (codes "Object"); chunk = None; doc = 0; flat = [] }) ∷ (record { name = (codes "Math"); chunk = None; doc = 0; flat = [] }) ∷ (record { name = (codes "String"); chunk = None; doc = 0; flat = [] }) ∷ (record { name = (codes "t"); chunk = Some 0; doc = 0; flat = [] }) ∷ []);
  props = (kept_prop (codes "length") ∷ kept_prop (codes "charAt") ∷ kept_prop (codes "indexOf") ∷ kept_prop (codes "slice") ∷ kept_prop (codes "fromCharCode") ∷ kept_prop (codes "charCodeAt") ∷ []);
  kept = always_kept;
  classes = [];
  places = [];
  docs = (no_doc ∷ []);
}

texts_run : run checked texts (record { turns = (load 0 ∷ []); replies = ((record { first = []; answer = gives undef }) ∷ (record { first = []; answer = gives undef }) ∷ (record { first = []; answer = gives undef }) ∷ (record { first = []; answer = gives undef }) ∷ (record { first = []; answer = gives undef }) ∷ (record { first = []; answer = gives undef }) ∷ (record { first = []; answer = gives undef }) ∷ []) }) 40 ≡ record { events = (called (shown_out 0) undef ((shown_prim (whole (pos 3))) ∷ []) ∷ called (shown_out 0) undef ((stext (codes "b")) ∷ []) ∷ called (shown_out 0) undef ((shown_prim (whole (pos 2))) ∷ []) ∷ called (shown_out 0) undef ((stext (codes "bc")) ∷ []) ∷ called (shown_out 0) undef ((stext (codes "abc1")) ∷ []) ∷ called (shown_out 0) undef ((stext (codes "null")) ∷ []) ∷ called (shown_out 0) undef ((stext (codes "hi")) ∷ []) ∷ []); end = stopped (broken 1 (at_site 1173)) }
unfolding opened
texts_run = refl

--     'abc'.foo;
abbrev text_member : Program
text_member = record {
  scopes =
      (record { params = 0; names = 0; own = false; body = stmts ((simple 1001 (member 1006 (lit 1001 (text (codes "abc"))) 0)) ∷ []); parent = None; doc = 0 }) ∷ [];
  chunks = (chunk_of [] ∷ []);
  globals = ((record { name = (codes "alert"); chunk = None; doc = 0; flat = [] }) ∷ (record { name = (codes "Object"); chunk = None; doc = 0; flat = [] }) ∷ (record { name = (codes "Math"); chunk = None; doc = 0; flat = [] }) ∷ (record { name = (codes "String"); chunk = None; doc = 0; flat = [] }) ∷ []);
  props = (prop (codes "foo") ∷ []);
  kept = always_kept;
  classes = [];
  places = [];
  docs = (no_doc ∷ []);
}

text_member_run : run checked text_member (record { turns = (load 0 ∷ []); replies = [] }) 40 ≡ record { events = []; end = stopped (broken 2 (at_site 1006)) }
unfolding opened
text_member_run = refl

--     alert(Math.max(1,-2,3));alert(Math.abs(-4));
abbrev maths : Program
maths = record {
  scopes =
      (record { params = 0; names = 0; own = false; body = stmts ((simple 1001 (call 1006 (var 1001 (Ref.Global 0)) (exprs ((call 1015 (member 1011 (var 1007 (Ref.Global 2)) 0) (exprs ((lit 1016 (whole (pos 1))) ∷ (lit 1018 (whole (negsuc 1))) ∷ (lit 1021 (whole (pos 3))) ∷ []))) ∷ [])))) ∷ (simple 1025 (call 1030 (var 1025 (Ref.Global 0)) (exprs ((call 1039 (member 1035 (var 1031 (Ref.Global 2)) 1) (exprs ((lit 1040 (whole (negsuc 3))) ∷ []))) ∷ [])))) ∷ []); parent = None; doc = 0 }) ∷ [];
  chunks = (chunk_of [] ∷ []);
  globals = ((record { name = (codes "alert"); chunk = None; doc = 0; flat = [] }) ∷ (record { name = (codes "Object"); chunk = None; doc = 0; flat = [] }) ∷ (record { name = (codes "Math"); chunk = None; doc = 0; flat = [] }) ∷ (record { name = (codes "String"); chunk = None; doc = 0; flat = [] }) ∷ []);
  props = (kept_prop (codes "max") ∷ kept_prop (codes "abs") ∷ []);
  kept = always_kept;
  classes = [];
  places = [];
  docs = (no_doc ∷ []);
}

maths_run : run checked maths (record { turns = (load 0 ∷ []); replies = ((record { first = []; answer = gives undef }) ∷ (record { first = []; answer = gives undef }) ∷ []) }) 40 ≡ record { events = (called (shown_out 0) undef ((shown_prim (whole (pos 3))) ∷ []) ∷ called (shown_out 0) undef ((shown_prim (whole (pos 4))) ∷ []) ∷ ended undef ∷ []); end = finished }
unfolding opened
maths_run = refl

--     var p={'a':1};var d=Object.create(p);d['b']=2;alert(d.hasOwnProperty('b'));alert(d.hasOwnProperty('a'));alert('a' in d);
abbrev has_own : Program
has_own = record {
  scopes =
      (record { params = 0; names = 0; own = false; body = stmts ((vars 1001 ((record { site = 1005; variable = (Ref.Global 4); value = Some (object 1007 (fields ((Key.Quoted (codes "a"), (lit 1012 (whole (pos 1)))) ∷ []))) }) ∷ [])) ∷ (vars 1015 ((record { site = 1019; variable = (Ref.Global 5); value = Some (call 1034 (member 1027 (var 1021 (Ref.Global 1)) 0) (exprs ((var 1035 (Ref.Global 4)) ∷ []))) }) ∷ [])) ∷ (simple 1038 (assign 1044 None (to_index 1039 (var 1038 (Ref.Global 5)) (lit 1040 (text (codes "b")))) (lit 1045 (whole (pos 2))))) ∷ (simple 1047 (call 1052 (var 1047 (Ref.Global 0)) (exprs ((call 1069 (member 1054 (var 1053 (Ref.Global 5)) 1) (exprs ((lit 1070 (text (codes "b"))) ∷ []))) ∷ [])))) ∷ (simple 1076 (call 1081 (var 1076 (Ref.Global 0)) (exprs ((call 1098 (member 1083 (var 1082 (Ref.Global 5)) 1) (exprs ((lit 1099 (text (codes "a"))) ∷ []))) ∷ [])))) ∷ (simple 1105 (call 1110 (var 1105 (Ref.Global 0)) (exprs ((binary 1115 Has (lit 1111 (text (codes "a"))) (var 1118 (Ref.Global 5))) ∷ [])))) ∷ []); parent = None; doc = 0 }) ∷ [];
  chunks = (chunk_of [] ∷ []);
  globals = ((record { name = (codes "alert"); chunk = None; doc = 0; flat = [] }) ∷ (record { name = (codes "Object"); chunk = None; doc = 0; flat = [] }) ∷ (record { name = (codes "Math"); chunk = None; doc = 0; flat = [] }) ∷ (record { name = (codes "String"); chunk = None; doc = 0; flat = [] }) ∷ (record { name = (codes "p"); chunk = Some 0; doc = 0; flat = [] }) ∷ (record { name = (codes "d"); chunk = Some 0; doc = 0; flat = [] }) ∷ []);
  props = (kept_prop (codes "create") ∷ kept_prop (codes "hasOwnProperty") ∷ []);
  kept = always_kept;
  classes = [];
  places = [];
  docs = (no_doc ∷ []);
}

has_own_run : run checked has_own (record { turns = (load 0 ∷ []); replies = ((record { first = []; answer = gives undef }) ∷ (record { first = []; answer = gives undef }) ∷ (record { first = []; answer = gives undef }) ∷ []) }) 40 ≡ record { events = (called (shown_out 0) undef ((shown_prim (truth true)) ∷ []) ∷ called (shown_out 0) undef ((shown_prim (truth false)) ∷ []) ∷ called (shown_out 0) undef ((shown_prim (truth true)) ∷ []) ∷ ended undef ∷ []); end = finished }
unfolding opened
has_own_run = refl

--     var o={};alert(o.valueOf);
abbrev standard_read : Program
standard_read = record {
  scopes =
      (record { params = 0; names = 0; own = false; body = stmts ((vars 1001 ((record { site = 1005; variable = (Ref.Global 4); value = Some (object 1007 (fields [])) }) ∷ [])) ∷ (simple 1010 (call 1015 (var 1010 (Ref.Global 0)) (exprs ((member 1017 (var 1016 (Ref.Global 4)) 0) ∷ [])))) ∷ []); parent = None; doc = 0 }) ∷ [];
  chunks = (chunk_of [] ∷ []);
  globals = ((record { name = (codes "alert"); chunk = None; doc = 0; flat = [] }) ∷ (record { name = (codes "Object"); chunk = None; doc = 0; flat = [] }) ∷ (record { name = (codes "Math"); chunk = None; doc = 0; flat = [] }) ∷ (record { name = (codes "String"); chunk = None; doc = 0; flat = [] }) ∷ (record { name = (codes "o"); chunk = Some 0; doc = 0; flat = [] }) ∷ []);
  props = (kept_prop (codes "valueOf") ∷ []);
  kept = always_kept;
  classes = [];
  places = [];
  docs = (no_doc ∷ []);
}

standard_read_run : run checked standard_read (record { turns = (load 0 ∷ []); replies = [] }) 40 ≡ record { events = []; end = stopped (broken 10 (at_site 1017)) }
unfolding opened
standard_read_run = refl

--     var o={};o.valueOf=1;alert(o.valueOf);
abbrev standard_slot : Program
standard_slot = record {
  scopes =
      (record { params = 0; names = 0; own = false; body = stmts ((vars 1001 ((record { site = 1005; variable = (Ref.Global 4); value = Some (object 1007 (fields [])) }) ∷ [])) ∷ (simple 1010 (assign 1019 None (to_member 1011 (var 1010 (Ref.Global 4)) 0) (lit 1020 (whole (pos 1))))) ∷ (simple 1022 (call 1027 (var 1022 (Ref.Global 0)) (exprs ((member 1029 (var 1028 (Ref.Global 4)) 0) ∷ [])))) ∷ []); parent = None; doc = 0 }) ∷ [];
  chunks = (chunk_of [] ∷ []);
  globals = ((record { name = (codes "alert"); chunk = None; doc = 0; flat = [] }) ∷ (record { name = (codes "Object"); chunk = None; doc = 0; flat = [] }) ∷ (record { name = (codes "Math"); chunk = None; doc = 0; flat = [] }) ∷ (record { name = (codes "String"); chunk = None; doc = 0; flat = [] }) ∷ (record { name = (codes "o"); chunk = Some 0; doc = 0; flat = [] }) ∷ []);
  props = (kept_prop (codes "valueOf") ∷ []);
  kept = always_kept;
  classes = [];
  places = [];
  docs = (no_doc ∷ []);
}

standard_slot_run : run checked standard_slot (record { turns = (load 0 ∷ []); replies = ((record { first = []; answer = gives undef }) ∷ []) }) 40 ≡ record { events = (called (shown_out 0) undef ((shown_prim (whole (pos 1))) ∷ []) ∷ ended undef ∷ []); end = finished }
unfolding opened
standard_slot_run = refl

--     var o={};o['__proto__']=1;
abbrev proto_write : Program
proto_write = record {
  scopes =
      (record { params = 0; names = 0; own = false; body = stmts ((vars 1001 ((record { site = 1005; variable = (Ref.Global 4); value = Some (object 1007 (fields [])) }) ∷ [])) ∷ (simple 1010 (assign 1024 None (to_index 1011 (var 1010 (Ref.Global 4)) (lit 1012 (text (codes "__proto__")))) (lit 1025 (whole (pos 1))))) ∷ []); parent = None; doc = 0 }) ∷ [];
  chunks = (chunk_of [] ∷ []);
  globals = ((record { name = (codes "alert"); chunk = None; doc = 0; flat = [] }) ∷ (record { name = (codes "Object"); chunk = None; doc = 0; flat = [] }) ∷ (record { name = (codes "Math"); chunk = None; doc = 0; flat = [] }) ∷ (record { name = (codes "String"); chunk = None; doc = 0; flat = [] }) ∷ (record { name = (codes "o"); chunk = Some 0; doc = 0; flat = [] }) ∷ []);
  props = [];
  kept = always_kept;
  classes = [];
  places = [];
  docs = (no_doc ∷ []);
}

proto_write_run : run checked proto_write (record { turns = (load 0 ∷ []); replies = [] }) 40 ≡ record { events = []; end = stopped (broken 2 (at_site 1011)) }
unfolding opened
proto_write_run = refl

-- Programs that broke no rule, and were yet rewritten wrongly, until the rules were mended.
use Rattle.std.specs.Prelude.{◌≡◌, refl, pos, false, [], ◌∷◌, ◌++◌, Some, None, codes}
use Rattle.cc_ast.specs.Syntax.{Prim, whole, text, lit, var, this, fun, list, object, unary, assign, member, index, call, to_var, to_member, to_index, in_declared, simple, vars, fun_decl, for_in, return, Program}
use Rattle.cc_ast.specs.declared.operator.UnOp.TheVariants.{Delete}
use Rattle.cc_ast.specs.declared.tree.Ref.{Ref}
use Rattle.cc_ast.specs.declared.tree.Key.{Key}
use Rattle.cc_meaning.specs.Values.{shown_prim, shown_out, called, ended, at_site}
use Rattle.cc_meaning.specs.State.{gives}
use Rattle.cc_meaning.specs.Monad.{broken}
use Rattle.cc_meaning.specs.Names.{always_kept}
use Rattle.cc_meaning.specs.Script.{load, run, checked, finished, stopped}
use Rattle.cc_meaning.proofs.Opened.{opened}
use Rattle.cc_meaning.proofs.Trees.{exprs, fields, stmts, no_doc, chunk_of, prop, kept_prop, undef, stext}

--     var o={'x':1,'y':2};for(var k in o){delete o['y'];o.y=5;alert(k);}
abbrev gone_name : Program
gone_name = record {
  scopes =
      (record { params = 0; names = 0; own = false; body = stmts ((vars 1001 ((record { site = 1005; variable = (Ref.Global 4); value = Some (object 1007 (fields ((Key.Quoted (codes "x"), (lit 1012 (whole (pos 1)))) ∷ (Key.Quoted (codes "y"), (lit 1018 (whole (pos 2)))) ∷ []))) }) ∷ [])) ∷ (for_in 1021 (in_declared (record { site = 1029; variable = (Ref.Global 5); value = None })) (var 1034 (Ref.Global 4)) (stmts ((simple 1037 (unary 1037 Delete (index 1045 (var 1044 (Ref.Global 4)) (lit 1046 (text (codes "y")))))) ∷ (simple 1051 (assign 1054 None (to_member 1052 (var 1051 (Ref.Global 4)) 0) (lit 1055 (whole (pos 5))))) ∷ (simple 1057 (call 1062 (var 1057 (Ref.Global 0)) (exprs ((var 1063 (Ref.Global 5)) ∷ [])))) ∷ []))) ∷ []); parent = None; doc = 0 }) ∷ [];
  chunks = (chunk_of [] ∷ []);
  globals = ((record { name = (codes "alert"); chunk = None; doc = 0; flat = [] }) ∷ (record { name = (codes "Object"); chunk = None; doc = 0; flat = [] }) ∷ (record { name = (codes "Math"); chunk = None; doc = 0; flat = [] }) ∷ (record { name = (codes "String"); chunk = None; doc = 0; flat = [] }) ∷ (record { name = (codes "o"); chunk = Some 0; doc = 0; flat = [] }) ∷ (record { name = (codes "k"); chunk = Some 0; doc = 0; flat = [] }) ∷ []);
  props = (prop (codes "y") ∷ []);
  kept = always_kept;
  classes = [];
  places = [];
  docs = (no_doc ∷ []);
}

-- the test whether a name is still there is an act of its own
gone_name_run : run checked gone_name (record { turns = (load 0 ∷ []); replies = ((record { first = []; answer = gives undef }) ∷ []) }) 40 ≡ record { events = (called (shown_out 0) undef ((stext (codes "x")) ∷ []) ∷ []); end = stopped (broken 8 (at_site 1021)) }
unfolding opened
gone_name_run = refl

--     var p={};p.a=2;var d=Object.create(p);d['a']=1;for(var k in d)alert(k);
abbrev shadowed_name : Program
shadowed_name = record {
  scopes =
      (record { params = 0; names = 0; own = false; body = stmts ((vars 1001 ((record { site = 1005; variable = (Ref.Global 4); value = Some (object 1007 (fields [])) }) ∷ [])) ∷ (simple 1010 (assign 1013 None (to_member 1011 (var 1010 (Ref.Global 4)) 0) (lit 1014 (whole (pos 2))))) ∷ (vars 1016 ((record { site = 1020; variable = (Ref.Global 5); value = Some (call 1035 (member 1028 (var 1022 (Ref.Global 1)) 1) (exprs ((var 1036 (Ref.Global 4)) ∷ []))) }) ∷ [])) ∷ (simple 1039 (assign 1045 None (to_index 1040 (var 1039 (Ref.Global 5)) (lit 1041 (text (codes "a")))) (lit 1046 (whole (pos 1))))) ∷ (for_in 1048 (in_declared (record { site = 1056; variable = (Ref.Global 6); value = None })) (var 1061 (Ref.Global 5)) (stmts ((simple 1063 (call 1068 (var 1063 (Ref.Global 0)) (exprs ((var 1069 (Ref.Global 6)) ∷ [])))) ∷ []))) ∷ []); parent = None; doc = 0 }) ∷ [];
  chunks = (chunk_of [] ∷ []);
  globals = ((record { name = (codes "alert"); chunk = None; doc = 0; flat = [] }) ∷ (record { name = (codes "Object"); chunk = None; doc = 0; flat = [] }) ∷ (record { name = (codes "Math"); chunk = None; doc = 0; flat = [] }) ∷ (record { name = (codes "String"); chunk = None; doc = 0; flat = [] }) ∷ (record { name = (codes "p"); chunk = Some 0; doc = 0; flat = [] }) ∷ (record { name = (codes "d"); chunk = Some 0; doc = 0; flat = [] }) ∷ (record { name = (codes "k"); chunk = Some 0; doc = 0; flat = [] }) ∷ []);
  props = (prop (codes "a") ∷ kept_prop (codes "create") ∷ []);
  kept = always_kept;
  classes = [];
  places = [];
  docs = (no_doc ∷ []);
}

-- `for-in` is judged on each slot of the chain, also on those with a name that an object before them has
shadowed_name_run : run checked shadowed_name (record { turns = (load 0 ∷ []); replies = [] }) 40 ≡ record { events = []; end = stopped (broken 9 (at_site 1048)) }
unfolding opened
shadowed_name_run = refl

--     var p={};p['x']=1;var d=Object.create(p);d.x=2;alert(1);alert(d.x);
abbrev own_slots : Program
own_slots = record {
  scopes =
      (record { params = 0; names = 0; own = false; body = stmts ((vars 1001 ((record { site = 1005; variable = (Ref.Global 4); value = Some (object 1007 (fields [])) }) ∷ [])) ∷ (simple 1010 (assign 1016 None (to_index 1011 (var 1010 (Ref.Global 4)) (lit 1012 (text (codes "x")))) (lit 1017 (whole (pos 1))))) ∷ (vars 1019 ((record { site = 1023; variable = (Ref.Global 5); value = Some (call 1038 (member 1031 (var 1025 (Ref.Global 1)) 0) (exprs ((var 1039 (Ref.Global 4)) ∷ []))) }) ∷ [])) ∷ (simple 1042 (assign 1045 None (to_member 1043 (var 1042 (Ref.Global 5)) 1) (lit 1046 (whole (pos 2))))) ∷ (simple 1048 (call 1053 (var 1048 (Ref.Global 0)) (exprs ((lit 1054 (whole (pos 1))) ∷ [])))) ∷ (simple 1057 (call 1062 (var 1057 (Ref.Global 0)) (exprs ((member 1064 (var 1063 (Ref.Global 5)) 1) ∷ [])))) ∷ []); parent = None; doc = 0 }) ∷ [];
  chunks = (chunk_of [] ∷ []);
  globals = ((record { name = (codes "alert"); chunk = None; doc = 0; flat = [] }) ∷ (record { name = (codes "Object"); chunk = None; doc = 0; flat = [] }) ∷ (record { name = (codes "Math"); chunk = None; doc = 0; flat = [] }) ∷ (record { name = (codes "String"); chunk = None; doc = 0; flat = [] }) ∷ (record { name = (codes "p"); chunk = Some 0; doc = 0; flat = [] }) ∷ (record { name = (codes "d"); chunk = Some 0; doc = 0; flat = [] }) ∷ []);
  props = (kept_prop (codes "create") ∷ prop (codes "x") ∷ []);
  kept = always_kept;
  classes = [];
  places = [];
  docs = (no_doc ∷ []);
}

-- a write looks at no prototype, a read at the whole chain
own_slots_run : run checked own_slots (record { turns = (load 0 ∷ []); replies = ((record { first = []; answer = gives undef }) ∷ []) }) 40 ≡ record { events = (called (shown_out 0) undef ((shown_prim (whole (pos 1))) ∷ []) ∷ []); end = stopped (broken 7 (at_site 1064)) }
unfolding opened
own_slots_run = refl

--     var ns={};ns.log=function(){return this.x;};ns.x=1;alert(ns.log());
abbrev leaked_holder : Program
leaked_holder = record {
  scopes =
      (record { params = 0; names = 0; own = false; body = stmts ((vars 1001 ((record { site = 1005; variable = (Ref.Global 4); value = Some (object 1008 (fields [])) }) ∷ [])) ∷ (simple 1011 (assign 1017 None (to_member 1013 (var 1011 (Ref.Global 4)) 0) (fun 1018 1))) ∷ (simple 1045 (assign 1049 None (to_member 1047 (var 1045 (Ref.Global 4)) 1) (lit 1050 (whole (pos 1))))) ∷ (simple 1052 (call 1057 (var 1052 (Ref.Global 0)) (exprs ((call 1064 (member 1060 (var 1058 (Ref.Global 4)) 0) (exprs [])) ∷ [])))) ∷ []); parent = None; doc = 0 })
      ∷ (record { params = 0; names = 0; own = false; body = stmts ((return 1029 (Some (member 1040 (this 1036) 1))) ∷ []); parent = None; doc = 0 }) ∷ [];
  chunks = (chunk_of [] ∷ []);
  globals = ((record { name = (codes "alert"); chunk = None; doc = 0; flat = [] }) ∷ (record { name = (codes "Object"); chunk = None; doc = 0; flat = [] }) ∷ (record { name = (codes "Math"); chunk = None; doc = 0; flat = [] }) ∷ (record { name = (codes "String"); chunk = None; doc = 0; flat = [] }) ∷ (record { name = (codes "ns"); chunk = Some 0; doc = 0; flat = [] }) ∷ []);
  props = (kept_prop (codes "log") ∷ prop (codes "x") ∷ []);
  kept = ((codes "log") ∷ []) ++ always_kept;
  classes = [];
  places = [];
  docs = (no_doc ∷ []);
}

-- a kept name stands as a callee, so its holder is the receiver: the paths of this global are no variables
leaked_holder_run : run checked leaked_holder (record { turns = (load 0 ∷ []); replies = ((record { first = []; answer = gives undef }) ∷ []) }) 40 ≡ record { events = (called (shown_out 0) undef ((shown_prim (whole (pos 1))) ∷ []) ∷ ended undef ∷ []); end = finished }
unfolding opened
leaked_holder_run = refl

--     function f(){}var o=Object.create(f);alert(o.name);
abbrev inherited_name : Program
inherited_name = record {
  scopes =
      (record { params = 0; names = 0; own = false; body = stmts ((fun_decl 1001 (Ref.Global 4) 1) ∷ (vars 1015 ((record { site = 1019; variable = (Ref.Global 5); value = Some (call 1034 (member 1027 (var 1021 (Ref.Global 1)) 0) (exprs ((var 1035 (Ref.Global 4)) ∷ []))) }) ∷ [])) ∷ (simple 1038 (call 1043 (var 1038 (Ref.Global 0)) (exprs ((member 1045 (var 1044 (Ref.Global 5)) 1) ∷ [])))) ∷ []); parent = None; doc = 0 })
      ∷ (record { params = 0; names = 0; own = false; body = stmts []; parent = None; doc = 0 }) ∷ [];
  chunks = (chunk_of [] ∷ []);
  globals = ((record { name = (codes "alert"); chunk = None; doc = 0; flat = [] }) ∷ (record { name = (codes "Object"); chunk = None; doc = 0; flat = [] }) ∷ (record { name = (codes "Math"); chunk = None; doc = 0; flat = [] }) ∷ (record { name = (codes "String"); chunk = None; doc = 0; flat = [] }) ∷ (record { name = (codes "f"); chunk = Some 0; doc = 0; flat = [] }) ∷ (record { name = (codes "o"); chunk = Some 0; doc = 0; flat = [] }) ∷ []);
  props = (kept_prop (codes "create") ∷ prop (codes "name") ∷ []);
  kept = always_kept;
  classes = [];
  places = [];
  docs = (no_doc ∷ []);
}

-- a read that comes to a function before it comes to a slot of that name
inherited_name_run : run checked inherited_name (record { turns = (load 0 ∷ []); replies = [] }) 40 ≡ record { events = []; end = stopped (broken 10 (at_site 1045)) }
unfolding opened
inherited_name_run = refl

--     function f(){}var o=Object.create(f);o.name=1;alert(o.name);
abbrev own_before_function : Program
own_before_function = record {
  scopes =
      (record { params = 0; names = 0; own = false; body = stmts ((fun_decl 1001 (Ref.Global 4) 1) ∷ (vars 1015 ((record { site = 1019; variable = (Ref.Global 5); value = Some (call 1034 (member 1027 (var 1021 (Ref.Global 1)) 0) (exprs ((var 1035 (Ref.Global 4)) ∷ []))) }) ∷ [])) ∷ (simple 1038 (assign 1044 None (to_member 1039 (var 1038 (Ref.Global 5)) 1) (lit 1045 (whole (pos 1))))) ∷ (simple 1047 (call 1052 (var 1047 (Ref.Global 0)) (exprs ((member 1054 (var 1053 (Ref.Global 5)) 1) ∷ [])))) ∷ []); parent = None; doc = 0 })
      ∷ (record { params = 0; names = 0; own = false; body = stmts []; parent = None; doc = 0 }) ∷ [];
  chunks = (chunk_of [] ∷ []);
  globals = ((record { name = (codes "alert"); chunk = None; doc = 0; flat = [] }) ∷ (record { name = (codes "Object"); chunk = None; doc = 0; flat = [] }) ∷ (record { name = (codes "Math"); chunk = None; doc = 0; flat = [] }) ∷ (record { name = (codes "String"); chunk = None; doc = 0; flat = [] }) ∷ (record { name = (codes "f"); chunk = Some 0; doc = 0; flat = [] }) ∷ (record { name = (codes "o"); chunk = Some 0; doc = 0; flat = [] }) ∷ []);
  props = (kept_prop (codes "create") ∷ prop (codes "name") ∷ []);
  kept = always_kept;
  classes = [];
  places = [];
  docs = (no_doc ∷ []);
}

-- an engine doesn't carry out the write, since a function of the chain has the name
own_before_function_run : run checked own_before_function (record { turns = (load 0 ∷ []); replies = ((record { first = []; answer = gives undef }) ∷ []) }) 40 ≡ record { events = []; end = stopped (broken 10 (at_site 1039)) }
unfolding opened
own_before_function_run = refl

--     function f(){}f.name=1;alert(f.name);
abbrev function_with_name : Program
function_with_name = record {
  scopes =
      (record { params = 0; names = 0; own = false; body = stmts ((fun_decl 1001 (Ref.Global 4) 1) ∷ (simple 1015 (assign 1021 None (to_member 1016 (var 1015 (Ref.Global 4)) 0) (lit 1022 (whole (pos 1))))) ∷ (simple 1024 (call 1029 (var 1024 (Ref.Global 0)) (exprs ((member 1031 (var 1030 (Ref.Global 4)) 0) ∷ [])))) ∷ []); parent = None; doc = 0 })
      ∷ (record { params = 0; names = 0; own = false; body = stmts []; parent = None; doc = 0 }) ∷ [];
  chunks = (chunk_of [] ∷ []);
  globals = ((record { name = (codes "alert"); chunk = None; doc = 0; flat = [] }) ∷ (record { name = (codes "Object"); chunk = None; doc = 0; flat = [] }) ∷ (record { name = (codes "Math"); chunk = None; doc = 0; flat = [] }) ∷ (record { name = (codes "String"); chunk = None; doc = 0; flat = [] }) ∷ (record { name = (codes "f"); chunk = Some 0; doc = 0; flat = [] }) ∷ []);
  props = (prop (codes "name") ∷ []);
  kept = always_kept;
  classes = [];
  places = [];
  docs = (no_doc ∷ []);
}

function_with_name_run : run checked function_with_name (record { turns = (load 0 ∷ []); replies = [] }) 40 ≡ record { events = []; end = stopped (broken 10 (at_site 1016)) }
unfolding opened
function_with_name_run = refl

-- base
--     var n=1;var a=[n];n=2;
-- x
--     alert(a[0]);
-- y
--     alert(2);
abbrev list_stays : Program
list_stays = record {
  scopes =
      (record { params = 0; names = 0; own = false; body = stmts ((vars 1001 ((record { site = 1005; variable = (Ref.Global 4); value = Some (lit 1007 (whole (pos 1))) }) ∷ [])) ∷ (vars 1009 ((record { site = 1013; variable = (Ref.Global 5); value = Some (list 1015 (exprs ((var 1016 (Ref.Global 4)) ∷ []))) }) ∷ [])) ∷ (simple 1019 (assign 1020 None (to_var 1019 (Ref.Global 4)) (lit 1021 (whole (pos 2))))) ∷ []); parent = None; doc = 0 })
      ∷ (record { params = 0; names = 0; own = false; body = stmts ((simple 1001 (call 1006 (var 1001 (Ref.Global 0)) (exprs ((index 1008 (var 1007 (Ref.Global 5)) (lit 1009 (whole (pos 0)))) ∷ [])))) ∷ []); parent = None; doc = 0 })
      ∷ (record { params = 0; names = 0; own = false; body = stmts ((simple 1001 (call 1006 (var 1001 (Ref.Global 0)) (exprs ((lit 1007 (whole (pos 2))) ∷ [])))) ∷ []); parent = None; doc = 0 }) ∷ [];
  chunks = (chunk_of [] ∷ chunk_of (0 ∷ []) ∷ chunk_of (0 ∷ []) ∷ []);
  globals = ((record { name = (codes "alert"); chunk = None; doc = 0; flat = [] }) ∷ (record { name = (codes "Object"); chunk = None; doc = 0; flat = [] }) ∷ (record { name = (codes "Math"); chunk = None; doc = 0; flat = [] }) ∷ (record { name = (codes "String"); chunk = None; doc = 0; flat = [] }) ∷ (record { name = (codes "n"); chunk = Some 0; doc = 0; flat = [] }) ∷ (record { name = (codes "a"); chunk = Some 0; doc = 0; flat = [] }) ∷ []);
  props = [];
  kept = always_kept;
  classes = [];
  places = [];
  docs = (no_doc ∷ []);
}

-- a list that moved to the chunk that uses it would hold what its parts are by then
list_stays_run : run checked list_stays (record { turns = (load 0 ∷ load 1 ∷ []); replies = ((record { first = []; answer = gives undef }) ∷ []) }) 40 ≡ record { events = (ended undef ∷ called (shown_out 0) undef ((shown_prim (whole (pos 1))) ∷ []) ∷ ended undef ∷ []); end = finished }
unfolding opened
list_stays_run = refl

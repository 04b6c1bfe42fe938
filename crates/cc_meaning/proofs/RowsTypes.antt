-- The rules on annotations, classes and prototypes.
use Rattle.std.specs.Prelude.{◌≡◌, refl, pos, true, false, [], ◌∷◌, Some, None, codes}
use Rattle.cc_ast.specs.Syntax.{Prim, null, whole, text, lit, var, this, fun, list, object, assign, member, index, call, new, cast, to_var, to_member, to_index, simple, vars, fun_decl, return, try, absent, present, Program}
use Rattle.cc_ast.specs.declared.tree.Ref.{Ref}
use Rattle.cc_meaning.specs.Values.{shown_prim, shown_out, called, ended, at_site}
use Rattle.cc_meaning.specs.State.{gives}
use Rattle.cc_meaning.specs.Monad.{broken}
use Rattle.cc_meaning.specs.Names.{always_kept}
use Rattle.cc_meaning.specs.Script.{load, run, checked, finished, stopped}
use Rattle.cc_meaning.proofs.Opened.{opened}
use Rattle.cc_meaning.proofs.Trees.{exprs, fields, stmts, no_doc, chunk_of, prop, kept_prop, undef}

--     function f(){return c;}f();/** @const */var c=1;
abbrev const_unset : Program
const_unset = record {
  scopes =
      (record { params = 0; names = 0; own = false; body = stmts ((fun_decl 1001 (Ref.Global 4) 1) ∷ (simple 1024 (call 1025 (var 1024 (Ref.Global 4)) (exprs []))) ∷ (vars 1041 ((record { site = 1045; variable = (Ref.Global 5); value = Some (lit 1047 (whole (pos 1))) }) ∷ [])) ∷ []); parent = None; doc = 0 })
      ∷ (record { params = 0; names = 0; own = false; body = stmts ((return 1014 (Some (var 1021 (Ref.Global 5)))) ∷ []); parent = None; doc = 0 }) ∷ [];
  chunks = (chunk_of [] ∷ []);
  globals = ((record { name = (codes "alert"); chunk = None; doc = 0; flat = [] }) ∷ (record { name = (codes "Object"); chunk = None; doc = 0; flat = [] }) ∷ (record { name = (codes "Math"); chunk = None; doc = 0; flat = [] }) ∷ (record { name = (codes "String"); chunk = None; doc = 0; flat = [] }) ∷ (record { name = (codes "f"); chunk = Some 0; doc = 0; flat = [] }) ∷ (record { name = (codes "c"); chunk = Some 0; doc = 1; flat = [] }) ∷ []);
  props = [];
  kept = always_kept;
  classes = [];
  places = [];
  docs = (no_doc ∷ (record no_doc { value = None; constant = true; define = false }) ∷ []);
}

const_unset_run : run checked const_unset (record { turns = (load 0 ∷ []); replies = [] }) 40 ≡ record { events = []; end = stopped (broken 11 (at_site 1021)) }
unfolding opened
const_unset_run = refl

--     /** @param {number} n */function f(n){return n;}alert(f(1));f('x');
abbrev param_type : Program
param_type = record {
  scopes =
      (record { params = 0; names = 0; own = false; body = stmts ((fun_decl 1025 (Ref.Global 4) 1) ∷ (simple 1049 (call 1054 (var 1049 (Ref.Global 0)) (exprs ((call 1056 (var 1055 (Ref.Global 4)) (exprs ((lit 1057 (whole (pos 1))) ∷ []))) ∷ [])))) ∷ (simple 1061 (call 1062 (var 1061 (Ref.Global 4)) (exprs ((lit 1063 (text (codes "x"))) ∷ [])))) ∷ []); parent = None; doc = 0 })
      ∷ (record { params = 1; names = 0; own = false; body = stmts ((return 1039 (Some (var 1046 (Ref.Frame 0 0)))) ∷ []); parent = None; doc = 1 }) ∷ [];
  chunks = (chunk_of [] ∷ []);
  globals = ((record { name = (codes "alert"); chunk = None; doc = 0; flat = [] }) ∷ (record { name = (codes "Object"); chunk = None; doc = 0; flat = [] }) ∷ (record { name = (codes "Math"); chunk = None; doc = 0; flat = [] }) ∷ (record { name = (codes "String"); chunk = None; doc = 0; flat = [] }) ∷ (record { name = (codes "f"); chunk = Some 0; doc = 0; flat = [] }) ∷ []);
  props = [];
  kept = always_kept;
  classes = [];
  places = [];
  docs = (no_doc ∷ (record no_doc { params = (Some (record { kinds = 1; classes = []; unknown = false; element = None }) ∷ []); result = None; receiver = None; vars = [] }) ∷ []);
}

param_type_run : run checked param_type (record { turns = (load 0 ∷ []); replies = ((record { first = []; answer = gives undef }) ∷ []) }) 40 ≡ record { events = (called (shown_out 0) undef ((shown_prim (whole (pos 1))) ∷ []) ∷ []); end = stopped (broken 6 (at_site 1062)) }
unfolding opened
param_type_run = refl

-- the acts of a call are judged before its cost is taken, so this ends so too where nothing is left for the second call
acts_before_cost_run : run checked param_type (record { turns = (load 0 ∷ []); replies = ((record { first = []; answer = gives undef }) ∷ []) }) 2 ≡ record { events = (called (shown_out 0) undef ((shown_prim (whole (pos 1))) ∷ []) ∷ []); end = stopped (broken 6 (at_site 1062)) }
unfolding opened
acts_before_cost_run = refl

--     /** @return {number} */function f(){return 'x';}f();
abbrev result_type : Program
result_type = record {
  scopes =
      (record { params = 0; names = 0; own = false; body = stmts ((fun_decl 1024 (Ref.Global 4) 1) ∷ (simple 1049 (call 1050 (var 1049 (Ref.Global 4)) (exprs []))) ∷ []); parent = None; doc = 0 })
      ∷ (record { params = 0; names = 0; own = false; body = stmts ((return 1037 (Some (lit 1044 (text (codes "x"))))) ∷ []); parent = None; doc = 1 }) ∷ [];
  chunks = (chunk_of [] ∷ []);
  globals = ((record { name = (codes "alert"); chunk = None; doc = 0; flat = [] }) ∷ (record { name = (codes "Object"); chunk = None; doc = 0; flat = [] }) ∷ (record { name = (codes "Math"); chunk = None; doc = 0; flat = [] }) ∷ (record { name = (codes "String"); chunk = None; doc = 0; flat = [] }) ∷ (record { name = (codes "f"); chunk = Some 0; doc = 0; flat = [] }) ∷ []);
  props = [];
  kept = always_kept;
  classes = [];
  places = [];
  docs = (no_doc ∷ (record no_doc { params = []; result = Some (record { kinds = 1; classes = []; unknown = false; element = None }); receiver = None; vars = [] }) ∷ []);
}

result_type_run : run checked result_type (record { turns = (load 0 ∷ []); replies = [] }) 40 ≡ record { events = []; end = stopped (broken 6 (at_site 1037)) }
unfolding opened
result_type_run = refl

--     /** @return {number} */function f(){try{return 'x';}finally{return 1;}}alert(f());
abbrev result_in_finally : Program
result_in_finally = record {
  scopes =
      (record { params = 0; names = 0; own = false; body = stmts ((fun_decl 1024 (Ref.Global 4) 1) ∷ (simple 1072 (call 1077 (var 1072 (Ref.Global 0)) (exprs ((call 1079 (var 1078 (Ref.Global 4)) (exprs [])) ∷ [])))) ∷ []); parent = None; doc = 0 })
      ∷ (record { params = 0; names = 0; own = false; body = stmts ((try 1037 (stmts ((return 1041 (Some (lit 1048 (text (codes "x"))))) ∷ [])) absent (present (stmts ((return 1061 (Some (lit 1068 (whole (pos 1))))) ∷ [])))) ∷ []); parent = None; doc = 1 }) ∷ [];
  chunks = (chunk_of [] ∷ []);
  globals = ((record { name = (codes "alert"); chunk = None; doc = 0; flat = [] }) ∷ (record { name = (codes "Object"); chunk = None; doc = 0; flat = [] }) ∷ (record { name = (codes "Math"); chunk = None; doc = 0; flat = [] }) ∷ (record { name = (codes "String"); chunk = None; doc = 0; flat = [] }) ∷ (record { name = (codes "f"); chunk = Some 0; doc = 0; flat = [] }) ∷ []);
  props = [];
  kept = always_kept;
  classes = [];
  places = [];
  docs = (no_doc ∷ (record no_doc { params = []; result = Some (record { kinds = 1; classes = []; unknown = false; element = None }); receiver = None; vars = [] }) ∷ []);
}

result_in_finally_run : run checked result_in_finally (record { turns = (load 0 ∷ []); replies = ((record { first = []; answer = gives undef }) ∷ []) }) 40 ≡ record { events = (called (shown_out 0) undef ((shown_prim (whole (pos 1))) ∷ []) ∷ ended undef ∷ []); end = finished }
unfolding opened
result_in_finally_run = refl

--     /** @type {string} */var s='a';s=null;s=1;
abbrev variable_type : Program
variable_type = record {
  scopes =
      (record { params = 0; names = 0; own = false; body = stmts ((vars 1022 ((record { site = 1026; variable = (Ref.Global 4); value = Some (lit 1028 (text (codes "a"))) }) ∷ [])) ∷ (simple 1032 (assign 1033 None (to_var 1032 (Ref.Global 4)) (lit 1034 null))) ∷ (simple 1039 (assign 1040 None (to_var 1039 (Ref.Global 4)) (lit 1041 (whole (pos 1))))) ∷ []); parent = None; doc = 0 }) ∷ [];
  chunks = (chunk_of [] ∷ []);
  globals = ((record { name = (codes "alert"); chunk = None; doc = 0; flat = [] }) ∷ (record { name = (codes "Object"); chunk = None; doc = 0; flat = [] }) ∷ (record { name = (codes "Math"); chunk = None; doc = 0; flat = [] }) ∷ (record { name = (codes "String"); chunk = None; doc = 0; flat = [] }) ∷ (record { name = (codes "s"); chunk = Some 0; doc = 1; flat = [] }) ∷ []);
  props = [];
  kept = always_kept;
  classes = [];
  places = [];
  docs = (no_doc ∷ (record no_doc { value = Some (record { kinds = 2; classes = []; unknown = false; element = None }); constant = false; define = false }) ∷ []);
}

variable_type_run : run checked variable_type (record { turns = (load 0 ∷ []); replies = [] }) 40 ≡ record { events = []; end = stopped (broken 6 (at_site 1039)) }
unfolding opened
variable_type_run = refl

--     var x=1;alert(/** @type {number} */(x));/** @type {string} */(x);
abbrev cast_type : Program
cast_type = record {
  scopes =
      (record { params = 0; names = 0; own = false; body = stmts ((vars 1001 ((record { site = 1005; variable = (Ref.Global 4); value = Some (lit 1007 (whole (pos 1))) }) ∷ [])) ∷ (simple 1009 (call 1014 (var 1009 (Ref.Global 0)) (exprs ((cast 1036 1 (var 1037 (Ref.Global 4))) ∷ [])))) ∷ (simple 1062 (cast 1062 2 (var 1063 (Ref.Global 4)))) ∷ []); parent = None; doc = 0 }) ∷ [];
  chunks = (chunk_of [] ∷ []);
  globals = ((record { name = (codes "alert"); chunk = None; doc = 0; flat = [] }) ∷ (record { name = (codes "Object"); chunk = None; doc = 0; flat = [] }) ∷ (record { name = (codes "Math"); chunk = None; doc = 0; flat = [] }) ∷ (record { name = (codes "String"); chunk = None; doc = 0; flat = [] }) ∷ (record { name = (codes "x"); chunk = Some 0; doc = 0; flat = [] }) ∷ []);
  props = [];
  kept = always_kept;
  classes = [];
  places = [];
  docs = (no_doc ∷ (record no_doc { value = Some (record { kinds = 1; classes = []; unknown = false; element = None }) }) ∷ (record no_doc { value = Some (record { kinds = 2; classes = []; unknown = false; element = None }) }) ∷ []);
}

cast_type_run : run checked cast_type (record { turns = (load 0 ∷ []); replies = ((record { first = []; answer = gives undef }) ∷ []) }) 40 ≡ record { events = (called (shown_out 0) undef ((shown_prim (whole (pos 1))) ∷ []) ∷ []); end = stopped (broken 6 (at_site 1062)) }
unfolding opened
cast_type_run = refl

--     /** @constructor */
--     function F(){/** @type {number} */this.n=1;}
--     var f=new F();f.n=2;alert(f.n);f.n='x';
abbrev field_type : Program
field_type = record {
  scopes =
      (record { params = 0; names = 0; own = false; body = stmts ((fun_decl 2001 (Ref.Global 4) 1) ∷ (vars 3001 ((record { site = 3005; variable = (Ref.Global 5); value = Some (new 3007 (var 3011 (Ref.Global 4)) (exprs [])) }) ∷ [])) ∷ (simple 3015 (assign 3018 None (to_member 3016 (var 3015 (Ref.Global 5)) 0) (lit 3019 (whole (pos 2))))) ∷ (simple 3021 (call 3026 (var 3021 (Ref.Global 0)) (exprs ((member 3028 (var 3027 (Ref.Global 5)) 0) ∷ [])))) ∷ (simple 3032 (assign 3035 None (to_member 3033 (var 3032 (Ref.Global 5)) 0) (lit 3036 (text (codes "x"))))) ∷ []); parent = None; doc = 0 })
      ∷ (record { params = 0; names = 0; own = false; body = stmts ((simple 2035 (assign 2041 None (to_member 2039 (this 2035) 0) (lit 2042 (whole (pos 1))))) ∷ []); parent = None; doc = 2 }) ∷ [];
  chunks = (chunk_of [] ∷ []);
  globals = ((record { name = (codes "alert"); chunk = None; doc = 0; flat = [] }) ∷ (record { name = (codes "Object"); chunk = None; doc = 0; flat = [] }) ∷ (record { name = (codes "Math"); chunk = None; doc = 0; flat = [] }) ∷ (record { name = (codes "String"); chunk = None; doc = 0; flat = [] }) ∷ (record { name = (codes "F"); chunk = Some 0; doc = 0; flat = [] }) ∷ (record { name = (codes "f"); chunk = Some 0; doc = 0; flat = [] }) ∷ []);
  props = (prop (codes "n") ∷ []);
  kept = always_kept;
  classes = ((record { name = (codes "F"); function = Some 1; external = false; interface = false; extends = None; implements = []; methods = []; fields = ((0, 1) ∷ []) }) ∷ []);
  places = [];
  docs = (no_doc ∷ (record no_doc { value = Some (record { kinds = 1; classes = []; unknown = false; element = None }) }) ∷ (record no_doc { params = []; result = None; receiver = None; vars = [] }) ∷ []);
}

field_type_run : run checked field_type (record { turns = (load 0 ∷ []); replies = ((record { first = []; answer = gives undef }) ∷ []) }) 40 ≡ record { events = (called (shown_out 0) undef ((shown_prim (whole (pos 2))) ∷ []) ∷ []); end = stopped (broken 6 (at_site 3033)) }
unfolding opened
field_type_run = refl

--     /** @constructor */
--     function F(){}
--     /** @type {number} */F.prototype.n='x';
--     alert(new F().n);
abbrev field_of_prototype : Program
field_of_prototype = record {
  scopes =
      (record { params = 0; names = 0; own = false; body = stmts ((fun_decl 2001 (Ref.Global 4) 1) ∷ (simple 3022 (assign 3035 None (to_member 3033 (member 3023 (var 3022 (Ref.Global 4)) 1) 0) (lit 3036 (text (codes "x"))))) ∷ (simple 4001 (call 4006 (var 4001 (Ref.Global 0)) (exprs ((member 4014 (new 4007 (var 4011 (Ref.Global 4)) (exprs [])) 0) ∷ [])))) ∷ []); parent = None; doc = 0 })
      ∷ (record { params = 0; names = 0; own = false; body = stmts []; parent = None; doc = 1 }) ∷ [];
  chunks = (chunk_of [] ∷ []);
  globals = ((record { name = (codes "alert"); chunk = None; doc = 0; flat = [] }) ∷ (record { name = (codes "Object"); chunk = None; doc = 0; flat = [] }) ∷ (record { name = (codes "Math"); chunk = None; doc = 0; flat = [] }) ∷ (record { name = (codes "String"); chunk = None; doc = 0; flat = [] }) ∷ (record { name = (codes "F"); chunk = Some 0; doc = 0; flat = [] }) ∷ []);
  props = (prop (codes "n") ∷ kept_prop (codes "prototype") ∷ []);
  kept = always_kept;
  classes = ((record { name = (codes "F"); function = Some 1; external = false; interface = false; extends = None; implements = []; methods = []; fields = ((0, 2) ∷ []) }) ∷ []);
  places = [];
  docs = (no_doc ∷ (record no_doc { params = []; result = None; receiver = None; vars = [] }) ∷ (record no_doc { value = Some (record { kinds = 1; classes = []; unknown = false; element = None }) }) ∷ []);
}

field_of_prototype_run : run checked field_of_prototype (record { turns = (load 0 ∷ []); replies = [] }) 40 ≡ record { events = []; end = stopped (broken 6 (at_site 4014)) }
unfolding opened
field_of_prototype_run = refl

--     /** @constructor */
--     function F(){}
--     F.prototype.m=function(){return 1;};
--     alert(new F().m());F.prototype.m();
abbrev code_of_class : Program
code_of_class = record {
  scopes =
      (record { params = 0; names = 0; own = false; body = stmts ((fun_decl 2001 (Ref.Global 4) 1) ∷ (simple 3001 (assign 3014 None (to_member 3012 (member 3002 (var 3001 (Ref.Global 4)) 0) 1) (fun 3015 2))) ∷ (simple 4001 (call 4006 (var 4001 (Ref.Global 0)) (exprs ((call 4016 (member 4014 (new 4007 (var 4011 (Ref.Global 4)) (exprs [])) 1) (exprs [])) ∷ [])))) ∷ (simple 4020 (call 4033 (member 4031 (member 4021 (var 4020 (Ref.Global 4)) 0) 1) (exprs []))) ∷ []); parent = None; doc = 0 })
      ∷ (record { params = 0; names = 0; own = false; body = stmts []; parent = None; doc = 1 })
      ∷ (record { params = 0; names = 0; own = false; body = stmts ((return 3026 (Some (lit 3033 (whole (pos 1))))) ∷ []); parent = None; doc = 0 }) ∷ [];
  chunks = (chunk_of [] ∷ []);
  globals = ((record { name = (codes "alert"); chunk = None; doc = 0; flat = [] }) ∷ (record { name = (codes "Object"); chunk = None; doc = 0; flat = [] }) ∷ (record { name = (codes "Math"); chunk = None; doc = 0; flat = [] }) ∷ (record { name = (codes "String"); chunk = None; doc = 0; flat = [] }) ∷ (record { name = (codes "F"); chunk = Some 0; doc = 0; flat = [] }) ∷ []);
  props = (kept_prop (codes "prototype") ∷ prop (codes "m") ∷ []);
  kept = always_kept;
  classes = ((record { name = (codes "F"); function = Some 1; external = false; interface = false; extends = None; implements = []; methods = ((1, 2) ∷ []); fields = [] }) ∷ []);
  places = [];
  docs = (no_doc ∷ (record no_doc { params = []; result = None; receiver = None; vars = [] }) ∷ []);
}

code_of_class_run : run checked code_of_class (record { turns = (load 0 ∷ []); replies = ((record { first = []; answer = gives undef }) ∷ []) }) 40 ≡ record { events = (called (shown_out 0) undef ((shown_prim (whole (pos 1))) ∷ []) ∷ []); end = stopped (broken 5 (at_site 4033)) }
unfolding opened
code_of_class_run = refl

--     /** @constructor */
--     function F(){}
--     F();
abbrev plain_call_of_class : Program
plain_call_of_class = record {
  scopes =
      (record { params = 0; names = 0; own = false; body = stmts ((fun_decl 2001 (Ref.Global 4) 1) ∷ (simple 3001 (call 3002 (var 3001 (Ref.Global 4)) (exprs []))) ∷ []); parent = None; doc = 0 })
      ∷ (record { params = 0; names = 0; own = false; body = stmts []; parent = None; doc = 1 }) ∷ [];
  chunks = (chunk_of [] ∷ []);
  globals = ((record { name = (codes "alert"); chunk = None; doc = 0; flat = [] }) ∷ (record { name = (codes "Object"); chunk = None; doc = 0; flat = [] }) ∷ (record { name = (codes "Math"); chunk = None; doc = 0; flat = [] }) ∷ (record { name = (codes "String"); chunk = None; doc = 0; flat = [] }) ∷ (record { name = (codes "F"); chunk = Some 0; doc = 0; flat = [] }) ∷ []);
  props = [];
  kept = always_kept;
  classes = ((record { name = (codes "F"); function = Some 1; external = false; interface = false; extends = None; implements = []; methods = []; fields = [] }) ∷ []);
  places = [];
  docs = (no_doc ∷ (record no_doc { params = []; result = None; receiver = None; vars = [] }) ∷ []);
}

plain_call_of_class_run : run checked plain_call_of_class (record { turns = (load 0 ∷ []); replies = [] }) 40 ≡ record { events = []; end = stopped (broken 5 (at_site 3002)) }
unfolding opened
plain_call_of_class_run = refl

--     /** @constructor */
--     function B(){}
--     /** @this {B} */function f(){return 1;}alert(f());alert(f.call(new B()));f.call(1);
abbrev receiver_type : Program
receiver_type = record {
  scopes =
      (record { params = 0; names = 0; own = false; body = stmts ((fun_decl 2001 (Ref.Global 4) 1) ∷ (fun_decl 3017 (Ref.Global 5) 2) ∷ (simple 3040 (call 3045 (var 3040 (Ref.Global 0)) (exprs ((call 3047 (var 3046 (Ref.Global 5)) (exprs [])) ∷ [])))) ∷ (simple 3051 (call 3056 (var 3051 (Ref.Global 0)) (exprs ((call 3063 (member 3058 (var 3057 (Ref.Global 5)) 0) (exprs ((new 3064 (var 3068 (Ref.Global 4)) (exprs [])) ∷ []))) ∷ [])))) ∷ (simple 3074 (call 3080 (member 3075 (var 3074 (Ref.Global 5)) 0) (exprs ((lit 3081 (whole (pos 1))) ∷ [])))) ∷ []); parent = None; doc = 0 })
      ∷ (record { params = 0; names = 0; own = false; body = stmts []; parent = None; doc = 1 })
      ∷ (record { params = 0; names = 0; own = false; body = stmts ((return 3030 (Some (lit 3037 (whole (pos 1))))) ∷ []); parent = None; doc = 2 }) ∷ [];
  chunks = (chunk_of [] ∷ []);
  globals = ((record { name = (codes "alert"); chunk = None; doc = 0; flat = [] }) ∷ (record { name = (codes "Object"); chunk = None; doc = 0; flat = [] }) ∷ (record { name = (codes "Math"); chunk = None; doc = 0; flat = [] }) ∷ (record { name = (codes "String"); chunk = None; doc = 0; flat = [] }) ∷ (record { name = (codes "B"); chunk = Some 0; doc = 0; flat = [] }) ∷ (record { name = (codes "f"); chunk = Some 0; doc = 0; flat = [] }) ∷ []);
  props = (kept_prop (codes "call") ∷ []);
  kept = always_kept;
  classes = ((record { name = (codes "B"); function = Some 1; external = false; interface = false; extends = None; implements = []; methods = []; fields = [] }) ∷ []);
  places = [];
  docs = (no_doc ∷ (record no_doc { params = []; result = None; receiver = None; vars = [] }) ∷ (record no_doc { params = []; result = None; receiver = Some (record { kinds = 0; classes = (0 ∷ []); unknown = false; element = None }); vars = [] }) ∷ []);
}

receiver_type_run : run checked receiver_type (record { turns = (load 0 ∷ []); replies = ((record { first = []; answer = gives undef }) ∷ (record { first = []; answer = gives undef }) ∷ []) }) 40 ≡ record { events = (called (shown_out 0) undef ((shown_prim (whole (pos 1))) ∷ []) ∷ called (shown_out 0) undef ((shown_prim (whole (pos 1))) ∷ []) ∷ []); end = stopped (broken 5 (at_site 3080)) }
unfolding opened
receiver_type_run = refl

--     /** @type {Array<number>} */var a=[1];a.push(2);alert(a.length);a.push('x');
abbrev pushed_element : Program
pushed_element = record {
  scopes =
      (record { params = 0; names = 0; own = false; body = stmts ((vars 1029 ((record { site = 1033; variable = (Ref.Global 4); value = Some (list 1035 (exprs ((lit 1036 (whole (pos 1))) ∷ []))) }) ∷ [])) ∷ (simple 1039 (call 1045 (member 1040 (var 1039 (Ref.Global 4)) 0) (exprs ((lit 1046 (whole (pos 2))) ∷ [])))) ∷ (simple 1049 (call 1054 (var 1049 (Ref.Global 0)) (exprs ((member 1056 (var 1055 (Ref.Global 4)) 1) ∷ [])))) ∷ (simple 1065 (call 1071 (member 1066 (var 1065 (Ref.Global 4)) 0) (exprs ((lit 1072 (text (codes "x"))) ∷ [])))) ∷ []); parent = None; doc = 0 }) ∷ [];
  chunks = (chunk_of [] ∷ []);
  globals = ((record { name = (codes "alert"); chunk = None; doc = 0; flat = [] }) ∷ (record { name = (codes "Object"); chunk = None; doc = 0; flat = [] }) ∷ (record { name = (codes "Math"); chunk = None; doc = 0; flat = [] }) ∷ (record { name = (codes "String"); chunk = None; doc = 0; flat = [] }) ∷ (record { name = (codes "a"); chunk = Some 0; doc = 1; flat = [] }) ∷ []);
  props = (kept_prop (codes "push") ∷ kept_prop (codes "length") ∷ []);
  kept = always_kept;
  classes = [];
  places = [];
  docs = (no_doc ∷ (record no_doc { value = Some (record { kinds = 16; classes = []; unknown = false; element = Some (record { kinds = 1; classes = [] }) }); constant = false; define = false }) ∷ []);
}

pushed_element_run : run checked pushed_element (record { turns = (load 0 ∷ []); replies = ((record { first = []; answer = gives undef }) ∷ []) }) 40 ≡ record { events = (called (shown_out 0) undef ((shown_prim (whole (pos 2))) ∷ []) ∷ []); end = stopped (broken 6 (at_site 1071)) }
unfolding opened
pushed_element_run = refl

--     /** @param {Array<number>} p */function f(p){}var a=[];a.push('x');a.pop();f(a);a.push('x');
abbrev entered_by_param : Program
entered_by_param = record {
  scopes =
      (record { params = 0; names = 0; own = false; body = stmts ((fun_decl 1032 (Ref.Global 4) 1) ∷ (vars 1047 ((record { site = 1051; variable = (Ref.Global 5); value = Some (list 1053 (exprs [])) }) ∷ [])) ∷ (simple 1056 (call 1062 (member 1057 (var 1056 (Ref.Global 5)) 0) (exprs ((lit 1063 (text (codes "x"))) ∷ [])))) ∷ (simple 1068 (call 1073 (member 1069 (var 1068 (Ref.Global 5)) 1) (exprs []))) ∷ (simple 1076 (call 1077 (var 1076 (Ref.Global 4)) (exprs ((var 1078 (Ref.Global 5)) ∷ [])))) ∷ (simple 1081 (call 1087 (member 1082 (var 1081 (Ref.Global 5)) 0) (exprs ((lit 1088 (text (codes "x"))) ∷ [])))) ∷ []); parent = None; doc = 0 })
      ∷ (record { params = 1; names = 0; own = false; body = stmts []; parent = None; doc = 1 }) ∷ [];
  chunks = (chunk_of [] ∷ []);
  globals = ((record { name = (codes "alert"); chunk = None; doc = 0; flat = [] }) ∷ (record { name = (codes "Object"); chunk = None; doc = 0; flat = [] }) ∷ (record { name = (codes "Math"); chunk = None; doc = 0; flat = [] }) ∷ (record { name = (codes "String"); chunk = None; doc = 0; flat = [] }) ∷ (record { name = (codes "f"); chunk = Some 0; doc = 0; flat = [] }) ∷ (record { name = (codes "a"); chunk = Some 0; doc = 0; flat = [] }) ∷ []);
  props = (kept_prop (codes "push") ∷ kept_prop (codes "pop") ∷ []);
  kept = always_kept;
  classes = [];
  places = [];
  docs = (no_doc ∷ (record no_doc { params = (Some (record { kinds = 16; classes = []; unknown = false; element = Some (record { kinds = 1; classes = [] }) }) ∷ []); result = None; receiver = None; vars = [] }) ∷ []);
}

entered_by_param_run : run checked entered_by_param (record { turns = (load 0 ∷ []); replies = [] }) 40 ≡ record { events = []; end = stopped (broken 6 (at_site 1087)) }
unfolding opened
entered_by_param_run = refl

--     /** @constructor */
--     function F(){/** @type {Array<number>} */this.n;}
--     var f=new F(),a=[];f['n']=a;a.push('x');alert(f['n'].length);
abbrev quoted_field : Program
quoted_field = record {
  scopes =
      (record { params = 0; names = 0; own = false; body = stmts ((fun_decl 2001 (Ref.Global 4) 1) ∷ (vars 3001 ((record { site = 3005; variable = (Ref.Global 5); value = Some (new 3007 (var 3011 (Ref.Global 4)) (exprs [])) }) ∷ (record { site = 3015; variable = (Ref.Global 6); value = Some (list 3017 (exprs [])) }) ∷ [])) ∷ (simple 3020 (assign 3026 None (to_index 3021 (var 3020 (Ref.Global 5)) (lit 3022 (text (codes "n")))) (var 3027 (Ref.Global 6)))) ∷ (simple 3029 (call 3035 (member 3030 (var 3029 (Ref.Global 6)) 1) (exprs ((lit 3036 (text (codes "x"))) ∷ [])))) ∷ (simple 3041 (call 3046 (var 3041 (Ref.Global 0)) (exprs ((member 3053 (index 3048 (var 3047 (Ref.Global 5)) (lit 3049 (text (codes "n")))) 2) ∷ [])))) ∷ []); parent = None; doc = 0 })
      ∷ (record { params = 0; names = 0; own = false; body = stmts ((simple 2042 (member 2046 (this 2042) 0)) ∷ []); parent = None; doc = 2 }) ∷ [];
  chunks = (chunk_of [] ∷ []);
  globals = ((record { name = (codes "alert"); chunk = None; doc = 0; flat = [] }) ∷ (record { name = (codes "Object"); chunk = None; doc = 0; flat = [] }) ∷ (record { name = (codes "Math"); chunk = None; doc = 0; flat = [] }) ∷ (record { name = (codes "String"); chunk = None; doc = 0; flat = [] }) ∷ (record { name = (codes "F"); chunk = Some 0; doc = 0; flat = [] }) ∷ (record { name = (codes "f"); chunk = Some 0; doc = 0; flat = [] }) ∷ (record { name = (codes "a"); chunk = Some 0; doc = 0; flat = [] }) ∷ []);
  props = (prop (codes "n") ∷ kept_prop (codes "push") ∷ kept_prop (codes "length") ∷ []);
  kept = always_kept;
  classes = ((record { name = (codes "F"); function = Some 1; external = false; interface = false; extends = None; implements = []; methods = []; fields = ((0, 1) ∷ []) }) ∷ []);
  places = [];
  docs = (no_doc ∷ (record no_doc { value = Some (record { kinds = 16; classes = []; unknown = false; element = Some (record { kinds = 1; classes = [] }) }) }) ∷ (record no_doc { params = []; result = None; receiver = None; vars = [] }) ∷ []);
}

quoted_field_run : run checked quoted_field (record { turns = (load 0 ∷ []); replies = ((record { first = []; answer = gives undef }) ∷ []) }) 40 ≡ record { events = (called (shown_out 0) undef ((shown_prim (whole (pos 1))) ∷ []) ∷ ended undef ∷ []); end = finished }
unfolding opened
quoted_field_run = refl

--     /** @constructor */
--     function F(){/** @type {Array<number>} */this.n;}
--     var a=[];F.prototype.n=a;a.push('x');a.pop();alert(1);new F();a.push('x');
abbrev entered_by_read : Program
entered_by_read = record {
  scopes =
      (record { params = 0; names = 0; own = false; body = stmts ((fun_decl 2001 (Ref.Global 4) 1) ∷ (vars 3001 ((record { site = 3005; variable = (Ref.Global 5); value = Some (list 3007 (exprs [])) }) ∷ [])) ∷ (simple 3010 (assign 3023 None (to_member 3021 (member 3011 (var 3010 (Ref.Global 4)) 1) 0) (var 3024 (Ref.Global 5)))) ∷ (simple 3026 (call 3032 (member 3027 (var 3026 (Ref.Global 5)) 2) (exprs ((lit 3033 (text (codes "x"))) ∷ [])))) ∷ (simple 3038 (call 3043 (member 3039 (var 3038 (Ref.Global 5)) 3) (exprs []))) ∷ (simple 3046 (call 3051 (var 3046 (Ref.Global 0)) (exprs ((lit 3052 (whole (pos 1))) ∷ [])))) ∷ (simple 3055 (new 3055 (var 3059 (Ref.Global 4)) (exprs []))) ∷ (simple 3063 (call 3069 (member 3064 (var 3063 (Ref.Global 5)) 2) (exprs ((lit 3070 (text (codes "x"))) ∷ [])))) ∷ []); parent = None; doc = 0 })
      ∷ (record { params = 0; names = 0; own = false; body = stmts ((simple 2042 (member 2046 (this 2042) 0)) ∷ []); parent = None; doc = 2 }) ∷ [];
  chunks = (chunk_of [] ∷ []);
  globals = ((record { name = (codes "alert"); chunk = None; doc = 0; flat = [] }) ∷ (record { name = (codes "Object"); chunk = None; doc = 0; flat = [] }) ∷ (record { name = (codes "Math"); chunk = None; doc = 0; flat = [] }) ∷ (record { name = (codes "String"); chunk = None; doc = 0; flat = [] }) ∷ (record { name = (codes "F"); chunk = Some 0; doc = 0; flat = [] }) ∷ (record { name = (codes "a"); chunk = Some 0; doc = 0; flat = [] }) ∷ []);
  props = (prop (codes "n") ∷ kept_prop (codes "prototype") ∷ kept_prop (codes "push") ∷ kept_prop (codes "pop") ∷ []);
  kept = always_kept;
  classes = ((record { name = (codes "F"); function = Some 1; external = false; interface = false; extends = None; implements = []; methods = []; fields = ((0, 1) ∷ []) }) ∷ []);
  places = [];
  docs = (no_doc ∷ (record no_doc { value = Some (record { kinds = 16; classes = []; unknown = false; element = Some (record { kinds = 1; classes = [] }) }) }) ∷ (record no_doc { params = []; result = None; receiver = None; vars = [] }) ∷ []);
}

entered_by_read_run : run checked entered_by_read (record { turns = (load 0 ∷ []); replies = ((record { first = []; answer = gives undef }) ∷ []) }) 40 ≡ record { events = (called (shown_out 0) undef ((shown_prim (whole (pos 1))) ∷ []) ∷ []); end = stopped (broken 6 (at_site 3069)) }
unfolding opened
entered_by_read_run = refl

--     var a=['x'];/** @type {Array<number>} */var b=a;
abbrev elements_of_type : Program
elements_of_type = record {
  scopes =
      (record { params = 0; names = 0; own = false; body = stmts ((vars 1001 ((record { site = 1005; variable = (Ref.Global 4); value = Some (list 1007 (exprs ((lit 1008 (text (codes "x"))) ∷ []))) }) ∷ [])) ∷ (vars 1041 ((record { site = 1045; variable = (Ref.Global 5); value = Some (var 1047 (Ref.Global 4)) }) ∷ [])) ∷ []); parent = None; doc = 0 }) ∷ [];
  chunks = (chunk_of [] ∷ []);
  globals = ((record { name = (codes "alert"); chunk = None; doc = 0; flat = [] }) ∷ (record { name = (codes "Object"); chunk = None; doc = 0; flat = [] }) ∷ (record { name = (codes "Math"); chunk = None; doc = 0; flat = [] }) ∷ (record { name = (codes "String"); chunk = None; doc = 0; flat = [] }) ∷ (record { name = (codes "a"); chunk = Some 0; doc = 0; flat = [] }) ∷ (record { name = (codes "b"); chunk = Some 0; doc = 1; flat = [] }) ∷ []);
  props = [];
  kept = always_kept;
  classes = [];
  places = [];
  docs = (no_doc ∷ (record no_doc { value = Some (record { kinds = 16; classes = []; unknown = false; element = Some (record { kinds = 1; classes = [] }) }); constant = false; define = false }) ∷ []);
}

elements_of_type_run : run checked elements_of_type (record { turns = (load 0 ∷ []); replies = [] }) 40 ≡ record { events = []; end = stopped (broken 6 (at_site 1045)) }
unfolding opened
elements_of_type_run = refl

--     var ns={};function f(){return ns.c;}f();/** @const */ns.c=1;
abbrev path_const : Program
path_const = record {
  scopes =
      (record { params = 0; names = 0; own = false; body = stmts ((vars 1001 ((record { site = 1005; variable = (Ref.Global 4); value = Some (object 1008 (fields [])) }) ∷ [])) ∷ (fun_decl 1011 (Ref.Global 5) 1) ∷ (simple 1037 (call 1038 (var 1037 (Ref.Global 5)) (exprs []))) ∷ (simple 1054 (assign 1058 None (to_member 1056 (var 1054 (Ref.Global 4)) 0) (lit 1059 (whole (pos 1))))) ∷ []); parent = None; doc = 0 })
      ∷ (record { params = 0; names = 0; own = false; body = stmts ((return 1024 (Some (member 1033 (var 1031 (Ref.Global 4)) 0))) ∷ []); parent = None; doc = 0 }) ∷ [];
  chunks = (chunk_of [] ∷ []);
  globals = ((record { name = (codes "alert"); chunk = None; doc = 0; flat = [] }) ∷ (record { name = (codes "Object"); chunk = None; doc = 0; flat = [] }) ∷ (record { name = (codes "Math"); chunk = None; doc = 0; flat = [] }) ∷ (record { name = (codes "String"); chunk = None; doc = 0; flat = [] }) ∷ (record { name = (codes "ns"); chunk = Some 0; doc = 0; flat = ((record { props = (0 ∷ []); doc = 1 }) ∷ []) }) ∷ (record { name = (codes "f"); chunk = Some 0; doc = 0; flat = [] }) ∷ []);
  props = (prop (codes "c") ∷ []);
  kept = always_kept;
  classes = [];
  places = [];
  docs = (no_doc ∷ (record no_doc { value = None; constant = true }) ∷ []);
}

path_const_run : run checked path_const (record { turns = (load 0 ∷ []); replies = [] }) 40 ≡ record { events = []; end = stopped (broken 11 (at_site 1033)) }
unfolding opened
path_const_run = refl

--     var ns={};/** @type {number} */ns.c='x';
abbrev path_type : Program
path_type = record {
  scopes =
      (record { params = 0; names = 0; own = false; body = stmts ((vars 1001 ((record { site = 1005; variable = (Ref.Global 4); value = Some (object 1008 (fields [])) }) ∷ [])) ∷ (simple 1032 (assign 1036 None (to_member 1034 (var 1032 (Ref.Global 4)) 0) (lit 1037 (text (codes "x"))))) ∷ []); parent = None; doc = 0 }) ∷ [];
  chunks = (chunk_of [] ∷ []);
  globals = ((record { name = (codes "alert"); chunk = None; doc = 0; flat = [] }) ∷ (record { name = (codes "Object"); chunk = None; doc = 0; flat = [] }) ∷ (record { name = (codes "Math"); chunk = None; doc = 0; flat = [] }) ∷ (record { name = (codes "String"); chunk = None; doc = 0; flat = [] }) ∷ (record { name = (codes "ns"); chunk = Some 0; doc = 0; flat = ((record { props = (0 ∷ []); doc = 1 }) ∷ []) }) ∷ []);
  props = (prop (codes "c") ∷ []);
  kept = always_kept;
  classes = [];
  places = [];
  docs = (no_doc ∷ (record no_doc { value = Some (record { kinds = 1; classes = []; unknown = false; element = None }); constant = false }) ∷ []);
}

path_type_run : run checked path_type (record { turns = (load 0 ∷ []); replies = [] }) 40 ≡ record { events = []; end = stopped (broken 6 (at_site 1034)) }
unfolding opened
path_type_run = refl

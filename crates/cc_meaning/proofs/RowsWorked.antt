-- Programs with the reports that they were given with.
use Rattle.std.specs.Prelude.{◌≡◌, refl, pos, false, [], ◌∷◌, Some, None, codes}
use Rattle.cc_ast.specs.Syntax.{Prim, whole, text, lit, var, this, fun, object, binary, assign, member, index, call, new, to_member, to_index, in_declared, simple, vars, fun_decl, for_in, return, throw, try, absent, present, Program}
use Rattle.cc_ast.specs.declared.operator.BinOp.TheVariants.{Add}
use Rattle.cc_ast.specs.declared.tree.Ref.{Ref}
use Rattle.cc_ast.specs.declared.tree.Key.{Key}
use Rattle.cc_meaning.specs.Values.{shown_prim, shown_out, handle, called, put, ended, at_site}
use Rattle.cc_meaning.specs.State.{gives}
use Rattle.cc_meaning.specs.Monad.{spent, waits, broken}
use Rattle.cc_meaning.specs.Names.{always_kept}
use Rattle.cc_meaning.specs.Script.{load, call as call_turn, run, checked, plain, finished, stopped}
use Rattle.cc_meaning.proofs.Opened.{opened}
use Rattle.cc_meaning.proofs.Trees.{exprs, fields, stmts, no_doc, chunk_of, prop, kept_prop, undef, stext}

--     var greeting='hi';alert(greeting);
abbrev greeting : Program
greeting = record {
  scopes =
      (record { params = 0; names = 0; own = false; body = stmts ((vars 1001 ((record { site = 1005; variable = (Ref.Global 4); value = Some (lit 1014 (text (codes "hi"))) }) ∷ [])) ∷ (simple 1019 (call 1024 (var 1019 (Ref.Global 0)) (exprs ((var 1025 (Ref.Global 4)) ∷ [])))) ∷ []); parent = None; doc = 0 }) ∷ [];
  chunks = (chunk_of [] ∷ []);
  globals = ((record { name = (codes "alert"); chunk = None; doc = 0; flat = [] }) ∷ (record { name = (codes "Object"); chunk = None; doc = 0; flat = [] }) ∷ (record { name = (codes "Math"); chunk = None; doc = 0; flat = [] }) ∷ (record { name = (codes "String"); chunk = None; doc = 0; flat = [] }) ∷ (record { name = (codes "greeting"); chunk = Some 0; doc = 0; flat = [] }) ∷ []);
  props = [];
  kept = always_kept;
  classes = [];
  places = [];
  docs = (no_doc ∷ []);
}

greeting_run : run checked greeting (record { turns = (load 0 ∷ []); replies = ((record { first = []; answer = gives undef }) ∷ []) }) 40 ≡ record { events = (called (shown_out 0) undef ((stext (codes "hi")) ∷ []) ∷ ended undef ∷ []); end = finished }
unfolding opened
greeting_run = refl

greeting_waits : run checked greeting (record { turns = (load 0 ∷ []); replies = [] }) 40 ≡ record { events = (called (shown_out 0) undef ((stext (codes "hi")) ∷ []) ∷ []); end = stopped waits }
unfolding opened
greeting_waits = refl

--     var o={};o.foo=1;o['foo']=2;alert(o['foo']);
abbrev quoted_and_dotted : Program
quoted_and_dotted = record {
  scopes =
      (record { params = 0; names = 0; own = false; body = stmts ((vars 1001 ((record { site = 1005; variable = (Ref.Global 4); value = Some (object 1007 (fields [])) }) ∷ [])) ∷ (simple 1010 (assign 1015 None (to_member 1011 (var 1010 (Ref.Global 4)) 0) (lit 1016 (whole (pos 1))))) ∷ (simple 1018 (assign 1026 None (to_index 1019 (var 1018 (Ref.Global 4)) (lit 1020 (text (codes "foo")))) (lit 1027 (whole (pos 2))))) ∷ (simple 1029 (call 1034 (var 1029 (Ref.Global 0)) (exprs ((index 1036 (var 1035 (Ref.Global 4)) (lit 1037 (text (codes "foo")))) ∷ [])))) ∷ []); parent = None; doc = 0 }) ∷ [];
  chunks = (chunk_of [] ∷ []);
  globals = ((record { name = (codes "alert"); chunk = None; doc = 0; flat = [] }) ∷ (record { name = (codes "Object"); chunk = None; doc = 0; flat = [] }) ∷ (record { name = (codes "Math"); chunk = None; doc = 0; flat = [] }) ∷ (record { name = (codes "String"); chunk = None; doc = 0; flat = [] }) ∷ (record { name = (codes "o"); chunk = Some 0; doc = 0; flat = [] }) ∷ []);
  props = (prop (codes "foo") ∷ []);
  kept = always_kept;
  classes = [];
  places = [];
  docs = (no_doc ∷ []);
}

quoted_and_dotted_run : run checked quoted_and_dotted (record { turns = (load 0 ∷ []); replies = [] }) 40 ≡ record { events = []; end = stopped (broken 7 (at_site 1019)) }
unfolding opened
quoted_and_dotted_run = refl

--     function f(x){return x+1;}window['f']=f;
abbrev exported : Program
exported = record {
  scopes =
      (record { params = 0; names = 0; own = false; body = stmts ((fun_decl 1001 (Ref.Global 4) 1) ∷ (simple 1027 (assign 1038 None (to_index 1033 (var 1027 (Ref.Global 0)) (lit 1034 (text (codes "f")))) (var 1039 (Ref.Global 4)))) ∷ []); parent = None; doc = 0 })
      ∷ (record { params = 1; names = 0; own = false; body = stmts ((return 1015 (Some (binary 1023 Add (var 1022 (Ref.Frame 0 0)) (lit 1024 (whole (pos 1)))))) ∷ []); parent = None; doc = 0 }) ∷ [];
  chunks = (chunk_of [] ∷ []);
  globals = ((record { name = (codes "window"); chunk = None; doc = 0; flat = [] }) ∷ (record { name = (codes "Object"); chunk = None; doc = 0; flat = [] }) ∷ (record { name = (codes "Math"); chunk = None; doc = 0; flat = [] }) ∷ (record { name = (codes "String"); chunk = None; doc = 0; flat = [] }) ∷ (record { name = (codes "f"); chunk = Some 0; doc = 0; flat = [] }) ∷ []);
  props = [];
  kept = always_kept;
  classes = [];
  places = [];
  docs = (no_doc ∷ []);
}

exported_run : run checked exported (record { turns = (load 0 ∷ call_turn (record { callee = 0; this = undef; args = ((shown_prim (whole (pos 4))) ∷ []) }) ∷ []); replies = [] }) 40 ≡ record { events = (put (shown_out 0) (codes "f") (handle 0) ∷ ended undef ∷ ended (shown_prim (whole (pos 5))) ∷ []); end = finished }
unfolding opened
exported_run = refl

exported_plain : run plain exported (record { turns = (load 0 ∷ call_turn (record { callee = 0; this = undef; args = ((shown_prim (whole (pos 4))) ∷ []) }) ∷ []); replies = [] }) 40 ≡ record { events = (put (shown_out 0) (codes "f") (handle 0) ∷ ended undef ∷ ended (shown_prim (whole (pos 5))) ∷ []); end = finished }
unfolding opened
exported_plain = refl

--     /** @constructor */
--     function Cat(){}
--     Cat.prototype.draw=function(){alert('c');};
--     /** @constructor */
--     function Dog(){}
--     Dog.prototype.draw=function(){alert('d');};
--     function show(p){p.draw();}show(new Cat());show(new Dog());
abbrev draws : Program
draws = record {
  scopes =
      (record { params = 0; names = 0; own = false; body = stmts ((fun_decl 2001 (Ref.Global 4) 1) ∷ (simple 3001 (assign 3019 None (to_member 3014 (member 3004 (var 3001 (Ref.Global 4)) 0) 1) (fun 3020 2))) ∷ (fun_decl 5001 (Ref.Global 5) 3) ∷ (simple 6001 (assign 6019 None (to_member 6014 (member 6004 (var 6001 (Ref.Global 5)) 0) 1) (fun 6020 4))) ∷ (fun_decl 7001 (Ref.Global 6) 5) ∷ (simple 7028 (call 7032 (var 7028 (Ref.Global 6)) (exprs ((new 7033 (var 7037 (Ref.Global 4)) (exprs [])) ∷ [])))) ∷ (simple 7044 (call 7048 (var 7044 (Ref.Global 6)) (exprs ((new 7049 (var 7053 (Ref.Global 5)) (exprs [])) ∷ [])))) ∷ []); parent = None; doc = 0 })
      ∷ (record { params = 0; names = 0; own = false; body = stmts []; parent = None; doc = 1 })
      ∷ (record { params = 0; names = 0; own = false; body = stmts ((simple 3031 (call 3036 (var 3031 (Ref.Global 0)) (exprs ((lit 3037 (text (codes "c"))) ∷ [])))) ∷ []); parent = None; doc = 0 })
      ∷ (record { params = 0; names = 0; own = false; body = stmts []; parent = None; doc = 2 })
      ∷ (record { params = 0; names = 0; own = false; body = stmts ((simple 6031 (call 6036 (var 6031 (Ref.Global 0)) (exprs ((lit 6037 (text (codes "d"))) ∷ [])))) ∷ []); parent = None; doc = 0 })
      ∷ (record { params = 1; names = 0; own = false; body = stmts ((simple 7018 (call 7024 (member 7019 (var 7018 (Ref.Frame 0 0)) 1) (exprs []))) ∷ []); parent = None; doc = 0 }) ∷ [];
  chunks = (chunk_of [] ∷ []);
  globals = ((record { name = (codes "alert"); chunk = None; doc = 0; flat = [] }) ∷ (record { name = (codes "Object"); chunk = None; doc = 0; flat = [] }) ∷ (record { name = (codes "Math"); chunk = None; doc = 0; flat = [] }) ∷ (record { name = (codes "String"); chunk = None; doc = 0; flat = [] }) ∷ (record { name = (codes "Cat"); chunk = Some 0; doc = 0; flat = [] }) ∷ (record { name = (codes "Dog"); chunk = Some 0; doc = 0; flat = [] }) ∷ (record { name = (codes "show"); chunk = Some 0; doc = 0; flat = [] }) ∷ []);
  props = (kept_prop (codes "prototype") ∷ prop (codes "draw") ∷ []);
  kept = always_kept;
  classes = ((record { name = (codes "Cat"); function = Some 1; external = false; interface = false; extends = None; implements = []; methods = ((1, 2) ∷ []); fields = [] }) ∷ (record { name = (codes "Dog"); function = Some 3; external = false; interface = false; extends = None; implements = []; methods = ((1, 4) ∷ []); fields = [] }) ∷ []);
  places = [];
  docs = (no_doc ∷ (record no_doc { params = []; result = None; receiver = None; vars = [] }) ∷ (record no_doc { params = []; result = None; receiver = None; vars = [] }) ∷ []);
}

draws_run : run checked draws (record { turns = (load 0 ∷ []); replies = ((record { first = []; answer = gives undef }) ∷ (record { first = []; answer = gives undef }) ∷ []) }) 40 ≡ record { events = (called (shown_out 0) undef ((stext (codes "c")) ∷ []) ∷ called (shown_out 0) undef ((stext (codes "d")) ∷ []) ∷ ended undef ∷ []); end = finished }
unfolding opened
draws_run = refl

--     /** @constructor */
--     function Base(){}
--     Base.prototype.go=function(){alert(1);};
--     /** @constructor @extends {Base} */
--     function Sub(){}
--     Sub.prototype=Object.create(Base.prototype);
--     Sub.prototype.go=function(){alert(2);};
--     /** @param {Base} b */
--     function run(b){b.go();}
--     run(new Sub());
abbrev prototypes : Program
prototypes = record {
  scopes =
      (record { params = 0; names = 0; own = false; body = stmts ((fun_decl 2001 (Ref.Global 4) 1) ∷ (simple 3001 (assign 3018 None (to_member 3015 (member 3005 (var 3001 (Ref.Global 4)) 0) 1) (fun 3019 2))) ∷ (fun_decl 5001 (Ref.Global 5) 3) ∷ (simple 6001 (assign 6014 None (to_member 6004 (var 6001 (Ref.Global 5)) 0) (call 6028 (member 6021 (var 6015 (Ref.Global 1)) 2) (exprs ((member 6033 (var 6029 (Ref.Global 4)) 0) ∷ []))))) ∷ (simple 7001 (assign 7017 None (to_member 7014 (member 7004 (var 7001 (Ref.Global 5)) 0) 1) (fun 7018 4))) ∷ (fun_decl 9001 (Ref.Global 6) 5) ∷ (simple 10001 (call 10004 (var 10001 (Ref.Global 6)) (exprs ((new 10005 (var 10009 (Ref.Global 5)) (exprs [])) ∷ [])))) ∷ []); parent = None; doc = 0 })
      ∷ (record { params = 0; names = 0; own = false; body = stmts []; parent = None; doc = 1 })
      ∷ (record { params = 0; names = 0; own = false; body = stmts ((simple 3030 (call 3035 (var 3030 (Ref.Global 0)) (exprs ((lit 3036 (whole (pos 1))) ∷ [])))) ∷ []); parent = None; doc = 0 })
      ∷ (record { params = 0; names = 0; own = false; body = stmts []; parent = None; doc = 2 })
      ∷ (record { params = 0; names = 0; own = false; body = stmts ((simple 7029 (call 7034 (var 7029 (Ref.Global 0)) (exprs ((lit 7035 (whole (pos 2))) ∷ [])))) ∷ []); parent = None; doc = 0 })
      ∷ (record { params = 1; names = 0; own = false; body = stmts ((simple 9017 (call 9021 (member 9018 (var 9017 (Ref.Frame 0 0)) 1) (exprs []))) ∷ []); parent = None; doc = 3 }) ∷ [];
  chunks = (chunk_of [] ∷ []);
  globals = ((record { name = (codes "alert"); chunk = None; doc = 0; flat = [] }) ∷ (record { name = (codes "Object"); chunk = None; doc = 0; flat = [] }) ∷ (record { name = (codes "Math"); chunk = None; doc = 0; flat = [] }) ∷ (record { name = (codes "String"); chunk = None; doc = 0; flat = [] }) ∷ (record { name = (codes "Base"); chunk = Some 0; doc = 0; flat = [] }) ∷ (record { name = (codes "Sub"); chunk = Some 0; doc = 0; flat = [] }) ∷ (record { name = (codes "run"); chunk = Some 0; doc = 0; flat = [] }) ∷ []);
  props = (kept_prop (codes "prototype") ∷ prop (codes "go") ∷ kept_prop (codes "create") ∷ []);
  kept = always_kept;
  classes = ((record { name = (codes "Base"); function = Some 1; external = false; interface = false; extends = None; implements = []; methods = ((1, 2) ∷ []); fields = [] }) ∷ (record { name = (codes "Sub"); function = Some 3; external = false; interface = false; extends = Some 0; implements = []; methods = ((1, 4) ∷ []); fields = [] }) ∷ []);
  places = [];
  docs = (no_doc ∷ (record no_doc { params = []; result = None; receiver = None; vars = [] }) ∷ (record no_doc { params = []; result = None; receiver = None; vars = [] }) ∷ (record no_doc { params = (Some (record { kinds = 0; classes = (0 ∷ []); unknown = false; element = None }) ∷ []); result = None; receiver = None; vars = [] }) ∷ []);
}

prototypes_run : run checked prototypes (record { turns = (load 0 ∷ []); replies = ((record { first = []; answer = gives undef }) ∷ []) }) 40 ≡ record { events = (called (shown_out 0) undef ((shown_prim (whole (pos 2))) ∷ []) ∷ ended undef ∷ []); end = finished }
unfolding opened
prototypes_run = refl

prototypes_plain : run plain prototypes (record { turns = (load 0 ∷ []); replies = ((record { first = []; answer = gives undef }) ∷ []) }) 40 ≡ record { events = (called (shown_out 0) undef ((shown_prim (whole (pos 2))) ∷ []) ∷ ended undef ∷ []); end = finished }
unfolding opened
prototypes_plain = refl

--     var ns={};ns.a={};ns.a.b=function(x){alert(x);};ns.a.b(1);
abbrev paths : Program
paths = record {
  scopes =
      (record { params = 0; names = 0; own = false; body = stmts ((vars 1001 ((record { site = 1005; variable = (Ref.Global 4); value = Some (object 1008 (fields [])) }) ∷ [])) ∷ (simple 1011 (assign 1015 None (to_member 1013 (var 1011 (Ref.Global 4)) 0) (object 1016 (fields [])))) ∷ (simple 1019 (assign 1025 None (to_member 1023 (member 1021 (var 1019 (Ref.Global 4)) 0) 1) (fun 1026 1))) ∷ (simple 1049 (call 1055 (member 1053 (member 1051 (var 1049 (Ref.Global 4)) 0) 1) (exprs ((lit 1056 (whole (pos 1))) ∷ [])))) ∷ []); parent = None; doc = 0 })
      ∷ (record { params = 1; names = 0; own = false; body = stmts ((simple 1038 (call 1043 (var 1038 (Ref.Global 0)) (exprs ((var 1044 (Ref.Frame 0 0)) ∷ [])))) ∷ []); parent = None; doc = 0 }) ∷ [];
  chunks = (chunk_of [] ∷ []);
  globals = ((record { name = (codes "alert"); chunk = None; doc = 0; flat = [] }) ∷ (record { name = (codes "Object"); chunk = None; doc = 0; flat = [] }) ∷ (record { name = (codes "Math"); chunk = None; doc = 0; flat = [] }) ∷ (record { name = (codes "String"); chunk = None; doc = 0; flat = [] }) ∷ (record { name = (codes "ns"); chunk = Some 0; doc = 0; flat = ((record { props = (0 ∷ []); doc = 0 }) ∷ (record { props = (0 ∷ 1 ∷ []); doc = 0 }) ∷ []) }) ∷ []);
  props = (prop (codes "a") ∷ prop (codes "b") ∷ []);
  kept = always_kept;
  classes = [];
  places = [];
  docs = (no_doc ∷ []);
}

paths_run : run checked paths (record { turns = (load 0 ∷ []); replies = ((record { first = []; answer = gives undef }) ∷ []) }) 40 ≡ record { events = (called (shown_out 0) undef ((shown_prim (whole (pos 1))) ∷ []) ∷ ended undef ∷ []); end = finished }
unfolding opened
paths_run = refl

--     /** @constructor */
--     function F(){}
--     F.n=1;
--     F.get=function(){return this.n;};
--     alert(F.get());
abbrev static_this : Program
static_this = record {
  scopes =
      (record { params = 0; names = 0; own = false; body = stmts ((fun_decl 2001 (Ref.Global 4) 1) ∷ (simple 3001 (assign 3004 None (to_member 3002 (var 3001 (Ref.Global 4)) 0) (lit 3005 (whole (pos 1))))) ∷ (simple 4001 (assign 4006 None (to_member 4002 (var 4001 (Ref.Global 4)) 1) (fun 4007 2))) ∷ (simple 5001 (call 5006 (var 5001 (Ref.Global 0)) (exprs ((call 5012 (member 5008 (var 5007 (Ref.Global 4)) 1) (exprs [])) ∷ [])))) ∷ []); parent = None; doc = 0 })
      ∷ (record { params = 0; names = 0; own = false; body = stmts []; parent = None; doc = 1 })
      ∷ (record { params = 0; names = 0; own = false; body = stmts ((return 4018 (Some (member 4029 (this 4025) 0))) ∷ []); parent = None; doc = 0 }) ∷ [];
  chunks = (chunk_of [] ∷ []);
  globals = ((record { name = (codes "alert"); chunk = None; doc = 0; flat = [] }) ∷ (record { name = (codes "Object"); chunk = None; doc = 0; flat = [] }) ∷ (record { name = (codes "Math"); chunk = None; doc = 0; flat = [] }) ∷ (record { name = (codes "String"); chunk = None; doc = 0; flat = [] }) ∷ (record { name = (codes "F"); chunk = Some 0; doc = 0; flat = ((record { props = (0 ∷ []); doc = 0 }) ∷ (record { props = (1 ∷ []); doc = 0 }) ∷ []) }) ∷ []);
  props = (prop (codes "n") ∷ prop (codes "get") ∷ []);
  kept = always_kept;
  classes = ((record { name = (codes "F"); function = Some 1; external = false; interface = false; extends = None; implements = []; methods = []; fields = [] }) ∷ []);
  places = [];
  docs = (no_doc ∷ (record no_doc { params = []; result = None; receiver = None; vars = [] }) ∷ []);
}

static_this_run : run checked static_this (record { turns = (load 0 ∷ []); replies = [] }) 40 ≡ record { events = []; end = stopped (broken 4 (at_site 4025)) }
unfolding opened
static_this_run = refl

-- base
--     function help(s){alert(s);}alert(0);
-- x
--     help(1);
-- y
--     alert(2);
abbrev two_chunks : Program
two_chunks = record {
  scopes =
      (record { params = 0; names = 0; own = false; body = stmts ((fun_decl 1001 (Ref.Global 4) 3) ∷ (simple 1028 (call 1033 (var 1028 (Ref.Global 0)) (exprs ((lit 1034 (whole (pos 0))) ∷ [])))) ∷ []); parent = None; doc = 0 })
      ∷ (record { params = 0; names = 0; own = false; body = stmts ((simple 1001 (call 1005 (var 1001 (Ref.Global 4)) (exprs ((lit 1006 (whole (pos 1))) ∷ [])))) ∷ []); parent = None; doc = 0 })
      ∷ (record { params = 0; names = 0; own = false; body = stmts ((simple 1001 (call 1006 (var 1001 (Ref.Global 0)) (exprs ((lit 1007 (whole (pos 2))) ∷ [])))) ∷ []); parent = None; doc = 0 })
      ∷ (record { params = 1; names = 0; own = false; body = stmts ((simple 1018 (call 1023 (var 1018 (Ref.Global 0)) (exprs ((var 1024 (Ref.Frame 0 0)) ∷ [])))) ∷ []); parent = None; doc = 0 }) ∷ [];
  chunks = (chunk_of [] ∷ chunk_of (0 ∷ []) ∷ chunk_of (0 ∷ []) ∷ []);
  globals = ((record { name = (codes "alert"); chunk = None; doc = 0; flat = [] }) ∷ (record { name = (codes "Object"); chunk = None; doc = 0; flat = [] }) ∷ (record { name = (codes "Math"); chunk = None; doc = 0; flat = [] }) ∷ (record { name = (codes "String"); chunk = None; doc = 0; flat = [] }) ∷ (record { name = (codes "help"); chunk = Some 0; doc = 0; flat = [] }) ∷ []);
  props = [];
  kept = always_kept;
  classes = [];
  places = [];
  docs = (no_doc ∷ []);
}

two_chunks_run : run checked two_chunks (record { turns = (load 0 ∷ load 2 ∷ []); replies = ((record { first = []; answer = gives undef }) ∷ (record { first = []; answer = gives undef }) ∷ []) }) 40 ≡ record { events = (called (shown_out 0) undef ((shown_prim (whole (pos 0))) ∷ []) ∷ ended undef ∷ called (shown_out 0) undef ((shown_prim (whole (pos 2))) ∷ []) ∷ ended undef ∷ []); end = finished }
unfolding opened
two_chunks_run = refl

-- base
--     /** @constructor */
--     function P(){}
--     P.prototype.hi=function(){alert('hi');};
--     P.prototype.lo=function(){alert('lo');};
--     /** @type {P} */
--     var p=new P();
--     p.lo();
-- x
--     p.hi();
-- y
--     listen(function(){p.lo();});
abbrev late_method : Program
late_method = record {
  scopes =
      (record { params = 0; names = 0; own = false; body = stmts ((fun_decl 2001 (Ref.Global 5) 3) ∷ (simple 3001 (assign 3015 None (to_member 3012 (member 3002 (var 3001 (Ref.Global 5)) 0) 1) (fun 3016 4))) ∷ (simple 4001 (assign 4015 None (to_member 4012 (member 4002 (var 4001 (Ref.Global 5)) 0) 2) (fun 4016 5))) ∷ (vars 6001 ((record { site = 6005; variable = (Ref.Global 6); value = Some (new 6007 (var 6011 (Ref.Global 5)) (exprs [])) }) ∷ [])) ∷ (simple 7001 (call 7005 (member 7002 (var 7001 (Ref.Global 6)) 2) (exprs []))) ∷ []); parent = None; doc = 0 })
      ∷ (record { params = 0; names = 0; own = false; body = stmts ((simple 1001 (call 1005 (member 1002 (var 1001 (Ref.Global 6)) 1) (exprs []))) ∷ []); parent = None; doc = 0 })
      ∷ (record { params = 0; names = 0; own = false; body = stmts ((simple 1001 (call 1007 (var 1001 (Ref.Global 1)) (exprs ((fun 1008 6) ∷ [])))) ∷ []); parent = None; doc = 0 })
      ∷ (record { params = 0; names = 0; own = false; body = stmts []; parent = None; doc = 1 })
      ∷ (record { params = 0; names = 0; own = false; body = stmts ((simple 3027 (call 3032 (var 3027 (Ref.Global 0)) (exprs ((lit 3033 (text (codes "hi"))) ∷ [])))) ∷ []); parent = None; doc = 0 })
      ∷ (record { params = 0; names = 0; own = false; body = stmts ((simple 4027 (call 4032 (var 4027 (Ref.Global 0)) (exprs ((lit 4033 (text (codes "lo"))) ∷ [])))) ∷ []); parent = None; doc = 0 })
      ∷ (record { params = 0; names = 0; own = false; body = stmts ((simple 1019 (call 1023 (member 1020 (var 1019 (Ref.Global 6)) 2) (exprs []))) ∷ []); parent = None; doc = 0 }) ∷ [];
  chunks = (chunk_of [] ∷ chunk_of (0 ∷ []) ∷ chunk_of (0 ∷ []) ∷ []);
  globals = ((record { name = (codes "alert"); chunk = None; doc = 0; flat = [] }) ∷ (record { name = (codes "listen"); chunk = None; doc = 0; flat = [] }) ∷ (record { name = (codes "Object"); chunk = None; doc = 0; flat = [] }) ∷ (record { name = (codes "Math"); chunk = None; doc = 0; flat = [] }) ∷ (record { name = (codes "String"); chunk = None; doc = 0; flat = [] }) ∷ (record { name = (codes "P"); chunk = Some 0; doc = 0; flat = [] }) ∷ (record { name = (codes "p"); chunk = Some 0; doc = 2; flat = [] }) ∷ []);
  props = (kept_prop (codes "prototype") ∷ prop (codes "hi") ∷ prop (codes "lo") ∷ []);
  kept = always_kept;
  classes = ((record { name = (codes "P"); function = Some 3; external = false; interface = false; extends = None; implements = []; methods = ((1, 4) ∷ (2, 5) ∷ []); fields = [] }) ∷ []);
  places = [];
  docs = (no_doc ∷ (record no_doc { params = []; result = None; receiver = None; vars = [] }) ∷ (record no_doc { value = Some (record { kinds = 0; classes = (0 ∷ []); unknown = false; element = None }); constant = false; define = false }) ∷ []);
}

late_method_run : run checked late_method (record { turns = (load 0 ∷ load 2 ∷ call_turn (record { callee = 0; this = undef; args = [] }) ∷ load 1 ∷ []); replies = ((record { first = []; answer = gives undef }) ∷ (record { first = []; answer = gives undef }) ∷ (record { first = []; answer = gives undef }) ∷ (record { first = []; answer = gives undef }) ∷ []) }) 40 ≡ record { events = (called (shown_out 0) undef ((stext (codes "lo")) ∷ []) ∷ ended undef ∷ called (shown_out 1) undef ((handle 0) ∷ []) ∷ ended undef ∷ called (shown_out 0) undef ((stext (codes "lo")) ∷ []) ∷ ended undef ∷ called (shown_out 0) undef ((stext (codes "hi")) ∷ []) ∷ ended undef ∷ []); end = finished }
unfolding opened
late_method_run = refl

--     function g(){try{throw 1;}finally{return 2;}}function h(){return g();}alert(h());
abbrev finally_returns : Program
finally_returns = record {
  scopes =
      (record { params = 0; names = 0; own = false; body = stmts ((fun_decl 1001 (Ref.Global 4) 1) ∷ (fun_decl 1046 (Ref.Global 5) 2) ∷ (simple 1071 (call 1076 (var 1071 (Ref.Global 0)) (exprs ((call 1078 (var 1077 (Ref.Global 5)) (exprs [])) ∷ [])))) ∷ []); parent = None; doc = 0 })
      ∷ (record { params = 0; names = 0; own = false; body = stmts ((try 1014 (stmts ((throw 1018 (lit 1024 (whole (pos 1)))) ∷ [])) absent (present (stmts ((return 1035 (Some (lit 1042 (whole (pos 2))))) ∷ [])))) ∷ []); parent = None; doc = 0 })
      ∷ (record { params = 0; names = 0; own = false; body = stmts ((return 1059 (Some (call 1067 (var 1066 (Ref.Global 4)) (exprs [])))) ∷ []); parent = None; doc = 0 }) ∷ [];
  chunks = (chunk_of [] ∷ []);
  globals = ((record { name = (codes "alert"); chunk = None; doc = 0; flat = [] }) ∷ (record { name = (codes "Object"); chunk = None; doc = 0; flat = [] }) ∷ (record { name = (codes "Math"); chunk = None; doc = 0; flat = [] }) ∷ (record { name = (codes "String"); chunk = None; doc = 0; flat = [] }) ∷ (record { name = (codes "g"); chunk = Some 0; doc = 0; flat = [] }) ∷ (record { name = (codes "h"); chunk = Some 0; doc = 0; flat = [] }) ∷ []);
  props = [];
  kept = always_kept;
  classes = [];
  places = [];
  docs = (no_doc ∷ []);
}

finally_returns_run : run checked finally_returns (record { turns = (load 0 ∷ []); replies = ((record { first = []; answer = gives undef }) ∷ []) }) 40 ≡ record { events = (called (shown_out 0) undef ((shown_prim (whole (pos 2))) ∷ []) ∷ ended undef ∷ []); end = finished }
unfolding opened
finally_returns_run = refl

finally_returns_spent : run checked finally_returns (record { turns = (load 0 ∷ []); replies = ((record { first = []; answer = gives undef }) ∷ []) }) 2 ≡ record { events = []; end = stopped spent }
unfolding opened
finally_returns_spent = refl

--     alert(9007199254740990+1);
abbrev greatest : Program
greatest = record {
  scopes =
      (record { params = 0; names = 0; own = false; body = stmts ((simple 1001 (call 1006 (var 1001 (Ref.Global 0)) (exprs ((binary 1023 Add (lit 1007 (whole (pos 9007199254740990))) (lit 1024 (whole (pos 1)))) ∷ [])))) ∷ []); parent = None; doc = 0 }) ∷ [];
  chunks = (chunk_of [] ∷ []);
  globals = ((record { name = (codes "alert"); chunk = None; doc = 0; flat = [] }) ∷ (record { name = (codes "Object"); chunk = None; doc = 0; flat = [] }) ∷ (record { name = (codes "Math"); chunk = None; doc = 0; flat = [] }) ∷ (record { name = (codes "String"); chunk = None; doc = 0; flat = [] }) ∷ []);
  props = [];
  kept = always_kept;
  classes = [];
  places = [];
  docs = (no_doc ∷ []);
}

greatest_run : run checked greatest (record { turns = (load 0 ∷ []); replies = ((record { first = []; answer = gives undef }) ∷ []) }) 40 ≡ record { events = (called (shown_out 0) undef ((shown_prim (whole (pos 9007199254740991))) ∷ []) ∷ ended undef ∷ []); end = finished }
unfolding opened
greatest_run = refl

--     alert(9007199254740991+1);
abbrev past_greatest : Program
past_greatest = record {
  scopes =
      (record { params = 0; names = 0; own = false; body = stmts ((simple 1001 (call 1006 (var 1001 (Ref.Global 0)) (exprs ((binary 1023 Add (lit 1007 (whole (pos 9007199254740991))) (lit 1024 (whole (pos 1)))) ∷ [])))) ∷ []); parent = None; doc = 0 }) ∷ [];
  chunks = (chunk_of [] ∷ []);
  globals = ((record { name = (codes "alert"); chunk = None; doc = 0; flat = [] }) ∷ (record { name = (codes "Object"); chunk = None; doc = 0; flat = [] }) ∷ (record { name = (codes "Math"); chunk = None; doc = 0; flat = [] }) ∷ (record { name = (codes "String"); chunk = None; doc = 0; flat = [] }) ∷ []);
  props = [];
  kept = always_kept;
  classes = [];
  places = [];
  docs = (no_doc ∷ []);
}

past_greatest_run : run checked past_greatest (record { turns = (load 0 ∷ []); replies = [] }) 40 ≡ record { events = []; end = stopped (broken 1 (at_site 1023)) }
unfolding opened
past_greatest_run = refl

--     var d={'2':1,'b':2,'1':3};for(var k in d)alert(k);
abbrev name_order : Program
name_order = record {
  scopes =
      (record { params = 0; names = 0; own = false; body = stmts ((vars 1001 ((record { site = 1005; variable = (Ref.Global 4); value = Some (object 1007 (fields ((Key.Quoted (codes "2"), (lit 1012 (whole (pos 1)))) ∷ (Key.Quoted (codes "b"), (lit 1018 (whole (pos 2)))) ∷ (Key.Quoted (codes "1"), (lit 1024 (whole (pos 3)))) ∷ []))) }) ∷ [])) ∷ (for_in 1027 (in_declared (record { site = 1035; variable = (Ref.Global 5); value = None })) (var 1040 (Ref.Global 4)) (stmts ((simple 1042 (call 1047 (var 1042 (Ref.Global 0)) (exprs ((var 1048 (Ref.Global 5)) ∷ [])))) ∷ []))) ∷ []); parent = None; doc = 0 }) ∷ [];
  chunks = (chunk_of [] ∷ []);
  globals = ((record { name = (codes "alert"); chunk = None; doc = 0; flat = [] }) ∷ (record { name = (codes "Object"); chunk = None; doc = 0; flat = [] }) ∷ (record { name = (codes "Math"); chunk = None; doc = 0; flat = [] }) ∷ (record { name = (codes "String"); chunk = None; doc = 0; flat = [] }) ∷ (record { name = (codes "d"); chunk = Some 0; doc = 0; flat = [] }) ∷ (record { name = (codes "k"); chunk = Some 0; doc = 0; flat = [] }) ∷ []);
  props = [];
  kept = always_kept;
  classes = [];
  places = [];
  docs = (no_doc ∷ []);
}

name_order_run : run checked name_order (record { turns = (load 0 ∷ []); replies = ((record { first = []; answer = gives undef }) ∷ (record { first = []; answer = gives undef }) ∷ (record { first = []; answer = gives undef }) ∷ []) }) 40 ≡ record { events = (called (shown_out 0) undef ((stext (codes "1")) ∷ []) ∷ called (shown_out 0) undef ((stext (codes "2")) ∷ []) ∷ called (shown_out 0) undef ((stext (codes "b")) ∷ []) ∷ ended undef ∷ []); end = finished }
unfolding opened
name_order_run = refl

name_order_plain : run plain name_order (record { turns = (load 0 ∷ []); replies = ((record { first = []; answer = gives undef }) ∷ (record { first = []; answer = gives undef }) ∷ (record { first = []; answer = gives undef }) ∷ []) }) 40 ≡ record { events = (called (shown_out 0) undef ((stext (codes "1")) ∷ []) ∷ called (shown_out 0) undef ((stext (codes "2")) ∷ []) ∷ called (shown_out 0) undef ((stext (codes "b")) ∷ []) ∷ ended undef ∷ []); end = finished }
unfolding opened
name_order_plain = refl

--     var o={x:1};for(var k in o)alert(k);
abbrev dotted_name : Program
dotted_name = record {
  scopes =
      (record { params = 0; names = 0; own = false; body = stmts ((vars 1001 ((record { site = 1005; variable = (Ref.Global 4); value = Some (object 1007 (fields ((Key.Dotted 0, (lit 1010 (whole (pos 1)))) ∷ []))) }) ∷ [])) ∷ (for_in 1013 (in_declared (record { site = 1021; variable = (Ref.Global 5); value = None })) (var 1026 (Ref.Global 4)) (stmts ((simple 1028 (call 1033 (var 1028 (Ref.Global 0)) (exprs ((var 1034 (Ref.Global 5)) ∷ [])))) ∷ []))) ∷ []); parent = None; doc = 0 }) ∷ [];
  chunks = (chunk_of [] ∷ []);
  globals = ((record { name = (codes "alert"); chunk = None; doc = 0; flat = [] }) ∷ (record { name = (codes "Object"); chunk = None; doc = 0; flat = [] }) ∷ (record { name = (codes "Math"); chunk = None; doc = 0; flat = [] }) ∷ (record { name = (codes "String"); chunk = None; doc = 0; flat = [] }) ∷ (record { name = (codes "o"); chunk = Some 0; doc = 0; flat = [] }) ∷ (record { name = (codes "k"); chunk = Some 0; doc = 0; flat = [] }) ∷ []);
  props = (prop (codes "x") ∷ []);
  kept = always_kept;
  classes = [];
  places = [];
  docs = (no_doc ∷ []);
}

dotted_name_run : run checked dotted_name (record { turns = (load 0 ∷ []); replies = [] }) 40 ≡ record { events = []; end = stopped (broken 9 (at_site 1013)) }
unfolding opened
dotted_name_run = refl

--     var o={};o.foo=1;var k='a';alert(o[k]);
abbrev keyed : Program
keyed = record {
  scopes =
      (record { params = 0; names = 0; own = false; body = stmts ((vars 1001 ((record { site = 1005; variable = (Ref.Global 4); value = Some (object 1007 (fields [])) }) ∷ [])) ∷ (simple 1010 (assign 1015 None (to_member 1011 (var 1010 (Ref.Global 4)) 0) (lit 1016 (whole (pos 1))))) ∷ (vars 1018 ((record { site = 1022; variable = (Ref.Global 5); value = Some (lit 1024 (text (codes "a"))) }) ∷ [])) ∷ (simple 1028 (call 1033 (var 1028 (Ref.Global 0)) (exprs ((index 1035 (var 1034 (Ref.Global 4)) (var 1036 (Ref.Global 5))) ∷ [])))) ∷ []); parent = None; doc = 0 }) ∷ [];
  chunks = (chunk_of [] ∷ []);
  globals = ((record { name = (codes "alert"); chunk = None; doc = 0; flat = [] }) ∷ (record { name = (codes "Object"); chunk = None; doc = 0; flat = [] }) ∷ (record { name = (codes "Math"); chunk = None; doc = 0; flat = [] }) ∷ (record { name = (codes "String"); chunk = None; doc = 0; flat = [] }) ∷ (record { name = (codes "o"); chunk = Some 0; doc = 0; flat = [] }) ∷ (record { name = (codes "k"); chunk = Some 0; doc = 0; flat = [] }) ∷ []);
  props = (prop (codes "foo") ∷ []);
  kept = always_kept;
  classes = [];
  places = [];
  docs = (no_doc ∷ []);
}

keyed_run : run checked keyed (record { turns = (load 0 ∷ []); replies = [] }) 40 ≡ record { events = []; end = stopped (broken 8 (at_site 1035)) }
unfolding opened
keyed_run = refl

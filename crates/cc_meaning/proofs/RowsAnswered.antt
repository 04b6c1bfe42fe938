-- Replies that call back, and values that a run shows.
use Rattle.std.specs.Prelude.{◌≡◌, refl, pos, true, false, [], ◌∷◌, ◌++◌, Some, None, codes}
use Rattle.cc_ast.specs.Syntax.{Prim, truth, whole, text, lit, var, fun, list, object, unary, binary, and, assign, step, member, index, call, new, to_var, to_member, to_index, simple, vars, fun_decl, return, Program}
use Rattle.cc_ast.specs.declared.operator.BinOp.TheVariants.{Add, Instance, Has}
use Rattle.cc_ast.specs.declared.operator.UnOp.TheVariants.{Typeof}
use Rattle.cc_ast.specs.declared.tree.Ref.{Ref}
use Rattle.cc_ast.specs.declared.tree.Key.{Key}
use Rattle.cc_meaning.specs.Values.{shown_prim, shown_out, handle, called, got, ended, at_site}
use Rattle.cc_meaning.specs.State.{gives}
use Rattle.cc_meaning.specs.Monad.{broken, strayed}
use Rattle.cc_meaning.specs.Names.{always_kept}
use Rattle.cc_meaning.specs.Script.{load, run, checked, plain, finished, stopped}
use Rattle.cc_meaning.proofs.Opened.{opened}
use Rattle.cc_meaning.proofs.Trees.{exprs, fields, stmts, no_doc, chunk_of, prop, kept_prop, undef, stext}

--     function f(x){return;}var a=1,b=2;a;++b;alert(f(b));
abbrev stepped : Program
stepped = record {
  scopes =
      (record { params = 0; names = 0; own = false; body = stmts ((fun_decl 1001 (Ref.Global 4) 1) ∷ (vars 1023 ((record { site = 1027; variable = (Ref.Global 5); value = Some (lit 1029 (whole (pos 1))) }) ∷ (record { site = 1031; variable = (Ref.Global 6); value = Some (lit 1033 (whole (pos 2))) }) ∷ [])) ∷ (simple 1035 (var 1035 (Ref.Global 5))) ∷ (simple 1037 (step 1037 true true (to_var 1039 (Ref.Global 6)))) ∷ (simple 1041 (call 1046 (var 1041 (Ref.Global 0)) (exprs ((call 1048 (var 1047 (Ref.Global 4)) (exprs ((var 1049 (Ref.Global 6)) ∷ []))) ∷ [])))) ∷ []); parent = None; doc = 0 })
      ∷ (record { params = 1; names = 0; own = false; body = stmts ((return 1015 None) ∷ []); parent = None; doc = 0 }) ∷ [];
  chunks = (chunk_of [] ∷ []);
  globals = ((record { name = (codes "alert"); chunk = None; doc = 0; flat = [] }) ∷ (record { name = (codes "Object"); chunk = None; doc = 0; flat = [] }) ∷ (record { name = (codes "Math"); chunk = None; doc = 0; flat = [] }) ∷ (record { name = (codes "String"); chunk = None; doc = 0; flat = [] }) ∷ (record { name = (codes "f"); chunk = Some 0; doc = 0; flat = [] }) ∷ (record { name = (codes "a"); chunk = Some 0; doc = 0; flat = [] }) ∷ (record { name = (codes "b"); chunk = Some 0; doc = 0; flat = [] }) ∷ []);
  props = [];
  kept = always_kept;
  classes = [];
  places = [];
  docs = (no_doc ∷ []);
}

stepped_run : run checked stepped (record { turns = (load 0 ∷ []); replies = ((record { first = []; answer = gives undef }) ∷ []) }) 40 ≡ record { events = (called (shown_out 0) undef (undef ∷ []) ∷ ended undef ∷ []); end = finished }
unfolding opened
stepped_run = refl

--     (true&&console.log)(1);
abbrev value_callee : Program
value_callee = record {
  scopes =
      (record { params = 0; names = 0; own = false; body = stmts ((simple 1001 (call 1020 (and 1006 (lit 1002 (truth true)) (member 1015 (var 1008 (Ref.Global 0)) 0)) (exprs ((lit 1021 (whole (pos 1))) ∷ [])))) ∷ []); parent = None; doc = 0 }) ∷ [];
  chunks = (chunk_of [] ∷ []);
  globals = ((record { name = (codes "console"); chunk = None; doc = 0; flat = [] }) ∷ (record { name = (codes "Object"); chunk = None; doc = 0; flat = [] }) ∷ (record { name = (codes "Math"); chunk = None; doc = 0; flat = [] }) ∷ (record { name = (codes "String"); chunk = None; doc = 0; flat = [] }) ∷ []);
  props = (kept_prop (codes "log") ∷ []);
  kept = ((codes "log") ∷ []) ++ always_kept;
  classes = [];
  places = [];
  docs = (no_doc ∷ []);
}

value_callee_run : run checked value_callee (record { turns = (load 0 ∷ []); replies = ((record { first = []; answer = gives (shown_out 1) }) ∷ (record { first = []; answer = gives undef }) ∷ []) }) 40 ≡ record { events = (got (shown_out 0) (codes "log") ∷ called (shown_out 1) undef ((shown_prim (whole (pos 1))) ∷ []) ∷ ended undef ∷ []); end = finished }
unfolding opened
value_callee_run = refl

value_callee_plain : run plain value_callee (record { turns = (load 0 ∷ []); replies = ((record { first = []; answer = gives (shown_out 1) }) ∷ (record { first = []; answer = gives undef }) ∷ []) }) 40 ≡ record { events = (got (shown_out 0) (codes "log") ∷ called (shown_out 1) undef ((shown_prim (whole (pos 1))) ∷ []) ∷ ended undef ∷ []); end = finished }
unfolding opened
value_callee_plain = refl

--     function F(){}var o={'x':1};alert('x' in o);alert(typeof o);alert(o instanceof F);
abbrev three_operators : Program
three_operators = record {
  scopes =
      (record { params = 0; names = 0; own = false; body = stmts ((fun_decl 1001 (Ref.Global 4) 1) ∷ (vars 1015 ((record { site = 1019; variable = (Ref.Global 5); value = Some (object 1021 (fields ((Key.Quoted (codes "x"), (lit 1026 (whole (pos 1)))) ∷ []))) }) ∷ [])) ∷ (simple 1029 (call 1034 (var 1029 (Ref.Global 0)) (exprs ((binary 1039 Has (lit 1035 (text (codes "x"))) (var 1042 (Ref.Global 5))) ∷ [])))) ∷ (simple 1045 (call 1050 (var 1045 (Ref.Global 0)) (exprs ((unary 1051 Typeof (var 1058 (Ref.Global 5))) ∷ [])))) ∷ (simple 1061 (call 1066 (var 1061 (Ref.Global 0)) (exprs ((binary 1069 Instance (var 1067 (Ref.Global 5)) (var 1080 (Ref.Global 4))) ∷ [])))) ∷ []); parent = None; doc = 0 })
      ∷ (record { params = 0; names = 0; own = false; body = stmts []; parent = None; doc = 0 }) ∷ [];
  chunks = (chunk_of [] ∷ []);
  globals = ((record { name = (codes "alert"); chunk = None; doc = 0; flat = [] }) ∷ (record { name = (codes "Object"); chunk = None; doc = 0; flat = [] }) ∷ (record { name = (codes "Math"); chunk = None; doc = 0; flat = [] }) ∷ (record { name = (codes "String"); chunk = None; doc = 0; flat = [] }) ∷ (record { name = (codes "F"); chunk = Some 0; doc = 0; flat = [] }) ∷ (record { name = (codes "o"); chunk = Some 0; doc = 0; flat = [] }) ∷ []);
  props = [];
  kept = always_kept;
  classes = [];
  places = [];
  docs = (no_doc ∷ []);
}

three_operators_run : run checked three_operators (record { turns = (load 0 ∷ []); replies = ((record { first = []; answer = gives undef }) ∷ (record { first = []; answer = gives undef }) ∷ (record { first = []; answer = gives undef }) ∷ []) }) 40 ≡ record { events = (called (shown_out 0) undef ((shown_prim (truth true)) ∷ []) ∷ called (shown_out 0) undef ((stext (codes "object")) ∷ []) ∷ called (shown_out 0) undef ((shown_prim (truth false)) ∷ []) ∷ ended undef ∷ []); end = finished }
unfolding opened
three_operators_run = refl

--     alert(typeof 1);
abbrev type_of_number : Program
type_of_number = record {
  scopes =
      (record { params = 0; names = 0; own = false; body = stmts ((simple 1001 (call 1006 (var 1001 (Ref.Global 0)) (exprs ((unary 1007 Typeof (lit 1014 (whole (pos 1)))) ∷ [])))) ∷ []); parent = None; doc = 0 }) ∷ [];
  chunks = (chunk_of [] ∷ []);
  globals = ((record { name = (codes "alert"); chunk = None; doc = 0; flat = [] }) ∷ (record { name = (codes "Object"); chunk = None; doc = 0; flat = [] }) ∷ (record { name = (codes "Math"); chunk = None; doc = 0; flat = [] }) ∷ (record { name = (codes "String"); chunk = None; doc = 0; flat = [] }) ∷ []);
  props = [];
  kept = always_kept;
  classes = [];
  places = [];
  docs = (no_doc ∷ []);
}

type_of_number_run : run checked type_of_number (record { turns = (load 0 ∷ []); replies = ((record { first = []; answer = gives undef }) ∷ []) }) 40 ≡ record { events = (called (shown_out 0) undef ((stext (codes "number")) ∷ []) ∷ ended undef ∷ []); end = finished }
unfolding opened
type_of_number_run = refl

--     var n=0;on(function(){n=n+1;});alert(n);
abbrev calls_back : Program
calls_back = record {
  scopes =
      (record { params = 0; names = 0; own = false; body = stmts ((vars 1001 ((record { site = 1005; variable = (Ref.Global 5); value = Some (lit 1007 (whole (pos 0))) }) ∷ [])) ∷ (simple 1009 (call 1011 (var 1009 (Ref.Global 1)) (exprs ((fun 1012 1) ∷ [])))) ∷ (simple 1032 (call 1037 (var 1032 (Ref.Global 0)) (exprs ((var 1038 (Ref.Global 5)) ∷ [])))) ∷ []); parent = None; doc = 0 })
      ∷ (record { params = 0; names = 0; own = false; body = stmts ((simple 1023 (assign 1024 None (to_var 1023 (Ref.Global 5)) (binary 1026 Add (var 1025 (Ref.Global 5)) (lit 1027 (whole (pos 1)))))) ∷ []); parent = None; doc = 0 }) ∷ [];
  chunks = (chunk_of [] ∷ []);
  globals = ((record { name = (codes "alert"); chunk = None; doc = 0; flat = [] }) ∷ (record { name = (codes "on"); chunk = None; doc = 0; flat = [] }) ∷ (record { name = (codes "Object"); chunk = None; doc = 0; flat = [] }) ∷ (record { name = (codes "Math"); chunk = None; doc = 0; flat = [] }) ∷ (record { name = (codes "String"); chunk = None; doc = 0; flat = [] }) ∷ (record { name = (codes "n"); chunk = Some 0; doc = 0; flat = [] }) ∷ []);
  props = [];
  kept = always_kept;
  classes = [];
  places = [];
  docs = (no_doc ∷ []);
}

calls_back_run : run checked calls_back (record { turns = (load 0 ∷ []); replies = ((record { first = ((record { callee = 0; this = undef; args = [] }) ∷ []); answer = gives undef }) ∷ (record { first = []; answer = gives undef }) ∷ []) }) 40 ≡ record { events = (called (shown_out 1) undef ((handle 0) ∷ []) ∷ ended undef ∷ called (shown_out 0) undef ((shown_prim (whole (pos 1))) ∷ []) ∷ ended undef ∷ []); end = finished }
unfolding opened
calls_back_run = refl

calls_back_not_given : run checked calls_back (record { turns = (load 0 ∷ []); replies = ((record { first = ((record { callee = 7; this = undef; args = [] }) ∷ []); answer = gives undef }) ∷ (record { first = []; answer = gives undef }) ∷ []) }) 40 ≡ record { events = (called (shown_out 1) undef ((handle 0) ∷ []) ∷ []); end = stopped (broken 13 (at_site 1011)) }
unfolding opened
calls_back_not_given = refl

calls_back_not_given_plain : run plain calls_back (record { turns = (load 0 ∷ []); replies = ((record { first = ((record { callee = 7; this = undef; args = [] }) ∷ []); answer = gives undef }) ∷ (record { first = []; answer = gives undef }) ∷ []) }) 40 ≡ record { events = (called (shown_out 1) undef ((handle 0) ∷ []) ∷ []); end = stopped (strayed (at_site 1011)) }
unfolding opened
calls_back_not_given_plain = refl

--     /** @type {Array<number>} */var a=[1];a[1]='x';
abbrev element_type : Program
element_type = record {
  scopes =
      (record { params = 0; names = 0; own = false; body = stmts ((vars 1029 ((record { site = 1033; variable = (Ref.Global 4); value = Some (list 1035 (exprs ((lit 1036 (whole (pos 1))) ∷ []))) }) ∷ [])) ∷ (simple 1039 (assign 1043 None (to_index 1040 (var 1039 (Ref.Global 4)) (lit 1041 (whole (pos 1)))) (lit 1044 (text (codes "x"))))) ∷ []); parent = None; doc = 0 }) ∷ [];
  chunks = (chunk_of [] ∷ []);
  globals = ((record { name = (codes "alert"); chunk = None; doc = 0; flat = [] }) ∷ (record { name = (codes "Object"); chunk = None; doc = 0; flat = [] }) ∷ (record { name = (codes "Math"); chunk = None; doc = 0; flat = [] }) ∷ (record { name = (codes "String"); chunk = None; doc = 0; flat = [] }) ∷ (record { name = (codes "a"); chunk = Some 0; doc = 1; flat = [] }) ∷ []);
  props = [];
  kept = always_kept;
  classes = [];
  places = [];
  docs = (no_doc ∷ (record no_doc { value = Some (record { kinds = 16; classes = []; unknown = false; element = Some (record { kinds = 1; classes = [] }) }); constant = false; define = false }) ∷ []);
}

element_type_run : run checked element_type (record { turns = (load 0 ∷ []); replies = [] }) 40 ≡ record { events = []; end = stopped (broken 6 (at_site 1040)) }
unfolding opened
element_type_run = refl

element_type_plain : run plain element_type (record { turns = (load 0 ∷ []); replies = [] }) 40 ≡ record { events = (ended undef ∷ []); end = finished }
unfolding opened
element_type_plain = refl

--     /** @constructor */
--     function Cat(){}
--     Cat.prototype.draw=function(){alert('c');};
--     /** @constructor */
--     function Dog(){}
--     Dog.prototype.draw=function(){alert('d');};
--     /** @type {Array<Cat>} */
--     var cats=[new Cat()];
--     cats[0].draw();new Dog().draw();
abbrev cats : Program
cats = record {
  scopes =
      (record { params = 0; names = 0; own = false; body = stmts ((fun_decl 2001 (Ref.Global 4) 1) ∷ (simple 3001 (assign 3019 None (to_member 3014 (member 3004 (var 3001 (Ref.Global 4)) 0) 1) (fun 3020 2))) ∷ (fun_decl 5001 (Ref.Global 5) 3) ∷ (simple 6001 (assign 6019 None (to_member 6014 (member 6004 (var 6001 (Ref.Global 5)) 0) 1) (fun 6020 4))) ∷ (vars 8001 ((record { site = 8005; variable = (Ref.Global 6); value = Some (list 8010 (exprs ((new 8011 (var 8015 (Ref.Global 4)) (exprs [])) ∷ []))) }) ∷ [])) ∷ (simple 9001 (call 9013 (member 9008 (index 9005 (var 9001 (Ref.Global 6)) (lit 9006 (whole (pos 0)))) 1) (exprs []))) ∷ (simple 9016 (call 9030 (member 9025 (new 9016 (var 9020 (Ref.Global 5)) (exprs [])) 1) (exprs []))) ∷ []); parent = None; doc = 0 })
      ∷ (record { params = 0; names = 0; own = false; body = stmts []; parent = None; doc = 1 })
      ∷ (record { params = 0; names = 0; own = false; body = stmts ((simple 3031 (call 3036 (var 3031 (Ref.Global 0)) (exprs ((lit 3037 (text (codes "c"))) ∷ [])))) ∷ []); parent = None; doc = 0 })
      ∷ (record { params = 0; names = 0; own = false; body = stmts []; parent = None; doc = 2 })
      ∷ (record { params = 0; names = 0; own = false; body = stmts ((simple 6031 (call 6036 (var 6031 (Ref.Global 0)) (exprs ((lit 6037 (text (codes "d"))) ∷ [])))) ∷ []); parent = None; doc = 0 }) ∷ [];
  chunks = (chunk_of [] ∷ []);
  globals = ((record { name = (codes "alert"); chunk = None; doc = 0; flat = [] }) ∷ (record { name = (codes "Object"); chunk = None; doc = 0; flat = [] }) ∷ (record { name = (codes "Math"); chunk = None; doc = 0; flat = [] }) ∷ (record { name = (codes "String"); chunk = None; doc = 0; flat = [] }) ∷ (record { name = (codes "Cat"); chunk = Some 0; doc = 0; flat = [] }) ∷ (record { name = (codes "Dog"); chunk = Some 0; doc = 0; flat = [] }) ∷ (record { name = (codes "cats"); chunk = Some 0; doc = 3; flat = [] }) ∷ []);
  props = (kept_prop (codes "prototype") ∷ prop (codes "draw") ∷ []);
  kept = always_kept;
  classes = ((record { name = (codes "Cat"); function = Some 1; external = false; interface = false; extends = None; implements = []; methods = ((1, 2) ∷ []); fields = [] }) ∷ (record { name = (codes "Dog"); function = Some 3; external = false; interface = false; extends = None; implements = []; methods = ((1, 4) ∷ []); fields = [] }) ∷ []);
  places = [];
  docs = (no_doc ∷ (record no_doc { params = []; result = None; receiver = None; vars = [] }) ∷ (record no_doc { params = []; result = None; receiver = None; vars = [] }) ∷ (record no_doc { value = Some (record { kinds = 16; classes = []; unknown = false; element = Some (record { kinds = 0; classes = (0 ∷ []) }) }); constant = false; define = false }) ∷ []);
}

cats_run : run checked cats (record { turns = (load 0 ∷ []); replies = ((record { first = []; answer = gives undef }) ∷ (record { first = []; answer = gives undef }) ∷ []) }) 40 ≡ record { events = (called (shown_out 0) undef ((stext (codes "c")) ∷ []) ∷ called (shown_out 0) undef ((stext (codes "d")) ∷ []) ∷ ended undef ∷ []); end = finished }
unfolding opened
cats_run = refl

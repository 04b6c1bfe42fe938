-- The outside: what it is told, what it answers, and what it may do.
use Rattle.std.specs.Prelude.{◌≡◌, refl, pos, false, [], ◌∷◌, ◌++◌, Some, None, codes}
use Rattle.cc_ast.specs.Syntax.{Prim, truth, whole, text, lit, var, fun, list, object, binary, assign, member, index, call, new, to_member, to_index, simple, vars, fun_decl, return, throw, try, present, Program}
use Rattle.cc_ast.specs.declared.operator.BinOp.TheVariants.{Add, Strict}
use Rattle.cc_ast.specs.declared.tree.Ref.{Ref}
use Rattle.cc_meaning.specs.Values.{shown_prim, shown_out, handle, called, constructed, got, put, ended, threw, at_site, at_turn}
use Rattle.cc_meaning.specs.State.{gives, throws}
use Rattle.cc_meaning.specs.Monad.{broken, strayed}
use Rattle.cc_meaning.specs.Names.{always_kept}
use Rattle.cc_meaning.specs.Script.{load, call as call_turn, get as get_turn, set as set_turn, run, checked, plain, finished, stopped}
use Rattle.cc_meaning.proofs.Opened.{opened}
use Rattle.cc_meaning.proofs.Trees.{exprs, fields, stmts, no_doc, chunk_of, prop, kept_prop, undef, stext}

--     var x=new X(1);alert(x);
abbrev new_outside : Program
new_outside = record {
  scopes =
      (record { params = 0; names = 0; own = false; body = stmts ((vars 1001 ((record { site = 1005; variable = (Ref.Global 5); value = Some (new 1007 (var 1011 (Ref.Global 1)) (exprs ((lit 1013 (whole (pos 1))) ∷ []))) }) ∷ [])) ∷ (simple 1016 (call 1021 (var 1016 (Ref.Global 0)) (exprs ((var 1022 (Ref.Global 5)) ∷ [])))) ∷ []); parent = None; doc = 0 }) ∷ [];
  chunks = (chunk_of [] ∷ []);
  globals = ((record { name = (codes "alert"); chunk = None; doc = 0; flat = [] }) ∷ (record { name = (codes "X"); chunk = None; doc = 0; flat = [] }) ∷ (record { name = (codes "Object"); chunk = None; doc = 0; flat = [] }) ∷ (record { name = (codes "Math"); chunk = None; doc = 0; flat = [] }) ∷ (record { name = (codes "String"); chunk = None; doc = 0; flat = [] }) ∷ (record { name = (codes "x"); chunk = Some 0; doc = 0; flat = [] }) ∷ []);
  props = [];
  kept = always_kept;
  classes = [];
  places = [];
  docs = (no_doc ∷ []);
}

new_outside_run : run checked new_outside (record { turns = (load 0 ∷ []); replies = ((record { first = []; answer = gives (shown_prim (whole (pos 5))) }) ∷ (record { first = []; answer = gives undef }) ∷ []) }) 40 ≡ record { events = (constructed (shown_out 1) ((shown_prim (whole (pos 1))) ∷ []) ∷ called (shown_out 0) undef ((shown_prim (whole (pos 5))) ∷ []) ∷ ended undef ∷ []); end = finished }
unfolding opened
new_outside_run = refl

--     X.m(1);X['n']=2;
abbrev method_outside : Program
method_outside = record {
  scopes =
      (record { params = 0; names = 0; own = false; body = stmts ((simple 1001 (call 1004 (member 1002 (var 1001 (Ref.Global 0)) 0) (exprs ((lit 1005 (whole (pos 1))) ∷ [])))) ∷ (simple 1008 (assign 1014 None (to_index 1009 (var 1008 (Ref.Global 0)) (lit 1010 (text (codes "n")))) (lit 1015 (whole (pos 2))))) ∷ []); parent = None; doc = 0 }) ∷ [];
  chunks = (chunk_of [] ∷ []);
  globals = ((record { name = (codes "X"); chunk = None; doc = 0; flat = [] }) ∷ (record { name = (codes "Object"); chunk = None; doc = 0; flat = [] }) ∷ (record { name = (codes "Math"); chunk = None; doc = 0; flat = [] }) ∷ (record { name = (codes "String"); chunk = None; doc = 0; flat = [] }) ∷ []);
  props = (kept_prop (codes "m") ∷ []);
  kept = ((codes "m") ∷ []) ++ always_kept;
  classes = [];
  places = [];
  docs = (no_doc ∷ []);
}

method_outside_run : run checked method_outside (record { turns = (load 0 ∷ []); replies = ((record { first = []; answer = gives (shown_out 5) }) ∷ (record { first = []; answer = gives undef }) ∷ []) }) 40 ≡ record { events = (got (shown_out 0) (codes "m") ∷ called (shown_out 5) (shown_out 0) ((shown_prim (whole (pos 1))) ∷ []) ∷ put (shown_out 0) (codes "n") (shown_prim (whole (pos 2))) ∷ ended undef ∷ []); end = finished }
unfolding opened
method_outside_run = refl

--     X.m(1);
abbrev unkept_outside : Program
unkept_outside = record {
  scopes =
      (record { params = 0; names = 0; own = false; body = stmts ((simple 1001 (call 1004 (member 1002 (var 1001 (Ref.Global 0)) 0) (exprs ((lit 1005 (whole (pos 1))) ∷ [])))) ∷ []); parent = None; doc = 0 }) ∷ [];
  chunks = (chunk_of [] ∷ []);
  globals = ((record { name = (codes "X"); chunk = None; doc = 0; flat = [] }) ∷ (record { name = (codes "Object"); chunk = None; doc = 0; flat = [] }) ∷ (record { name = (codes "Math"); chunk = None; doc = 0; flat = [] }) ∷ (record { name = (codes "String"); chunk = None; doc = 0; flat = [] }) ∷ []);
  props = (prop (codes "m") ∷ []);
  kept = always_kept;
  classes = [];
  places = [];
  docs = (no_doc ∷ []);
}

unkept_outside_run : run checked unkept_outside (record { turns = (load 0 ∷ []); replies = [] }) 40 ≡ record { events = []; end = stopped (broken 8 (at_site 1002)) }
unfolding opened
unkept_outside_run = refl

--     var f=function(){return n;};on(f);var n=1;alert(X['p']+n);
abbrev get_calls_back : Program
get_calls_back = record {
  scopes =
      (record { params = 0; names = 0; own = false; body = stmts ((vars 1001 ((record { site = 1005; variable = (Ref.Global 6); value = Some (fun 1007 1) }) ∷ [])) ∷ (simple 1029 (call 1031 (var 1029 (Ref.Global 1)) (exprs ((var 1032 (Ref.Global 6)) ∷ [])))) ∷ (vars 1035 ((record { site = 1039; variable = (Ref.Global 7); value = Some (lit 1041 (whole (pos 1))) }) ∷ [])) ∷ (simple 1043 (call 1048 (var 1043 (Ref.Global 0)) (exprs ((binary 1055 Add (index 1050 (var 1049 (Ref.Global 2)) (lit 1051 (text (codes "p")))) (var 1056 (Ref.Global 7))) ∷ [])))) ∷ []); parent = None; doc = 0 })
      ∷ (record { params = 0; names = 0; own = false; body = stmts ((return 1018 (Some (var 1025 (Ref.Global 7)))) ∷ []); parent = None; doc = 0 }) ∷ [];
  chunks = (chunk_of [] ∷ []);
  globals = ((record { name = (codes "alert"); chunk = None; doc = 0; flat = [] }) ∷ (record { name = (codes "on"); chunk = None; doc = 0; flat = [] }) ∷ (record { name = (codes "X"); chunk = None; doc = 0; flat = [] }) ∷ (record { name = (codes "Object"); chunk = None; doc = 0; flat = [] }) ∷ (record { name = (codes "Math"); chunk = None; doc = 0; flat = [] }) ∷ (record { name = (codes "String"); chunk = None; doc = 0; flat = [] }) ∷ (record { name = (codes "f"); chunk = Some 0; doc = 0; flat = [] }) ∷ (record { name = (codes "n"); chunk = Some 0; doc = 0; flat = [] }) ∷ []);
  props = [];
  kept = always_kept;
  classes = [];
  places = [];
  docs = (no_doc ∷ []);
}

get_calls_back_run : run checked get_calls_back (record { turns = (load 0 ∷ []); replies = ((record { first = []; answer = gives undef }) ∷ (record { first = ((record { callee = 0; this = undef; args = [] }) ∷ []); answer = gives (shown_prim (whole (pos 4))) }) ∷ (record { first = []; answer = gives undef }) ∷ []) }) 40 ≡ record { events = (called (shown_out 1) undef ((handle 0) ∷ []) ∷ got (shown_out 2) (codes "p") ∷ ended (shown_prim (whole (pos 1))) ∷ called (shown_out 0) undef ((shown_prim (whole (pos 5))) ∷ []) ∷ ended undef ∷ []); end = finished }
unfolding opened
get_calls_back_run = refl

--     on(function(){throw 3;});alert(1);
abbrev inner_throws : Program
inner_throws = record {
  scopes =
      (record { params = 0; names = 0; own = false; body = stmts ((simple 1001 (call 1003 (var 1001 (Ref.Global 1)) (exprs ((fun 1004 1) ∷ [])))) ∷ (simple 1026 (call 1031 (var 1026 (Ref.Global 0)) (exprs ((lit 1032 (whole (pos 1))) ∷ [])))) ∷ []); parent = None; doc = 0 })
      ∷ (record { params = 0; names = 0; own = false; body = stmts ((throw 1015 (lit 1021 (whole (pos 3)))) ∷ []); parent = None; doc = 0 }) ∷ [];
  chunks = (chunk_of [] ∷ []);
  globals = ((record { name = (codes "alert"); chunk = None; doc = 0; flat = [] }) ∷ (record { name = (codes "on"); chunk = None; doc = 0; flat = [] }) ∷ (record { name = (codes "Object"); chunk = None; doc = 0; flat = [] }) ∷ (record { name = (codes "Math"); chunk = None; doc = 0; flat = [] }) ∷ (record { name = (codes "String"); chunk = None; doc = 0; flat = [] }) ∷ []);
  props = [];
  kept = always_kept;
  classes = [];
  places = [];
  docs = (no_doc ∷ []);
}

inner_throws_run : run checked inner_throws (record { turns = (load 0 ∷ []); replies = ((record { first = ((record { callee = 0; this = undef; args = [] }) ∷ []); answer = gives undef }) ∷ (record { first = []; answer = gives undef }) ∷ []) }) 40 ≡ record { events = (called (shown_out 1) undef ((handle 0) ∷ []) ∷ threw (shown_prim (whole (pos 3))) ∷ called (shown_out 0) undef ((shown_prim (whole (pos 1))) ∷ []) ∷ ended undef ∷ []); end = finished }
unfolding opened
inner_throws_run = refl

--     on(function(x){alert(x);});alert(1);
abbrev inner_asks : Program
inner_asks = record {
  scopes =
      (record { params = 0; names = 0; own = false; body = stmts ((simple 1001 (call 1003 (var 1001 (Ref.Global 1)) (exprs ((fun 1004 1) ∷ [])))) ∷ (simple 1028 (call 1033 (var 1028 (Ref.Global 0)) (exprs ((lit 1034 (whole (pos 1))) ∷ [])))) ∷ []); parent = None; doc = 0 })
      ∷ (record { params = 1; names = 0; own = false; body = stmts ((simple 1016 (call 1021 (var 1016 (Ref.Global 0)) (exprs ((var 1022 (Ref.Frame 0 0)) ∷ [])))) ∷ []); parent = None; doc = 0 }) ∷ [];
  chunks = (chunk_of [] ∷ []);
  globals = ((record { name = (codes "alert"); chunk = None; doc = 0; flat = [] }) ∷ (record { name = (codes "on"); chunk = None; doc = 0; flat = [] }) ∷ (record { name = (codes "Object"); chunk = None; doc = 0; flat = [] }) ∷ (record { name = (codes "Math"); chunk = None; doc = 0; flat = [] }) ∷ (record { name = (codes "String"); chunk = None; doc = 0; flat = [] }) ∷ []);
  props = [];
  kept = always_kept;
  classes = [];
  places = [];
  docs = (no_doc ∷ []);
}

-- what an inner call asks for takes the replies after this one
inner_asks_run : run checked inner_asks (record { turns = (load 0 ∷ []); replies = ((record { first = ((record { callee = 0; this = undef; args = ((stext (codes "a")) ∷ []) }) ∷ (record { callee = 0; this = undef; args = ((stext (codes "b")) ∷ []) }) ∷ []); answer = gives undef }) ∷ (record { first = []; answer = gives undef }) ∷ (record { first = []; answer = gives undef }) ∷ (record { first = []; answer = gives undef }) ∷ []) }) 40 ≡ record { events = (called (shown_out 1) undef ((handle 0) ∷ []) ∷ called (shown_out 0) undef ((stext (codes "a")) ∷ []) ∷ ended undef ∷ called (shown_out 0) undef ((stext (codes "b")) ∷ []) ∷ ended undef ∷ called (shown_out 0) undef ((shown_prim (whole (pos 1))) ∷ []) ∷ ended undef ∷ []); end = finished }
unfolding opened
inner_asks_run = refl

--     alert(1);
abbrev answer_not_given : Program
answer_not_given = record {
  scopes =
      (record { params = 0; names = 0; own = false; body = stmts ((simple 1001 (call 1006 (var 1001 (Ref.Global 0)) (exprs ((lit 1007 (whole (pos 1))) ∷ [])))) ∷ []); parent = None; doc = 0 }) ∷ [];
  chunks = (chunk_of [] ∷ []);
  globals = ((record { name = (codes "alert"); chunk = None; doc = 0; flat = [] }) ∷ (record { name = (codes "Object"); chunk = None; doc = 0; flat = [] }) ∷ (record { name = (codes "Math"); chunk = None; doc = 0; flat = [] }) ∷ (record { name = (codes "String"); chunk = None; doc = 0; flat = [] }) ∷ []);
  props = [];
  kept = always_kept;
  classes = [];
  places = [];
  docs = (no_doc ∷ []);
}

answer_not_given_run : run checked answer_not_given (record { turns = (load 0 ∷ []); replies = ((record { first = []; answer = gives (handle 0) }) ∷ []) }) 40 ≡ record { events = (called (shown_out 0) undef ((shown_prim (whole (pos 1))) ∷ []) ∷ []); end = stopped (broken 13 (at_site 1006)) }
unfolding opened
answer_not_given_run = refl

answer_not_given_plain : run plain answer_not_given (record { turns = (load 0 ∷ []); replies = ((record { first = []; answer = gives (handle 0) }) ∷ []) }) 40 ≡ record { events = (called (shown_out 0) undef ((shown_prim (whole (pos 1))) ∷ []) ∷ []); end = stopped (strayed (at_site 1006)) }
unfolding opened
answer_not_given_plain = refl

--     try{alert(1);}catch(e){alert(e);}finally{alert(2);}
abbrev reply_throws : Program
reply_throws = record {
  scopes =
      (record { params = 0; names = 0; own = false; body = stmts ((try 1001 (stmts ((simple 1005 (call 1010 (var 1005 (Ref.Global 0)) (exprs ((lit 1011 (whole (pos 1))) ∷ [])))) ∷ [])) (present (stmts ((simple 1024 (call 1029 (var 1024 (Ref.Global 0)) (exprs ((var 1030 (Ref.Frame 0 0)) ∷ [])))) ∷ []))) (present (stmts ((simple 1042 (call 1047 (var 1042 (Ref.Global 0)) (exprs ((lit 1048 (whole (pos 2))) ∷ [])))) ∷ [])))) ∷ []); parent = None; doc = 0 }) ∷ [];
  chunks = (chunk_of [] ∷ []);
  globals = ((record { name = (codes "alert"); chunk = None; doc = 0; flat = [] }) ∷ (record { name = (codes "Object"); chunk = None; doc = 0; flat = [] }) ∷ (record { name = (codes "Math"); chunk = None; doc = 0; flat = [] }) ∷ (record { name = (codes "String"); chunk = None; doc = 0; flat = [] }) ∷ []);
  props = [];
  kept = always_kept;
  classes = [];
  places = [];
  docs = (no_doc ∷ []);
}

reply_throws_run : run checked reply_throws (record { turns = (load 0 ∷ []); replies = ((record { first = []; answer = throws (stext (codes "x")) }) ∷ (record { first = []; answer = gives undef }) ∷ (record { first = []; answer = gives undef }) ∷ []) }) 40 ≡ record { events = (called (shown_out 0) undef ((shown_prim (whole (pos 1))) ∷ []) ∷ called (shown_out 0) undef ((stext (codes "x")) ∷ []) ∷ called (shown_out 0) undef ((shown_prim (whole (pos 2))) ∷ []) ∷ ended undef ∷ []); end = finished }
unfolding opened
reply_throws_run = refl

--     var o={};alert(o);alert([o]===o);f(o,{},o);
abbrev shown_twice : Program
shown_twice = record {
  scopes =
      (record { params = 0; names = 0; own = false; body = stmts ((vars 1001 ((record { site = 1005; variable = (Ref.Global 5); value = Some (object 1007 (fields [])) }) ∷ [])) ∷ (simple 1010 (call 1015 (var 1010 (Ref.Global 0)) (exprs ((var 1016 (Ref.Global 5)) ∷ [])))) ∷ (simple 1019 (call 1024 (var 1019 (Ref.Global 0)) (exprs ((binary 1028 Strict (list 1025 (exprs ((var 1026 (Ref.Global 5)) ∷ []))) (var 1031 (Ref.Global 5))) ∷ [])))) ∷ (simple 1034 (call 1035 (var 1034 (Ref.Global 1)) (exprs ((var 1036 (Ref.Global 5)) ∷ (object 1038 (fields [])) ∷ (var 1041 (Ref.Global 5)) ∷ [])))) ∷ []); parent = None; doc = 0 }) ∷ [];
  chunks = (chunk_of [] ∷ []);
  globals = ((record { name = (codes "alert"); chunk = None; doc = 0; flat = [] }) ∷ (record { name = (codes "f"); chunk = None; doc = 0; flat = [] }) ∷ (record { name = (codes "Object"); chunk = None; doc = 0; flat = [] }) ∷ (record { name = (codes "Math"); chunk = None; doc = 0; flat = [] }) ∷ (record { name = (codes "String"); chunk = None; doc = 0; flat = [] }) ∷ (record { name = (codes "o"); chunk = Some 0; doc = 0; flat = [] }) ∷ []);
  props = [];
  kept = always_kept;
  classes = [];
  places = [];
  docs = (no_doc ∷ []);
}

shown_twice_run : run checked shown_twice (record { turns = (load 0 ∷ call_turn (record { callee = 0; this = undef; args = [] }) ∷ []); replies = ((record { first = []; answer = gives undef }) ∷ (record { first = []; answer = gives undef }) ∷ (record { first = []; answer = gives undef }) ∷ []) }) 40 ≡ record { events = (called (shown_out 0) undef ((handle 0) ∷ []) ∷ called (shown_out 0) undef ((shown_prim (truth false)) ∷ []) ∷ called (shown_out 1) undef ((handle 0) ∷ (handle 1) ∷ (handle 0) ∷ []) ∷ ended undef ∷ []); end = stopped (broken 2 (at_turn 1)) }
unfolding opened
shown_twice_run = refl

-- base
--     throw 1;
-- x
--     alert(1);
-- y
--     alert(2);
abbrev throwing_chunk : Program
throwing_chunk = record {
  scopes =
      (record { params = 0; names = 0; own = false; body = stmts ((throw 1001 (lit 1007 (whole (pos 1)))) ∷ []); parent = None; doc = 0 })
      ∷ (record { params = 0; names = 0; own = false; body = stmts ((simple 1001 (call 1006 (var 1001 (Ref.Global 0)) (exprs ((lit 1007 (whole (pos 1))) ∷ [])))) ∷ []); parent = None; doc = 0 })
      ∷ (record { params = 0; names = 0; own = false; body = stmts ((simple 1001 (call 1006 (var 1001 (Ref.Global 0)) (exprs ((lit 1007 (whole (pos 2))) ∷ [])))) ∷ []); parent = None; doc = 0 }) ∷ [];
  chunks = (chunk_of [] ∷ chunk_of (0 ∷ []) ∷ chunk_of (0 ∷ []) ∷ []);
  globals = ((record { name = (codes "alert"); chunk = None; doc = 0; flat = [] }) ∷ (record { name = (codes "Object"); chunk = None; doc = 0; flat = [] }) ∷ (record { name = (codes "Math"); chunk = None; doc = 0; flat = [] }) ∷ (record { name = (codes "String"); chunk = None; doc = 0; flat = [] }) ∷ []);
  props = [];
  kept = always_kept;
  classes = [];
  places = [];
  docs = (no_doc ∷ []);
}

throwing_chunk_run : run checked throwing_chunk (record { turns = (load 0 ∷ load 1 ∷ []); replies = ((record { first = []; answer = gives undef }) ∷ []) }) 40 ≡ record { events = (threw (shown_prim (whole (pos 1))) ∷ []); end = stopped (broken 13 (at_turn 1)) }
unfolding opened
throwing_chunk_run = refl

throwing_chunk_plain : run plain throwing_chunk (record { turns = (load 0 ∷ load 1 ∷ []); replies = ((record { first = []; answer = gives undef }) ∷ []) }) 40 ≡ record { events = (threw (shown_prim (whole (pos 1))) ∷ called (shown_out 0) undef ((shown_prim (whole (pos 1))) ∷ []) ∷ ended undef ∷ []); end = finished }
unfolding opened
throwing_chunk_plain = refl

-- base
--     function f(){return v;}on(f);
-- x
--     var v=1;
abbrev unloaded_global : Program
unloaded_global = record {
  scopes =
      (record { params = 0; names = 0; own = false; body = stmts ((fun_decl 1001 (Ref.Global 4) 2) ∷ (simple 1024 (call 1026 (var 1024 (Ref.Global 0)) (exprs ((var 1027 (Ref.Global 4)) ∷ [])))) ∷ []); parent = None; doc = 0 })
      ∷ (record { params = 0; names = 0; own = false; body = stmts ((vars 1001 ((record { site = 1005; variable = (Ref.Global 5); value = Some (lit 1007 (whole (pos 1))) }) ∷ [])) ∷ []); parent = None; doc = 0 })
      ∷ (record { params = 0; names = 0; own = false; body = stmts ((return 1014 (Some (var 1021 (Ref.Global 5)))) ∷ []); parent = None; doc = 0 }) ∷ [];
  chunks = (chunk_of [] ∷ chunk_of (0 ∷ []) ∷ []);
  globals = ((record { name = (codes "on"); chunk = None; doc = 0; flat = [] }) ∷ (record { name = (codes "Object"); chunk = None; doc = 0; flat = [] }) ∷ (record { name = (codes "Math"); chunk = None; doc = 0; flat = [] }) ∷ (record { name = (codes "String"); chunk = None; doc = 0; flat = [] }) ∷ (record { name = (codes "f"); chunk = Some 0; doc = 0; flat = [] }) ∷ (record { name = (codes "v"); chunk = Some 1; doc = 0; flat = [] }) ∷ []);
  props = [];
  kept = always_kept;
  classes = [];
  places = [];
  docs = (no_doc ∷ []);
}

unloaded_global_run : run checked unloaded_global (record { turns = (load 0 ∷ call_turn (record { callee = 0; this = undef; args = [] }) ∷ load 1 ∷ []); replies = ((record { first = []; answer = gives undef }) ∷ []) }) 40 ≡ record { events = (called (shown_out 0) undef ((handle 0) ∷ []) ∷ ended undef ∷ []); end = stopped (broken 3 (at_site 1021)) }
unfolding opened
unloaded_global_run = refl

unloaded_global_loaded : run checked unloaded_global (record { turns = (load 0 ∷ load 1 ∷ call_turn (record { callee = 0; this = undef; args = [] }) ∷ []); replies = ((record { first = []; answer = gives undef }) ∷ []) }) 40 ≡ record { events = (called (shown_out 0) undef ((handle 0) ∷ []) ∷ ended undef ∷ ended undef ∷ ended (shown_prim (whole (pos 1))) ∷ []); end = finished }
unfolding opened
unloaded_global_loaded = refl

-- a
--     var v=1;
-- b
--     var v=2;alert(v);
abbrev declared_twice : Program
declared_twice = record {
  scopes =
      (record { params = 0; names = 0; own = false; body = stmts ((vars 1001 ((record { site = 1005; variable = (Ref.Global 4); value = Some (lit 1007 (whole (pos 1))) }) ∷ [])) ∷ []); parent = None; doc = 0 })
      ∷ (record { params = 0; names = 0; own = false; body = stmts ((vars 1001 ((record { site = 1005; variable = (Ref.Global 4); value = Some (lit 1007 (whole (pos 2))) }) ∷ [])) ∷ (simple 1009 (call 1014 (var 1009 (Ref.Global 0)) (exprs ((var 1015 (Ref.Global 4)) ∷ [])))) ∷ []); parent = None; doc = 0 }) ∷ [];
  chunks = (chunk_of [] ∷ chunk_of [] ∷ []);
  globals = ((record { name = (codes "alert"); chunk = None; doc = 0; flat = [] }) ∷ (record { name = (codes "Object"); chunk = None; doc = 0; flat = [] }) ∷ (record { name = (codes "Math"); chunk = None; doc = 0; flat = [] }) ∷ (record { name = (codes "String"); chunk = None; doc = 0; flat = [] }) ∷ (record { name = (codes "v"); chunk = Some 0; doc = 0; flat = [] }) ∷ []);
  props = [];
  kept = always_kept;
  classes = [];
  places = [];
  docs = (no_doc ∷ []);
}

declared_twice_run : run checked declared_twice (record { turns = (load 1 ∷ []); replies = ((record { first = []; answer = gives undef }) ∷ []) }) 40 ≡ record { events = []; end = stopped (broken 3 (at_site 1015)) }
unfolding opened
declared_twice_run = refl

declared_twice_both : run checked declared_twice (record { turns = (load 0 ∷ load 1 ∷ []); replies = ((record { first = []; answer = gives undef }) ∷ []) }) 40 ≡ record { events = (ended undef ∷ called (shown_out 0) undef ((shown_prim (whole (pos 2))) ∷ []) ∷ ended undef ∷ []); end = finished }
unfolding opened
declared_twice_both = refl

--     var a=[5];on(a);
abbrev host_turns : Program
host_turns = record {
  scopes =
      (record { params = 0; names = 0; own = false; body = stmts ((vars 1001 ((record { site = 1005; variable = (Ref.Global 4); value = Some (list 1007 (exprs ((lit 1008 (whole (pos 5))) ∷ []))) }) ∷ [])) ∷ (simple 1011 (call 1013 (var 1011 (Ref.Global 0)) (exprs ((var 1014 (Ref.Global 4)) ∷ [])))) ∷ []); parent = None; doc = 0 }) ∷ [];
  chunks = (chunk_of [] ∷ []);
  globals = ((record { name = (codes "on"); chunk = None; doc = 0; flat = [] }) ∷ (record { name = (codes "Object"); chunk = None; doc = 0; flat = [] }) ∷ (record { name = (codes "Math"); chunk = None; doc = 0; flat = [] }) ∷ (record { name = (codes "String"); chunk = None; doc = 0; flat = [] }) ∷ (record { name = (codes "a"); chunk = Some 0; doc = 0; flat = [] }) ∷ []);
  props = [];
  kept = always_kept;
  classes = [];
  places = [];
  docs = (no_doc ∷ []);
}

host_turns_run : run checked host_turns (record { turns = (load 0 ∷ get_turn 0 (codes "0") ∷ get_turn 0 (codes "length") ∷ set_turn 0 (codes "1") (shown_prim (whole (pos 6))) ∷ get_turn 0 (codes "1") ∷ set_turn 0 (codes "x") (shown_prim (whole (pos 1))) ∷ get_turn 0 (codes "x") ∷ get_turn 0 (codes "push") ∷ []); replies = ((record { first = []; answer = gives undef }) ∷ []) }) 40 ≡ record { events = (called (shown_out 0) undef ((handle 0) ∷ []) ∷ ended undef ∷ ended (shown_prim (whole (pos 5))) ∷ ended (shown_prim (whole (pos 1))) ∷ ended undef ∷ ended (shown_prim (whole (pos 6))) ∷ ended undef ∷ ended (shown_prim (whole (pos 1))) ∷ []); end = stopped (broken 10 (at_turn 7)) }
unfolding opened
host_turns_run = refl

--     var o={};o.a=1;on(o);
abbrev host_name : Program
host_name = record {
  scopes =
      (record { params = 0; names = 0; own = false; body = stmts ((vars 1001 ((record { site = 1005; variable = (Ref.Global 4); value = Some (object 1007 (fields [])) }) ∷ [])) ∷ (simple 1010 (assign 1013 None (to_member 1011 (var 1010 (Ref.Global 4)) 0) (lit 1014 (whole (pos 1))))) ∷ (simple 1016 (call 1018 (var 1016 (Ref.Global 0)) (exprs ((var 1019 (Ref.Global 4)) ∷ [])))) ∷ []); parent = None; doc = 0 }) ∷ [];
  chunks = (chunk_of [] ∷ []);
  globals = ((record { name = (codes "on"); chunk = None; doc = 0; flat = [] }) ∷ (record { name = (codes "Object"); chunk = None; doc = 0; flat = [] }) ∷ (record { name = (codes "Math"); chunk = None; doc = 0; flat = [] }) ∷ (record { name = (codes "String"); chunk = None; doc = 0; flat = [] }) ∷ (record { name = (codes "o"); chunk = Some 0; doc = 0; flat = [] }) ∷ []);
  props = (prop (codes "a") ∷ []);
  kept = always_kept;
  classes = [];
  places = [];
  docs = (no_doc ∷ []);
}

host_name_run : run checked host_name (record { turns = (load 0 ∷ get_turn 0 (codes "b") ∷ []); replies = ((record { first = []; answer = gives undef }) ∷ []) }) 40 ≡ record { events = (called (shown_out 0) undef ((handle 0) ∷ []) ∷ ended undef ∷ []); end = stopped (broken 13 (at_turn 1)) }
unfolding opened
host_name_run = refl

host_name_not_given : run checked host_name (record { turns = (load 0 ∷ set_turn 1 (codes "b") (shown_prim (whole (pos 1))) ∷ []); replies = ((record { first = []; answer = gives undef }) ∷ []) }) 40 ≡ record { events = (called (shown_out 0) undef ((handle 0) ∷ []) ∷ ended undef ∷ []); end = stopped (broken 13 (at_turn 1)) }
unfolding opened
host_name_not_given = refl

host_name_not_given_plain : run plain host_name (record { turns = (load 0 ∷ set_turn 1 (codes "b") (shown_prim (whole (pos 1))) ∷ []); replies = ((record { first = []; answer = gives undef }) ∷ []) }) 40 ≡ record { events = (called (shown_out 0) undef ((handle 0) ∷ []) ∷ ended undef ∷ []); end = stopped (strayed (at_turn 1)) }
unfolding opened
host_name_not_given_plain = refl

host_name_plain : run plain host_name (record { turns = (load 0 ∷ get_turn 0 (codes "b") ∷ []); replies = ((record { first = []; answer = gives undef }) ∷ []) }) 40 ≡ record { events = (called (shown_out 0) undef ((handle 0) ∷ []) ∷ ended undef ∷ ended undef ∷ []); end = finished }
unfolding opened
host_name_plain = refl

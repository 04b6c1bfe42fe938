-- An application in three chunks, under a script of loads, calls and replies.
use Rattle.std.specs.Prelude.{◌≡◌, refl, pos, true, false, [], ◌∷◌, ◌++◌, Some, None, codes}
use Rattle.cc_ast.specs.Syntax.{Prim, truth, whole, text, lit, var, this, fun, list, object, binary, assign, member, call, new, to_member, simple, vars, fun_decl, if, return, Program}
use Rattle.cc_ast.specs.declared.operator.BinOp.TheVariants.{Add, Mul}
use Rattle.cc_ast.specs.declared.tree.Ref.{Ref}
use Rattle.cc_meaning.specs.Values.{shown_out, handle, called, got, ended}
use Rattle.cc_meaning.specs.State.{gives}
use Rattle.cc_meaning.specs.Names.{always_kept}
use Rattle.cc_meaning.specs.Script.{load, call as call_turn, run, checked, finished}
use Rattle.cc_meaning.proofs.Opened.{opened}
use Rattle.cc_meaning.proofs.Trees.{exprs, fields, stmts, no_doc, chunk_of, prop, kept_prop, undef, stext}

-- base
--     'use strict';
--     /** @define {boolean} */
--     var DEBUG=false;
--     var app={};
--     /** @param {string} s */
--     app.say=function(s){if(DEBUG)console.log('debug '+s);console.log(s);};
--     /** @constructor
--      * @param {string} name */
--     app.Item=function(name){this.name=name;this.count=0;};
--     /** @return {string} */
--     app.Item.prototype.label=function(){return this.name+':'+this.count;};
--     app.Item.prototype.add=function(n){this.count+=n;};
--     /** @type {Array<app.Item>} */
--     app.items=[];
-- list
--     function twice(n){return n*2;}
--     on('add',function(name){
--       var item=new app.Item(name);
--       item.add(twice(3));
--       app.items.push(item);
--       app.say(item.label());
--     });
-- edit
--     on('clear',function(){
--       app.items=[];
--       app.say('none');
--     });
abbrev application : Program
application = record {
  scopes =
      (record { params = 0; names = 0; own = false; body = stmts ((simple 1001 (lit 1001 (text (codes "use strict")))) ∷ (vars 3001 ((record { site = 3005; variable = (Ref.Global 5); value = Some (lit 3011 (truth false)) }) ∷ [])) ∷ (vars 4001 ((record { site = 4005; variable = (Ref.Global 6); value = Some (object 4009 (fields [])) }) ∷ [])) ∷ (simple 6001 (assign 6008 None (to_member 6004 (var 6001 (Ref.Global 6)) 0) (fun 6009 3))) ∷ (simple 9001 (assign 9009 None (to_member 9004 (var 9001 (Ref.Global 6)) 2) (fun 9010 4))) ∷ (simple 11001 (assign 11025 None (to_member 11019 (member 11009 (member 11004 (var 11001 (Ref.Global 6)) 2) 5) 6) (fun 11026 5))) ∷ (simple 12001 (assign 12023 None (to_member 12019 (member 12009 (member 12004 (var 12001 (Ref.Global 6)) 2) 5) 7) (fun 12024 6))) ∷ (simple 14001 (assign 14010 None (to_member 14004 (var 14001 (Ref.Global 6)) 8) (list 14011 (exprs [])))) ∷ []); parent = None; doc = 0 })
      ∷ (record { params = 0; names = 0; own = false; body = stmts ((fun_decl 1001 (Ref.Global 7) 7) ∷ (simple 2001 (call 2003 (var 2001 (Ref.Global 1)) (exprs ((lit 2004 (text (codes "add"))) ∷ (fun 2010 8) ∷ [])))) ∷ []); parent = None; doc = 0 })
      ∷ (record { params = 0; names = 0; own = false; body = stmts ((simple 1001 (call 1003 (var 1001 (Ref.Global 1)) (exprs ((lit 1004 (text (codes "clear"))) ∷ (fun 1012 9) ∷ [])))) ∷ []); parent = None; doc = 0 })
      ∷ (record { params = 1; names = 0; own = false; body = stmts ((if 6021 (var 6024 (Ref.Global 5)) (stmts ((simple 6030 (call 6041 (member 6037 (var 6030 (Ref.Global 0)) 1) (exprs ((binary 6050 Add (lit 6042 (text (codes "debug "))) (var 6051 (Ref.Frame 0 0))) ∷ [])))) ∷ [])) (stmts [])) ∷ (simple 6054 (call 6065 (member 6061 (var 6054 (Ref.Global 0)) 1) (exprs ((var 6066 (Ref.Frame 0 0)) ∷ [])))) ∷ []); parent = None; doc = 2 })
      ∷ (record { params = 1; names = 0; own = false; body = stmts ((simple 9025 (assign 9034 None (to_member 9029 (this 9025) 3) (var 9035 (Ref.Frame 0 0)))) ∷ (simple 9040 (assign 9050 None (to_member 9044 (this 9040) 4) (lit 9051 (whole (pos 0))))) ∷ []); parent = None; doc = 3 })
      ∷ (record { params = 0; names = 0; own = false; body = stmts ((return 11037 (Some (binary 11057 Add (binary 11053 Add (member 11048 (this 11044) 3) (lit 11054 (text (codes ":")))) (member 11062 (this 11058) 4)))) ∷ []); parent = None; doc = 4 })
      ∷ (record { params = 1; names = 0; own = false; body = stmts ((simple 12036 (assign 12046 (Some Add) (to_member 12040 (this 12036) 4) (var 12048 (Ref.Frame 0 0)))) ∷ []); parent = None; doc = 0 })
      ∷ (record { params = 1; names = 0; own = false; body = stmts ((return 1019 (Some (binary 1027 Mul (var 1026 (Ref.Frame 0 0)) (lit 1028 (whole (pos 2)))))) ∷ []); parent = None; doc = 0 })
      ∷ (record { params = 1; names = 1; own = false; body = stmts ((vars 3003 ((record { site = 3007; variable = (Ref.Frame 0 1); value = Some (new 3012 (member 3019 (var 3016 (Ref.Global 6)) 2) (exprs ((var 3025 (Ref.Frame 0 0)) ∷ []))) }) ∷ [])) ∷ (simple 4003 (call 4011 (member 4007 (var 4003 (Ref.Frame 0 1)) 7) (exprs ((call 4017 (var 4012 (Ref.Global 7)) (exprs ((lit 4018 (whole (pos 3))) ∷ []))) ∷ [])))) ∷ (simple 5003 (call 5017 (member 5012 (member 5006 (var 5003 (Ref.Global 6)) 8) 9) (exprs ((var 5018 (Ref.Frame 0 1)) ∷ [])))) ∷ (simple 6003 (call 6010 (member 6006 (var 6003 (Ref.Global 6)) 0) (exprs ((call 6021 (member 6015 (var 6011 (Ref.Frame 0 1)) 6) (exprs [])) ∷ [])))) ∷ []); parent = None; doc = 0 })
      ∷ (record { params = 0; names = 0; own = false; body = stmts ((simple 2003 (assign 2012 None (to_member 2006 (var 2003 (Ref.Global 6)) 8) (list 2013 (exprs [])))) ∷ (simple 3003 (call 3010 (member 3006 (var 3003 (Ref.Global 6)) 0) (exprs ((lit 3011 (text (codes "none"))) ∷ [])))) ∷ []); parent = None; doc = 0 }) ∷ [];
  chunks = (chunk_of [] ∷ chunk_of (0 ∷ []) ∷ chunk_of (0 ∷ []) ∷ []);
  globals = ((record { name = (codes "console"); chunk = None; doc = 0; flat = [] }) ∷ (record { name = (codes "on"); chunk = None; doc = 0; flat = [] }) ∷ (record { name = (codes "Object"); chunk = None; doc = 0; flat = [] }) ∷ (record { name = (codes "Math"); chunk = None; doc = 0; flat = [] }) ∷ (record { name = (codes "String"); chunk = None; doc = 0; flat = [] }) ∷ (record { name = (codes "DEBUG"); chunk = Some 0; doc = 1; flat = [] }) ∷ (record { name = (codes "app"); chunk = Some 0; doc = 0; flat = ((record { props = (0 ∷ []); doc = 0 }) ∷ (record { props = (2 ∷ []); doc = 0 }) ∷ (record { props = (8 ∷ []); doc = 5 }) ∷ []) }) ∷ (record { name = (codes "twice"); chunk = Some 1; doc = 0; flat = [] }) ∷ []);
  props = (prop (codes "say") ∷ kept_prop (codes "log") ∷ prop (codes "Item") ∷ prop (codes "name") ∷ prop (codes "count") ∷ kept_prop (codes "prototype") ∷ prop (codes "label") ∷ prop (codes "add") ∷ prop (codes "items") ∷ kept_prop (codes "push") ∷ []);
  kept = ((codes "log") ∷ []) ++ always_kept;
  classes = ((record { name = (codes "app.Item"); function = Some 4; external = false; interface = false; extends = None; implements = []; methods = ((6, 5) ∷ (7, 6) ∷ []); fields = [] }) ∷ []);
  places = [];
  docs = (no_doc ∷ (record no_doc { value = Some (record { kinds = 4; classes = []; unknown = false; element = None }); constant = false; define = true }) ∷ (record no_doc { params = (Some (record { kinds = 2; classes = []; unknown = false; element = None }) ∷ []); result = None; receiver = None; vars = [] }) ∷ (record no_doc { params = (Some (record { kinds = 2; classes = []; unknown = false; element = None }) ∷ []); result = None; receiver = None; vars = [] }) ∷ (record no_doc { params = []; result = Some (record { kinds = 2; classes = []; unknown = false; element = None }); receiver = None; vars = [] }) ∷ (record no_doc { value = Some (record { kinds = 16; classes = []; unknown = false; element = Some (record { kinds = 0; classes = (0 ∷ []) }) }); constant = false }) ∷ []);
}

application_run : run checked application (record { turns = (load 0 ∷ load 1 ∷ load 2 ∷ call_turn (record { callee = 0; this = undef; args = ((stext (codes "pen")) ∷ []) }) ∷ call_turn (record { callee = 1; this = undef; args = [] }) ∷ []); replies = ((record { first = []; answer = gives undef }) ∷ (record { first = []; answer = gives undef }) ∷ (record { first = []; answer = gives (shown_out 2) }) ∷ (record { first = []; answer = gives undef }) ∷ (record { first = []; answer = gives (shown_out 2) }) ∷ (record { first = []; answer = gives undef }) ∷ []) }) 40 ≡ record { events = (ended undef ∷ called (shown_out 1) undef ((stext (codes "add")) ∷ (handle 0) ∷ []) ∷ ended undef ∷ called (shown_out 1) undef ((stext (codes "clear")) ∷ (handle 1) ∷ []) ∷ ended undef ∷ got (shown_out 0) (codes "log") ∷ called (shown_out 2) (shown_out 0) ((stext (codes "pen:6")) ∷ []) ∷ ended undef ∷ got (shown_out 0) (codes "log") ∷ called (shown_out 2) (shown_out 0) ((stext (codes "none")) ∷ []) ∷ ended undef ∷ []); end = finished }
unfolding opened
application_run = refl

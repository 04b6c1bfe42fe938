-- The rule on prototypes of constructors.
use Rattle.std.specs.Prelude.{◌≡◌, refl, pos, false, [], ◌∷◌, Some, None, codes}
use Rattle.cc_ast.specs.Syntax.{Prim, whole, lit, var, this, object, assign, member, call, new, to_member, simple, vars, fun_decl, return, Program}
use Rattle.cc_ast.specs.declared.tree.Ref.{Ref}
use Rattle.cc_meaning.specs.Values.{shown_prim, shown_out, called, ended, at_site}
use Rattle.cc_meaning.specs.State.{gives}
use Rattle.cc_meaning.specs.Monad.{broken}
use Rattle.cc_meaning.specs.Names.{always_kept}
use Rattle.cc_meaning.specs.Script.{load, run, checked, finished, stopped}
use Rattle.cc_meaning.proofs.Opened.{opened}
use Rattle.cc_meaning.proofs.Trees.{exprs, fields, stmts, no_doc, chunk_of, prop, kept_prop, undef}

--     /** @constructor */
--     function B(){this.x=1;}
--     /** @constructor @extends {B} */
--     function S(){B.call(this);}
--     S.prototype=Object.create(B.prototype);
--     alert(new S().x);
abbrev sub_calls_base : Program
sub_calls_base = record {
  scopes =
      (record { params = 0; names = 0; own = false; body = stmts ((fun_decl 2001 (Ref.Global 4) 1) ∷ (fun_decl 4001 (Ref.Global 5) 2) ∷ (simple 5001 (assign 5012 None (to_member 5002 (var 5001 (Ref.Global 5)) 2) (call 5026 (member 5019 (var 5013 (Ref.Global 1)) 3) (exprs ((member 5028 (var 5027 (Ref.Global 4)) 2) ∷ []))))) ∷ (simple 6001 (call 6006 (var 6001 (Ref.Global 0)) (exprs ((member 6014 (new 6007 (var 6011 (Ref.Global 5)) (exprs [])) 0) ∷ [])))) ∷ []); parent = None; doc = 0 })
      ∷ (record { params = 0; names = 0; own = false; body = stmts ((simple 2014 (assign 2020 None (to_member 2018 (this 2014) 0) (lit 2021 (whole (pos 1))))) ∷ []); parent = None; doc = 1 })
      ∷ (record { params = 0; names = 0; own = false; body = stmts ((simple 4014 (call 4020 (member 4015 (var 4014 (Ref.Global 4)) 1) (exprs ((this 4021) ∷ [])))) ∷ []); parent = None; doc = 2 }) ∷ [];
  chunks = (chunk_of [] ∷ []);
  globals = ((record { name = (codes "alert"); chunk = None; doc = 0; flat = [] }) ∷ (record { name = (codes "Object"); chunk = None; doc = 0; flat = [] }) ∷ (record { name = (codes "Math"); chunk = None; doc = 0; flat = [] }) ∷ (record { name = (codes "String"); chunk = None; doc = 0; flat = [] }) ∷ (record { name = (codes "B"); chunk = Some 0; doc = 0; flat = [] }) ∷ (record { name = (codes "S"); chunk = Some 0; doc = 0; flat = [] }) ∷ []);
  props = (prop (codes "x") ∷ kept_prop (codes "call") ∷ kept_prop (codes "prototype") ∷ kept_prop (codes "create") ∷ []);
  kept = always_kept;
  classes = ((record { name = (codes "B"); function = Some 1; external = false; interface = false; extends = None; implements = []; methods = []; fields = [] }) ∷ (record { name = (codes "S"); function = Some 2; external = false; interface = false; extends = Some 0; implements = []; methods = []; fields = [] }) ∷ []);
  places = [];
  docs = (no_doc ∷ (record no_doc { params = []; result = None; receiver = None; vars = [] }) ∷ (record no_doc { params = []; result = None; receiver = None; vars = [] }) ∷ []);
}

sub_calls_base_run : run checked sub_calls_base (record { turns = (load 0 ∷ []); replies = ((record { first = []; answer = gives undef }) ∷ []) }) 40 ≡ record { events = (called (shown_out 0) undef ((shown_prim (whole (pos 1))) ∷ []) ∷ ended undef ∷ []); end = finished }
unfolding opened
sub_calls_base_run = refl

--     /** @constructor */
--     function F(){return {};}
--     new F();
abbrev new_of_class : Program
new_of_class = record {
  scopes =
      (record { params = 0; names = 0; own = false; body = stmts ((fun_decl 2001 (Ref.Global 4) 1) ∷ (simple 3001 (new 3001 (var 3005 (Ref.Global 4)) (exprs []))) ∷ []); parent = None; doc = 0 })
      ∷ (record { params = 0; names = 0; own = false; body = stmts ((return 2014 (Some (object 2021 (fields [])))) ∷ []); parent = None; doc = 1 }) ∷ [];
  chunks = (chunk_of [] ∷ []);
  globals = ((record { name = (codes "alert"); chunk = None; doc = 0; flat = [] }) ∷ (record { name = (codes "Object"); chunk = None; doc = 0; flat = [] }) ∷ (record { name = (codes "Math"); chunk = None; doc = 0; flat = [] }) ∷ (record { name = (codes "String"); chunk = None; doc = 0; flat = [] }) ∷ (record { name = (codes "F"); chunk = Some 0; doc = 0; flat = [] }) ∷ []);
  props = [];
  kept = always_kept;
  classes = ((record { name = (codes "F"); function = Some 1; external = false; interface = false; extends = None; implements = []; methods = []; fields = [] }) ∷ []);
  places = [];
  docs = (no_doc ∷ (record no_doc { params = []; result = None; receiver = None; vars = [] }) ∷ []);
}

new_of_class_run : run checked new_of_class (record { turns = (load 0 ∷ []); replies = [] }) 40 ≡ record { events = []; end = stopped (broken 6 (at_site 2014)) }
unfolding opened
new_of_class_run = refl

--     /** @constructor */
--     function B(){}
--     /** @constructor @extends {B} */
--     function S(){}
--     new S();
--     S.prototype=Object.create(B.prototype);
abbrev prototype_late : Program
prototype_late = record {
  scopes =
      (record { params = 0; names = 0; own = false; body = stmts ((fun_decl 2001 (Ref.Global 4) 1) ∷ (fun_decl 4001 (Ref.Global 5) 2) ∷ (simple 5001 (new 5001 (var 5005 (Ref.Global 5)) (exprs []))) ∷ (simple 6001 (assign 6012 None (to_member 6002 (var 6001 (Ref.Global 5)) 0) (call 6026 (member 6019 (var 6013 (Ref.Global 1)) 1) (exprs ((member 6028 (var 6027 (Ref.Global 4)) 0) ∷ []))))) ∷ []); parent = None; doc = 0 })
      ∷ (record { params = 0; names = 0; own = false; body = stmts []; parent = None; doc = 1 })
      ∷ (record { params = 0; names = 0; own = false; body = stmts []; parent = None; doc = 2 }) ∷ [];
  chunks = (chunk_of [] ∷ []);
  globals = ((record { name = (codes "alert"); chunk = None; doc = 0; flat = [] }) ∷ (record { name = (codes "Object"); chunk = None; doc = 0; flat = [] }) ∷ (record { name = (codes "Math"); chunk = None; doc = 0; flat = [] }) ∷ (record { name = (codes "String"); chunk = None; doc = 0; flat = [] }) ∷ (record { name = (codes "B"); chunk = Some 0; doc = 0; flat = [] }) ∷ (record { name = (codes "S"); chunk = Some 0; doc = 0; flat = [] }) ∷ []);
  props = (kept_prop (codes "prototype") ∷ kept_prop (codes "create") ∷ []);
  kept = always_kept;
  classes = ((record { name = (codes "B"); function = Some 1; external = false; interface = false; extends = None; implements = []; methods = []; fields = [] }) ∷ (record { name = (codes "S"); function = Some 2; external = false; interface = false; extends = Some 0; implements = []; methods = []; fields = [] }) ∷ []);
  places = [];
  docs = (no_doc ∷ (record no_doc { params = []; result = None; receiver = None; vars = [] }) ∷ (record no_doc { params = []; result = None; receiver = None; vars = [] }) ∷ []);
}

prototype_late_run : run checked prototype_late (record { turns = (load 0 ∷ []); replies = [] }) 40 ≡ record { events = []; end = stopped (broken 12 (at_site 6002)) }
unfolding opened
prototype_late_run = refl

--     /** @constructor */
--     function B(){}
--     /** @constructor @extends {B} */
--     function S(){}
--     S.prototype.x=1;
--     S.prototype=Object.create(B.prototype);
abbrev prototype_with_slot : Program
prototype_with_slot = record {
  scopes =
      (record { params = 0; names = 0; own = false; body = stmts ((fun_decl 2001 (Ref.Global 4) 1) ∷ (fun_decl 4001 (Ref.Global 5) 2) ∷ (simple 5001 (assign 5014 None (to_member 5012 (member 5002 (var 5001 (Ref.Global 5)) 0) 1) (lit 5015 (whole (pos 1))))) ∷ (simple 6001 (assign 6012 None (to_member 6002 (var 6001 (Ref.Global 5)) 0) (call 6026 (member 6019 (var 6013 (Ref.Global 1)) 2) (exprs ((member 6028 (var 6027 (Ref.Global 4)) 0) ∷ []))))) ∷ []); parent = None; doc = 0 })
      ∷ (record { params = 0; names = 0; own = false; body = stmts []; parent = None; doc = 1 })
      ∷ (record { params = 0; names = 0; own = false; body = stmts []; parent = None; doc = 2 }) ∷ [];
  chunks = (chunk_of [] ∷ []);
  globals = ((record { name = (codes "alert"); chunk = None; doc = 0; flat = [] }) ∷ (record { name = (codes "Object"); chunk = None; doc = 0; flat = [] }) ∷ (record { name = (codes "Math"); chunk = None; doc = 0; flat = [] }) ∷ (record { name = (codes "String"); chunk = None; doc = 0; flat = [] }) ∷ (record { name = (codes "B"); chunk = Some 0; doc = 0; flat = [] }) ∷ (record { name = (codes "S"); chunk = Some 0; doc = 0; flat = [] }) ∷ []);
  props = (kept_prop (codes "prototype") ∷ prop (codes "x") ∷ kept_prop (codes "create") ∷ []);
  kept = always_kept;
  classes = ((record { name = (codes "B"); function = Some 1; external = false; interface = false; extends = None; implements = []; methods = []; fields = [] }) ∷ (record { name = (codes "S"); function = Some 2; external = false; interface = false; extends = Some 0; implements = []; methods = []; fields = [] }) ∷ []);
  places = [];
  docs = (no_doc ∷ (record no_doc { params = []; result = None; receiver = None; vars = [] }) ∷ (record no_doc { params = []; result = None; receiver = None; vars = [] }) ∷ []);
}

prototype_with_slot_run : run checked prototype_with_slot (record { turns = (load 0 ∷ []); replies = [] }) 40 ≡ record { events = []; end = stopped (broken 12 (at_site 6002)) }
unfolding opened
prototype_with_slot_run = refl

--     /** @constructor */
--     function B(){}
--     /** @constructor */
--     function S(){}
--     S.prototype=Object.create(B.prototype);
abbrev prototype_of_other : Program
prototype_of_other = record {
  scopes =
      (record { params = 0; names = 0; own = false; body = stmts ((fun_decl 2001 (Ref.Global 4) 1) ∷ (fun_decl 4001 (Ref.Global 5) 2) ∷ (simple 5001 (assign 5012 None (to_member 5002 (var 5001 (Ref.Global 5)) 0) (call 5026 (member 5019 (var 5013 (Ref.Global 1)) 1) (exprs ((member 5028 (var 5027 (Ref.Global 4)) 0) ∷ []))))) ∷ []); parent = None; doc = 0 })
      ∷ (record { params = 0; names = 0; own = false; body = stmts []; parent = None; doc = 1 })
      ∷ (record { params = 0; names = 0; own = false; body = stmts []; parent = None; doc = 2 }) ∷ [];
  chunks = (chunk_of [] ∷ []);
  globals = ((record { name = (codes "alert"); chunk = None; doc = 0; flat = [] }) ∷ (record { name = (codes "Object"); chunk = None; doc = 0; flat = [] }) ∷ (record { name = (codes "Math"); chunk = None; doc = 0; flat = [] }) ∷ (record { name = (codes "String"); chunk = None; doc = 0; flat = [] }) ∷ (record { name = (codes "B"); chunk = Some 0; doc = 0; flat = [] }) ∷ (record { name = (codes "S"); chunk = Some 0; doc = 0; flat = [] }) ∷ []);
  props = (kept_prop (codes "prototype") ∷ kept_prop (codes "create") ∷ []);
  kept = always_kept;
  classes = ((record { name = (codes "B"); function = Some 1; external = false; interface = false; extends = None; implements = []; methods = []; fields = [] }) ∷ (record { name = (codes "S"); function = Some 2; external = false; interface = false; extends = None; implements = []; methods = []; fields = [] }) ∷ []);
  places = [];
  docs = (no_doc ∷ (record no_doc { params = []; result = None; receiver = None; vars = [] }) ∷ (record no_doc { params = []; result = None; receiver = None; vars = [] }) ∷ []);
}

prototype_of_other_run : run checked prototype_of_other (record { turns = (load 0 ∷ []); replies = [] }) 40 ≡ record { events = []; end = stopped (broken 12 (at_site 5002)) }
unfolding opened
prototype_of_other_run = refl

--     /** @constructor */
--     function B(){}
--     /** @constructor @extends {B} */
--     function S(){}
--     var T=S;
--     T.prototype=Object.create(B.prototype);
abbrev prototype_by_alias : Program
prototype_by_alias = record {
  scopes =
      (record { params = 0; names = 0; own = false; body = stmts ((fun_decl 2001 (Ref.Global 4) 1) ∷ (fun_decl 4001 (Ref.Global 5) 2) ∷ (vars 5001 ((record { site = 5005; variable = (Ref.Global 6); value = Some (var 5007 (Ref.Global 5)) }) ∷ [])) ∷ (simple 6001 (assign 6012 None (to_member 6002 (var 6001 (Ref.Global 6)) 0) (call 6026 (member 6019 (var 6013 (Ref.Global 1)) 1) (exprs ((member 6028 (var 6027 (Ref.Global 4)) 0) ∷ []))))) ∷ []); parent = None; doc = 0 })
      ∷ (record { params = 0; names = 0; own = false; body = stmts []; parent = None; doc = 1 })
      ∷ (record { params = 0; names = 0; own = false; body = stmts []; parent = None; doc = 2 }) ∷ [];
  chunks = (chunk_of [] ∷ []);
  globals = ((record { name = (codes "alert"); chunk = None; doc = 0; flat = [] }) ∷ (record { name = (codes "Object"); chunk = None; doc = 0; flat = [] }) ∷ (record { name = (codes "Math"); chunk = None; doc = 0; flat = [] }) ∷ (record { name = (codes "String"); chunk = None; doc = 0; flat = [] }) ∷ (record { name = (codes "B"); chunk = Some 0; doc = 0; flat = [] }) ∷ (record { name = (codes "S"); chunk = Some 0; doc = 0; flat = [] }) ∷ (record { name = (codes "T"); chunk = Some 0; doc = 0; flat = [] }) ∷ []);
  props = (kept_prop (codes "prototype") ∷ kept_prop (codes "create") ∷ []);
  kept = always_kept;
  classes = ((record { name = (codes "B"); function = Some 1; external = false; interface = false; extends = None; implements = []; methods = []; fields = [] }) ∷ (record { name = (codes "S"); function = Some 2; external = false; interface = false; extends = Some 0; implements = []; methods = []; fields = [] }) ∷ []);
  places = [];
  docs = (no_doc ∷ (record no_doc { params = []; result = None; receiver = None; vars = [] }) ∷ (record no_doc { params = []; result = None; receiver = None; vars = [] }) ∷ []);
}

prototype_by_alias_run : run checked prototype_by_alias (record { turns = (load 0 ∷ []); replies = [] }) 40 ≡ record { events = []; end = stopped (broken 12 (at_site 6002)) }
unfolding opened
prototype_by_alias_run = refl

--     /** @constructor */
--     function B(){}
--     /** @constructor @extends {B} */
--     function S(){}
--     function f(){S.prototype=Object.create(B.prototype);}
--     f();
abbrev prototype_by_function : Program
prototype_by_function = record {
  scopes =
      (record { params = 0; names = 0; own = false; body = stmts ((fun_decl 2001 (Ref.Global 4) 1) ∷ (fun_decl 4001 (Ref.Global 5) 2) ∷ (fun_decl 5001 (Ref.Global 6) 3) ∷ (simple 6001 (call 6002 (var 6001 (Ref.Global 6)) (exprs []))) ∷ []); parent = None; doc = 0 })
      ∷ (record { params = 0; names = 0; own = false; body = stmts []; parent = None; doc = 1 })
      ∷ (record { params = 0; names = 0; own = false; body = stmts []; parent = None; doc = 2 })
      ∷ (record { params = 0; names = 0; own = false; body = stmts ((simple 5014 (assign 5025 None (to_member 5015 (var 5014 (Ref.Global 5)) 0) (call 5039 (member 5032 (var 5026 (Ref.Global 1)) 1) (exprs ((member 5041 (var 5040 (Ref.Global 4)) 0) ∷ []))))) ∷ []); parent = None; doc = 0 }) ∷ [];
  chunks = (chunk_of [] ∷ []);
  globals = ((record { name = (codes "alert"); chunk = None; doc = 0; flat = [] }) ∷ (record { name = (codes "Object"); chunk = None; doc = 0; flat = [] }) ∷ (record { name = (codes "Math"); chunk = None; doc = 0; flat = [] }) ∷ (record { name = (codes "String"); chunk = None; doc = 0; flat = [] }) ∷ (record { name = (codes "B"); chunk = Some 0; doc = 0; flat = [] }) ∷ (record { name = (codes "S"); chunk = Some 0; doc = 0; flat = [] }) ∷ (record { name = (codes "f"); chunk = Some 0; doc = 0; flat = [] }) ∷ []);
  props = (kept_prop (codes "prototype") ∷ kept_prop (codes "create") ∷ []);
  kept = always_kept;
  classes = ((record { name = (codes "B"); function = Some 1; external = false; interface = false; extends = None; implements = []; methods = []; fields = [] }) ∷ (record { name = (codes "S"); function = Some 2; external = false; interface = false; extends = Some 0; implements = []; methods = []; fields = [] }) ∷ []);
  places = [];
  docs = (no_doc ∷ (record no_doc { params = []; result = None; receiver = None; vars = [] }) ∷ (record no_doc { params = []; result = None; receiver = None; vars = [] }) ∷ []);
}

prototype_by_function_run : run checked prototype_by_function (record { turns = (load 0 ∷ []); replies = [] }) 40 ≡ record { events = []; end = stopped (broken 12 (at_site 5015)) }
unfolding opened
prototype_by_function_run = refl

--     function f(){}f.prototype={};
abbrev prototype_of_plain : Program
prototype_of_plain = record {
  scopes =
      (record { params = 0; names = 0; own = false; body = stmts ((fun_decl 1001 (Ref.Global 4) 1) ∷ (simple 1015 (assign 1026 None (to_member 1016 (var 1015 (Ref.Global 4)) 0) (object 1027 (fields [])))) ∷ []); parent = None; doc = 0 })
      ∷ (record { params = 0; names = 0; own = false; body = stmts []; parent = None; doc = 0 }) ∷ [];
  chunks = (chunk_of [] ∷ []);
  globals = ((record { name = (codes "alert"); chunk = None; doc = 0; flat = [] }) ∷ (record { name = (codes "Object"); chunk = None; doc = 0; flat = [] }) ∷ (record { name = (codes "Math"); chunk = None; doc = 0; flat = [] }) ∷ (record { name = (codes "String"); chunk = None; doc = 0; flat = [] }) ∷ (record { name = (codes "f"); chunk = Some 0; doc = 0; flat = [] }) ∷ []);
  props = (kept_prop (codes "prototype") ∷ []);
  kept = always_kept;
  classes = [];
  places = [];
  docs = (no_doc ∷ []);
}

prototype_of_plain_run : run checked prototype_of_plain (record { turns = (load 0 ∷ []); replies = [] }) 40 ≡ record { events = []; end = stopped (broken 12 (at_site 1016)) }
unfolding opened
prototype_of_plain_run = refl

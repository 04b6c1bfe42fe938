-- The chain of a prototype that is declared, and what may stand on it.
use Rattle.std.specs.Prelude.{◌≡◌, refl, ℕ, true, false, [], ◌∷◌, List, Option, Some, None, codes}
use Rattle.cc_ast.specs.Syntax.{truth, Expr, binary, member, call, new, Stmt, fun_decl, Program}
use Rattle.cc_ast.specs.declared.operator.BinOp.TheVariants.{Instance}
use Rattle.cc_ast.specs.declared.tables.Class.{Class}
use Rattle.cc_ast.specs.declared.tree.Ref.{Ref}
use Rattle.cc_meaning.specs.Values.{shown_prim, at_site}
use Rattle.cc_meaning.specs.Monad.{broken}
use Rattle.cc_meaning.specs.Script.{run, checked, finished, stopped}
use Rattle.cc_meaning.proofs.Opened.{opened}
use Rattle.cc_meaning.proofs.Trees.{glo, exprs, alert, var_glo, set_dot, fn, one_chunk, kept_prop, undef, reply, main, alerted, done}

abbrev constructor : List ℕ → Option ℕ → (extends : Option ℕ) → Class
constructor n f e = record { name = n; function = f; external = false; interface = false; extends = e; implements = []; methods = []; fields = [] }

--     /** @constructor */
--     function H(){}
--     /** @constructor @extends {H} */
--     function G(){}
--     /** @constructor @extends {G} */
--     function F(){}
--
-- These are the globals 4, 5 and 6, the functions 1, 2 and 3 and the classes 0, 1 and 2; behind them stands x.
abbrev three : List Class → List Stmt → Program
three classes ss =
    record (one_chunk (codes "alert" ∷ []) (codes "H" ∷ codes "G" ∷ codes "F" ∷ codes "x" ∷ []) (kept_prop (codes "prototype") ∷ kept_prop (codes "create") ∷ [])
    (fn 0 0 (fun_decl 0 (Ref.Global 4) 1 ∷ fun_decl 0 (Ref.Global 5) 2 ∷ fun_decl 0 (Ref.Global 6) 3 ∷ ss) ∷ fn 0 0 [] ∷ fn 0 0 [] ∷ fn 0 0 [] ∷ [])) { classes = classes }

abbrev in_a_row : List Class
in_a_row = constructor (codes "H") (Some 1) None ∷ constructor (codes "G") (Some 2) (Some 0) ∷ constructor (codes "F") (Some 3) (Some 1) ∷ []

abbrev prototype : ℕ → Expr
prototype g = member 0 (glo g) 0

abbrev object_from : ℕ → Expr
object_from g = call 0 (member 0 (glo 1) 1) (exprs (prototype g ∷ []))

-- `A.prototype=Object.create(B.prototype);`
abbrev declares : (site a b : ℕ) → Stmt
declares i a b = set_dot i (glo a) 0 (object_from b)

--     G.prototype=Object.create(H.prototype);F.prototype=Object.create(G.prototype);alert(new F() instanceof H);
from_above : run checked (three in_a_row (declares 7 5 4 ∷ declares 8 6 5 ∷ alert (binary 0 Instance (new 0 (glo 6) (exprs [])) (glo 4)) ∷ [])) (main (reply undef ∷ [])) 9 ≡ record { events = alerted (shown_prim (truth true)) ∷ done ∷ []; end = finished }
unfolding opened
from_above = refl

-- The prototype of G is to be replaced: were this allowed, `new F() instanceof G` would be false, and true where the
-- declaration of F moves behind that of G.
--     F.prototype=Object.create(G.prototype);G.prototype=Object.create(H.prototype);
from_below : run checked (three in_a_row (declares 7 6 5 ∷ declares 8 5 4 ∷ [])) (main []) 9 ≡ record { events = []; end = stopped (broken 12 (at_site 7)) }
unfolding opened
from_below = refl

--     var x=Object.create(G.prototype);G.prototype=Object.create(H.prototype);
on_a_chain : run checked (three in_a_row (var_glo 7 (object_from 5) ∷ declares 7 5 4 ∷ [])) (main []) 9 ≡ record { events = []; end = stopped (broken 12 (at_site 7)) }
unfolding opened
on_a_chain = refl

--     var x=H;G.prototype=Object.create(x.prototype);x=null;
by_another_name : run checked (three in_a_row (var_glo 7 (glo 4) ∷ declares 7 5 7 ∷ [])) (main []) 9 ≡ record { events = []; end = stopped (broken 12 (at_site 7)) }
unfolding opened
by_another_name = refl

-- where H is a class of the externs, whose function isn't known
--     G.prototype=Object.create(H.prototype);
extern_above : run checked (three (constructor (codes "H") None None ∷ constructor (codes "G") (Some 2) (Some 0) ∷ []) (declares 7 5 4 ∷ [])) (main []) 9 ≡ record { events = []; end = stopped (broken 12 (at_site 7)) }
unfolding opened
extern_above = refl

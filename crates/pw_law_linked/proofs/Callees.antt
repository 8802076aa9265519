-- What the functions of a program call is one of its functions.
use Rattle.std.specs.Prelude.{ℕ, suc, Option, Some, None, List, [], ◌∷◌, map, Contains}
use Rattle.std.specs.List.{AllByRecursion, flat_map}
use Rattle.std.proofs.Common.{arith, subst, sym, refl}
use Rattle.std.proofs.lemmas.List.Elements.{Contains-append_left, Contains-append_right}
use Rattle.pw_flow.specs.declared.flow.Op.{Op}
use Rattle.pw_flow.specs.declared.flow.Op.TheVariants as op
use Rattle.pw_flow.specs.declared.flow.Block.{Block}
use Rattle.pw_flow.specs.declared.flow.FlowFn.{FlowFn}
use Rattle.pw_db.specs.declared.database.Web.{Web}
use Rattle.pw_db.specs.declared.database.Role.{Role}
use Rattle.pw_db.specs.declared.database.Directives.{Directives}
use Rattle.pw_webflow.specs.declared.web.WebFn.{WebFn}
use Rattle.pw_webflow.specs.Direction.{register_of, read_of, write_of, directed_op, directed_block, directed}
use Rattle.pw_alloc.specs.declared.located.Located.{Located}
use Rattle.pw_run_languages.specs.Programs.{Program}
use Rattle.pw_run_languages.specs.LawfulPrograms.{ops_of, IsFunctionName, NamesRightly}
use Rattle.pw_run_languages.specs.Direction.{directives_of, directed_by}
use Rattle.pw_run_languages.specs.Serving.{Serves, AllServe}
use Rattle.pw_law_select_walk.specs.Rows.{KnowsOp, KnowsBlock, KnowsWeb, Knows}

abbrev pub Anything : List ℕ → Type 0
Anything name = Unit {0}

abbrev pub KnowsCallees : Program → Located → Type 0
KnowsCallees p l = Knows Anything (IsFunctionName p) l

module _ (p : Program) where
  read_knows : (r : Option ℕ) (t : ℕ) (o : Op) → KnowsOp Anything (IsFunctionName p) (read_of None t o) → KnowsOp Anything (IsFunctionName p) (read_of r t o)
  read_knows None t o h = h
  read_knows (Some r) t o h = tt

  write_knows : (r : Option ℕ) (a : ℕ) (o : Op) → KnowsOp Anything (IsFunctionName p) (write_of None a o) → KnowsOp Anything (IsFunctionName p) (write_of r a o)
  write_knows None a o h = h
  write_knows (Some r) a o h = tt

  op_knows : (webs : List (Web × Role)) (o : Op) → NamesRightly p o → KnowsOp Anything (IsFunctionName p) (directed_op webs o)
  op_knows webs (op.AddrGlobal t x n) h = (tt, tt)
  op_knows webs (op.AddrFn t f) h = (tt, tt)
  op_knows webs (op.LoadG t x k) h = read_knows (register_of webs x) t (op.LoadG t x k) (tt, tt)
  op_knows webs (op.StoreG x a k) h = write_knows (register_of webs x) a (op.StoreG x a k) (tt, tt)
  op_knows webs (op.Call t f args) h = h
  op_knows webs _ h = tt

  ops_know : (webs : List (Web × Role)) (ops : List Op) → ((o : Op) → Contains ops o → NamesRightly p o) → AllByRecursion (KnowsOp Anything (IsFunctionName p)) (map (directed_op webs) ops)
  ops_know webs [] h = tt
  ops_know webs (o ∷ rest) h = (op_knows webs o (h o (0, omega arith, refl)), ops_know webs rest (λ q c. h q (suc c.0, omega (arith, c.1), c.2)))

  blocks_know : (webs : List (Web × Role)) (blocks : List Block) → ((o : Op) → Contains (flat_map (λ (b : Block). b.ops) blocks) o → NamesRightly p o)
      → AllByRecursion (KnowsBlock Anything (IsFunctionName p)) (map (directed_block webs) blocks)
  blocks_know webs [] h = tt
  blocks_know webs (b ∷ rest) h =
      let others = flat_map (λ (b : Block). b.ops) rest in
      (ops_know webs b.ops (λ o c. h o (Contains-append_left b.ops others o c)), blocks_know webs rest (λ o c. h o (Contains-append_right b.ops others o c)))

  webs_know : (webs : List (Web × Role)) → AllByRecursion (KnowsWeb Anything) webs
  webs_know [] = tt
  webs_know (w ∷ rest) = (tt, webs_know rest)

  body_knows : (f : FlowFn) (d : Directives) → ((o : Op) → Contains (ops_of f) o → NamesRightly p o) → AllByRecursion (KnowsBlock Anything (IsFunctionName p)) (directed f d).blocks
  unfolding directed
  body_knows f d h = blocks_know d.webs f.blocks h

  function_knows : (f : FlowFn) (d : Directives) (l : Located) → ((o : Op) → Contains (ops_of f) o → NamesRightly p o) → Serves (directed f d) l → KnowsCallees p l
  function_knows f d l h serves = record {
    blocks = subst (λ (b : WebFn). AllByRecursion (KnowsBlock Anything (IsFunctionName p)) b.blocks) (sym serves.body) (body_knows f d h);
    webs = webs_know l.body.directives.webs;
  }

  pub functions_know : (d : List (List ℕ × Directives)) (fs : List FlowFn) (ls : List Located) → ((f : FlowFn) (o : Op) → Contains fs f → Contains (ops_of f) o → NamesRightly p o)
      → AllServe (map (directed_by d) fs) ls → AllByRecursion (KnowsCallees p) ls
  functions_know d [] [] h serve = tt
  functions_know d [] (l ∷ ls) h serve = absurd serve
  functions_know d (f ∷ fs) [] h serve = tt
  functions_know d (f ∷ fs) (l ∷ ls) h serve =
      (function_knows f (directives_of d f.name) l (λ o c. h f o (0, omega arith, refl) c) serve.0, functions_know d fs ls (λ g o c. h g o (suc c.0, omega (arith, c.1), c.2)) serve.1)

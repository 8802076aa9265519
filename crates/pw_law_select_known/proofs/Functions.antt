-- Functions whose places serve are of operations that ask for what is there.
use Rattle.std.proofs.Common.{ℕ, List, [], ◌∷◌, length, map, refl, sym, subst, inl, inr}
use Rattle.std.specs.Prelude.{Option, Some, None}
use Rattle.std.specs.List.{AllByRecursion}
use Rattle.pw_files.proofs.Standing.{Has, has_each, each_by, contains_by, has_flat, has_flat_back}
use Rattle.pw_db.specs.declared.database.Web.{Web}
use Rattle.pw_db.specs.declared.database.Role.{Role}
use Rattle.pw_db.specs.declared.database.Directives.{Directives}
use Rattle.pw_flow.specs.declared.flow.FlowFn.{FlowFn}
use Rattle.pw_flow.specs.declared.flow.FlowModule.{FlowModule}
use Rattle.pw_flow.specs.declared.flow.Block.{Block}
use Rattle.pw_flow.specs.declared.flow.Op.{Op}
use Rattle.pw_flow.specs.declared.flow.Op.TheVariants as op
use Rattle.pw_flow.specs.ValidFlow.{IsValid, IsFunction, IsBlock, IsOp}
use Rattle.pw_webflow.specs.declared.web.WebOp.{WebOp}
use Rattle.pw_webflow.specs.declared.web.WebOp.TheVariants.{Flow}
use Rattle.pw_webflow.specs.declared.web.WebBlock.{WebBlock}
use Rattle.pw_webflow.specs.declared.web.WebFn.{WebFn}
use Rattle.pw_webflow.specs.Direction.{register_of, read_of, write_of, directed, directed_op, directed_block}
use Rattle.pw_alloc.specs.declared.located.Located.{Located}
use Rattle.pw_run_languages.specs.Programs.{Program, functions_of}
use Rattle.pw_run_languages.specs.LawfulPrograms.{IsProgram, NamesRightly, ops_of}
use Rattle.pw_run_languages.specs.Direction.{directives_of, directed_by, directed_functions}
use Rattle.pw_run_languages.specs.Serving.{AllServe}
use Rattle.pw_law_select_known.proofs.Commands.{OpIsFine}

abbrev pub WebOpIsFine : Program → ℕ → WebOp → Type 0
WebOpIsFine p slots (Flow o) = OpIsFine p slots o
WebOpIsFine p slots _ = Unit {0}

abbrev pub BlockIsFine : Program → ℕ → WebBlock → Type 0
BlockIsFine p slots b = AllByRecursion (WebOpIsFine p slots) b.ops

abbrev pub BodyIsFine : Program → WebFn → Type 0
BodyIsFine p body = AllByRecursion (BlockIsFine p (length body.slots)) body.blocks

abbrev pub FunctionsAreFine : Program → List Located → Type 0
FunctionsAreFine p functions = AllByRecursion (λ (l : Located). BodyIsFine p l.body) functions

module _ (p : Program) where
  op_fine : (temps slots : ℕ) (o : Op) → IsOp temps slots o → NamesRightly p o → OpIsFine p slots o
  op_fine temps slots (op.AddrGlobal t g n) valid right = (right, valid.1)
  op_fine temps slots (op.AddrSlot t s) valid right = valid.1
  op_fine temps slots (op.AddrFn t f) valid right = right
  op_fine temps slots _ valid right = tt

  read_fine : (slots : ℕ) (r : Option ℕ) (t : ℕ) (o : Op) → OpIsFine p slots o → WebOpIsFine p slots (read_of r t o)
  read_fine slots (Some r) t o h = tt
  read_fine slots None t o h = h

  write_fine : (slots : ℕ) (r : Option ℕ) (a : ℕ) (o : Op) → OpIsFine p slots o → WebOpIsFine p slots (write_of r a o)
  write_fine slots (Some r) a o h = tt
  write_fine slots None a o h = h

  directed_fine : (slots : ℕ) (webs : List (Web × Role)) (o : Op) → OpIsFine p slots o → WebOpIsFine p slots (directed_op webs o)
  directed_fine slots webs (op.LoadG t g k) h = read_fine slots (register_of webs g) t (op.LoadG t g k) h
  directed_fine slots webs (op.StoreG g a k) h = write_fine slots (register_of webs g) a (op.StoreG g a k) h
  directed_fine slots webs _ h = h

  mapped : {X Y : Type 0} (P : Y → Type 0) (f : X → Y) (xs : List X) → AllByRecursion (λ x. P (f x)) xs → AllByRecursion P (map f xs)
  mapped P f [] all = tt
  mapped P f (x ∷ xs) all = (all.0, mapped P f xs all.1)

  module _ (ok : IsProgram p) where
    function_valid : (f : FlowFn) → Has f (functions_of p) → IsFunction f
    function_valid f there =
        let m = has_flat_back (λ (m : FlowModule). m.functions) f p.modules there in
        has_each IsFunction m.0.functions f (has_each IsValid p.modules m.0 ok.modules m.1).parts.functions m.2

    flow_fine : (f : FlowFn) → Has f (functions_of p) → (b : Block) → Has b f.blocks → (o : Op) → Has o b.ops → OpIsFine p (length f.slots) o
    flow_fine f there b has o among =
        let valid = has_each (IsBlock f.temps (length f.slots) (length f.blocks)) f.blocks b (function_valid f there).blocks has in
        op_fine f.temps (length f.slots) o (has_each (IsOp f.temps (length f.slots)) b.ops o valid.ops among)
        (ok.ops f o (contains_by f (functions_of p) there) (contains_by o (ops_of f) (has_flat (λ (b : Block). b.ops) b o f.blocks has among)))

    body_fine : (f : FlowFn) (d : Directives) → Has f (functions_of p) → BodyIsFine p (directed f d)
    unfolding directed
    body_fine f d there =
        mapped (BlockIsFine p (length f.slots)) (directed_block d.webs) f.blocks (each_by (λ (b : Block). BlockIsFine p (length f.slots) (directed_block d.webs b)) f.blocks (λ b has.
        mapped (WebOpIsFine p (length f.slots)) (directed_op d.webs) b.ops (each_by (λ (o : Op). WebOpIsFine p (length f.slots) (directed_op d.webs o)) b.ops (λ o among.
        directed_fine (length f.slots) d.webs o (flow_fine f there b has o among)))))

    served : (d : List (List ℕ × Directives)) (fs : List FlowFn) (ls : List Located) → ((f : FlowFn) → Has f fs → Has f (functions_of p)) → AllServe (map (directed_by d) fs) ls → FunctionsAreFine p ls
    served d [] [] there all = tt
    served d (f ∷ fs) (l ∷ ls) there all = (
      subst (BodyIsFine p) (sym all.0.body) (body_fine f (directives_of d f.name) (there f (inl refl))),
      served d fs ls (λ g h. there g (inr h)) all.1,
    )
    served d [] (l ∷ ls) there all = absurd all
    served d (f ∷ fs) [] there all = absurd all

    pub functions_fine : (d : List (List ℕ × Directives)) (functions : List Located) → AllServe (directed_functions p d) functions → FunctionsAreFine p functions
    functions_fine d functions all = served d (functions_of p) functions (λ f h. h) all

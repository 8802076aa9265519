-- Functions of the program, by what is given.
use Rattle.std.proofs.Common.{◌≡◌, ℕ, zero, suc, Bool, true, false, if◌then◌else◌, Option, Some, None, List, [], ◌∷◌, map, length, slice_get, refl, sym, ap, subst, ◌∙◌, inl, inr}
use Rattle.std.specs.Prelude.{Contains}
use Rattle.std.specs.List.{AllByRecursion}
use Rattle.std.specs.Str.{bytes_eq}
use Rattle.pw_files.proofs.Standing.{Has, has_by, has_each, contains_by, has_right, has_flat, has_flat_back, has_map_back}
use Rattle.pw_db.specs.Database.{IsDirectives}
use Rattle.pw_db.specs.declared.database.Web.{Web}
use Rattle.pw_db.specs.declared.database.Role.{Role}
use Rattle.pw_db.specs.declared.database.Directives.{Directives}
use Rattle.pw_flow.specs.declared.flow.Op.{Op}
use Rattle.pw_flow.specs.declared.flow.Op.TheVariants as op
use Rattle.pw_flow.specs.declared.flow.Block.{Block}
use Rattle.pw_flow.specs.declared.flow.End.{End}
use Rattle.pw_flow.specs.declared.flow.FlowFn.{FlowFn}
use Rattle.pw_flow.specs.declared.flow.FlowModule.{FlowModule}
use Rattle.pw_flow.specs.ValidFlow.{IsValid, IsFunction, IsEnd}
use Rattle.pw_webflow.specs.declared.web.WebOp.{WebOp}
use Rattle.pw_webflow.specs.declared.web.WebBlock.{WebBlock}
use Rattle.pw_webflow.specs.declared.web.WebFn.{WebFn}
use Rattle.pw_webflow.specs.Direction.{register_of, read_of, write_of, directed, directed_op, directed_block}
use Rattle.pw_webflow.specs.ValidWebs.{IsWebOp, IsWebBlock, IsWebFn}
use Rattle.pw_webflow.proofs.DirectionLaws.{directed_lawful}
use Rattle.pw_alloc.specs.declared.located.Located.{Located}
use Rattle.pw_run_languages.specs.Programs.{Program, functions_of}
use Rattle.pw_run_languages.specs.LawfulPrograms.{IsProgram, NamesRightly, ops_of}
use Rattle.pw_run_languages.specs.Direction.{directives_of, directed_by, directed_functions}
use Rattle.pw_run_languages.specs.Serving.{Serves, AllServe}
use Rattle.pw_run_languages.specs.SelectionLaws.{FramesAre}
use Rattle.pw_law_select_known.specs.Laws.{StandsIn}
use Rattle.pw_law_select_calls.specs.FromLawSelectOps.Operations.{NamesAreRight}

-- a function whose places serve one of the program's, as it is directed
pub record IsFine (p : Program) (d : List (List ℕ × Directives)) (l : Located) : Type 0 where
  pub flow : FlowFn
  pub there : Has flow (functions_of p)
  pub serves : Serves (directed_by d flow) l
  pub name : l.body.name ≡ flow.name
  pub lawful : IsWebFn l.body
  pub names : (b : WebBlock) (o : WebOp) → Has b l.body.blocks → Has o b.ops → NamesAreRight p o
  pub frame : p.frame_of l.body.name ≡ l.frame

either : (b : Bool) (x y : Directives) → IsDirectives x → IsDirectives y → IsDirectives (if b then x else y)
either true x y h k = h
either false x y h k = k

pub directives_lawful : (d : List (List ℕ × Directives)) (f : List ℕ) → AllByRecursion (λ g. IsDirectives g.1) d → IsDirectives (directives_of d f)
directives_lawful [] f h = record { each = tt; numbers = tt; globals = tt; registers = tt; free = tt; saves = tt; apart = tt }
directives_lawful (g ∷ rest) f h = either (bytes_eq g.0 f) g.1 (directives_of rest f) h.0 (directives_lawful rest f h.1)

-- ---- names of operations

module _ (p : Program) where
  read_right : (r : Option ℕ) (t : ℕ) (o : Op) → NamesRightly p o → NamesAreRight p (read_of r t o)
  read_right (Some r) t o h = tt
  read_right None t o h = h

  write_right : (r : Option ℕ) (a : ℕ) (o : Op) → NamesRightly p o → NamesAreRight p (write_of r a o)
  write_right (Some r) a o h = tt
  write_right None a o h = h

  directed_right : (webs : List (Web × Role)) (o : Op) → NamesRightly p o → NamesAreRight p (directed_op webs o)
  directed_right webs (op.LoadG t g k) h = read_right (register_of webs g) t (op.LoadG t g k) h
  directed_right webs (op.StoreG g a k) h = write_right (register_of webs g) a (op.StoreG g a k) h
  directed_right webs _ h = h

  module _ (ok : IsProgram p) where
    pub function_valid : (f : FlowFn) → Has f (functions_of p) → IsFunction f
    function_valid f there =
        let m = has_flat_back (λ (m : FlowModule). m.functions) f p.modules there in
        has_each IsFunction m.0.functions f (has_each IsValid p.modules m.0 ok.modules m.1).parts.functions m.2

    body_right : (f : FlowFn) (x : Directives) → Has f (functions_of p) → (b : WebBlock) (o : WebOp) → Has b (directed f x).blocks → Has o b.ops → NamesAreRight p o
    unfolding directed
    body_right f x there b o has among =
        let block = has_map_back (directed_block x.webs) b f.blocks has in
        let inside : Has o (directed_block x.webs block.0).ops = subst (λ (y : WebBlock). Has o y.ops) (sym block.2) among in
        let flow = has_map_back (directed_op x.webs) o block.0.ops inside in
        subst (NamesAreRight p) flow.2
        (directed_right x.webs flow.0
        (ok.ops f flow.0 (contains_by f (functions_of p) there) (contains_by flow.0 (ops_of f) (has_flat (λ (b : Block). b.ops) block.0 flow.0 f.blocks block.1 flow.1))))

    own_name : (f : FlowFn) (x : Directives) → (directed f x).name ≡ f.name
    unfolding directed
    own_name f x = refl

    module _ (d : List (List ℕ × Directives)) (lawful : AllByRecursion (λ g. IsDirectives g.1) d) where
      one_fine : (f : FlowFn) (l : Located) → Has f (functions_of p) → Serves (directed_by d f) l → p.frame_of l.body.name ≡ l.frame → IsFine p d l
      one_fine f l there serves frame =
          let x = directives_of d f.name in
          let body : l.body ≡ directed f x = serves.body in
          record {
            flow = f;
            there = there;
            serves = serves;
            name = ap (λ (b : WebFn). b.name) body ∙ own_name f x;
            lawful = subst IsWebFn (sym body) (directed_lawful f x (function_valid f there) (directives_lawful d f.name lawful));
            names = λ b o has among. body_right f x there b o (subst (λ (y : WebFn). Has b y.blocks) body has) among;
            frame = frame;
          }

      each_fine : (fs : List FlowFn) (ls : List Located) → ((f : FlowFn) → Has f fs → Has f (functions_of p)) → ((l : Located) → Has l ls → p.frame_of l.body.name ≡ l.frame)
          → AllServe (map (directed_by d) fs) ls → AllByRecursion (IsFine p d) ls
      each_fine [] [] there frames all = tt
      each_fine [] (l ∷ ls) there frames all = absurd all
      each_fine (f ∷ fs) [] there frames all = tt
      each_fine (f ∷ fs) (l ∷ ls) there frames all = (
        one_fine f l (there f (inl refl)) all.0 (frames l (inl refl)),
        each_fine fs ls (λ g h. there g (inr h)) (λ k h. frames k (inr h)) all.1,
      )

      pub functions_fine : (functions : List Located) → AllServe (directed_functions p d) functions → FramesAre p functions → (l : Located) → Contains functions l → IsFine p d l
      functions_fine functions all frames l there =
          has_each (IsFine p d) functions l
          (each_fine (functions_of p) functions (λ f h. h) (λ k h. frames.defined k (contains_by k functions h)) all) (has_by l functions there)

has_got : {X : Type 0} (xs : List X) (k : ℕ) (x : X) → slice_get xs k ≡ Some x → Has x xs
has_got [] k x e = absurd cc
has_got (y ∷ ys) zero x e = inl (let same : y ≡ x = cc in same)
has_got (y ∷ ys) (suc k) x e = inr (has_got ys k x e)

-- a function's own directives are lawful, and its places serve its own body
pub serves_itself : (p : Program) (d : List (List ℕ × Directives)) (l : Located) → IsFine p d l → Serves l.body l
serves_itself p d l fine = subst (λ (b : WebFn). Serves b l) (sym fine.serves.body) fine.serves

-- ---- where a function stands

module _ (p : Program) (d : List (List ℕ × Directives)) (functions : List Located) (l : Located) (fine : IsFine p d l) (b : ℕ) where
  pub block_has : (left : List WebOp) (last : End) (here : StandsIn functions l b left last) → Has here.block l.body.blocks
  block_has left last here = has_got l.body.blocks b here.block here.at

  block_lawful : (left : List WebOp) (last : End) (here : StandsIn functions l b left last) → IsWebBlock l.body here.block
  block_lawful left last here = has_each (IsWebBlock l.body) l.body.blocks here.block fine.lawful.blocks (block_has left last here)

  pub op_has : (o : WebOp) (ops : List WebOp) (last : End) (here : StandsIn functions l b (o ∷ ops) last) → Has o here.block.ops
  op_has o ops last here = subst (λ (xs : List WebOp). Has o xs) (sym here.ops) (has_right o here.before (o ∷ ops) (inl refl))

  pub op_lawful : (o : WebOp) (ops : List WebOp) (last : End) → StandsIn functions l b (o ∷ ops) last → IsWebOp l.body o
  op_lawful o ops last here = has_each (IsWebOp l.body) here.block.ops o (block_lawful (o ∷ ops) last here).ops (op_has o ops last here)

  pub op_named : (o : WebOp) (ops : List WebOp) (last : End) → StandsIn functions l b (o ∷ ops) last → NamesAreRight p o
  op_named o ops last here = fine.names here.block o (block_has (o ∷ ops) last here) (op_has o ops last here)

  pub end_lawful : (left : List WebOp) (last : End) → StandsIn functions l b left last → IsEnd l.body.temps (length l.body.blocks) last
  end_lawful left last here = subst (IsEnd l.body.temps (length l.body.blocks)) here.end (block_lawful left last here).end

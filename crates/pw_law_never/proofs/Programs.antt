-- Functions, calls at each bound, and the run of a program.
use Rattle.std.proofs.Common.{ℕ, zero, suc, ◌+◌, ◌≡◌, ◌≢◌, ◌<◌, ◌≤◌, inr, refl, sym, ap, subst, ◌∙◌, arith, false, List, [], ◌∷◌, length, set, take, replicate, Option, Some, None, map}
use Rattle.std.specs.Prelude.{All, Contains, option_map, unwrap_or, slice_get}
use Rattle.std.specs.List.{flat_map}
use Rattle.std.specs.Str.{bytes_eq}
use Rattle.std.proofs.lemmas.Bool.{true≢false}
use Rattle.std.proofs.lemmas.List.{length-take-le, length-replicate}
use Rattle.std.proofs.lemmas.List.Elements.{All-head, All-tail, All-nil, All-cons, All-map, All-set, All-replicate}
use Rattle.pw_value.specs.declared.value.Value.{Value}
use Rattle.pw_value.specs.declared.value.Value.TheVariants as V
use Rattle.pw_value.specs.declared.value.Byte.{Byte}
use Rattle.pw_value.specs.declared.value.Byte.TheVariants as B
use Rattle.pw_value.specs.declared.value.Pointer.{Pointer as AnyPointer}
use Rattle.pw_value.specs.Values.{pieces_of}
use Rattle.pw_value.specs.Objects.{with_bytes}
use Rattle.pw_value.specs.ProgramNames.{main_name, main_shape}
use Rattle.pw_types.specs.TypeTrees.{CType, Int, Pointer, QTypes, NoType, OneType, type_of, RecordValue}
use Rattle.pw_types.specs.Shapes.{letter_of, letters_of, shape_of}
use Rattle.pw_types.specs.Labels.{labels_in}
use Rattle.pw_types.specs.declared.kind.IntKind.TheVariants as K
use Rattle.pw_types.specs.TypedTrees.{LocalValue, FunctionValue, GlobalValue, ItemValue, ItemBytes, ItemAddress, PlacedItem, ModuleValue}
use Rattle.pw_types.specs.WellTyped as W
use Rattle.pw_types.specs.TypedModules.{IsFunction, IsGlobal, WellTyped, AreParameters, AreItems, IsItem, item_size}
use Rattle.pw_cmean.specs.Worlds.{Program, ProgramModule, World, Callable, Body, Defined, Library, function_named, item_bytes, with_items, object_of, callable}
use Rattle.pw_cmean.specs.Acts.{Site, State, Outcome, Gives, Ends, Wrong}
use Rattle.pw_cmean.specs.Evaluation.{Calls as CallList, call}
use Rattle.pw_cmean.specs.Execution.{Flow, Normal, Breaks, Continues, Returns, Goes, Front}
use Rattle.pw_cmean.specs.SourceRun.{set_parameters, result_of, run_body, callee, calls, finish, run_main, start_state, seen, source_run}
use Rattle.pw_cmean.specs.Typed.{IsValueOf, IsLetterResult, IsResultOf, IsWellTyped, IsByte, HoldsBytes, IfGives, result_letter}
use Rattle.pw_cmean.proofs.SoundActs.{Any, HoldBytes}
use Rattle.pw_cmean.proofs.SoundTrees.{letter-result}
use Rattle.pw_law_never.specs.Resolved.{IsResolvedStatement, IsResolvedProgram}
use Rattle.pw_law_never.proofs.NotWrong.{IsRight, Right, Good, bind-r, bind-g, give-g, stop-r, need-g, undefined-r, during-r}
use Rattle.pw_law_never.proofs.Operators.{CanPut, IsNum, num-of}
use Rattle.pw_law_never.proofs.Calling.{IsOwnBody, named-own, AreValues, Fits, take_room-g, call-r, Level, contained, all-with, all-flat, all-find}
use Rattle.pw_law_never.proofs.Trees.{Types}
use Rattle.pw_law_never.proofs.Runs.{Leaves, Out, Numbered, holds-contained, with_locals-g, set_local-g, meaning-g}

-- ---- parameters and arguments

same-tail : (a b c d : ℕ) (xs ys : List ℕ) → a ∷ c ∷ xs ≡ b ∷ d ∷ ys → xs ≡ ys
same-tail a b c d xs ys e = cc

length-values : (params : QTypes) (vs : List Value) → AreValues params vs → length vs ≡ length (letters_of params)
length-values NoType [] h = refl
length-values (OneType q rest) (v ∷ vs) h = ap suc (length-values rest vs h.1)
length-values NoType (v ∷ vs) h = absurd h
length-values (OneType q rest) [] h = absurd h

length-parameters : (params : QTypes) (ls : List LocalValue) → AreParameters params ls → length (letters_of params) ≡ length ls
length-parameters NoType [] h = refl
length-parameters (OneType q rest) (l ∷ ls) h = ap suc (length-parameters rest ls h.2)
length-parameters NoType (l ∷ ls) h = absurd h
length-parameters (OneType q rest) [] h = absurd h

-- a parameter is a local of a scalar type
abbrev IsScalarAt : List LocalValue → ℕ → Type 0
IsScalarAt ls k = (l : LocalValue) × (slice_get ls k ≡ Some l) × W.IsScalar (type_of l.ty)

parameter-scalar : (params : QTypes) (ls : List LocalValue) (k : ℕ) → AreParameters params ls → k < length ls → IsScalarAt ls k
parameter-scalar NoType [] k h below = absurd (omega arith)
parameter-scalar (OneType q rest) (l ∷ ls) zero h below = (l, refl, subst W.IsScalar (sym h.1) h.0)
parameter-scalar (OneType q rest) (l ∷ ls) (suc k) h below = parameter-scalar rest ls k h.2 (omega arith)
parameter-scalar NoType (l ∷ ls) k h below = absurd h
parameter-scalar (OneType q rest) [] k h below = absurd h

taken-at : (n : ℕ) (ls : List LocalValue) (k : ℕ) → IsScalarAt (take n ls) k → IsScalarAt ls k
taken-at zero ls k h = (let e : None ≡ Some h.0 = h.1 in cc)
taken-at (suc n) [] k h = (let e : None ≡ Some h.0 = h.1 in cc)
taken-at (suc n) (l ∷ ls) zero h = h
taken-at (suc n) (l ∷ ls) (suc k) h = taken-at n ls k h

can-put-scalar : (records : List RecordValue) (ty : CType) (v : Value) → W.IsScalar ty → CanPut records ty v
can-put-scalar records (Int k) v s = tt
can-put-scalar records (Pointer q) v s = tt
can-put-scalar records _ v s = absurd s

module _ (types : Types) (w : World) (home : ProgramModule) (f : FunctionValue) (well : IsWellTyped w.program) (inside : Contains w.program.modules home) (fn : IsFunction home.tree f) where
  scalar-at : (k : ℕ) → k < f.params → IsScalarAt f.locals k
  scalar-at k below =
      taken-at f.params f.locals k (parameter-scalar fn.typed.params (take f.params f.locals) k fn.typed.takes
      (subst (λ n. k < n) (sym (length-take-le f.params f.locals fn.typed.count)) below))

  set_parameters-g : (at : Site) (k : ℕ) (vs : List Value) (numbers : List (Option ℕ)) (scope : ℕ → Type 0) → k + length vs ≤ f.params
      → Numbered f.locals numbers scope → ((j : ℕ) → j < f.params → scope j)
      → Good Any (set_parameters at k vs (record { world = w; home = home; locals = f.locals; numbers = numbers }))
  unfolding set_parameters
  set_parameters-g at k [] numbers scope room n s = give-g Any tt tt
  set_parameters-g at k (v ∷ vs) numbers scope room n s =
      let more : k + suc (length vs) ≤ f.params = room in
      let one : IsScalarAt f.locals k = scalar-at k (omega arith) in
      bind-g (set_local-g types w home f well inside fn at k v numbers scope one.0 n (s k (omega arith)) one.1 (can-put-scalar home.tree.records (type_of one.0.ty) v one.2)) λ u x.
      set_parameters-g at (suc k) vs numbers scope (omega arith) n s

  -- nothing goes out of a body
  result_of-g : (flow : Flow) → Leaves false false (Out f (labels_in f.body)) flow → Good Any (result_of flow)
  unfolding result_of
  result_of-g Normal h = give-g Any None tt
  result_of-g (Returns r) h = give-g Any r tt
  result_of-g Breaks h = absurd (true≢false (sym h))
  result_of-g Continues h = absurd (true≢false (sym h))
  result_of-g (Goes l) h =
      absurd (true≢false (sym (holds-contained (labels_in f.body) l (contained (Contains (labels_in f.body)) f.named l fn.labels.there h.0)) ∙ h.1))

  -- as many arguments as parameters
  count-arguments : (shape : List ℕ) (vs : List Value) → shape ≡ shape_of home.tree.records (type_of f.ty) false → Fits shape vs → length vs ≡ f.params
  count-arguments shape vs e h =
      let own : shape ≡ 102 ∷ letter_of (type_of fn.typed.result) ∷ letters_of fn.typed.params = e ∙ ap (λ ty. shape_of home.tree.records ty false) fn.typed.type_is in
      let same : letters_of h.1 ≡ letters_of fn.typed.params = same-tail 102 102 h.0 (letter_of (type_of fn.typed.result)) (letters_of h.1) (letters_of fn.typed.params) (sym h.2 ∙ own) in
      length-values h.1 vs h.3 ∙ ap length same ∙ length-parameters fn.typed.params (take f.params f.locals) fn.typed.takes
      ∙ length-take-le f.params f.locals fn.typed.count

  -- where no local is in scope
  abbrev Nowhere : ℕ → Type 0
  Nowhere k = ⊥

  outermost-numbered : Numbered f.locals (replicate (length f.locals) None) Nowhere
  outermost-numbered = record { count = length-replicate (length f.locals) None; has = λ k s. absurd s }

  pub body-r : (cs : CallList) (name : List ℕ) (vs : List Value) → Level w cs → length vs ≡ f.params
      → IsResolvedStatement w.program home.name (λ k. k < f.params) f.body → Right (run_body w cs name (Defined home f) vs)
  unfolding run_body
  body-r cs name vs l count r =
      bind-r (take_room-g w name) λ u x. during-r name (with_locals-g types w home f well inside fn {P = Any} f.params 0 _ (replicate (length f.locals) None) Nowhere
      (let c : f.params ≤ length f.locals = fn.typed.count in omega arith) outermost-numbered λ numbers n.
      let n' : Numbered f.locals numbers (λ k. k < f.params) = record { count = n.count; has = λ k below. n.has k (inr (omega arith, omega arith)) } in
      bind-g (set_parameters-g _ 0 vs numbers (λ k. k < f.params) (subst (λ m. 0 + m ≤ f.params) (sym count) (omega arith)) n' (λ j below. below)) λ u x.
      bind-g (meaning-g types w home f well inside fn f.body false false f.params Front numbers (λ k. k < f.params) cs n' l fn.body r) λ flow i. result_of-g flow i).right

-- ---- calls

module _ (types : Types) (w : World) (well : IsWellTyped w.program) (resolved : IsResolvedProgram w.program) where
  called-r : (cs : CallList) (name shape : List ℕ) (b : Body) (m : ProgramModule) (d : FunctionValue) (vs : List Value) → b ≡ Defined m d → IsOwnBody w.program shape b → Fits shape vs → Level w cs
      → Right (run_body w cs name b vs)
  called-r cs name shape b m d vs e o h l =
      subst (λ b. Right (run_body w cs name b vs)) (sym e) (defined-r (subst (λ b. IsOwnBody w.program shape b) e o))
    where
      defined-r : IsOwnBody w.program shape (Defined m d) → Right (run_body w cs name (Defined m d) vs)
      defined-r own =
          let tree : WellTyped m.tree = contained (λ m. WellTyped m.tree) w.program.modules m well.modules own.0 in
          let fn : IsFunction m.tree d = contained (IsFunction m.tree) m.tree.functions d tree.functions own.1 in
          body-r types w m d well own.0 fn cs name vs l (count-arguments types w m d well own.0 fn shape vs own.2 h) (resolved.bodies m d own.0 own.1)

  pub level-of : (n : ℕ) → Level w (calls w n)
  unfolding calls callee
  level-of zero = record { bound = zero; is = refl; right = tt }
  level-of (suc n) = record {
    bound = suc n;
    is = refl;
    right = (λ f vs m d e o h. called-r (calls w n) f.name f.shape f.body m d vs e o h (level-of n), (level-of n).right);
  }

-- ---- the start

with_bytes-are : (new : List Byte) (i : ℕ) (bytes : List Byte) → All IsByte new → All IsByte bytes → All IsByte (with_bytes new i bytes)
with_bytes-are [] i bytes h k = k
with_bytes-are (b ∷ new) i bytes h k =
    with_bytes-are new (suc i) (set bytes i b) (All-tail IsByte b new h) (All-set IsByte bytes i b (All-head IsByte b new h) k)

piece-first : (q : AnyPointer) (i : ℕ) (rest : List Byte) → All IsByte rest → All IsByte (B.Piece q i ∷ rest)
piece-first q i rest h = All-cons IsByte (B.Piece q i) rest tt h

pieces-are : (q : AnyPointer) → All IsByte (pieces_of q)
pieces-are q =
    piece-first q 0 (B.Piece q 1 ∷ B.Piece q 2 ∷ B.Piece q 3 ∷ []) (piece-first q 1 (B.Piece q 2 ∷ B.Piece q 3 ∷ [])
    (piece-first q 2 (B.Piece q 3 ∷ []) (piece-first q 3 [] (All-nil IsByte))))

address-bytes : (o : Option AnyPointer) → All IsByte (unwrap_or (option_map pieces_of o) [])
address-bytes None = All-nil IsByte
address-bytes (Some q) = pieces-are q

item-are : (p : Program) (m : ModuleValue) (home : List ℕ) (item : ItemValue) → IsItem m item → All IsByte (item_bytes p home item)
item-are p m home (ItemBytes bytes) h = All-map IsByte B.Num bytes h
item-are p m home (ItemAddress symbol offset) h = address-bytes _

items-are : (p : Program) (m : ModuleValue) (home : List ℕ) (from size : ℕ) (items : List PlacedItem) (bytes : List Byte) → AreItems m from size items → All IsByte bytes
    → All IsByte (with_items p home items bytes)
items-are p m home from size [] bytes h k = k
items-are p m home from size (i ∷ rest) bytes h k =
    items-are p m home (i.offset + item_size i.item) size rest (with_bytes (item_bytes p home i.item) i.offset bytes) h.2
    (with_bytes-are (item_bytes p home i.item) i.offset bytes (item-are p m home i.item h.1) k)

object-holds : (p : Program) (m : ProgramModule) (g : GlobalValue) → IsGlobal m.tree g → All IsByte (object_of p m g).bytes
object-holds p m g h = items-are p m.tree m.name 0 _ g.items _ h.items (All-replicate IsByte _ (B.Num 0) (omega arith))

-- the objects at the start hold bytes
start-holds : (p : Program) (input : List ℕ) → IsWellTyped p → All (λ b. b < 256) input → HoldsBytes (start_state p input)
start-holds p input well bytes = record {
  objects = all-flat (λ o. All IsByte o.bytes) (λ m. map (object_of p m) m.tree.globals) p.modules (all-with (λ m. HoldBytes (map (object_of p m) m.tree.globals)) p.modules λ m inside.
      let tree : WellTyped m.tree = contained (λ m. WellTyped m.tree) p.modules m well.modules inside in
      All-map (λ o. All IsByte o.bytes) (object_of p m) m.tree.globals (all-with (λ g. All IsByte (object_of p m g).bytes) m.tree.globals λ g there.
      object-holds p m g (contained (IsGlobal m.tree) m.tree.globals g tree.globals there)));
  input = bytes;
}

-- ---- the run

-- what a call of `main` gives, and what `main` is
pub record Law : Type 0 where
  pub types : Types
  pub calls_give : (world : World) (n : ℕ) (name : List ℕ) (f : Callable) (args : List Value) (s : State) → IsWellTyped world.program → function_named world.program name ≡ Some f
      → HoldsBytes s → IfGives (IsLetterResult (result_letter f.shape)) (call world (calls world n) f args s)

-- the library has no `main`
abbrev IsDefined : Body → Type 0
IsDefined (Defined m d) = Unit {0}
IsDefined (Library g) = ⊥

main-defined : (p : Program) (f : Callable) → function_named p main_name ≡ Some f → IsDefined f.body
main-defined p f e =
    all-find (λ g. IsDefined g.body) (λ g. bytes_eq g.name main_name) (flat_map (λ m. map (callable m) m.tree.functions) p.modules) f
    (all-flat (λ g. IsDefined g.body) (λ m. map (callable m) m.tree.functions) p.modules (all-with (λ m. All (λ g. IsDefined g.body) (map (callable m) m.tree.functions)) p.modules λ m inside.
    All-map (λ g. IsDefined g.body) (callable m) m.tree.functions (all-with (λ d. Unit {0}) m.tree.functions (λ d there. tt))))
    e

int-one : (v : Value) → IsValueOf (Int K.Int) v → IsNum v
int-one v h = num-of K.Int v refl h

finish-r : (b : Body) (r : Option Value) → IsDefined b → IsResultOf (Int K.Int) r → Right (finish b r)
unfolding finish
finish-r b (Some (V.Num n)) d h = stop-r _ (λ e. cc)
finish-r (Defined m f) None d h = undefined-r _ _
finish-r (Library g) None d h = absurd d
finish-r b (Some (V.Piece q i)) d h = absurd (int-one (V.Piece q i) h)
finish-r b (Some V.Undefined) d h = absurd h
finish-r b (Some V.Null) d h = absurd h
finish-r b (Some (V.At q)) d h = absurd h

run_main-r : (law : Law) (w : World) (n : ℕ) → IsWellTyped w.program → IsResolvedProgram w.program → Right (run_main w n)
unfolding run_main
run_main-r law w n well resolved =
    let found : function_named w.program main_name ≡ Some resolved.main.0 = resolved.main.1 in
    bind-r (need-g _ (resolved.main.0, found)) λ f same.
    let one : resolved.main.0 ≡ f = (let both : Some resolved.main.0 ≡ Some f = sym found ∙ same in cc) in
    let shape : f.shape ≡ main_shape = subst (λ (g : Callable). g.shape ≡ main_shape) one resolved.main.2 in
    bind-r (record {
      sound = record { run = λ s h. law.calls_give w n main_name f [] s well same h };
      right = call-r w (calls w n) f [] (named-own w.program main_name f same) (105, NoType, shape, tt) (level-of law.types w well resolved n).right;
    }) λ r h.
    finish-r f.body r (main-defined w.program f same) (letter-result (result_letter f.shape) (Int K.Int) r (sym (ap result_letter shape)) h)

seen-r : (o : Outcome (Unit {0})) → IsRight o → (seen o).end ≢ Wrong
seen-r (Gives a s) h = λ e. cc
seen-r (Ends e s) h = h

pub never-wrong : (law : Law) (p : Program) (frame_of : List ℕ → ℕ) (stack : ℕ) (input : List ℕ) (n : ℕ) → IsWellTyped p → IsResolvedProgram p → All (λ b. b < 256) input
    → (source_run p frame_of stack input n).end ≢ Wrong
unfolding source_run
never-wrong law p frame_of stack input n well resolved bytes =
    seen-r _ ((run_main-r law (record { program = p; frame_of = frame_of; stack = stack }) n well resolved).run (start_state p input) (start-holds p input well bytes))

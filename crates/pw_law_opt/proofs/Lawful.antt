-- Optimised modules are lawful.
use Rattle.std.specs.Prelude.{ℕ, zero, suc, ◌≡◌, ◌<◌, ◌≤◌, ◌^◌, Bool, true, false, if◌then◌else◌, Some, None, List, [], ◌∷◌, ◌++◌, length, map}
use Rattle.std.specs.List.{flat_map, AllByRecursion}
use Rattle.std.proofs.Common.{refl, sym, ap, ap₂, subst, ◌∙◌}
use Rattle.std.proofs.lemmas.List.{length-map}
use Rattle.std.proofs.lemmas.Bool.{ltb-true}
use Rattle.std.proofs.lemmas.List.Concat.{flat_map-cons}
use Rattle.pw_value.specs.Limits.{parameter_limit}
use Rattle.pw_value.specs.ProgramNames.{IsOrdinary, KeepsStart}
use Rattle.pw_flow.specs.declared.flow.Op.{Op}
use Rattle.pw_flow.specs.declared.flow.Op.TheVariants as op
use Rattle.pw_flow.specs.declared.flow.End.{End}
use Rattle.pw_flow.specs.declared.flow.End.TheVariants.{Jump, Branch, Return}
use Rattle.pw_flow.specs.declared.flow.Block.{Block}
use Rattle.pw_flow.specs.declared.flow.FlowGlobal.{FlowGlobal}
use Rattle.pw_flow.specs.declared.flow.FlowFn.{FlowFn}
use Rattle.pw_flow.specs.declared.flow.FlowModule.{FlowModule}
use Rattle.pw_flow.specs.FlowGraph.{global_names, function_names, op_names, names_in_global, names_in_block, names_in_function}
use Rattle.pw_flow.specs.ValidFlow.{IsOp, IsEnd, IsBlock, IsGlobal, IsFunction, AreArguments, AreDistinct}
use Rattle.pw_flow.specs.Outline.{Outline, outline_of}
use Rattle.pw_opt_rules.specs.declared.flat.Flat.{Flat}
use Rattle.pw_opt_rules.specs.declared.flat.Flat.TheVariants.{Bottom, One, Many}
use Rattle.pw_opt_rules.specs.Rows.{known, behind, front}
use Rattle.pw_opt_rules.specs.Rewriting.{Rewriting, rewritten_ops, rewritten_block, rewritten_blocks, with_blocks, IsRewritten}
use Rattle.pw_opt_rules.specs.Constants.{constant, const_or, constant_op, jump_or, constant_end, constants}
use Rattle.pw_opt_rules.specs.Copies.{one_or, original, with_operands, with_end_operand, copies}
use Rattle.pw_opt_rules.specs.Dead.{is_dead, live_ops, live_block, without_dead}
use Rattle.pw_opt_rules.specs.Optimised.{IsOptimised, stays, steps, AreOptimised, none, also}
use Rattle.pw_opt_rules.proofs.Folding.{folded_holds}
use Rattle.pw_law_opt.specs.Laws.{OptimisationKeepsLawful}
use Rattle.pw_opt_order.specs.Rises.{Rises}
use Rattle.pw_opt_order.specs.Order.{constants_rise, copies_rise}
use Rattle.pw_law_opt.proofs.Keeping.{IsFine, AreFine, Gives, behind_fine, least_fine}
use Rattle.pw_law_opt.proofs.Words.{is_word, is_temp, ResultsAreWords, constant_fine, constants_give, copies_give}

-- ---- lists

pub all_both : {X : Type 0} (P : X → Type 0) (xs ys : List X) → AllByRecursion P xs → AllByRecursion P ys → AllByRecursion P (xs ++ ys)
all_both P [] ys a b = b
all_both P (x ∷ xs) ys a b = (a.0, all_both P xs ys a.1 b)

pub all_first : {X : Type 0} (P : X → Type 0) (xs ys : List X) → AllByRecursion P (xs ++ ys) → AllByRecursion P xs
all_first P [] ys a = tt
all_first P (x ∷ xs) ys a = (a.0, all_first P xs ys a.1)

pub all_second : {X : Type 0} (P : X → Type 0) (xs ys : List X) → AllByRecursion P (xs ++ ys) → AllByRecursion P ys
all_second P [] ys a = a
all_second P (x ∷ xs) ys a = all_second P xs ys a.1

-- what holds of all pieces of a list of lists
pub all_pieces : {X Y : Type 0} (P : Y → Type 0) (g : X → List Y) (xs : List X) → AllByRecursion P (flat_map g xs) → AllByRecursion (λ x. AllByRecursion P (g x)) xs
all_pieces P g [] a = tt
all_pieces P g (x ∷ xs) a =
    let b = subst (AllByRecursion P) (flat_map-cons g x xs) a in
    (all_first P (g x) (flat_map g xs) b, all_pieces P g xs (all_second P (g x) (flat_map g xs) b))

pub all_joined : {X Y : Type 0} (P : Y → Type 0) (g : X → List Y) (xs : List X) → AllByRecursion (λ x. AllByRecursion P (g x)) xs → AllByRecursion P (flat_map g xs)
all_joined P g [] a = tt
all_joined P g (x ∷ xs) a = subst (AllByRecursion P) (sym (flat_map-cons g x xs)) (all_both P (g x) (flat_map g xs) a.0 (all_joined P g xs a.1))

-- ---- a function

-- it is lawful, and names lawful names alone
record IsOwn (f : FlowFn) : Type 0 where
  pub lawful : IsFunction f
  pub names : AllByRecursion (λ (b : Block). AllByRecursion (λ (o : Op). AllByRecursion IsOrdinary (op_names o)) b.ops) f.blocks

abbrev Ordinary : Op → Type 0
Ordinary o = AllByRecursion IsOrdinary (op_names o)

-- a rewriting keeps operations and ends lawful where what is known is fine
record KeepsLawful (ok : ℕ → Bool) (w : Rewriting) (temps slots : ℕ) : Type 0 where
  pub rises : Rises w.transfer
  pub gives : Gives ok w.transfer temps slots
  pub ops : (row : List Flat) (o : Op) → AreFine ok row → IsOp temps slots o → IsOp temps slots (w.op row o)
  pub names : (row : List Flat) (o : Op) → Ordinary o → Ordinary (w.op row o)
  pub ends : (row : List Flat) (e : End) (blocks : ℕ) → AreFine ok row → IsEnd temps blocks e → IsEnd temps blocks (w.end row e)

module _ (ok : ℕ → Bool) (w : Rewriting) (temps slots : ℕ) (k : KeepsLawful ok w temps slots) where
  ops_lawful : (row : List Flat) (ops : List Op) → AreFine ok row → AllByRecursion (IsOp temps slots) ops → AllByRecursion (IsOp temps slots) (rewritten_ops w row ops)
  ops_lawful row [] fine all = tt
  ops_lawful row (o ∷ ops) fine all = (k.ops row o fine all.0, ops_lawful (w.transfer row o) ops (k.gives.fine row o all.0 fine) all.1)

  ops_ordinary : (row : List Flat) (ops : List Op) → AllByRecursion Ordinary ops → AllByRecursion Ordinary (rewritten_ops w row ops)
  ops_ordinary row [] all = tt
  ops_ordinary row (o ∷ ops) all = (k.names row o all.0, ops_ordinary (w.transfer row o) ops all.1)

  block_lawful : (row : List Flat) (b : Block) (blocks : ℕ) → AreFine ok row → IsBlock temps slots blocks b → IsBlock temps slots blocks (rewritten_block w row b)
  block_lawful row b blocks fine lawful = record {
    depth = lawful.depth;
    ops = ops_lawful row b.ops fine lawful.ops;
    end = k.ends (behind w.transfer row b.ops) b.end blocks (behind_fine ok w.transfer temps slots k.gives row b.ops lawful.ops fine) lawful.end;
  }

  nothing_fine : AreFine ok []
  nothing_fine t = tt

  blocks_lawful : (rows : List (List Flat)) (bs : List Block) (count : ℕ) → ((b : ℕ) → AreFine ok (front rows b)) → AllByRecursion (IsBlock temps slots count) bs → AllByRecursion (IsBlock temps slots count) (rewritten_blocks w rows bs)
  blocks_lawful rows [] count fine all = tt
  blocks_lawful [] (b ∷ bs) count fine all = (block_lawful [] b count nothing_fine all.0, blocks_lawful [] bs count (λ n. nothing_fine) all.1)
  blocks_lawful (row ∷ rows) (b ∷ bs) count fine all = (block_lawful row b count (fine 0) all.0, blocks_lawful rows bs count (λ n. fine (suc n)) all.1)

  blocks_ordinary : (rows : List (List Flat)) (bs : List Block) → AllByRecursion (λ (b : Block). AllByRecursion Ordinary b.ops) bs → AllByRecursion (λ (b : Block). AllByRecursion Ordinary b.ops) (rewritten_blocks w rows bs)
  blocks_ordinary rows [] all = tt
  blocks_ordinary [] (b ∷ bs) all = (ops_ordinary [] b.ops all.0, blocks_ordinary [] bs all.1)
  blocks_ordinary (row ∷ rows) (b ∷ bs) all = (ops_ordinary row b.ops all.0, blocks_ordinary rows bs all.1)

  blocks_long : (rows : List (List Flat)) (bs : List Block) → length (rewritten_blocks w rows bs) ≡ length bs
  blocks_long rows [] = refl
  blocks_long [] (b ∷ bs) = ap suc (blocks_long [] bs)
  blocks_long (row ∷ rows) (b ∷ bs) = ap suc (blocks_long rows bs)

with_lawful : (f : FlowFn) (bs : List Block) → length bs ≡ length f.blocks → IsFunction f → AllByRecursion (IsBlock f.temps (length f.slots) (length f.blocks)) bs → IsFunction (with_blocks f bs)
with_lawful f bs long lawful all = record {
  few = record {
    few_params = lawful.few.few_params;
    params = lawful.few.params;
    room = lawful.few.room;
    start = subst (λ n. 0 < n) (sym long) lawful.few.start;
  };
  blocks = subst (λ n. AllByRecursion (IsBlock f.temps (length f.slots) n) bs) (sym long) all;
}

rewritten_own : (ok : ℕ → Bool) (w : Rewriting) (f g : FlowFn) → KeepsLawful ok w f.temps (length f.slots) → IsOwn f → IsRewritten w f g → IsOwn g
rewritten_own ok w f g k own r = subst IsOwn (sym r.is) (record {
  lawful = with_lawful f (rewritten_blocks w r.rows f.blocks) (blocks_long ok w f.temps (length f.slots) k r.rows f.blocks) own.lawful
      (blocks_lawful ok w f.temps (length f.slots) k r.rows f.blocks (length f.blocks)
      (least_fine ok w.transfer k.rises f (length f.slots) (length f.blocks) own.lawful.blocks k.gives r.rows r.known) own.lawful.blocks);
  names = blocks_ordinary ok w f.temps (length f.slots) k r.rows f.blocks own.names;
})

-- ---- constants

const_lawful : (temps slots t : ℕ) (x : Flat) (o : Op) → t < temps → IsFine is_word x → IsOp temps slots o → IsOp temps slots (const_or t x o)
const_lawful temps slots t Bottom o lt fine lawful = lawful
const_lawful temps slots t (One n) o lt fine lawful = (lt, ltb-true n (2 ^ 32) fine)
const_lawful temps slots t Many o lt fine lawful = lawful

module _ (words : ResultsAreWords) (temps slots : ℕ) where
  constant_op_lawful : (row : List Flat) (o : Op) → AreFine is_word row → IsOp temps slots o → IsOp temps slots (constant_op row o)
  constant_op_lawful row (op.Copy t a) fine l = const_lawful temps slots t (constant row (op.Copy t a)) (op.Copy t a) l.0 (constant_fine words temps slots row (op.Copy t a) l fine) l
  constant_op_lawful row (op.Un k t a) fine l = const_lawful temps slots t (constant row (op.Un k t a)) (op.Un k t a) l.0 (constant_fine words temps slots row (op.Un k t a) l fine) l
  constant_op_lawful row (op.Bin k t a b) fine l = const_lawful temps slots t (constant row (op.Bin k t a b)) (op.Bin k t a b) l.0 (constant_fine words temps slots row (op.Bin k t a b) l fine) l
  constant_op_lawful row (op.Ext k t a) fine l = const_lawful temps slots t (constant row (op.Ext k t a)) (op.Ext k t a) l.0 (constant_fine words temps slots row (op.Ext k t a) l fine) l
  constant_op_lawful row o fine l = l

  constant_op_ordinary : (row : List Flat) (o : Op) → Ordinary o → Ordinary (constant_op row o)
  constant_op_ordinary row o all = folded_holds Ordinary row o all (λ t n defines calls. tt)

  jump_lawful : (x : Flat) (a b c blocks : ℕ) → IsEnd temps blocks (Branch a b c) → IsEnd temps blocks (jump_or x a b c)
  jump_lawful Bottom a b c blocks l = l
  jump_lawful (One zero) a b c blocks l = l.2
  jump_lawful (One (suc n)) a b c blocks l = l.1
  jump_lawful Many a b c blocks l = l

  constant_end_lawful : (row : List Flat) (e : End) (blocks : ℕ) → AreFine is_word row → IsEnd temps blocks e → IsEnd temps blocks (constant_end row e)
  constant_end_lawful row (Jump b) blocks fine l = l
  constant_end_lawful row (Branch a b c) blocks fine l = jump_lawful (known row a) a b c blocks l
  constant_end_lawful row (Return t) blocks fine l = l

  constants_keep : KeepsLawful is_word constants temps slots
  constants_keep = record { rises = constants_rise; gives = constants_give words temps slots; ops = constant_op_lawful; names = constant_op_ordinary; ends = constant_end_lawful }

-- ---- copies

one_temp : (temps a : ℕ) (x : Flat) → a < temps → IsFine (is_temp temps) x → one_or x a < temps
one_temp temps a Bottom lt fine = lt
one_temp temps a (One b) lt fine = ltb-true b temps fine
one_temp temps a Many lt fine = lt

args_lawful : (temps : ℕ) (h : ℕ → ℕ) (args : List ℕ) → ((a : ℕ) → a < temps → h a < temps) → AllByRecursion (λ a. a < temps) args → AllByRecursion (λ a. a < temps) (map h args)
args_lawful temps h [] keeps all = tt
args_lawful temps h (a ∷ args) keeps all = (keeps a all.0, args_lawful temps h args keeps all.1)

arguments_lawful : (temps : ℕ) (h : ℕ → ℕ) (args : List ℕ) → ((a : ℕ) → a < temps → h a < temps) → AreArguments temps args → AreArguments temps (map h args)
arguments_lawful temps h args keeps l = record { few = subst (λ n. n ≤ parameter_limit) (sym (length-map args h)) l.few; below = args_lawful temps h args keeps l.below }

operands_lawful : (temps slots : ℕ) (h : ℕ → ℕ) (o : Op) → ((a : ℕ) → a < temps → h a < temps) → IsOp temps slots o → IsOp temps slots (with_operands h o)
operands_lawful temps slots h (op.Copy t a) keeps l = (l.0, keeps a l.1)
operands_lawful temps slots h (op.Un k t a) keeps l = (l.0, keeps a l.1)
operands_lawful temps slots h (op.Bin k t a b) keeps l = (l.0, keeps a l.1, keeps b l.2)
operands_lawful temps slots h (op.Ext k t a) keeps l = (l.0, keeps a l.1)
operands_lawful temps slots h (op.StoreG g a k) keeps l = keeps a l
operands_lawful temps slots h (op.Load k t a) keeps l = (l.0, keeps a l.1)
operands_lawful temps slots h (op.Store k a b) keeps l = (keeps a l.0, keeps b l.1)
operands_lawful temps slots h (op.Move a b size unit) keeps l = (keeps a l.0, keeps b l.1, l.2)
operands_lawful temps slots h (op.Call t f args) keeps l = (l.0, arguments_lawful temps h args keeps l.1)
operands_lawful temps slots h (op.CallInd t a shape args) keeps l = (l.0, keeps a l.1, arguments_lawful temps h args keeps l.2)
operands_lawful temps slots h _ keeps l = l

end_operand_lawful : (temps blocks : ℕ) (h : ℕ → ℕ) (e : End) → ((a : ℕ) → a < temps → h a < temps) → IsEnd temps blocks e → IsEnd temps blocks (with_end_operand h e)
end_operand_lawful temps blocks h (Jump b) keeps l = l
end_operand_lawful temps blocks h (Branch a b c) keeps l = (keeps a l.0, l.1, l.2)
end_operand_lawful temps blocks h (Return None) keeps l = l
end_operand_lawful temps blocks h (Return (Some a)) keeps l = keeps a l

operands_ordinary : (h : ℕ → ℕ) (o : Op) → Ordinary o → Ordinary (with_operands h o)
operands_ordinary h (op.Const t n) all = all
operands_ordinary h o all = all

copies_keep : (temps slots : ℕ) → KeepsLawful (is_temp temps) copies temps slots
copies_keep temps slots = record {
  rises = copies_rise;
  gives = copies_give temps slots;
  ops = λ row o fine l. operands_lawful temps slots (original row) o (λ a lt. one_temp temps a (known row a) lt (fine a)) l;
  names = λ row o all. operands_ordinary (original row) o all;
  ends = λ row e blocks fine l. end_operand_lawful temps blocks (original row) e (λ a lt. one_temp temps a (known row a) lt (fine a)) l;
}

-- ---- dead operations

-- what holds of all operations holds of those that are left
live_all : (P : Op → Type 0) (m : FlowModule) (f : Outline) (b : Block) (ops : List Op) → AllByRecursion P ops → AllByRecursion P (live_ops m f b ops)
live_all P m f b [] all = tt
live_all P m f b (o ∷ ops) all = by_test (is_dead m f b o ops) (live_all P m f b ops all.1) where
  by_test : (c : Bool) → AllByRecursion P (live_ops m f b ops) → AllByRecursion P (if c then live_ops m f b ops else o ∷ live_ops m f b ops)
  by_test true rest = rest
  by_test false rest = (all.0, rest)

live_blocks : (P : Op → Type 0) (m : FlowModule) (f : Outline) (bs : List Block) → AllByRecursion (λ (b : Block). AllByRecursion P b.ops) bs → AllByRecursion (λ (b : Block). AllByRecursion P b.ops) (map (live_block m f) bs)
live_blocks P m f [] all = tt
live_blocks P m f (b ∷ bs) all = (live_all P m f b b.ops all.0, live_blocks P m f bs all.1)

live_lawful : (m : FlowModule) (f : Outline) (temps slots count : ℕ) (bs : List Block) → AllByRecursion (IsBlock temps slots count) bs → AllByRecursion (IsBlock temps slots count) (map (live_block m f) bs)
live_lawful m f temps slots count [] all = tt
live_lawful m f temps slots count (b ∷ bs) all =
    (record { depth = all.0.depth; ops = live_all (IsOp temps slots) m f b b.ops all.0.ops; end = all.0.end }, live_lawful m f temps slots count bs all.1)

live_own : (m : FlowModule) (f : FlowFn) → IsOwn f → IsOwn (without_dead m f)
live_own m f own = record {
  lawful = with_lawful f (map (live_block m (outline_of f)) f.blocks) (length-map f.blocks (live_block m (outline_of f))) own.lawful
      (live_lawful m (outline_of f) f.temps (length f.slots) (length f.blocks) f.blocks own.lawful.blocks);
  names = live_blocks Ordinary m (outline_of f) f.blocks own.names;
}

-- ---- modules

function_own : ResultsAreWords → (m : FlowModule) (f g : FlowFn) → IsOwn f → IsOptimised m f g → IsOwn g
function_own words m f g own (stays large) = own
function_own words m f g own (steps h k small r s) =
    let first = rewritten_own is_word constants f h (constants_keep words f.temps (length f.slots)) own r in
    live_own m k (rewritten_own (is_temp h.temps) copies h k (copies_keep h.temps (length h.slots)) first s)

name_stays : (m : FlowModule) (f g : FlowFn) → IsOptimised m f g → g.name ≡ f.name
name_stays m f g (stays large) = refl
name_stays m f g (steps h k small r s) = ap (λ (x : FlowFn). x.name) s.is ∙ ap (λ (x : FlowFn). x.name) r.is

functions_own : ResultsAreWords → (m : FlowModule) (fs gs : List FlowFn) → AllByRecursion IsOwn fs → AreOptimised m fs gs → AllByRecursion IsOwn gs
functions_own words m fs gs own none = tt
functions_own words m fs gs own (also f g more others o rest) = (function_own words m f g own.0 o, functions_own words m more others own.1 rest)

names_stay : (m : FlowModule) (fs gs : List FlowFn) → AreOptimised m fs gs → map (λ (f : FlowFn). f.name) gs ≡ map (λ (f : FlowFn). f.name) fs
names_stay m fs gs none = refl
names_stay m fs gs (also f g more others o rest) = ap₂ (λ name names. name ∷ names) (name_stays m f g o) (names_stay m more others rest)

block_names : (b : Block) → AllByRecursion IsOrdinary (names_in_block b) → AllByRecursion Ordinary b.ops
block_names b all = all_pieces IsOrdinary op_names b.ops all

function_blocks : (bs : List Block) → AllByRecursion (λ (b : Block). AllByRecursion IsOrdinary (names_in_block b)) bs → AllByRecursion (λ (b : Block). AllByRecursion Ordinary b.ops) bs
function_blocks [] all = tt
function_blocks (b ∷ bs) all = (block_names b all.0, function_blocks bs all.1)

blocks_names : (bs : List Block) → AllByRecursion (λ (b : Block). AllByRecursion Ordinary b.ops) bs → AllByRecursion (λ (b : Block). AllByRecursion IsOrdinary (names_in_block b)) bs
blocks_names [] all = tt
blocks_names (b ∷ bs) all = (all_joined IsOrdinary op_names b.ops all.0, blocks_names bs all.1)

all_own : (fs : List FlowFn) → AllByRecursion IsFunction fs → AllByRecursion (λ (f : FlowFn). AllByRecursion IsOrdinary (names_in_function f)) fs → AllByRecursion IsOwn fs
all_own [] lawful names = tt
all_own (f ∷ fs) lawful names = (record { lawful = lawful.0; names = function_blocks f.blocks (all_pieces IsOrdinary names_in_block f.blocks names.0) }, all_own fs lawful.1 names.1)

all_lawful : (fs : List FlowFn) → AllByRecursion IsOwn fs → AllByRecursion IsFunction fs
all_lawful [] own = tt
all_lawful (f ∷ fs) own = (own.0.lawful, all_lawful fs own.1)

all_ordinary : (fs : List FlowFn) → AllByRecursion IsOwn fs → AllByRecursion (λ (f : FlowFn). AllByRecursion IsOrdinary (names_in_function f)) fs
all_ordinary [] own = tt
all_ordinary (f ∷ fs) own = (all_joined IsOrdinary names_in_block f.blocks (blocks_names f.blocks own.0.names), all_ordinary fs own.1)

pub lawful_stays : ResultsAreWords → OptimisationKeepsLawful
lawful_stays words m n valid o =
    let globals_named : AllByRecursion IsOrdinary (flat_map names_in_global m.globals) =
    all_first IsOrdinary (flat_map names_in_global m.globals) (flat_map names_in_function m.functions) valid.parts.ordinary in
    let functions_named : AllByRecursion IsOrdinary (flat_map names_in_function m.functions) =
    all_second IsOrdinary (flat_map names_in_global m.globals) (flat_map names_in_function m.functions) valid.parts.ordinary in
    let own = functions_own words m m.functions n.functions (all_own m.functions valid.parts.functions (all_pieces IsOrdinary names_in_function m.functions functions_named)) o.functions in
    let functions : function_names n ≡ function_names m = names_stay m m.functions n.functions o.functions in
    let globals : global_names n ≡ global_names m = ap (λ (gs : List FlowGlobal). map (λ (g : FlowGlobal). g.name) gs) o.globals in
    record {
      parts = record {
        globals = subst (AllByRecursion IsGlobal) (sym o.globals) valid.parts.globals;
        functions = all_lawful n.functions own;
        ordinary = all_both IsOrdinary (flat_map names_in_global n.globals) (flat_map names_in_function n.functions)
            (subst (λ (gs : List FlowGlobal). AllByRecursion IsOrdinary (flat_map names_in_global gs)) (sym o.globals) globals_named)
            (all_joined IsOrdinary names_in_function n.functions (all_ordinary n.functions own));
      };
      names = record {
        distinct = record {
          defined = subst (λ (names : List (List ℕ)). AreDistinct (names ++ function_names n)) (sym globals)
              (subst (λ (names : List (List ℕ)). AreDistinct (global_names m ++ names)) (sym functions) valid.names.distinct.defined);
          declared = subst (λ ds. AreDistinct (map (λ d. d.0) ds)) (sym o.declared) valid.names.distinct.declared;
        };
        start = subst (λ (names : List (List ℕ)). KeepsStart names (global_names n)) (sym functions)
            (subst (λ (names : List (List ℕ)). KeepsStart (function_names m) names) (sym globals) valid.names.start);
      };
    }

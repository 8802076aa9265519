-- What writing asks of a module's parts, and that a file's room bounds its counts and texts.
use Rattle.std.proofs.Common.{◌≡◌, ℕ, ◌+◌, ◌^◌, ◌<◌, ◌≤◌, List, [], ◌∷◌, ◌++◌, length, Result, Ok, Err, sym, ap, subst, ◌∙◌, append_assoc, arith}
use Rattle.std.specs.Prelude.{Contains, IfOk, OnOk}
use Rattle.std.specs.Global.{Vec}
use Rattle.std.specs.List.{flat_map, AllByRecursion}
use Rattle.std.proofs.lemmas.List.{length-append, append-nil}
use Rattle.std.proofs.lemmas.List.Concat.{flat_map-cons}
use Rattle.pw_fields.specs.Fields.{u32, text, flag, FitsU32, FitsText}
use Rattle.pw_fields.specs.FieldFrame.{file, FitsFile}
use Rattle.pw_fields.specs.FieldNames.{name_table, name_index, IsTableOf}
use Rattle.pw_fields.proofs.FileLaws.{length-u32}
use Rattle.pw_fields.proofs.NameLaws.{AllUsed, used_by_table}
use Rattle.pw_files.specs.Kinds.{kind as kind_byte}
use Rattle.pw_files.specs.Names.{shaped}
use Rattle.pw_files.specs.Rising.{counted as counted_text}
use Rattle.pw_files.specs.Contents.{IsContents}
use Rattle.pw_files.proofs.ContentsLaws.{is_file}
use Rattle.pw_flow.specs.declared.flow.Item.{Item}
use Rattle.pw_flow.specs.declared.flow.FlowGlobal.{FlowGlobal}
use Rattle.pw_flow.specs.declared.flow.Op.{Op}
use Rattle.pw_flow.specs.declared.flow.Block.{Block}
use Rattle.pw_flow.specs.declared.flow.FlowFn.{FlowFn}
use Rattle.pw_flow.specs.declared.flow.FlowModule.{FlowModule}
use Rattle.pw_flow.specs.declared.flow.Op.TheVariants.{Const, CallInd}
use Rattle.pw_flow.specs.ValidFlow.{IsValid}
use Rattle.pw_flow_ops.specs.Operations.{result, arguments, op, ending, FitsOp}
use Rattle.pw_flowfile.specs.FlowFile.{names_of, item, placed_item, global_body, global, block, function, spelling, FitsBlock, FitsFunction, FitsGlobal, FitsModule, IsFlowFile, kind_of_file, flow_version}

-- ---- what has room fits

all_fit : {X : Type 0} (spell : X → List ℕ) (Fits : X → Type 0) → ((x : X) → length (spell x) < 2 ^ 32 → Fits x) → (xs : List X) → length (flat_map spell xs) < 2 ^ 32 → AllByRecursion Fits xs
all_fit spell Fits f [] room = tt
all_fit spell Fits f (x ∷ xs) room =
    let parted = ap length (flat_map-cons spell x xs) ∙ length-append (spell x) (flat_map spell xs) in
    (f x (omega (arith, parted)), all_fit spell Fits f xs (omega (arith, parted)))

counted : {X : Type 0} (spell : X → List ℕ) → ((x : X) → 1 ≤ length (spell x)) → (xs : List X) → length xs ≤ length (flat_map spell xs)
counted spell f [] = omega arith
counted spell f (x ∷ xs) = omega (arith, counted spell f xs, f x, ap length (flat_map-cons spell x xs), length-append (spell x) (flat_map spell xs))

behind_word : (n : ℕ) (rest : List ℕ) → length (u32 n ++ rest) ≡ 4 + length rest
behind_word n rest = length-append (u32 n) rest ∙ omega (arith, length-u32 n)

length-text : (bytes : List ℕ) → length (text bytes) ≡ 4 + length bytes
unfolding text
length-text bytes = behind_word (length bytes) bytes

op_long : (names : List (List ℕ)) (o : Op) → 1 ≤ length (op names o)
op_long names (Const t n) = omega arith
op_long names _ = omega arith

op_fits : (names : List (List ℕ)) (o : Op) → length (op names o) < 2 ^ 32 → FitsOp o
op_fits names (CallInd t a shape args) room =
    omega (arith, room, length-append (result t) (u32 a ++ (text shape ++ (arguments args ++ []))), behind_word a (text shape ++ (arguments args ++ [])), length-append (text shape) (arguments args ++ []), length-text shape)
op_fits names _ room = tt

block_long : (names : List (List ℕ)) (b : Block) → 1 ≤ length (block names b)
block_long names b = omega (arith, behind_word b.depth (u32 (length b.ops) ++ (flat_map (op names) b.ops ++ (ending b.end ++ []))))

block_fits : (names : List (List ℕ)) (b : Block) → length (block names b) < 2 ^ 32 → FitsBlock b
block_fits names b room =
    let one = behind_word b.depth (u32 (length b.ops) ++ (flat_map (op names) b.ops ++ (ending b.end ++ []))) in
    let two = behind_word (length b.ops) (flat_map (op names) b.ops ++ (ending b.end ++ [])) in
    let three = length-append (flat_map (op names) b.ops) (ending b.end ++ []) in
    let within : length (flat_map (op names) b.ops) < 2 ^ 32 = omega (arith, room, one, two, three) in
    record { count = omega (arith, within, counted (op names) (op_long names) b.ops); ops = all_fit (op names) FitsOp (op_fits names) b.ops within }

named_long : (names : List (List ℕ)) (name rest : List ℕ) → length (name_index names name ++ rest) ≡ 4 + length rest
named_long names name rest = behind_word _ rest

function_fits : (names : List (List ℕ)) (f : FlowFn) → length (function names f) < 2 ^ 32 → FitsFunction f
function_fits names f room =
    let blocks_text = flat_map (block names) f.blocks ++ [] in
    let r5 = u32 (length f.blocks) ++ blocks_text in
    let r4 = flat_map u32 f.slots ++ r5 in
    let r3 = u32 (length f.slots) ++ r4 in
    let r2 = u32 f.temps ++ r3 in
    let r1 = u32 f.params ++ r2 in
    let e0 = named_long names f.name (text f.shape ++ r1) in
    let e1 = length-append (text f.shape) r1 in
    let e2 = behind_word f.params r2 in
    let e3 = behind_word f.temps r3 in
    let e4 = behind_word (length f.slots) r4 in
    let e5 = length-append (flat_map u32 f.slots) r5 in
    let e6 = behind_word (length f.blocks) blocks_text in
    let e7 = length-append (flat_map (block names) f.blocks) [] in
    let within : length (flat_map (block names) f.blocks) < 2 ^ 32 = omega (arith, room, e0, e1, e2, e3, e4, e5, e6, e7) in
    record {
      shape = omega (arith, room, e0, e1, length-text f.shape);
      count = omega (arith, within, counted (block names) (block_long names) f.blocks);
      blocks = all_fit (block names) FitsBlock (block_fits names) f.blocks within;
    }

placed_long : (names : List (List ℕ)) (i : ℕ × Item) → 1 ≤ length (placed_item names i)
placed_long names i = omega (arith, behind_word i.0 (item names i.1 ++ []))

global_fits : (names : List (List ℕ)) (g : FlowGlobal) → length (global names g) < 2 ^ 32 → FitsGlobal g
global_fits names g room =
    let items_text = flat_map (placed_item names) g.items ++ [] in
    let r4 = u32 (length g.items) ++ items_text in
    let r3 = flag g.volatile ++ r4 in
    let r2 = kind_byte g.kind ++ r3 in
    let r1 = text g.shape ++ r2 in
    let e0 = named_long names g.name (global_body names g ++ []) in
    let e1 = length-append (global_body names g) [] in
    let e2 = behind_word g.size r1 in
    let e3 = length-append (text g.shape) r2 in
    let e4 = length-append (kind_byte g.kind) r3 in
    let e5 = length-append (flag g.volatile) r4 in
    let e6 = behind_word (length g.items) items_text in
    let e7 = length-append (flat_map (placed_item names) g.items) [] in
    let within : length (flat_map (placed_item names) g.items) < 2 ^ 32 = omega (arith, room, e0, e1, e2, e3, e4, e5, e6, e7) in
    record {
      shape = omega (arith, room, e0, e1, e2, e3, length-text g.shape);
      count = omega (arith, within, counted (placed_item names) (placed_long names) g.items);
    }

declared_fits : (names : List (List ℕ)) (d : List ℕ × List ℕ) → length (shaped names d) < 2 ^ 32 → FitsText d.1
declared_fits names d room = omega (arith, room, named_long names d.0 (text d.1 ++ []), length-append (text d.1) [], length-text d.1)

global_long : (names : List (List ℕ)) (g : FlowGlobal) → 1 ≤ length (global names g)
global_long names g = omega (arith, named_long names g.name (global_body names g ++ []))

declared_long : (names : List (List ℕ)) (d : List ℕ × List ℕ) → 1 ≤ length (shaped names d)
declared_long names d = omega (arith, named_long names d.0 (text d.1 ++ []))

function_long : (names : List (List ℕ)) (f : FlowFn) → 1 ≤ length (function names f)
function_long names f = omega (arith, named_long names f.name (text f.shape ++ (u32 f.params ++ (u32 f.temps ++ (u32 (length f.slots) ++ (flat_map u32 f.slots ++ (u32 (length f.blocks) ++ (flat_map (block names) f.blocks ++ []))))))))

length-counted : {X : Type 0} (spell : X → List ℕ) (xs : List X) (rest : List ℕ) → length (counted_text spell xs ++ rest) ≡ 4 + length (flat_map spell xs) + length rest
unfolding counted_text
length-counted spell xs rest = length-append (u32 (length xs) ++ flat_map spell xs) rest ∙ omega (arith, behind_word (length xs) (flat_map spell xs))

module_fits : (names : List (List ℕ)) (m : FlowModule) → length (spelling (record { names = names; value = m })) < 2 ^ 32 → FitsModule m
module_fits names m room =
    let r3 = counted_text (function names) m.functions ++ [] in
    let r2 = counted_text (shaped names) m.declared ++ r3 in
    let r1 = counted_text (global names) m.globals ++ r2 in
    let e0 = length-append (name_table names) (name_index names m.name ++ r1) in
    let e1 = named_long names m.name r1 in
    let e2 = length-counted (global names) m.globals r2 in
    let e3 = length-counted (shaped names) m.declared r3 in
    let e4 = length-counted (function names) m.functions [] in
    let gs : length (flat_map (global names) m.globals) < 2 ^ 32 = omega (arith, room, e0, e1, e2) in
    let ds : length (flat_map (shaped names) m.declared) < 2 ^ 32 = omega (arith, room, e0, e1, e2, e3) in
    let fs : length (flat_map (function names) m.functions) < 2 ^ 32 = omega (arith, room, e0, e1, e2, e3, e4) in
    record {
      globals = (omega (arith, gs, counted (global names) (global_long names) m.globals), all_fit (global names) FitsGlobal (global_fits names) m.globals gs);
      declared = (omega (arith, ds, counted (shaped names) (declared_long names) m.declared), all_fit (shaped names) (λ d. FitsText d.1) (declared_fits names) m.declared ds);
      functions = (omega (arith, fs, counted (function names) (function_long names) m.functions), all_fit (function names) FitsFunction (function_fits names) m.functions fs);
    }

back_to : (names : List (List ℕ)) (used : List (List ℕ)) → AllUsed used names → AllByRecursion (Contains names) used
back_to names [] all = tt
back_to names (name ∷ used) all = (all.0, back_to names used all.1)

pub all_stand : (names used : List (List ℕ)) (m : FlowModule) → IsTableOf names used → used ≡ names_of m → AllByRecursion (Contains names) (names_of m)
all_stand names used m table same = back_to names (names_of m) (used_by_table names (names_of m) (subst (IsTableOf names) same table)).1

pub written : {E : Type 0} (names used : List (List ℕ)) (m : FlowModule) (payload : List ℕ) (r : Result (Vec ℕ) E) → IsValid m → IsTableOf names used → used ≡ names_of m → FitsU32 (length names)
    → payload ≡ spelling (record { names = names; value = m }) → OnOk r (FitsFile payload) → IfOk r (λ v. v.items ≡ file kind_of_file flow_version payload) → IfOk r (λ v. IsFlowFile v.items m)
written {E} names used m payload (Ok v) valid table same count made room sealed =
    let fits : FitsFile (spelling (record { names = names; value = m })) = subst FitsFile made room in
    is_file {E = E} kind_of_file flow_version flow_version flow_version (λ version. spelling) (λ version. IsContents IsValid FitsModule names_of) (record { names = names; value = m }) payload (Ok v) (omega arith) (omega arith)
    (record { lawful = valid; fits = module_fits names m (omega (arith, fits)); name_count = count; names = subst (IsTableOf names) same table }) made room sealed
written names used m payload (Err e) valid table same count made room sealed = tt

-- ---- pieces put one behind the other

pub put : (o0 o1 o2 a t : List ℕ) → o1 ≡ o0 ++ a → o2 ≡ o1 ++ t → o2 ≡ o0 ++ (a ++ t)
put o0 o1 o2 a t e d = d ∙ ap (λ (w : List ℕ). w ++ t) e ∙ append_assoc o0 a t

pub last_put : (o1 o2 a : List ℕ) → o2 ≡ o1 ++ a → o2 ≡ o1 ++ (a ++ [])
last_put o1 o2 a d = d ∙ ap (λ (w : List ℕ). o1 ++ w) (sym (append-nil a))

-- The optimised modules of a lawful program are one.
use Rattle.std.specs.Prelude.{ℕ, zero, suc, ◌≡◌, ◌<◌, List, [], ◌∷◌, ◌++◌, length, map, Contains}
use Rattle.std.specs.List.{flat_map, AllByRecursion}
use Rattle.std.proofs.Common.{refl, sym, ap, ap₂, subst, ◌∙◌, arith, get_or}
use Rattle.std.proofs.lemmas.List.{map-append}
use Rattle.std.proofs.lemmas.List.Concat.{flat_map-cons}
use Rattle.pw_value.specs.ProgramNames.{start_name, library_functions}
use Rattle.pw_flow.specs.declared.flow.Item.{Item}
use Rattle.pw_flow.specs.declared.flow.Item.TheVariants.{Bytes, Address}
use Rattle.pw_flow.specs.declared.flow.Op.{Op}
use Rattle.pw_flow.specs.declared.flow.Op.TheVariants as op
use Rattle.pw_flow.specs.declared.flow.Block.{Block}
use Rattle.pw_flow.specs.declared.flow.FlowGlobal.{FlowGlobal}
use Rattle.pw_flow.specs.declared.flow.FlowFn.{FlowFn}
use Rattle.pw_flow.specs.declared.flow.FlowModule.{FlowModule}
use Rattle.pw_flow.specs.Addressed.{addressed}
use Rattle.pw_flow.specs.FlowGraph.{op_names, names_in_global, names_in_block, names_in_function, named_in}
use Rattle.pw_flow.specs.ValidFlow.{IsValid, AreDistinct}
use Rattle.pw_files.specs.Rising.{IsRising}
use Rattle.pw_run_languages.specs.Programs.{Program, functions_of, globals_of, names_of}
use Rattle.pw_run_languages.specs.LawfulPrograms.{ops_of, NamesRightly, IsItem, IsProgram}
use Rattle.pw_opt_rules.specs.Copies.{with_operands}
use Rattle.pw_opt_rules.specs.Optimised.{IsOptimised, stays, steps, AreOptimised, IsOptimisedModule}
use Rattle.pw_opt_rules.specs.Optimised as optimised
use Rattle.pw_law_opt.specs.Sides.{with_modules}
use Rattle.pw_law_opt.specs.Laws.{AreOptimisedModules, none, also, entry, addresses_in, OptimisationKeepsLawful, OptimisationKeepsPrograms, OptimisationShowsNoMore}
use Rattle.pw_law_opt.proofs.Lists.{first_there, later_there}
use Rattle.pw_law_opt.proofs.Modules.{functions_in, globals_stay}
use Rattle.pw_law_opt.proofs.Lawful.{all_both, all_first, all_second, all_pieces, all_joined}
use Rattle.pw_law_opt.proofs.Operations.{SaysNothingOfOperands, AllOps, AllBlocks, functions_hold}

-- ---- lists

all_there : {X : Type 0} (P : X → Type 0) (xs : List X) → ((x : X) → Contains xs x → P x) → AllByRecursion P xs
all_there P [] each = tt
all_there P (x ∷ xs) each = (each x (first_there x xs), all_there P xs (λ y there. each y (later_there x y xs there)))

one_of_all : {X : Type 0} (P : X → Type 0) (xs : List X) (x : X) (k : ℕ) → k < length xs → get_or xs k x ≡ x → AllByRecursion P xs → P x
one_of_all P [] x k lt is all = absurd (omega (arith, lt))
one_of_all P (y ∷ ys) x zero lt is all = subst P is all.0
one_of_all P (y ∷ ys) x (suc k) lt is all = one_of_all P ys x k (omega arith) is all.1

each_there : {X : Type 0} (P : X → Type 0) (xs : List X) (x : X) → AllByRecursion P xs → Contains xs x → P x
each_there P xs x all there = one_of_all P xs x there.0 there.1 there.2 all

-- ---- what all operations of a program hold

program_holds : (R : Op → Type 0) → SaysNothingOfOperands R → (ms ns : List FlowModule) → AreOptimisedModules ms ns → AllByRecursion (AllBlocks R) (functions_in ms) → AllByRecursion (AllBlocks R) (functions_in ns)
program_holds R k ms ns none all = tt
program_holds R k ms ns (also m n more others o rest) all =
    let parts = subst (AllByRecursion (AllBlocks R)) (flat_map-cons (λ (x : FlowModule). x.functions) m more) all in
    subst (AllByRecursion (AllBlocks R)) (sym (flat_map-cons (λ (x : FlowModule). x.functions) n others))
    (all_both (AllBlocks R) n.functions (functions_in others)
    (functions_hold R k m m.functions n.functions o.functions (all_first (AllBlocks R) m.functions (functions_in more) parts))
    (program_holds R k more others rest (all_second (AllBlocks R) m.functions (functions_in more) parts)))

-- what each function is, by its name and its parameters
abbrev heading : FlowFn → List ℕ × ℕ
heading f = (f.name, f.params)

heading_stays : (m : FlowModule) (f g : FlowFn) → IsOptimised m f g → heading g ≡ heading f
heading_stays m f g (stays large) = refl
heading_stays m f g (steps h k small r s) = ap heading s.is ∙ ap heading r.is

headings_stay : (m : FlowModule) (fs gs : List FlowFn) → AreOptimised m fs gs → map heading gs ≡ map heading fs
headings_stay m fs gs optimised.none = refl
headings_stay m fs gs (optimised.also f g more others o rest) = ap₂ (λ (x : List ℕ × ℕ) (xs : List (List ℕ × ℕ)). x ∷ xs) (heading_stays m f g o) (headings_stay m more others rest)

all_headings_stay : (ms ns : List FlowModule) → AreOptimisedModules ms ns → map heading (functions_in ns) ≡ map heading (functions_in ms)
all_headings_stay ms ns none = refl
all_headings_stay ms ns (also m n more others o rest) =
    ap (map heading) (flat_map-cons (λ (x : FlowModule). x.functions) n others)
    ∙ map-append heading n.functions (functions_in others)
    ∙ ap₂ (λ (l k : List (List ℕ × ℕ)). l ++ k) (headings_stay m m.functions n.functions o.functions) (all_headings_stay more others rest)
    ∙ sym (map-append heading m.functions (functions_in more))
    ∙ sym (ap (map heading) (flat_map-cons (λ (x : FlowModule). x.functions) m more))

first_of : (fs gs : List FlowFn) → map heading gs ≡ map heading fs → map (λ (f : FlowFn). f.name) gs ≡ map (λ (f : FlowFn). f.name) fs
first_of fs gs e = sym (firsts gs) ∙ ap (map (λ (x : List ℕ × ℕ). x.0)) e ∙ firsts fs
  where
    firsts : (hs : List FlowFn) → map (λ (x : List ℕ × ℕ). x.0) (map heading hs) ≡ map (λ (f : FlowFn). f.name) hs
    firsts [] = refl
    firsts (h ∷ hs) = ap (λ (names : List (List ℕ)). h.name ∷ names) (firsts hs)

-- a property of names and parameters
all_by_heading : (P : List ℕ × ℕ → Type 0) (fs : List FlowFn) → AllByRecursion (λ (f : FlowFn). P (heading f)) fs → AllByRecursion P (map heading fs)
all_by_heading P [] all = tt
all_by_heading P (f ∷ fs) all = (all.0, all_by_heading P fs all.1)

heading_by_all : (P : List ℕ × ℕ → Type 0) (fs : List FlowFn) → AllByRecursion P (map heading fs) → AllByRecursion (λ (f : FlowFn). P (heading f)) fs
heading_by_all P [] all = tt
heading_by_all P (f ∷ fs) all = (all.0, heading_by_all P fs all.1)

modules_named : (ms ns : List FlowModule) → AreOptimisedModules ms ns → map (λ (m : FlowModule). m.name) ns ≡ map (λ (m : FlowModule). m.name) ms
modules_named ms ns none = refl
modules_named ms ns (also m n more others o rest) = ap₂ (λ (x : List ℕ) (xs : List (List ℕ)). x ∷ xs) o.name (modules_named more others rest)

all_valid : OptimisationKeepsLawful → (ms ns : List FlowModule) → AreOptimisedModules ms ns → AllByRecursion IsValid ms → AllByRecursion IsValid ns
all_valid keeps ms ns none all = tt
all_valid keeps ms ns (also m n more others o rest) all = (keeps m n all.0 o, all_valid keeps more others rest all.1)

-- ---- names

-- names that pass, in operations
names_say_nothing : (P : List ℕ → Type 0) → SaysNothingOfOperands (λ (o : Op). AllByRecursion P (op_names o))
names_say_nothing P = record { constants = λ t n. tt; operands = operands }
  where
    operands : (h : ℕ → ℕ) (o : Op) → AllByRecursion P (op_names o) → AllByRecursion P (op_names (with_operands h o))
    operands h (op.Const t n) all = all
    operands h o all = all

-- what all operations of a module have passes, if it passed before
module _ (P : List ℕ → Type 0) (part : Op → List (List ℕ)) (k : SaysNothingOfOperands (λ (o : Op). AllByRecursion P (part o))) where
  abbrev part_in : FlowFn → List (List ℕ)
  part_in f = flat_map (λ (b : Block). flat_map part b.ops) f.blocks

  abbrev passes : Op → Type 0
  passes o = AllByRecursion P (part o)

  blocks_split : (bs : List Block) → AllByRecursion (λ (b : Block). AllByRecursion P (flat_map part b.ops)) bs → AllByRecursion (AllOps passes) bs
  blocks_split [] all = tt
  blocks_split (b ∷ bs) all = (all_pieces P part b.ops all.0, blocks_split bs all.1)

  blocks_join : (bs : List Block) → AllByRecursion (AllOps passes) bs → AllByRecursion (λ (b : Block). AllByRecursion P (flat_map part b.ops)) bs
  blocks_join [] all = tt
  blocks_join (b ∷ bs) all = (all_joined P part b.ops all.0, blocks_join bs all.1)

  functions_split : (fs : List FlowFn) → AllByRecursion (λ (f : FlowFn). AllByRecursion P (part_in f)) fs → AllByRecursion (AllBlocks passes) fs
  functions_split [] all = tt
  functions_split (f ∷ fs) all = (blocks_split f.blocks (all_pieces P (λ (b : Block). flat_map part b.ops) f.blocks all.0), functions_split fs all.1)

  functions_join : (fs : List FlowFn) → AllByRecursion (AllBlocks passes) fs → AllByRecursion (λ (f : FlowFn). AllByRecursion P (part_in f)) fs
  functions_join [] all = tt
  functions_join (f ∷ fs) all = (all_joined P (λ (b : Block). flat_map part b.ops) f.blocks (blocks_join f.blocks all.0), functions_join fs all.1)

  parts_hold : (m n : FlowModule) → IsOptimisedModule m n → AllByRecursion P (flat_map part_in m.functions) → AllByRecursion P (flat_map part_in n.functions)
  parts_hold m n o all =
      all_joined P part_in n.functions
      (functions_join n.functions (functions_hold passes k m m.functions n.functions o.functions (functions_split m.functions (all_pieces P part_in m.functions all))))

module_names : (P : List ℕ → Type 0) (m n : FlowModule) → IsOptimisedModule m n → AllByRecursion P (named_in m) → AllByRecursion P (named_in n)
module_names P m n o all =
    all_both P (flat_map names_in_global n.globals) (flat_map names_in_function n.functions)
    (subst (λ (gs : List FlowGlobal). AllByRecursion P (flat_map names_in_global gs)) (sym o.globals) (all_first P (flat_map names_in_global m.globals) (flat_map names_in_function m.functions) all))
    (parts_hold P op_names (names_say_nothing P) m n o (all_second P (flat_map names_in_global m.globals) (flat_map names_in_function m.functions) all))

program_names : (P : List ℕ → Type 0) (ms ns : List FlowModule) → AreOptimisedModules ms ns → AllByRecursion P (flat_map named_in ms) → AllByRecursion P (flat_map named_in ns)
program_names P ms ns none all = tt
program_names P ms ns (also m n more others o rest) all =
    let parts = subst (AllByRecursion P) (flat_map-cons named_in m more) all in
    subst (AllByRecursion P) (sym (flat_map-cons named_in n others))
    (all_both P (named_in n) (flat_map named_in others)
    (module_names P m n o (all_first P (named_in m) (flat_map named_in more) parts))
    (program_names P more others rest (all_second P (named_in m) (flat_map named_in more) parts)))

-- addresses that pass, in operations
addresses_say_nothing : (P : List ℕ → Type 0) → SaysNothingOfOperands (λ (o : Op). AllByRecursion P (addressed o))
addresses_say_nothing P = record { constants = λ t n. tt; operands = operands }
  where
    operands : (h : ℕ → ℕ) (o : Op) → AllByRecursion P (addressed o) → AllByRecursion P (addressed (with_operands h o))
    operands h (op.Const t n) all = all
    operands h o all = all

-- ---- operations that name rightly

rightly_says_nothing : (p : Program) → SaysNothingOfOperands (NamesRightly p)
rightly_says_nothing p = record { constants = λ t n. tt; operands = operands }
  where
    operands : (h : ℕ → ℕ) (o : Op) → NamesRightly p o → NamesRightly p (with_operands h o)
    operands h (op.Const t n) right = right
    operands h o right = right

-- the operations of a function, block by block
all_of_function : (R : Op → Type 0) (f : FlowFn) → ((o : Op) → Contains (ops_of f) o → R o) → AllBlocks R f
all_of_function R f each = all_pieces R (λ (b : Block). b.ops) f.blocks (all_there R (ops_of f) each)

of_function : (R : Op → Type 0) (f : FlowFn) (o : Op) → AllBlocks R f → Contains (ops_of f) o → R o
of_function R f o all there = each_there R (ops_of f) o (all_joined R (λ (b : Block). b.ops) f.blocks all) there

module _ (keeps : OptimisationKeepsLawful) (p : Program) (ns : List FlowModule) (fine : IsProgram p) (o : AreOptimisedModules p.modules ns) where
  abbrev q : Program
  q = with_modules p ns

  headings : map heading (functions_of q) ≡ map heading (functions_of p)
  headings = all_headings_stay p.modules ns o

  function_names_same : map (λ (f : FlowFn). f.name) (functions_of q) ≡ map (λ (f : FlowFn). f.name) (functions_of p)
  function_names_same = first_of (functions_of p) (functions_of q) headings

  names_same : names_of q ≡ names_of p
  names_same = ap (λ (names : List (List ℕ)). library_functions ++ names) function_names_same

  globals_same : globals_of q ≡ globals_of p
  globals_same = globals_stay p.modules ns o

  abbrev all_names : Program → List (List ℕ)
  all_names r = names_of r ++ map (λ (g : FlowGlobal). g.name) (globals_of r)

  every_name : all_names q ≡ all_names p
  every_name = ap₂ (λ (names : List (List ℕ)) (gs : List FlowGlobal). names ++ map (λ (g : FlowGlobal). g.name) gs) names_same globals_same

  defined : (name : List ℕ) → Contains (flat_map named_in ns) name → Contains (all_names q) name
  defined name there =
      subst (λ (names : List (List ℕ)). Contains names name) (sym every_name)
      (each_there (λ (name : List ℕ). Contains (all_names p) name) (flat_map named_in ns) name
      (program_names (λ (name : List ℕ). Contains (all_names p) name) p.modules ns o (all_there (λ (name : List ℕ). Contains (all_names p) name) (flat_map named_in p.modules) fine.defined)) there)

  rightly : (x : Op) → NamesRightly p x → NamesRightly q x
  rightly (op.AddrGlobal t g n) right = subst (λ (gs : List FlowGlobal). Contains (map (λ (x : FlowGlobal). x.name) gs) g) (sym globals_same) right
  rightly (op.AddrFn t f) right = subst (λ (names : List (List ℕ)). Contains names f) (sym names_same) right
  rightly (op.LoadG t g k) right = subst (λ (gs : List FlowGlobal). Contains (map (λ (x : FlowGlobal). x.name) gs) g) (sym globals_same) right
  rightly (op.StoreG g a k) right = subst (λ (gs : List FlowGlobal). Contains (map (λ (x : FlowGlobal). x.name) gs) g) (sym globals_same) right
  rightly (op.Call t f args) right = subst (λ (names : List (List ℕ)). Contains names f) (sym names_same) right
  rightly x right = tt

  ops_right : (f : FlowFn) (x : Op) → Contains (functions_of q) f → Contains (ops_of f) x → NamesRightly q x
  ops_right f x there among =
      rightly x (of_function (NamesRightly p) f x
      (each_there (AllBlocks (NamesRightly p)) (functions_of q) f
      (program_holds (NamesRightly p) (rightly_says_nothing p) p.modules ns o
      (all_there (AllBlocks (NamesRightly p)) (functions_of p) (λ g in_p. all_of_function (NamesRightly p) g (λ y among. fine.ops g y in_p among)))) there) among)

  item_right : (i : Item) → IsItem p i → IsItem q i
  item_right (Bytes bytes) is = is
  item_right (Address name offset) is = λ function. is (subst (λ (names : List (List ℕ)). Contains names name) names_same function)

  items_right : (items : List (ℕ × Item)) → AllByRecursion (λ i. IsItem p i.1) items → AllByRecursion (λ i. IsItem q i.1) items
  items_right [] all = tt
  items_right (i ∷ items) all = (item_right i.1 all.0, items_right items all.1)

  takes_nothing : (f : FlowFn) → Contains (functions_of q) f → f.name ≡ start_name → f.params ≡ 0
  takes_nothing f there is =
      each_there (λ (f : FlowFn). f.name ≡ start_name → f.params ≡ 0) (functions_of q) f
      (heading_by_all (λ (h : List ℕ × ℕ). h.0 ≡ start_name → h.1 ≡ 0) (functions_of q)
      (subst (AllByRecursion (λ (h : List ℕ × ℕ). h.0 ≡ start_name → h.1 ≡ 0)) (sym headings)
      (all_by_heading (λ (h : List ℕ × ℕ). h.0 ≡ start_name → h.1 ≡ 0) (functions_of p) (all_there (λ (g : FlowFn). g.name ≡ start_name → g.params ≡ 0) (functions_of p) (λ g in_p is. fine.start_takes_nothing g in_p is)))))
      there is

  pub program_stays : IsProgram q
  program_stays = record {
    modules = all_valid keeps p.modules ns o fine.modules;
    order = subst IsRising (sym (modules_named p.modules ns o)) fine.order;
    names = subst AreDistinct (sym every_name) fine.names;
    defined = defined;
    ops = ops_right;
    items = λ g there. items_right g.items (fine.items g (subst (λ (gs : List FlowGlobal). Contains gs g) globals_same there));
    start = subst (λ (names : List (List ℕ)). Contains names start_name) (sym function_names_same) fine.start;
    start_takes_nothing = takes_nothing;
    stack = fine.stack;
  }

pub programs_stay : OptimisationKeepsLawful → OptimisationKeepsPrograms
programs_stay keeps p ns fine o = program_stays keeps p ns fine o

-- ---- what a module shows

entry_stays : (m : FlowModule) (f g : FlowFn) → IsOptimised m f g → entry g ≡ entry f
entry_stays m f g (stays large) = refl
entry_stays m f g (steps h k small r s) = ap entry s.is ∙ ap entry r.is

entries_stay : (m : FlowModule) (fs gs : List FlowFn) → AreOptimised m fs gs → map entry gs ≡ map entry fs
entries_stay m fs gs optimised.none = refl
entries_stay m fs gs (optimised.also f g more others o rest) = ap₂ (λ (x : List ℕ × List ℕ) (xs : List (List ℕ × List ℕ)). x ∷ xs) (entry_stays m f g o) (entries_stay m more others rest)

pub shows_no_more : OptimisationShowsNoMore
shows_no_more m n o = record {
  entries = entries_stay m m.functions n.functions o.functions;
  fewer = λ name there.
      each_there (λ (x : List ℕ). Contains (named_in m) x) (named_in n) name
      (module_names (λ (x : List ℕ). Contains (named_in m) x) m n o (all_there (λ (x : List ℕ). Contains (named_in m) x) (named_in m) (λ x c. c))) there;
  addresses = λ name there.
      each_there (λ (x : List ℕ). Contains (addresses_in m) x) (addresses_in n) name
      (parts_hold (λ (x : List ℕ). Contains (addresses_in m) x) addressed (addresses_say_nothing (λ (x : List ℕ). Contains (addresses_in m) x)) m n o
      (all_there (λ (x : List ℕ). Contains (addresses_in m) x) (addresses_in m) (λ x c. c))) there;
}

-- A program with other blocks has the same names, shapes and objects.
use Rattle.std.specs.Prelude.{ℕ, ◌≡◌, ◌==◌, ◌&&◌, Bool, true, false, if◌then◌else◌, Option, Some, None, option_map, List, [], ◌∷◌, ◌++◌, map, find, position, count_by, replicate, bytes_eq}
use Rattle.std.proofs.Common.{refl, ap, ap₂, ◌∙◌}
use denote.Enum.Bare.{sameb}
use Rattle.pw_value.specs.contracts.value.Kind.{the_type as the_kinds}
use Rattle.pw_value.specs.declared.value.Kind.{Kind}
use Rattle.pw_value.specs.declared.value.Value.{Value}
use Rattle.pw_value.specs.declared.value.Value.TheVariants.{At}
use Rattle.pw_value.specs.declared.value.Byte.{Byte}
use Rattle.pw_value.specs.declared.value.Byte.TheVariants as B
use Rattle.pw_value.specs.declared.value.Pointer.{Pointer}
use Rattle.pw_value.specs.declared.value.Pointer.TheVariants as P
use Rattle.pw_value.specs.Names.{is_before}
use Rattle.pw_value.specs.Objects.{Object, with_bytes}
use Rattle.pw_value.specs.ProgramNames.{library_functions}
use Rattle.pw_value.specs.Values.{pieces_of}
use Rattle.pw_flow.specs.declared.flow.Item.{Item}
use Rattle.pw_flow.specs.declared.flow.Item.TheVariants.{Bytes, Address}
use Rattle.pw_flow.specs.declared.flow.Op.{Op}
use Rattle.pw_flow.specs.declared.flow.Op.TheVariants as op
use Rattle.pw_flow.specs.declared.flow.Block.{Block}
use Rattle.pw_flow.specs.declared.flow.FlowGlobal.{FlowGlobal}
use Rattle.pw_flow.specs.declared.flow.FlowFn.{FlowFn}
use Rattle.pw_flow.specs.declared.flow.FlowModule.{FlowModule}
use Rattle.pw_run_languages.specs.Memory.{is_of_kind, look_in, poke_in}
use Rattle.pw_run_languages.specs.Programs.{Program, Library, library_at, library_shape, functions_of, function_named, names_of, function_number, function_at, shape_of, globals_of, pointer_to, item_bytes, with_items, object_of, start_objects}
use Rattle.pw_run_languages.specs.Commands.{Command, Give, Combine, Look, Poke, Copied, GetGlobal, PutGlobal, Enter, Fail, enter_as, enter_at, enter_value, command}
use Rattle.pw_run_languages.specs.FlowRun.{get_global, put_global}
use Rattle.pw_opt_rules.specs.Rewriting.{with_blocks}
use Rattle.pw_law_opt.specs.Deeds.{Gets, Changes, deed}
use Rattle.pw_law_opt.specs.Sides.{with_modules}
use Rattle.pw_law_opt.specs.Passes.{Pass, ArePaired, none, also, Follows}

-- ---- functions by their names

-- what a name is in both
pub data Found (w : Pass) : Option FlowFn → Option FlowFn → Type 0 where
  nothing : Found w None None
  both : (f : FlowFn) (bs : List Block) → w.pairs f bs → Found w (Some f) (Some (with_blocks f bs))

found : (w : Pass) (name : List ℕ) (fs gs : List FlowFn) → ArePaired w fs gs → Found w (find (λ f. bytes_eq f.name name) fs) (find (λ f. bytes_eq f.name name) gs)
found w name fs gs none = nothing
found w name fs gs (also f bs more others pair rest) = either (bytes_eq f.name name) (found w name more others rest) where
  either : (b : Bool) → Found w (find (λ f. bytes_eq f.name name) more) (find (λ f. bytes_eq f.name name) others)
      → Found w (if b then Some f else find (λ f. bytes_eq f.name name) more) (if b then Some (with_blocks f bs) else find (λ f. bytes_eq f.name name) others)
  either true later = both f bs pair
  either false later = later

names_same : (w : Pass) (fs gs : List FlowFn) → ArePaired w fs gs → map (λ (f : FlowFn). f.name) gs ≡ map (λ (f : FlowFn). f.name) fs
names_same w fs gs none = refl
names_same w fs gs (also f bs more others pair rest) = ap (λ names. f.name ∷ names) (names_same w more others rest)

-- ---- what rests on names and objects alone

abbrev number_in : List (List ℕ) → List ℕ → ℕ
number_in names name = count_by (λ other. is_before other name) names

abbrev name_in : List (List ℕ) → ℕ → Option (List ℕ)
name_in names n = find (λ name. number_in names name == n) names

abbrev pointer_by : List FlowGlobal → List (List ℕ) → List ℕ → ℕ → Pointer
pointer_by globals names name offset = at (position (λ g. bytes_eq g.name name) globals)
  where
    at : Option ℕ → Pointer
    at (Some n) = P.Object n offset
    at None = P.Function (number_in names name)

abbrev own_kind : Kind → Option FlowGlobal → Bool
own_kind k (Some global) = same global.kind
  where
    same : Option Kind → Bool
    same (Some own) = sameb the_kinds own k
    same None = false
own_kind k None = false

abbrev looked : Kind → List Object → Option ℕ → Option Value
looked k objects (Some o) = look_in k o 0 objects
looked k objects None = None

abbrev poked : Kind → Value → List Object → Option ℕ → Option (List Object)
poked k v objects (Some o) = poke_in k o 0 v objects
poked k v objects None = None

abbrev got_from : List FlowGlobal → List ℕ → Kind → List Object → Option Value
got_from globals g k objects =
    if own_kind k (find (λ x. bytes_eq x.name g) globals) then looked k objects (position (λ x. bytes_eq x.name g) globals) else None

abbrev put_in : List FlowGlobal → List ℕ → Kind → Value → List Object → Option (List Object)
put_in globals g k v objects =
    if own_kind k (find (λ x. bytes_eq x.name g) globals) && is_of_kind k v then poked k v objects (position (λ x. bytes_eq x.name g) globals) else None

abbrev object_with : List Byte → Object
object_with bytes = record { bytes = bytes; live = true; writable = true }

module _ (w : Pass) (p : Program) (ms : List FlowModule) (fine : Follows w p ms) where
  abbrev q : Program
  q = with_modules p ms

  pub named : (name : List ℕ) → Found w (function_named p name) (function_named q name)
  named name = found w name (functions_of p) (functions_of q) fine.functions

  all_names : names_of q ≡ names_of p
  all_names = ap (λ names. library_functions ++ names) (names_same w (functions_of p) (functions_of q) fine.functions)

  pub pointers : (name : List ℕ) (offset : ℕ) → pointer_to q name offset ≡ pointer_to p name offset
  pointers name offset = ap₂ (λ globals names. pointer_by globals names name offset) fine.globals all_names

  numbers : (name : List ℕ) → function_number q name ≡ function_number p name
  numbers name = ap (λ names. number_in names name) all_names

  names_at : (n : ℕ) → function_at q n ≡ function_at p n
  names_at n = ap (λ names. name_in names n) all_names

  abbrev shaped : Option Library → Option FlowFn → Option (List ℕ)
  shaped (Some g) f = Some (library_shape g)
  shaped None f = option_map (λ f. f.shape) f

  shape_by : (g : Option Library) (f h : Option FlowFn) → Found w f h → shaped g h ≡ shaped g f
  shape_by (Some g) f h e = refl
  shape_by None f h nothing = refl
  shape_by None f h (both fn bs pair) = refl

  shapes : (name : List ℕ) → shape_of q name ≡ shape_of p name
  shapes name = shape_by (library_at name) (function_named p name) (function_named q name) (named name)

  -- ---- commands

  enters_at : (t : Option ℕ) (shape : List ℕ) (args : List Value) (f : Option (List ℕ)) → enter_at q t shape args f ≡ enter_at p t shape args f
  enters_at t shape args None = refl
  enters_at t shape args (Some f) = ap (enter_as t shape args (Some f)) (shapes f)

  enters_value : (t : Option ℕ) (v : Value) (shape : List ℕ) (args : List Value) → enter_value q t v shape args ≡ enter_value p t v shape args
  enters_value t (At (P.Function n)) shape args = ap (enter_at q t shape args) (names_at n) ∙ enters_at t shape args (function_at p n)
  enters_value t _ shape args = refl

  pub same_commands : (base : ℕ) (o : Op) (v : ℕ → Value) → command q base o v ≡ command p base o v
  unfolding command
  same_commands base (op.AddrGlobal t g n) v = ap (λ (r : Pointer). Give t (At r)) (pointers g n)
  same_commands base (op.AddrFn t f) v = ap (λ (n : ℕ). Give t (At (P.Function n))) (numbers f)
  same_commands base (op.CallInd t a shape args) v = enters_value t (v a) shape (map v args)
  same_commands base _ v = refl

  gets_same : (g : List ℕ) (k : Kind) (objects : List Object) → get_global q g k objects ≡ get_global p g k objects
  gets_same g k objects = ap (λ globals. got_from globals g k objects) fine.globals

  puts_same : (g : List ℕ) (k : Kind) (v : Value) (objects : List Object) → put_global q g k v objects ≡ put_global p g k v objects
  puts_same g k v objects = ap (λ globals. put_in globals g k v objects) fine.globals

  pub same_deeds : (objects : List Object) (c : Command) → deed q objects c ≡ deed p objects c
  same_deeds objects (Give t v) = refl
  same_deeds objects (Combine k t v u) = refl
  same_deeds objects (Look k t a) = refl
  same_deeds objects (Poke k a v) = refl
  same_deeds objects (Copied to from size unit) = refl
  same_deeds objects (GetGlobal t g k) = ap (option_map (Gets t)) (gets_same g k objects)
  same_deeds objects (PutGlobal g k v) = ap (option_map Changes) (puts_same g k v objects)
  same_deeds objects (Enter t f args) = refl
  same_deeds objects Fail = refl

  -- ---- objects at the start

  item_same : (i : Item) → item_bytes q i ≡ item_bytes p i
  item_same (Bytes bytes) = refl
  item_same (Address name offset) = ap pieces_of (pointers name offset)

  items_same : (items : List (ℕ × Item)) (bytes : List Byte) → with_items q items bytes ≡ with_items p items bytes
  items_same [] bytes = refl
  items_same (i ∷ rest) bytes =
      ap (λ (more : List Byte). with_items q rest (with_bytes more i.0 bytes)) (item_same i.1) ∙ items_same rest (with_bytes (item_bytes p i.1) i.0 bytes)

  object_same : (g : FlowGlobal) → object_of q g ≡ object_of p g
  object_same g = ap object_with (items_same g.items (replicate g.size (B.Num 0)))

  objects_same : (gs : List FlowGlobal) → map (object_of q) gs ≡ map (object_of p) gs
  objects_same [] = refl
  objects_same (g ∷ gs) = ap₂ (λ (x : Object) (xs : List Object). x ∷ xs) (object_same g) (objects_same gs)

  pub same_start : start_objects q ≡ start_objects p
  same_start = ap (map (object_of q)) fine.globals ∙ objects_same (globals_of p)

-- What operations ask for: values that lead somewhere.
use Rattle.std.proofs.Common.{◌≡◌, ◌≢◌, ◌⊎◌, ℕ, ◌+◌, ◌<◌, ◌≤◌, ◌==◌, Bool, List, [], ◌∷◌, length, map, refl, sym, ◌∙◌, arith, inl, inr}
use Rattle.std.specs.Prelude.{Option, Some, None}
use Rattle.std.specs.List.{AllByRecursion, position}
use Rattle.std.specs.Str.{bytes_eq}
use Rattle.std.proofs.lemmas.Bool.{eq-eqb}
use Rattle.std.proofs.lemmas.List.Quantifiers.{position-Some}
use Rattle.std.proofs.lemmas.Slice.Eq.{bytes_eq-Decides}
use Rattle.pw_value.specs.declared.value.Value.{Value}
use Rattle.pw_value.specs.declared.value.Value.TheVariants.{At}
use Rattle.pw_value.specs.declared.value.Pointer.{Pointer}
use Rattle.pw_value.specs.declared.value.Pointer.TheVariants as P
use Rattle.pw_files.proofs.Standing.{Has, has_by, has_map_back}
use Rattle.pw_flow.specs.ValidFlow.{IsWord}
use Rattle.pw_flow.specs.declared.flow.FlowGlobal.{FlowGlobal}
use Rattle.pw_flow.specs.declared.flow.Op.{Op}
use Rattle.pw_flow.specs.declared.flow.Op.TheVariants as op
use Rattle.pw_run_languages.specs.Values.{unary, extension}
use Rattle.pw_run_languages.specs.Programs.{Program, names_of, globals_of, function_number, function_at, global_number, pointer_to, shape_of}
use Rattle.pw_run_languages.specs.LawfulPrograms.{IsFunctionName, IsGlobalName}
use Rattle.pw_run_languages.specs.Commands.{Command, Give, Combine, Poke, PutGlobal, Enter, Fail, give, enter_as, enter_at, enter_value, command}
use Rattle.pw_law_select_known.proofs.Lists.{choose, finds, placed, map_each}
use Rattle.pw_law_select_states.specs.Pointers.{IsKnown, ValueIsKnown}
use Rattle.pw_law_select_known.proofs.Values.{KnownIfValue, unary_known, extension_known}

-- ---- what is asked of operations and commands

-- names are those of the program, offsets words, and slots there
abbrev pub OpIsFine : Program → ℕ → Op → Type 0
OpIsFine p slots (op.AddrGlobal t g n) = IsGlobalName p g × IsWord n
OpIsFine p slots (op.AddrSlot t s) = s < slots
OpIsFine p slots (op.AddrFn t f) = IsFunctionName p f
OpIsFine p slots _ = Unit {0}

abbrev pub CommandIsKnown : Program → ℕ → Command → Type 0
CommandIsKnown p count (Give t v) = ValueIsKnown p count v
CommandIsKnown p count (Combine k t v w) = ValueIsKnown p count v
CommandIsKnown p count (Poke k a v) = ValueIsKnown p count v
CommandIsKnown p count (PutGlobal g k v) = ValueIsKnown p count v
CommandIsKnown p count (Enter t f args) = AllByRecursion (ValueIsKnown p count) args
CommandIsKnown p count _ = Unit {0}

-- ---- names

module _ (p : Program) where
  within : (gs : List FlowGlobal) (a : List ℕ) (n : ℕ) → position (λ g. bytes_eq g.name a) gs ≡ Some n → n < length gs
  within [] a n e = absurd cc
  within (x ∷ gs) a n e = (position-Some (λ (g : FlowGlobal). bytes_eq g.name a) (x ∷ gs) n x e).0

  pub function_known : (f : List ℕ) → Has f (names_of p) → function_at p (function_number p f) ≢ None
  function_known f there none =
      let test : List ℕ → Bool = λ (name : List ℕ). function_number p name == function_number p f in
      let z = finds test (names_of p) f there (eq-eqb (function_number p f) (function_number p f) refl) in
      let clash = sym z.1 ∙ none in
      cc

  global_there : (name : List ℕ) → Has name (map (λ g. g.name) (globals_of p)) → global_number p name ≡ None → ⊥
  global_there name h none =
      let g = has_map_back (λ (g : FlowGlobal). g.name) name (globals_of p) h in
      let at = placed (λ (g : FlowGlobal). bytes_eq g.name name) (globals_of p) g.0 g.1 ((bytes_eq-Decides g.0.name name).1 g.2) in
      let clash = sym none ∙ at in
      cc

  abbrev pointer_by : List ℕ → ℕ → Option ℕ → Pointer
  pointer_by name offset (Some n) = P.Object n offset
  pointer_by name offset None = P.Function (function_number p name)

  pointer_known_by : (count : ℕ) (name : List ℕ) (offset : ℕ) (n : Option ℕ) → length (globals_of p) ≤ count → global_number p name ≡ n → IsWord offset
      → Has name (names_of p) ⊎ Has name (map (λ g. g.name) (globals_of p)) → IsKnown p count (pointer_by name offset n)
  pointer_known_by count name offset (Some n) le e word there = let lt = within (globals_of p) name n e in (omega (arith, lt, le), word)
  pointer_known_by count name offset None le e word (inl function) = function_known name function
  pointer_known_by count name offset None le e word (inr global) = absurd (global_there name global e)

  pub pointer_known : (count : ℕ) (name : List ℕ) (offset : ℕ) → length (globals_of p) ≤ count → IsWord offset
      → Has name (names_of p) ⊎ Has name (map (λ g. g.name) (globals_of p)) → IsKnown p count (pointer_to p name offset)
  pointer_known count name offset le word there = pointer_known_by count name offset (global_number p name) le refl word there

-- ---- commands

module _ (p : Program) (count : ℕ) where
  give_known : (t : ℕ) (v : Option Value) → KnownIfValue p count v → CommandIsKnown p count (give t v)
  give_known t (Some v) h = h
  give_known t None h = tt

  as_known : (t : Option ℕ) (shape : List ℕ) (args : List Value) (f : List ℕ) (own : Option (List ℕ)) → AllByRecursion (ValueIsKnown p count) args
      → CommandIsKnown p count (enter_as t shape args (Some f) own)
  as_known t shape args f (Some own) all = choose (CommandIsKnown p count) (bytes_eq own shape) (Enter t f args) Fail all tt
  as_known t shape args f None all = tt

  at_known : (t : Option ℕ) (shape : List ℕ) (args : List Value) (f : Option (List ℕ)) → AllByRecursion (ValueIsKnown p count) args
      → CommandIsKnown p count (enter_at p t shape args f)
  at_known t shape args (Some f) all = as_known t shape args f (shape_of p f) all
  at_known t shape args None all = tt

  enter_known : (t : Option ℕ) (v : Value) (shape : List ℕ) (args : List Value) → AllByRecursion (ValueIsKnown p count) args
      → CommandIsKnown p count (enter_value p t v shape args)
  enter_known t (At (P.Function n)) shape args all = at_known t shape args (function_at p n) all
  enter_known t _ shape args all = tt

  pub command_known : (slots : ℕ) (o : Op) (base : ℕ) (value : ℕ → Value) → length (globals_of p) ≤ count → base + slots ≤ count → OpIsFine p slots o
      → ((t : ℕ) → ValueIsKnown p count (value t)) → CommandIsKnown p count (command p base o value)
  unfolding command
  command_known slots (op.Copy t a) base value low few fine known = known a
  command_known slots (op.Un k t a) base value low few fine known = give_known t (unary k (value a)) (unary_known p count k (value a))
  command_known slots (op.Bin k t a b) base value low few fine known = known a
  command_known slots (op.Ext k t a) base value low few fine known = give_known t (extension k (value a)) (extension_known p count k (value a) (known a))
  command_known slots (op.AddrGlobal t g n) base value low few fine known = pointer_known p count g n low fine.1 (inr (has_by g (map (λ (x : FlowGlobal). x.name) (globals_of p)) fine.0))
  command_known slots (op.AddrSlot t s) base value low few fine known = let lt : s < slots = fine in (omega (arith, lt, few), omega arith)
  command_known slots (op.AddrFn t f) base value low few fine known = function_known p f (has_by f (names_of p) fine)
  command_known slots (op.StoreG g a k) base value low few fine known = known a
  command_known slots (op.Store k a b) base value low few fine known = known b
  command_known slots (op.Call t f args) base value low few fine known = map_each (ValueIsKnown p count) value known args
  command_known slots (op.CallInd t a shape args) base value low few fine known =
      enter_known t (value a) shape (map value args) (map_each (ValueIsKnown p count) value known args)
  command_known slots _ base value low few fine known = tt

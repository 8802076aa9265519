-- A function that a module names for itself has no object's name: the names at the module's end stand for what it has, also where each
-- of its objects counts as a function of type int.
use Rattle.std.specs.Prelude.{ℕ, suc, ◌≡◌, Bool, true, false, if◌then◌else◌, None, Some, List, [], ◌∷◌, slice_get, decimal, All, Ok, refl}
use Rattle.std.specs.List.{flat_map, AllByRecursion}
use Rattle.std.specs.Option.{option_map_or}
use Rattle.std.proofs.Common.{arith, ap, sym, subst, ◌∙◌, inl, inr}
use Rattle.std.proofs.lemmas.Option.{slice_get-get_or}
use Rattle.pw_tree.specs.Trees.{Module}
use Rattle.pw_tree.specs.WellFormed.{WellFormedModule}
use Rattle.pw_tree.specs.Words.{WordsSpellModule}
use Rattle.pw_types.specs.TypeTrees.{Void, Int, Pointer, Array, Function, Record, QType, Qualified, type_of}
use Rattle.pw_types.specs.TypedTrees.{Symbol, External, Internal, Hidden, FunctionValue, GlobalValue, ModuleValue}
use Rattle.pw_types.specs.TypedModules.{IsStatement}
use Rattle.pw_types.specs.WellTyped.{IsDeclared, IsDefined, IsObject, IsFunctionOf}
use Rattle.pw_law_lower.specs.Within.{IsLetter, AreLetters}
use Rattle.pw_files.proofs.Standing.{Has, has_by, contains_by, has_each, has_split, has_flat_back}
use Rattle.pw_flow.proofs.Lists.{all_flat}
use Rattle.pw_check_walk.specs.Walks.{Done, bind}
use Rattle.pw_check_rules.specs.Checks.{Checks, checking}
use Rattle.pw_check_rules.specs.Kinds.{is_function}
use Rattle.pw_check_rules.specs.Linkage.{symbol_of_linked, symbol_at}
use Rattle.pw_check_rules.specs.Modules.{module_rule, module_in, named_global, hidden_global, global_in}
use Rattle.pw_check_rules.specs.States.{State, LinkedName, HiddenObject, Entity, TypeName, EnumerationConstant, LocalObject, StaticObject, Linked, start}
use Rattle.pw_check_rules.specs.declared.names.Slot.{Slot}
use Rattle.pw_check_rules.specs.declared.names.Slot.TheVariants as slot
use Rattle.pw_law_checked.specs.Lawful.{IsLawful, IsNamed, StandsFor}
use Rattle.pw_law_checked.specs.Words.{WordsInStatement}
use Rattle.pw_law_checked.proofs.Walking.{Post, post_end, post_bind, post_both}
use Rattle.pw_law_checked.proofs.Lists.{some_same}
use Rattle.pw_law_checked.proofs.Types.{no}
use Rattle.pw_law_checked.proofs.Sound.{Sound, IsThere}
use Rattle.pw_law_checked.proofs.Backward.{Names, names_end, get_flat}
use Rattle.pw_law_checked.proofs.Bodies.{AreOwned, AreStated, IsWhollyStated, module_stated}
use Rattle.pw_law_checked.proofs.Ending.{contains_at, symbol_text}
use Rattle.pw_law_checked.proofs.FunctionLaws.{end_same}
use Rattle.pw_law_checked.proofs.Laws.{start_lawful}
use Rattle.pw_law_checked.proofs.Texts.{module_text}
use Rattle.pw_law_checked.proofs.Linked.{AreNamed, Named, at_named, externals_named}
use Rattle.pw_law_checked.specs.OwnNames.{own_functions, with_objects}

-- ---- objects at a module's end

-- it is no function's, and has the name of what stands in a slot
abbrev IsObjects : State → Symbol → Type 0
IsObjects t (Hidden k) = Unit {0}
IsObjects t s = (n : ℕ) × (l : LinkedName) × (slice_get t.types.linked n ≡ Some l) × (symbol_of_linked l ≡ s) × (is_function (type_of l.ty) ≡ false)

linked_objects : (t : State) (n : ℕ) (l : LinkedName) → slice_get t.types.linked n ≡ Some l → is_function (type_of l.ty) ≡ false → IsObjects t (symbol_of_linked l)
linked_objects t n l at f = by l.internal refl
  where
    by : (b : Bool) → l.internal ≡ b → IsObjects t (if b then Internal l.name else External l.name)
    by true e = (n, l, at, ap (λ b. if b then Internal l.name else External l.name) e, f)
    by false e = (n, l, at, ap (λ b. if b then Internal l.name else External l.name) e, f)

slot_objects : (t : State) (x : Slot) → IsThere t.types.linked t.made.hidden x → AllByRecursion (λ (g : GlobalValue). IsObjects t g.name) (global_in t x)
slot_objects t (slot.Named n) there =
    subst (λ o. AllByRecursion (λ (g : GlobalValue). IsObjects t g.name) (option_map_or (λ (l : LinkedName). named_global t l ∷ []) o [])) (sym there.1) (linked_objects t n there.0 there.1 there.2.1, tt)
slot_objects t (slot.Hidden k) there =
    subst (λ o. AllByRecursion (λ (g : GlobalValue). IsObjects t g.name) (option_map_or (λ (h : HiddenObject). hidden_global k h ∷ []) o [])) (sym there.1) (tt, tt)

slots_objects : (t : State) (xs : List Slot) → ((i : ℕ) (x : Slot) → slice_get xs i ≡ Some x → IsThere t.types.linked t.made.hidden x) → AllByRecursion (λ (x : Slot). AllByRecursion (λ (g : GlobalValue). IsObjects t g.name) (global_in t x)) xs
slots_objects t [] there = tt
slots_objects t (x ∷ xs) there = (slot_objects t x (there 0 x refl), slots_objects t xs (λ i y e. there (suc i) y e))

all_objects : (t : State) → Sound None t → (g : GlobalValue) → Has g (module_in t).globals → IsObjects t g.name
all_objects t sound g h =
    has_each (λ (g : GlobalValue). IsObjects t g.name) (module_in t).globals g (all_flat (global_in t) (λ (g : GlobalValue). IsObjects t g.name) t.made.slots (slots_objects t t.made.slots sound.slots.there)) h

-- ---- no object has the name of a function

letter_no_dot : IsLetter 46 → ⊥
letter_no_dot h = grind arith

abbrev text_in : Symbol → List ℕ
text_in (External name) = name
text_in (Internal name) = name
text_in (Hidden k) = []

module _ (t : State) (lawful : IsLawful t) (sound : Sound None t) (named : AreNamed t.types.linked) where
  abbrev m : ModuleValue
  m = module_in t

  one_name : (n : ℕ) (l : LinkedName) (name : List ℕ) → slice_get t.types.linked n ≡ Some l → symbol_of_linked l ≡ Internal name → is_function (type_of l.ty) ≡ true
      → (s : Symbol) → IsObjects t s → (f : FunctionValue) → Has f (own_functions s) → f.name ≡ Internal name → ⊥
  one_name n l name at is function (External x) o f h e = h
  one_name n l name at is function (Internal x) o f (inl same) e =
      let text : x ≡ name = ap text_in (ap (λ (f : FunctionValue). f.name) same ∙ e) in
      let place : o.0 ≡ n = lawful.apart o.0 n o.1 l o.2 at (sym (symbol_text o.1) ∙ (ap text_in o.3 ∙ (text ∙ (sym (ap text_in is) ∙ symbol_text l)))) in
      let one : o.1 ≡ l = some_same (sym o.2 ∙ (ap (slice_get t.types.linked) place ∙ at)) in
      no (sym o.4 ∙ (ap (λ (l : LinkedName). is_function (type_of l.ty)) one ∙ function))
  one_name n l name at is function (Internal x) o f (inr h) e = h
  one_name n l name at is function (Hidden k) o f (inl same) e =
      let text : 46 ∷ decimal k ≡ name = ap text_in (ap (λ (f : FunctionValue). f.name) same ∙ e) in
      let letters : AreLetters (46 ∷ decimal k) = subst AreLetters (sym (symbol_text l) ∙ (ap text_in is ∙ sym text)) (at_named t.types.linked n l at named) in
      letter_no_dot letters.0
  one_name n l name at is function (Hidden k) o f (inr h) e = h

  -- ---- what names stand for

  declared_same : (name : List ℕ) (q : QType) → IsDeclared m name q → IsDeclared (with_objects m) name q
  declared_same name q d = record { entry = d.entry; there = d.there; name_is = d.name_is; agrees = d.agrees }

  defined_same : (s : Symbol) (q : QType) → IsDefined m s q → IsDefined (with_objects m) s q
  defined_same s q d = record { object = d.object; there = d.there; name_is = d.name_is; agrees = d.agrees }

  object_same : (s : Symbol) (q : QType) → IsObject m s q → IsObject (with_objects m) s q
  object_same (External name) q h = declared_same name q h
  object_same (Internal name) q h = defined_same (Internal name) q h
  object_same (Hidden k) q h = defined_same (Hidden k) q h

  function_same : (n : ℕ) (l : LinkedName) (s : Symbol) (q : QType) → slice_get t.types.linked n ≡ Some l → symbol_of_linked l ≡ s → is_function (type_of l.ty) ≡ true → IsFunctionOf m s q → IsFunctionOf (with_objects m) s q
  function_same n l (External name) q at is function h = declared_same name q h
  function_same n l (Internal name) q at is function h = λ f there e.
      elim (has_split f m.functions (flat_map (λ (g : GlobalValue). own_functions g.name) m.globals) (has_by f (with_objects m).functions there)) [
        | inl k ↦ h f (contains_by f m.functions k) e
        | inr k ↦
            let g = has_flat_back (λ (g : GlobalValue). own_functions g.name) f m.globals k in
            absurd (one_name n l name at is function g.0.name (all_objects t sound g.0 g.1) f g.2 e)
      ]
  function_same n l (Hidden k) q at is function h = absurd h

  named_same : (n : ℕ) (l : LinkedName) (s : Symbol) (q : QType) → slice_get t.types.linked n ≡ Some l → symbol_of_linked l ≡ s → is_function (type_of l.ty) ≡ is_function (type_of q) → IsNamed m s q → IsNamed (with_objects m) s q
  named_same n l s (Qualified (Function a ps) c v) at is kind h = function_same n l s (Qualified (Function a ps) c v) at is kind h
  named_same n l s (Qualified Void c v) at is kind h = object_same s (Qualified Void c v) h
  named_same n l s (Qualified (Int k) c v) at is kind h = object_same s (Qualified (Int k) c v) h
  named_same n l s (Qualified (Pointer q) c v) at is kind h = object_same s (Qualified (Pointer q) c v) h
  named_same n l s (Qualified (Array q i) c v) at is kind h = object_same s (Qualified (Array q i) c v) h
  named_same n l s (Qualified (Record i) c v) at is kind h = object_same s (Qualified (Record i) c v) h

  stands : (k : ℕ) (e : Entity) → slice_get t.scopes.entities k ≡ Some e → StandsFor t m e → StandsFor t (with_objects m) e
  stands k (TypeName q) at h = tt
  stands k (EnumerationConstant n) at h = tt
  stands k (LocalObject i q register) at h = tt
  stands k (StaticObject i q) at h = defined_same (Hidden i) q h
  stands k (Linked place q) at h =
      let b = sound.backed k (Linked place q) at in
      named_same place b.0 (symbol_at t place) q b.1 (sym (ap (λ o. option_map_or symbol_of_linked o (External [])) b.1)) b.2.function h

  names_with : Names t (with_objects m)
  names_with = let n = names_end t lawful sound in record {
    records = n.records;
    strings = λ k h e. defined_same (Hidden k) h.ty (n.strings k h e);
    entities = λ k e f. stands k e f (n.entities k e f);
  }

  owned_with : AreOwned t (with_objects m)
  owned_with k h at =
      let i = sound.slots.strings k h at in
      let r = get_flat (global_in t) t.made.slots i.0 (slot.Hidden k) 0 (hidden_global k h) i.1 (ap (λ o. slice_get (option_map_or (λ (z : HiddenObject). hidden_global k z ∷ []) o []) 0) at) in
      (hidden_global k h, contains_at m.globals r.0 (hidden_global k h) r.1, refl, refl)

  bodies_with : AreStated t → All (λ f. WordsInStatement f.body → IsStatement (with_objects m) f false false f.params f.body) m.functions
  bodies_with all = λ k d below. all k _ (slice_get-get_or t.made.functions k d below) (with_objects m) names_with owned_with

-- ---- modules

module_named : (tree : Module) → WordsSpellModule tree → Post (module_rule tree start) (λ r. AreNamed r.1.types.linked)
unfolding module_rule
module_named tree ids =
    post_bind _ _ Named (λ r. AreNamed r.1.types.linked)
    (post_bind _ _ Named Named (externals_named tree.externals start ids tt) (λ r h. h)) (λ r h.
    post_bind _ _ (λ u. u.1 ≡ r.1) (λ u. AreNamed u.1.types.linked) (end_same r.0 r.1) (λ u e. subst (λ (t : State). AreNamed t.types.linked) (sym e) h))

abbrev HasBodies : ModuleValue → Type 0
HasBodies v = All (λ f. WordsInStatement f.body → IsStatement (with_objects v) f false false f.params f.body) v.functions

checking_bodies : (tree : Module) → WellFormedModule tree → WordsSpellModule tree → Post (bind (module_rule tree start) (λ r. Done r.0)) HasBodies
checking_bodies tree text ids =
    post_bind (module_rule tree start) (λ r. Done r.0) (λ r. IsWhollyStated r × AreNamed r.1.types.linked) HasBodies
    (post_both (module_rule tree start) IsWhollyStated (λ r. AreNamed r.1.types.linked) (module_stated tree start_lawful (module_text tree text)) (module_named tree ids))
    (λ r h. subst HasBodies (sym h.0.0) (bodies_with r.1 h.0.1.0 h.0.1.1.0 h.1 h.0.1.1.1))

pub module_bodies : (tree : Module) (m : ModuleValue) → WellFormedModule tree → WordsSpellModule tree → Checks tree (Ok m) → HasBodies m
unfolding checking
module_bodies tree m text ids h = post_end (checking tree) m HasBodies h (checking_bodies tree text ids)

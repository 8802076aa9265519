-- The names of what a module shares and defines are identifiers.
use Rattle.std.specs.Prelude.{ℕ, ◌≡◌, Bool, true, false, not, if◌then◌else◌, Option, None, Some, List, [], ◌∷◌, filter, flat_map, slice_get, All, Ok, refl}
use Rattle.std.specs.List.{AllByRecursion}
use Rattle.std.specs.Option.{option_map_or}
use Rattle.std.proofs.Common.{sym, subst}
use Rattle.std.proofs.lemmas.Option.{slice_get-get_or}
use Rattle.pw_flow.proofs.Lists.{all_flat}
use Rattle.pw_law_lower.specs.Within.{AreLetters, IsNamed}
use Rattle.pw_tree.specs.Trees.{Module}
use Rattle.pw_tree.specs.WellFormed.{WellFormedModule}
use Rattle.pw_tree.specs.Words.{WordsSpellModule}
use Rattle.pw_types.specs.TypedTrees.{Symbol, External, Internal, Hidden, FunctionValue, GlobalValue, DeclaredValue, ModuleValue}
use Rattle.pw_check_walk.specs.Walks.{Done, bind}
use Rattle.pw_check_rules.specs.Checks.{Checks, checking}
use Rattle.pw_check_rules.specs.Linkage.{symbol_of_linked}
use Rattle.pw_check_rules.specs.Modules.{module_rule, module_in, declared_value, named_global, hidden_global, global_in}
use Rattle.pw_check_rules.specs.States.{State, LinkedName, HiddenObject, start, linked_at}
use Rattle.pw_check_rules.specs.declared.names.Slot.{Slot}
use Rattle.pw_check_rules.specs.declared.names.Slot.TheVariants as slot
use Rattle.pw_law_checked.proofs.Walking.{Post, post_end, post_bind, post_both}
use Rattle.pw_law_checked.proofs.Lists.{get_map, get_filter}
use Rattle.pw_law_checked.proofs.Sound.{Sound}
use Rattle.pw_law_checked.proofs.Texts.{module_text}
use Rattle.pw_law_checked.proofs.Bodies.{IsWhollyStated, module_stated}
use Rattle.pw_law_checked.proofs.FunctionLaws.{end_same}
use Rattle.pw_law_checked.proofs.Laws.{start_lawful}
use Rattle.pw_law_checked.specs.Names.{HasWord, AreNumbered}
use Rattle.pw_law_checked.proofs.Linked.{AreNamed, Named, at_all, at_named, externals_named}

-- ---- the state at a module's end

module_named : (m : Module) → WordsSpellModule m → Post (module_rule m start) (λ r. AreNamed r.1.types.linked)
unfolding module_rule
module_named m ids =
    post_bind _ _ Named (λ r. AreNamed r.1.types.linked)
    (post_bind _ _ Named Named (externals_named m.externals start ids tt) (λ r h. h)) (λ r h.
    post_bind _ _ (λ u. u.1 ≡ r.1) (λ u. AreNamed u.1.types.linked) (end_same r.0 r.1) (λ u e. subst (λ (t : State). AreNamed t.types.linked) (sym e) h))

-- ---- what is shared

declared_named : (t : State) → AreNamed t.types.linked → (i : ℕ) (d : DeclaredValue) → slice_get (module_in t).declared i ≡ Some d → AreLetters d.name
declared_named t all i d e =
    let x = get_map declared_value (filter (λ (l : LinkedName). not l.internal) t.types.linked) i d e in
    let y = get_filter (λ (l : LinkedName). not l.internal) t.types.linked i x.0 x.1 in
    subst (λ (z : DeclaredValue). AreLetters z.name) x.2 (at_named t.types.linked y.0 x.0 y.1 all)

-- ---- what is defined

symbol_named : (l : LinkedName) → AreLetters l.name → IsNamed (symbol_of_linked l)
symbol_named l h = by l.internal
  where
    by : (b : Bool) → IsNamed (if b then Internal l.name else External l.name)
    by true = h
    by false = h

function_named : (t : State) → Sound None t → AreNamed t.types.linked → (i : ℕ) (f : FunctionValue) → slice_get (module_in t).functions i ≡ Some f → IsNamed f.name
function_named t sound all i f e =
    let x = sound.functions i f e in
    subst IsNamed (sym x.3) (symbol_named x.1 (at_named t.types.linked x.0 x.1 x.2 all))

-- a name that the text gives, or any number
abbrev IsTextual : Symbol → Type 0
IsTextual (External name) = AreLetters name
IsTextual (Internal name) = AreLetters name
IsTextual (Hidden k) = Unit {0}

textual : (s : Symbol) → IsNamed s → IsTextual s
textual (External name) h = h
textual (Internal name) h = h
textual (Hidden k) h = tt

numbered : (s : Symbol) → IsTextual s → HasWord s → IsNamed s
numbered (External name) h k = h
numbered (Internal name) h k = h
numbered (Hidden n) h k = k

slot_named : (t : State) → AreNamed t.types.linked → (x : Slot) → AllByRecursion (λ (g : GlobalValue). IsTextual g.name) (global_in t x)
slot_named t all (slot.Named place) = by (linked_at t place) refl
  where
    by : (o : Option LinkedName) → linked_at t place ≡ o → AllByRecursion (λ (g : GlobalValue). IsTextual g.name) (option_map_or (λ l. named_global t l ∷ []) o [])
    by None e = tt
    by (Some l) e = (textual (symbol_of_linked l) (symbol_named l (at_named t.types.linked place l e all)), tt)
slot_named t all (slot.Hidden k) = by (slice_get t.made.hidden k)
  where
    by : (o : Option HiddenObject) → AllByRecursion (λ (g : GlobalValue). IsTextual g.name) (option_map_or (λ h. hidden_global k h ∷ []) o [])
    by None = tt
    by (Some h) = (tt, tt)

slots_named : (t : State) → AreNamed t.types.linked → (xs : List Slot) → AllByRecursion (λ (x : Slot). AllByRecursion (λ (g : GlobalValue). IsTextual g.name) (global_in t x)) xs
slots_named t all [] = tt
slots_named t all (x ∷ xs) = (slot_named t all x, slots_named t all xs)

global_named : (t : State) → AreNamed t.types.linked → (i : ℕ) (g : GlobalValue) → slice_get (module_in t).globals i ≡ Some g → IsTextual g.name
global_named t all i g e =
    at_all (λ (h : GlobalValue). IsTextual h.name) (flat_map (global_in t) t.made.slots) i g e
    (all_flat (global_in t) (λ (h : GlobalValue). IsTextual h.name) t.made.slots (slots_named t all t.made.slots))

-- ---- the laws

record HasNames (m : ModuleValue) : Type 0 where
  declared : All (λ d. AreLetters d.name) m.declared
  functions : All (λ f. IsNamed f.name) m.functions
  globals : All (λ g. IsTextual g.name) m.globals

names_in : (t : State) → Sound None t → AreNamed t.types.linked → HasNames (module_in t)
names_in t sound all = record {
  declared = λ k d below. declared_named t all k _ (slice_get-get_or (module_in t).declared k d below);
  functions = λ k d below. function_named t sound all k _ (slice_get-get_or (module_in t).functions k d below);
  globals = λ k d below. global_named t all k _ (slice_get-get_or (module_in t).globals k d below);
}

checking_named : (m : Module) → WellFormedModule m → WordsSpellModule m → Post (bind (module_rule m start) (λ r. Done r.0)) HasNames
checking_named m text ids =
    post_bind (module_rule m start) (λ r. Done r.0) (λ r. IsWhollyStated r × AreNamed r.1.types.linked) HasNames
    (post_both (module_rule m start) IsWhollyStated (λ r. AreNamed r.1.types.linked) (module_stated m start_lawful (module_text m text)) (module_named m ids))
    (λ r h. subst HasNames (sym h.0.0) (names_in r.1 h.0.1.1.0 h.1))

all_names : (tree : Module) (m : ModuleValue) → WellFormedModule tree → WordsSpellModule tree → Checks tree (Ok m) → HasNames m
unfolding checking
all_names tree m text ids h = post_end (checking tree) m HasNames h (checking_named tree text ids)

pub declared_names : (tree : Module) (m : ModuleValue) → WellFormedModule tree → WordsSpellModule tree → Checks tree (Ok m) → All (λ d. AreLetters d.name) m.declared
declared_names tree m text ids h = (all_names tree m text ids h).declared

pub function_names : (tree : Module) (m : ModuleValue) → WellFormedModule tree → WordsSpellModule tree → Checks tree (Ok m) → All (λ f. IsNamed f.name) m.functions
function_names tree m text ids h = (all_names tree m text ids h).functions

pub global_names : (tree : Module) (m : ModuleValue) → WellFormedModule tree → WordsSpellModule tree → Checks tree (Ok m) → AreNumbered m → All (λ g. IsNamed g.name) m.globals
global_names tree m text ids h few = λ k d below. numbered _ ((all_names tree m text ids h).globals k d below) (few k d below)

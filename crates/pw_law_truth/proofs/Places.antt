-- The globals of a program, by their places in the list of all, and where the map of its image has them.
use Rattle.std.proofs.Common.{◌≡◌, ◌≢◌, ℕ, suc, Bool, true, false, if◌then◌else◌, List, [], ◌∷◌, ◌++◌, map, length, Option, Some, None, refl, sym, ap, subst, ◌∙◌, append_assoc, arith}
use Rattle.std.specs.Prelude.{Contains, unwrap_or}
use Rattle.std.specs.List.{AllByRecursion}
use Rattle.std.proofs.lemmas.List.{append-nil, map-append}
use Rattle.std.proofs.lemmas.List.Elements.{Contains-append_right}
use Rattle.pw_flow.specs.ValidFlow.{AreDistinct}
use Rattle.pw_flow.specs.declared.flow.FlowGlobal.{FlowGlobal}
use Rattle.pw_alloc.specs.declared.located.Located.{Located}
use Rattle.pw_link.specs.FromMilli.Library.{routines}
use Rattle.pw_image.specs.declared.image.Image.{Image}
use Rattle.pw_image.specs.declared.image.Function.{Function}
use Rattle.pw_image.specs.declared.image.GlobalObject.{GlobalObject}
use Rattle.pw_run_languages.specs.Programs.{Program, functions_of, globals_of}
use Rattle.pw_run_languages.specs.LinkingLaws.{AreNamesApart, address_of}
use Rattle.pw_law_linked.proofs.Entries.{IsEntry, entries_found, names_in}
use Rattle.pw_law_linked.proofs.Own.{Differ, both_all, joined_distinct, names_are, right_all, right_distinct, text_distinct}
use Rattle.pw_where.specs.declared.numbers.Number.{Number}
use Rattle.pw_where.specs.declared.shown.Shown.{Shown}
use Rattle.pw_where.specs.Shown.{is_hidden, number_of_shape, shown_as, shown_of, shown_one}

head_same : {X : Type 0} (x y : X) (xs ys : List X) → x ∷ xs ≡ y ∷ ys → x ≡ y
head_same x y xs ys e = cc

tail_same : {X : Type 0} (x y : X) (xs ys : List X) → x ∷ xs ≡ y ∷ ys → xs ≡ ys
tail_same x y xs ys e = cc

-- ---- one place for a name

named_past : (ys after : List FlowGlobal) (b : FlowGlobal) (name : List ℕ) → AllByRecursion (λ other. other ≢ name) (map (λ g. g.name) (ys ++ b ∷ after)) → b.name ≡ name → ⊥
named_past [] after b name all e = all.0 e
named_past (y ∷ ys) after b name all e = named_past ys after b name all.1 e

pub record SamePlace (xs ys : List FlowGlobal) (a b : FlowGlobal) : Type 0 where
  pub count : length xs ≡ length ys
  pub is : a ≡ b

-- of different names each stands in one place
pub same_place : (xs xs' ys ys' : List FlowGlobal) (a b : FlowGlobal) → AreDistinct (map (λ g. g.name) (xs ++ a ∷ xs')) → xs ++ a ∷ xs' ≡ ys ++ b ∷ ys' → a.name ≡ b.name → SamePlace xs ys a b
same_place [] xs' [] ys' a b d e n =
    record { count = refl; is = head_same a b xs' ys' e }
same_place [] xs' (y ∷ ys) ys' a b d e n =
    let rest : xs' ≡ ys ++ b ∷ ys' = tail_same a y xs' (ys ++ b ∷ ys') e in
    absurd (named_past ys ys' b a.name (subst (λ (gs : List FlowGlobal). AllByRecursion (λ other. other ≢ a.name) (map (λ g. g.name) gs)) rest d.0) (sym n))
same_place (x ∷ xs) xs' [] ys' a b d e n =
    let same : x ≡ b = head_same x b (xs ++ a ∷ xs') ys' e in
    absurd (named_past xs xs' a x.name d.0 (n ∙ sym (ap (λ (g : FlowGlobal). g.name) same)))
same_place (x ∷ xs) xs' (y ∷ ys) ys' a b d e n =
    let rest : xs ++ a ∷ xs' ≡ ys ++ b ∷ ys' = tail_same x y (xs ++ a ∷ xs') (ys ++ b ∷ ys') e in
    let k = same_place xs xs' ys ys' a b d.1 rest n in
    record { count = ap suc k.count; is = k.is }

-- ---- what is shown

abbrev pub HasPlace : Image → GlobalObject → Type 0
HasPlace v o = address_of v o.name ≡ o.address

-- a global that is shown is one of the program's
pub record IsKnown (q : Program) (v : Image) (s : Shown) : Type 0 where
  pub before : List FlowGlobal
  pub global : FlowGlobal
  pub after : List FlowGlobal
  pub is : globals_of q ≡ before ++ global ∷ after
  pub name : global.name ≡ s.object.name
  pub place : address_of v global.name ≡ s.object.address
  pub shape : number_of_shape global.shape ≡ Some s.number

all_both : (P : Shown → Type 0) (xs ys : List Shown) → AllByRecursion P xs → AllByRecursion P ys → AllByRecursion P (xs ++ ys)
all_both P [] ys h k = k
all_both P (x ∷ xs) ys h k = (h.0, all_both P xs ys h.1 k)

module _ (q : Program) (v : Image) where
  one_by : (before : List FlowGlobal) (g : FlowGlobal) (after : List FlowGlobal) (o : GlobalObject) → globals_of q ≡ before ++ g ∷ after → g.name ≡ o.name → HasPlace v o
      → (hidden : Bool) (n : Option Number) → number_of_shape g.shape ≡ n → AllByRecursion (IsKnown q v) (if hidden then [] else shown_as o n)
  one_by before g after o is name place true n e = tt
  one_by before g after o is name place false None e = tt
  one_by before g after o is name place false (Some number) e =
      (record { before = before; global = g; after = after; is = is; name = name; place = ap (address_of v) name ∙ place; shape = e }, tt)

  pub all_known : (before gs : List FlowGlobal) (objects : List GlobalObject) → globals_of q ≡ before ++ gs → map (λ o. o.name) objects ≡ map (λ g. g.name) gs → AllByRecursion (HasPlace v) objects
      → AllByRecursion (IsKnown q v) (shown_of gs objects)
  all_known before [] objects is names places = tt
  all_known before (g ∷ gs) [] is names places = tt
  all_known before (g ∷ gs) (o ∷ objects) is names places =
      let own = map (λ (x : GlobalObject). x.name) objects in
      let others = map (λ (x : FlowGlobal). x.name) gs in
      let name : o.name ≡ g.name = head_same o.name g.name own others names in
      let more : own ≡ others = tail_same o.name g.name own others names in
      all_both (IsKnown q v) (shown_one g.shape o) (shown_of gs objects) (one_by before g gs o is (sym name) places.0 (is_hidden o.name) (number_of_shape g.shape) refl)
      (all_known (before ++ g ∷ []) gs objects (is ∙ sym (append_assoc before (g ∷ []) gs)) more places.1)

-- ---- addresses

-- what stands in front has other names
differ_behind : (xs ys : List (List ℕ)) → AreDistinct (xs ++ ys) → Differ ys xs
differ_behind [] ys h = tt
differ_behind (x ∷ xs) ys h = (right_all (λ n. n ≢ x) xs ys h.0, differ_behind xs ys h.1)

differ_from_last : (xs ys others : List (List ℕ)) → Differ (xs ++ ys) others → Differ ys others
differ_from_last xs ys [] h = tt
differ_from_last xs ys (other ∷ others) h = (right_all (λ x. x ≢ other) xs ys h.0, differ_from_last xs ys others h.1)

-- functions, routines and objects have different names
all_distinct : (q : Program) (functions : List Located) → AreNamesApart q → map (λ l. l.body.name) functions ≡ map (λ f. f.name) (functions_of q)
    → AreDistinct ((map (λ f. f.name) (functions_of q) ++ map (λ r. r.0) routines) ++ map (λ g. g.name) (globals_of q))
all_distinct q functions apart named =
    let own = map (λ f. f.name) (functions_of q) in
    let others = map (λ r. r.0) routines in
    let globals = map (λ g. g.name) (globals_of q) in
    let behind = right_distinct others (own ++ globals) apart in
    joined_distinct (own ++ others) globals (subst AreDistinct (names_are q functions named) (text_distinct q functions apart named)) (right_distinct own globals behind)
    (both_all (λ y. AllByRecursion (λ x. x ≢ y) globals) own others (differ_behind own globals behind) (differ_from_last own globals others (differ_behind others (own ++ globals) apart)))

abbrev function_sites : List Function → List (List ℕ × ℕ)
function_sites fs = map (λ f. (f.name, f.address)) fs

abbrev global_sites : List GlobalObject → List (List ℕ × ℕ)
global_sites gs = map (λ g. (g.name, g.address)) gs

abbrev sites_in : Image → List (List ℕ × ℕ)
sites_in v = function_sites v.functions ++ global_sites v.globals

function_names : (fs : List Function) → names_in (function_sites fs) ≡ map (λ f. f.name) fs
function_names [] = refl
function_names (f ∷ fs) = ap (λ (names : List (List ℕ)). f.name ∷ names) (function_names fs)

global_names : (gs : List GlobalObject) → names_in (global_sites gs) ≡ map (λ g. g.name) gs
global_names [] = refl
global_names (g ∷ gs) = ap (λ (names : List (List ℕ)). g.name ∷ names) (global_names gs)

first_entries : (P : List ℕ × ℕ → Type 0) (xs ys : List (List ℕ × ℕ)) → AllByRecursion P (xs ++ ys) → AllByRecursion P xs
first_entries P [] ys h = tt
first_entries P (x ∷ xs) ys h = (h.0, first_entries P xs ys h.1)

last_entries : (P : List ℕ × ℕ → Type 0) (xs ys : List (List ℕ × ℕ)) → AllByRecursion P (xs ++ ys) → AllByRecursion P ys
last_entries P [] ys h = h
last_entries P (x ∷ xs) ys h = last_entries P xs ys h.1

functions_placed : (v : Image) (fs : List Function) → AllByRecursion (IsEntry (sites_in v)) (function_sites fs) → AllByRecursion (λ f. address_of v f.name ≡ f.address) fs
functions_placed v [] h = tt
functions_placed v (f ∷ fs) h = (ap (λ (o : Option ℕ). unwrap_or o 0) h.0, functions_placed v fs h.1)

globals_placed : (v : Image) (gs : List GlobalObject) → AllByRecursion (IsEntry (sites_in v)) (global_sites gs) → AllByRecursion (HasPlace v) gs
globals_placed v [] h = tt
globals_placed v (g ∷ gs) h = (ap (λ (o : Option ℕ). unwrap_or o 0) h.0, globals_placed v gs h.1)

-- each function and each object of a map has its address by its name
pub record ArePlaced (v : Image) : Type 0 where
  pub functions : AllByRecursion (λ f. address_of v f.name ≡ f.address) v.functions
  pub globals : AllByRecursion (HasPlace v) v.globals

pub all_placed : (q : Program) (functions : List Located) (v : Image) → AreNamesApart q → map (λ l. l.body.name) functions ≡ map (λ f. f.name) (functions_of q)
    → map (λ f. f.name) v.functions ≡ map (λ f. f.name) (functions_of q) ++ map (λ r. r.0) routines → map (λ g. g.name) v.globals ≡ map (λ g. g.name) (globals_of q) → ArePlaced v
all_placed q functions v apart named own globals =
    let table = sites_in v in
    let names : names_in table ≡ (map (λ f. f.name) (functions_of q) ++ map (λ r. r.0) routines) ++ map (λ g. g.name) (globals_of q) =
    map-append (λ (e : List ℕ × ℕ). e.0) (function_sites v.functions) (global_sites v.globals)
    ∙ (ap (λ (ns : List (List ℕ)). ns ++ names_in (global_sites v.globals)) (function_names v.functions ∙ own)
    ∙ ap (λ (ns : List (List ℕ)). (map (λ f. f.name) (functions_of q) ++ map (λ r. r.0) routines) ++ ns) (global_names v.globals ∙ globals)) in
    let found = subst (λ (t : List (List ℕ × ℕ)). AllByRecursion (IsEntry t) table) (append-nil table) (entries_found table [] (subst AreDistinct (sym names) (all_distinct q functions apart named))) in
    record {
      functions = functions_placed v v.functions (first_entries (IsEntry table) (function_sites v.functions) (global_sites v.globals) found);
      globals = globals_placed v v.globals (last_entries (IsEntry table) (function_sites v.functions) (global_sites v.globals) found);
    }

pub known_there : (q : Program) (before : List FlowGlobal) (g : FlowGlobal) (after : List FlowGlobal) → globals_of q ≡ before ++ g ∷ after → Contains (globals_of q) g
known_there q before g after is = subst (λ (gs : List FlowGlobal). Contains gs g) (sym is) (Contains-append_right before (g ∷ after) g (0, omega arith, refl))

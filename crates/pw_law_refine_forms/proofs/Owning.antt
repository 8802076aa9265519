-- A load or store of a global that an expression names is of the global's own kind.
use Rattle.std.proofs.Common.{◌≡◌, ◌≢◌, ℕ, zero, suc, inl, inr, Bool, true, false, true≢false, cond, decimal, nat_lt, Option, Some, None, List, [], ◌∷◌, ◌++◌, length, map, slice_get, get_or, Contains, refl, ap, sym, ◌∙◌, subst, arith}
use Rattle.std.specs.Prelude.{bytes_eq}
use Rattle.std.specs.List.{flat_map, position_or_len, AllByRecursion}
use Rattle.std.proofs.lemmas.List.Elements.{Contains-append_left, Contains-append_right, Contains-append_cases, Contains-get_or, All-contains, All-from_recursion}
use Rattle.std.proofs.lemmas.List.Folds.{find_at}
use Rattle.std.proofs.lemmas.List.Quantifiers.{position-Some}
use Rattle.std.proofs.lemmas.Option.{same_Some, slice_get-get_or}
use Rattle.std.proofs.lemmas.Slice.Eq.{bytes_eq-Decides}
use denote.Enum.Bare.{sameb}
use Rattle.pw_value.specs.contracts.value.Kind.{the_type as the_kinds}
use Rattle.pw_value.specs.declared.value.Kind.{Kind}
use Rattle.pw_value.specs.declared.value.Kind.TheVariants.{S8, U8, S16, U16, W32}
use Rattle.pw_types.specs.TypeTrees.{QType, type_of, is_volatile}
use Rattle.pw_types.specs.TypedModules.{WellTyped, IsGlobal, IsDeclaredIfExternal}
use Rattle.pw_types.specs.Shapes.{shape_of}
use Rattle.pw_types.specs.FullNames.{full_name}
use Rattle.pw_types.specs.TypedTrees.{Symbol, External, Internal, Hidden, GlobalValue, DeclaredValue}
use Rattle.pw_types.specs.WellTyped.{IsObject, IsDeclared, IsDefined}
use Rattle.pw_lower.specs.Operators.{kind_of}
use Rattle.pw_lower.specs.Modules.{lowered, lowered_global, lowered_declared}
use Rattle.pw_law_lower.specs.Within.{IsLetter, AreLetters}
use Rattle.pw_flow.specs.declared.flow.FlowGlobal.{FlowGlobal}
use Rattle.pw_flow.specs.declared.flow.FlowModule.{FlowModule}
use Rattle.pw_flow.specs.ValidFlow.{AreDistinct}
use Rattle.pw_cmean.specs.Worlds.{ProgramModule}
use Rattle.pw_run_languages.specs.Programs as flow
use Rattle.pw_run_languages.specs.Programs.{globals_of, names_of}
use Rattle.pw_law_refine.specs.Activations.{Activation, IsActivation, graphs}
use Rattle.pw_law_refine_forms.specs.Accesses.{SuitsType}
use Rattle.pw_law_refine_forms.proofs.Globals.{kinds-agree}
use Rattle.pw_lower.specs.declared.place.Target.TheVariants.{Named}

-- ---- elements

pub in-head : {A : Type 0} (x : A) (xs : List A) → Contains (x ∷ xs) x
in-head x xs = (0, omega arith, refl)

pub in-tail : {A : Type 0} (x y : A) (xs : List A) → Contains xs y → Contains (x ∷ xs) y
in-tail x y xs h = (suc h.0, omega (arith, h.1), h.2)

pub from-cons : {A : Type 0} (P : Type 0) (x y : A) (xs : List A) → (x ≡ y → P) → (Contains xs y → P) → Contains (x ∷ xs) y → P
from-cons P x y xs f g (zero, lt, is) = f is
from-cons P x y xs f g (suc k, lt, is) = g (k, omega (arith, lt), is)

pub in-map : {A B : Type 0} (f : A → B) (xs : List A) (x : A) → Contains xs x → Contains (map f xs) (f x)
in-map f [] x h = absurd (omega (arith, h.1))
in-map f (y ∷ ys) x h =
    from-cons (Contains (f y ∷ map f ys) (f x)) y x ys (λ e. subst (λ z. Contains (f y ∷ map f ys) (f z)) e (in-head (f y) (map f ys))) (λ t. in-tail (f y) (f x) (map f ys) (in-map f ys x t)) h

pub of-map : {A B : Type 0} (f : A → B) (xs : List A) (y : B) → Contains (map f xs) y → (x : A) × Contains xs x × (f x ≡ y)
of-map {A} f [] y h = absurd (omega (arith, h.1))
of-map {A} f (x ∷ xs) y h =
    from-cons ((z : A) × Contains (x ∷ xs) z × (f z ≡ y)) (f x) y (map f xs) (λ e. (x, in-head x xs, e)) (λ t. let r = of-map f xs y t in (r.0, in-tail x r.0 xs r.1, r.2)) h

-- ---- the globals of a program

record FromModule (modules : List ProgramModule) (g : FlowGlobal) : Type 0 where
  home : ProgramModule
  global : GlobalValue
  there : Contains modules home
  defined : Contains home.tree.globals global
  is : lowered_global home.name home.tree.records global ≡ g

from-modules : (modules : List ProgramModule) (g : FlowGlobal) → Contains (flat_map (λ (m : FlowModule). m.globals) (map (λ (m : ProgramModule). lowered m.name m.tree) modules)) g → FromModule modules g
unfolding lowered
from-modules [] g h = absurd (omega (arith, h.1))
from-modules (m ∷ rest) g h =
    elim (Contains-append_cases (map (lowered_global m.name m.tree.records) m.tree.globals) (flat_map (λ (m : FlowModule). m.globals) (map (λ (m : ProgramModule). lowered m.name m.tree) rest)) g h) [
      | inl own ↦ let r = of-map (lowered_global m.name m.tree.records) m.tree.globals g own in
          record { home = m; global = r.0; there = in-head m rest; defined = r.1; is = r.2 }
      | inr later ↦ let r = from-modules rest g later in
          record { home = r.home; global = r.global; there = in-tail m r.home rest r.there; defined = r.defined; is = r.is }
    ]

pub to-globals : (modules : List ProgramModule) (m : ProgramModule) (g : GlobalValue) → Contains modules m → Contains m.tree.globals g
    → Contains (flat_map (λ (m : FlowModule). m.globals) (map (λ (m : ProgramModule). lowered m.name m.tree) modules)) (lowered_global m.name m.tree.records g)
unfolding lowered
to-globals [] m g h k = absurd (omega (arith, h.1))
to-globals (n ∷ rest) m g h k =
    let later = flat_map (λ (m : FlowModule). m.globals) (map (λ (m : ProgramModule). lowered m.name m.tree) rest) in
    from-cons (Contains (map (lowered_global n.name n.tree.records) n.tree.globals ++ later) (lowered_global m.name m.tree.records g)) n m rest
    (λ e. subst (λ (z : ProgramModule). Contains (map (lowered_global z.name z.tree.records) z.tree.globals ++ later) (lowered_global m.name m.tree.records g)) (sym e)
    (Contains-append_left (map (lowered_global m.name m.tree.records) m.tree.globals) later (lowered_global m.name m.tree.records g) (in-map (lowered_global m.name m.tree.records) m.tree.globals g k)))
    (λ t. Contains-append_right (map (lowered_global n.name n.tree.records) n.tree.globals) later (lowered_global m.name m.tree.records g) (to-globals rest m g t k)) h

-- ---- one global of a name

pub distinct-right : (xs ys : List (List ℕ)) → AreDistinct (xs ++ ys) → AreDistinct ys
distinct-right [] ys h = h
distinct-right (x ∷ xs) ys h = distinct-right xs ys h.1

pub one-global : (gs : List FlowGlobal) (a b : FlowGlobal) → AreDistinct (map (λ (g : FlowGlobal). g.name) gs) → Contains gs a → Contains gs b → a.name ≡ b.name → a ≡ b
one-global [] a b h ha hb e = absurd (omega (arith, ha.1))
one-global (g ∷ gs) a b h ha hb e =
    let names = map (λ (g : FlowGlobal). g.name) gs in
    let apart : (c : FlowGlobal) → Contains gs c → c.name ≢ g.name = λ c hc. All-contains (λ other. other ≢ g.name) names c.name (All-from_recursion (λ other. other ≢ g.name) names h.0) (in-map (λ (g : FlowGlobal). g.name) gs c hc) in
    from-cons (a ≡ b) g a gs
    (λ ea. from-cons (a ≡ b) g b gs (λ eb. sym ea ∙ eb) (λ tb. absurd (apart b tb (sym e ∙ ap (λ (z : FlowGlobal). z.name) (sym ea)))) hb)
    (λ ta. from-cons (a ≡ b) g b gs (λ eb. absurd (apart a ta (e ∙ ap (λ (z : FlowGlobal). z.name) (sym eb)))) (λ tb. one-global gs a b h.1 ta tb e) hb) ha

-- ---- names that hold a colon

no-colon : (home rest : List ℕ) → AllByRecursion IsLetter (home ++ 58 ∷ rest) → ⊥
no-colon [] rest h = elim h.0 [
  | inl a ↦ omega (arith, a.1)
  | inr b ↦ elim b [
    | inl a ↦ omega (arith, a.0)
    | inr c ↦ elim c [
      | inl a ↦ omega (arith, a)
      | inr d ↦ omega (arith, d.0)
    ]
  ]
]
no-colon (b ∷ home) rest h = no-colon home rest h.1

-- a name of letters is that of a symbol that all modules share
pub shared : (home name : List ℕ) (symbol : Symbol) → AreLetters name → full_name home symbol ≡ name → symbol ≡ External name
shared home name (External x) letters e = ap External e
shared home name (Internal x) letters e = absurd (no-colon home x (subst AreLetters (sym e) letters))
shared home name (Hidden k) letters e = absurd (no-colon home (46 ∷ decimal k) (subst AreLetters (sym e) letters))

-- ---- the kind of a global

pub typed-at : (x : Activation) (m : ProgramModule) → IsActivation x → Contains x.world.program.modules m → WellTyped m.tree
typed-at x m active there = All-contains (λ (n : ProgramModule). WellTyped n.tree) x.world.program.modules m active.world.program.accepted.typed.modules there

-- a name that a module declares, and its shape, in the flow program
pub declares : (x : Activation) (m : ProgramModule) (d : DeclaredValue) → Contains m.tree.declared d
    → Contains (lowered m.name m.tree).declared (d.name, shape_of m.tree.records (type_of d.ty) (is_volatile d.ty))
unfolding lowered
declares x m d there = in-map (lowered_declared m.tree.records) m.tree.declared d there

-- what two modules declare of one name has one kind
pub declared-kinds : (x : Activation) (m n : ProgramModule) (name : List ℕ) (a b : QType) → IsActivation x → Contains x.world.program.modules m → Contains x.world.program.modules n
    → IsDeclared m.tree name a → IsDeclared n.tree name b → kind_of (type_of a) ≡ kind_of (type_of b)
declared-kinds x m n name a b active hm hn da db =
    let flows = λ (z : ProgramModule). lowered z.name z.tree in
    let lm = (typed-at x m active hm).laid in
    let ln = (typed-at x n active hn).laid in
    let d = da.entry in
    let e = db.entry in
    let alike = active.world.program.accepted.alike.declared (lowered m.name m.tree) (lowered n.name n.tree) name
    (shape_of m.tree.records (type_of d.ty) (is_volatile d.ty)) (shape_of n.tree.records (type_of e.ty) (is_volatile e.ty))
    (in-map flows x.world.program.modules m hm) (in-map flows x.world.program.modules n hn)
    (subst (λ (z : List ℕ). Contains (lowered m.name m.tree).declared (z, shape_of m.tree.records (type_of d.ty) (is_volatile d.ty))) da.name_is (declares x m d da.there))
    (subst (λ (z : List ℕ). Contains (lowered n.name n.tree).declared (z, shape_of n.tree.records (type_of e.ty) (is_volatile e.ty))) db.name_is (declares x n e db.there)) in
    sym (kinds-agree m.tree.records m.tree.records (type_of d.ty) (type_of a) (is_volatile d.ty) (is_volatile a) lm lm da.agrees)
    ∙ kinds-agree m.tree.records n.tree.records (type_of d.ty) (type_of e.ty) (is_volatile d.ty) (is_volatile e.ty) lm ln alike
    ∙ kinds-agree n.tree.records n.tree.records (type_of e.ty) (type_of b) (is_volatile e.ty) (is_volatile b) ln ln db.agrees

pub letters-of : (x : Activation) (name : List ℕ) (a : QType) → IsActivation x → IsDeclared x.home.tree name a → AreLetters name
letters-of x name a active da =
    subst AreLetters da.name_is (All-contains (λ (d : DeclaredValue). AreLetters d.name) x.home.tree.declared da.entry (active.world.program.within x.home active.home).declared da.there)

-- a global that a module defines itself
own-defined : (x : Activation) (symbol : Symbol) (y : QType) (g : FlowGlobal) → IsActivation x → IsDefined x.home.tree symbol y → Contains (globals_of (graphs x.world)) g
    → g.name ≡ full_name x.home.name symbol → g.kind ≡ kind_of (type_of y)
own-defined x symbol y g active d there name =
    let laid = (typed-at x x.home active active.home).laid in
    let own = lowered_global x.home.name x.home.tree.records d.object in
    let names = map (λ (g : FlowGlobal). g.name) (globals_of (graphs x.world)) in
    let same : g ≡ own = one-global (globals_of (graphs x.world)) g own (distinct-right (names_of (graphs x.world)) names active.world.program.accepted.program.names) there
    (to-globals x.world.program.modules x.home d.object active.home d.there) (name ∙ ap (λ (s : Symbol). full_name x.home.name s) (sym d.name_is)) in
    ap (λ (z : FlowGlobal). z.kind) same
    ∙ kinds-agree x.home.tree.records x.home.tree.records (type_of d.object.ty) (type_of y) (is_volatile d.object.ty) (is_volatile y) laid laid d.agrees

pub global-kind : (x : Activation) (symbol : Symbol) (y : QType) (g : FlowGlobal) → IsActivation x → IsObject x.home.tree symbol y → Contains (globals_of (graphs x.world)) g
    → g.name ≡ full_name x.home.name symbol → g.kind ≡ kind_of (type_of y)
global-kind x (Internal n) y g active d there name = own-defined x (Internal n) y g active d there name
global-kind x (Hidden n) y g active d there name = own-defined x (Hidden n) y g active d there name
global-kind x (External n) y g active d there name =
    let r = from-modules x.world.program.modules g there in
    let full : full_name r.home.name r.global.name ≡ n = ap (λ (z : FlowGlobal). z.name) r.is ∙ name in
    let external : r.global.name ≡ External n = shared r.home.name n r.global.name (letters-of x n y active d) full in
    let typed = All-contains (IsGlobal r.home.tree) r.home.tree.globals r.global (typed-at x r.home active r.there).globals r.defined in
    let own : IsDeclared r.home.tree n r.global.ty = subst (λ (s : Symbol). IsDeclaredIfExternal r.home.tree s r.global.ty) external typed.declared in
    sym (ap (λ (z : FlowGlobal). z.kind) r.is) ∙ sym (declared-kinds x x.home r.home n y r.global.ty active active.home r.there d own)

-- ---- the law

found-at : (b : Bool) (n o : ℕ) → cond b (Some n) None ≡ Some o → n ≡ o
found-at true n o e = same_Some n o e
found-at false n o e = absurd (no-number o e)
  where
    is_there : Option ℕ → Bool
    is_there None = false
    is_there (Some k) = true

    no-number : (k : ℕ) → None ≡ Some k → ⊥
    no-number k e = true≢false (sym (ap is_there e))

abbrev pub no-global : FlowGlobal
no-global = record { name = []; size = 0; shape = []; kind = None; volatile = false; items = [] }

abbrev own-kind : Kind → Option Kind → Bool
own-kind k (Some own) = sameb the_kinds own k
own-kind k None = false

abbrev kind-of-global : Kind → Option FlowGlobal → Bool
kind-of-global k (Some g) = own-kind k g.kind
kind-of-global k None = false

same-kind : (k : Kind) → sameb the_kinds k k ≡ true
same-kind S8 = refl
same-kind U8 = refl
same-kind S16 = refl
same-kind U16 = refl
same-kind W32 = refl

pub global-suits : (x : Activation) (symbol : Symbol) (y : QType) → IsActivation x → IsObject x.home.tree symbol y → SuitsType x (type_of y) (Named (full_name x.home.name symbol))
global-suits x symbol y active typed = λ k o e number.
    let gs = globals_of (graphs x.world) in
    let name = full_name x.home.name symbol in
    let test : FlowGlobal → Bool = λ g. bytes_eq g.name name in
    let at = position-Some test gs o no-global number in
    let g = get_or gs o no-global in
    let found : flow.global_named (graphs x.world) name ≡ Some g =
    find_at test gs ∙ ap (λ (n : ℕ). slice_get gs n) (found-at (nat_lt (position_or_len test gs) (length gs)) (position_or_len test gs) o number) ∙ slice_get-get_or gs o no-global at.0 in
    ap (λ (r : Option FlowGlobal). kind-of-global k r) found
    ∙ ap (λ (r : Option Kind). own-kind k r) (global-kind x symbol y g active typed (Contains-get_or gs o no-global at.0) ((bytes_eq-Decides g.name name).0 at.1) ∙ e)
    ∙ same-kind k

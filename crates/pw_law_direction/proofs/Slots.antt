-- The start of a function: its slots are new objects in both runs, and its temporaries are its arguments.
use Rattle.std.proofs.Common.{◌≡◌, ◌<◌, ◌≤◌, ◌+◌, ◌-◌, ℕ, zero, suc, true, List, [], ◌∷◌, ◌++◌, length, replicate, refl, ap, sym, ◌∙◌, subst, arith}
use Rattle.std.specs.Prelude.{slice_set, slice_index_or, Contains}
use Rattle.std.specs.List.{AllByRecursion}
use Rattle.pw_value.specs.declared.value.Kind.{Kind}
use Rattle.pw_value.specs.declared.value.Value.{Value}
use Rattle.pw_value.specs.declared.value.Value.TheVariants.{Undefined}
use Rattle.pw_value.specs.declared.value.Byte.TheVariants as B
use Rattle.pw_value.specs.Objects.{Object, no_object, object_at, byte_at}
use Rattle.pw_db.specs.declared.database.Directives.{Directives}
use Rattle.pw_flow.specs.declared.flow.FlowFn.{FlowFn}
use Rattle.pw_flow.specs.declared.flow.FlowModule.{FlowModule}
use Rattle.pw_flow.specs.ValidFlow.{IsValid, IsFunction}
use Rattle.pw_run_languages.specs.Programs.{Program, functions_of}
use Rattle.pw_run_languages.specs.FlowRun.{with_slots, start_temps}
use Rattle.pw_run_languages.specs.LawfulPrograms.{IsProgram, eligible_of}
use Rattle.pw_run_languages.specs.PlacedRun as web
use Rattle.pw_run_languages.specs.PlacedRun.{held}
use Rattle.pw_law_direction.specs.Pairs.{Active, Pair, web_side, web_frames}
use Rattle.pw_law_direction.specs.Alike.{IsPlain, FineValue, FineByte, AreTame, AreTameBytes, names_active, GlobalStands, ObjectsAlike}
use Rattle.pw_law_direction.proofs.Elements.{map-back, flat-back}
use Rattle.pw_law_direction.proofs.Globals.{all-hold}
use Rattle.pw_law_direction.proofs.Memory.{is-within}

-- ---- one object more, in both

pushed-alike : (xs ys : List Object) (new : Object) (o : ℕ) → length ys ≡ length xs → object_at ys o ≡ object_at xs o → object_at (ys ++ new ∷ []) o ≡ object_at (xs ++ new ∷ []) o
pushed-alike [] [] new o e same = refl
pushed-alike (x ∷ xs) [] new o e same = absurd (omega (arith, e))
pushed-alike [] (y ∷ ys) new o e same = absurd (omega (arith, e))
pushed-alike (x ∷ xs) (y ∷ ys) new zero e same = same
pushed-alike (x ∷ xs) (y ∷ ys) new (suc o) e same = pushed-alike xs ys new o (omega (arith, e)) same

pushed-old : (xs : List Object) (new : Object) (o : ℕ) → o < length xs → object_at (xs ++ new ∷ []) o ≡ object_at xs o
pushed-old [] new o less = absurd (omega (arith, less))
pushed-old (x ∷ xs) new zero less = refl
pushed-old (x ∷ xs) new (suc o) less = pushed-old xs new o (omega (arith, less))

pushed-holds : (P : Object → Type 0) (xs : List Object) (new : Object) (o : ℕ) → P new → P no_object → P (object_at xs o) → P (object_at (xs ++ new ∷ []) o)
pushed-holds P [] new zero h none old = h
pushed-holds P [] new (suc o) h none old = none
pushed-holds P (x ∷ xs) new zero h none old = old
pushed-holds P (x ∷ xs) new (suc o) h none old = pushed-holds P xs new o h none old

pushed-count : (xs : List Object) (new : Object) → length (xs ++ new ∷ []) ≡ suc (length xs)
pushed-count [] new = refl
pushed-count (x ∷ xs) new = ap (λ (n : ℕ). suc n) (pushed-count xs new)

-- ---- the slots of a function

abbrev slot : ℕ → Object
slot size = record { bytes = replicate size B.Undefined; live = true; writable = true }

slots-alike : (slots : List ℕ) (objects memory : List Object) (o : ℕ) → length memory ≡ length objects → object_at memory o ≡ object_at objects o → object_at (with_slots slots memory) o ≡ object_at (with_slots slots objects) o
slots-alike [] objects memory o e same = same
slots-alike (size ∷ rest) objects memory o e same =
    slots-alike rest (objects ++ slot size ∷ []) (memory ++ slot size ∷ []) o (pushed-count memory (slot size) ∙ ap (λ (n : ℕ). suc n) e ∙ sym (pushed-count objects (slot size)))
    (pushed-alike objects memory (slot size) o e same)

slots-count : (slots : List ℕ) (objects memory : List Object) → length memory ≡ length objects → length (with_slots slots memory) ≡ length (with_slots slots objects)
slots-count [] objects memory e = e
slots-count (size ∷ rest) objects memory e =
    slots-count rest (objects ++ slot size ∷ []) (memory ++ slot size ∷ []) (pushed-count memory (slot size) ∙ ap (λ (n : ℕ). suc n) e ∙ sym (pushed-count objects (slot size)))

pub slots-old : (slots : List ℕ) (objects : List Object) (o : ℕ) → o < length objects → object_at (with_slots slots objects) o ≡ object_at objects o
slots-old [] objects o less = refl
slots-old (size ∷ rest) objects o less =
    let count : length (objects ++ slot size ∷ []) ≡ suc (length objects) = pushed-count objects (slot size) in
    slots-old rest (objects ++ slot size ∷ []) o (omega (arith, less, count)) ∙ pushed-old objects (slot size) o less

nothing-there : (p : Program) (size i : ℕ) → FineByte p (byte_at (replicate size B.Undefined) i)
nothing-there p zero i = tt
nothing-there p (suc size) zero = tt
nothing-there p (suc size) (suc i) = nothing-there p size i

slots-tame : (p : Program) (slots : List ℕ) (objects : List Object) → ((o : ℕ) → AreTameBytes p (object_at objects o).bytes) → (o : ℕ) → AreTameBytes p (object_at (with_slots slots objects) o).bytes
slots-tame p [] objects h o = h o
slots-tame p (size ∷ rest) objects h o =
    slots-tame p rest (objects ++ slot size ∷ []) (λ q. pushed-holds (λ (x : Object). AreTameBytes p x.bytes) objects (slot size) q (λ i. nothing-there p size i) (λ i. tt) (h q)) o

pub with-slots-alike : (p : Program) (d : List (List ℕ × Directives)) (active : List Active) (registers : ℕ → Value) (slots : List ℕ) (objects memory : List Object)
    → ObjectsAlike p d active registers objects memory → ObjectsAlike p d active registers (with_slots slots objects) (with_slots slots memory)
with-slots-alike p d active registers slots objects memory a = record {
  count = slots-count slots objects memory a.count;
  others = λ o plain. slots-alike slots objects memory o a.count (a.others o plain);
  globals = λ g k n there number.
      let st = a.globals g k n there number in
      subst (λ (x : Object). GlobalStands d (names_active active) g k (held g registers (web_frames d active)) x (object_at (with_slots slots memory) n)) (sym (slots-old slots objects n (is-within objects n st.lives)))
      (subst (λ (x : Object). GlobalStands d (names_active active) g k (held g registers (web_frames d active)) (object_at objects n) x) (sym (slots-old slots memory n (is-within memory n st.lives_too))) st);
  tame = slots-tame p slots objects a.tame;
}

-- ---- its temporaries

abbrev pub set-from : ℕ → List Value → List Value → List Value
set-from i [] temps = temps
set-from i (v ∷ vs) temps = set-from (suc i) vs (slice_set temps i v)

set-later : (i : ℕ) (vs : List Value) (x : Value) (xs : List Value) → set-from (suc i) vs (x ∷ xs) ≡ x ∷ set-from i vs xs
set-later i [] x xs = refl
set-later i (v ∷ vs) x xs = set-later (suc i) vs x (slice_set xs i v)

set-all : (args : List Value) (n : ℕ) → length args ≤ n → set-from 0 args (replicate n Undefined) ≡ args ++ replicate (n - length args) Undefined
set-all [] n few = let e : n - 0 ≡ n = omega arith in ap (λ (k : ℕ). replicate k Undefined) (sym e)
set-all (v ∷ vs) zero few = absurd (omega (arith, few))
set-all (v ∷ vs) (suc n) few =
    let e : n - length vs ≡ suc n - suc (length vs) = omega arith in
    set-later 0 vs v (replicate n Undefined) ∙ ap (λ (l : List Value). v ∷ l) (set-all vs n (omega (arith, few))) ∙ ap (λ (k : ℕ). v ∷ (vs ++ replicate k Undefined)) e

abbrev pub with-temps : List Value → Pair → Pair
with-temps temps x = record x { frame = record x.frame { temps = temps } }

pub parameters-set : (d : List (List ℕ × Directives)) (x : Pair) (i : ℕ) (args temps : List Value) → web.with_parameters i args (web_side d (with-temps temps x)) ≡ web_side d (with-temps (set-from i args temps) x)
parameters-set d x i [] temps = refl
parameters-set d x i (v ∷ vs) temps = parameters-set d x (suc i) vs (slice_set temps i v)

function-of : (p : Program) (fn : FlowFn) → IsProgram p → Contains (functions_of p) fn → IsFunction fn
function-of p fn lawful there =
    let m = flat-back (λ (m : FlowModule). m.functions) p.modules fn there in
    all-hold IsFunction m.is.functions fn (all-hold IsValid p.modules m.is lawful.modules m.there).parts.functions m.holds

pub temps-start : (p : Program) (fn : FlowFn) (args : List Value) → IsProgram p → Contains (functions_of p) fn → length args ≡ fn.params → set-from 0 args (replicate fn.temps Undefined) ≡ start_temps fn args
temps-start p fn args lawful there count =
    let few : fn.params ≤ fn.temps = (function-of p fn lawful there).few.params in
    set-all args fn.temps (omega (arith, few, count))

start-tame-by : (p : Program) (args : List Value) (n t : ℕ) → AllByRecursion (FineValue p) args → FineValue p (slice_index_or (args ++ replicate n Undefined) t Undefined)
start-tame-by p [] zero t fine = tt
start-tame-by p [] (suc n) zero fine = tt
start-tame-by p [] (suc n) (suc t) fine = start-tame-by p [] n t fine
start-tame-by p (v ∷ vs) n zero fine = fine.0
start-tame-by p (v ∷ vs) n (suc t) fine = start-tame-by p vs n t fine.1

pub start-tame : (p : Program) (fn : FlowFn) (args : List Value) → AllByRecursion (FineValue p) args → AreTame p (start_temps fn args)
start-tame p fn args fine t = start-tame-by p args (fn.temps - length args) t fine

-- behind all objects stands no eligible global
pub behind-all : (p : Program) (d : List (List ℕ × Directives)) (active : List Active) (registers : ℕ → Value) (objects memory : List Object) → ObjectsAlike p d active registers objects memory → (s : ℕ) → IsPlain p (length objects + s)
behind-all p d active registers objects memory a s g c e =
    let r = map-back (λ (e : List ℕ × Kind). e.0) (eligible_of p) g c in
    let there : Contains (eligible_of p) (g, r.is.1) = subst (λ (m : List ℕ). Contains (eligible_of p) (m, r.is.1)) r.holds r.there in
    let less = is-within objects (length objects + s) (a.globals g r.is.1 (length objects + s) there e).lives in
    omega (arith, less)

-- Functions of a program, the arguments that fit them, and calls at each bound.
use Rattle.std.proofs.Common.{ℕ, zero, suc, ◌≡◌, ◌%◌, ◌<◌, inl, inr, refl, sym, ap, subst, ◌∙◌, arith, Decides, Bool, true, false, not, List, [], ◌∷◌, length, get_or, Option, Some, map}
use Rattle.std.specs.Prelude.{All, Contains, find, ◌==◌, if◌then◌else◌}
use Rattle.std.specs.List.{flat_map}
use Rattle.std.specs.Option.{option_map_or}
use Rattle.std.specs.Str.{bytes_eq}
use Rattle.std.proofs.lemmas.Bool.{true≢false}
use Rattle.std.proofs.lemmas.List.Elements.{All-head, All-tail, All-nil, All-append, All-map}
use Rattle.std.proofs.lemmas.List.Concat.{flat_map-cons}
use Rattle.std.proofs.lemmas.Slice.Eq.{bytes_eq-Decides}
use Rattle.pw_value.specs.declared.value.Value.{Value}
use Rattle.pw_value.specs.declared.value.Value.TheVariants as V
use Rattle.pw_value.specs.declared.value.Pointer.TheVariants as Ptr
use Rattle.pw_value.specs.Shapes.{Agree}
use Rattle.pw_types.specs.TypeTrees.{Int, Function as FunctionType, QType, QTypes, NoType, OneType, type_of, RecordValue}
use Rattle.pw_types.specs.Shapes.{letter_of, letters_of, shape_of}
use Rattle.pw_types.specs.declared.kind.IntKind.TheVariants as K
use Rattle.pw_types.specs.TypedTrees.{FunctionValue}
use Rattle.pw_cmean.specs.Worlds.{Program, ProgramModule, World, Callable, Body, Defined, Library, LibraryFunction, GetChar, PutChar, ExitRun, library_callable, library, callable, functions_of, function_named, function_number}
use Rattle.pw_cmean.specs.Acts.{StackFull, Bound}
use Rattle.pw_cmean.specs.Evaluation.{Calls as CallList, bounded_call, take_room, library_call, call_body, call, callee_of}
use Rattle.pw_cmean.specs.SourceRun.{calls}
use Rattle.pw_cmean.specs.Typed.{IsValueOf}
use Rattle.pw_cmean.proofs.SoundActs.{Any, look-s}
use Rattle.pw_cmean.proofs.SoundTrees.{take_room-s, letter-result}
use Rattle.pw_law_never.proofs.NotWrong.{Right, Good, bind-r, give-r, map-r, stop-r, branch-r, look-r, get_char-r, put_char-r}
use Rattle.pw_law_never.proofs.Operators.{num-of}

-- ---- functions of a program

abbrev pub IsOwnBody : Program → List ℕ → Body → Type 0
IsOwnBody p shape (Defined m f) = Contains p.modules m × Contains m.tree.functions f × (shape ≡ shape_of m.tree.records (type_of f.ty) false)
IsOwnBody p shape (Library g) = shape ≡ (library_callable g).shape

-- one of the program's modules, or of the library
abbrev pub IsOwn : Program → Callable → Type 0
IsOwn p f = IsOwnBody p f.shape f.body

library-own : (p : Program) → All (IsOwn p) library
library-own p zero d below = refl
library-own p (suc zero) d below = refl
library-own p (suc (suc zero)) d below = refl
library-own p (suc (suc (suc k))) d below = absurd (omega arith)

same-at : {X : Type 0} (xs : List X) (k : ℕ) (x y : X) → k < length xs → get_or xs k x ≡ get_or xs k y
same-at [] k x y h = absurd (omega arith)
same-at (z ∷ zs) zero x y h = refl
same-at (z ∷ zs) (suc k) x y h = same-at zs k x y (omega arith)

pub all-with : {X : Type 0} (Q : X → Type 0) (xs : List X) → ((x : X) → Contains xs x → Q x) → All Q xs
all-with Q xs h k d below = h (get_or xs k d) (k, below, same-at xs k (get_or xs k d) d below)

pub contained : {X : Type 0} (Q : X → Type 0) (xs : List X) (x : X) → All Q xs → Contains xs x → Q x
contained Q xs x h c = subst Q c.2 (h c.0 x c.1)

pub all-flat : {X Y : Type 0} (Q : Y → Type 0) (g : X → List Y) (xs : List X) → All (λ x. All Q (g x)) xs → All Q (flat_map g xs)
all-flat Q g [] h = All-nil Q
all-flat Q g (x ∷ xs) h =
    subst (All Q) (sym (flat_map-cons g x xs))
    (All-append Q (g x) (flat_map g xs) (All-head (λ y. All Q (g y)) x xs h) (all-flat Q g xs (All-tail (λ y. All Q (g y)) x xs h)))

functions-own : (p : Program) (m : ProgramModule) → Contains p.modules m → All (IsOwn p) (map (callable m) m.tree.functions)
functions-own p m inside = All-map (IsOwn p) (callable m) m.tree.functions (all-with (λ f. IsOwn p (callable m f)) m.tree.functions (λ f there. (inside, there, refl)))

program-own : (p : Program) → All (IsOwn p) (functions_of p)
program-own p =
    All-append (IsOwn p) library (flat_map (λ m. map (callable m) m.tree.functions) p.modules) (library-own p)
    (all-flat (IsOwn p) (λ m. map (callable m) m.tree.functions) p.modules
    (all-with (λ m. All (IsOwn p) (map (callable m) m.tree.functions)) p.modules (functions-own p)))

first-found : {X : Type 0} (P : X → Type 0) (b : Bool) (x y : X) (rest : Option X) → P y → (rest ≡ Some x → P x) → (if b then Some y else rest) ≡ Some x → P x
first-found P true x y rest h k e = let same : y ≡ x = cc in subst P same h
first-found P false x y rest h k e = k e

pub all-find : {X : Type 0} (P : X → Type 0) (test : X → Bool) (xs : List X) (x : X) → All P xs → find test xs ≡ Some x → P x
all-find P test [] x h e = cc
all-find P test (y ∷ ys) x h e = first-found P (test y) x y (find test ys) (All-head P y ys h) (all-find P test ys x (All-tail P y ys h)) e

pub named-own : (p : Program) (name : List ℕ) (f : Callable) → function_named p name ≡ Some f → IsOwn p f
named-own p name f e = all-find (IsOwn p) (λ g. bytes_eq g.name name) (functions_of p) f (program-own p) e

pub numbered-own : (p : Program) (v : Value) (f : Callable) → callee_of p v ≡ Some f → IsOwn p f
numbered-own p (V.At (Ptr.Function n)) f e = all-find (IsOwn p) (λ g. function_number p g.name == n) (functions_of p) f (program-own p) e
numbered-own p (V.At (Ptr.Object n i)) f e = cc
numbered-own p V.Undefined f e = cc
numbered-own p (V.Num n) f e = cc
numbered-own p V.Null f e = cc
numbered-own p (V.Piece q i) f e = cc

-- ---- arguments

-- values of the parameters' types
abbrev pub AreValues : QTypes → List Value → Type 0
AreValues NoType [] = Unit {0}
AreValues (OneType q rest) (v ∷ vs) = IsValueOf (type_of q) v × AreValues rest vs
AreValues _ _ = ⊥

-- arguments of a call through a type with the function's shape
abbrev pub Fits : List ℕ → List Value → Type 0
Fits shape vs = (letter : ℕ) × (params : QTypes) × (shape ≡ 102 ∷ letter ∷ letters_of params) × AreValues params vs

not-bracket : (xs ys : List ℕ) → 102 ∷ xs ≡ 91 ∷ ys → ⊥
not-bracket xs ys e = different (ap (λ (x : List ℕ). get_or x 0 0) e)
  where
    different : ◌≡◌ {A = ℕ} 102 91 → ⊥
    different d = omega arith

-- shapes of functions that agree are one
pub agreed : (rs : List RecordValue) (result : QType) (params : QTypes) (shape : List ℕ) → Agree (shape_of rs (FunctionType result params) false) shape
    → shape ≡ 102 ∷ letter_of (type_of result) ∷ letters_of params
agreed rs result params shape (inl e) = sym e
agreed rs result params shape (inr (inl g)) = absurd (not-bracket _ _ g.2.0)
agreed rs result params shape (inr (inr g)) = absurd (not-bracket _ _ g.2.1)

-- the shape of a function that is called through a value is that of the call
pub shape-same : (p : Program) (v : Value) (f : Callable) (shape : List ℕ) → callee_of p v ≡ Some f
    → option_map_or (λ f. not (bytes_eq f.shape shape)) (callee_of p v) false ≡ false → f.shape ≡ shape
shape-same p v f shape e h = decided (bytes_eq f.shape shape) (bytes_eq-Decides f.shape shape) (rw e at h)
  where
    decided : (b : Bool) → Decides b (f.shape ≡ shape) → not b ≡ false → f.shape ≡ shape
    decided true d k = d.0 refl
    decided false d k = absurd (true≢false k)

-- ---- the library

tail-of : (a b : ℕ) (xs ys : List ℕ) → a ∷ xs ≡ b ∷ ys → xs ≡ ys
tail-of a b xs ys e = cc

head-of : (a b : ℕ) (xs ys : List ℕ) → a ∷ xs ≡ b ∷ ys → a ≡ b
head-of a b xs ys e = cc

-- no argument
no-argument : (params : QTypes) (vs : List Value) → [] ≡ letters_of params → AreValues params vs → vs ≡ []
no-argument NoType [] e h = refl
no-argument NoType (v ∷ vs) e h = absurd h
no-argument (OneType q rest) vs e h = cc

-- one, an int
abbrev IsOneInt : List Value → Type 0
IsOneInt vs = (n : ℕ) × (vs ≡ V.Num n ∷ [])

int-number : (v : Value) (vs : List Value) → IsValueOf (Int K.Int) v → vs ≡ [] → IsOneInt (v ∷ vs)
int-number (V.Num n) vs h e = (n, ap (λ rest. V.Num n ∷ rest) e)
int-number (V.Piece p i) vs h e = absurd (num-of K.Int (V.Piece p i) refl h)
int-number V.Undefined vs h e = absurd h
int-number V.Null vs h e = absurd h
int-number (V.At p) vs h e = absurd h

one-argument : (params : QTypes) (vs : List Value) → 105 ∷ [] ≡ letters_of params → AreValues params vs → IsOneInt vs
one-argument (OneType q rest) (v ∷ vs) e h =
    int-number v vs (letter-result 105 (Int K.Int) (Some v) refl (type_of q, sym (head-of 105 (letter_of (type_of q)) [] (letters_of rest) e), h.0))
    (no-argument rest vs (tail-of 105 (letter_of (type_of q)) [] (letters_of rest) e) h.1)
one-argument (OneType q rest) [] e h = absurd h
one-argument NoType vs e h = cc

fits-letters : (shape : List ℕ) (a b : ℕ) (letters : List ℕ) (vs : List Value) (h : Fits shape vs) → shape ≡ a ∷ b ∷ letters → letters ≡ letters_of h.1
fits-letters shape a b letters vs h e =
    tail-of b h.0 letters (letters_of h.1) (tail-of a 102 (b ∷ letters) (h.0 ∷ letters_of h.1) (sym e ∙ h.2))

library_call-r : (g : LibraryFunction) (vs : List Value) → Fits (library_callable g).shape vs → Right (library_call g vs)
unfolding library_call
library_call-r GetChar vs h =
    subst (λ vs. Right (library_call GetChar vs)) (sym (no-argument h.1 vs (fits-letters _ 102 105 [] vs h refl) h.3))
    (map-r (λ byte. Some (V.Num byte)) get_char-r)
library_call-r PutChar vs h =
    let one : IsOneInt vs = one-argument h.1 vs (fits-letters _ 102 105 (105 ∷ []) vs h refl) h.3 in
    subst (λ vs. Right (library_call PutChar vs)) (sym one.1) (map-r (λ u. Some (V.Num (one.0 % 256))) (put_char-r (one.0 % 256)))
library_call-r ExitRun vs h =
    let one : IsOneInt vs = one-argument h.1 vs (fits-letters _ 102 118 (105 ∷ []) vs h refl) h.3 in
    subst (λ vs. Right (library_call ExitRun vs)) (sym one.1) (stop-r _ (λ e. cc))

-- ---- calls

-- what calls do at each lower bound ends nowhere else
abbrev pub AreRight : Program → CallList → Type 0
AreRight p [] = Unit {0}
AreRight p (c ∷ cs) =
    ((f : Callable) (vs : List Value) (m : ProgramModule) (d : FunctionValue) → f.body ≡ Defined m d → IsOwn p f → Fits f.shape vs → Right (c f vs)) × AreRight p cs

pub take_room-g : (w : World) (name : List ℕ) → Good Any (take_room w name)
unfolding take_room
take_room-g w name = record {
  sound = take_room-s w name;
  right = bind-r (record { sound = look-s Any (λ s. s.active) (λ s h. tt); right = look-r (λ s. s.active) }) λ active u.
      branch-r _ (stop-r StackFull (λ e. cc)) (give-r tt);
}

bounded_call-r : (p : Program) (cs : CallList) (f : Callable) (vs : List Value) (m : ProgramModule) (d : FunctionValue) → f.body ≡ Defined m d → IsOwn p f → Fits f.shape vs → AreRight p cs → Right (bounded_call cs f vs)
unfolding bounded_call
bounded_call-r p [] f vs m d e o h r = stop-r Bound (λ e. cc)
bounded_call-r p (c ∷ cs) f vs m d e o h r = r.0 f vs m d e o h

call_body-r : (w : World) (cs : CallList) (b : Body) (f : Callable) (vs : List Value) → f.body ≡ b → IsOwn w.program f → Fits f.shape vs → AreRight w.program cs
    → Right (call_body w cs b f vs)
unfolding call_body
call_body-r w cs (Library g) f vs e o h r =
    let shape : f.shape ≡ (library_callable g).shape = subst (λ b. IsOwnBody w.program f.shape b) e o in
    bind-r (take_room-g w f.name) λ u k. library_call-r g vs (subst (λ s. Fits s vs) shape h)
call_body-r w cs (Defined m d) f vs e o h r = bounded_call-r w.program cs f vs m d e o h r

pub call-r : (w : World) (cs : CallList) (f : Callable) (vs : List Value) → IsOwn w.program f → Fits f.shape vs → AreRight w.program cs → Right (call w cs f vs)
unfolding call
call-r w cs f vs o h r = call_body-r w cs f.body f vs refl o h r

-- a list of what calls do that is that of a bound
pub record Level (w : World) (cs : CallList) : Type 0 where
  pub bound : ℕ
  pub is : cs ≡ calls w bound
  pub right : AreRight w.program cs

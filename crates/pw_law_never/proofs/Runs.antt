-- Statements, met at their front or at a label, functions and calls end nowhere but where the meaning has an end.
use Rattle.std.proofs.Common.{ℕ, zero, suc, ◌+◌, ◌≡◌, ◌≢◌, ◌<◌, ◌≤◌, ◌⊎◌, inl, inr, refl, sym, ap, subst, ◌∙◌, arith, Bool, true, false, List, [], ◌∷◌, ◌++◌, length, Option, Some, None}
use Rattle.std.specs.Prelude.{All, Contains, option_map, option_and_then, slice_get, slice_set, IsSomeAnd, ◌==◌, ◌||◌}
use Rattle.std.proofs.lemmas.Bool.Decides.{nat_tests}
use Rattle.std.proofs.lemmas.List.{length-set}
use Rattle.std.proofs.lemmas.List.Elements.{All-head, All-tail}
use Rattle.pw_value.specs.declared.value.Value.{Value}
use Rattle.pw_value.specs.declared.value.Value.TheVariants as V
use Rattle.pw_value.specs.declared.value.Pointer.TheVariants as Ptr
use Rattle.pw_value.specs.Objects.{object_at}
use Rattle.pw_types.specs.TypeTrees.{CType, Void, Int, Pointer, Array, Function as FunctionType, Record, type_of}
use Rattle.pw_types.specs.Layouts.{layout_of}
use Rattle.pw_types.specs.Records.{IsObjectType}
use Rattle.pw_types.specs.Labels.{labels_in, labels_among, labels_of_arms, labels_behind}
use Rattle.pw_types.specs.TypedTrees.{Hidden, Expression, Initialiser, Value as ByValue, Bytes as ByBytes, Statement, Empty, Evaluate, Block, If, While, Do, For, Switch, Label, Goto, Return, Arms, NoArm, Arm, Otherwise, NoElse, Else, Statements, NoStatement, OneStatement, LocalValue, FunctionValue, GlobalValue}
use Rattle.pw_types.specs.WellTyped as W
use Rattle.pw_types.specs.WellTyped.{type_in, IsTyped}
use Rattle.pw_types.specs.TypedModules as M
use Rattle.pw_types.specs.TypedModules.{IsStatement, AreStatements, AreArms, IsElse, IsFunction}
use Rattle.pw_cmean.specs.Worlds.{ProgramModule, World, full_name, global_number, pointer_to}
use Rattle.pw_cmean.specs.Acts.{Act, Site, Ending, Bound, Wrong, give, stop, branch, ◌>>◌, with_object}
use Rattle.pw_cmean.specs.Access.{Initialising, within}
use Rattle.pw_cmean.specs.Evaluation.{Env, Calls as CallList, Calling, local_place, symbol_place, answer_of}
use Rattle.pw_cmean.specs.Execution.{Entry, Front, At_label, Flow, Normal, Breaks, Continues, Returns, Goes, holds, go_forward, caught, taking_up, after_body, turn, loop, meet_loop, always, value_of, condition, for_condition, drop_value, switch_to, after_switch, with_locals, set_local, initialise, initialise_all, meaning, items, arms, behind_arms}
use Rattle.pw_cmean.specs.SourceRun.{calls}
use Rattle.pw_cmean.specs.Typed.{IsValueOf, IsWellTyped, IsByte}
use Rattle.pw_cmean.proofs.SoundActs.{Any, stop-s, branch-s, look-s, write-s, with_object-s, object-bytes}
use Rattle.pw_cmean.proofs.SoundOperators.{weaker, put-s, within-s}
use Rattle.pw_law_never.specs.Scopes.{with_range}
use Rattle.pw_law_never.specs.Resolved.{IsResolved, IsResolvedIfAny, IsResolvedInitialiser, AreResolvedInitialisers, IsResolvedStatement, AreResolvedStatements, AreResolvedArms, IsResolvedElse}
use Rattle.pw_law_never.proofs.NotWrong.{Right, Good, HasOne, bind-g, give-g, stop-r, branch-r, need-g, look-r, write-r, with_object-r}
use Rattle.pw_law_never.proofs.Operators.{CanPut, put-r, tested, truth-g}
use Rattle.pw_law_never.proofs.Symbols.{object-numbered, object-placed}
use Rattle.pw_law_never.proofs.Calling.{AreRight, Level}
use Rattle.pw_law_never.proofs.Trees.{Types, Stands, local-g, operand-g, answer-t, answer-r}

-- ---- acts

stop-g : {A : Type 0} (P : A → Type 0) (e : Ending) → e ≢ Wrong → Good P (stop e)
stop-g P e h = record { sound = stop-s P e; right = stop-r e h }

branch-g : {A : Type 0} {P : A → Type 0} (b : Bool) {m n : Act A} → Good P m → Good P n → Good P (branch b m n)
branch-g b p q = record { sound = branch-s b p.sound q.sound; right = branch-r b p.right q.right }

-- by what decides
branch-on : {A : Type 0} {P : A → Type 0} (b : Bool) {m n : Act A} → (b ≡ true → Good P m) → (b ≡ false → Good P n) → Good P (branch b m n)
unfolding branch
branch-on true p q = p refl
branch-on false p q = q refl

weaker-g : {A : Type 0} {P Q : A → Type 0} {m : Act A} → Good P m → ((a : A) → P a → Q a) → Good Q m
weaker-g g h = record { sound = weaker g.sound h; right = g.right }

with_object-g : {A : Type 0} {P : A → Type 0} (size : ℕ) (w : Bool) {f : ℕ → Act A} → ((n : ℕ) → Good P (f n)) → Good P (with_object size w f)
with_object-g size w p = record { sound = with_object-s size w λ n. (p n).sound; right = with_object-r size w λ n. (p n).right }

-- ---- what leaves a statement

-- where `break` and `continue` may leave it, and the labels to which a goto may
abbrev pub Leaves : Bool → Bool → (ℕ → Type 0) → Flow → Type 0
Leaves breaks continues to Normal = Unit {0}
Leaves breaks continues to Breaks = breaks ≡ true
Leaves breaks continues to Continues = continues ≡ true
Leaves breaks continues to (Returns result) = Unit {0}
Leaves breaks continues to (Goes l) = to l

leaves-to : (breaks continues : Bool) (to other : ℕ → Type 0) → ((l : ℕ) → to l → other l) → (flow : Flow) → Leaves breaks continues to flow → Leaves breaks continues other flow
leaves-to breaks continues to other h Normal k = k
leaves-to breaks continues to other h Breaks k = k
leaves-to breaks continues to other h Continues k = k
leaves-to breaks continues to other h (Returns r) k = k
leaves-to breaks continues to other h (Goes l) k = h l k

wider : (breaks continues : Bool) (to other : ℕ → Type 0) {m : Act Flow} → ((l : ℕ) → to l → other l) → Good (Leaves breaks continues to) m → Good (Leaves breaks continues other) m
wider breaks continues to other h g = weaker-g g (leaves-to breaks continues to other h)

holds-append : (xs ys : List ℕ) (l : ℕ) → holds xs l ≡ false → holds ys l ≡ false → holds (xs ++ ys) l ≡ false
holds-append [] ys l h k = k
holds-append (x ∷ xs) ys l h k = first (λ e. holds-append xs ys l e k) (x == l) h
  where
    first : (holds xs l ≡ false → holds (xs ++ ys) l ≡ false) → (b : Bool) → (b || holds xs l) ≡ false → (b || holds (xs ++ ys) l) ≡ false
    first rest true e = e
    first rest false e = rest e

pub holds-contained : (xs : List ℕ) (l : ℕ) → Contains xs l → holds xs l ≡ true
holds-contained [] l c = absurd (omega arith)
holds-contained (x ∷ xs) l (zero, below, e) = first (x == l) (same x l e)
  where
    same : (x l : ℕ) → x ≡ l → (x == l) ≡ true
    same x l e = grind (arith, nat_tests)

    first : (b : Bool) → b ≡ true → (b || holds xs l) ≡ true
    first true e = refl
    first false e = cc
holds-contained (x ∷ xs) l (suc k, below, e) = second (x == l) (holds-contained xs l (k, omega arith, e))
  where
    second : (b : Bool) → holds xs l ≡ true → (b || holds xs l) ≡ true
    second true e = refl
    second false e = e

go_forward-g : (breaks continues : Bool) (to other : ℕ → Type 0) (labels : List ℕ) {later : Entry → Act Flow} {next : Act Flow} (flow : Flow) → Leaves breaks continues to flow
    → ((l : ℕ) → to l → other l) → ((at : Entry) → Good (Leaves breaks continues other) (later at)) → Good (Leaves breaks continues other) next
    → Good (Leaves breaks continues other) (go_forward labels later next flow)
unfolding go_forward
go_forward-g breaks continues to other labels Normal f h p q = q
go_forward-g breaks continues to other labels Breaks f h p q = give-g (Leaves breaks continues other) Breaks f
go_forward-g breaks continues to other labels Continues f h p q = give-g (Leaves breaks continues other) Continues f
go_forward-g breaks continues to other labels (Returns r) f h p q = give-g (Leaves breaks continues other) (Returns r) tt
go_forward-g breaks continues to other labels (Goes l) f h p q = branch-g _ (p (At_label l)) (give-g (Leaves breaks continues other) (Goes l) (h l f))

-- to a label that is none of these
abbrev pub Beyond : (ℕ → Type 0) → List ℕ → ℕ → Type 0
Beyond to labels l = to l × (holds labels l ≡ false)

caught-g : (breaks continues : Bool) (to : ℕ → Type 0) (labels : List ℕ) {again : ℕ → Act Flow} (flow : Flow) → Leaves breaks continues to flow
    → ((l : ℕ) → Good (Leaves breaks continues (Beyond to labels)) (again l)) → Good (Leaves breaks continues (Beyond to labels)) (caught labels again flow)
unfolding caught
caught-g breaks continues to labels Normal f p = give-g (Leaves breaks continues (Beyond to labels)) Normal tt
caught-g breaks continues to labels Breaks f p = give-g (Leaves breaks continues (Beyond to labels)) Breaks f
caught-g breaks continues to labels Continues f p = give-g (Leaves breaks continues (Beyond to labels)) Continues f
caught-g breaks continues to labels (Returns r) f p = give-g (Leaves breaks continues (Beyond to labels)) (Returns r) tt
caught-g breaks continues to labels (Goes l) f p =
    branch-on (holds labels l) (λ e. p l) (λ e. give-g (Leaves breaks continues (Beyond to labels)) (Goes l) (f, e))

-- a lower bound
lower-at : (w : World) (c : Calling) (cs : CallList) (n : ℕ) → c ∷ cs ≡ calls w n → AreRight w.program cs → Level w cs
unfolding calls
lower-at w c cs zero e r = cc
lower-at w c cs (suc n) e r = record { bound = n; is = tail-of c _ cs (calls w n) e; right = r }
  where
    tail-of : (c d : Calling) (cs ds : CallList) → c ∷ cs ≡ d ∷ ds → cs ≡ ds
    tail-of c d cs ds e = cc

lower : (w : World) (c : Calling) (cs : CallList) → Level w (c ∷ cs) → Level w cs
lower w c cs l = lower-at w c cs l.bound l.is l.right.1

taking_up-g : (w : World) (breaks continues : Bool) (to : ℕ → Type 0) (labels : List ℕ) (run : Entry → CallList → Act Flow) (at : Entry) (cs : CallList) → Level w cs
    → ((at : Entry) (cs : CallList) → Level w cs → Good (Leaves breaks continues to) (run at cs)) → Good (Leaves breaks continues (Beyond to labels)) (taking_up labels run at cs)
unfolding taking_up
taking_up-g w breaks continues to labels run at [] l r =
    bind-g (r at [] l) λ f i. caught-g breaks continues to labels f i λ n. stop-g (Leaves breaks continues (Beyond to labels)) Bound (λ e. cc)
taking_up-g w breaks continues to labels run at (c ∷ cs) l r =
    bind-g (r at (c ∷ cs) l) λ f i. caught-g breaks continues to labels f i λ n. taking_up-g w breaks continues to labels run (At_label n) cs (lower w c cs l) r

-- ---- loops

after_body-g : (breaks continues : Bool) (to : ℕ → Type 0) {again : Act Flow} (flow : Flow) → Leaves true true to flow → Good (Leaves breaks continues to) again
    → Good (Leaves breaks continues to) (after_body again flow)
unfolding after_body
after_body-g breaks continues to Normal f p = p
after_body-g breaks continues to Continues f p = p
after_body-g breaks continues to Breaks f p = give-g (Leaves breaks continues to) Normal tt
after_body-g breaks continues to (Returns r) f p = give-g (Leaves breaks continues to) (Returns r) tt
after_body-g breaks continues to (Goes l) f p = give-g (Leaves breaks continues to) (Goes l) f

record Parts (w : World) (to : ℕ → Type 0) (ahead : CallList → Act Bool) (body : Entry → CallList → Act Flow) (behind : CallList → Act Bool) : Type 0 where
  test : (cs : CallList) → Level w cs → Good Any (ahead cs)
  middle : (at : Entry) (cs : CallList) → Level w cs → Good (Leaves true true to) (body at cs)
  last : (cs : CallList) → Level w cs → Good Any (behind cs)

module _ (w : World) (breaks continues : Bool) (to : ℕ → Type 0) (ahead : CallList → Act Bool) (body : Entry → CallList → Act Flow) (behind : CallList → Act Bool)
    (parts : Parts w to ahead body behind) where
  turn-g : (at : Entry) (cs : CallList) → Level w cs → {top : Act Flow} → Good (Leaves breaks continues to) top → Good (Leaves breaks continues to) (turn body behind at cs top)
  unfolding turn
  turn-g at cs l q =
      bind-g (parts.middle at cs l) λ f i. after_body-g breaks continues to f i
      (bind-g (parts.last cs l) λ more u. branch-g more q (give-g (Leaves breaks continues to) Normal tt))

  loop-g : (cs : CallList) → Level w cs → Good (Leaves breaks continues to) (loop ahead body behind cs)
  unfolding loop
  loop-g [] l =
      bind-g (parts.test [] l) λ more u.
      branch-g more (turn-g Front [] l (stop-g (Leaves breaks continues to) Bound (λ e. cc))) (give-g (Leaves breaks continues to) Normal tt)
  loop-g (c ∷ cs) l =
      bind-g (parts.test (c ∷ cs) l) λ more u.
      branch-g more (turn-g Front (c ∷ cs) l (loop-g cs (lower w c cs l))) (give-g (Leaves breaks continues to) Normal tt)

  meet_loop-g : (at : Entry) (cs : CallList) → Level w cs → Good (Leaves breaks continues to) (meet_loop ahead body behind at cs)
  unfolding meet_loop
  meet_loop-g Front cs l = loop-g cs l
  meet_loop-g (At_label n) [] l = turn-g (At_label n) [] l (stop-g (Leaves breaks continues to) Bound (λ e. cc))
  meet_loop-g (At_label n) (c ∷ cs) l = turn-g (At_label n) (c ∷ cs) l (loop-g cs (lower w c cs l))

always-g : (cs : CallList) → Good Any (always cs)
unfolding always
always-g cs = give-g Any true tt

after_switch-g : (breaks continues : Bool) (to : ℕ → Type 0) (flow : Flow) → Leaves true continues to flow → Good (Leaves breaks continues to) (after_switch flow)
unfolding after_switch
after_switch-g breaks continues to Breaks f = give-g (Leaves breaks continues to) Normal tt
after_switch-g breaks continues to Normal f = give-g (Leaves breaks continues to) Normal tt
after_switch-g breaks continues to Continues f = give-g (Leaves breaks continues to) Continues f
after_switch-g breaks continues to (Returns r) f = give-g (Leaves breaks continues to) (Returns r) tt
after_switch-g breaks continues to (Goes l) f = give-g (Leaves breaks continues to) (Goes l) f

switch_to-g : (breaks continues : Bool) (to : ℕ → Type 0) (o : Option ℕ) {body : ℕ → Act Flow} → ((l : ℕ) → Good (Leaves true continues to) (body l))
    → Good (Leaves breaks continues to) (switch_to o body)
unfolding switch_to
switch_to-g breaks continues to None p = give-g (Leaves breaks continues to) Normal tt
switch_to-g breaks continues to (Some l) p = bind-g (p l) λ f i. after_switch-g breaks continues to f i

-- ---- objects of locals

-- the numbers of the objects that locals have, where they are in scope
pub record Numbered (locals : List LocalValue) (numbers : List (Option ℕ)) (scope : ℕ → Type 0) : Type 0 where
  pub count : length numbers ≡ length locals
  pub has : (k : ℕ) → scope k → (number : ℕ) × (slice_get numbers k ≡ Some (Some number))

set-there : (xs : List (Option ℕ)) (k n : ℕ) → k < length xs → slice_get (slice_set xs k (Some n)) k ≡ Some (Some n)
set-there [] k n h = absurd (omega arith)
set-there (x ∷ xs) zero n h = refl
set-there (x ∷ xs) (suc k) n h = set-there xs k n (omega arith)

set-keeps : (xs : List (Option ℕ)) (k n j m : ℕ) → slice_get xs j ≡ Some (Some m) → (number : ℕ) × (slice_get (slice_set xs k (Some n)) j ≡ Some (Some number))
set-keeps [] k n j m h = (m, h)
set-keeps (x ∷ xs) zero n zero m h = (n, refl)
set-keeps (x ∷ xs) zero n (suc j) m h = (m, h)
set-keeps (x ∷ xs) (suc k) n zero m h = (m, h)
set-keeps (x ∷ xs) (suc k) n (suc j) m h = set-keeps xs k n j m h

get-one : {X : Type 0} (xs : List X) (k : ℕ) → k < length xs → HasOne (slice_get xs k)
get-one [] k h = absurd (omega arith)
get-one (x ∷ xs) zero h = (x, refl)
get-one (x ∷ xs) (suc k) h = get-one xs k (omega arith)

get-all : {X : Type 0} (P : X → Type 0) (xs : List X) (k : ℕ) (x : X) → All P xs → slice_get xs k ≡ Some x → P x
get-all P [] k x h e = cc
get-all P (y ∷ ys) zero x h e = (let same : y ≡ x = cc in subst P same (All-head P y ys h))
get-all P (y ∷ ys) (suc k) x h e = get-all P ys k x (All-tail P y ys h) e

one-and : {A : Type 0} (P : A → Type 0) (o : Option A) → IsSomeAnd o P → HasOne o
one-and P (Some a) h = (a, refl)
one-and P None h = absurd h

split : (a b : ℕ) → a ≤ b → (b ≡ a) ⊎ (suc a ≤ b)
split zero zero h = inl refl
split zero (suc b) h = inr (omega arith)
split (suc a) zero h = absurd (omega arith)
split (suc a) (suc b) h = next (split a b (omega arith))
  where
    next : (b ≡ a) ⊎ (suc a ≤ b) → (suc b ≡ suc a) ⊎ (suc (suc a) ≤ suc b)
    next (inl e) = inl (ap suc e)
    next (inr e) = inr (omega arith)

-- with one local more
abbrev with_one : ℕ → (ℕ → Type 0) → ℕ → Type 0
with_one first scope k = scope k ⊎ (k ≡ first)

numbered-one : (locals : List LocalValue) (numbers : List (Option ℕ)) (scope : ℕ → Type 0) (first n : ℕ) → first < length locals → Numbered locals numbers scope
    → Numbered locals (slice_set numbers first (Some n)) (with_one first scope)
numbered-one locals numbers scope first n below h = record {
  count = length-set numbers first (Some n) ∙ h.count;
  has = λ k s. has-one k s;
}
  where
    has-one : (k : ℕ) → with_one first scope k → (number : ℕ) × (slice_get (slice_set numbers first (Some n)) k ≡ Some (Some number))
    has-one k (inl s) = set-keeps numbers first n k (h.has k s).0 (h.has k s).1
    has-one k (inr e) = (
      n,
      subst (λ k. slice_get (slice_set numbers first (Some n)) k ≡ Some (Some n)) (sym e)
          (set-there numbers first n (subst (λ x. first < x) (sym h.count) below)),
    )

numbered-range : (locals : List LocalValue) (numbers : List (Option ℕ)) (scope : ℕ → Type 0) (first count : ℕ)
    → Numbered locals numbers (with_range (suc first) count (with_one first scope)) → Numbered locals numbers (with_range first (suc count) scope)
numbered-range locals numbers scope first count h = record { count = h.count; has = λ k s. has-range k s }
  where
    from-first : (k : ℕ) → k < first + suc count → (k ≡ first) ⊎ (suc first ≤ k) → (number : ℕ) × (slice_get numbers k ≡ Some (Some number))
    from-first k below (inl e) = h.has k (inl (inr e))
    from-first k below (inr over) = h.has k (inr (over, omega arith))

    has-range : (k : ℕ) → with_range first (suc count) scope k → (number : ℕ) × (slice_get numbers k ≡ Some (Some number))
    has-range k (inl s) = h.has k (inl (inl s))
    has-range k (inr r) = from-first k r.1 (split first k r.0)

numbered-none : (locals : List LocalValue) (numbers : List (Option ℕ)) (scope : ℕ → Type 0) (first : ℕ) → Numbered locals numbers scope → Numbered locals numbers (with_range first zero scope)
numbered-none locals numbers scope first h = record { count = h.count; has = λ k s. has-none k s }
  where
    outside : (k : ℕ) → first ≤ k → k < first + zero → ⊥
    outside k low high = omega arith

    has-none : (k : ℕ) → with_range first zero scope k → (number : ℕ) × (slice_get numbers k ≡ Some (Some number))
    has-none k (inl s) = h.has k s
    has-none k (inr r) = absurd (outside k r.0 r.1)

-- ---- the bytes of a hidden object

abbrev IsAtObject : Value → Type 0
IsAtObject (V.At (Ptr.Object n i)) = Unit {0}
IsAtObject _ = ⊥

within-r : {A : Type 0} (v : Value) {f : ℕ → ℕ → Act A} → IsAtObject v → ((n i : ℕ) → Right (f n i)) → Right (within v f)
unfolding within
within-r (V.At (Ptr.Object n i)) h p = p n i
within-r (V.At (Ptr.Function n)) h p = absurd h
within-r V.Undefined h p = absurd h
within-r (V.Num n) h p = absurd h
within-r V.Null h p = absurd h
within-r (V.Piece q i) h p = absurd h

within-g : {A : Type 0} {P : A → Type 0} (v : Value) {f : ℕ → ℕ → Act A} → IsAtObject v → ((n i : ℕ) → Good P (f n i)) → Good P (within v f)
within-g v h p = record { sound = within-s v λ n i. (p n i).sound; right = within-r v h (λ n i. (p n i).right) }

hidden-g : (e : Env) (k : ℕ) → (number : ℕ) × (global_number e.world.program (full_name e.home.name (Hidden k)) ≡ Some number) → Good IsAtObject (symbol_place e (Hidden k))
unfolding symbol_place
hidden-g e k h =
    let there : pointer_to e.world.program (full_name e.home.name (Hidden k)) 0 ≡ Some (Ptr.Object h.0 0) = object-placed e.world.program _ h.0 h.1 in
    weaker-g (need-g _ (V.At (Ptr.Object h.0 0), ap (option_map V.At) there)) λ v same. at-object v (sym same ∙ ap (option_map V.At) there)
  where
    at-object : (v : Value) → Some v ≡ option_map V.At (Some (Ptr.Object h.0 0)) → IsAtObject v
    at-object v e = let same : V.At (Ptr.Object h.0 0) ≡ v = cc in subst IsAtObject same tt

local-at-g : (e : Env) (k : ℕ) → (number : ℕ) × (slice_get e.numbers k ≡ Some (Some number)) → Good IsAtObject (local_place e k)
unfolding local_place
local-at-g e k h =
    let there : option_map (λ number. V.At (Ptr.Object number 0)) (option_and_then (λ n. n) (slice_get e.numbers k)) ≡ Some (V.At (Ptr.Object h.0 0)) =
    ap (λ (o : Option (Option ℕ)). option_map (λ number. V.At (Ptr.Object number 0)) (option_and_then (λ n. n) o)) h.1 in
    weaker-g (need-g _ (V.At (Ptr.Object h.0 0), there)) λ v same. at-object v (sym same ∙ there)
  where
    at-object : (v : Value) → Some v ≡ Some (V.At (Ptr.Object h.0 0)) → IsAtObject v
    at-object v e = let same : V.At (Ptr.Object h.0 0) ≡ v = cc in subst IsAtObject same tt

-- to a label of the function that a goto can name, ..
abbrev pub Named : FunctionValue → ℕ → Type 0
Named f l = Contains f.named l

-- .. and that is none of these
abbrev pub Out : FunctionValue → List ℕ → ℕ → Type 0
Out f labels = Beyond (Named f) labels

-- ---- statements of a function

module _ (types : Types) (w : World) (home : ProgramModule) (f : FunctionValue) (well : IsWellTyped w.program) (inside : Contains w.program.modules home) (fn : IsFunction home.tree f) where
  -- where the locals have these objects
  abbrev env : List (Option ℕ) → Env
  env numbers = record { world = w; home = home; locals = f.locals; numbers = numbers }

  stands-at : (numbers : List (Option ℕ)) (scope : ℕ → Type 0) → Numbered f.locals numbers scope → Stands (env numbers) scope
  stands-at numbers scope h = record { well = well; inside = inside; has = h.has }

  pub with_locals-g : {A : Type 0} {P : A → Type 0} (count first : ℕ) (act : Env → Act A) (numbers : List (Option ℕ)) (scope : ℕ → Type 0) → first + count ≤ length f.locals
      → Numbered f.locals numbers scope → ((behind : List (Option ℕ)) → Numbered f.locals behind (with_range first count scope) → Good P (act (env behind)))
      → Good P (with_locals count first act (env numbers))
  unfolding with_locals
  with_locals-g zero first act numbers scope room h p = p numbers (numbered-none f.locals numbers scope first h)
  with_locals-g (suc count) first act numbers scope room h p =
      bind-g (need-g _ (get-one f.locals first (omega arith))) λ l found.
      bind-g (need-g _ (layout-some (type_of l.ty) (get-all (λ l. IsObjectType home.tree.records (type_of l.ty) × W.IsKnownType home.tree.records (type_of l.ty)) f.locals first l fn.locals found).0)) λ layout there.
      with_object-g _ _ λ n. with_locals-g count (suc first) act (slice_set numbers first (Some n)) (with_one first scope) (omega arith)
      (numbered-one f.locals numbers scope first n (omega arith) h) λ behind k. p behind (numbered-range f.locals behind scope first count k)
    where
      layout-some : (ty : CType) → IsObjectType home.tree.records ty → HasOne (layout_of home.tree.records ty)
      layout-some ty h = one-and _ (layout_of home.tree.records ty) h

  expression-g : (a : Expression) (numbers : List (Option ℕ)) (scope : ℕ → Type 0) (cs : CallList) → Numbered f.locals numbers scope → Level w cs
      → IsTyped home.tree f.locals a → IsResolved w.program home.name scope a → Good Any (answer_of a cs (env numbers))
  expression-g a numbers scope cs n l t r = record {
    sound = weaker (answer-t types (env numbers) cs scope (stands-at numbers scope n) l a t) λ o i. tt;
    right = answer-r types (env numbers) cs scope (stands-at numbers scope n) l a t r;
  }

  value-g : (a : Expression) (numbers : List (Option ℕ)) (scope : ℕ → Type 0) (cs : CallList) → Numbered f.locals numbers scope → Level w cs
      → IsTyped home.tree f.locals a → IsResolved w.program home.name scope a → Good (IsValueOf (type_in a)) (value_of a cs (env numbers))
  unfolding value_of
  value-g a numbers scope cs n l t r =
      operand-g _ (type_in a) (answer-t types (env numbers) cs scope (stands-at numbers scope n) l a t) (answer-r types (env numbers) cs scope (stands-at numbers scope n) l a t r)

  condition-g : (a : Expression) (numbers : List (Option ℕ)) (scope : ℕ → Type 0) (cs : CallList) → Numbered f.locals numbers scope → Level w cs
      → IsTyped home.tree f.locals a → IsResolved w.program home.name scope a → Good Any (condition a cs (env numbers))
  unfolding condition
  condition-g a numbers scope cs n l t r = bind-g (value-g a numbers scope cs n l t r) λ v i. truth-g _ v (tested (type_in a) v i)

  for_condition-g : (o : Option Expression) (numbers : List (Option ℕ)) (scope : ℕ → Type 0) (cs : CallList) → Numbered f.locals numbers scope → Level w cs
      → W.IsConditionOrAbsent home.tree f.locals o → IsResolvedIfAny w.program home.name scope o → Good Any (for_condition o cs (env numbers))
  unfolding for_condition
  for_condition-g None numbers scope cs n l t r = give-g Any true tt
  for_condition-g (Some a) numbers scope cs n l t r = condition-g a numbers scope cs n l t.0 r

  drop_value-g : (o : Option Expression) (numbers : List (Option ℕ)) (scope : ℕ → Type 0) (cs : CallList) → Numbered f.locals numbers scope → Level w cs
      → W.IsTypedOrAbsent home.tree f.locals o → IsResolvedIfAny w.program home.name scope o → Good Any (drop_value o cs (env numbers))
  unfolding drop_value
  drop_value-g None numbers scope cs n l t r = give-g Any tt tt
  drop_value-g (Some a) numbers scope cs n l t r = bind-g (expression-g a numbers scope cs n l t r) λ o i. give-g Any tt tt

  pub set_local-g : (at : Site) (k : ℕ) (v : Value) (numbers : List (Option ℕ)) (scope : ℕ → Type 0) (l : LocalValue) → Numbered f.locals numbers scope → scope k
      → slice_get f.locals k ≡ Some l → CanPut home.tree.records (type_of l.ty) v → Good Any (set_local at k v (env numbers))
  unfolding set_local
  set_local-g at k v numbers scope l n s found c =
      bind-g (need-g _ (l, found)) λ x same. bind-g (local-g (env numbers) k (n.has k s)) λ p i.
      let one : l ≡ x = (let both : Some l ≡ Some x = sym found ∙ same in cc) in
      record {
        sound = put-s Initialising at _ _ p v;
        right = put-r Initialising at _ _ p v (subst (λ (y : LocalValue). CanPut home.tree.records (type_of y.ty) v) one c) i;
      }

  local_of : (k : ℕ) (l : LocalValue) → slice_get f.locals k ≡ Some l → HasOne (layout_of home.tree.records (type_of l.ty))
  local_of k l found =
      one-and _ (layout_of home.tree.records (type_of l.ty))
      (get-all (λ l. IsObjectType home.tree.records (type_of l.ty) × W.IsKnownType home.tree.records (type_of l.ty)) f.locals k l fn.locals found).0

  -- a scalar, a structure or a union can be put into a local of its type
  local-takes : (k : ℕ) (l : LocalValue) (ty : CType) (v : Value) → slice_get f.locals k ≡ Some l → ty ≡ type_of l.ty → W.IsScalar ty ⊎ ((number : ℕ) × (ty ≡ Record number))
      → IsValueOf ty v → CanPut home.tree.records (type_of l.ty) v
  local-takes k l ty v found same s i = subst (λ ty. CanPut home.tree.records ty v) same (by-type ty s (subst (λ ty. HasOne (layout_of home.tree.records ty)) (sym same) (local_of k l found)) i)
    where
      by-type : (ty : CType) → W.IsScalar ty ⊎ ((number : ℕ) × (ty ≡ Record number)) → HasOne (layout_of home.tree.records ty) → IsValueOf ty v → CanPut home.tree.records ty v
      by-type (Int k) s c h = tt
      by-type (Pointer q) s c h = tt
      by-type (Record n) s c h = (c, h)
      by-type Void s c h = absurd h
      by-type (Array q n) (inl s) c h = absurd s
      by-type (Array q n) (inr s) c h = absurd (let e : Array q n ≡ Record s.0 = s.1 in cc)
      by-type (FunctionType q ps) (inl s) c h = absurd s
      by-type (FunctionType q ps) (inr s) c h = absurd (let e : FunctionType q ps ≡ Record s.0 = s.1 in cc)

  hidden-there : (k : ℕ) (g : GlobalValue) → Contains home.tree.globals g → g.name ≡ Hidden k → (number : ℕ) × (global_number w.program (full_name home.name (Hidden k)) ≡ Some number)
  hidden-there k g there same =
      subst (λ symbol. (number : ℕ) × (global_number w.program (full_name home.name symbol) ≡ Some number)) same (object-numbered w.program home g inside there)

  initialise-g : (i : Initialiser) (first count : ℕ) (numbers : List (Option ℕ)) (scope : ℕ → Type 0) (cs : CallList) → Numbered f.locals numbers (with_range first count scope) → Level w cs
      → M.Initialises home.tree f.locals first count i → IsResolvedInitialiser w.program home.name (with_range first count scope) i → Good Any (initialise i cs (env numbers))
  unfolding initialise
  initialise-g (ByValue k a) first count numbers scope cs n l t r =
      bind-g (value-g a numbers (with_range first count scope) cs n l t.2 r.0) λ v i.
      set_local-g _ k v numbers (with_range first count scope) t.3.0 n (inr (t.0, t.1)) t.3.1 (local-takes k t.3.0 (type_in a) v t.3.1 t.3.2 r.1 i)
  initialise-g (ByBytes k hidden parts) first count numbers scope cs n l t r =
      bind-g (hidden-g (env numbers) hidden (hidden-there hidden t.2.1 t.2.3 t.2.4)) λ source h. bind-g (local-at-g (env numbers) k (n.has k (inr (t.0, t.1)))) λ place j.
      within-g source h λ from x. within-g place j λ to y.
      bind-g (record { sound = look-s (All IsByte) (λ s. (object_at s.objects from).bytes) (λ s held. object-bytes s.objects from held.objects); right = look-r _ })
      λ bytes are. record { sound = write-s to y bytes are; right = write-r to y bytes }

  initialise_all-g : (is : List Initialiser) (first count : ℕ) (at : Entry) (numbers : List (Option ℕ)) (scope : ℕ → Type 0) (cs : CallList)
      → Numbered f.locals numbers (with_range first count scope) → Level w cs
      → All (M.Initialises home.tree f.locals first count) is → AreResolvedInitialisers w.program home.name (with_range first count scope) is → Good Any (initialise_all is at cs (env numbers))
  unfolding initialise_all
  initialise_all-g [] first count at numbers scope cs n l t r = give-g Any tt tt
  initialise_all-g (i ∷ rest) first count Front numbers scope cs n l t r =
      bind-g (initialise-g i first count numbers scope cs n l (All-head (M.Initialises home.tree f.locals first count) i rest t) r.0) λ u k.
      initialise_all-g rest first count Front numbers scope cs n l (All-tail (M.Initialises home.tree f.locals first count) i rest t) r.1
  initialise_all-g (i ∷ rest) first count (At_label m) numbers scope cs n l t r = give-g Any tt tt

  out-named : (labels : List ℕ) (l : ℕ) → Out f labels l → Named f l
  out-named labels l h = h.0

  -- what one part of a list or of an `if` leaves, the whole may leave
  part : (breaks continues : Bool) (labels : List ℕ) {m : Act Flow} → Good (Leaves breaks continues (Out f labels)) m → Good (Leaves breaks continues (Named f)) m
  part breaks continues labels g = wider breaks continues (Out f labels) (Named f) (out-named labels) g

  mutual
    unfolding meaning items arms behind_arms IsStatement AreStatements AreArms IsElse

    pub meaning-g : (s : Statement) (breaks continues : Bool) (from : ℕ) (at : Entry) (numbers : List (Option ℕ)) (scope : ℕ → Type 0) (cs : CallList) → Numbered f.locals numbers scope → Level w cs
        → IsStatement home.tree f breaks continues from s → IsResolvedStatement w.program home.name scope s → Good (Leaves breaks continues (Out f (labels_in s))) (meaning s at cs (env numbers))
    meaning-g (Empty t) breaks continues from at numbers scope cs n l h r = give-g _ Normal tt
    meaning-g (Evaluate t a) breaks continues from at numbers scope cs n l h r = bind-g (expression-g a numbers scope cs n l h r) λ o i. give-g _ Normal tt
    meaning-g (Block t first count is list) breaks continues from at numbers scope cs n l h r =
        with_locals-g {P = Leaves breaks continues (Out f (labels_among list))} count first _ numbers scope h.1 n λ behind k.
        bind-g (initialise_all-g is first count at behind scope cs k l h.2 r.0) λ u x.
        taking_up-g w breaks continues (Named f) (labels_among list) (λ at' ds. items list at' ds (env behind)) at cs l
        λ at' ds m. items-g list breaks continues (first + count) at' behind (with_range first count scope) ds k m h.3 r.1
    meaning-g (If t list otherwise) breaks continues from at numbers scope cs n l h r =
        taking_up-g w breaks continues (Named f) (labels_of_arms list ++ labels_behind otherwise)
        (λ at' ds. arms list (labels_behind otherwise) (λ last. behind_arms otherwise last ds (env numbers)) at' ds (env numbers)) at cs l
        λ at' ds m. arms-g list breaks continues from (labels_behind otherwise) at' numbers scope ds n m h.1 r.0
        λ last. behind_arms-g otherwise breaks continues from last numbers scope ds n m h.2 r.1
    meaning-g (While t c body) breaks continues from at numbers scope cs n l h r =
        meet_loop-g w breaks continues (Out f (labels_in body)) (λ ds. condition c ds (env numbers)) (λ at' ds. meaning body at' ds (env numbers)) always (record {
          test = λ ds m. condition-g c numbers scope ds n m h.0.0 r.0;
          middle = λ at' ds m. meaning-g body true true from at' numbers scope ds n m h.1 r.1;
          last = λ ds m. always-g ds;
        }) at cs l
    meaning-g (Do t body c) breaks continues from at numbers scope cs n l h r =
        meet_loop-g w breaks continues (Out f (labels_in body)) always (λ at' ds. meaning body at' ds (env numbers)) (λ ds. condition c ds (env numbers)) (record {
          test = λ ds m. always-g ds;
          middle = λ at' ds m. meaning-g body true true from at' numbers scope ds n m h.1 r.0;
          last = λ ds m. condition-g c numbers scope ds n m h.0.0 r.1;
        }) at cs l
    meaning-g (For t first c third body) breaks continues from Front numbers scope cs n l h r =
        bind-g (drop_value-g first numbers scope cs n l h.0 r.0) λ u x.
        meet_loop-g w breaks continues (Out f (labels_in body)) (λ ds. for_condition c ds (env numbers)) (λ at' ds. meaning body at' ds (env numbers)) (λ ds. drop_value third ds (env numbers) >> give true) (record {
          test = λ ds m. for_condition-g c numbers scope ds n m h.1 r.1;
          middle = λ at' ds m. meaning-g body true true from at' numbers scope ds n m h.3 r.3;
          last = λ ds m. bind-g (drop_value-g third numbers scope ds n m h.2 r.2) λ u x. give-g Any true tt;
        }) Front cs l
    meaning-g (For t first c third body) breaks continues from (At_label i) numbers scope cs n l h r =
        meet_loop-g w breaks continues (Out f (labels_in body)) (λ ds. for_condition c ds (env numbers)) (λ at' ds. meaning body at' ds (env numbers)) (λ ds. drop_value third ds (env numbers) >> give true) (record {
          test = λ ds m. for_condition-g c numbers scope ds n m h.1 r.1;
          middle = λ at' ds m. meaning-g body true true from at' numbers scope ds n m h.3 r.3;
          last = λ ds m. bind-g (drop_value-g third numbers scope ds n m h.2 r.2) λ u x. give-g Any true tt;
        }) (At_label i) cs l
    meaning-g (Switch t a cases default body) breaks continues from Front numbers scope cs n l h r =
        bind-g (value-g a numbers scope cs n l h.0 r.0) λ v i.
        switch_to-g breaks continues (Out f (labels_in body)) _ λ m. meaning-g body true continues from (At_label m) numbers scope cs n l h.2 r.1
    meaning-g (Switch t a cases default body) breaks continues from (At_label m) numbers scope cs n l h r =
        bind-g (meaning-g body true continues from (At_label m) numbers scope cs n l h.2 r.1) λ flow i. after_switch-g breaks continues (Out f (labels_in body)) flow i
    meaning-g (Label t labels body) breaks continues from at numbers scope cs n l h r =
        wider breaks continues (Beyond (Out f (labels_in body)) labels) (Out f (labels ++ labels_in body)) (λ m k. (k.0.0, holds-append labels (labels_in body) m k.1 k.0.1))
        (taking_up-g w breaks continues (Out f (labels_in body)) labels _ at cs l λ at' ds m. meaning-g body breaks continues from _ numbers scope ds n m h.1 r)
    meaning-g (Goto t m) breaks continues from at numbers scope cs n l h r = give-g _ (Goes m) (h, refl)
    meaning-g (Return t None) breaks continues from at numbers scope cs n l h r = give-g _ (Returns None) tt
    meaning-g (Return t (Some a)) breaks continues from at numbers scope cs n l h r = bind-g (value-g a numbers scope cs n l h.0 r) λ v i. give-g _ (Returns (Some v)) tt
    -- a way out that is open
    meaning-g s breaks continues from at numbers scope cs n l h r = give-g _ _ h

    pub items-g : (ss : Statements) (breaks continues : Bool) (from : ℕ) (at : Entry) (numbers : List (Option ℕ)) (scope : ℕ → Type 0) (cs : CallList) → Numbered f.locals numbers scope → Level w cs
        → AreStatements home.tree f breaks continues from ss → AreResolvedStatements w.program home.name scope ss → Good (Leaves breaks continues (Named f)) (items ss at cs (env numbers))
    items-g NoStatement breaks continues from at numbers scope cs n l h r = give-g _ Normal tt
    items-g (OneStatement s rest) breaks continues from Front numbers scope cs n l h r =
        bind-g (meaning-g s breaks continues from Front numbers scope cs n l h.0 r.0) λ flow i.
        go_forward-g breaks continues (Out f (labels_in s)) (Named f) (labels_among rest) flow i (out-named (labels_in s)) (λ at'. items-g rest breaks continues from at' numbers scope cs n l h.1 r.1)
        (items-g rest breaks continues from Front numbers scope cs n l h.1 r.1)
    items-g (OneStatement s rest) breaks continues from (At_label m) numbers scope cs n l h r = branch-g _
        (bind-g (meaning-g s breaks continues from (At_label m) numbers scope cs n l h.0 r.0) λ flow i.
        go_forward-g breaks continues (Out f (labels_in s)) (Named f) (labels_among rest) flow i (out-named (labels_in s)) (λ at'. items-g rest breaks continues from at' numbers scope cs n l h.1 r.1)
        (items-g rest breaks continues from Front numbers scope cs n l h.1 r.1))
        (items-g rest breaks continues from (At_label m) numbers scope cs n l h.1 r.1)

    pub arms-g : (list : Arms) (breaks continues : Bool) (from : ℕ) (labels : List ℕ) {last : Entry → Act Flow} (at : Entry) (numbers : List (Option ℕ)) (scope : ℕ → Type 0) (cs : CallList)
        → Numbered f.locals numbers scope → Level w cs → AreArms home.tree f breaks continues from list → AreResolvedArms w.program home.name scope list
        → ((at : Entry) → Good (Leaves breaks continues (Named f)) (last at)) → Good (Leaves breaks continues (Named f)) (arms list labels last at cs (env numbers))
    arms-g NoArm breaks continues from labels at numbers scope cs n l h r p = p at
    arms-g (Arm t c s rest) breaks continues from labels Front numbers scope cs n l h r p =
        bind-g (condition-g c numbers scope cs n l h.0.0 r.0) λ x u. branch-g x
        (bind-g (meaning-g s breaks continues from Front numbers scope cs n l h.1 r.1) λ flow i.
        go_forward-g breaks continues (Out f (labels_in s)) (Named f) (labels_of_arms rest ++ labels) flow i (out-named (labels_in s)) (λ at'. arms-g rest breaks continues from labels at' numbers scope cs n l h.2 r.2 p)
        (give-g (Leaves breaks continues (Named f)) Normal tt))
        (arms-g rest breaks continues from labels Front numbers scope cs n l h.2 r.2 p)
    arms-g (Arm t c s rest) breaks continues from labels (At_label m) numbers scope cs n l h r p = branch-g _
        (bind-g (meaning-g s breaks continues from (At_label m) numbers scope cs n l h.1 r.1) λ flow i.
        go_forward-g breaks continues (Out f (labels_in s)) (Named f) (labels_of_arms rest ++ labels) flow i (out-named (labels_in s)) (λ at'. arms-g rest breaks continues from labels at' numbers scope cs n l h.2 r.2 p)
        (give-g (Leaves breaks continues (Named f)) Normal tt))
        (arms-g rest breaks continues from labels (At_label m) numbers scope cs n l h.2 r.2 p)

    pub behind_arms-g : (o : Otherwise) (breaks continues : Bool) (from : ℕ) (at : Entry) (numbers : List (Option ℕ)) (scope : ℕ → Type 0) (cs : CallList) → Numbered f.locals numbers scope → Level w cs
        → IsElse home.tree f breaks continues from o → IsResolvedElse w.program home.name scope o → Good (Leaves breaks continues (Named f)) (behind_arms o at cs (env numbers))
    behind_arms-g NoElse breaks continues from at numbers scope cs n l h r = give-g _ Normal tt
    behind_arms-g (Else s) breaks continues from at numbers scope cs n l h r = part breaks continues (labels_in s) (meaning-g s breaks continues from at numbers scope cs n l h r)

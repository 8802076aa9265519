-- Locals come into scope one by one, and end in the other order: what an act leaves where they are in scope, it leaves behind
-- their end.
use Rattle.std.proofs.Common.{◌≡◌, ℕ, zero, suc, ◌^◌, ◌<◌, ◌≤◌, Option, Some, None, List, [], ◌∷◌, ◌++◌, length, slice_get, slice_set, inl, inr, refl, ap, sym, ◌∙◌, subst, arith, append_assoc, append-nil}
use Rattle.std.specs.Prelude.{IsSomeAnd}
use Rattle.std.proofs.lemmas.Bool.{cases_eq}
use Rattle.std.proofs.lemmas.Option.{slice_get_within, get_or_from_slice_get}
use Rattle.std.proofs.lemmas.List.Elements.{All-contains}
use Rattle.pw_value.specs.Limits.{size_limit}
use Rattle.pw_value.specs.Objects.{ended}
use Rattle.pw_value.specs.declared.value.Value.{Value}
use Rattle.pw_types.specs.declared.record.Layout.{Layout}
use Rattle.pw_types.specs.Layouts.{layout_of}
use Rattle.pw_types.specs.Records.{IsObjectType}
use Rattle.pw_types.specs.TypeTrees.{type_of}
use Rattle.pw_types.specs.TypedTrees.{LocalValue}
use Rattle.pw_types.specs.TypedModules.{WellTyped, IsFunction}
use Rattle.pw_cmean.specs.Worlds.{ProgramModule}
use Rattle.pw_cmean.specs.Acts as source
use Rattle.pw_cmean.specs.Acts.{State, Act, Outcome, Gives, Ends, give, stop, go_on, ◌>>=◌, ◌>>◌, make, end_object, with_object, need, wrong}
use Rattle.pw_cmean.specs.Evaluation.{Env}
use Rattle.pw_cmean.specs.Execution.{Flow, with_locals, with_number}
use Rattle.pw_run_languages.specs.FlowRun.{Machine}
use Rattle.pw_law_refine.specs.Standing.{Spot}
use Rattle.pw_law_refine.specs.Activations.{Activation, IsActivation, Numbers, number_of, graph_of, env_of, place_in}
use Rattle.pw_law_refine.specs.Matching.{Related, Later}
use Rattle.pw_law_refine.specs.Meeting.{Meets}
use Rattle.pw_law_refine.specs.Statements.{IsReturning, Exits, GoesOut, HasLeft}
use Rattle.pw_law_refine.specs.StatementParts.{HaveBegun, LocalsKeep}
use Rattle.pw_law_refine_locals.specs.Scopes.{IsLeaving, LocalsLeave}
use Rattle.pw_law_refine_locals.proofs.Beginning.{SlotLaws, undefined_object, spot_for, other-number, begins, begun-number}
use Rattle.pw_law_refine_locals.proofs.Finishing.{finishes}

-- ---- sizes of locals

-- the function is well typed, so its locals keep the limit on sizes
few-bytes : (x : Activation) (k : ℕ) (l : LocalValue) (layout : Layout) → IsActivation x → slice_get x.function.locals k ≡ Some l → layout_of x.home.tree.records (type_of l.ty) ≡ Some layout → layout.size < 2 ^ 31
few-bytes x k l layout active is laid =
    let m : WellTyped x.home.tree = All-contains (λ (m : ProgramModule). WellTyped m.tree) x.world.program.modules x.home active.world.program.accepted.typed.modules active.home in
    let f : IsFunction x.home.tree x.function = All-contains (IsFunction x.home.tree) x.home.tree.functions x.function m.functions active.function in
    let object : IsObjectType x.home.tree.records (type_of l.ty) =
    subst (λ (a : LocalValue). IsObjectType x.home.tree.records (type_of a.ty)) (get_or_from_slice_get x.function.locals k l l is) (f.locals k l (slice_get_within x.function.locals k l is)).0 in
    let few : layout.size ≤ size_limit = subst (λ (o : Option Layout). IsSomeAnd o (λ (a : Layout). a.size ≤ size_limit)) laid object in
    omega (arith, few)

-- ---- outcomes

-- the run behind related states, and what is said of its exit
pub record Leaves {A : Type 0} (x : Activation) (numbers : Numbers) (spots : List Spot) (E : List Spot → A → Machine → Type 0) (s : State) (m : Machine) (a : A) (t : State) (n : Machine) : Type 0 where
  pub later : Later x numbers spots s m t n
  pub exit : E later.spots a n

-- where the act gives a value, its object ends
ends-behind :
    {A : Type 0} (x : Activation) (bound : ℕ) (m : Machine) (o : ℕ) (outcome : Outcome A) (Q R : A → State → Machine → Type 0)
    → Meets x.world bound m outcome Q → ((a : A) (t : State) (n : Machine) → Q a t n → R a (record t { objects = ended o t.objects }) n)
    → Meets x.world bound m (go_on outcome (λ (a : A). end_object o >>= λ (done : Unit {0}). give a)) R
unfolding go_on end_object give ◌>>=◌
ends-behind x bound m o (Gives a t) Q R q f = record { count = q.count; machine = q.machine; comes = q.comes; holds = f a t q.machine q.holds }
ends-behind x bound m o (Ends source.Bound t) Q R q f = q
ends-behind x bound m o (Ends source.StackFull t) Q R q f = q
ends-behind x bound m o (Ends (source.Exit status) t) Q R q f = q
ends-behind x bound m o (Ends (source.Undefined operation home token) t) Q R q f = q
ends-behind x bound m o (Ends source.Wrong t) Q R q f = tt

-- ---- several locals

-- what is met where so many locals have begun
abbrev Inside : {A : Type 0} → ℕ → Activation → (List Spot → A → Machine → Type 0) → (Env → Act A) → (first count : ℕ) → Numbers → List Spot → Machine → Type 0
Inside bound x E act first count numbers spots m =
    (inner : Numbers) (more : List Spot) (t : State) → HaveBegun first count numbers inner → ((new : List Spot) × (more ≡ spots ++ new)) → Related x inner more t m
    → Meets x.world bound m (act (env_of x inner) t) (Leaves x inner more E t m)

none-begun : (first : ℕ) (numbers : Numbers) → ((k : ℕ) → first ≤ k → number_of numbers k ≡ None) → HaveBegun first 0 numbers numbers
none-begun first numbers scope = record {
  before = λ k less. refl;
  begun = λ k least most. absurd (omega (arith, least, most));
  behind = λ k least. scope k (omega (arith, least));
}

one-more : (first count o : ℕ) (numbers inner : Numbers) → number_of (slice_set numbers first (Some o)) first ≡ Some o
    → HaveBegun (suc first) count (slice_set numbers first (Some o)) inner → HaveBegun first (suc count) numbers inner
one-more first count o numbers inner put h = record {
  before = λ k less. h.before k (omega (arith, less)) ∙ other-number numbers first k (Some o) (λ e. omega (arith, less, e));
  begun = λ k least most. elim (cases_eq k first) [
    | inl same ↦ (o, ap (λ (i : ℕ). number_of inner i) same ∙ h.before first (omega arith) ∙ put)
    | inr ne ↦ h.begun k (omega (arith, least, ne)) (omega (arith, most))
  ];
  behind = λ k least. h.behind k (omega (arith, least));
}

module _ {A : Type 0} (laws : SlotLaws) (bound : ℕ) (x : Activation) (active : IsActivation x) (E : List Spot → A → Machine → Type 0) (act : Env → Act A) (m : Machine) where
  abbrev Kept : ℕ → Type 0
  Kept count =
      (first : ℕ) (numbers : Numbers) (spots : List Spot) (s : State) → ((k : ℕ) → first ≤ k → number_of numbers k ≡ None) → Related x numbers spots s m
      → Inside bound x E act first count numbers spots m
      → Meets x.world bound m (with_locals count first act (env_of x numbers) s) (Leaves x numbers spots E s m)

  -- one local, behind which come others
  one-keeps :
      (count : ℕ) → Kept count → (first : ℕ) (numbers : Numbers) (spots : List Spot) (s : State) → ((k : ℕ) → first ≤ k → number_of numbers k ≡ None) → Related x numbers spots s m
      → Inside bound x E act first (suc count) numbers spots m
      → (l : LocalValue) (layout : Layout) → slice_get x.function.locals first ≡ Some l → layout_of x.home.tree.records (type_of l.ty) ≡ Some layout
      → Meets x.world bound m (with_object layout.size l.writable (λ (number : ℕ). with_locals count (suc first) act (with_number first number (env_of x numbers))) s) (Leaves x numbers spots E s m)
  unfolding with_object make go_on ◌>>=◌ finishes
  one-keeps count rest first numbers spots s scope r inside l layout is laid =
      let o = length s.objects in
      let free : number_of numbers first ≡ None = scope first (omega arith) in
      let small = few-bytes x first l layout active is laid in
      let inner : Numbers = slice_set numbers first (Some o) in
      let spot : Spot = spot_for x (place_in x first) layout.size in
      let new = undefined_object layout.size l.writable in
      let put : number_of inner first ≡ Some o = begun-number laws x numbers spots s m r first l layout free is laid small in
      let begun : Related x inner (spots ++ spot ∷ []) (record s { objects = s.objects ++ new ∷ [] }) m = begins laws x numbers spots s m r first l layout free is laid small in
      ends-behind x bound m o (with_locals count (suc first) act (env_of x inner) (record s { objects = s.objects ++ new ∷ [] }))
      (Leaves x inner (spots ++ spot ∷ []) E (record s { objects = s.objects ++ new ∷ [] }) m) (Leaves x numbers spots E s m)
      (rest (suc first) inner (spots ++ spot ∷ []) (record s { objects = s.objects ++ new ∷ [] })
      (λ k least. other-number numbers first k (Some o) (λ e. omega (arith, least, e)) ∙ scope k (omega (arith, least)))
      begun
      (λ deep more t have grown related.
      inside deep more t (one-more first count o numbers deep put have) (spot ∷ grown.0, grown.1 ∙ append_assoc spots (spot ∷ []) grown.0) related))
      (λ a t n left. record { later = finishes x numbers spots s m r first free new spot put t n left.later; exit = left.exit })

  -- the next local and its layout are there, or the meaning has none
  with-layout :
      (count : ℕ) → Kept count → (first : ℕ) (numbers : Numbers) (spots : List Spot) (s : State) → ((k : ℕ) → first ≤ k → number_of numbers k ≡ None) → Related x numbers spots s m
      → Inside bound x E act first (suc count) numbers spots m
      → (l : LocalValue) (o : Option Layout) → slice_get x.function.locals first ≡ Some l → layout_of x.home.tree.records (type_of l.ty) ≡ o
      → Meets x.world bound m ((need o >>= λ (layout : Layout). with_object layout.size l.writable (λ (number : ℕ). with_locals count (suc first) act (with_number first number (env_of x numbers)))) s) (Leaves x numbers spots E s m)
  unfolding need give stop wrong go_on ◌>>=◌
  with-layout count rest first numbers spots s scope r inside l None is laid = tt
  with-layout count rest first numbers spots s scope r inside l (Some layout) is laid = one-keeps count rest first numbers spots s scope r inside l layout is laid

  with-local :
      (count : ℕ) → Kept count → (first : ℕ) (numbers : Numbers) (spots : List Spot) (s : State) → ((k : ℕ) → first ≤ k → number_of numbers k ≡ None) → Related x numbers spots s m
      → Inside bound x E act first (suc count) numbers spots m
      → (o : Option LocalValue) → slice_get x.function.locals first ≡ o
      → Meets x.world bound m ((need o >>= λ (l : LocalValue). (need (layout_of x.home.tree.records (type_of l.ty)) >>= λ (layout : Layout).
      with_object layout.size l.writable (λ (number : ℕ). with_locals count (suc first) act (with_number first number (env_of x numbers))))) s) (Leaves x numbers spots E s m)
  unfolding need give stop wrong go_on ◌>>=◌
  with-local count rest first numbers spots s scope r inside None is = tt
  with-local count rest first numbers spots s scope r inside (Some l) is = with-layout count rest first numbers spots s scope r inside l (layout_of x.home.tree.records (type_of l.ty)) is refl

  several-keep : (count : ℕ) → Kept count
  unfolding with_locals
  several-keep zero first numbers spots s scope r inside = inside numbers spots s (none-begun first numbers scope) ([], sym (append-nil spots)) r
  several-keep (suc count) first numbers spots s scope r inside = with-local count (several-keep count) first numbers spots s scope r inside (slice_get x.function.locals first) refl

-- ---- of blocks, and of functions

-- two ways to say the same
meets-as : {A : Type 0} (x : Activation) (bound : ℕ) (m : Machine) (outcome : Outcome A) (Q R : A → State → Machine → Type 0)
    → Meets x.world bound m outcome Q → ((a : A) (t : State) (n : Machine) → Q a t n → R a t n) → Meets x.world bound m outcome R
meets-as x bound m (Gives a t) Q R q f = record { count = q.count; machine = q.machine; comes = q.comes; holds = f a t q.machine q.holds }
meets-as x bound m (Ends source.Bound t) Q R q f = q
meets-as x bound m (Ends source.StackFull t) Q R q f = q
meets-as x bound m (Ends (source.Exit status) t) Q R q f = q
meets-as x bound m (Ends (source.Undefined operation home token) t) Q R q f = q
meets-as x bound m (Ends source.Wrong t) Q R q f = tt

pub locals-keep : SlotLaws → (bound : ℕ) → LocalsKeep bound
locals-keep laws bound x numbers spots first count back labels ways act c d s m active room scope r inside =
    let E : List Spot → Flow → Machine → Type 0 = λ (later : List Spot) (flow : Flow) (n : Machine). Exits (graph_of x) later back ways (GoesOut x back labels c) d flow n in
    meets-as x bound m (with_locals count first act (env_of x numbers) s) (Leaves x numbers spots E s m) (HasLeft x numbers spots back ways (GoesOut x back labels c) d s m)
    (several-keep laws bound x active E act m count first numbers spots s scope r
    (λ inner more t have grown related.
    meets-as x bound m (act (env_of x inner) t) (HasLeft x inner more back ways (GoesOut x back labels c) d t m) (Leaves x inner more E t m) (inside inner more t have related)
    (λ flow u n left. record { later = left.later; exit = left.exit })))
    (λ flow u n left. record { later = left.later; exit = left.exit })

pub locals-leave : SlotLaws → (bound : ℕ) → LocalsLeave bound
locals-leave laws bound x numbers spots first count act s m active scope r inside =
    let E : List Spot → Option Value → Machine → Type 0 = λ (later : List Spot) (result : Option Value) (n : Machine). IsReturning later result n in
    meets-as x bound m (with_locals count first act (env_of x numbers) s) (Leaves x numbers spots E s m) (IsLeaving x numbers spots s m)
    (several-keep laws bound x active E act m count first numbers spots s scope r
    (λ inner more t have grown related.
    meets-as x bound m (act (env_of x inner) t) (IsLeaving x inner more t m) (Leaves x inner more E t m) (inside inner more t have grown related)
    (λ result u n left. record { later = left.later; exit = left.returning })))
    (λ result u n left. record { later = left.later; returning = left.exit })

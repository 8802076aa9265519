-- Loads of scalars, and values that are places: of locals, and through pointers.
use Rattle.std.proofs.Common.{◌≡◌, ◌≢◌, ℕ, ◌+◌, false, true≢false, Option, Some, None, List, [], slice_get, refl, ap, sym, ◌∙◌, subst, arith}
use Rattle.std.specs.Prelude.{option_map}
use Rattle.std.proofs.lemmas.Option.{same_Some}
use Rattle.pw_value.specs.declared.value.Kind.{Kind}
use Rattle.pw_value.specs.declared.value.Kind.TheVariants.{W32}
use Rattle.pw_value.specs.declared.value.Value.{Value}
use Rattle.pw_value.specs.declared.value.Value.TheVariants as V
use Rattle.pw_value.specs.declared.value.Pointer.TheVariants as P
use Rattle.pw_types.specs.TypeTrees.{CType, Void, Int, Pointer as PointerTo, Array, Function, Record, QType, type_of}
use Rattle.pw_types.specs.TypedTrees.{Expression, Node, Local, Deref, LocalValue}
use Rattle.pw_types.specs.WellTyped.{IsTyped, HasForm}
use Rattle.pw_flow.specs.declared.flow.FlowFn.{FlowFn}
use Rattle.pw_flow.specs.declared.flow.Op.TheVariants as op
use Rattle.pw_lower.specs.declared.code.Code.{Code}
use Rattle.pw_lower.specs.declared.place.LocalPlace.{LocalPlace}
use Rattle.pw_lower.specs.declared.place.LocalPlace.TheVariants.{Temp, Slot}
use Rattle.pw_lower.specs.declared.place.Target.TheVariants.{Kept, Led}
use Rattle.pw_lower.specs.Codes.{Lowered, temp_of, value_is}
use Rattle.pw_lower.specs.Operators.{kind_of, kind_of_int}
use Rattle.pw_lower.specs.Expressions.{lower, is_void, read_target, value_at, value_of_local, address_of_local}
use Rattle.pw_cmean.specs.Acts.{State, Site, Gives, give, stop, wrong, need, ◌>>=◌, go_on}
use Rattle.pw_cmean.specs.Access.{load, fetch}
use Rattle.pw_cmean.specs.Evaluation as source
use Rattle.pw_cmean.specs.Evaluation.{site, used, value_by, local_place, answer_of}
use Rattle.pw_cmean.specs.SourceRun.{calls}
use Rattle.pw_run_languages.specs.Commands.{command}
use Rattle.pw_run_languages.specs.FlowRun.{Machine}
use Rattle.pw_law_refine.specs.Standing.{Spot, In}
use Rattle.pw_law_refine.specs.Activations.{Activation, Numbers, graph_of, home_of, env_of, number_of, place_in}
use Rattle.pw_law_refine.specs.Matching.{StandsAt}
use Rattle.pw_law_refine.specs.Containing.{ContainsCode}
use Rattle.pw_law_refine.specs.Meeting.{Meets}
use Rattle.pw_law_refine.specs.Expressions.{assigned_in, IsReady, HasValue, HasResult, ResultStands, ExpressionKeeps}
use Rattle.pw_law_refine_steps.specs.Results.{HasNewResult}
use Rattle.pw_law_refine_forms.specs.Accesses.{SuitsType}
use Rattle.pw_law_refine_forms.proofs.Laws.{Laws}
use Rattle.pw_law_refine_forms.proofs.Simulation.{meets-then, meets-less, meets-here}
use Rattle.pw_law_refine_forms.proofs.Kit.{before-fresh, value-then, ready-then, nothing-done, HasOperand, operand, operand-stands}
use Rattle.pw_law_refine_forms.proofs.Places.{places-apart}
use Rattle.pw_law_refine_forms.proofs.Access.{reads}

-- ---- what is at an address

-- a load, and the value that it gives
loaded :
    Laws → (bound : ℕ) (x : Activation) (numbers : Numbers) (spots : List Spot) (ty : CType) (k : Kind) (at : Site) (y : Lowered) (s : State) (m : Machine) (place : Value)
    → kind_of ty ≡ Some k → IsReady x numbers spots y.code s m → ContainsCode (graph_of x) (read_target k (Led (temp_of y)) y.code).code → ResultStands spots (Some place) y.temp m
    → Meets x.world bound m ((load at ty place >>= λ v. give (Some v)) s) (HasValue x numbers spots [] (read_target k (Led (temp_of y)) y.code) y.code s m)
unfolding ◌>>=◌ give
loaded laws bound x numbers spots ty k at y s m place e ready holds st =
    meets-then laws x.world bound m (load at ty place s) (λ v. give (Some v)) (λ v. HasValue x numbers spots [] (read_target k (Led (temp_of y)) y.code) y.code s m (Some v))
    (HasValue x numbers spots [] (read_target k (Led (temp_of y)) y.code) y.code s m)
    (reads laws bound x numbers spots ty k at (Led (temp_of y)) y.code s m place e ready holds tt (operand-stands spots place y.temp m st))
    (λ v t n h. meets-here x.world bound n (Some v) t (HasValue x numbers spots [] (read_target k (Led (temp_of y)) y.code) y.code s m) h)

-- the place is the value
itself :
    (bound : ℕ) (x : Activation) (numbers : Numbers) (spots : List Spot) (y : Lowered) (s : State) (m : Machine) (result : Option Value)
    → IsReady x numbers spots y.code s m → ResultStands spots result y.temp m
    → Meets x.world bound m (Gives result s) (HasValue x numbers spots [] y y.code s m)
unfolding nothing-done
itself bound x numbers spots y s m result ready st =
    meets-here x.world bound m result s (HasValue x numbers spots [] y y.code s m)
    (record { done = nothing-done x numbers spots [] y.code s m ready.related; behind = ready.behind; stands = st })

pub fetches :
    Laws → (bound : ℕ) (x : Activation) (numbers : Numbers) (spots : List Spot) (ty : CType) (at : Site) (y : Lowered) (s : State) (m : Machine) (place : Value)
    → IsReady x numbers spots y.code s m → ContainsCode (graph_of x) (value_at (kind_of ty) y).code → ResultStands spots (Some place) y.temp m
    → Meets x.world bound m (value_by at ty place s) (HasValue x numbers spots [] (value_at (kind_of ty) y) y.code s m)
unfolding value_by fetch give ◌>>=◌ go_on
fetches laws bound x numbers spots Void at y s m place ready holds st = itself bound x numbers spots y s m None ready tt
fetches laws bound x numbers spots (Int kind) at y s m place ready holds st = loaded laws bound x numbers spots (Int kind) (kind_of_int kind) at y s m place refl ready holds st
fetches laws bound x numbers spots (PointerTo q) at y s m place ready holds st = loaded laws bound x numbers spots (PointerTo q) W32 at y s m place refl ready holds st
fetches laws bound x numbers spots (Array q k) at y s m place ready holds st = itself bound x numbers spots y s m (Some place) ready st
fetches laws bound x numbers spots (Function r ps) at y s m place ready holds st = itself bound x numbers spots y s m (Some place) ready st
fetches laws bound x numbers spots (Record k) at y s m place ready holds st = itself bound x numbers spots y s m (Some place) ready st

-- what contains the code of a value at an address contains that of the address
pub before-value : (g : FlowFn) (k : Option Kind) (y : Lowered) → ContainsCode g (value_at k y).code → ContainsCode g y.code
before-value g None y w = w
before-value g (Some k) y w = before-fresh g (λ t. op.Load k t (temp_of y)) y.code w

-- ---- through a pointer

pub deref-keeps : Laws → (bound t : ℕ) (ty : QType) (a : Expression) → ExpressionKeeps bound a → ExpressionKeeps bound (Node t ty (Deref a))
unfolding lower answer_of ◌>>=◌ IsTyped HasForm source.value_at
deref-keeps laws bound t ty a keeps = λ x numbers spots c s m active typed slots holds ready.
    let y = lower (home_of x) a c in
    let at = site (env_of x numbers) t in
    let whole = before-value (graph_of x) (kind_of (type_of ty)) y holds in
    meets-then laws x.world bound m ((answer_of a (calls x.world bound) (env_of x numbers) >>= used at) s) _
    (HasOperand x numbers spots a c s m) (HasResult x numbers spots (Node t ty (Deref a)) c s m)
    (operand laws bound x numbers spots a c s m at active typed.1.0 ready.related.matches.bytes
    (keeps x numbers spots c s m active typed.1.0 slots whole ready))
    (λ place u n q.
    meets-less x.world bound n (value_by at (type_of ty) place u) (HasValue x numbers q.0.done.later.spots [] (value_at (kind_of (type_of ty)) y) y.code u n) (HasResult x numbers spots (Node t ty (Deref a)) c s m)
    (fetches laws bound x numbers q.0.done.later.spots (type_of ty) at y u n place (ready-then laws x numbers spots a c s u m n (Some place) ready q.0) holds q.0.stands)
    (λ result w r h. value-then laws x numbers spots (assigned_in a) y (value_at (kind_of (type_of ty)) y) c s u w m n r (Some place) result ready.related (laws.later (home_of x) a c).temps q.0 h))

-- ---- locals

-- the local of a temporary has the type of each expression that names it
pub local-suits : (x : Activation) (k t : ℕ) (l : LocalValue) (ty : CType) → slice_get x.function.locals k ≡ Some l → type_of l.ty ≡ ty → place_in x k ≡ Temp t → SuitsType x ty (Kept t)
local-suits x k t l ty there is place = λ j r here at.
    let same : j ≡ k = places-apart x j k t r l here there at place in
    ap (λ (v : LocalValue). type_of v.ty) (same_Some r l (sym here ∙ ap (λ (i : ℕ). slice_get x.function.locals i) same ∙ there)) ∙ is

-- the address of a local in a slot
pub slot-reaches :
    Laws → (bound : ℕ) (x : Activation) (numbers : Numbers) (spots : List Spot) (c : Code) (s : State) (m : Machine) (k o n : ℕ)
    → IsReady x numbers spots c s m → ContainsCode (graph_of x) (address_of_local (Slot n) c).code → number_of numbers k ≡ Some o → place_in x k ≡ Slot n
    → Meets x.world bound m (Gives (V.At (P.Object o 0)) s) (λ v. HasValue x numbers spots [] (address_of_local (Slot n) c) c s m (Some v))
unfolding command
slot-reaches laws bound x numbers spots c s m k o n ready holds named place =
    let own = ready.related.frame.locals k o named in
    let here : StandsAt x spots s m own.local o (Slot n) = subst (λ (p : LocalPlace). StandsAt x spots s m own.local o p) place own.stands in
    let base = ready.related.frame.base in
    laws.fresh x numbers spots [] c s m (λ t. op.AddrSlot t n) (V.At (P.Object o 0)) (V.At (P.Object (m.frame.base + n) 0)) holds ready (
      P.Object (m.frame.base + n) 0,
      record {
        object = m.frame.base + n;
        size = here.0;
        there = here.1 ∙ ap (λ (b : ℕ). In (b + n) here.0) (sym base);
        inside = omega arith;
        is = refl;
      },
      refl,
    )
    (λ rest. refl)

not-void : (ty : CType) → is_void ty ≡ false → ty ≡ Void → ⊥
not-void ty f e = true≢false (sym (ap is_void e) ∙ f)

-- a scalar that is loaded from it
kept-loaded :
    Laws → (bound : ℕ) (x : Activation) (numbers : Numbers) (spots : List Spot) (ty : CType) (j : Kind) (at : Site) (c : Code) (s : State) (m : Machine) (k o t : ℕ)
    → kind_of ty ≡ Some j → IsReady x numbers spots c s m → ContainsCode (graph_of x) (read_target j (Kept t) c).code → number_of numbers k ≡ Some o → place_in x k ≡ Temp t → SuitsType x ty (Kept t)
    → Meets x.world bound m ((load at ty (V.At (P.Object o 0)) >>= λ v. give (Some v)) s) (HasValue x numbers spots [] (read_target j (Kept t) c) c s m)
unfolding ◌>>=◌ give
kept-loaded laws bound x numbers spots ty j at c s m k o t e ready holds named place suits =
    meets-then laws x.world bound m (load at ty (V.At (P.Object o 0)) s) (λ v. give (Some v)) (λ v. HasValue x numbers spots [] (read_target j (Kept t) c) c s m (Some v))
    (HasValue x numbers spots [] (read_target j (Kept t) c) c s m)
    (reads laws bound x numbers spots ty j at (Kept t) c s m (V.At (P.Object o 0)) e ready holds suits (k, o, named, place, refl))
    (λ v r n h. meets-here x.world bound n (Some v) r (HasValue x numbers spots [] (read_target j (Kept t) c) c s m) h)

-- a local in a temporary
kept-value :
    Laws → (bound : ℕ) (x : Activation) (numbers : Numbers) (spots : List Spot) (ty : CType) (at : Site) (c : Code) (s : State) (m : Machine) (k o t : ℕ)
    → IsReady x numbers spots c s m → ContainsCode (graph_of x) (value_of_local (kind_of ty) (Temp t) c).code → number_of numbers k ≡ Some o → place_in x k ≡ Temp t → SuitsType x ty (Kept t)
    → (ty ≢ Void → HasNewResult c (value_of_local (kind_of ty) (Temp t) c))
    → Meets x.world bound m (value_by at ty (V.At (P.Object o 0)) s) (HasValue x numbers spots [] (value_of_local (kind_of ty) (Temp t) c) c s m)
unfolding value_by fetch give ◌>>=◌ go_on
kept-value laws bound x numbers spots Void at c s m k o t ready holds named place suits new = itself bound x numbers spots (value_is t c) s m None ready tt
kept-value laws bound x numbers spots (Int kind) at c s m k o t ready holds named place suits new =
    kept-loaded laws bound x numbers spots (Int kind) (kind_of_int kind) at c s m k o t refl ready holds named place suits
kept-value laws bound x numbers spots (PointerTo q) at c s m k o t ready holds named place suits new =
    kept-loaded laws bound x numbers spots (PointerTo q) W32 at c s m k o t refl ready holds named place suits
kept-value laws bound x numbers spots (Array q j) at c s m k o t ready holds named place suits new = let h = new (λ e. not-void (Array q j) refl e) in absurd (omega (arith, h.since, h.given))
kept-value laws bound x numbers spots (Function r ps) at c s m k o t ready holds named place suits new = let h = new (λ e. not-void (Function r ps) refl e) in absurd (omega (arith, h.since, h.given))
kept-value laws bound x numbers spots (Record j) at c s m k o t ready holds named place suits new = let h = new (λ e. not-void (Record j) refl e) in absurd (omega (arith, h.since, h.given))

-- a local in a slot
slot-value :
    Laws → (bound : ℕ) (x : Activation) (numbers : Numbers) (spots : List Spot) (ty : CType) (at : Site) (c : Code) (s : State) (m : Machine) (k o n : ℕ)
    → IsReady x numbers spots c s m → ContainsCode (graph_of x) (value_of_local (kind_of ty) (Slot n) c).code → number_of numbers k ≡ Some o → place_in x k ≡ Slot n
    → Meets x.world bound m (value_by at ty (V.At (P.Object o 0)) s) (HasValue x numbers spots [] (value_of_local (kind_of ty) (Slot n) c) c s m)
unfolding give go_on
slot-value laws bound x numbers spots ty at c s m k o n ready holds named place =
    let y = address_of_local (Slot n) c in
    let whole : ContainsCode (graph_of x) (value_at (kind_of ty) y).code = subst (λ (z : Lowered). ContainsCode (graph_of x) z.code) (in-slot (kind_of ty) n c) holds in
    meets-then laws x.world bound m (Gives (V.At (P.Object o 0)) s) (λ r. value_by at ty r)
    (λ v. HasValue x numbers spots [] y c s m (Some v)) (HasValue x numbers spots [] (value_of_local (kind_of ty) (Slot n) c) c s m)
    (slot-reaches laws bound x numbers spots c s m k o n ready (before-value (graph_of x) (kind_of ty) y whole) named place)
    (λ r u q h.
    meets-less x.world bound q (value_by at ty r u) (HasValue x numbers h.done.later.spots [] (value_at (kind_of ty) y) y.code u q) (HasValue x numbers spots [] (value_of_local (kind_of ty) (Slot n) c) c s m)
    (fetches laws bound x numbers h.done.later.spots ty at y u q r (record { related = h.done.later.related; behind = h.behind; temps = omega (arith, ready.temps) }) whole h.stands)
    (λ result w z g.
    subst (λ (l : Lowered). HasValue x numbers spots [] l c s m result w z) (sym (in-slot (kind_of ty) n c))
    (value-then laws x numbers spots [] y (value_at (kind_of ty) y) c s u w m q z (Some r) result ready.related (omega arith) h g)))
  where
    in-slot : (j : Option Kind) (n : ℕ) (c : Code) → value_of_local j (Slot n) c ≡ value_at j (address_of_local (Slot n) c)
    in-slot (Some j) n c = refl
    in-slot None n c = refl

-- by where it stands
local-value :
    Laws → (bound : ℕ) (x : Activation) (numbers : Numbers) (spots : List Spot) (ty : CType) (at : Site) (c : Code) (s : State) (m : Machine) (k o : ℕ) (l : LocalValue) (p : LocalPlace)
    → IsReady x numbers spots c s m → ContainsCode (graph_of x) (value_of_local (kind_of ty) p c).code → number_of numbers k ≡ Some o → place_in x k ≡ p
    → slice_get x.function.locals k ≡ Some l → type_of l.ty ≡ ty
    → (ty ≢ Void → HasNewResult c (value_of_local (kind_of ty) p c))
    → Meets x.world bound m (value_by at ty (V.At (P.Object o 0)) s) (HasValue x numbers spots [] (value_of_local (kind_of ty) p c) c s m)
local-value laws bound x numbers spots ty at c s m k o l (Temp t) ready holds named place there is new =
    kept-value laws bound x numbers spots ty at c s m k o t ready holds named place (local-suits x k t l ty there is place) new
local-value laws bound x numbers spots ty at c s m k o l (Slot n) ready holds named place there is new =
    slot-value laws bound x numbers spots ty at c s m k o n ready holds named place

pub local-keeps : Laws → (bound t : ℕ) (ty : QType) (k : ℕ) → ExpressionKeeps bound (Node t ty (Local k))
unfolding lower answer_of local_place need give wrong stop ◌>>=◌ go_on IsTyped HasForm source.value_at
local-keeps laws bound t ty k = λ x numbers spots c s m active typed slots holds ready.
    by_number x numbers spots c s m typed holds ready (λ h. laws.results x (Node t ty (Local k)) c typed slots h) (number_of numbers k) refl
  where
    by_number : (x : Activation) (numbers : Numbers) (spots : List Spot) (c : Code) (s : State) (m : Machine)
        → IsTyped x.home.tree x.function.locals (Node t ty (Local k)) → ContainsCode (graph_of x) (lower (home_of x) (Node t ty (Local k)) c).code → IsReady x numbers spots c s m
        → (type_of ty ≢ Void → HasNewResult c (lower (home_of x) (Node t ty (Local k)) c))
        → (r : Option ℕ) → number_of numbers k ≡ r
        → Meets x.world bound m ((need (option_map (λ number. V.At (P.Object number 0)) r) >>= λ place. source.value_at (env_of x numbers) t ty place) s)
        (HasResult x numbers spots (Node t ty (Local k)) c s m)
    by_number x numbers spots c s m typed holds ready new None e = tt
    by_number x numbers spots c s m typed holds ready new (Some o) e =
        local-value laws bound x numbers spots (type_of ty) (site (env_of x numbers) t) c s m k o typed.1.0 (place_in x k) ready holds e refl typed.1.1 (ap type_of typed.1.2) new

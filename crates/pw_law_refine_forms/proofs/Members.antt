-- Members of structures and unions: places at an offset, what is there, and their addresses (C90 6.3.2.3, 6.3.3.2).
use Rattle.std.proofs.Common.{◌≡◌, ℕ, ◌<◌, ◌≤◌, ◌==◌, Bool, true, false, if◌then◌else◌, Option, Some, unwrap_or, List, [], ap, sym, subst, arith}
use Rattle.std.specs.Prelude.{pos}
use Rattle.pw_value.specs.declared.value.Kind.{Kind}
use Rattle.pw_value.specs.declared.value.Value.{Value}
use Rattle.pw_types.specs.TypeTrees.{QType, RecordValue, type_of}
use Rattle.pw_types.specs.TypedTrees.{Expression, Node, Member, Address, type_at}
use Rattle.pw_types.specs.WellTyped.{IsTyped, HasForm, IsMember, type_in}
use Rattle.pw_flow.specs.declared.flow.FlowFn.{FlowFn}
use Rattle.pw_flow.specs.declared.flow.Op.TheVariants as op
use Rattle.pw_flow.specs.declared.flow.BinKind.TheVariants.{Add}
use Rattle.pw_lower.specs.declared.code.Code.{Code}
use Rattle.pw_lower.specs.Codes.{Lowered, temp_of, constant}
use Rattle.pw_lower.specs.Places.{addressed_in}
use Rattle.pw_lower.specs.Operators.{kind_of, with}
use Rattle.pw_lower.specs.Expressions.{lower, place, further, value_at}
use Rattle.pw_cmean.specs.Acts.{State, Act, give, ◌>>=◌}
use Rattle.pw_cmean.specs.Operators.{advance}
use Rattle.pw_cmean.specs.Evaluation as source
use Rattle.pw_cmean.specs.Evaluation.{site, value_by, answer_of, place_of}
use Rattle.pw_cmean.specs.SourceRun.{calls}
use Rattle.pw_run_languages.specs.FlowRun.{Machine}
use Rattle.pw_law_refine.specs.Standing.{Spot}
use Rattle.pw_law_refine.specs.Activations.{Activation, IsActivation, Numbers, graph_of, home_of, env_of, HaveSlots}
use Rattle.pw_law_refine.specs.Containing.{ContainsCode}
use Rattle.pw_law_refine.specs.Meeting.{Meets}
use Rattle.pw_law_refine.specs.Expressions.{assigned_in, IsReady, HasValue, HasResult, HasTarget, IsOfPlaces, ExpressionKeeps}
use Rattle.pw_law_refine_steps.specs.Results.{HasNewResult}
use Rattle.pw_law_refine_forms.specs.Accesses.{LvalueKeeps, AddressKeeps, TargetSuits}
use Rattle.pw_law_refine_forms.proofs.Laws.{Laws}
use Rattle.pw_law_refine_forms.proofs.Simulation.{meets-then, meets-less, meets-here}
use Rattle.pw_law_refine_forms.proofs.Kit.{before-fresh, value-then, ready-then, operand-stands}
use Rattle.pw_law_refine_forms.proofs.Loads.{fetches, before-value}
use Rattle.pw_law_refine_forms.proofs.Addresses.{no-kind, not-void}
use Rattle.pw_law_refine_forms.proofs.Advances.{advances}

-- ---- the code

before-further : (g : FlowFn) (offset : ℕ) (y : Lowered) → ContainsCode g (further offset y).code → ContainsCode g y.code
before-further g offset y w = by_test (offset == 0) w
  where
    by_test : (b : Bool) → ContainsCode g (if b then y else with Add (temp_of y) (constant offset y.code)).code → ContainsCode g y.code
    by_test true w = w
    by_test false w = before-fresh g (λ t. op.Const t offset) y.code (before-fresh g (λ t. op.Bin Add t (temp_of y) (temp_of (constant offset y.code))) (constant offset y.code).code w)

-- the place of what has the member, in a temporary that the code gave out
temp-is : (c : Code) (y : Lowered) → (new : HasNewResult c y) → temp_of y ≡ new.result
temp-is c y new = ap (λ (r : Option ℕ). unwrap_or r 0) new.is

further-later : (c : Code) (offset : ℕ) (y : Lowered) (new : HasNewResult c y) (b : Bool) → c.temps ≤ y.code.temps
    → (c.temps ≤ (if b then y else with Add (temp_of y) (constant offset y.code)).code.temps)
    × (c.temps ≤ temp_of (if b then y else with Add (temp_of y) (constant offset y.code)))
    × (temp_of (if b then y else with Add (temp_of y) (constant offset y.code)) < (if b then y else with Add (temp_of y) (constant offset y.code)).code.temps)
further-later c offset y new true later = let temp = temp-is c y new in (later, omega (arith, temp, new.since), omega (arith, temp, new.given))
further-later c offset y new false later = (omega (arith, later), omega (arith, later), omega arith)

of-record : (records : List RecordValue) (of ty : QType) (offset : ℕ) → IsMember records of ty offset → IsOfPlaces (type_of of)
of-record records of ty offset m = subst IsOfPlaces (sym m.type_is) tt

-- ---- its place

-- the place of what has the member, and so many bytes further
abbrev goes : Activation → ℕ → Numbers → ℕ → Expression → ℕ → Act Value
goes x bound numbers t a offset = place_of a (calls x.world bound) (env_of x numbers) >>= λ p. advance (site (env_of x numbers) t) p (pos offset)

member-placed :
    Laws → (bound t : ℕ) (a : Expression) (offset : ℕ) (x : Activation) (numbers : Numbers) (spots : List Spot) (c : Code) (s : State) (m : Machine)
    → AddressKeeps bound a → IsActivation x → IsTyped x.home.tree x.function.locals a → HaveSlots x (addressed_in a) → IsOfPlaces (type_in a)
    → ContainsCode (graph_of x) (further offset (lower (home_of x) a c)).code → IsReady x numbers spots c s m
    → Meets x.world bound m (goes x bound numbers t a offset s) (λ v. HasValue x numbers spots (assigned_in a) (further offset (lower (home_of x) a c)) c s m (Some v))
unfolding ◌>>=◌
member-placed laws bound t a offset x numbers spots c s m keeps active typed slots places holds ready =
    let y = lower (home_of x) a c in
    let at = site (env_of x numbers) t in
    let new = laws.results x a c typed slots (not-void (type_in a) places) in
    let temp = temp-is c y new in
    let R : Value → State → Machine → Type 0 = λ v. HasValue x numbers spots (assigned_in a) (further offset y) c s m (Some v) in
    meets-then laws x.world bound m (place_of a (calls x.world bound) (env_of x numbers) s) (λ p. advance at p (pos offset)) (λ v. HasResult x numbers spots a c s m (Some v)) R
    (keeps x numbers spots c s m active typed slots places (before-further (graph_of x) offset y holds) ready)
    (λ v u n q.
    meets-less x.world bound n (advance at v (pos offset) u) (λ w. HasValue x numbers q.done.later.spots [] (further offset y) y.code u n (Some w)) R
    (advances laws bound x numbers q.done.later.spots at offset y u n v (ready-then laws x numbers spots a c s u m n (Some v) ready q) (omega (arith, temp, new.given)) holds q.stands)
    (λ w z r h. value-then laws x numbers spots (assigned_in a) y (further offset y) c s u z m n r (Some v) (Some w) ready.related (laws.later (home_of x) a c).temps q h))

-- ---- the forms

pub member-keeps : Laws → (bound t : ℕ) (ty : QType) (a : Expression) (offset : ℕ) → AddressKeeps bound a → ExpressionKeeps bound (Node t ty (Member a offset))
unfolding lower answer_of ◌>>=◌ IsTyped HasForm source.value_at
member-keeps laws bound t ty a offset keeps = λ x numbers spots c s m active typed slots holds ready.
    let y = further offset (lower (home_of x) a c) in
    let at = site (env_of x numbers) t in
    let k = kind_of (type_of ty) in
    let new = laws.results x a c typed.1.0 slots (not-void (type_in a) (of-record x.home.tree.records (type_at a) ty offset typed.1.1)) in
    let later = further-later c offset (lower (home_of x) a c) new (offset == 0) (laws.later (home_of x) a c).temps in
    meets-then laws x.world bound m (goes x bound numbers t a offset s) (λ place. value_by at (type_of ty) place) (λ v. HasValue x numbers spots (assigned_in a) y c s m (Some v)) (HasResult x numbers spots (Node t ty (Member a offset)) c s m)
    (member-placed laws bound t a offset x numbers spots c s m keeps active typed.1.0 slots (of-record x.home.tree.records (type_at a) ty offset typed.1.1) (before-value (graph_of x) k y holds) ready)
    (λ v u n q.
    meets-less x.world bound n (value_by at (type_of ty) v u) (HasValue x numbers q.done.later.spots [] (value_at k y) y.code u n) (HasResult x numbers spots (Node t ty (Member a offset)) c s m)
    (fetches laws bound x numbers q.done.later.spots (type_of ty) at y u n v (record { related = q.done.later.related; behind = q.behind; temps = omega (arith, ready.temps, later.0) }) holds q.stands)
    (λ result w r h. value-then laws x numbers spots (assigned_in a) y (value_at k y) c s u w m n r (Some v) result ready.related later.0 q h))

pub member-lvalue : Laws → (bound t : ℕ) (ty : QType) (a : Expression) (offset : ℕ) → AddressKeeps bound a → LvalueKeeps bound (Node t ty (Member a offset))
unfolding place place_of IsTyped HasForm
member-lvalue laws bound t ty a offset keeps = λ x numbers spots c s m active typed slots lvalue scalar holds ready.
    let y = further offset (lower (home_of x) a c) in
    meets-less x.world bound m (goes x bound numbers t a offset s) (λ v. HasValue x numbers spots (assigned_in a) y c s m (Some v)) (HasTarget x numbers spots (Node t ty (Member a offset)) c s m)
    (member-placed laws bound t a offset x numbers spots c s m keeps active typed.1.0 slots (of-record x.home.tree.records (type_at a) ty offset typed.1.1) holds ready)
    (λ v u n q. record { done = q.done; behind = q.behind; stands = operand-stands q.done.later.spots v y.temp n q.stands })

pub member-suited : Laws → (x : Activation) (t : ℕ) (ty : QType) (a : Expression) (offset : ℕ) (c : Code) → IsTyped x.home.tree x.function.locals (Node t ty (Member a offset)) → HaveSlots x (addressed_in a) → TargetSuits x (Node t ty (Member a offset)) c
unfolding place IsTyped HasForm
member-suited laws x t ty a offset c typed slots =
    let new = laws.results x a c typed.1.0 slots (not-void (type_in a) (of-record x.home.tree.records (type_at a) ty offset typed.1.1)) in
    let later = further-later c offset (lower (home_of x) a c) new (offset == 0) (laws.later (home_of x) a c).temps in
    record { later = record { temps = later.0; led = (later.1, later.2) }; suits = tt; covers = tt }

pub member-address : Laws → (bound t : ℕ) (ty : QType) (a : Expression) (offset : ℕ) → AddressKeeps bound a → AddressKeeps bound (Node t ty (Member a offset))
unfolding lower place_of IsTyped HasForm
member-address laws bound t ty a offset keeps = λ x numbers spots c s m active typed slots places holds ready.
    let y = further offset (lower (home_of x) a c) in
    let none = no-kind (type_of ty) places in
    subst (λ (k : Option Kind). Meets x.world bound m (goes x bound numbers t a offset s) (λ v. HasValue x numbers spots (assigned_in a) (value_at k y) c s m (Some v))) (sym none)
    (member-placed laws bound t a offset x numbers spots c s m keeps active typed.1.0 slots (of-record x.home.tree.records (type_at a) ty offset typed.1.1)
    (subst (λ (k : Option Kind). ContainsCode (graph_of x) (value_at k y).code) none holds) ready)

pub address-of-member : Laws → (bound t u : ℕ) (ty own : QType) (a : Expression) (offset : ℕ) → AddressKeeps bound a → ExpressionKeeps bound (Node t ty (Address (Node u own (Member a offset))))
unfolding lower answer_of place_of ◌>>=◌ give IsTyped HasForm
address-of-member laws bound t u ty own a offset keeps = λ x numbers spots c s m active typed slots holds ready.
    let y = further offset (lower (home_of x) a c) in
    let R = HasResult x numbers spots (Node t ty (Address (Node u own (Member a offset)))) c s m in
    meets-then laws x.world bound m (goes x bound numbers u a offset s) (λ place. give (Some place)) (λ v. HasValue x numbers spots (assigned_in a) y c s m (Some v)) R
    (member-placed laws bound u a offset x numbers spots c s m keeps active typed.1.0.1.0 slots (of-record x.home.tree.records (type_at a) own offset typed.1.0.1.1) holds ready)
    (λ v w n q. meets-here x.world bound n (Some v) w R (record { done = q.done; behind = q.behind; stands = q.stands }))

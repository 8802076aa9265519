-- Places of arrays, functions, structures and unions, which are their values; and the operators that take a place for a
-- value: `&`, and the decay of arrays and functions.
use Rattle.std.proofs.Common.{◌≡◌, ◌≢◌, ℕ, Bool, false, true≢false, if◌then◌else◌, inl, inr, Option, Some, None, List, [], ◌++◌, refl, ap, sym, ◌∙◌, subst, arith}
use Rattle.std.specs.Prelude.{option_map}
use Rattle.std.proofs.lemmas.List.Elements.{Contains-append_left, Contains-append_right}
use Rattle.pw_value.specs.declared.value.Kind.{Kind}
use Rattle.pw_value.specs.declared.value.Value.{Value}
use Rattle.pw_value.specs.declared.value.Value.TheVariants as V
use Rattle.pw_value.specs.declared.value.Pointer.TheVariants as P
use Rattle.pw_types.specs.TypeTrees.{CType, Void, Int, Pointer as PointerTo, Array, Function, Record, QType, type_of}
use Rattle.pw_types.specs.TypedTrees.{Expression, Node, Local, Deref, Comma, Cond, Decay, Address}
use Rattle.pw_types.specs.WellTyped.{IsTyped, HasForm, Decays, type_in}
use Rattle.pw_lower.specs.declared.code.Code.{Code}
use Rattle.pw_lower.specs.declared.place.LocalPlace.{LocalPlace}
use Rattle.pw_lower.specs.declared.place.LocalPlace.TheVariants.{Temp, Slot}
use Rattle.pw_lower.specs.Codes.{Lowered, lowered_as, cut_here}
use Rattle.pw_lower.specs.Places.{addressed_in}
use Rattle.pw_lower.specs.Operators.{kind_of}
use Rattle.pw_lower.specs.Expressions.{lower, is_void, fork, gives, in_result, value_at, value_of_local, address_of_local}
use Rattle.pw_flow.specs.declared.flow.End.TheVariants.{Jump}
use Rattle.pw_cmean.specs.Acts.{State, Gives, give, stop, wrong, need, ◌>>=◌, go_on}
use Rattle.pw_cmean.specs.Evaluation.{site, used, local_place, answer_of, place_of}
use Rattle.pw_cmean.specs.SourceRun.{calls}
use Rattle.pw_run_languages.specs.FlowRun.{Machine}
use Rattle.pw_law_refine.specs.Standing.{Spot}
use Rattle.pw_law_refine.specs.Activations.{Activation, Numbers, graph_of, home_of, env_of, number_of, place_in, HaveSlots}
use Rattle.pw_law_refine.specs.Containing.{ContainsCode}
use Rattle.pw_law_refine.specs.Meeting.{Meets}
use Rattle.pw_law_refine.specs.Expressions.{assigned_in, IsReady, HasValue, HasResult, IsOfPlaces, ExpressionKeeps}
use Rattle.pw_law_refine_steps.specs.Results.{HasNewResult}
use Rattle.pw_law_refine_forms.specs.Accesses.{AddressKeeps}
use Rattle.pw_law_refine_forms.proofs.Laws.{Laws}
use Rattle.pw_law_refine_forms.proofs.Simulation.{meets-then, meets-less, meets-here}
use Rattle.pw_law_refine_forms.proofs.Kit.{ready-then, HasOperand, operand, value-after}
use Rattle.pw_law_refine_forms.proofs.Loads.{slot-reaches}
use Rattle.pw_law_refine_forms.proofs.Cond.{cond-valued, first-of, second-of, third-of}

-- ---- types whose values are places

pub no-kind : (ty : CType) → IsOfPlaces ty → kind_of ty ≡ None
no-kind (Array q k) h = refl
no-kind (Function r ps) h = refl
no-kind (Record k) h = refl
no-kind Void h = absurd h
no-kind (Int k) h = absurd h
no-kind (PointerTo q) h = absurd h

no-void : (ty : CType) → IsOfPlaces ty → is_void ty ≡ false
no-void (Array q k) h = refl
no-void (Function r ps) h = refl
no-void (Record k) h = refl
no-void Void h = absurd h
no-void (Int k) h = absurd h
no-void (PointerTo q) h = absurd h

pub not-void : (ty : CType) → IsOfPlaces ty → ty ≢ Void
not-void ty h e = true≢false (sym (ap is_void e) ∙ no-void ty h)

-- ---- locals

-- one that is no scalar stands in a slot
local-address-at :
    Laws → (bound : ℕ) (x : Activation) (numbers : Numbers) (spots : List Spot) (c : Code) (s : State) (m : Machine) (k o : ℕ) (p : LocalPlace)
    → IsReady x numbers spots c s m → HasNewResult c (value_of_local None p c) → ContainsCode (graph_of x) (value_of_local None p c).code → number_of numbers k ≡ Some o → place_in x k ≡ p
    → Meets x.world bound m (Gives (V.At (P.Object o 0)) s) (λ v. HasValue x numbers spots [] (value_of_local None p c) c s m (Some v))
local-address-at laws bound x numbers spots c s m k o (Temp t) ready new holds named stood = absurd (omega (arith, new.since, new.given))
local-address-at laws bound x numbers spots c s m k o (Slot n) ready new holds named stood = slot-reaches laws bound x numbers spots c s m k o n ready holds named stood

pub local-address : Laws → (bound t : ℕ) (ty : QType) (k : ℕ) → AddressKeeps bound (Node t ty (Local k))
unfolding lower place_of local_place need give stop wrong
local-address laws bound t ty k = λ x numbers spots c s m active typed slots places holds ready.
    by_number x numbers spots c s m places holds ready (laws.results x (Node t ty (Local k)) c typed slots (not-void (type_of ty) places)) (number_of numbers k) refl
  where
    by_number : (x : Activation) (numbers : Numbers) (spots : List Spot) (c : Code) (s : State) (m : Machine)
        → IsOfPlaces (type_of ty) → ContainsCode (graph_of x) (lower (home_of x) (Node t ty (Local k)) c).code → IsReady x numbers spots c s m
        → HasNewResult c (lower (home_of x) (Node t ty (Local k)) c)
        → (r : Option ℕ) → number_of numbers k ≡ r
        → Meets x.world bound m (need (option_map (λ number. V.At (P.Object number 0)) r) s) (λ v. HasResult x numbers spots (Node t ty (Local k)) c s m (Some v))
    by_number x numbers spots c s m places holds ready new None e = tt
    by_number x numbers spots c s m places holds ready new (Some o) e =
        let none = no-kind (type_of ty) places in
        subst (λ (i : Option Kind). Meets x.world bound m (Gives (V.At (P.Object o 0)) s) (λ v. HasValue x numbers spots [] (value_of_local i (place_in x k) c) c s m (Some v))) (sym none)
        (local-address-at laws bound x numbers spots c s m k o (place_in x k) ready
        (subst (λ (i : Option Kind). HasNewResult c (value_of_local i (place_in x k) c)) none new)
        (subst (λ (i : Option Kind). ContainsCode (graph_of x) (value_of_local i (place_in x k) c).code) none holds) e refl)

-- ---- through a pointer, behind a comma, of one of two operands

pub deref-address : Laws → (bound t : ℕ) (ty : QType) (a : Expression) → ExpressionKeeps bound a → AddressKeeps bound (Node t ty (Deref a))
unfolding lower place_of IsTyped HasForm
deref-address laws bound t ty a keeps = λ x numbers spots c s m active typed slots places holds ready.
    let y = lower (home_of x) a c in
    let at = site (env_of x numbers) t in
    let none = no-kind (type_of ty) places in
    let whole : ContainsCode (graph_of x) y.code = subst (λ (k : Option Kind). ContainsCode (graph_of x) (value_at k y).code) none holds in
    subst (λ (k : Option Kind). Meets x.world bound m ((answer_of a (calls x.world bound) (env_of x numbers) >>= used at) s) (λ v. HasValue x numbers spots (assigned_in a) (value_at k y) c s m (Some v))) (sym none)
    (meets-less x.world bound m ((answer_of a (calls x.world bound) (env_of x numbers) >>= used at) s) (HasOperand x numbers spots a c s m) (λ v. HasValue x numbers spots (assigned_in a) y c s m (Some v))
    (operand laws bound x numbers spots a c s m at active typed.1.0 ready.related.matches.bytes (keeps x numbers spots c s m active typed.1.0 slots whole ready))
    (λ v u n q. q.0))

pub comma-address : Laws → (bound t : ℕ) (ty : QType) (a b : Expression) → ExpressionKeeps bound a → AddressKeeps bound b → AddressKeeps bound (Node t ty (Comma a b))
unfolding lower place_of ◌>>=◌ IsTyped HasForm
comma-address laws bound t ty a b first second = λ x numbers spots c s m active typed slots places holds ready.
    let h = home_of x in
    let d = (lower h a c).code in
    let R : Value → State → Machine → Type 0 = λ v. HasResult x numbers spots (Node t ty (Comma a b)) c s m (Some v) in
    meets-then laws x.world bound m (answer_of a (calls x.world bound) (env_of x numbers) s) _ (HasResult x numbers spots a c s m) R
    (first x numbers spots c s m active typed.1.0 (λ k there. slots k (Contains-append_left (addressed_in a) (addressed_in b) k there)) (laws.contain (graph_of x) h b d holds) ready)
    (λ result u n v.
    meets-less x.world bound n (place_of b (calls x.world bound) (env_of x numbers) u) (λ r. HasResult x numbers v.done.later.spots b d u n (Some r)) R
    (second x numbers v.done.later.spots d u n active typed.1.1 (λ k there. slots k (Contains-append_right (addressed_in a) (addressed_in b) k there)) (subst IsOfPlaces (sym typed.1.2) places) holds
    (ready-then laws x numbers spots a c s u m n result ready v))
    (λ answer w r e. value-after laws x numbers spots (assigned_in a) (assigned_in b) (assigned_in a ++ assigned_in b) (lower h b d) c d s u w m n r (Some answer) ready.related (laws.later h a c).temps
    (λ k there. Contains-append_left (assigned_in a) (assigned_in b) k there) (λ k there. Contains-append_right (assigned_in a) (assigned_in b) k there) v.done e))

pub cond-address : Laws → (bound t : ℕ) (ty : QType) (a b e : Expression) → ExpressionKeeps bound a → AddressKeeps bound b → AddressKeeps bound e → AddressKeeps bound (Node t ty (Cond a b e))
unfolding lower place_of IsTyped HasForm
cond-address laws bound t ty a b e keeps first second = λ x numbers spots c s m active typed slots places holds ready.
    let h = home_of x in
    let f = fork 0 (lower h a c) in
    let so = cut_here (Jump f.join) f.if_not (lower h b f.code).code in
    let none = lowered_as None (cut_here (Jump f.join) f.join (lower h e so).code) in
    let g = fork 1 (lower h a c) in
    let too = cut_here (Jump g.join) g.if_not (gives g.result (lower h b g.code)) in
    let one = in_result g.result (cut_here (Jump g.join) g.join (gives g.result (lower h e too))) in
    let chosen : (if is_void (type_of ty) then none else one) ≡ one = ap (λ (v : Bool). if v then none else one) (no-void (type_of ty) places) in
    let slots-a : HaveSlots x (addressed_in a) = λ i there. slots i (first-of (addressed_in a) (addressed_in b) (addressed_in e) i there) in
    let slots-b : HaveSlots x (addressed_in b) = λ i there. slots i (second-of (addressed_in a) (addressed_in b) (addressed_in e) i there) in
    let slots-e : HaveSlots x (addressed_in e) = λ i there. slots i (third-of (addressed_in a) (addressed_in b) (addressed_in e) i there) in
    subst (λ (y : Lowered). Meets x.world bound m (place_of (Node t ty (Cond a b e)) (calls x.world bound) (env_of x numbers) s) (λ v. HasValue x numbers spots (assigned_in a ++ assigned_in b ++ assigned_in e) y c s m (Some v))) (sym chosen)
    (cond-valued laws bound t a b e x numbers spots c s m (place_of b (calls x.world bound) (env_of x numbers)) (place_of e (calls x.world bound) (env_of x numbers)) (λ v. Some v) active typed.1.0 slots-a keeps ready
    (subst (λ (y : Lowered). ContainsCode (graph_of x) y.code) chosen holds)
    (λ spots' d u n in-b again. first x numbers spots' d u n active typed.1.1 slots-b (subst IsOfPlaces (sym typed.1.4) places) in-b again)
    (λ spots' d u n in-e again. second x numbers spots' d u n active typed.1.2 slots-e (subst IsOfPlaces (sym typed.1.5) places) in-e again))

-- ---- operators that take a place for a value

decay-places : (a : Expression) (to : CType) → Decays a to → IsOfPlaces (type_in a)
decay-places a to (inl l) = subst IsOfPlaces (sym l.1.2) tt
decay-places a to (inr r) = subst IsOfPlaces (sym r.1.2) tt

pub decay-keeps : Laws → (bound t : ℕ) (ty : QType) (a : Expression) → AddressKeeps bound a → ExpressionKeeps bound (Node t ty (Decay a))
unfolding lower answer_of ◌>>=◌ give IsTyped HasForm
decay-keeps laws bound t ty a keeps = λ x numbers spots c s m active typed slots holds ready.
    meets-then laws x.world bound m (place_of a (calls x.world bound) (env_of x numbers) s) (λ place. give (Some place)) (λ v. HasResult x numbers spots a c s m (Some v)) (HasResult x numbers spots (Node t ty (Decay a)) c s m)
    (keeps x numbers spots c s m active typed.1.0 slots (decay-places a (type_of ty) typed.1.1) holds ready)
    (λ v u n q. meets-here x.world bound n (Some v) u (HasResult x numbers spots (Node t ty (Decay a)) c s m) (record { done = q.done; behind = q.behind; stands = q.stands }))

-- `&*a` is a
pub address-of-deref : Laws → (bound t u : ℕ) (ty own : QType) (a : Expression) → ExpressionKeeps bound a → ExpressionKeeps bound (Node t ty (Address (Node u own (Deref a))))
unfolding lower answer_of place_of ◌>>=◌ give IsTyped HasForm
address-of-deref laws bound t u ty own a keeps = λ x numbers spots c s m active typed slots holds ready.
    let at = site (env_of x numbers) u in
    meets-then laws x.world bound m ((answer_of a (calls x.world bound) (env_of x numbers) >>= used at) s) (λ place. give (Some place)) (HasOperand x numbers spots a c s m) (HasResult x numbers spots (Node t ty (Address (Node u own (Deref a)))) c s m)
    (operand laws bound x numbers spots a c s m at active typed.1.0.1.0 ready.related.matches.bytes (keeps x numbers spots c s m active typed.1.0.1.0 slots holds ready))
    (λ v w n q. meets-here x.world bound n (Some v) w (HasResult x numbers spots (Node t ty (Address (Node u own (Deref a)))) c s m) (record { done = q.0.done; behind = q.0.behind; stands = q.0.stands }))

pub address-of-local : Laws → (bound t u : ℕ) (ty own : QType) (k : ℕ) → ExpressionKeeps bound (Node t ty (Address (Node u own (Local k))))
unfolding lower answer_of place_of local_place need give stop wrong ◌>>=◌ go_on
address-of-local laws bound t u ty own k = λ x numbers spots c s m active typed slots holds ready.
    by_number x numbers spots c s m (slots k (0, omega arith, refl)) holds ready (number_of numbers k) refl
  where
    by_number : (x : Activation) (numbers : Numbers) (spots : List Spot) (c : Code) (s : State) (m : Machine) → (n : ℕ) × (place_in x k ≡ Slot n)
        → ContainsCode (graph_of x) (address_of_local (place_in x k) c).code → IsReady x numbers spots c s m
        → (r : Option ℕ) → number_of numbers k ≡ r
        → Meets x.world bound m ((need (option_map (λ number. V.At (P.Object number 0)) r) >>= λ place. give (Some place)) s) (HasValue x numbers spots [] (address_of_local (place_in x k) c) c s m)
    by_number x numbers spots c s m slot holds ready None e = tt
    by_number x numbers spots c s m slot holds ready (Some o) e =
        subst (λ (p : LocalPlace). Meets x.world bound m (Gives (Some (V.At (P.Object o 0))) s) (HasValue x numbers spots [] (address_of_local p c) c s m)) (sym slot.1)
        (slot-reaches laws bound x numbers spots c s m k o slot.0 ready (subst (λ (p : LocalPlace). ContainsCode (graph_of x) (address_of_local p c).code) slot.1 holds) e slot.1)

-- Assignments of scalars (C90 6.3.16.1).
use Rattle.std.proofs.Common.{◌≡◌, ℕ, ◌<◌, ◌≤◌, Bool, true, false, true≢false, if◌then◌else◌, Option, Some, None, unwrap_or, List, ◌++◌, Contains, refl, ap, sym, ◌∙◌, subst, arith}
use Rattle.std.proofs.lemmas.List.Elements.{Contains-append_left, Contains-append_right}
use Rattle.pw_value.specs.declared.value.Kind.{Kind}
use Rattle.pw_value.specs.declared.value.Value.{Value}
use Rattle.pw_types.specs.TypeTrees.{CType, Void, Int, Pointer as PointerTo, Array, Function, Record, QType, type_of, RecordValue}
use Rattle.pw_types.specs.TypedTrees.{Expression, Node, Assign}
use Rattle.pw_types.specs.WellTyped.{IsTyped, HasForm, IsScalar, type_in}
use Rattle.pw_flow.specs.declared.flow.FlowFn.{FlowFn}
use Rattle.pw_flow.specs.declared.flow.Op.TheVariants as op
use Rattle.pw_lower.specs.declared.code.Code.{Code}
use Rattle.pw_lower.specs.declared.place.Target.{Target}
use Rattle.pw_lower.specs.declared.place.Target.TheVariants.{Kept, Named, Led}
use Rattle.pw_lower.specs.Codes.{Lowered, temp_of, lowered_as}
use Rattle.pw_lower.specs.Places.{local_in, addressed_in}
use Rattle.pw_lower.specs.Operators.{kind_of}
use Rattle.pw_lower.specs.Expressions.{Placed, lower, place, is_record, write, stored, copied, scalar_kind}
use Rattle.pw_cmean.specs.Acts.{State, Site, Act, give, ◌>>=◌, go_on}
use Rattle.pw_cmean.specs.Access.{Purpose, Assigning, store, put}
use Rattle.pw_cmean.specs.Evaluation.{site, used, assigned, answer_of, place_of}
use Rattle.pw_cmean.specs.SourceRun.{calls}
use Rattle.pw_cmean.specs.Typed.{IsValueOf}
use Rattle.pw_run_languages.specs.FlowRun.{Machine, value_in}
use Rattle.pw_law_refine.specs.Standing.{Spot, Stands}
use Rattle.pw_law_refine.specs.Activations.{Activation, Numbers, graph_of, home_of, env_of, HaveSlots}
use Rattle.pw_law_refine.specs.Containing.{ContainsCode}
use Rattle.pw_law_refine.specs.Meeting.{Meets}
use Rattle.pw_law_refine.specs.Expressions.{assigned_in, IsReady, HasValue, HasResult, HasTarget, ResultStands, TargetStands, ExpressionKeeps}
use Rattle.pw_law_refine_forms.specs.Accesses.{LvalueKeeps, IsLedSince, TargetsSuit}
use Rattle.pw_law_refine_forms.proofs.Laws.{Laws}
use Rattle.pw_law_refine_forms.proofs.Simulation.{meets-then, meets-here}
use Rattle.pw_law_refine_forms.proofs.Kit.{before-emit, value-after, stays, HasOperand, operand, operand-stands}
use Rattle.pw_law_refine_forms.proofs.Truths.{scalar-not-void}
use Rattle.pw_law_refine_forms.proofs.Access.{writes}

-- ---- by the type

pub scalar-of : (ty : CType) → IsScalar ty → kind_of ty ≡ Some (scalar_kind ty)
scalar-of (Int k) h = refl
scalar-of (PointerTo q) h = refl
scalar-of Void h = absurd h
scalar-of (Array q k) h = absurd h
scalar-of (Function r ps) h = absurd h
scalar-of (Record k) h = absurd h

pub no-record : (ty : CType) → IsScalar ty → is_record ty ≡ false
no-record (Int k) h = refl
no-record (PointerTo q) h = refl
no-record Void h = absurd h
no-record (Array q k) h = absurd h
no-record (Function r ps) h = absurd h
no-record (Record k) h = absurd h

pub puts-scalar : (purpose : Purpose) (at : Site) (records : List RecordValue) (ty : CType) (place v : Value) → IsScalar ty → put purpose at records ty place v ≡ store purpose at ty place v
unfolding put
puts-scalar purpose at records (Int k) place v h = refl
puts-scalar purpose at records (PointerTo q) place v h = refl
puts-scalar purpose at records Void place v h = absurd h
puts-scalar purpose at records (Array q k) place v h = absurd h
puts-scalar purpose at records (Function r ps) place v h = absurd h
puts-scalar purpose at records (Record k) place v h = absurd h

assigned-scalar : (ty : CType) (place v : Value) → IsScalar ty → assigned ty place v ≡ v
assigned-scalar (Int k) place v h = refl
assigned-scalar (PointerTo q) place v h = refl
assigned-scalar Void place v h = absurd h
assigned-scalar (Array q k) place v h = absurd h
assigned-scalar (Function r ps) place v h = absurd h
assigned-scalar (Record k) place v h = absurd h

-- ---- targets

pub before-write : (g : FlowFn) (k : Kind) (target : Target) (t : ℕ) (c : Code) → ContainsCode g (write k target t c) → ContainsCode g c
before-write g k (Kept x) t c w = before-emit g (op.Copy x t) c w
before-write g k (Named n) t c w = before-emit g (op.StoreG n t k) c w
before-write g k (Led a) t c w = before-emit g (op.Store k a t) c w

-- a target goes on to stand where its address, if it is one, does
pub target-later : Laws → (x : Activation) (numbers : Numbers) (spots later : List Spot) (place : Value) (target : Target) (m n : Machine)
    → ((new : List Spot) × (later ≡ spots ++ new)) → ((t : ℕ) → target ≡ Led t → value_in n.frame t ≡ value_in m.frame t)
    → TargetStands x numbers spots place target m → TargetStands x numbers later place target n
target-later laws x numbers spots later place (Kept t) m n more same st = st
target-later laws x numbers spots later place (Named g) m n more same st = st
target-later laws x numbers spots later place (Led t) m n more same st =
    subst (λ (w : Value). Stands later place w) (sym (same t refl)) (laws.stands spots later place (value_in m.frame t) more st)

led-of : Target → ℕ
led-of (Led t) = t
led-of (Kept t) = 0
led-of (Named g) = 0

pub led-since : (c : Code) (p : Placed) (target : Target) (t : ℕ) → target ≡ Led t → IsLedSince c p target → (c.temps ≤ t) × (t < p.code.temps)
led-since c p target t e h = subst (λ (u : Target). IsLedSince c p u) e h

pub result-stands : (spots : List Spot) (v : Value) (t : Option ℕ) (r : ℕ) (n : Machine) → t ≡ Some r → Stands spots v (value_in n.frame (unwrap_or t 0)) → ResultStands spots (Some v) t n
result-stands spots v (Some t) r n e h = h
result-stands spots v None r n e h = absurd (no-temp r e)
  where
    is_there : Option ℕ → Bool
    is_there None = false
    is_there (Some t) = true

    no-temp : (r : ℕ) → None ≡ Some r → ⊥
    no-temp r e = true≢false (sym (ap is_there e))

-- behind the code of a place the machine is ready for what comes next
pub ready-placed : (x : Activation) (numbers : Numbers) (spots : List Spot) (a : Expression) (c : Code) (s u : State) (m n : Machine) (v : Value)
    → IsReady x numbers spots c s m → c.temps ≤ (place (home_of x) a c).code.temps → (h : HasTarget x numbers spots a c s m v u n)
    → IsReady x numbers h.done.later.spots (place (home_of x) a c).code u n
ready-placed x numbers spots a c s u m n v ready more h = record { related = h.done.later.related; behind = h.behind; temps = omega (arith, ready.temps, more) }

-- ---- the form

pub assign-keeps : Laws → (bound t : ℕ) (ty : QType) (a b : Expression) → IsScalar (type_in a) → TargetsSuit a
    → LvalueKeeps bound a → ExpressionKeeps bound b → ExpressionKeeps bound (Node t ty (Assign a b))
unfolding lower answer_of ◌>>=◌ IsTyped HasForm give go_on
assign-keeps laws bound t ty a b scalar suited first second = λ x numbers spots c s m active typed slots holds ready.
    let h = home_of x in
    let U = type_in a in
    let k = scalar_kind (type_of ty) in
    let p = place h a c in
    let y = lower h b p.code in
    let z = stored k p.target y in
    let x-rec = lower h a c in
    let other = copied h.records (type_of ty) (temp_of x-rec) (lower h b x-rec.code) in
    let at = site (env_of x numbers) t in
    let same : U ≡ type_of ty = typed.1.3 in
    let scalar-ty : IsScalar (type_of ty) = subst IsScalar same scalar in
    let chosen : (if is_record (type_of ty) then other else z) ≡ z = ap (λ (r : Bool). if r then other else z) (no-record (type_of ty) scalar-ty) in
    let whole : ContainsCode (graph_of x) z.code = subst (λ (l : Lowered). ContainsCode (graph_of x) l.code) chosen holds in
    let in-b = before-write (graph_of x) k p.target (temp_of y) y.code whole in
    let slots-a : HaveSlots x (addressed_in a) = λ i e. slots i (Contains-append_left (addressed_in a) (addressed_in b) i e) in
    let slots-b : HaveSlots x (addressed_in b) = λ i e. slots i (Contains-append_right (addressed_in a) (addressed_in b) i e) in
    let suits = suited x c active typed.1.0 slots-a typed.1.2.lvalue scalar in
    let new = laws.results x b p.code typed.1.1 slots-b (scalar-not-void (type_in b) (subst IsScalar (sym typed.1.4) scalar-ty)) in
    let temp : temp_of y ≡ new.result = ap (λ (r : Option ℕ). unwrap_or r 0) new.is in
    let kind : kind_of U ≡ Some k = ap kind_of same ∙ scalar-of (type_of ty) scalar-ty in
    let la = local_in a in
    let all = la ++ assigned_in a ++ assigned_in b in
    let from-la : (i : ℕ) → Contains la i → Contains all i = λ i e. Contains-append_left (la ++ assigned_in a) (assigned_in b) i (Contains-append_left la (assigned_in a) i e) in
    let from-a : (i : ℕ) → Contains (assigned_in a) i → Contains all i = λ i e. Contains-append_left (la ++ assigned_in a) (assigned_in b) i (Contains-append_right la (assigned_in a) i e) in
    let from-b : (i : ℕ) → Contains (assigned_in b) i → Contains all i = λ i e. Contains-append_right (la ++ assigned_in a) (assigned_in b) i e in
    let R = HasResult x numbers spots (Node t ty (Assign a b)) c s m in
    meets-then laws x.world bound m (place_of a (calls x.world bound) (env_of x numbers) s) _ (HasTarget x numbers spots a c s m) R
    (first x numbers spots c s m active typed.1.0 slots-a typed.1.2.lvalue scalar (laws.contain (graph_of x) h b p.code in-b) ready)
    (λ v u n q.
    let again = ready-placed x numbers spots a c s u m n v ready suits.later.temps q in
    meets-then laws x.world bound n ((answer_of b (calls x.world bound) (env_of x numbers) >>= used at) u) _ (HasOperand x numbers q.done.later.spots b p.code u n) R
    (operand laws bound x numbers q.done.later.spots b p.code u n at active typed.1.1 q.done.later.related.matches.bytes
    (second x numbers q.done.later.spots p.code u n active typed.1.1 slots-b in-b again))
    (λ w u' n' q'.
    let later = q'.0.done.later.spots in
    let target = target-later laws x numbers q.done.later.spots later v p.target n n' q'.0.done.later.lasts.more
    (λ i e. let l = led-since c p p.target i e suits.later.led in stays laws x numbers q.done.later.spots b p.code i u u' n n' typed.1.1 (omega (arith, l.0, ready.temps)) l.1 q'.0.done) q.stands in
    subst (λ (act : Act (Unit {0})). Meets x.world bound n' ((act >>= λ done. give (Some (assigned U v w))) u') R) (sym (puts-scalar Assigning at x.home.tree.records U v w scalar))
    (meets-then laws x.world bound n' (store Assigning at U v w u') (λ done. give (Some (assigned U v w)))
    (λ done. HasValue x numbers later la (lowered_as (Some (temp_of y)) (write k p.target (temp_of y) y.code)) y.code u' n' (Some w)) R
    (writes laws bound x numbers later la Assigning U k at p.target (temp_of y) y.code u' n' v w kind
    (record { related = q'.0.done.later.related; behind = q'.0.behind; temps = omega (arith, ready.temps, suits.later.temps, (laws.later h b p.code).temps) })
    whole suits.suits suits.covers (omega (arith, temp, new.since, ready.temps, suits.later.temps)) (subst (λ (T : CType). IsValueOf T w) (typed.1.4 ∙ sym same) q'.1) (operand-stands later w y.temp n' q'.0.stands) target)
    (λ done u'' n'' e.
    meets-here x.world bound n'' (Some (assigned U v w)) u'' R
    (subst (λ (l : Lowered). HasValue x numbers spots all l c s m (Some (assigned U v w)) u'' n'') (sym chosen)
    (subst (λ (r : Value). HasValue x numbers spots all z c s m (Some r) u'' n'') (sym (assigned-scalar U v w scalar))
    (value-after laws x numbers spots (assigned_in a) all all z c p.code s u u'' m n n'' (Some w) ready.related suits.later.temps from-a (λ i e. e) q.done
    (value-after laws x numbers q.done.later.spots (assigned_in b) la all z p.code y.code u u' u'' n n' n'' (Some w) q.done.later.related (laws.later h b p.code).temps from-b from-la q'.0.done
    (record { done = e.done; behind = e.behind; stands = result-stands e.done.later.spots w y.temp new.result n'' new.is e.stands })))))))))

-- Places of scalar lvalues: of locals, and through pointers.
use Rattle.std.proofs.Common.{◌≡◌, ℕ, Option, Some, None, unwrap_or, List, [], ◌∷◌, slice_get, refl, ap, sym, ◌∙◌, arith}
use Rattle.std.specs.Prelude.{option_map}
use Rattle.pw_value.specs.declared.value.Value.{Value}
use Rattle.pw_value.specs.declared.value.Value.TheVariants as V
use Rattle.pw_value.specs.declared.value.Pointer.TheVariants as P
use Rattle.pw_types.specs.TypeTrees.{CType, Pointer as PointerTo, QType, type_of}
use Rattle.pw_types.specs.TypedTrees.{Expression, Node, Local, Deref, LocalValue}
use Rattle.pw_types.specs.WellTyped.{IsTyped, HasForm}
use Rattle.pw_lower.specs.declared.code.Code.{Code}
use Rattle.pw_lower.specs.declared.place.LocalPlace.{LocalPlace}
use Rattle.pw_lower.specs.declared.place.LocalPlace.TheVariants.{Temp, Slot}
use Rattle.pw_lower.specs.Codes.{temp_of}
use Rattle.pw_lower.specs.Places.{addressed_in}
use Rattle.pw_lower.specs.Expressions.{Placed, lower, place, address_of_local, target_of_local}
use Rattle.pw_cmean.specs.Acts.{State, Gives, give, stop, wrong, need, ◌>>=◌}
use Rattle.pw_cmean.specs.Evaluation.{site, used, local_place, answer_of, place_of}
use Rattle.pw_cmean.specs.SourceRun.{calls}
use Rattle.pw_run_languages.specs.FlowRun.{Machine}
use Rattle.pw_law_refine.specs.Standing.{Spot}
use Rattle.pw_law_refine.specs.Activations.{Activation, Numbers, graph_of, home_of, env_of, number_of, place_in, HaveSlots}
use Rattle.pw_law_refine.specs.Containing.{ContainsCode, IsBehind}
use Rattle.pw_law_refine.specs.Meeting.{Meets}
use Rattle.pw_law_refine.specs.Expressions.{IsReady, IsDone, HasValue, HasTarget, TargetStands, ExpressionKeeps}
use Rattle.pw_law_refine_forms.specs.Accesses.{SuitsType, Covers, LvalueKeeps, ComesLater, TargetSuits}
use Rattle.pw_law_refine_forms.proofs.Laws.{Laws}
use Rattle.pw_law_refine_forms.proofs.Simulation.{meets-less, meets-here}
use Rattle.pw_law_refine_forms.proofs.Kit.{nothing-done, HasOperand, operand, operand-stands}
use Rattle.pw_law_refine_forms.proofs.Loads.{slot-reaches, local-suits}
use Rattle.pw_law_refine_forms.proofs.Truths.{scalar-not-void}

-- ---- locals

-- what is known of a place behind its code
record HasPlaced (x : Activation) (numbers : Numbers) (spots : List Spot) (p : Placed) (c : Code) (s : State) (m : Machine) (v : Value) (t : State) (n : Machine) : Type 0 where
  done : IsDone x numbers spots [] c s m t n
  behind : IsBehind (graph_of x) p.code n
  stands : TargetStands x numbers done.later.spots v p.target n

local-placed :
    Laws → (bound : ℕ) (x : Activation) (numbers : Numbers) (spots : List Spot) (c : Code) (s : State) (m : Machine) (k o : ℕ) (p : LocalPlace)
    → IsReady x numbers spots c s m → ContainsCode (graph_of x) (target_of_local p c).code → number_of numbers k ≡ Some o → place_in x k ≡ p
    → Meets x.world bound m (Gives (V.At (P.Object o 0)) s) (HasPlaced x numbers spots (target_of_local p c) c s m)
unfolding nothing-done
local-placed laws bound x numbers spots c s m k o (Temp t) ready holds named stood =
    meets-here x.world bound m (V.At (P.Object o 0)) s (HasPlaced x numbers spots (target_of_local (Temp t) c) c s m)
    (record { done = nothing-done x numbers spots [] c s m ready.related; behind = ready.behind; stands = (k, o, named, stood, refl) })
local-placed laws bound x numbers spots c s m k o (Slot n) ready holds named stood =
    meets-less x.world bound m (Gives (V.At (P.Object o 0)) s) (λ v. HasValue x numbers spots [] (address_of_local (Slot n) c) c s m (Some v)) (HasPlaced x numbers spots (target_of_local (Slot n) c) c s m)
    (slot-reaches laws bound x numbers spots c s m k o n ready holds named stood)
    (λ v t q h. record { done = h.done; behind = h.behind; stands = h.stands })

pub local-lvalue : Laws → (bound t : ℕ) (ty : QType) (k : ℕ) → LvalueKeeps bound (Node t ty (Local k))
unfolding place place_of local_place need give stop wrong
local-lvalue laws bound t ty k = λ x numbers spots c s m active typed slots lvalue scalar holds ready.
    by_number x numbers spots c s m holds ready (number_of numbers k) refl
  where
    by_number : (x : Activation) (numbers : Numbers) (spots : List Spot) (c : Code) (s : State) (m : Machine)
        → ContainsCode (graph_of x) (place (home_of x) (Node t ty (Local k)) c).code → IsReady x numbers spots c s m
        → (r : Option ℕ) → number_of numbers k ≡ r
        → Meets x.world bound m (need (option_map (λ number. V.At (P.Object number 0)) r) s) (HasTarget x numbers spots (Node t ty (Local k)) c s m)
    by_number x numbers spots c s m holds ready None e = tt
    by_number x numbers spots c s m holds ready (Some o) e =
        meets-less x.world bound m (Gives (V.At (P.Object o 0)) s) (HasPlaced x numbers spots (target_of_local (place_in x k) c) c s m) (HasTarget x numbers spots (Node t ty (Local k)) c s m)
        (local-placed laws bound x numbers spots c s m k o (place_in x k) ready holds e refl)
        (λ v u n h. record { done = h.done; behind = h.behind; stands = h.stands })

-- ---- through a pointer

pub deref-lvalue : Laws → (bound t : ℕ) (ty : QType) (a : Expression) → ExpressionKeeps bound a → LvalueKeeps bound (Node t ty (Deref a))
unfolding place place_of IsTyped HasForm
deref-lvalue laws bound t ty a keeps = λ x numbers spots c s m active typed slots lvalue scalar holds ready.
    let y = lower (home_of x) a c in
    let at = site (env_of x numbers) t in
    meets-less x.world bound m ((answer_of a (calls x.world bound) (env_of x numbers) >>= used at) s) (HasOperand x numbers spots a c s m) (HasTarget x numbers spots (Node t ty (Deref a)) c s m)
    (operand laws bound x numbers spots a c s m at active typed.1.0 ready.related.matches.bytes (keeps x numbers spots c s m active typed.1.0 slots holds ready))
    (λ v u n q. record { done = q.0.done; behind = q.0.behind; stands = operand-stands q.0.done.later.spots v y.temp n q.0.stands })

-- ---- what is known of the target without a run

-- of a local
local-later : (c : Code) (p : LocalPlace) → ComesLater c (target_of_local p c)
local-later c (Temp t) = record { temps = omega arith; led = tt }
local-later c (Slot n) = record { temps = omega arith; led = (omega arith, omega arith) }

local-target : (x : Activation) (ty : CType) (k : ℕ) (c : Code) (l : LocalValue) (p : LocalPlace) → slice_get x.function.locals k ≡ Some l → type_of l.ty ≡ ty → place_in x k ≡ p
    → SuitsType x ty (target_of_local p c).target × Covers x (k ∷ []) (target_of_local p c).target
local-target x ty k c l (Temp t) there is stood = (local-suits x k t l ty there is stood, (k, (0, omega arith, refl), stood))
local-target x ty k c l (Slot n) there is stood = (tt, tt)

pub local-suited : (x : Activation) (t : ℕ) (ty : QType) (k : ℕ) (c : Code) → IsTyped x.home.tree x.function.locals (Node t ty (Local k)) → TargetSuits x (Node t ty (Local k)) c
unfolding place IsTyped HasForm
local-suited x t ty k c typed =
    let h = local-target x (type_of ty) k c typed.1.0 (place_in x k) typed.1.1 (ap type_of typed.1.2) refl in
    record { later = local-later c (place_in x k); suits = h.0; covers = h.1 }

pub deref-suited : Laws → (x : Activation) (t : ℕ) (ty : QType) (a : Expression) (c : Code) → IsTyped x.home.tree x.function.locals (Node t ty (Deref a)) → HaveSlots x (addressed_in a) → TargetSuits x (Node t ty (Deref a)) c
unfolding place IsTyped HasForm
deref-suited laws x t ty a c typed slots =
    let new = laws.results x a c typed.1.0 slots (λ e. scalar-not-void (PointerTo ty) tt (sym typed.1.1 ∙ e)) in
    let temp : temp_of (lower (home_of x) a c) ≡ new.result = ap (λ (r : Option ℕ). unwrap_or r 0) new.is in
    record { later = record { temps = (laws.later (home_of x) a c).temps; led = (omega (arith, temp, new.since), omega (arith, temp, new.given)) }; suits = tt; covers = tt }

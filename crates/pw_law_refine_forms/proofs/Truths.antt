-- `!`, `&&`, `||`, and conditions.
use Rattle.std.proofs.Common.{◌≡◌, ◌≢◌, ℕ, ◌<◌, Bool, true, false, true≢false, not, Option, Some, unwrap_or, List, [], refl, ap, sym, ◌∙◌, subst, arith}
use Rattle.pw_value.specs.declared.value.Value.{Value}
use Rattle.pw_value.specs.declared.value.Value.TheVariants as V
use Rattle.pw_types.specs.TypeTrees.{CType, Void, Int, Pointer as PointerTo, Array, Function, Record, QType}
use Rattle.pw_types.specs.declared.tree.UnaryOperator.TheVariants.{Not}
use Rattle.pw_types.specs.TypedTrees.{Expression, Node, Unary}
use Rattle.pw_types.specs.WellTyped.{IsTyped, HasForm, IsScalar, type_in}
use Rattle.pw_flow.specs.declared.flow.Op.TheVariants as op
use Rattle.pw_flow.specs.declared.flow.BinKind.{BinKind}
use Rattle.pw_flow.specs.declared.flow.BinKind.TheVariants.{Eq}
use Rattle.pw_lower.specs.declared.code.Code.{Code}
use Rattle.pw_lower.specs.Codes.{Lowered, temp_of, fresh, constant}
use Rattle.pw_lower.specs.Expressions.{lower}
use Rattle.pw_cmean.specs.Acts.{State, Site, Act, Gives, give, ◌>>=◌, go_on}
use Rattle.pw_cmean.specs.Operators.{number_for, truth, unary}
use Rattle.pw_cmean.specs.Evaluation.{site, used, answer_of}
use Rattle.pw_cmean.specs.SourceRun.{calls}
use Rattle.pw_run_languages.specs.Commands.{command}
use Rattle.pw_run_languages.specs.Values as flow
use Rattle.pw_run_languages.specs.FlowRun as run
use Rattle.pw_run_languages.specs.FlowRun.{Machine, value_in}
use Rattle.pw_law_refine.specs.Standing.{Spot, Stands}
use Rattle.pw_law_refine.specs.Activations.{Activation, Numbers, graph_of, home_of, env_of}
use Rattle.pw_law_refine.specs.Containing.{ContainsCode}
use Rattle.pw_law_refine.specs.Meeting.{Meets}
use Rattle.pw_law_refine.specs.Expressions.{assigned_in, IsReady, HasValue, HasResult, ExpressionKeeps}
use Rattle.pw_law_refine_forms.proofs.Laws.{Laws}
use Rattle.pw_law_refine_forms.proofs.Simulation.{meets-then, meets-less, meets-later, meets-here}
use Rattle.pw_law_refine_forms.proofs.Kit.{before-fresh, value-then, ready-then, none-in, HasOperand, operand, operand-stands}
use Rattle.pw_law_refine_forms.proofs.Branches.{IsTruth, truth-meets}

is_scalar_type : CType → Bool
is_scalar_type (Int k) = true
is_scalar_type (PointerTo q) = true
is_scalar_type _ = false

pub scalar-not-void : (ty : CType) → IsScalar ty → ty ≢ Void
unfolding is_scalar_type
scalar-not-void (Int k) h e = true≢false (ap is_scalar_type e)
scalar-not-void (PointerTo q) h e = true≢false (ap is_scalar_type e)
scalar-not-void Void h e = absurd h
scalar-not-void (Array q k) h e = absurd h
scalar-not-void (Function r ps) h e = absurd h
scalar-not-void (Record k) h e = absurd h

pub truth-is : (b : Bool) → flow.truth b ≡ V.Num (number_for b)
truth-is true = refl
truth-is false = refl

-- ---- a comparison with 0

-- Behind the code d a temporary t has a value. Behind a 0 in a new temporary, a comparison of the two gives the truth of
-- the value, or its opposite.
abbrev compare : BinKind → ℕ → Code → Lowered
compare k t d = fresh (λ r. op.Bin k r t (temp_of (constant 0 d))) (constant 0 d).code

-- what is met behind the 0 is met before it; there the temporary still has its value
pub zero-then :
    {B : Type 0} → Laws → (bound : ℕ) (x : Activation) (numbers : Numbers) (spots : List Spot) (d : Code) (at : Site) (t : ℕ) (v : Value) (s : State) (m : Machine) (next : Bool → Act B) (R : B → State → Machine → Type 0)
    → ContainsCode (graph_of x) (constant 0 d).code → IsReady x numbers spots d s m → t < d.temps → Stands spots v (value_in m.frame t)
    → ((n : Machine) (h : HasValue x numbers spots [] (constant 0 d) d s m (Some (V.Num 0)) s n) (holds : Bool) → IsTruth n.objects (value_in n.frame t) holds → Meets x.world bound n (next holds s) R)
    → Meets x.world bound m ((truth at v >>= next) s) R
unfolding command ◌>>=◌
zero-then laws bound x numbers spots d at t v s m next R holds ready given st f =
    let r = laws.fresh x numbers spots [] d s m (λ i. op.Const i 0) (V.Num 0) (V.Num 0) holds ready refl (λ rest. refl) in
    let h = r.holds in
    let same : value_in r.machine.frame t ≡ value_in m.frame t = h.done.temps t given (λ k e. none-in k (_ ≢ _) e) in
    meets-later laws x.world bound m r.machine r.count ((truth at v >>= next) s) R r.comes
    (meets-then laws x.world bound r.machine (truth at v s) next (λ holds u n. Meets x.world bound n (next holds u) R) R
    (truth-meets bound x h.done.later.spots at v (value_in r.machine.frame t) s r.machine (λ holds u n. Meets x.world bound n (next holds u) R) h.done.later.related.matches.shows h.done.later.related.matches.memory
    (subst (λ (u : Value). Stands h.done.later.spots v u) (sym same) (laws.stands spots h.done.later.spots v (value_in m.frame t) h.done.later.lasts.more st))
    (λ holds truth. f r.machine h holds truth))
    (λ holds u n q. q))

-- ---- not

pub not-keeps : Laws → (bound t : ℕ) (ty : QType) (a : Expression) → ExpressionKeeps bound a → ExpressionKeeps bound (Node t ty (Unary Not a))
unfolding lower answer_of ◌>>=◌ IsTyped HasForm unary command give go_on
not-keeps laws bound t ty a keeps = λ x numbers spots c s m active typed slots holds ready.
    let y = lower (home_of x) a c in
    let d = y.code in
    let z = compare Eq (temp_of y) d in
    let at = site (env_of x numbers) t in
    let zero-code : ContainsCode (graph_of x) (constant 0 d).code = before-fresh (graph_of x) (λ r. op.Bin Eq r (temp_of y) (temp_of (constant 0 d))) (constant 0 d).code holds in
    let new = laws.results x a c typed.1.0 slots (scalar-not-void (type_in a) typed.1.1.0) in
    let temp : temp_of y ≡ new.result = ap (λ (r : Option ℕ). unwrap_or r 0) new.is in
    let R = HasResult x numbers spots (Node t ty (Unary Not a)) c s m in
    meets-then laws x.world bound m ((answer_of a (calls x.world bound) (env_of x numbers) >>= used at) s) _
    (HasOperand x numbers spots a c s m) R
    (operand laws bound x numbers spots a c s m at active typed.1.0 ready.related.matches.bytes
    (keeps x numbers spots c s m active typed.1.0 slots (before-fresh (graph_of x) (λ r. op.Const r 0) d zero-code) ready))
    (λ v u n q.
    let spots' = q.0.done.later.spots in
    meets-then laws x.world bound n ((truth at v >>= λ holds. give (V.Num (number_for (not holds)))) u) (λ r. give (Some r)) (λ r. R (Some r)) R
    (zero-then laws bound x numbers spots' d at (temp_of y) v u n (λ holds. give (V.Num (number_for (not holds)))) (λ r. R (Some r)) zero-code
    (ready-then laws x numbers spots a c s u m n (Some v) ready q.0) (omega (arith, temp, new.given)) (operand-stands spots' v y.temp n q.0.stands)
    (λ n2 h holds2 truth.
    meets-less x.world bound n2 (Gives (V.Num (number_for (not holds2))) u)
    (λ r. HasValue x numbers h.done.later.spots [] z (constant 0 d).code u n2 (Some r)) (λ r. R (Some r))
    (laws.fresh x numbers h.done.later.spots [] (constant 0 d).code u n2 (λ r. op.Bin Eq r (temp_of y) (temp_of (constant 0 d))) (V.Num (number_for (not holds2))) (V.Num (number_for (not holds2))) holds
    (record { related = h.done.later.related; behind = h.behind; temps = omega (arith, ready.temps, (laws.later (home_of x) a c).temps) }) refl
    (λ rest. ap (λ (o : Option Value). run.gives (constant 0 d).code.temps o (record n2 { frame = record n2.frame { ops = rest } }))
    (ap (λ (w : Value). flow.binary n2.objects Eq (value_in n2.frame (temp_of y)) w) h.stands ∙ truth.equal ∙ ap Some (truth-is (not holds2)))))
    (λ r w n3 g.
    value-then laws x numbers spots (assigned_in a) y z c s u w m n n3 (Some v) (Some r) ready.related (laws.later (home_of x) a c).temps q.0
    (value-then laws x numbers spots' [] (constant 0 d) z d u u w n n2 n3 (Some (V.Num 0)) (Some r) q.0.done.later.related (omega arith) h g))))
    (λ r w n3 g. meets-here x.world bound n3 (Some r) w R g))

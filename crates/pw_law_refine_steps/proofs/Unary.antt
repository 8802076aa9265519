-- Unary operators on numbers keep their promise where their operands do.
use Rattle.std.proofs.Common.{◌≡◌, ℕ, ◌-◌, ◌^◌, ◌<◌, Option, Some, None, unwrap_or, Result, Ok, Err, List, [], Contains, refl, ap, ◌∙◌, arith}
use Rattle.pw_value.specs.declared.value.Value.{Value}
use Rattle.pw_value.specs.declared.value.Value.TheVariants as V
use Rattle.pw_value.specs.declared.words.WordFault.{WordFault}
use Rattle.pw_value.specs.declared.words.WordFault.TheVariants.{Overflow, ZeroDivisor, ShiftCount}
use Rattle.pw_types.specs.Conversions.{is_signed_kind}
use Rattle.pw_types.specs.TypeTrees.{CType, Void, Int, Pointer, Array, Function, Record, QType, type_of}
use Rattle.pw_types.specs.declared.tree.UnaryOperator.TheVariants.{Plus, Minus, Complement}
use Rattle.pw_types.specs.TypedTrees.{Expression, Node, Unary}
use Rattle.pw_types.specs.WellTyped.{IsTyped, HasForm, type_in}
use Rattle.pw_flow.specs.declared.flow.Op.TheVariants as op
use Rattle.pw_flow.specs.declared.flow.UnKind.{UnKind}
use Rattle.pw_flow.specs.declared.flow.UnKind.TheVariants.{Neg, Not}
use Rattle.pw_lower.specs.declared.code.Code.{Code}
use Rattle.pw_lower.specs.Codes.{temp_of, fresh}
use Rattle.pw_lower.specs.Expressions.{lower}
use Rattle.pw_cmean.specs.Worlds.{World}
use Rattle.pw_cmean.specs.Acts as source
use Rattle.pw_cmean.specs.Acts.{State, Site, Outcome, Gives, Ends, give, stop, wrong, undefined, ◌>>=◌, go_on}
use Rattle.pw_cmean.specs.Operators.{outcome_of, negation, unary, unary_number}
use Rattle.pw_cmean.specs.Evaluation.{Env, site, used, answer_of}
use Rattle.pw_cmean.specs.SourceRun.{calls}
use Rattle.pw_cmean.specs.Typed.{IsValueOf, IsResultOf, IsWellTyped, HoldsBytes, IfGives}
use Rattle.pw_law_source.specs.FromRunLanguages.Commands as commands
use Rattle.pw_law_source.specs.FromRunLanguages.Commands.{command}
use Rattle.pw_law_source.specs.FromRunLanguages.Values as flow
use Rattle.pw_law_source.specs.FromRunLanguages.FlowRun.{Machine, value_in, obeys, steps}
use Rattle.pw_law_refine.specs.Standing.{Spot, Stands}
use Rattle.pw_law_refine.specs.Activations.{Activation, IsActivation, Numbers, graphs, graph_of, home_of, env_of}
use Rattle.pw_law_refine.specs.Containing.{ContainsCode}
use Rattle.pw_law_refine.specs.Meeting.{Reaches, Meets}
use Rattle.pw_law_refine.specs.Expressions.{assigned_in, IsReady, HasValue, HasResult, ResultStands, ExpressionKeeps}
use Rattle.pw_law_refine_steps.proofs.Simulation.{meets-then, shown-here}
use Rattle.pw_law_refine_steps.proofs.Forms.{CodeLaws, before-fresh, fresh-reaches, done-then, ready-then}
use Rattle.pw_law_refine_steps.proofs.Words.{minus}
use Rattle.pw_law_refine_steps.proofs.Conversions.{word-of}

-- ---- types of values

-- what the meaning of C says of the types of results
abbrev pub TypesHold : ℕ → Type 0
TypesHold bound =
    (a : Expression) (e : Env) (s : State) → IsWellTyped e.world.program → Contains e.world.program.modules e.home →
    IsTyped e.home.tree e.locals a → HoldsBytes s → IfGives (IsResultOf (type_in a)) (answer_of a (calls e.world bound) e s)

pub meets-typed : {A : Type 0} (w : World) (n : ℕ) (m : Machine) (P : A → Type 0) (o : Outcome A) (Q : A → State → Machine → Type 0)
    → Meets w n m o Q → IfGives P o → Meets w n m o (λ a s t. Q a s t × P a)
meets-typed w n m P (Gives a s) Q r p = record { count = r.count; machine = r.machine; comes = r.comes; holds = (r.holds, p.0) }
meets-typed w n m P (Ends source.Bound s) Q r p = r
meets-typed w n m P (Ends source.StackFull s) Q r p = r
meets-typed w n m P (Ends (source.Exit status) s) Q r p = r
meets-typed w n m P (Ends (source.Undefined o home token) s) Q r p = r
meets-typed w n m P (Ends source.Wrong s) Q r p = tt

-- a number of a type is a word
pub number-word : (ty : CType) (k : ℕ) → IsValueOf ty (V.Num k) → k < 2 ^ 32
number-word Void k h = absurd h
number-word (Int kind) k h = word-of kind k h
number-word (Pointer q) k h = absurd h
number-word (Array q count) k h = absurd h
number-word (Function result params) k h = absurd h
number-word (Record number) k h = absurd h

-- ---- operands

-- an operand whose value is used
abbrev pub HasOperand : Activation → Numbers → List Spot → Expression → Code → State → Machine → Value → State → Machine → Type 0
HasOperand x numbers spots a c s m v u n = HasResult x numbers spots a c s m (Some v) u n × IsValueOf (type_in a) v

pub operand :
    (bound : ℕ) (x : Activation) (numbers : Numbers) (spots : List Spot) (a : Expression) (c : Code) (s : State) (m : Machine) (at : Site)
    → TypesHold bound → IsActivation x → IsTyped x.home.tree x.function.locals a → HoldsBytes s
    → Meets x.world bound m (answer_of a (calls x.world bound) (env_of x numbers) s) (HasResult x numbers spots a c s m)
    → Meets x.world bound m ((answer_of a (calls x.world bound) (env_of x numbers) >>= used at) s) (HasOperand x numbers spots a c s m)
unfolding ◌>>=◌ used give undefined stop steps
operand bound x numbers spots a c s m at types active typed bytes meets =
    meets-then x.world bound m (answer_of a (calls x.world bound) (env_of x numbers) s) (used at) _ (HasOperand x numbers spots a c s m)
    (meets-typed x.world bound m (IsResultOf (type_in a)) (answer_of a (calls x.world bound) (env_of x numbers) s) (HasResult x numbers spots a c s m) meets
    (types a (env_of x numbers) s active.world.program.accepted.typed active.home typed bytes))
    by_result
  where
    by_result : (r : Option Value) (u : State) (n : Machine) → HasResult x numbers spots a c s m r u n × IsResultOf (type_in a) r
        → Meets x.world bound n (used at r u) (HasOperand x numbers spots a c s m)
    by_result None u n q = shown-here x.world n u q.0.done.later.related.matches.shows
    by_result (Some v) u n q = record { count = 0; machine = n; comes = refl; holds = q }

-- the value stands in the operand's temporary
pub operand-stands : (spots : List Spot) (v : Value) (t : Option ℕ) (m : Machine) → ResultStands spots (Some v) t m → Stands spots v (value_in m.frame (unwrap_or t 0))
operand-stands spots v None m h = absurd h
operand-stands spots v (Some t) m h = h

-- ---- an operation on one number

-- behind an operand that is a number, an operation that gives another
on-number :
    (x : Activation) (numbers : Numbers) (spots : List Spot) (a : Expression) (c : Code) (s u : State) (m n : Machine) (o : UnKind) (k j : ℕ)
    → CodeLaws → IsReady x numbers spots c s m → HasResult x numbers spots a c s m (Some (V.Num k)) u n
    → ContainsCode (graph_of x) (fresh (λ r. op.Un o r (temp_of (lower (home_of x) a c))) (lower (home_of x) a c).code).code
    → flow.unary o (V.Num k) ≡ Some (V.Num j)
    → Reaches (graphs x.world) n (HasValue x numbers spots (assigned_in a) (fresh (λ r. op.Un o r (temp_of (lower (home_of x) a c))) (lower (home_of x) a c).code) c s m (Some (V.Num j)) u)
unfolding command done-then
on-number x numbers spots a c s u m n o k j laws ready h holds does =
    let d = lower (home_of x) a c in
    let is : value_in n.frame (temp_of d) ≡ V.Num k = operand-stands h.done.later.spots (V.Num k) d.temp n h.stands in
    let r = fresh-reaches x numbers h.done.later.spots [] d.code u n (λ i. op.Un o i (temp_of d)) (V.Num j) (V.Num j) holds
    (ready-then x numbers spots a c s u m n (Some (V.Num k)) laws ready h) refl
    (λ rest. ap (λ (v : Option Value). obeys (graphs x.world) (commands.give d.code.temps v) (record n { frame = record n.frame { ops = rest } })) (ap (λ (v : Value). flow.unary o v) is ∙ does)) in
    record {
      count = r.count;
      machine = r.machine;
      comes = r.comes;
      holds = record {
        done = done-then x numbers spots (assigned_in a) [] (assigned_in a) c d.code s u u m n r.machine ready.related (laws.later (home_of x) a c).temps
            (λ i there. there) (λ i there. absurd (omega (arith, there.1))) h.done r.holds.done;
        behind = r.holds.behind;
        stands = r.holds.stands;
      };
    }

-- ---- minus

-- by the type in which it works, and the operand's value
negates :
    (bound t : ℕ) (ty : QType) (a : Expression) (x : Activation) (numbers : Numbers) (spots : List Spot) (c : Code) (s : State) (m : Machine)
    → CodeLaws → IsReady x numbers spots c s m
    → ContainsCode (graph_of x) (fresh (λ r. op.Un Neg r (temp_of (lower (home_of x) a c))) (lower (home_of x) a c).code).code
    → (at : Site) (own : CType) (v : Value) (u : State) (n : Machine) → HasOperand x numbers spots a c s m v u n
    → Meets x.world bound n ((unary_number at Minus own v >>= λ r. give (Some r)) u) (HasResult x numbers spots (Node t ty (Unary Minus a)) c s m)
unfolding lower unary_number outcome_of give wrong undefined stop ◌>>=◌ go_on
negates bound t ty a x numbers spots c s m laws ready holds at (Int kind) (V.Num k) u n q = by_outcome (negation (is_signed_kind kind) k) refl
  where
    by_outcome : (r : Result ℕ WordFault) → negation (is_signed_kind kind) k ≡ r
        → Meets x.world bound n ((outcome_of at r >>= λ r. give (Some r)) u) (HasResult x numbers spots (Node t ty (Unary Minus a)) c s m)
    by_outcome (Ok j) e =
        on-number x numbers spots a c s u m n Neg k j laws ready q.0 holds (minus (is_signed_kind kind) k j (number-word (type_in a) k q.1) e)
    by_outcome (Err Overflow) e = shown-here x.world n u q.0.done.later.related.matches.shows
    by_outcome (Err ZeroDivisor) e = shown-here x.world n u q.0.done.later.related.matches.shows
    by_outcome (Err ShiftCount) e = shown-here x.world n u q.0.done.later.related.matches.shows
negates bound t ty a x numbers spots c s m laws ready holds at own v u n q = tt

pub minus-keeps : (bound t : ℕ) (ty : QType) (a : Expression) → CodeLaws → TypesHold bound → ExpressionKeeps bound a → ExpressionKeeps bound (Node t ty (Unary Minus a))
unfolding lower answer_of ◌>>=◌ IsTyped HasForm unary
minus-keeps bound t ty a laws types keeps = λ x numbers spots c s m active typed slots holds ready.
    let d = lower (home_of x) a c in
    meets-then x.world bound m ((answer_of a (calls x.world bound) (env_of x numbers) >>= used (site (env_of x numbers) t)) s) _
    (HasOperand x numbers spots a c s m) (HasResult x numbers spots (Node t ty (Unary Minus a)) c s m)
    (operand bound x numbers spots a c s m (site (env_of x numbers) t) types active typed.1.0 ready.related.matches.bytes
    (keeps x numbers spots c s m active typed.1.0 slots (before-fresh (graph_of x) (λ r. op.Un Neg r (temp_of d)) d.code holds) ready))
    (λ v u n q. negates bound t ty a x numbers spots c s m laws ready holds (site (env_of x numbers) t) (type_of ty) v u n q)

-- ---- complement

complements :
    (bound t : ℕ) (ty : QType) (a : Expression) (x : Activation) (numbers : Numbers) (spots : List Spot) (c : Code) (s : State) (m : Machine)
    → CodeLaws → IsReady x numbers spots c s m
    → ContainsCode (graph_of x) (fresh (λ r. op.Un Not r (temp_of (lower (home_of x) a c))) (lower (home_of x) a c).code).code
    → (at : Site) (own : CType) (v : Value) (u : State) (n : Machine) → HasOperand x numbers spots a c s m v u n
    → Meets x.world bound n ((unary_number at Complement own v >>= λ r. give (Some r)) u) (HasResult x numbers spots (Node t ty (Unary Complement a)) c s m)
unfolding lower unary_number give wrong stop ◌>>=◌ go_on
complements bound t ty a x numbers spots c s m laws ready holds at (Int kind) (V.Num k) u n q =
    on-number x numbers spots a c s u m n Not k (2 ^ 32 - 1 - k) laws ready q.0 holds refl
complements bound t ty a x numbers spots c s m laws ready holds at own v u n q = tt

pub complement-keeps : (bound t : ℕ) (ty : QType) (a : Expression) → CodeLaws → TypesHold bound → ExpressionKeeps bound a → ExpressionKeeps bound (Node t ty (Unary Complement a))
unfolding lower answer_of ◌>>=◌ IsTyped HasForm unary
complement-keeps bound t ty a laws types keeps = λ x numbers spots c s m active typed slots holds ready.
    let d = lower (home_of x) a c in
    meets-then x.world bound m ((answer_of a (calls x.world bound) (env_of x numbers) >>= used (site (env_of x numbers) t)) s) _
    (HasOperand x numbers spots a c s m) (HasResult x numbers spots (Node t ty (Unary Complement a)) c s m)
    (operand bound x numbers spots a c s m (site (env_of x numbers) t) types active typed.1.0 ready.related.matches.bytes
    (keeps x numbers spots c s m active typed.1.0 slots (before-fresh (graph_of x) (λ r. op.Un Not r (temp_of d)) d.code holds) ready))
    (λ v u n q. complements bound t ty a x numbers spots c s m laws ready holds (site (env_of x numbers) t) (type_of ty) v u n q)

-- ---- plus

same_number :
    (bound t : ℕ) (ty : QType) (a : Expression) (x : Activation) (numbers : Numbers) (spots : List Spot) (c : Code) (s : State) (m : Machine)
    → (at : Site) (own : CType) (v : Value) (u : State) (n : Machine) → HasOperand x numbers spots a c s m v u n
    → Meets x.world bound n ((unary_number at Plus own v >>= λ r. give (Some r)) u) (HasResult x numbers spots (Node t ty (Unary Plus a)) c s m)
unfolding lower unary_number give wrong stop ◌>>=◌ go_on steps
same_number bound t ty a x numbers spots c s m at (Int kind) (V.Num k) u n q = record {
  count = 0;
  machine = n;
  comes = refl;
  holds = record { done = q.0.done; behind = q.0.behind; stands = operand-stands q.0.done.later.spots (V.Num k) (lower (home_of x) a c).temp n q.0.stands };
}
same_number bound t ty a x numbers spots c s m at own v u n q = tt

pub plus-keeps : (bound t : ℕ) (ty : QType) (a : Expression) → TypesHold bound → ExpressionKeeps bound a → ExpressionKeeps bound (Node t ty (Unary Plus a))
unfolding lower answer_of ◌>>=◌ IsTyped HasForm unary
plus-keeps bound t ty a types keeps = λ x numbers spots c s m active typed slots holds ready.
    meets-then x.world bound m ((answer_of a (calls x.world bound) (env_of x numbers) >>= used (site (env_of x numbers) t)) s) _
    (HasOperand x numbers spots a c s m) (HasResult x numbers spots (Node t ty (Unary Plus a)) c s m)
    (operand bound x numbers spots a c s m (site (env_of x numbers) t) types active typed.1.0 ready.related.matches.bytes
    (keeps x numbers spots c s m active typed.1.0 slots holds ready))
    (λ v u n q. same_number bound t ty a x numbers spots c s m (site (env_of x numbers) t) (type_of ty) v u n q)

-- `&&`, `||` and `?:`: by the truth of the first operand the machine goes to one of two blocks, and from there to a third.
use Rattle.std.proofs.Common.{◌≡◌, ℕ, ◌<◌, ◌≤◌, Bool, true, false, if◌then◌else◌, Option, Some, None, unwrap_or, List, [], ◌++◌, Contains, slice_index_or, refl, ap, sym, ◌∙◌, subst, arith}
use Rattle.std.proofs.lemmas.List.Elements.{Contains-append_left, Contains-append_right}
use Rattle.pw_value.specs.declared.value.Value.{Value}
use Rattle.pw_value.specs.declared.value.Value.TheVariants as V
use Rattle.pw_types.specs.TypeTrees.{QType}
use Rattle.pw_types.specs.declared.tree.LogicOperator.TheVariants as logic
use Rattle.pw_types.specs.TypedTrees.{Expression, Node, Logic}
use Rattle.pw_types.specs.WellTyped.{IsTyped, HasForm, IsScalar, type_in}
use Rattle.pw_flow.specs.declared.flow.Op.TheVariants as op
use Rattle.pw_flow.specs.declared.flow.BinKind.TheVariants.{Ne}
use Rattle.pw_flow.specs.declared.flow.End.TheVariants.{Jump, Branch}
use Rattle.pw_flow.specs.declared.flow.Block.{Block}
use Rattle.pw_flow.specs.declared.flow.FlowFn.{FlowFn}
use Rattle.pw_lower.specs.declared.code.Code.{Code}
use Rattle.pw_lower.specs.Codes.{temp_of, constant, reserve, reserve_temps, cut, cut_here, value_is, lowered_as}
use Rattle.pw_lower.specs.Places.{addressed_in}
use Rattle.pw_lower.specs.Expressions.{lower, fork, decides, says}
use Rattle.pw_cmean.specs.Acts.{State, Site, Act, Outcome, Gives, Ends, give, branch, ◌>>=◌, go_on}
use Rattle.pw_cmean.specs.Operators.{number_for, truth}
use Rattle.pw_cmean.specs.Evaluation as source
use Rattle.pw_cmean.specs.Evaluation.{site, used, answer_of}
use Rattle.pw_cmean.specs.SourceRun.{calls}
use Rattle.pw_run_languages.specs.Commands.{command}
use Rattle.pw_run_languages.specs.Values as flow
use Rattle.pw_run_languages.specs.Programs.{block_at}
use Rattle.pw_run_languages.specs.FlowRun as run
use Rattle.pw_run_languages.specs.FlowRun.{Machine, On, value_in, steps}
use Rattle.pw_law_refine.specs.Standing.{Spot, Stands}
use Rattle.pw_law_refine.specs.Activations.{Activation, IsActivation, Numbers, graphs, graph_of, home_of, env_of, local_temps, HaveSlots}
use Rattle.pw_law_refine.specs.Matching.{Related}
use Rattle.pw_law_refine.specs.Containing.{ContainsCode, IsAt, IsBehind}
use Rattle.pw_law_refine.specs.Meeting.{Reaches, Meets}
use Rattle.pw_law_refine.specs.Expressions.{assigned_in, IsReady, IsDone, HasValue, HasResult, ResultStands, ExpressionKeeps}
use Rattle.pw_law_refine_forms.proofs.Laws.{Laws}
use Rattle.pw_law_refine_forms.proofs.Simulation.{meets-then, meets-less, meets-later, meets-on, meets-here}
use Rattle.pw_law_refine_forms.proofs.Kit.{before-cut, before-reserve, before-emit, before-fresh, ended-there, done-then, value-after, none-in, puts, HasOperand, operand, operand-stands}
use Rattle.pw_law_refine_forms.proofs.Branches.{truth-goes, at-end, jump-comes, branch-comes, gone-done}
use Rattle.pw_law_refine_forms.proofs.Truths.{scalar-not-void, truth-is, zero-then}

-- a block of a number is there
abbrev pub IsThere : FlowFn → ℕ → Type 0
IsThere g b = (next : Block) × (block_at g b ≡ Some next)

pub begins-there : (g : FlowFn) (c : Code) → ContainsCode g c → IsThere g c.cur
begins-there g c w = (w.filled.block, w.filled.there)

either-there : (g : FlowFn) (b c : ℕ) (holds : Bool) → IsThere g b → IsThere g c → IsThere g (if holds then b else c)
either-there g b c true h k = h
either-there g b c false h k = k

-- ---- the fork

-- What is met at the beginning of the block to which the truth of the first operand leads, is met before that operand.
pub forks :
    {B : Type 0} → Laws → (bound : ℕ) (x : Activation) (numbers : Numbers) (spots : List Spot) (a : Expression) (at : Site) (results : ℕ) (c : Code) (s : State) (m : Machine) (next : Bool → Act B) (R : B → State → Machine → Type 0)
    → IsActivation x → IsTyped x.home.tree x.function.locals a → HaveSlots x (addressed_in a) → ExpressionKeeps bound a → IsReady x numbers spots c s m
    → ContainsCode (graph_of x) (fork results (lower (home_of x) a c)).code → IsThere (graph_of x) (fork results (lower (home_of x) a c)).if_not
    → ((holds : Bool) (u : State) (n : Machine) (d : IsDone x numbers spots (assigned_in a) c s m u n)
    → IsAt (graph_of x) (if holds then (fork results (lower (home_of x) a c)).if_so else (fork results (lower (home_of x) a c)).if_not) [] n → Meets x.world bound n (next holds u) R)
    → Meets x.world bound m ((answer_of a (calls x.world bound) (env_of x numbers) >>= used at >>= truth at >>= next) s) R
unfolding ◌>>=◌ go_on steps done-then gone-done
forks laws bound x numbers spots a at results c s m next R active typed slots keeps ready holds other f =
    let y = lower (home_of x) a c in
    let k = fork results y in
    let end = Branch (temp_of y) k.if_so k.if_not in
    let d = reserve 3 (reserve_temps results y.code) in
    let there = ended-there (graph_of x) end k.if_so y.code.depth d holds in
    let whole = before-reserve (graph_of x) 3 results y.code (before-cut (graph_of x) end k.if_so y.code.depth d holds) in
    meets-then laws x.world bound m ((answer_of a (calls x.world bound) (env_of x numbers) >>= used at >>= truth at) s) next (λ which u n. Meets x.world bound n (next which u) R) R
    (meets-then laws x.world bound m ((answer_of a (calls x.world bound) (env_of x numbers) >>= used at) s) (truth at) (HasOperand x numbers spots a c s m) (λ which u n. Meets x.world bound n (next which u) R)
    (operand laws bound x numbers spots a c s m at active typed ready.related.matches.bytes (keeps x numbers spots c s m active typed slots whole ready))
    (λ v u n q.
    let later = q.0.done.later in
    truth-goes bound x later.spots at v (value_in n.frame (temp_of y)) u n (λ which w r. Meets x.world bound r (next which w) R) laws later.related.matches.shows later.related.matches.memory (operand-stands later.spots v y.temp n q.0.stands)
    (λ which truth.
    let b = either-there (graph_of x) k.if_so k.if_not which (begins-there (graph_of x) k.code holds) other in
    let g = branch-comes x numbers later.spots u n (temp_of y) k.if_so k.if_not which b.0 later.related truth b.1 (at-end (graph_of x) y.code end n there q.0.behind) in
    meets-here x.world bound n which u (λ which w r. Meets x.world bound r (next which w) R)
    (meets-later laws x.world bound n g.0 1 (next which u) R g.1
    (f which u g.0
    (done-then laws x numbers spots (assigned_in a) [] (assigned_in a) c y.code s u u m n g.0 ready.related (laws.later (home_of x) a c).temps (λ i e. e) (λ i e. none-in i (Contains (assigned_in a) i) e) q.0.done
    (gone-done x numbers later.spots [] (if which then k.if_so else k.if_not) y.code u n g.0 g.2))
    g.2.front)))))
    (λ which u n q. q)

-- ---- to the block where both meet

stands-on : (spots : List Spot) (result : Option Value) (to : Option ℕ) (n q : Machine) → q.frame.temps ≡ n.frame.temps → ResultStands spots result to n → ResultStands spots result to q
stands-on spots None to n q e st = tt
stands-on spots (Some v) (Some t) n q e st = subst (λ (w : Value). Stands spots v w) (sym (ap (λ (l : List Value). slice_index_or l t V.Undefined) e)) st
stands-on spots (Some v) None n q e st = absurd st

-- a machine behind code that ends with a jump goes to the block
pub joins :
    Laws → (x : Activation) (numbers : Numbers) (spots : List Spot) (assigned : List ℕ) (to : Option ℕ) (join number depth : ℕ) (c d k : Code) (s u : State) (m n : Machine) (result : Option Value)
    → Related x numbers spots s m → ContainsCode (graph_of x) (cut (Jump join) number depth d) → IsThere (graph_of x) join
    → ((q : Machine) → IsAt (graph_of x) join [] q → IsBehind (graph_of x) k q)
    → HasValue x numbers spots assigned (lowered_as to d) c s m result u n
    → Reaches (graphs x.world) n (HasValue x numbers spots assigned (lowered_as to k) c s m result u)
unfolding done-then gone-done
joins laws x numbers spots assigned to join number depth c d k s u m n result start holds there front h =
    let later = h.done.later in
    let g = jump-comes x numbers later.spots u n join there.0 later.related there.1 (at-end (graph_of x) d (Jump join) n (ended-there (graph_of x) (Jump join) number depth d holds) h.behind) in
    record {
      count = 1;
      machine = g.0;
      comes = g.1;
      holds = record {
        done = done-then laws x numbers spots assigned [] assigned c c s u u m n g.0 start (omega arith) (λ i e. e) (λ i e. none-in i (Contains assigned i) e) h.done (gone-done x numbers later.spots [] join c u n g.0 g.2);
        behind = front g.0 g.2.front;
        stands = stands-on later.spots result to n g.0 g.2.temps h.stands;
      };
    }

regroup : {A B C : Type 0} (o : Outcome A) (f : A → Act B) (g : B → Act C) → go_on (go_on o f) g ≡ go_on o (λ a. f a >>= g)
unfolding go_on ◌>>=◌
regroup (Gives a s) f g = refl
regroup (Ends ending s) f g = refl

pub by-bool : (P : Bool → Type 0) (b : Bool) → P true → P false → P b
by-bool P true t f = t
by-bool P false t f = f

-- ---- the arms of `&&` and `||`

-- where the first operand decides: a number is the result
decided :
    Laws → (bound : ℕ) (x : Activation) (numbers : Numbers) (spots : List Spot) (t number join nxt depth : ℕ) (c d k : Code) (u : State) (n : Machine)
    → IsReady x numbers spots d u n → c.temps ≤ t → t < d.temps → local_temps x ≤ t
    → ContainsCode (graph_of x) (cut (Jump join) nxt depth (says t number d)) → IsThere (graph_of x) join
    → ((q : Machine) → IsAt (graph_of x) join [] q → IsBehind (graph_of x) k q)
    → Meets x.world bound n (Gives (Some (V.Num number)) u) (HasValue x numbers spots [] (value_is t k) c u n)
unfolding command
decided laws bound x numbers spots t number join nxt depth c d k u n ready since given low holds there front =
    meets-on laws x.world bound n (Gives (Some (V.Num number)) u) (HasValue x numbers spots [] (value_is t (says t number d)) c u n) (HasValue x numbers spots [] (value_is t k) c u n)
    (puts laws x numbers spots [] c d u n (op.Const t number) t (V.Num number) (V.Num number) (before-cut (graph_of x) (Jump join) nxt depth (says t number d) holds) ready since given low refl (λ rest. refl))
    (λ r w q h. joins laws x numbers spots [] (Some t) join nxt depth c (says t number d) k u w n q r ready.related holds there front h)

-- where the second operand does: its truth is the result
deciding :
    Laws → (bound : ℕ) (x : Activation) (numbers : Numbers) (spots : List Spot) (b : Expression) (at : Site) (t join nxt depth : ℕ) (c d k : Code) (u : State) (n : Machine)
    → IsActivation x → IsTyped x.home.tree x.function.locals b → HaveSlots x (addressed_in b) → IsScalar (type_in b) → ExpressionKeeps bound b
    → IsReady x numbers spots d u n → c.temps ≤ t → t < d.temps → local_temps x ≤ t
    → ContainsCode (graph_of x) (cut (Jump join) nxt depth (decides t (lower (home_of x) b d))) → IsThere (graph_of x) join
    → ((q : Machine) → IsAt (graph_of x) join [] q → IsBehind (graph_of x) k q)
    → Meets x.world bound n ((answer_of b (calls x.world bound) (env_of x numbers) >>= used at >>= truth at >>= λ second. give (Some (V.Num (number_for second)))) u)
    (HasValue x numbers spots (assigned_in b) (value_is t k) c u n)
unfolding ◌>>=◌ go_on command give
deciding laws bound x numbers spots b at t join nxt depth c d k u n active typed slots scalar keeps ready since given low holds there front =
    let h = home_of x in
    let y = lower h b d in
    let e = y.code in
    let z = constant 0 e in
    let whole = before-cut (graph_of x) (Jump join) nxt depth (decides t y) holds in
    let zero-code = before-emit (graph_of x) (op.Bin Ne t (temp_of y) (temp_of z)) z.code whole in
    let new = laws.results x b d typed slots (scalar-not-void (type_in b) scalar) in
    let temp : temp_of y ≡ new.result = ap (λ (r : Option ℕ). unwrap_or r 0) new.is in
    let more : d.temps ≤ e.temps = (laws.later h b d).temps in
    let R = HasValue x numbers spots (assigned_in b) (value_is t k) c u n in
    let next : Bool → Act (Option Value) = λ second. give (Some (V.Num (number_for second))) in
    subst (λ (o : Outcome (Option Value)). Meets x.world bound n o R) (sym (regroup ((answer_of b (calls x.world bound) (env_of x numbers) >>= used at) u) (truth at) next))
    (meets-then laws x.world bound n ((answer_of b (calls x.world bound) (env_of x numbers) >>= used at) u) (λ v. truth at v >>= next) (HasOperand x numbers spots b d u n) R
    (operand laws bound x numbers spots b d u n at active typed ready.related.matches.bytes (keeps x numbers spots d u n active typed slots (before-fresh (graph_of x) (λ r. op.Const r 0) e zero-code) ready))
    (λ v w q o.
    let spots' = o.0.done.later.spots in
    zero-then laws bound x numbers spots' e at (temp_of y) v w q next R zero-code
    (record { related = o.0.done.later.related; behind = o.0.behind; temps = omega (arith, ready.temps, more) }) (omega (arith, temp, new.given)) (operand-stands spots' v y.temp q o.0.stands)
    (λ q2 g second truth.
    meets-on laws x.world bound q2 (Gives (Some (V.Num (number_for second))) w) (HasValue x numbers spots (assigned_in b) (value_is t (decides t y)) c u n) R
    (meets-less x.world bound q2 (Gives (Some (V.Num (number_for second))) w) (HasValue x numbers g.done.later.spots [] (value_is t (decides t y)) c w q2) (HasValue x numbers spots (assigned_in b) (value_is t (decides t y)) c u n)
    (puts laws x numbers g.done.later.spots [] c z.code w q2 (op.Bin Ne t (temp_of y) (temp_of z)) t (V.Num (number_for second)) (V.Num (number_for second)) whole
    (record { related = g.done.later.related; behind = g.behind; temps = omega (arith, ready.temps, more) }) since (omega (arith, given, more)) low refl
    (λ rest. ap (λ (r : Option Value). run.gives t r (record q2 { frame = record q2.frame { ops = rest } }))
    (ap (λ (a : Value). flow.binary q2.objects Ne (value_in q2.frame (temp_of y)) a) g.stands ∙ truth.unequal ∙ ap Some (truth-is second))))
    (λ r w' q3 f.
    value-after laws x numbers spots (assigned_in b) [] (assigned_in b) (value_is t (decides t y)) c c u w w' n q q3 r ready.related (omega arith) (λ i e. e) (λ i e. none-in i (Contains (assigned_in b) i) e)
    (record { later = o.0.done.later; temps = λ i l not. o.0.done.temps i (omega (arith, l, since, given)) not })
    (value-after laws x numbers spots' [] [] [] (value_is t (decides t y)) c c w w w' q q2 q3 r o.0.done.later.related (omega arith) (λ i e. e) (λ i e. e)
    (record { later = g.done.later; temps = λ i l not. g.done.temps i (omega (arith, l, since, given, more)) not }) f)))
    (λ r w' q3 f. joins laws x numbers spots (assigned_in b) (Some t) join nxt depth c (decides t y) k u w' n q3 r ready.related holds there front f))))

-- ---- the forms

within-left : (ks ls : List ℕ) (i : ℕ) → Contains ks i → Contains (ks ++ ls) i
within-left ks ls i h = Contains-append_left ks ls i h

within-right : (ks ls : List ℕ) (i : ℕ) → Contains ls i → Contains (ks ++ ls) i
within-right ks ls i h = Contains-append_right ks ls i h

-- from the beginning of a block
pub front-ready : (x : Activation) (numbers : Numbers) (spots : List Spot) (ks : List ℕ) (c d : Code) (s u : State) (m n : Machine) → (f : IsDone x numbers spots ks c s m u n) → IsBehind (graph_of x) d n → local_temps x ≤ d.temps
    → IsReady x numbers f.later.spots d u n
front-ready x numbers spots ks c d s u m n f at low = record { related = f.later.related; behind = at; temps = low }

pub and-keeps : Laws → (bound t : ℕ) (ty : QType) (a b : Expression) → ExpressionKeeps bound a → ExpressionKeeps bound b → ExpressionKeeps bound (Node t ty (Logic logic.And a b))
unfolding lower answer_of IsTyped HasForm branch give
and-keeps laws bound t ty a b first second = λ x numbers spots c s m active typed slots holds ready.
    let h = home_of x in
    let y = lower h a c in
    let f = fork 1 y in
    let d = lower h b f.code in
    let yes = cut_here (Jump f.join) f.if_not (decides f.result d) in
    let k = cut_here (Jump f.join) f.join (says f.result 0 yes) in
    let at = site (env_of x numbers) t in
    let slots-a : HaveSlots x (addressed_in a) = λ i e. slots i (Contains-append_left (addressed_in a) (addressed_in b) i e) in
    let slots-b : HaveSlots x (addressed_in b) = λ i e. slots i (Contains-append_right (addressed_in a) (addressed_in b) i e) in
    let in-yes = before-emit (graph_of x) (op.Const f.result 0) yes (before-cut (graph_of x) (Jump f.join) f.join yes.depth (says f.result 0 yes) holds) in
    let z = constant 0 d.code in
    let in-fork = laws.contain (graph_of x) h b f.code (before-fresh (graph_of x) (λ r. op.Const r 0) d.code (before-emit (graph_of x) (op.Bin Ne f.result (temp_of d) (temp_of z)) z.code (before-cut (graph_of x) (Jump f.join) f.if_not d.code.depth (decides f.result d) in-yes))) in
    let join-there = begins-there (graph_of x) k holds in
    let low : c.temps ≤ f.result = (laws.later h a c).temps in
    let low-b : f.code.temps ≤ d.code.temps = (laws.later h b f.code).temps in
    let all = assigned_in a ++ assigned_in b in
    forks laws bound x numbers spots a at 1 c s m
    (λ holds. branch (source.decides logic.And holds) (give (Some (V.Num (number_for holds)))) (answer_of b (calls x.world bound) (env_of x numbers) >>= used at >>= truth at >>= λ second. give (Some (V.Num (number_for second)))))
    (HasResult x numbers spots (Node t ty (Logic logic.And a b)) c s m)
    active typed.1.0 slots-a first ready in-fork (begins-there (graph_of x) yes in-yes)
    (λ which u n done front.
    by-bool (λ w. IsAt (graph_of x) (if w then f.if_so else f.if_not) [] n → Meets x.world bound n
    (branch (source.decides logic.And w) (give (Some (V.Num (number_for w)))) (answer_of b (calls x.world bound) (env_of x numbers) >>= used at >>= truth at >>= λ second. give (Some (V.Num (number_for second)))) u)
    (HasResult x numbers spots (Node t ty (Logic logic.And a b)) c s m)) which
    (λ at-so.
    meets-less x.world bound n ((answer_of b (calls x.world bound) (env_of x numbers) >>= used at >>= truth at >>= λ second. give (Some (V.Num (number_for second)))) u)
    (HasValue x numbers done.later.spots (assigned_in b) (value_is f.result k) y.code u n) (HasResult x numbers spots (Node t ty (Logic logic.And a b)) c s m)
    (deciding laws bound x numbers done.later.spots b at f.result f.join f.if_not d.code.depth y.code f.code k u n active typed.1.1 slots-b typed.1.3 second
    (front-ready x numbers spots (assigned_in a) c f.code s u m n done at-so (omega (arith, ready.temps, low))) (omega arith) (omega arith) (omega (arith, ready.temps, low)) in-yes join-there (λ q g. g))
    (λ r w q g. value-after laws x numbers spots (assigned_in a) (assigned_in b) all (value_is f.result k) c y.code s u w m n q r ready.related low (within-left (assigned_in a) (assigned_in b)) (within-right (assigned_in a) (assigned_in b)) done g))
    (λ at-not.
    meets-less x.world bound n (Gives (Some (V.Num 0)) u)
    (HasValue x numbers done.later.spots [] (value_is f.result k) y.code u n) (HasResult x numbers spots (Node t ty (Logic logic.And a b)) c s m)
    (decided laws bound x numbers done.later.spots f.result 0 f.join f.join yes.depth y.code yes k u n
    (front-ready x numbers spots (assigned_in a) c yes s u m n done at-not (omega (arith, ready.temps, low, low-b))) (omega arith) (omega (arith, low-b)) (omega (arith, ready.temps, low)) holds join-there (λ q g. g))
    (λ r w q g. value-after laws x numbers spots (assigned_in a) [] all (value_is f.result k) c y.code s u w m n q r ready.related low (within-left (assigned_in a) (assigned_in b)) (λ i e. none-in i (Contains all i) e) done g))
    front)

pub or-keeps : Laws → (bound t : ℕ) (ty : QType) (a b : Expression) → ExpressionKeeps bound a → ExpressionKeeps bound b → ExpressionKeeps bound (Node t ty (Logic logic.Or a b))
unfolding lower answer_of IsTyped HasForm branch give
or-keeps laws bound t ty a b first second = λ x numbers spots c s m active typed slots holds ready.
    let h = home_of x in
    let y = lower h a c in
    let f = fork 1 y in
    let yes = cut_here (Jump f.join) f.if_not (says f.result 1 f.code) in
    let d = lower h b yes in
    let k = cut_here (Jump f.join) f.join (decides f.result d) in
    let at = site (env_of x numbers) t in
    let slots-a : HaveSlots x (addressed_in a) = λ i e. slots i (Contains-append_left (addressed_in a) (addressed_in b) i e) in
    let slots-b : HaveSlots x (addressed_in b) = λ i e. slots i (Contains-append_right (addressed_in a) (addressed_in b) i e) in
    let z = constant 0 d.code in
    let in-yes = laws.contain (graph_of x) h b yes (before-fresh (graph_of x) (λ r. op.Const r 0) d.code (before-emit (graph_of x) (op.Bin Ne f.result (temp_of d) (temp_of z)) z.code (before-cut (graph_of x) (Jump f.join) f.join d.code.depth (decides f.result d) holds))) in
    let in-fork = before-emit (graph_of x) (op.Const f.result 1) f.code (before-cut (graph_of x) (Jump f.join) f.if_not f.code.depth (says f.result 1 f.code) in-yes) in
    let join-there = begins-there (graph_of x) k holds in
    let low : c.temps ≤ f.result = (laws.later h a c).temps in
    let all = assigned_in a ++ assigned_in b in
    forks laws bound x numbers spots a at 1 c s m
    (λ holds. branch (source.decides logic.Or holds) (give (Some (V.Num (number_for holds)))) (answer_of b (calls x.world bound) (env_of x numbers) >>= used at >>= truth at >>= λ second. give (Some (V.Num (number_for second)))))
    (HasResult x numbers spots (Node t ty (Logic logic.Or a b)) c s m)
    active typed.1.0 slots-a first ready in-fork (begins-there (graph_of x) yes in-yes)
    (λ which u n done front.
    by-bool (λ w. IsAt (graph_of x) (if w then f.if_so else f.if_not) [] n → Meets x.world bound n
    (branch (source.decides logic.Or w) (give (Some (V.Num (number_for w)))) (answer_of b (calls x.world bound) (env_of x numbers) >>= used at >>= truth at >>= λ second. give (Some (V.Num (number_for second)))) u)
    (HasResult x numbers spots (Node t ty (Logic logic.Or a b)) c s m)) which
    (λ at-so.
    meets-less x.world bound n (Gives (Some (V.Num 1)) u)
    (HasValue x numbers done.later.spots [] (value_is f.result k) y.code u n) (HasResult x numbers spots (Node t ty (Logic logic.Or a b)) c s m)
    (decided laws bound x numbers done.later.spots f.result 1 f.join f.if_not f.code.depth y.code f.code k u n
    (front-ready x numbers spots (assigned_in a) c f.code s u m n done at-so (omega (arith, ready.temps, low))) (omega arith) (omega arith) (omega (arith, ready.temps, low)) in-yes join-there (λ q g. g))
    (λ r w q g. value-after laws x numbers spots (assigned_in a) [] all (value_is f.result k) c y.code s u w m n q r ready.related low (within-left (assigned_in a) (assigned_in b)) (λ i e. none-in i (Contains all i) e) done g))
    (λ at-not.
    meets-less x.world bound n ((answer_of b (calls x.world bound) (env_of x numbers) >>= used at >>= truth at >>= λ second. give (Some (V.Num (number_for second)))) u)
    (HasValue x numbers done.later.spots (assigned_in b) (value_is f.result k) y.code u n) (HasResult x numbers spots (Node t ty (Logic logic.Or a b)) c s m)
    (deciding laws bound x numbers done.later.spots b at f.result f.join f.join d.code.depth y.code yes k u n active typed.1.1 slots-b typed.1.3 second
    (front-ready x numbers spots (assigned_in a) c yes s u m n done at-not (omega (arith, ready.temps, low))) (omega arith) (omega arith) (omega (arith, ready.temps, low)) holds join-there (λ q g. g))
    (λ r w q g. value-after laws x numbers spots (assigned_in a) (assigned_in b) all (value_is f.result k) c y.code s u w m n q r ready.related low (within-left (assigned_in a) (assigned_in b)) (within-right (assigned_in a) (assigned_in b)) done g))
    front)

-- `?:` (C90 6.3.15): the value of one of two operands, which stands in one temporary; or neither has a value.
use Rattle.std.proofs.Common.{◌≡◌, ℕ, ◌<◌, ◌≤◌, true, true≢false, if◌then◌else◌, Option, Some, None, List, [], ◌++◌, Contains, refl, sym, ◌∙◌, subst, arith}
use Rattle.std.proofs.lemmas.List.Elements.{Contains-append_left, Contains-append_right}
use Rattle.pw_value.specs.declared.value.Value.{Value}
use Rattle.pw_value.specs.declared.value.Value.TheVariants as V
use Rattle.pw_types.specs.TypeTrees.{CType, Void, Int, Pointer as PointerTo, Array, Function, Record, QType, type_of}
use Rattle.pw_types.specs.TypedTrees.{Expression, Node, Cond}
use Rattle.pw_types.specs.WellTyped.{IsTyped, HasForm, type_in}
use Rattle.pw_flow.specs.declared.flow.Op.TheVariants as op
use Rattle.pw_flow.specs.declared.flow.End.TheVariants.{Jump}
use Rattle.pw_lower.specs.declared.code.Code.{Code}
use Rattle.pw_lower.specs.Codes.{temp_of, cut, cut_here, value_is, lowered_as}
use Rattle.pw_lower.specs.Places.{addressed_in}
use Rattle.pw_lower.specs.Expressions.{lower, is_void, fork, gives, in_result}
use Rattle.pw_cmean.specs.Acts.{State, Act, Outcome, branch, ◌>>=◌}
use Rattle.pw_cmean.specs.Operators.{truth}
use Rattle.pw_cmean.specs.Evaluation.{site, used, answer_of}
use Rattle.pw_cmean.specs.SourceRun.{calls}
use Rattle.pw_cmean.specs.Typed.{IsResultOf, IfGives}
use Rattle.pw_run_languages.specs.Commands.{command}
use Rattle.pw_run_languages.specs.FlowRun.{Machine, value_in}
use Rattle.pw_law_refine.specs.Standing.{Spot}
use Rattle.pw_law_refine.specs.Activations.{Activation, IsActivation, Numbers, graphs, graph_of, home_of, env_of, local_temps, HaveSlots}
use Rattle.pw_law_refine.specs.Containing.{ContainsCode, IsAt, IsBehind}
use Rattle.pw_law_refine.specs.Meeting.{Reaches, Meets}
use Rattle.pw_law_refine.specs.Expressions.{assigned_in, IsReady, HasValue, HasResult, ExpressionKeeps}
use Rattle.pw_law_refine_forms.proofs.Laws.{Laws}
use Rattle.pw_law_refine_forms.proofs.Simulation.{meets-less, meets-on, meets-typed}
use Rattle.pw_law_refine_forms.proofs.Kit.{before-cut, before-emit, value-after, none-in, puts, ready-then, operand-stands}
use Rattle.pw_law_refine_forms.proofs.Logic.{IsThere, begins-there, forks, joins, by-bool, front-ready}

-- ---- an operand whose value is copied

-- the value, if there is one, is put into the temporary that both have
copied-value :
    Laws → (x : Activation) (numbers : Numbers) (spots : List Spot) (b : Expression) (t : ℕ) (c d : Code) (u w : State) (n q : Machine) (r : Option Value)
    → IsReady x numbers spots d u n → c.temps ≤ t → t < d.temps → local_temps x ≤ t → ContainsCode (graph_of x) (gives t (lower (home_of x) b d))
    → HasResult x numbers spots b d u n r w q
    → Reaches (graphs x.world) q (HasValue x numbers spots (assigned_in b) (value_is t (gives t (lower (home_of x) b d))) c u n r w)
unfolding command
copied-value laws x numbers spots b t c d u w n q None ready since given low holds h =
    let y = lower (home_of x) b d in
    let p = puts laws x numbers h.done.later.spots [] c y.code w q (op.Copy t (temp_of y)) t V.Undefined (value_in q.frame (temp_of y)) holds (ready-then laws x numbers spots b d u w n q None ready h)
    since (omega (arith, given, (laws.later (home_of x) b d).temps)) low tt (λ rest. refl) in
    record {
      count = p.count;
      machine = p.machine;
      comes = p.comes;
      holds = value-after laws x numbers spots (assigned_in b) [] (assigned_in b) (value_is t (gives t y)) c c u w w n q p.machine None ready.related (omega arith) (λ i e. e) (λ i e. none-in i (Contains (assigned_in b) i) e)
          (record { later = h.done.later; temps = λ i l not. h.done.temps i (omega (arith, l, since, given)) not })
          (record { done = p.holds.done; behind = p.holds.behind; stands = tt });
    }
copied-value laws x numbers spots b t c d u w n q (Some v) ready since given low holds h =
    let y = lower (home_of x) b d in
    let p = puts laws x numbers h.done.later.spots [] c y.code w q (op.Copy t (temp_of y)) t v (value_in q.frame (temp_of y)) holds (ready-then laws x numbers spots b d u w n q (Some v) ready h)
    since (omega (arith, given, (laws.later (home_of x) b d).temps)) low (operand-stands h.done.later.spots v y.temp q h.stands) (λ rest. refl) in
    record {
      count = p.count;
      machine = p.machine;
      comes = p.comes;
      holds = value-after laws x numbers spots (assigned_in b) [] (assigned_in b) (value_is t (gives t y)) c c u w w n q p.machine (Some v) ready.related (omega arith) (λ i e. e) (λ i e. none-in i (Contains (assigned_in b) i) e)
          (record { later = h.done.later; temps = λ i l not. h.done.temps i (omega (arith, l, since, given)) not }) p.holds;
    }

-- from the beginning of its block to the block where both meet
pub arm :
    {A : Type 0} → Laws → (bound : ℕ) (x : Activation) (numbers : Numbers) (spots : List Spot) (b : Expression) (t join nxt depth : ℕ) (c d k : Code) (u : State) (n : Machine) (o : Outcome A) (F : A → Option Value)
    → IsReady x numbers spots d u n → c.temps ≤ t → t < d.temps → local_temps x ≤ t
    → ContainsCode (graph_of x) (cut (Jump join) nxt depth (gives t (lower (home_of x) b d))) → IsThere (graph_of x) join
    → ((q : Machine) → IsAt (graph_of x) join [] q → IsBehind (graph_of x) k q)
    → Meets x.world bound n o (λ r. HasResult x numbers spots b d u n (F r))
    → Meets x.world bound n o (λ r. HasValue x numbers spots (assigned_in b) (value_is t k) c u n (F r))
arm laws bound x numbers spots b t join nxt depth c d k u n o F ready since given low holds there front meets =
    let y = lower (home_of x) b d in
    let whole = before-cut (graph_of x) (Jump join) nxt depth (gives t y) holds in
    meets-on laws x.world bound n o (λ r. HasValue x numbers spots (assigned_in b) (value_is t (gives t y)) c u n (F r)) (λ r. HasValue x numbers spots (assigned_in b) (value_is t k) c u n (F r))
    (meets-on laws x.world bound n o (λ r. HasResult x numbers spots b d u n (F r)) (λ r. HasValue x numbers spots (assigned_in b) (value_is t (gives t y)) c u n (F r)) meets
    (λ r w q h. copied-value laws x numbers spots b t c d u w n q (F r) ready since given low whole h))
    (λ r w q h. joins laws x numbers spots (assigned_in b) (Some t) join nxt depth c (gives t y) k u w n q (F r) ready.related holds there front h)

-- an operand without a value
arm-void :
    Laws → (bound : ℕ) (x : Activation) (numbers : Numbers) (spots : List Spot) (b : Expression) (join nxt depth : ℕ) (c d k : Code) (u : State) (n : Machine) (o : Outcome (Option Value))
    → IsReady x numbers spots d u n → c.temps ≤ d.temps
    → ContainsCode (graph_of x) (cut (Jump join) nxt depth (lower (home_of x) b d).code) → IsThere (graph_of x) join
    → ((q : Machine) → IsAt (graph_of x) join [] q → IsBehind (graph_of x) k q)
    → Meets x.world bound n o (λ r u' q. HasResult x numbers spots b d u n r u' q × IsResultOf Void r)
    → Meets x.world bound n o (HasValue x numbers spots (assigned_in b) (lowered_as None k) c u n)
arm-void laws bound x numbers spots b join nxt depth c d k u n o ready more holds there front meets =
    let y = lower (home_of x) b d in
    meets-on laws x.world bound n o (λ r u' q. HasResult x numbers spots b d u n r u' q × IsResultOf Void r) (HasValue x numbers spots (assigned_in b) (lowered_as None k) c u n) meets
    (λ r w q h. joins laws x numbers spots (assigned_in b) None join nxt depth c y.code k u w n q r ready.related holds there front (without r w q h))
  where
    without : (r : Option Value) (w : State) (q : Machine) → HasResult x numbers spots b d u n r w q × IsResultOf Void r → HasValue x numbers spots (assigned_in b) (lowered_as None (lower (home_of x) b d).code) c u n r w q
    without None w q h = record { done = record { later = h.0.done.later; temps = λ i l not. h.0.done.temps i (omega (arith, l, more)) not }; behind = h.0.behind; stands = tt }
    without (Some v) w q h = absurd h.1

-- ---- the form

void-is : (ty : CType) → is_void ty ≡ true → ty ≡ Void
void-is Void e = refl
void-is (Int k) e = absurd (true≢false (sym e))
void-is (PointerTo q) e = absurd (true≢false (sym e))
void-is (Array q k) e = absurd (true≢false (sym e))
void-is (Function r ps) e = absurd (true≢false (sym e))
void-is (Record k) e = absurd (true≢false (sym e))

pub first-of : (ks ls ms : List ℕ) (i : ℕ) → Contains ks i → Contains (ks ++ ls ++ ms) i
first-of ks ls ms i e = Contains-append_left (ks ++ ls) ms i (Contains-append_left ks ls i e)

pub second-of : (ks ls ms : List ℕ) (i : ℕ) → Contains ls i → Contains (ks ++ ls ++ ms) i
second-of ks ls ms i e = Contains-append_left (ks ++ ls) ms i (Contains-append_right ks ls i e)

pub third-of : (ks ls ms : List ℕ) (i : ℕ) → Contains ms i → Contains (ks ++ ls ++ ms) i
third-of ks ls ms i e = Contains-append_right (ks ++ ls) ms i e

-- with a value
pub cond-valued :
    {A : Type 0} → Laws → (bound t : ℕ) (a b e : Expression) (x : Activation) (numbers : Numbers) (spots : List Spot) (c : Code) (s : State) (m : Machine) (one other : Act A) (F : A → Option Value)
    → IsActivation x → IsTyped x.home.tree x.function.locals a → HaveSlots x (addressed_in a) → ExpressionKeeps bound a → IsReady x numbers spots c s m
    → let f = fork 1 (lower (home_of x) a c) in
    let so = cut_here (Jump f.join) f.if_not (gives f.result (lower (home_of x) b f.code)) in
    ContainsCode (graph_of x) (cut_here (Jump f.join) f.join (gives f.result (lower (home_of x) e so)))
    → ((spots' : List Spot) (d : Code) (u : State) (n : Machine) → ContainsCode (graph_of x) (lower (home_of x) b d).code → IsReady x numbers spots' d u n → Meets x.world bound n (one u) (λ r. HasResult x numbers spots' b d u n (F r)))
    → ((spots' : List Spot) (d : Code) (u : State) (n : Machine) → ContainsCode (graph_of x) (lower (home_of x) e d).code → IsReady x numbers spots' d u n → Meets x.world bound n (other u) (λ r. HasResult x numbers spots' e d u n (F r)))
    → Meets x.world bound m ((answer_of a (calls x.world bound) (env_of x numbers) >>= used (site (env_of x numbers) t) >>= truth (site (env_of x numbers) t) >>= λ holds. branch holds one other) s)
    (λ r. HasValue x numbers spots (assigned_in a ++ assigned_in b ++ assigned_in e) (in_result f.result (cut_here (Jump f.join) f.join (gives f.result (lower (home_of x) e so)))) c s m (F r))
unfolding branch
cond-valued laws bound t a b e x numbers spots c s m one other F active typed slots keeps ready holds first second =
    let h = home_of x in
    let y = lower h a c in
    let f = fork 1 y in
    let yb = lower h b f.code in
    let so = cut_here (Jump f.join) f.if_not (gives f.result yb) in
    let ye = lower h e so in
    let k = cut_here (Jump f.join) f.join (gives f.result ye) in
    let at = site (env_of x numbers) t in
    let in-e = before-emit (graph_of x) (op.Copy f.result (temp_of ye)) ye.code (before-cut (graph_of x) (Jump f.join) f.join ye.code.depth (gives f.result ye) holds) in
    let in-so = laws.contain (graph_of x) h e so in-e in
    let in-b = before-emit (graph_of x) (op.Copy f.result (temp_of yb)) yb.code (before-cut (graph_of x) (Jump f.join) f.if_not yb.code.depth (gives f.result yb) in-so) in
    let in-fork = laws.contain (graph_of x) h b f.code in-b in
    let low : c.temps ≤ f.result = (laws.later h a c).temps in
    let low-b : f.code.temps ≤ yb.code.temps = (laws.later h b f.code).temps in
    let all = assigned_in a ++ assigned_in b ++ assigned_in e in
    forks laws bound x numbers spots a at 1 c s m (λ holds. branch holds one other) (λ r. HasValue x numbers spots all (value_is f.result k) c s m (F r))
    active typed slots keeps ready in-fork (begins-there (graph_of x) so in-so)
    (λ which u n done front.
    by-bool (λ w. IsAt (graph_of x) (if w then f.if_so else f.if_not) [] n → Meets x.world bound n (branch w one other u) (λ r. HasValue x numbers spots all (value_is f.result k) c s m (F r))) which
    (λ at-so.
    let again = front-ready x numbers spots (assigned_in a) c f.code s u m n done at-so (omega (arith, ready.temps, low)) in
    meets-less x.world bound n (one u) (λ r. HasValue x numbers done.later.spots (assigned_in b) (value_is f.result k) y.code u n (F r)) (λ r. HasValue x numbers spots all (value_is f.result k) c s m (F r))
    (arm laws bound x numbers done.later.spots b f.result f.join f.if_not yb.code.depth y.code f.code k u n (one u) F again (omega arith) (omega arith) (omega (arith, ready.temps, low)) in-so (begins-there (graph_of x) k holds) (λ q g. g)
    (first done.later.spots f.code u n in-b again))
    (λ r w q g. value-after laws x numbers spots (assigned_in a) (assigned_in b) all (value_is f.result k) c y.code s u w m n q (F r) ready.related low (first-of (assigned_in a) (assigned_in b) (assigned_in e)) (second-of (assigned_in a) (assigned_in b) (assigned_in e)) done g))
    (λ at-not.
    let again = front-ready x numbers spots (assigned_in a) c so s u m n done at-not (omega (arith, ready.temps, low, low-b)) in
    meets-less x.world bound n (other u) (λ r. HasValue x numbers done.later.spots (assigned_in e) (value_is f.result k) y.code u n (F r)) (λ r. HasValue x numbers spots all (value_is f.result k) c s m (F r))
    (arm laws bound x numbers done.later.spots e f.result f.join f.join ye.code.depth y.code so k u n (other u) F again (omega arith) (omega (arith, low-b)) (omega (arith, ready.temps, low)) holds (begins-there (graph_of x) k holds) (λ q g. g)
    (second done.later.spots so u n in-e again))
    (λ r w q g. value-after laws x numbers spots (assigned_in a) (assigned_in e) all (value_is f.result k) c y.code s u w m n q (F r) ready.related low (first-of (assigned_in a) (assigned_in b) (assigned_in e)) (third-of (assigned_in a) (assigned_in b) (assigned_in e)) done g))
    front)

-- without
cond-void :
    Laws → (bound t : ℕ) (a b e : Expression) (x : Activation) (numbers : Numbers) (spots : List Spot) (c : Code) (s : State) (m : Machine)
    → IsActivation x → IsTyped x.home.tree x.function.locals a → IsTyped x.home.tree x.function.locals b → IsTyped x.home.tree x.function.locals e
    → HaveSlots x (addressed_in a) → HaveSlots x (addressed_in b) → HaveSlots x (addressed_in e) → type_in b ≡ Void → type_in e ≡ Void
    → ExpressionKeeps bound a → ExpressionKeeps bound b → ExpressionKeeps bound e → IsReady x numbers spots c s m
    → let f = fork 0 (lower (home_of x) a c) in
    let so = cut_here (Jump f.join) f.if_not (lower (home_of x) b f.code).code in
    ContainsCode (graph_of x) (cut_here (Jump f.join) f.join (lower (home_of x) e so).code)
    → Meets x.world bound m ((answer_of a (calls x.world bound) (env_of x numbers) >>= used (site (env_of x numbers) t) >>= truth (site (env_of x numbers) t) >>= λ holds. branch holds (answer_of b (calls x.world bound) (env_of x numbers)) (answer_of e (calls x.world bound) (env_of x numbers))) s)
    (HasValue x numbers spots (assigned_in a ++ assigned_in b ++ assigned_in e) (lowered_as None (cut_here (Jump f.join) f.join (lower (home_of x) e so).code)) c s m)
unfolding branch
cond-void laws bound t a b e x numbers spots c s m active typed-a typed-b typed-e slots-a slots-b slots-e void-b void-e keeps first second ready holds =
    let h = home_of x in
    let y = lower h a c in
    let f = fork 0 y in
    let yb = lower h b f.code in
    let so = cut_here (Jump f.join) f.if_not yb.code in
    let ye = lower h e so in
    let k = cut_here (Jump f.join) f.join ye.code in
    let at = site (env_of x numbers) t in
    let one = answer_of b (calls x.world bound) (env_of x numbers) in
    let other = answer_of e (calls x.world bound) (env_of x numbers) in
    let in-e = before-cut (graph_of x) (Jump f.join) f.join ye.code.depth ye.code holds in
    let in-so = laws.contain (graph_of x) h e so in-e in
    let in-b = before-cut (graph_of x) (Jump f.join) f.if_not yb.code.depth yb.code in-so in
    let in-fork = laws.contain (graph_of x) h b f.code in-b in
    let low : c.temps ≤ y.code.temps = (laws.later h a c).temps in
    let low-b : f.code.temps ≤ yb.code.temps = (laws.later h b f.code).temps in
    let all = assigned_in a ++ assigned_in b ++ assigned_in e in
    let R = HasValue x numbers spots all (lowered_as None k) c s m in
    forks laws bound x numbers spots a at 0 c s m (λ holds. branch holds one other) R
    active typed-a slots-a keeps ready in-fork (begins-there (graph_of x) so in-so)
    (λ which u n done front.
    by-bool (λ w. IsAt (graph_of x) (if w then f.if_so else f.if_not) [] n → Meets x.world bound n (branch w one other u) R) which
    (λ at-so.
    let again = front-ready x numbers spots (assigned_in a) c f.code s u m n done at-so (omega (arith, ready.temps, low)) in
    meets-less x.world bound n (one u) (HasValue x numbers done.later.spots (assigned_in b) (lowered_as None k) y.code u n) R
    (arm-void laws bound x numbers done.later.spots b f.join f.if_not yb.code.depth y.code f.code k u n (one u) again (omega arith) in-so (begins-there (graph_of x) k holds) (λ q g. g)
    (meets-typed x.world bound n (IsResultOf Void) (one u) (HasResult x numbers done.later.spots b f.code u n)
    (first x numbers done.later.spots f.code u n active typed-b slots-b in-b again)
    (subst (λ (T : CType). IfGives (IsResultOf T) (one u)) void-b (laws.types bound b (env_of x numbers) u active.world.program.accepted.typed active.home typed-b done.later.related.matches.bytes))))
    (λ r w q g. value-after laws x numbers spots (assigned_in a) (assigned_in b) all (lowered_as None k) c y.code s u w m n q r ready.related low (first-of (assigned_in a) (assigned_in b) (assigned_in e)) (second-of (assigned_in a) (assigned_in b) (assigned_in e)) done g))
    (λ at-not.
    let again = front-ready x numbers spots (assigned_in a) c so s u m n done at-not (omega (arith, ready.temps, low, low-b)) in
    meets-less x.world bound n (other u) (HasValue x numbers done.later.spots (assigned_in e) (lowered_as None k) y.code u n) R
    (arm-void laws bound x numbers done.later.spots e f.join f.join ye.code.depth y.code so k u n (other u) again (omega (arith, low-b)) holds (begins-there (graph_of x) k holds) (λ q g. g)
    (meets-typed x.world bound n (IsResultOf Void) (other u) (HasResult x numbers done.later.spots e so u n)
    (second x numbers done.later.spots so u n active typed-e slots-e in-e again)
    (subst (λ (T : CType). IfGives (IsResultOf T) (other u)) void-e (laws.types bound e (env_of x numbers) u active.world.program.accepted.typed active.home typed-e done.later.related.matches.bytes))))
    (λ r w q g. value-after laws x numbers spots (assigned_in a) (assigned_in e) all (lowered_as None k) c y.code s u w m n q r ready.related low (first-of (assigned_in a) (assigned_in b) (assigned_in e)) (third-of (assigned_in a) (assigned_in b) (assigned_in e)) done g))
    front)

pub cond-keeps : Laws → (bound t : ℕ) (ty : QType) (a b e : Expression) → ExpressionKeeps bound a → ExpressionKeeps bound b → ExpressionKeeps bound e → ExpressionKeeps bound (Node t ty (Cond a b e))
unfolding lower answer_of IsTyped HasForm
cond-keeps laws bound t ty a b e keeps first second = λ x numbers spots c s m active typed slots holds ready.
    let h = home_of x in
    let f = fork 0 (lower h a c) in
    let so = cut_here (Jump f.join) f.if_not (lower h b f.code).code in
    let none = lowered_as None (cut_here (Jump f.join) f.join (lower h e so).code) in
    let g = fork 1 (lower h a c) in
    let too = cut_here (Jump g.join) g.if_not (gives g.result (lower h b g.code)) in
    let one = in_result g.result (cut_here (Jump g.join) g.join (gives g.result (lower h e too))) in
    let act = answer_of a (calls x.world bound) (env_of x numbers) >>= used (site (env_of x numbers) t) >>= truth (site (env_of x numbers) t) >>= λ holds. branch holds (answer_of b (calls x.world bound) (env_of x numbers)) (answer_of e (calls x.world bound) (env_of x numbers)) in
    let slots-a : HaveSlots x (addressed_in a) = λ i there. slots i (first-of (addressed_in a) (addressed_in b) (addressed_in e) i there) in
    let slots-b : HaveSlots x (addressed_in b) = λ i there. slots i (second-of (addressed_in a) (addressed_in b) (addressed_in e) i there) in
    let slots-e : HaveSlots x (addressed_in e) = λ i there. slots i (third-of (addressed_in a) (addressed_in b) (addressed_in e) i there) in
    by-bool (λ v. is_void (type_of ty) ≡ v → ContainsCode (graph_of x) (if v then none else one).code → Meets x.world bound m (act s) (HasValue x numbers spots (assigned_in a ++ assigned_in b ++ assigned_in e) (if v then none else one) c s m))
    (is_void (type_of ty))
    (λ v within.
    cond-void laws bound t a b e x numbers spots c s m active typed.1.0 typed.1.1 typed.1.2 slots-a slots-b slots-e (typed.1.4 ∙ void-is (type_of ty) v) (typed.1.5 ∙ void-is (type_of ty) v) keeps first second ready within)
    (λ v within.
    cond-valued laws bound t a b e x numbers spots c s m (answer_of b (calls x.world bound) (env_of x numbers)) (answer_of e (calls x.world bound) (env_of x numbers)) (λ r. r) active typed.1.0 slots-a keeps ready within
    (λ spots' d u n in-b again. first x numbers spots' d u n active typed.1.1 slots-b in-b again)
    (λ spots' d u n in-e again. second x numbers spots' d u n active typed.1.2 slots-e in-e again))
    refl holds

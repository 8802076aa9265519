-- Compound assignments, `++` and `--` on pointers (C90 6.3.2.4, 6.3.3.1, 6.3.6, 6.3.16.2).
use Rattle.std.proofs.Common.{◌≡◌, ◌≢◌, ℕ, zero, suc, ◌<◌, ◌≤◌, ◌==◌, Option, Some, None, unwrap_or, List, [], ◌++◌, Contains, refl, ap, sym, ◌∙◌, subst, arith}
use Rattle.std.proofs.lemmas.List.Elements.{Contains-append_left, Contains-append_right}
use Rattle.pw_value.specs.declared.value.Kind.{Kind}
use Rattle.pw_value.specs.declared.value.Kind.TheVariants.{W32}
use Rattle.pw_value.specs.declared.value.Value.{Value}
use Rattle.pw_value.specs.declared.value.Value.TheVariants as V
use Rattle.pw_types.specs.TypeTrees.{CType, Void, Int, Pointer as PointerTo, QType, Qualified, type_of, RecordValue}
use Rattle.pw_types.specs.declared.kind.IntKind.{IntKind}
use Rattle.pw_types.specs.declared.kind.IntKind.TheVariants as K
use Rattle.pw_types.specs.declared.tree.BinaryOperator.{BinaryOperator}
use Rattle.pw_types.specs.declared.tree.BinaryOperator.TheVariants as B
use Rattle.pw_types.specs.declared.tree.StepOperator.{StepOperator}
use Rattle.pw_types.specs.declared.tree.StepOperator.TheVariants.{IncrementBefore, DecrementBefore, IncrementBehind, DecrementBehind}
use Rattle.pw_types.specs.TypedTrees.{Expression, Node, Compound, Step}
use Rattle.pw_types.specs.WellTyped.{IsTyped, HasForm, IsScalar, promoted_type, type_in}
use Rattle.pw_flow.specs.declared.flow.Op.TheVariants as op
use Rattle.pw_lower.specs.declared.code.Code.{Code}
use Rattle.pw_lower.specs.declared.place.Target.{Target}
use Rattle.pw_lower.specs.declared.place.Target.TheVariants.{Led}
use Rattle.pw_lower.specs.declared.place.LocalPlace.TheVariants.{Temp}
use Rattle.pw_lower.specs.Codes.{Lowered, temp_of, value_is, lowered_as, constant}
use Rattle.pw_lower.specs.Places.{local_in, addressed_in}
use Rattle.pw_lower.specs.Operators.{bytes_of, scaled, combined, step_operator}
use Rattle.pw_lower.specs.Expressions.{lower, place, read_target, write, stored, updated, step_value, scalar_kind}
use Rattle.pw_cmean.specs.Acts.{State, Site, Act, Outcome, Gives, Ends, give, stop, wrong, need, ◌>>=◌, go_on}
use Rattle.pw_cmean.specs.Access.{Assigning, load, store, put}
use Rattle.pw_cmean.specs.Operators as source
use Rattle.pw_cmean.specs.Operators.{convert}
use Rattle.pw_cmean.specs.Evaluation as meaning
use Rattle.pw_cmean.specs.Evaluation.{site, used, old_value, update, step_result, answer_of, place_of}
use Rattle.pw_cmean.specs.SourceRun.{calls}
use Rattle.pw_cmean.specs.Typed.{IsNumberOf, IsPointer, IsValueOf}
use Rattle.pw_cmean.specs.Worlds.{World}
use Rattle.pw_run_languages.specs.Commands.{command}
use Rattle.pw_run_languages.specs.FlowRun.{Machine, value_in}
use Rattle.pw_law_refine.specs.Standing.{Spot, Stands}
use Rattle.pw_law_refine.specs.Activations.{Activation, IsActivation, Numbers, graph_of, home_of, env_of, place_in, local_temps, HaveSlots}
use Rattle.pw_law_refine.specs.Containing.{ContainsCode}
use Rattle.pw_law_refine.specs.Meeting.{Meets}
use Rattle.pw_law_refine.specs.Expressions.{assigned_in, IsReady, HasValue, HasResult, HasTarget, ResultStands, TargetStands, ExpressionKeeps}
use Rattle.pw_law_refine_forms.specs.Accesses.{SuitsType, Covers, IsAdditive, LvalueKeeps, TargetsSuit}
use Rattle.pw_law_refine_forms.specs.Operands.{BothStand, Applies}
use Rattle.pw_law_refine_forms.proofs.Laws.{Laws}
use Rattle.pw_law_refine_forms.proofs.Simulation.{meets-then, meets-less, meets-later, meets-here}
use Rattle.pw_law_refine_forms.proofs.Kit.{before-fresh, value-after, none-in, stays, HasOperand, operand, operand-stands}
use Rattle.pw_law_refine_forms.proofs.Truths.{scalar-not-void}
use Rattle.pw_law_refine_forms.proofs.Compare.{HasOperands}
use Rattle.pw_law_refine_forms.proofs.Access.{reads, writes}
use Rattle.pw_law_refine_forms.proofs.Assign.{before-write, target-later, led-since, ready-placed}
use Rattle.pw_law_refine_forms.proofs.Sums.{scaled-later, pointer-sum, pointer-difference}
use Rattle.pw_law_refine_forms.proofs.Moves.{sum-operands, less-operands}
use Rattle.pw_law_refine_forms.proofs.Compound.{TargetIs, more-then, read-temp, read-later, before-read}
use Rattle.pw_law_refine_forms.proofs.Steps.{rest-within, step-gives, step-code}

-- ---- the operators

moves-applies : Laws → (bound : ℕ) (o : BinaryOperator) (left : QType) (kind : IntKind) → IsAdditive o → Applies bound o (PointerTo left) (Int kind)
moves-applies laws bound B.Add left kind h = pointer-sum laws bound left kind
moves-applies laws bound B.Subtract left kind h = pointer-difference laws bound left kind
moves-applies laws bound o left kind h = absurd h

moves-operands : (o : BinaryOperator) (left : QType) (kind : IntKind) → IsAdditive o → HasOperands o (PointerTo left) (Int kind)
moves-operands B.Add left kind h = sum-operands left kind
moves-operands B.Subtract left kind h = less-operands left kind
moves-operands o left kind h = absurd h

step-moves : (so : StepOperator) → IsAdditive (step_operator so)
step-moves IncrementBefore = tt
step-moves DecrementBefore = tt
step-moves IncrementBehind = tt
step-moves DecrementBehind = tt

-- the sum stands in a temporary that its code gave out
record IsMade (d : Code) (z : Lowered) : Type 0 where
  temp : ℕ
  is : z.temp ≡ Some temp
  since : d.temps ≤ temp
  given : temp < z.code.temps

moves-made : (records : List RecordValue) (o : BinaryOperator) (left : QType) (kind : IntKind) (p q : ℕ) (d : Code) → IsAdditive o → IsMade d (combined records o (PointerTo left) (Int kind) p q d)
moves-made records B.Add (Qualified ty constant volatile) kind p q d h =
    let size = bytes_of records ty in
    let more = scaled-later size q d (size == 1) in
    record { temp = (scaled size q d).code.temps; is = refl; since = more; given = omega arith }
moves-made records B.Subtract (Qualified ty constant volatile) kind p q d h =
    let size = bytes_of records ty in
    let more = scaled-later size q d (size == 1) in
    record { temp = (scaled size q d).code.temps; is = refl; since = more; given = omega arith }
moves-made records o left kind p q d h = absurd h

-- ---- a pointer in the type of the place

-- the number 0, read as a pointer, is the null pointer
null-stands : (spots : List Spot) (t : Option ℕ) (n : Machine) → ResultStands spots (Some (V.Num 0)) t n → ResultStands spots (Some V.Null) t n
null-stands spots None n h = absurd h
null-stands spots (Some t) n h = h

-- what the value stands for, that from which it was converted does too
converts-pointer :
    (bound : ℕ) (x : Activation) (numbers : Numbers) (spots : List Spot) (ks : List ℕ) (at : Site) (q : QType) (y : Lowered) (c : Code) (s u : State) (m n : Machine) (v : Value)
    → HasValue x numbers spots ks y c s m (Some v) u n
    → Meets x.world bound n (convert at (PointerTo q) v u) (λ r t o. HasValue x numbers spots ks y c s m (Some r) t o × IsPointer r × ((later : List Spot) (w : Value) → Stands later r w → Stands later v w))
unfolding convert need give stop wrong
converts-pointer bound x numbers spots ks at q y c s u m n (V.Num zero) h =
    meets-here x.world bound n V.Null u (λ r t o. HasValue x numbers spots ks y c s m (Some r) t o × IsPointer r × ((later : List Spot) (w : Value) → Stands later r w → Stands later (V.Num 0) w))
    (record { done = h.done; behind = h.behind; stands = null-stands h.done.later.spots y.temp n h.stands }, tt, λ later w e. e)
converts-pointer bound x numbers spots ks at q y c s u m n (V.Num (suc k)) h = tt
converts-pointer bound x numbers spots ks at q y c s u m n V.Null h =
    meets-here x.world bound n V.Null u (λ r t o. HasValue x numbers spots ks y c s m (Some r) t o × IsPointer r × ((later : List Spot) (w : Value) → Stands later r w → Stands later V.Null w)) (h, tt, λ later w e. e)
converts-pointer bound x numbers spots ks at q y c s u m n (V.At p) h =
    meets-here x.world bound n (V.At p) u (λ r t o. HasValue x numbers spots ks y c s m (Some r) t o × IsPointer r × ((later : List Spot) (w : Value) → Stands later r w → Stands later (V.At p) w)) (h, tt, λ later w e. e)
converts-pointer bound x numbers spots ks at q y c s u m n V.Undefined h = tt
converts-pointer bound x numbers spots ks at q y c s u m n (V.Piece p i) h = tt

-- what is met as a result is met as a value
as-value : (w : World) (n : ℕ) (m : Machine) (o : Outcome Value) (Q : Option Value → State → Machine → Type 0) → Meets w n m (go_on o (λ v. give (Some v))) Q → Meets w n m o (λ v. Q (Some v))
unfolding go_on give
as-value w n m (Gives v s) Q r = r
as-value w n m (Ends ending s) Q r = r

-- ---- the new value, stored

-- the code behind both operands, which stand in p and q
abbrev moved-code : Activation → BinaryOperator → QType → IntKind → Target → ℕ → ℕ → Code → Lowered
moved-code x o left kind target p q d =
    let z = combined x.home.tree.records o (PointerTo left) (Int kind) p q d in
    stored W32 target (value_is (temp_of z) z.code)

before-moved-code : (x : Activation) (o : BinaryOperator) (left : QType) (kind : IntKind) (target : Target) (p q : ℕ) (d : Code) → IsAdditive o → ContainsCode (graph_of x) (moved-code x o left kind target p q d).code → ContainsCode (graph_of x) d
before-moved-code x o left kind target p q d h w =
    let z = combined x.home.tree.records o (PointerTo left) (Int kind) p q d in
    moves-operands o left kind h x p q d (before-write (graph_of x) W32 target (temp_of z) z.code w)

update-pointer :
    Laws → (bound : ℕ) (x : Activation) (numbers : Numbers) (spots : List Spot) (assigned : List ℕ) (token : ℕ) (o : BinaryOperator) (left : QType) (kind : IntKind) (target : Target) (p q : ℕ) (d : Code) (u : State) (n : Machine) (place old w : Value)
    → IsAdditive o → p < d.temps → q < d.temps → IsPointer old → IsNumberOf kind w → BothStand x numbers spots p q d old w u n → TargetIs x numbers spots assigned (PointerTo left) target place d n
    → ContainsCode (graph_of x) (moved-code x o left kind target p q d).code
    → Meets x.world bound n (update (env_of x numbers) token (PointerTo left) (PointerTo left) place o (Int kind) old w u) (λ v. HasValue x numbers spots assigned (moved-code x o left kind target p q d) d u n (Some v))
unfolding update put give ◌>>=◌ go_on
update-pointer laws bound x numbers spots assigned token o left kind target p q d u n at-place old w moves given-p given-q told tw both there holds =
    let at = site (env_of x numbers) token in
    let records = x.home.tree.records in
    let U : CType = PointerTo left in
    let z = combined records o U (Int kind) p q d in
    let made = moves-made records o left kind p q d moves in
    let temp : temp_of z ≡ made.temp = ap (λ (r : Option ℕ). unwrap_or r 0) made.is in
    let in-z = before-write (graph_of x) W32 target (temp_of z) z.code holds in
    let R : Value → State → Machine → Type 0 = λ v. HasValue x numbers spots assigned (moved-code x o left kind target p q d) d u n (Some v) in
    meets-then laws x.world bound n (source.binary at records o U (Int kind) old w u) _ (λ v. HasValue x numbers spots [] z d u n (Some v)) R
    (as-value x.world bound n (source.binary at records o U (Int kind) old w u) (HasValue x numbers spots [] z d u n)
    (moves-applies laws bound o left kind moves x numbers spots at p q d old w u n given-p given-q told tw both in-z))
    (λ v r t h.
    meets-then laws x.world bound t (convert at U v r) _ (λ v2 r2 t2. HasValue x numbers spots [] z d u n (Some v2) r2 t2 × IsPointer v2 × ((later : List Spot) (w : Value) → Stands later v2 w → Stands later v w)) R
    (converts-pointer bound x numbers spots [] at left z d u r n t v h)
    (λ v2 r2 t2 g.
    let spots2 = g.0.done.later.spots in
    let target2 = target-later laws x numbers spots spots2 at-place target n t2 g.0.done.later.lasts.more (λ j e. g.0.done.temps j (there.led j e) (λ l c. none-in l (_ ≢ _) c)) there.stands in
    meets-then laws x.world bound t2 (store Assigning at U at-place v2 r2) (λ done. give v2)
    (λ done. HasValue x numbers spots2 assigned (lowered_as (Some (temp_of z)) (write W32 target (temp_of z) z.code)) z.code r2 t2 (Some v2)) R
    (writes laws bound x numbers spots2 assigned Assigning U W32 at target (temp_of z) z.code r2 t2 at-place v2 refl
    (record { related = g.0.done.later.related; behind = g.0.behind; temps = omega (arith, both.ready.temps, made.since, made.given) }) holds there.suits there.covers (omega (arith, both.ready.temps, temp, made.since)) g.1 (operand-stands spots2 v2 z.temp t2 g.0.stands) target2)
    (λ done r3 t3 f.
    meets-here x.world bound t3 v2 r3 R
    (value-after laws x numbers spots [] assigned assigned (moved-code x o left kind target p q d) d z.code u r2 r3 n t2 t3 (Some v2) both.ready.related (omega (arith, made.since, made.given)) (λ l c. none-in l (Contains assigned l) c) (λ l c. c) g.0.done f))))

-- ---- compound assignments

-- behind the place: the old value, the right operand, and the new value
rest-moves :
    Laws → (bound t : ℕ) (o : BinaryOperator) (b : Expression) (left : QType) (kind : IntKind) (la : List ℕ) (target : Target) (x : Activation) (numbers : Numbers) (spots : List Spot) (c : Code) (u : State) (n : Machine) (place : Value)
    → IsActivation x → IsAdditive o → IsTyped x.home.tree x.function.locals b → HaveSlots x (addressed_in b) → ExpressionKeeps bound b → type_in b ≡ Int kind
    → IsReady x numbers spots c u n → SuitsType x (PointerTo left) target → Covers x la target → ((i : ℕ) → target ≡ Led i → (local_temps x ≤ i) × (i < c.temps)) → TargetStands x numbers spots place target n
    → let y = lower (home_of x) b (read_target W32 target c).code in
    ContainsCode (graph_of x) (moved-code x o left kind target (temp_of (read_target W32 target c)) (temp_of y) y.code).code
    → Meets x.world bound n ((old_value (env_of x numbers) t (PointerTo left) (PointerTo left) place >>= λ old. answer_of b (calls x.world bound) (env_of x numbers) >>= used (site (env_of x numbers) t) >>= λ w. update (env_of x numbers) t (PointerTo left) (PointerTo left) place o (Int kind) old w >>= λ r. give (Some r)) u)
    (HasValue x numbers spots (la ++ assigned_in b) (moved-code x o left kind target (temp_of (read_target W32 target c)) (temp_of y) y.code) c u n)
unfolding old_value ◌>>=◌ go_on give
rest-moves laws bound t o b left kind la target x numbers spots c u n place active moves typed slots keeps is ready suits covers led st holds =
    let h = home_of x in
    let at = site (env_of x numbers) t in
    let U : CType = PointerTo left in
    let old = read_target W32 target c in
    let old-temp : temp_of old ≡ c.temps = ap (λ (r : Option ℕ). unwrap_or r 0) (read-temp W32 target c) in
    let old-later = read-later W32 target c in
    let y = lower h b old.code in
    let z = moved-code x o left kind target (temp_of old) (temp_of y) y.code in
    let in-y = before-moved-code x o left kind target (temp_of old) (temp_of y) y.code moves holds in
    let in-old = laws.contain (graph_of x) h b old.code in-y in
    let new = laws.results x b old.code typed slots (scalar-not-void (type_in b) (subst IsScalar (sym is) tt)) in
    let temp : temp_of y ≡ new.result = ap (λ (r : Option ℕ). unwrap_or r 0) new.is in
    let later = (laws.later h b old.code).temps in
    let all = la ++ assigned_in b in
    let R = HasValue x numbers spots all z c u n in
    meets-then laws x.world bound n (old_value (env_of x numbers) t U U place u) _
    (λ v u1 n1. HasValue x numbers spots [] old c u n (Some v) u1 n1 × IsPointer v) R
    (meets-then laws x.world bound n (load at U place u) (λ v. convert at U v) (λ v. HasValue x numbers spots [] old c u n (Some v)) (λ v u1 n1. HasValue x numbers spots [] old c u n (Some v) u1 n1 × IsPointer v)
    (reads laws bound x numbers spots U W32 at target c u n place refl ready in-old suits st)
    (λ v u1 n1 g.
    meets-less x.world bound n1 (convert at U v u1) (λ r t o. HasValue x numbers spots [] old c u n (Some r) t o × IsPointer r × ((later : List Spot) (w : Value) → Stands later r w → Stands later v w)) (λ v u1 n1. HasValue x numbers spots [] old c u n (Some v) u1 n1 × IsPointer v)
    (converts-pointer bound x numbers spots [] at left old c u u1 n n1 v g) (λ r t o f. (f.0, f.1))))
    (λ v u1 n1 g.
    let spots1 = g.0.done.later.spots in
    let again : IsReady x numbers spots1 old.code u1 n1 = record { related = g.0.done.later.related; behind = g.0.behind; temps = omega (arith, ready.temps, old-later) } in
    meets-then laws x.world bound n1 ((answer_of b (calls x.world bound) (env_of x numbers) >>= used at) u1) _ (HasOperand x numbers spots1 b old.code u1 n1) R
    (operand laws bound x numbers spots1 b old.code u1 n1 at active typed g.0.done.later.related.matches.bytes (keeps x numbers spots1 old.code u1 n1 active typed slots in-y again))
    (λ w u2 n2 q.
    let spots2 = q.0.done.later.spots in
    let stay : (i : ℕ) → local_temps x ≤ i → i < old.code.temps → value_in n2.frame i ≡ value_in n1.frame i = λ i low lt. stays laws x numbers spots1 b old.code i u1 u2 n1 n2 typed low lt q.0.done in
    let typed-w : IsNumberOf kind w = subst (λ (T : CType). IsValueOf T w) is q.1 in
    meets-then laws x.world bound n2 (update (env_of x numbers) t U U place o (Int kind) v w u2) (λ r. give (Some r)) (λ r. HasValue x numbers spots2 la z y.code u2 n2 (Some r)) R
    (update-pointer laws bound x numbers spots2 la t o left kind target (temp_of old) (temp_of y) y.code u2 n2 place v w moves
    (omega (arith, old-temp, old-later, later)) (omega (arith, temp, new.given)) g.1 typed-w
    (record {
      ready = record { related = q.0.done.later.related; behind = q.0.behind; temps = omega (arith, again.temps, later) };
      first = subst (λ (r : Value). Stands spots2 v r) (sym (stay (temp_of old) (omega (arith, old-temp, ready.temps)) (omega (arith, old-temp, old-later))))
          (laws.stands spots1 spots2 v (value_in n1.frame (temp_of old)) q.0.done.later.lasts.more (operand-stands spots1 v old.temp n1 g.0.stands));
      second = operand-stands spots2 w y.temp n2 q.0.stands;
    })
    (record {
      suits = suits;
      covers = covers;
      led = λ i e. let l = led i e in omega (arith, l.1, old-later, later);
      stands = target-later laws x numbers spots spots2 place target n n2 (more-then spots spots1 spots2 g.0.done.later.lasts.more q.0.done.later.lasts.more)
          (λ i e. let l = led i e in stay i l.0 (omega (arith, l.1, old-later)) ∙ g.0.done.temps i l.1 (λ j there. none-in j (_ ≢ _) there)) st;
    }) holds)
    (λ r u3 n3 f.
    meets-here x.world bound n3 (Some r) u3 R
    (value-after laws x numbers spots [] all all z c old.code u u1 u3 n n1 n3 (Some r) ready.related (omega (arith, old-later)) (λ j there. none-in j (Contains all j) there) (λ j there. there) g.0.done
    (value-after laws x numbers spots1 (assigned_in b) la all z old.code y.code u1 u2 u3 n1 n2 n3 (Some r) g.0.done.later.related later
    (λ j there. Contains-append_right la (assigned_in b) j there) (λ j there. Contains-append_left la (assigned_in b) j there) q.0.done f)))))

pub pointer-compound-keeps : Laws → (bound t : ℕ) (ty : QType) (o : BinaryOperator) (working : CType) (a b : Expression) (left : QType) (kind : IntKind)
    → IsAdditive o → type_in a ≡ PointerTo left → working ≡ PointerTo left → type_in b ≡ Int kind → TargetsSuit a → LvalueKeeps bound a → ExpressionKeeps bound b → ExpressionKeeps bound (Node t ty (Compound o working a b))
unfolding lower answer_of IsTyped HasForm ◌>>=◌
pointer-compound-keeps laws bound t ty o working a b left kind moves is-a is-w is-b suited first second = λ x numbers spots c s m active typed slots holds ready.
    let h = home_of x in
    let e = env_of x numbers in
    let records = x.home.tree.records in
    let U : CType = PointerTo left in
    let p = place h a c in
    let old = read_target W32 p.target p.code in
    let y = lower h b old.code in
    let z = moved-code x o left kind p.target (temp_of old) (temp_of y) y.code in
    let form : CType → CType → Kind → Lowered = λ W T j. updated records o W T j p.target (temp_of (read_target j p.target p.code)) (lower h b (read_target j p.target p.code).code) in
    let k : scalar_kind (type_of ty) ≡ W32 = ap scalar_kind (sym typed.1.3 ∙ is-a) in
    let same : form working (type_in b) (scalar_kind (type_of ty)) ≡ z =
    ap (λ (j : Kind). form working (type_in b) j) k ∙ ap (λ (W : CType). form W (type_in b) W32) is-w ∙ ap (λ (T : CType). form U T W32) is-b in
    let whole : ContainsCode (graph_of x) z.code = subst (λ (l : Lowered). ContainsCode (graph_of x) l.code) same holds in
    let slots-a : HaveSlots x (addressed_in a) = λ i there. slots i (Contains-append_left (addressed_in a) (addressed_in b) i there) in
    let slots-b : HaveSlots x (addressed_in b) = λ i there. slots i (Contains-append_right (addressed_in a) (addressed_in b) i there) in
    let scalar : IsScalar (type_in a) = subst IsScalar (sym is-a) tt in
    let suits = suited x c active typed.1.0 slots-a typed.1.2.lvalue scalar in
    let in-y = before-moved-code x o left kind p.target (temp_of old) (temp_of y) y.code moves whole in
    let in-p = before-read (graph_of x) W32 p.target p.code (laws.contain (graph_of x) h b old.code in-y) in
    let la = local_in a in
    let all = la ++ assigned_in a ++ assigned_in b in
    let rest : CType → CType → CType → Value → Act (Option Value) = λ A W T v. old_value e t A W v >>= λ old. answer_of b (calls x.world bound) e >>= used (site e t) >>= λ w. update e t A W v o T old w >>= λ r. give (Some r) in
    let R = HasResult x numbers spots (Node t ty (Compound o working a b)) c s m in
    meets-then laws x.world bound m (place_of a (calls x.world bound) e s) _ (HasTarget x numbers spots a c s m) R
    (first x numbers spots c s m active typed.1.0 slots-a typed.1.2.lvalue scalar in-p ready)
    (λ v u n q.
    subst (λ (A : CType). Meets x.world bound n (rest A working (type_in b) v u) R) (sym is-a)
    (subst (λ (W : CType). Meets x.world bound n (rest U W (type_in b) v u) R) (sym is-w)
    (subst (λ (T : CType). Meets x.world bound n (rest U U T v u) R) (sym is-b)
    (meets-less x.world bound n (rest U U (Int kind) v u) (HasValue x numbers q.done.later.spots (la ++ assigned_in b) z p.code u n) R
    (rest-moves laws bound t o b left kind la p.target x numbers q.done.later.spots p.code u n v active moves typed.1.1 slots-b second is-b
    (ready-placed x numbers spots a c s u m n v ready suits.later.temps q) (subst (λ (A : CType). SuitsType x A p.target) is-a suits.suits) suits.covers
    (λ i there. let l = led-since c p p.target i there suits.later.led in (omega (arith, l.0, ready.temps), l.1)) q.stands whole)
    (λ r w n2 f.
    subst (λ (l : Lowered). HasValue x numbers spots all l c s m r w n2) (sym same)
    (value-after laws x numbers spots (assigned_in a) (la ++ assigned_in b) all z c p.code s u w m n n2 r ready.related suits.later.temps
    (λ i there. Contains-append_left (la ++ assigned_in a) (assigned_in b) i (Contains-append_right la (assigned_in a) i there)) (rest-within la (assigned_in a) (assigned_in b)) q.done f))))))

-- ---- steps

-- behind the place: the old value and the number 1
step-rest :
    Laws → (bound t : ℕ) (so : StepOperator) (left : QType) (la : List ℕ) (target : Target) (x : Activation) (numbers : Numbers) (spots : List Spot) (c : Code) (u : State) (n : Machine) (place : Value)
    → let old = read_target W32 target c in
    let one = constant 1 old.code in
    let z = moved-code x (step_operator so) left K.Int target (temp_of old) (temp_of one) one.code in
    IsReady x numbers spots c u n → SuitsType x (PointerTo left) target → Covers x la target → ((i : ℕ) → target ≡ Led i → (local_temps x ≤ i) × (i < c.temps)) → TargetStands x numbers spots place target n
    → ((i : ℕ) → Contains la i → place_in x i ≢ Temp c.temps)
    → ContainsCode (graph_of x) z.code
    → Meets x.world bound n (meaning.step (env_of x numbers) t so (PointerTo left) place u) (λ r. HasValue x numbers spots la (step_value so (temp_of old) z) c u n (Some r))
unfolding meaning.step give ◌>>=◌ go_on command
step-rest laws bound t so left la target x numbers spots c u n place ready suits covers led st apart holds =
    let e = env_of x numbers in
    let at = site e t in
    let U : CType = PointerTo left in
    let o = step_operator so in
    let old = read_target W32 target c in
    let one = constant 1 old.code in
    let z = moved-code x o left K.Int target (temp_of old) (temp_of one) one.code in
    let in-one = before-moved-code x o left K.Int target (temp_of old) (temp_of one) one.code (step-moves so) holds in
    let in-old = before-fresh (graph_of x) (λ i. op.Const i 1) old.code in-one in
    let old-temp : temp_of old ≡ c.temps = ap (λ (r : Option ℕ). unwrap_or r 0) (read-temp W32 target c) in
    let old-later = read-later W32 target c in
    let R : Value → State → Machine → Type 0 = λ r. HasValue x numbers spots la (step_value so (temp_of old) z) c u n (Some r) in
    meets-then laws x.world bound n (load at U place u) _ (λ v. HasValue x numbers spots [] old c u n (Some v)) R
    (reads laws bound x numbers spots U W32 at target c u n place refl ready in-old suits st)
    (λ v u0 n0 g0.
    meets-then laws x.world bound n0 (convert at U v u0) _ (λ w t o. HasValue x numbers spots [] old c u n (Some w) t o × IsPointer w × ((later : List Spot) (r : Value) → Stands later w r → Stands later v r)) R
    (converts-pointer bound x numbers spots [] at left old c u u0 n n0 v g0)
    (λ w u1 n1 h.
    let spots1 = h.0.done.later.spots in
    let again : IsReady x numbers spots1 old.code u1 n1 = record { related = h.0.done.later.related; behind = h.0.behind; temps = omega (arith, ready.temps, old-later) } in
    let r1 = laws.fresh x numbers spots1 [] old.code u1 n1 (λ i. op.Const i 1) (V.Num 1) (V.Num 1) in-one again refl (λ rest. refl) in
    let g = r1.holds in
    let n2 = r1.machine in
    let spots2 = g.done.later.spots in
    let stay : (i : ℕ) → i < old.code.temps → value_in n2.frame i ≡ value_in n1.frame i = λ i lt. g.done.temps i lt (λ j there. none-in j (_ ≢ _) there) in
    let old-stands : Stands spots2 w (value_in n2.frame (temp_of old)) =
    subst (λ (r : Value). Stands spots2 w r) (sym (stay (temp_of old) (omega (arith, old-temp, old-later)))) (laws.stands spots1 spots2 w (value_in n1.frame (temp_of old)) g.done.later.lasts.more (operand-stands spots1 w old.temp n1 h.0.stands)) in
    let act : Act Value = λ r. update e t U U place o (Int K.Int) w (V.Num 1) r in
    meets-later laws x.world bound n1 n2 r1.count ((act >>= λ new. give (step_result so v new)) u1) R r1.comes
    (meets-then laws x.world bound n2 (act u1) (λ new. give (step_result so v new)) (λ new. HasValue x numbers spots2 la z one.code u1 n2 (Some new)) R
    (update-pointer laws bound x numbers spots2 la t o left K.Int target (temp_of old) (temp_of one) one.code u1 n2 place w (V.Num 1) (step-moves so)
    (omega (arith, old-temp, old-later)) (omega arith) h.1 refl
    (record {
      ready = record { related = g.done.later.related; behind = g.behind; temps = omega (arith, again.temps) };
      first = old-stands;
      second = g.stands;
    })
    (record {
      suits = suits;
      covers = covers;
      led = λ i e. let l = led i e in omega (arith, l.1, old-later);
      stands = target-later laws x numbers spots spots2 place target n n2 (more-then spots spots1 spots2 h.0.done.later.lasts.more g.done.later.lasts.more)
          (λ i e. let l = led i e in stay i (omega (arith, l.1, old-later)) ∙ h.0.done.temps i l.1 (λ j there. none-in j (_ ≢ _) there)) st;
    }) holds)
    (λ new u3 n3 f.
    let kept : value_in n3.frame (temp_of old) ≡ value_in n2.frame (temp_of old) = f.done.temps (temp_of old) (omega (arith, old-temp, old-later)) (λ j there e. apart j there (e ∙ ap Temp old-temp)) in
    let still : Stands f.done.later.spots w (value_in n3.frame (temp_of old)) =
    subst (λ (r : Value). Stands f.done.later.spots w r) (sym kept) (laws.stands spots2 f.done.later.spots w (value_in n2.frame (temp_of old)) f.done.later.lasts.more old-stands) in
    let last = step-gives so x numbers spots2 la (temp_of old) z one.code u1 u3 n2 n3 v new f (h.2 f.done.later.spots (value_in n3.frame (temp_of old)) still) in
    let y = step_value so (temp_of old) z in
    let result : Option Value = Some (step_result so v new) in
    meets-here x.world bound n3 (step_result so v new) u3 R
    (value-after laws x numbers spots [] la la y c old.code u u1 u3 n n1 n3 result ready.related (omega (arith, old-later)) (λ j there. none-in j (Contains la j) there) (λ j there. there) h.0.done
    (value-after laws x numbers spots1 [] la la y old.code one.code u1 u1 u3 n1 n2 n3 result h.0.done.later.related (omega arith) (λ j there. none-in j (Contains la j) there) (λ j there. there) g.done last))))))

pub pointer-step-keeps : Laws → (bound t : ℕ) (ty : QType) (so : StepOperator) (a : Expression) (left : QType)
    → type_in a ≡ PointerTo left → TargetsSuit a → LvalueKeeps bound a → ExpressionKeeps bound (Node t ty (Step so a))
unfolding lower answer_of IsTyped HasForm ◌>>=◌ give go_on
pointer-step-keeps laws bound t ty so a left is-a suited keeps = λ x numbers spots c s m active typed slots holds ready.
    let h = home_of x in
    let e = env_of x numbers in
    let records = x.home.tree.records in
    let U : CType = PointerTo left in
    let p = place h a c in
    let old = read_target W32 p.target p.code in
    let one = constant 1 old.code in
    let o = step_operator so in
    let inner = moved-code x o left K.Int p.target (temp_of old) (temp_of one) one.code in
    let z = step_value so (temp_of old) inner in
    let form : CType → Kind → Lowered = λ W j. let r = read_target j p.target p.code in step_value so (temp_of r) (updated records o W Void j p.target (temp_of r) (constant 1 r.code)) in
    let kind : scalar_kind (type_of ty) ≡ W32 = ap scalar_kind (sym typed.1.2 ∙ is-a) in
    let work : promoted_type (type_of ty) ≡ U = ap promoted_type (sym typed.1.2 ∙ is-a) in
    let same : form (promoted_type (type_of ty)) (scalar_kind (type_of ty)) ≡ z = ap (λ (j : Kind). form (promoted_type (type_of ty)) j) kind ∙ ap (λ (W : CType). form W W32) work in
    let whole : ContainsCode (graph_of x) inner.code = subst (λ (d : Code). ContainsCode (graph_of x) d) (step-code so (temp_of old) inner) (subst (λ (l : Lowered). ContainsCode (graph_of x) l.code) same holds) in
    let scalar : IsScalar (type_in a) = subst IsScalar (sym is-a) tt in
    let suits = suited x c active typed.1.0 slots typed.1.1.lvalue scalar in
    let in-one = before-moved-code x o left K.Int p.target (temp_of old) (temp_of one) one.code (step-moves so) whole in
    let in-p = before-read (graph_of x) W32 p.target p.code (before-fresh (graph_of x) (λ i. op.Const i 1) old.code in-one) in
    let la = local_in a in
    let all = la ++ assigned_in a in
    let R = HasResult x numbers spots (Node t ty (Step so a)) c s m in
    meets-then laws x.world bound m (place_of a (calls x.world bound) e s) _ (HasTarget x numbers spots a c s m) R
    (keeps x numbers spots c s m active typed.1.0 slots typed.1.1.lvalue scalar in-p ready)
    (λ v u n q.
    let again = ready-placed x numbers spots a c s u m n v ready suits.later.temps q in
    subst (λ (A : CType). Meets x.world bound n ((meaning.step e t so A v >>= λ r. give (Some r)) u) R) (sym is-a)
    (meets-then laws x.world bound n (meaning.step e t so U v u) (λ r. give (Some r)) (λ r. HasValue x numbers q.done.later.spots la z p.code u n (Some r)) R
    (step-rest laws bound t so left la p.target x numbers q.done.later.spots p.code u n v again (subst (λ (A : CType). SuitsType x A p.target) is-a suits.suits) suits.covers
    (λ i there. let l = led-since c p p.target i there suits.later.led in (omega (arith, l.0, ready.temps), l.1)) q.stands
    (λ i there f. let l = laws.assigned x (Node t ty (Step so a)) typed i (Contains-append_left la (assigned_in a) i there) in omega (arith, laws.below x i p.code.temps l.0 l.1 f, again.temps)) whole)
    (λ r w n2 f.
    meets-here x.world bound n2 (Some r) w R
    (subst (λ (l : Lowered). HasValue x numbers spots all l c s m (Some r) w n2) (sym same)
    (value-after laws x numbers spots (assigned_in a) la all z c p.code s u w m n n2 (Some r) ready.related suits.later.temps
    (λ i there. Contains-append_right la (assigned_in a) i there) (λ i there. Contains-append_left la (assigned_in a) i there) q.done f)))))

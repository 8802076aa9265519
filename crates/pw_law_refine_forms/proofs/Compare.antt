-- Comparisons of pointers (C90 6.3.8, 6.3.9), and what all binary operators share.
use Rattle.std.proofs.Common.{◌≡◌, ◌≢◌, ℕ, ◌≤◌, ◌==◌, ◌&&◌, ◌||◌, Bool, true, false, not, true≢false, nat_eq, nat_le, nat_lt, le-leb, eq-eqb, ne_eqb, eqb-true, if◌then◌else◌, inl, inr, Option, Some, None, unwrap_or, option_map, List, [], ◌∷◌, ◌++◌, length, Contains, refl, ap, ap₂, sym, ◌∙◌, subst, arith}
use Rattle.std.proofs.lemmas.Bool.{and_from, not-false, or_parts, cases_eq}
use Rattle.std.proofs.lemmas.Option.{same_Some}
use Rattle.std.proofs.lemmas.List.Elements.{Contains-append_left, Contains-append_right}
use Rattle.pw_value.specs.declared.value.Value.{Value}
use Rattle.pw_value.specs.declared.value.Value.TheVariants as V
use Rattle.pw_value.specs.declared.value.Pointer.{Pointer}
use Rattle.pw_value.specs.declared.value.Pointer.TheVariants as P
use Rattle.pw_value.specs.Values.{same_pointer}
use Rattle.pw_value.specs.Objects.{Object, object_at}
use Rattle.pw_types.specs.TypeTrees.{CType, Void, Pointer as PointerTo, QType}
use Rattle.pw_types.specs.declared.tree.BinaryOperator.{BinaryOperator}
use Rattle.pw_types.specs.declared.tree.BinaryOperator.TheVariants as B
use Rattle.pw_types.specs.TypedTrees.{Expression, Node, Binary}
use Rattle.pw_types.specs.WellTyped.{IsTyped, HasForm, type_in}
use Rattle.pw_flow.specs.declared.flow.Op.TheVariants as op
use Rattle.pw_flow.specs.declared.flow.BinKind.{BinKind}
use Rattle.pw_flow.specs.declared.flow.BinKind.TheVariants.{Eq, Ne, LtU, LeU}
use Rattle.pw_lower.specs.declared.code.Code.{Code}
use Rattle.pw_lower.specs.Codes.{Lowered, temp_of, fresh}
use Rattle.pw_lower.specs.Places.{addressed_in}
use Rattle.pw_lower.specs.Operators.{operation_of, is_turned, combined}
use Rattle.pw_lower.specs.Expressions.{lower}
use Rattle.pw_cmean.specs.declared.undefined.Undef.TheVariants as U
use Rattle.pw_cmean.specs.Undefined.{◌when◌}
use Rattle.pw_cmean.specs.Acts.{State, Site, Act, give, stop, wrong, need, look, ◌>>=◌, go_on}
use Rattle.pw_cmean.specs.Access.{objects_now}
use Rattle.pw_cmean.specs.Operators as source
use Rattle.pw_cmean.specs.Operators.{number_for, is_ended, into_one_object, offset_of, same, ordered, compared, on_pointers, outcome_of, arithmetic}
use Rattle.pw_cmean.specs.Evaluation.{site, used, answer_of}
use Rattle.pw_cmean.specs.SourceRun.{calls}
use Rattle.pw_run_languages.specs.Commands.{command}
use Rattle.pw_run_languages.specs.Values as flow
use Rattle.pw_run_languages.specs.FlowRun as run
use Rattle.pw_run_languages.specs.FlowRun.{Machine, value_in}
use Rattle.pw_law_refine.specs.Standing.{Spot, In, spot_of, Leads, Stands, MemoryStands}
use Rattle.pw_law_refine.specs.Activations.{Activation, IsActivation, Numbers, graphs, graph_of, home_of, env_of, HaveSlots}
use Rattle.pw_law_refine.specs.Containing.{ContainsCode}
use Rattle.pw_law_refine.specs.Meeting.{Reaches, Meets}
use Rattle.pw_law_refine.specs.Expressions.{assigned_in, IsReady, HasValue, HasResult, ExpressionKeeps}
use Rattle.pw_law_refine_forms.specs.Accesses.{IsComparison}
use Rattle.pw_law_refine_forms.specs.Operands.{BothStand, Applies, AppliesAt}
use Rattle.pw_law_refine_forms.proofs.Bytes.{same-object}
use Rattle.pw_law_refine_forms.proofs.Laws.{Laws}
use Rattle.pw_law_refine_forms.proofs.Simulation.{meets-then, meets-less, judged}
use Rattle.pw_law_refine_forms.proofs.Kit.{before-fresh, value-after, ready-then, none-in, stays, HasOperand, operand, operand-stands}
use Rattle.pw_law_refine_forms.proofs.Access.{first-false}
use Rattle.pw_law_refine_forms.proofs.Branches.{somewhere}
use Rattle.pw_law_refine_forms.proofs.Truths.{truth-is, scalar-not-void}

-- ---- two operands

abbrev pub HasOperands : BinaryOperator → CType → CType → Type 0
HasOperands o left right =
    (x : Activation) (p q : ℕ) (d : Code) → ContainsCode (graph_of x) (combined x.home.tree.records o left right p q d).code → ContainsCode (graph_of x) d

pub binary-keeps : Laws → (bound t : ℕ) (ty : QType) (o : BinaryOperator) (a b : Expression) → type_in a ≢ Void → type_in b ≢ Void → ((x : Activation) → IsActivation x → AppliesAt x bound o (type_in a) (type_in b)) → HasOperands o (type_in a) (type_in b)
    → ExpressionKeeps bound a → ExpressionKeeps bound b → ExpressionKeeps bound (Node t ty (Binary o a b))
unfolding lower answer_of ◌>>=◌ IsTyped HasForm
binary-keeps laws bound t ty o a b nonvoid nonvoid-b applies operands first second = λ x numbers spots c s m active typed slots holds ready.
    let h = home_of x in
    let y = lower h a c in
    let z = lower h b y.code in
    let at = site (env_of x numbers) t in
    let slots-a : HaveSlots x (addressed_in a) = λ i e. slots i (Contains-append_left (addressed_in a) (addressed_in b) i e) in
    let slots-b : HaveSlots x (addressed_in b) = λ i e. slots i (Contains-append_right (addressed_in a) (addressed_in b) i e) in
    let new = laws.results x a c typed.1.0 slots-a nonvoid in
    let temp : temp_of y ≡ new.result = ap (λ (r : Option ℕ). unwrap_or r 0) new.is in
    let newer = laws.results x b y.code typed.1.1 slots-b nonvoid-b in
    let temp-b : temp_of z ≡ newer.result = ap (λ (r : Option ℕ). unwrap_or r 0) newer.is in
    let whole : ContainsCode (graph_of x) z.code = operands x (temp_of y) (temp_of z) z.code holds in
    let all = assigned_in a ++ assigned_in b in
    let k = combined x.home.tree.records o (type_in a) (type_in b) (temp_of y) (temp_of z) z.code in
    let R = HasResult x numbers spots (Node t ty (Binary o a b)) c s m in
    meets-then laws x.world bound m ((answer_of a (calls x.world bound) (env_of x numbers) >>= used at) s) _
    (HasOperand x numbers spots a c s m) R
    (operand laws bound x numbers spots a c s m at active typed.1.0 ready.related.matches.bytes
    (first x numbers spots c s m active typed.1.0 slots-a (laws.contain (graph_of x) h b y.code whole) ready))
    (λ v u n q.
    let spots' = q.0.done.later.spots in
    let again = ready-then laws x numbers spots a c s u m n (Some v) ready q.0 in
    meets-then laws x.world bound n ((answer_of b (calls x.world bound) (env_of x numbers) >>= used at) u) _
    (HasOperand x numbers spots' b y.code u n) R
    (operand laws bound x numbers spots' b y.code u n at active typed.1.1 q.0.done.later.related.matches.bytes
    (second x numbers spots' y.code u n active typed.1.1 slots-b whole again))
    (λ w u' n' q'.
    let kept : value_in n'.frame (temp_of y) ≡ value_in n.frame (temp_of y) =
    stays laws x numbers spots' b y.code (temp_of y) u u' n n' typed.1.1 (omega (arith, temp, new.since, ready.temps)) (omega (arith, temp, new.given)) q'.0.done in
    let later = q'.0.done.later.spots in
    meets-less x.world bound n' ((source.binary at x.home.tree.records o (type_in a) (type_in b) v w >>= λ result. give (Some result)) u') (HasValue x numbers later [] k z.code u' n') R
    (applies x active numbers later at (temp_of y) (temp_of z) z.code v w u' n' (omega (arith, temp, new.given, (laws.later h b y.code).temps)) (omega (arith, temp-b, newer.given)) q.1 q'.1
    (record {
      ready = ready-then laws x numbers spots' b y.code u u' n n' (Some w) again q'.0;
      first = subst (λ (g : Value). Stands later v g) (sym kept)
          (laws.stands spots' later v (value_in n.frame (temp_of y)) q'.0.done.later.lasts.more (operand-stands spots' v y.temp n q.0.stands));
      second = operand-stands later w z.temp n' q'.0.stands;
    }) holds)
    (λ result u'' n'' e.
    value-after laws x numbers spots (assigned_in a) (assigned_in b) all k c y.code s u u'' m n n'' result ready.related (laws.later h a c).temps
    (λ i g. Contains-append_left (assigned_in a) (assigned_in b) i g) (λ i g. Contains-append_right (assigned_in a) (assigned_in b) i g) q.0.done
    (value-after laws x numbers spots' (assigned_in b) [] (assigned_in b) k y.code z.code u u' u'' n n' n'' result q.0.done.later.related (laws.later h b y.code).temps
    (λ i g. g) (λ i g. none-in i (Contains (assigned_in b) i) g) q'.0.done e))))

-- ---- an operation on two values, in either order

unfoldable pub ordered-code : Bool → BinKind → ℕ → ℕ → Code → Lowered
ordered-code turned k p q d = if turned then fresh (λ t. op.Bin k t q p) d else fresh (λ t. op.Bin k t p q) d

pub two-give :
    Laws → (turned : Bool) (k : BinKind) (x : Activation) (numbers : Numbers) (spots : List Spot) (p q : ℕ) (d : Code) (u : State) (n : Machine) (v w result : Value)
    → IsReady x numbers spots d u n → ContainsCode (graph_of x) (ordered-code turned k p q d).code
    → (if turned then flow.binary n.objects k (value_in n.frame q) (value_in n.frame p) else flow.binary n.objects k (value_in n.frame p) (value_in n.frame q)) ≡ Some w → Stands spots result w
    → Reaches (graphs x.world) n (HasValue x numbers spots [] (ordered-code turned k p q d) d u n (Some result) u)
unfolding command ordered-code
two-give laws true k x numbers spots p q d u n v w result ready holds does st =
    laws.fresh x numbers spots [] d u n (λ t. op.Bin k t q p) result w holds ready st (λ rest. ap (λ (r : Option Value). run.gives d.temps r (record n { frame = record n.frame { ops = rest } })) does)
two-give laws false k x numbers spots p q d u n v w result ready holds does st =
    laws.fresh x numbers spots [] d u n (λ t. op.Bin k t p q) result w holds ready st (λ rest. ap (λ (r : Option Value). run.gives d.temps r (record n { frame = record n.frame { ops = rest } })) does)

-- ---- pointers

at-object : (spots : List Spot) (o i : ℕ) (w : Value) → Stands spots (V.At (P.Object o i)) w → ℕ
at-object spots o i w st = st.1.object

is-at : (spots : List Spot) (o i : ℕ) (w : Value) → (st : Stands spots (V.At (P.Object o i)) w) → w ≡ V.At (P.Object st.1.object i)
is-at spots o i w st = st.2 ∙ ap V.At st.1.is

-- two pointers into one object
pub record IntoOne (p q : Value) : Type 0 where
  pub object : ℕ
  pub i : ℕ
  pub j : ℕ
  pub first : p ≡ V.At (P.Object object i)
  pub second : q ≡ V.At (P.Object object j)

pub into-one : (p q : Value) → into_one_object p q ≡ true → IntoOne p q
into-one (V.At (P.Object a i)) (V.At (P.Object b j)) e =
    record { object = a; i = i; j = j; first = refl; second = ap (λ (o : ℕ). V.At (P.Object o j)) (sym (eqb-true a b e)) }
into-one p q e = absurd (true≢false (sym e))

-- what comparisons of offsets give, by the operation that lowering makes of them
compares : (o : BinaryOperator) → Type 0
compares o = (objects : List Object) (f i j : ℕ) → flow.is_near objects f i ≡ true → flow.is_near objects f j ≡ true → (n : ℕ)
    × ((at : Site) → outcome_of at (arithmetic o false i j) ≡ give (V.Num n))
    × ((if is_turned o then flow.binary objects (operation_of o false) (V.At (P.Object f j)) (V.At (P.Object f i)) else flow.binary objects (operation_of o false) (V.At (P.Object f i)) (V.At (P.Object f j))) ≡ Some (V.Num n))

near-both : (objects : List Object) (f i j : ℕ) (r : Value) → flow.is_near objects f i ≡ true → flow.is_near objects f j ≡ true
    → (if (f == f) && (flow.is_near objects f i && flow.is_near objects f j) then Some r else None) ≡ Some r
near-both objects f i j r h k =
    ap (λ (b : Bool). if b then Some r else None)
    (and_from (f == f) (flow.is_near objects f i && flow.is_near objects f j) (eq-eqb f f refl) (and_from (flow.is_near objects f i) (flow.is_near objects f j) h k))

less-compares : compares B.Less
unfolding compares outcome_of
less-compares objects f i j h k = (number_for (nat_lt i j), λ at. refl, near-both objects f i j (flow.truth (nat_lt i j)) h k ∙ ap Some (truth-is (nat_lt i j)))

greater-compares : compares B.Greater
unfolding compares outcome_of
greater-compares objects f i j h k = (number_for (nat_lt j i), λ at. refl, near-both objects f j i (flow.truth (nat_lt j i)) k h ∙ ap Some (truth-is (nat_lt j i)))

at-most-compares : compares B.LessEqual
unfolding compares outcome_of
at-most-compares objects f i j h k = (number_for (nat_le i j), λ at. refl, near-both objects f i j (flow.truth (nat_le i j)) h k ∙ ap Some (truth-is (nat_le i j)))

at-least-compares : compares B.GreaterEqual
unfolding compares outcome_of
at-least-compares objects f i j h k = (number_for (nat_le j i), λ at. refl, near-both objects f j i (flow.truth (nat_le j i)) k h ∙ ap Some (truth-is (nat_le j i)))

-- a pointer that has not ended is near its object
pub near : (spots : List Spot) (objects kept : List Object) (o i f size : ℕ) → MemoryStands spots objects kept → spot_of spots o ≡ In f size → i ≤ size → is_ended objects (V.At (P.Object o i)) ≡ false
    → flow.is_near kept f i ≡ true
near spots objects kept o i f size m there inside live =
    let h = m.holds o f size (not-false (object_at objects o).live live) there in
    and_from (object_at kept f).live (nat_le i (length (object_at kept f).bytes)) h.live (le-leb i (length (object_at kept f).bytes) (omega (arith, inside, h.same_size)))

orders :
    Laws → (bound : ℕ) (o : BinaryOperator) → compares o → (x : Activation) (numbers : Numbers) (spots : List Spot) (at : Site) (p q : ℕ) (d : Code) (v w : Value) (u : State) (n : Machine)
    → BothStand x numbers spots p q d v w u n → ContainsCode (graph_of x) (ordered-code (is_turned o) (operation_of o false) p q d).code
    → Meets x.world bound n ((ordered at o v w >>= λ result. give (Some result)) u) (HasValue x numbers spots [] (ordered-code (is_turned o) (operation_of o false) p q d) d u n)
unfolding ordered objects_now look ◌>>=◌ go_on give compares run.steps
orders laws bound o can x numbers spots at p q d v w u n both holds =
    meets-then laws x.world bound n (ordered at o v w u) (λ result. give (Some result)) (λ result. HasValue x numbers spots [] (ordered-code (is_turned o) (operation_of o false) p q d) d u n (Some result))
    (HasValue x numbers spots [] (ordered-code (is_turned o) (operation_of o false) p q d) d u n)
    (judged x.world bound n at (U.EndedObject when (is_ended u.objects v || is_ended u.objects w) ∷ U.DifferentObjects when not (into_one_object v w) ∷ []) _ u _ both.ready.related.matches.shows (λ none.
    let a = first-false U.EndedObject (is_ended u.objects v || is_ended u.objects w) (U.DifferentObjects when not (into_one_object v w) ∷ []) none in
    let b = first-false U.DifferentObjects (not (into_one_object v w)) [] a.1 in
    let one = into-one v w (not-false (into_one_object v w) b.0) in
    let lives = or_parts (is_ended u.objects v) (is_ended u.objects w) a.0 in
    let memory = both.ready.related.matches.memory in
    let sv : Stands spots (V.At (P.Object one.object one.i)) (value_in n.frame p) = subst (λ (z : Value). Stands spots z (value_in n.frame p)) one.first both.first in
    let sw : Stands spots (V.At (P.Object one.object one.j)) (value_in n.frame q) = subst (λ (z : Value). Stands spots z (value_in n.frame q)) one.second both.second in
    let f = sv.1.object in
    let same-f : sw.1.object ≡ f = same-object sw.1.object sw.1.size f sv.1.size (sym sw.1.there ∙ sv.1.there) in
    let vp : value_in n.frame p ≡ V.At (P.Object f one.i) = is-at spots one.object one.i (value_in n.frame p) sv in
    let vq : value_in n.frame q ≡ V.At (P.Object f one.j) = is-at spots one.object one.j (value_in n.frame q) sw ∙ ap (λ (k : ℕ). V.At (P.Object k one.j)) same-f in
    let near-i = near spots u.objects n.objects one.object one.i f sv.1.size memory sv.1.there sv.1.inside (ap (λ (z : Value). is_ended u.objects z) (sym one.first) ∙ lives.0) in
    let near-j = near spots u.objects n.objects one.object one.j f sw.1.size memory (sw.1.there ∙ ap (λ (k : ℕ). In k sw.1.size) same-f) sw.1.inside (ap (λ (z : Value). is_ended u.objects z) (sym one.second) ∙ lives.1) in
    let c = can n.objects f one.i one.j near-i near-j in
    subst (λ (act : Act Value). Meets x.world bound n (act u) (λ result. HasValue x numbers spots [] (ordered-code (is_turned o) (operation_of o false) p q d) d u n (Some result)))
    (sym (ap₂ (λ (y z : Value). outcome_of at (arithmetic o false (offset_of y) (offset_of z))) one.first one.second ∙ c.1 at))
    (two-give laws (is_turned o) (operation_of o false) x numbers spots p q d u n (value_in n.frame p) (V.Num c.0) (V.Num c.0) both.ready holds
    (ap₂ (λ (y z : Value). if is_turned o then flow.binary n.objects (operation_of o false) z y else flow.binary n.objects (operation_of o false) y z) vp vq ∙ c.2) refl)))
    (λ result r z h. record { count = 0; machine = z; comes = refl; holds = h })

-- ---- equality

same-place : (spots : List Spot) (objects kept : List Object) (p q : Pointer) (r s : Pointer) → MemoryStands spots objects kept → Leads spots p r → Leads spots q s
    → is_ended objects (V.At p) ≡ false → is_ended objects (V.At q) ≡ false → flow.same_place kept r s ≡ Some (same_pointer p q)
same-place spots objects kept (P.Object a i) (P.Object b j) r s m l g ea eb =
    let na = near spots objects kept a i l.object l.size m l.there l.inside ea in
    let nb = near spots objects kept b j g.object g.size m g.there g.inside eb in
    let same-objects : (l.object == g.object) ≡ nat_eq a b = elim (cases_eq a b) [
      | inl e ↦ eq-eqb l.object g.object (same-object l.object l.size g.object g.size (sym l.there ∙ ap (λ (k : ℕ). spot_of spots k) e ∙ g.there)) ∙ sym (eq-eqb a b e)
      | inr ne ↦ ne_eqb l.object g.object (λ e. ne (m.apart a b g.object l.size g.size (not-false (object_at objects a).live ea) (not-false (object_at objects b).live eb)
          (subst (λ (k : ℕ). spot_of spots a ≡ In k l.size) e l.there) g.there)) ∙ sym (ne_eqb a b ne)
    ] in
    ap₂ (λ (y z : Pointer). flow.same_place kept y z) l.is g.is
    ∙ ap (λ (t : Bool). if t then Some ((l.object == g.object) && (i == j)) else None) (and_from (flow.is_near kept l.object i) (flow.is_near kept g.object j) na nb)
    ∙ ap (λ (t : Bool). Some (t && nat_eq i j)) same-objects
same-place spots objects kept (P.Function f) (P.Function h) r s m l g ea eb = ap₂ (λ (y z : Pointer). flow.same_place kept y z) l g
same-place spots objects kept (P.Object a i) (P.Function h) r s m l g ea eb =
    ap₂ (λ (y z : Pointer). flow.same_place kept y z) l.is g ∙ ap (λ (t : Bool). if t then Some false else None) (near spots objects kept a i l.object l.size m l.there l.inside ea)
same-place spots objects kept (P.Function f) (P.Object b j) r s m l g ea eb =
    ap₂ (λ (y z : Pointer). flow.same_place kept y z) l g.is ∙ ap (λ (t : Bool). if t then Some false else None) (near spots objects kept b j g.object g.size m g.there g.inside eb)

-- what equality gives
pub record AreSame (objects : List Object) (v w : Value) (holds : Bool) : Type 0 where
  pub equal : flow.binary objects Eq v w ≡ Some (flow.truth holds)
  pub unequal : flow.binary objects Ne v w ≡ Some (flow.truth (not holds))

is_answer : Option Bool → Bool
is_answer None = false
is_answer (Some b) = true

no-answer : (b : Bool) → None ≡ Some b → ⊥
unfolding is_answer
no-answer b e = true≢false (sym (ap is_answer e))

pub are-same : (spots : List Spot) (objects kept : List Object) (p q v w : Value) (holds : Bool) → MemoryStands spots objects kept → Stands spots p v → Stands spots q w
    → (is_ended objects p || is_ended objects q) ≡ false → same p q ≡ Some holds → AreSame kept v w holds
are-same spots objects kept V.Null V.Null v w holds m sv sw ended e =
    subst (λ (b : Bool). AreSame kept v w b) (same_Some true holds e) (record {
      equal = ap₂ (λ (y z : Value). flow.binary kept Eq y z) sv sw;
      unequal = ap₂ (λ (y z : Value). flow.binary kept Ne y z) sv sw;
    })
are-same spots objects kept V.Null (V.At q) v w holds m sv sw ended e =
    let there = somewhere spots objects kept q sw.0 m sw.1 (or_parts false (is_ended objects (V.At q)) ended).1 in
    subst (λ (b : Bool). AreSame kept v w b) (same_Some false holds e) (record {
      equal = ap₂ (λ (y z : Value). flow.binary kept Eq y z) sv sw.2 ∙ ap (λ (t : Bool). if t then Some (flow.truth false) else None) there;
      unequal = ap₂ (λ (y z : Value). flow.binary kept Ne y z) sv sw.2 ∙ ap (λ (t : Bool). if t then Some (flow.truth true) else None) there;
    })
are-same spots objects kept (V.At p) V.Null v w holds m sv sw ended e =
    let there = somewhere spots objects kept p sv.0 m sv.1 (or_parts (is_ended objects (V.At p)) false ended).0 in
    subst (λ (b : Bool). AreSame kept v w b) (same_Some false holds e) (record {
      equal = ap₂ (λ (y z : Value). flow.binary kept Eq y z) sv.2 sw ∙ ap (λ (t : Bool). if t then Some (flow.truth false) else None) there;
      unequal = ap₂ (λ (y z : Value). flow.binary kept Ne y z) sv.2 sw ∙ ap (λ (t : Bool). if t then Some (flow.truth true) else None) there;
    })
are-same spots objects kept (V.At p) (V.At q) v w holds m sv sw ended e =
    let lives = or_parts (is_ended objects (V.At p)) (is_ended objects (V.At q)) ended in
    let place = same-place spots objects kept p q sv.0 sw.0 m sv.1 sw.1 lives.0 lives.1 in
    subst (λ (b : Bool). AreSame kept v w b) (same_Some (same_pointer p q) holds e) (record {
      equal = ap₂ (λ (y z : Value). flow.binary kept Eq y z) sv.2 sw.2 ∙ ap (λ (r : Option Bool). option_map flow.truth r) place;
      unequal = ap₂ (λ (y z : Value). flow.binary kept Ne y z) sv.2 sw.2 ∙ ap (λ (r : Option Bool). option_map (λ same. flow.truth (not same)) r) place;
    })
are-same spots objects kept p q v w holds m sv sw ended e = absurd (no-answer holds e)

-- a result that is compared: as it is, or turned
equals :
    Laws → (bound : ℕ) (k : BinKind) (turned : Bool → Bool) → ((objects : List Object) (v w : Value) (holds : Bool) → AreSame objects v w holds → flow.binary objects k v w ≡ Some (flow.truth (turned holds)))
    → (x : Activation) (numbers : Numbers) (spots : List Spot) (at : Site) (p q : ℕ) (d : Code) (v w : Value) (u : State) (n : Machine)
    → BothStand x numbers spots p q d v w u n → ContainsCode (graph_of x) (ordered-code false k p q d).code
    → Meets x.world bound n ((compared at turned v w >>= λ result. give (Some result)) u) (HasValue x numbers spots [] (ordered-code false k p q d) d u n)
unfolding compared objects_now look need stop wrong ◌>>=◌ go_on give run.steps
equals laws bound k turned can x numbers spots at p q d v w u n both holds =
    meets-then laws x.world bound n (compared at turned v w u) (λ result. give (Some result)) (λ result. HasValue x numbers spots [] (ordered-code false k p q d) d u n (Some result))
    (HasValue x numbers spots [] (ordered-code false k p q d) d u n)
    (judged x.world bound n at (U.EndedObject when (is_ended u.objects v || is_ended u.objects w) ∷ []) _ u _ both.ready.related.matches.shows (λ none.
    by_answer (first-false U.EndedObject (is_ended u.objects v || is_ended u.objects w) [] none).0 (same v w) refl))
    (λ result r z h. record { count = 0; machine = z; comes = refl; holds = h })
  where
    by_answer : (is_ended u.objects v || is_ended u.objects w) ≡ false → (r : Option Bool) → same v w ≡ r
        → Meets x.world bound n ((need r >>= λ holds. give (V.Num (number_for (turned holds)))) u) (λ result. HasValue x numbers spots [] (ordered-code false k p q d) d u n (Some result))
    by_answer ended None e = tt
    by_answer ended (Some b) e =
        two-give laws false k x numbers spots p q d u n (value_in n.frame p) (V.Num (number_for (turned b))) (V.Num (number_for (turned b))) both.ready holds
        (can n.objects (value_in n.frame p) (value_in n.frame q) b (are-same spots u.objects n.objects v w (value_in n.frame p) (value_in n.frame q) b both.ready.related.matches.memory both.first both.second ended e)
        ∙ ap Some (truth-is (turned b))) refl

-- ---- by the operator

compare-applies : Laws → (bound : ℕ) (o : BinaryOperator) (left right : QType) → IsComparison o → Applies bound o (PointerTo left) (PointerTo right)
unfolding source.binary on_pointers ordered-code
compare-applies laws bound B.Less left right is x numbers spots at p q d v w u n given-p given-q tv tw both holds = orders laws bound B.Less less-compares x numbers spots at p q d v w u n both holds
compare-applies laws bound B.Greater left right is x numbers spots at p q d v w u n given-p given-q tv tw both holds = orders laws bound B.Greater greater-compares x numbers spots at p q d v w u n both holds
compare-applies laws bound B.LessEqual left right is x numbers spots at p q d v w u n given-p given-q tv tw both holds = orders laws bound B.LessEqual at-most-compares x numbers spots at p q d v w u n both holds
compare-applies laws bound B.GreaterEqual left right is x numbers spots at p q d v w u n given-p given-q tv tw both holds = orders laws bound B.GreaterEqual at-least-compares x numbers spots at p q d v w u n both holds
compare-applies laws bound B.Equal left right is x numbers spots at p q d v w u n given-p given-q tv tw both holds = equals laws bound Eq (λ holds. holds) (λ objects v w b s. s.equal) x numbers spots at p q d v w u n both holds
compare-applies laws bound B.NotEqual left right is x numbers spots at p q d v w u n given-p given-q tv tw both holds = equals laws bound Ne not (λ objects v w b s. s.unequal) x numbers spots at p q d v w u n both holds
compare-applies laws bound o left right is x numbers spots at p q d v w u n given-p given-q tv tw both holds = absurd is

before-ordered : (x : Activation) (turned : Bool) (k : BinKind) (p q : ℕ) (d : Code) → ContainsCode (graph_of x) (ordered-code turned k p q d).code → ContainsCode (graph_of x) d
unfolding ordered-code
before-ordered x true k p q d w = before-fresh (graph_of x) (λ t. op.Bin k t q p) d w
before-ordered x false k p q d w = before-fresh (graph_of x) (λ t. op.Bin k t p q) d w

compare-operands : (o : BinaryOperator) (left right : QType) → IsComparison o → HasOperands o (PointerTo left) (PointerTo right)
unfolding ordered-code
compare-operands B.Less left right is x p q d w = before-ordered x false LtU p q d w
compare-operands B.Greater left right is x p q d w = before-ordered x true LtU p q d w
compare-operands B.LessEqual left right is x p q d w = before-ordered x false LeU p q d w
compare-operands B.GreaterEqual left right is x p q d w = before-ordered x true LeU p q d w
compare-operands B.Equal left right is x p q d w = before-ordered x false Eq p q d w
compare-operands B.NotEqual left right is x p q d w = before-ordered x false Ne p q d w
compare-operands o left right is x p q d w = absurd is

pub comparison-keeps : Laws → (bound t : ℕ) (ty : QType) (o : BinaryOperator) (a b : Expression) (left right : QType) → IsComparison o → type_in a ≡ PointerTo left → type_in b ≡ PointerTo right
    → ExpressionKeeps bound a → ExpressionKeeps bound b → ExpressionKeeps bound (Node t ty (Binary o a b))
comparison-keeps laws bound t ty o a b left right is l r first second =
    binary-keeps laws bound t ty o a b (λ e. scalar-not-void (PointerTo left) tt (sym l ∙ e)) (λ e. scalar-not-void (PointerTo right) tt (sym r ∙ e))
    (λ x active. subst (λ (y : CType). AppliesAt x bound o y (type_in b)) (sym l) (subst (λ (z : CType). AppliesAt x bound o (PointerTo left) z) (sym r) (compare-applies laws bound o left right is x)))
    (subst (λ (y : CType). HasOperands o y (type_in b)) (sym l) (subst (λ (z : CType). HasOperands o (PointerTo left) z) (sym r) (compare-operands o left right is)))
    first second

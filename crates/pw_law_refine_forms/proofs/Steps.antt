-- Compound assignments, `++` and `--`, on integers: the forms.
use Rattle.std.proofs.Common.{◌≡◌, ◌≢◌, ℕ, ◌^◌, ◌<◌, ◌≤◌, ◌==◌, ◌&&◌, inl, inr, true, false, not, true≢false, Option, Some, None, unwrap_or, List, [], ◌∷◌, ◌++◌, Contains, refl, ap, sym, ◌∙◌, subst, arith}
use Rattle.std.proofs.lemmas.List.Elements.{Contains-append_left, Contains-append_right, Contains-append_cases}
use Rattle.pw_value.specs.declared.value.Kind.{Kind}
use Rattle.pw_value.specs.declared.value.Value.{Value}
use Rattle.pw_value.specs.declared.value.Value.TheVariants as V
use Rattle.pw_types.specs.TypeTrees.{CType, Void, Int, QType, type_of}
use Rattle.pw_types.specs.Conversions.{size_of_kind, is_signed_kind, promoted}
use Rattle.pw_types.specs.declared.kind.IntKind.{IntKind}
use Rattle.pw_types.specs.declared.kind.IntKind.TheVariants as K
use Rattle.pw_types.specs.declared.tree.BinaryOperator.{BinaryOperator}
use Rattle.pw_types.specs.declared.tree.StepOperator.{StepOperator}
use Rattle.pw_types.specs.declared.tree.StepOperator.TheVariants.{IncrementBefore, DecrementBefore, IncrementBehind, DecrementBehind}
use Rattle.pw_types.specs.TypedTrees.{Expression, Node, Compound, Step}
use Rattle.pw_types.specs.WellTyped.{IsTyped, HasForm, FitsBinary, FitsCompound, IsScalar, promoted_type, type_in}
use Rattle.pw_flow.specs.declared.flow.Op.TheVariants as op
use Rattle.pw_lower.specs.declared.code.Code.{Code}
use Rattle.pw_lower.specs.declared.place.Target.{Target}
use Rattle.pw_lower.specs.declared.place.Target.TheVariants.{Led}
use Rattle.pw_lower.specs.Codes.{Lowered, temp_of, constant}
use Rattle.pw_lower.specs.Places.{local_in, addressed_in}
use Rattle.pw_lower.specs.Operators as lowering
use Rattle.pw_lower.specs.Operators.{kind_of_int, extension, sum_or, step_operator, is_behind}
use Rattle.pw_lower.specs.Expressions.{lower, place, read_target, updated, step_value, scalar_kind}
use Rattle.pw_cmean.specs.Acts.{State, Act, give, stop, wrong, ◌>>=◌, go_on}
use Rattle.pw_cmean.specs.Undefined.{◌when◌}
use Rattle.pw_cmean.specs.declared.undefined.Undef.TheVariants as U
use Rattle.pw_cmean.specs.Access.{load}
use Rattle.pw_cmean.specs.Operators as source
use Rattle.pw_cmean.specs.Operators.{is_piece, arithmetic, convert}
use Rattle.pw_cmean.specs.Evaluation as meaning
use Rattle.pw_cmean.specs.Evaluation.{site, used, old_value, update, step_result, answer_of, place_of}
use Rattle.pw_cmean.specs.SourceRun.{calls}
use Rattle.pw_cmean.specs.Typed.{IsNumberOf}
use Rattle.pw_run_languages.specs.Commands.{command}
use Rattle.pw_run_languages.specs.FlowRun.{Machine, value_in}
use Rattle.pw_law_refine.specs.Standing.{Spot, Stands}
use Rattle.pw_law_refine.specs.Activations.{Activation, IsActivation, Numbers, graph_of, home_of, env_of, place_in, local_temps, HaveSlots}
use Rattle.pw_law_refine.specs.Containing.{ContainsCode}
use Rattle.pw_law_refine.specs.Meeting.{Meets}
use Rattle.pw_law_refine.specs.Expressions.{assigned_in, IsReady, HasValue, HasResult, HasTarget, TargetStands, ExpressionKeeps}
use Rattle.pw_lower.specs.declared.place.LocalPlace.TheVariants.{Temp}
use Rattle.pw_law_refine_forms.specs.Accesses.{SuitsType, Covers, LvalueKeeps, TargetsSuit}
use Rattle.pw_law_refine_forms.proofs.Laws.{Laws}
use Rattle.pw_law_refine_forms.proofs.Simulation.{meets-then, meets-less, meets-later, meets-here, meets-typed, judged-then}
use Rattle.pw_law_refine_forms.proofs.Kit.{before-fresh, value-after, none-in, operand-stands}
use Rattle.pw_law_refine_forms.proofs.Access.{first-false, reads}
use Rattle.pw_law_refine_forms.proofs.Assign.{before-write, target-later, led-since, ready-placed}
use Rattle.pw_law_refine_forms.proofs.Numbers.{NumberLaws, IsWordValue, word-of, word-number, promoted-size, before-two, before-extended, result-number, load-word}
use Rattle.pw_law_refine_forms.proofs.Compound.{new-code, fits-binary, promoted-twice, more-then, read-temp, read-later, before-read, update-int, rest-keeps}

-- ---- compound assignments

-- what is assigned behind the place
pub rest-within : (la aa ab : List ℕ) (i : ℕ) → Contains (la ++ ab) i → Contains (la ++ aa ++ ab) i
rest-within la aa ab i h = elim (Contains-append_cases la ab i h) [
  | inl l ↦ Contains-append_left (la ++ aa) ab i (Contains-append_left la aa i l)
  | inr r ↦ Contains-append_right (la ++ aa) ab i r
]

pub compound-keeps : Laws → NumberLaws → (bound t : ℕ) (ty : QType) (o : BinaryOperator) (working : CType) (a b : Expression) (own work right : IntKind)
    → type_in a ≡ Int own → working ≡ Int work → type_in b ≡ Int right → TargetsSuit a → LvalueKeeps bound a → ExpressionKeeps bound b → ExpressionKeeps bound (Node t ty (Compound o working a b))
unfolding lower answer_of IsTyped HasForm ◌>>=◌
compound-keeps laws nums bound t ty o working a b own work right is-a is-w is-b suited first second = λ x numbers spots c s m active typed slots holds ready.
    let h = home_of x in
    let e = env_of x numbers in
    let records = x.home.tree.records in
    let p = place h a c in
    let k = kind_of_int own in
    let old = read_target k p.target p.code in
    let y = lower h b old.code in
    let z = new-code o work own p.target (temp_of old) (temp_of y) y.code in
    let form : CType → CType → Kind → Lowered = λ W T j. updated records o W T j p.target (temp_of (read_target j p.target p.code)) (lower h b (read_target j p.target p.code).code) in
    let kind : scalar_kind (type_of ty) ≡ k = ap scalar_kind (sym typed.1.3 ∙ is-a) in
    let same : form working (type_in b) (scalar_kind (type_of ty)) ≡ z =
    ap (λ (j : Kind). form working (type_in b) j) kind ∙ ap (λ (W : CType). form W (type_in b) k) is-w ∙ ap (λ (T : CType). form (Int work) T k) is-b in
    let whole : ContainsCode (graph_of x) z.code = subst (λ (l : Lowered). ContainsCode (graph_of x) l.code) same holds in
    let slots-a : HaveSlots x (addressed_in a) = λ i there. slots i (Contains-append_left (addressed_in a) (addressed_in b) i there) in
    let slots-b : HaveSlots x (addressed_in b) = λ i there. slots i (Contains-append_right (addressed_in a) (addressed_in b) i there) in
    let suits = suited x c active typed.1.0 slots-a typed.1.2.lvalue (subst IsScalar (sym is-a) tt) in
    let ext = extension (kind_of_int work) k in
    let sum = sum_or o (is_signed_kind work) None None (temp_of old) (temp_of y) y.code in
    let in-y = before-two x o (is_signed_kind work) (temp_of old) (temp_of y) y.code (before-extended (graph_of x) ext (temp_of sum) sum.code (before-write (graph_of x) k p.target (temp_of (lowering.extended ext (temp_of sum) sum.code)) (lowering.extended ext (temp_of sum) sum.code).code whole)) in
    let in-p = before-read (graph_of x) k p.target p.code (laws.contain (graph_of x) h b old.code in-y) in
    let la = local_in a in
    let all = la ++ assigned_in a ++ assigned_in b in
    let rest : CType → CType → CType → Value → Act (Option Value) = λ A W T v. old_value e t A W v >>= λ old. answer_of b (calls x.world bound) e >>= used (site e t) >>= λ w. update e t A W v o T old w >>= λ r. give (Some r) in
    let R = HasResult x numbers spots (Node t ty (Compound o working a b)) c s m in
    let fits = fits-binary records o work own right (subst (λ (W : CType). FitsCompound records o W (Int own) (Int right)) is-w (subst (λ (T : CType). FitsCompound records o working (Int own) T) is-b (subst (λ (A : CType). FitsCompound records o working A (type_in b)) is-a typed.1.4))) in
    meets-then laws x.world bound m (place_of a (calls x.world bound) e s) _ (HasTarget x numbers spots a c s m) R
    (first x numbers spots c s m active typed.1.0 slots-a typed.1.2.lvalue (subst IsScalar (sym is-a) tt) in-p ready)
    (λ v u n q.
    subst (λ (A : CType). Meets x.world bound n (rest A working (type_in b) v u) R) (sym is-a)
    (subst (λ (W : CType). Meets x.world bound n (rest (Int own) W (type_in b) v u) R) (sym is-w)
    (subst (λ (T : CType). Meets x.world bound n (rest (Int own) (Int work) T v u) R) (sym is-b)
    (meets-less x.world bound n (rest (Int own) (Int work) (Int right) v u) (HasValue x numbers q.done.later.spots (la ++ assigned_in b) z p.code u n) R
    (rest-keeps laws nums bound t o b own work right la p.target x numbers q.done.later.spots p.code u n v active typed.1.1 slots-b second is-b fits
    (ready-placed x numbers spots a c s u m n v ready suits.later.temps q) (subst (λ (A : CType). SuitsType x A p.target) is-a suits.suits) suits.covers
    (λ i there. let l = led-since c p p.target i there suits.later.led in (omega (arith, l.0, ready.temps), l.1)) q.stands whole)
    (λ r w n2 f.
    subst (λ (l : Lowered). HasValue x numbers spots all l c s m r w n2) (sym same)
    (value-after laws x numbers spots (assigned_in a) (la ++ assigned_in b) all z c p.code s u w m n n2 r ready.related suits.later.temps
    (λ i there. Contains-append_left (la ++ assigned_in a) (assigned_in b) i (Contains-append_right la (assigned_in a) i there)) (rest-within la (assigned_in a) (assigned_in b)) q.done f))))))

-- ---- steps

one-number : (k : IntKind) (n : ℕ) → promoted k ≡ k → n < 2 ^ 32 → IsNumberOf k (V.Num n)
one-number k n p h = word-number k n p h

step-fits : (o : StepOperator) (x : Activation) (k : IntKind) → promoted k ≡ k → FitsBinary x.home.tree.records (step_operator o) (Int k) (Int k) (Int k)
step-fits IncrementBefore x k p = inl (p, refl, refl)
step-fits IncrementBehind x k p = inl (p, refl, refl)
step-fits DecrementBefore x k p = inl (p, refl, refl)
step-fits DecrementBehind x k p = inl (p, refl, refl)

-- the value is what was stored, or what was read
pub step-gives :
    (o : StepOperator) (x : Activation) (numbers : Numbers) (spots : List Spot) (all : List ℕ) (t : ℕ) (z : Lowered) (c : Code) (s w : State) (m n : Machine) (old new : Value)
    → (h : HasValue x numbers spots all z c s m (Some new) w n) → Stands h.done.later.spots old (value_in n.frame t)
    → HasValue x numbers spots all (step_value o t z) c s m (Some (step_result o old new)) w n
step-gives IncrementBefore x numbers spots all t z c s w m n old new h st = h
step-gives DecrementBefore x numbers spots all t z c s w m n old new h st = h
step-gives IncrementBehind x numbers spots all t z c s w m n old new h st = record { done = h.done; behind = h.behind; stands = st }
step-gives DecrementBehind x numbers spots all t z c s w m n old new h st = record { done = h.done; behind = h.behind; stands = st }

pub step-code : (o : StepOperator) (t : ℕ) (z : Lowered) → (step_value o t z).code ≡ z.code
step-code IncrementBefore t z = refl
step-code DecrementBefore t z = refl
step-code IncrementBehind t z = refl
step-code DecrementBehind t z = refl

-- behind the place and what was read there
stepped :
    Laws → NumberLaws → (bound t : ℕ) (so : StepOperator) (own : IntKind) (la : List ℕ) (target : Target) (x : Activation) (numbers : Numbers) (spots : List Spot) (c : Code) (u u1 : State) (n n1 : Machine) (place v : Value)
    → let k = kind_of_int own in
    let old = read_target k target c in
    let one = constant 1 old.code in
    let z = new-code (step_operator so) (promoted own) own target (temp_of old) (temp_of one) one.code in
    IsActivation x → IsReady x numbers spots c u n → SuitsType x (Int own) target → Covers x la target → ((i : ℕ) → target ≡ Led i → (local_temps x ≤ i) × (i < c.temps)) → TargetStands x numbers spots place target n
    → ((i : ℕ) → Contains la i → place_in x i ≢ Temp c.temps)
    → ContainsCode (graph_of x) z.code → IsWordValue v → HasValue x numbers spots [] old c u n (Some v) u1 n1
    → Meets x.world bound n1 ((convert (site (env_of x numbers) t) (Int (promoted own)) v >>= λ w. update (env_of x numbers) t (Int own) (Int (promoted own)) place (step_operator so) (Int K.Int) w (V.Num 1) >>= λ new. give (step_result so v new)) u1)
    (λ r. HasValue x numbers spots la (step_value so (temp_of old) z) c u n (Some r))
unfolding convert update source.binary source.on_numbers give stop wrong ◌>>=◌ go_on command
stepped laws nums bound t so own la target x numbers spots c u u1 n n1 place (V.Num a) active ready suits covers led st apart holds word h =
    let at = site (env_of x numbers) t in
    let k = kind_of_int own in
    let work = promoted own in
    let promo = promoted-twice own in
    let o = step_operator so in
    let old = read_target k target c in
    let one = constant 1 old.code in
    let z = new-code o work own target (temp_of old) (temp_of one) one.code in
    let ext = extension (kind_of_int work) k in
    let sum = sum_or o (is_signed_kind work) None None (temp_of old) (temp_of one) one.code in
    let in-one = before-two x o (is_signed_kind work) (temp_of old) (temp_of one) one.code (before-extended (graph_of x) ext (temp_of sum) sum.code (before-write (graph_of x) k target (temp_of (lowering.extended ext (temp_of sum) sum.code)) (lowering.extended ext (temp_of sum) sum.code).code holds)) in
    let old-temp : temp_of old ≡ c.temps = ap (λ (r : Option ℕ). unwrap_or r 0) (read-temp k target c) in
    let old-later = read-later k target c in
    let spots1 = h.done.later.spots in
    let again : IsReady x numbers spots1 old.code u1 n1 = record { related = h.done.later.related; behind = h.behind; temps = omega (arith, ready.temps, old-later) } in
    let R : Value → State → Machine → Type 0 = λ r. HasValue x numbers spots la (step_value so (temp_of old) z) c u n (Some r) in
    let r1 = laws.fresh x numbers spots1 [] old.code u1 n1 (λ i. op.Const i 1) (V.Num 1) (V.Num 1) in-one again refl (λ rest. refl) in
    let g = r1.holds in
    let n2 = r1.machine in
    let spots2 = g.done.later.spots in
    let stay : (i : ℕ) → i < old.code.temps → value_in n2.frame i ≡ value_in n1.frame i = λ i lt. g.done.temps i lt (λ j there. none-in j (_ ≢ _) there) in
    let old-stands : Stands spots2 (V.Num a) (value_in n2.frame (temp_of old)) =
    subst (λ (r : Value). Stands spots2 (V.Num a) r) (sym (stay (temp_of old) (omega (arith, old-temp, old-later)))) (laws.stands spots1 spots2 (V.Num a) (value_in n1.frame (temp_of old)) g.done.later.lasts.more (operand-stands spots1 (V.Num a) old.temp n1 h.stands)) in
    let act : Act Value = λ r. update (env_of x numbers) t (Int own) (Int work) place o (Int K.Int) (V.Num a) (V.Num 1) r in
    judged-then x.world bound n1 at (U.PointerBytes when (is_piece (V.Num a) && not (size_of_kind work == 1)) ∷ []) _ _ u1 R h.done.later.related.matches.shows (λ none.
    subst (λ (w : Value). Meets x.world bound n1 ((update (env_of x numbers) t (Int own) (Int work) place o (Int K.Int) w (V.Num 1) >>= λ new. give (step_result so (V.Num a) new)) u1) R) (sym (word-number work a promo word))
    (meets-later laws x.world bound n1 n2 r1.count ((act >>= λ new. give (step_result so (V.Num a) new)) u1) R r1.comes
    (meets-then laws x.world bound n2 (act u1) (λ new. give (step_result so (V.Num a) new)) (λ new. HasValue x numbers spots2 la z one.code u1 n2 (Some new)) R
    (update-int laws nums bound x numbers spots2 la t o own work K.Int target (temp_of old) (temp_of one) one.code u1 n2 place (V.Num a) (V.Num 1) active promo
    (λ i j r ti tj e. result-number laws x numbers u1 o work work i j r active g.done.later.related.matches.bytes (step-fits so x work promo) ti (word-number work j promo (word-of K.Int j tj)) e) word refl
    (record {
      ready = record { related = g.done.later.related; behind = g.behind; temps = omega (arith, again.temps) };
      first = old-stands;
      second = g.stands;
    })
    (record {
      suits = suits;
      covers = covers;
      led = λ i e. let l = led i e in omega (arith, l.1, old-later);
      stands = target-later laws x numbers spots spots2 place target n n2 (more-then spots spots1 spots2 h.done.later.lasts.more g.done.later.lasts.more)
          (λ i e. let l = led i e in stay i (omega (arith, l.1, old-later)) ∙ h.done.temps i l.1 (λ j there. none-in j (_ ≢ _) there)) st;
    }) holds)
    (λ new u3 n3 f.
    let whole = value-after laws x numbers spots [] la la z c old.code u u1 u3 n n1 n3 (Some new) ready.related (omega (arith, old-later)) (λ j there. none-in j (Contains la j) there) (λ j there. there) h.done
    (value-after laws x numbers spots1 [] la la z old.code one.code u1 u1 u3 n1 n2 n3 (Some new) h.done.later.related (omega arith) (λ j there. none-in j (Contains la j) there) (λ j there. there) g.done f) in
    let kept : value_in n3.frame (temp_of old) ≡ value_in n2.frame (temp_of old) = f.done.temps (temp_of old) (omega (arith, old-temp, old-later)) (λ j there e. apart j there (e ∙ ap Temp old-temp)) in
    meets-here x.world bound n3 (step_result so (V.Num a) new) u3 R
    (step-gives so x numbers spots la (temp_of old) z c u u3 n n3 (V.Num a) new whole (kept ∙ old-stands))))))
stepped laws nums bound t so own la target x numbers spots c u u1 n n1 place (V.Piece q i) active ready suits covers led st apart holds word h =
    let at = site (env_of x numbers) t in
    let work = promoted own in
    judged-then x.world bound n1 at (U.PointerBytes when (is_piece (V.Piece q i) && not (size_of_kind work == 1)) ∷ []) _ _ u1 _ h.done.later.related.matches.shows (λ none.
    absurd (true≢false (subst (λ (z : ℕ). (true && not (z == 1)) ≡ false) (promoted-size work (promoted-twice own)) (first-false U.PointerBytes (is_piece (V.Piece q i) && not (size_of_kind work == 1)) [] none).0)))
stepped laws nums bound t so own la target x numbers spots c u u1 n n1 place V.Undefined active ready suits covers led st apart holds word h =
    judged-then x.world bound n1 (site (env_of x numbers) t) (U.PointerBytes when (is_piece V.Undefined && not (size_of_kind (promoted own) == 1)) ∷ []) _ _ u1 _ h.done.later.related.matches.shows (λ none. tt)
stepped laws nums bound t so own la target x numbers spots c u u1 n n1 place V.Null active ready suits covers led st apart holds word h =
    judged-then x.world bound n1 (site (env_of x numbers) t) (U.PointerBytes when (is_piece V.Null && not (size_of_kind (promoted own) == 1)) ∷ []) _ _ u1 _ h.done.later.related.matches.shows (λ none. tt)
stepped laws nums bound t so own la target x numbers spots c u u1 n n1 place (V.At q) active ready suits covers led st apart holds word h =
    judged-then x.world bound n1 (site (env_of x numbers) t) (U.PointerBytes when (is_piece (V.At q) && not (size_of_kind (promoted own) == 1)) ∷ []) _ _ u1 _ h.done.later.related.matches.shows (λ none. tt)

step-rest :
    Laws → NumberLaws → (bound t : ℕ) (so : StepOperator) (own : IntKind) (la : List ℕ) (target : Target) (x : Activation) (numbers : Numbers) (spots : List Spot) (c : Code) (u : State) (n : Machine) (place : Value)
    → let old = read_target (kind_of_int own) target c in
    let one = constant 1 old.code in
    let z = new-code (step_operator so) (promoted own) own target (temp_of old) (temp_of one) one.code in
    IsActivation x → IsReady x numbers spots c u n → SuitsType x (Int own) target → Covers x la target → ((i : ℕ) → target ≡ Led i → (local_temps x ≤ i) × (i < c.temps)) → TargetStands x numbers spots place target n
    → ((i : ℕ) → Contains la i → place_in x i ≢ Temp c.temps)
    → ContainsCode (graph_of x) z.code
    → Meets x.world bound n (meaning.step (env_of x numbers) t so (Int own) place u) (λ r. HasValue x numbers spots la (step_value so (temp_of old) z) c u n (Some r))
unfolding meaning.step ◌>>=◌ go_on
step-rest laws nums bound t so own la target x numbers spots c u n place active ready suits covers led st apart holds =
    let at = site (env_of x numbers) t in
    let k = kind_of_int own in
    let work = promoted own in
    let o = step_operator so in
    let old = read_target k target c in
    let one = constant 1 old.code in
    let z = new-code o work own target (temp_of old) (temp_of one) one.code in
    let ext = extension (kind_of_int work) k in
    let sum = sum_or o (is_signed_kind work) None None (temp_of old) (temp_of one) one.code in
    let in-one = before-two x o (is_signed_kind work) (temp_of old) (temp_of one) one.code (before-extended (graph_of x) ext (temp_of sum) sum.code (before-write (graph_of x) k target (temp_of (lowering.extended ext (temp_of sum) sum.code)) (lowering.extended ext (temp_of sum) sum.code).code holds)) in
    let in-old = before-fresh (graph_of x) (λ i. op.Const i 1) old.code in-one in
    let R : Value → State → Machine → Type 0 = λ r. HasValue x numbers spots la (step_value so (temp_of old) z) c u n (Some r) in
    meets-then laws x.world bound n (load at (Int own) place u) _ (λ v u1 n1. HasValue x numbers spots [] old c u n (Some v) u1 n1 × IsWordValue v) R
    (meets-typed x.world bound n IsWordValue (load at (Int own) place u) (λ v. HasValue x numbers spots [] old c u n (Some v))
    (reads laws bound x numbers spots (Int own) k at target c u n place refl ready in-old suits st) (load-word own at place u ready.related.matches.bytes))
    (λ v u1 n1 g.
    stepped laws nums bound t so own la target x numbers spots c u u1 n n1 place v active ready suits covers led st apart holds g.1 g.0)

pub step-keeps : Laws → NumberLaws → (bound t : ℕ) (ty : QType) (so : StepOperator) (a : Expression) (own : IntKind)
    → type_in a ≡ Int own → TargetsSuit a → LvalueKeeps bound a → ExpressionKeeps bound (Node t ty (Step so a))
unfolding lower answer_of IsTyped HasForm ◌>>=◌ give go_on
step-keeps laws nums bound t ty so a own is-a suited keeps = λ x numbers spots c s m active typed slots holds ready.
    let h = home_of x in
    let e = env_of x numbers in
    let records = x.home.tree.records in
    let p = place h a c in
    let k = kind_of_int own in
    let old = read_target k p.target p.code in
    let one = constant 1 old.code in
    let o = step_operator so in
    let z = step_value so (temp_of old) (new-code o (promoted own) own p.target (temp_of old) (temp_of one) one.code) in
    let form : CType → Kind → Lowered = λ W j. let r = read_target j p.target p.code in step_value so (temp_of r) (updated records o W Void j p.target (temp_of r) (constant 1 r.code)) in
    let kind : scalar_kind (type_of ty) ≡ k = ap scalar_kind (sym typed.1.2 ∙ is-a) in
    let work : promoted_type (type_of ty) ≡ Int (promoted own) = ap promoted_type (sym typed.1.2 ∙ is-a) in
    let same : form (promoted_type (type_of ty)) (scalar_kind (type_of ty)) ≡ z = ap (λ (j : Kind). form (promoted_type (type_of ty)) j) kind ∙ ap (λ (W : CType). form W k) work in
    let inner = new-code o (promoted own) own p.target (temp_of old) (temp_of one) one.code in
    let whole : ContainsCode (graph_of x) inner.code = subst (λ (d : Code). ContainsCode (graph_of x) d) (step-code so (temp_of old) inner) (subst (λ (l : Lowered). ContainsCode (graph_of x) l.code) same holds) in
    let suits = suited x c active typed.1.0 slots typed.1.1.lvalue (subst IsScalar (sym is-a) tt) in
    let ext = extension (kind_of_int (promoted own)) k in
    let sum = sum_or o (is_signed_kind (promoted own)) None None (temp_of old) (temp_of one) one.code in
    let in-one = before-two x o (is_signed_kind (promoted own)) (temp_of old) (temp_of one) one.code (before-extended (graph_of x) ext (temp_of sum) sum.code (before-write (graph_of x) k p.target (temp_of (lowering.extended ext (temp_of sum) sum.code)) (lowering.extended ext (temp_of sum) sum.code).code whole)) in
    let in-p = before-read (graph_of x) k p.target p.code (before-fresh (graph_of x) (λ i. op.Const i 1) old.code in-one) in
    let la = local_in a in
    let all = la ++ assigned_in a in
    let R = HasResult x numbers spots (Node t ty (Step so a)) c s m in
    meets-then laws x.world bound m (place_of a (calls x.world bound) e s) _ (HasTarget x numbers spots a c s m) R
    (keeps x numbers spots c s m active typed.1.0 slots typed.1.1.lvalue (subst IsScalar (sym is-a) tt) in-p ready)
    (λ v u n q.
    let again = ready-placed x numbers spots a c s u m n v ready suits.later.temps q in
    subst (λ (A : CType). Meets x.world bound n ((meaning.step e t so A v >>= λ r. give (Some r)) u) R) (sym is-a)
    (meets-then laws x.world bound n (meaning.step e t so (Int own) v u) (λ r. give (Some r)) (λ r. HasValue x numbers q.done.later.spots la z p.code u n (Some r)) R
    (step-rest laws nums bound t so own la p.target x numbers q.done.later.spots p.code u n v active again (subst (λ (A : CType). SuitsType x A p.target) is-a suits.suits) suits.covers
    (λ i there. let l = led-since c p p.target i there suits.later.led in (omega (arith, l.0, ready.temps), l.1)) q.stands
    (λ i there f. let l = laws.assigned x (Node t ty (Step so a)) typed i (Contains-append_left la (assigned_in a) i there) in omega (arith, laws.below x i p.code.temps l.0 l.1 f, again.temps)) whole)
    (λ r w n2 f.
    meets-here x.world bound n2 (Some r) w R
    (subst (λ (l : Lowered). HasValue x numbers spots all l c s m (Some r) w n2) (sym same)
    (value-after laws x numbers spots (assigned_in a) la all z c p.code s u w m n n2 (Some r) ready.related suits.later.temps
    (λ i there. Contains-append_right la (assigned_in a) i there) (λ i there. Contains-append_left la (assigned_in a) i there) q.done f)))))

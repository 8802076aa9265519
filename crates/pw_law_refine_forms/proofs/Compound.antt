-- Compound assignments and steps on integers (C90 6.3.2.4, 6.3.3.1, 6.3.16.2).
use Rattle.std.proofs.Common.{◌≡◌, ◌≢◌, ℕ, ◌+◌, ◌<◌, ◌≤◌, ◌==◌, ◌&&◌, inl, inr, Bool, true, false, not, true≢false, Option, Some, None, unwrap_or, List, [], ◌∷◌, ◌++◌, Contains, ◌⊎◌, Ok, refl, ap, sym, ◌∙◌, subst, arith, append_assoc}
use Rattle.std.proofs.lemmas.List.Elements.{Contains-append_left, Contains-append_right}
use Rattle.pw_value.specs.declared.value.Kind.{Kind}
use Rattle.pw_value.specs.declared.value.Value.{Value}
use Rattle.pw_value.specs.declared.value.Value.TheVariants as V
use Rattle.pw_types.specs.TypeTrees.{CType, Int, Pointer, QType, RecordValue}
use Rattle.pw_types.specs.Conversions.{size_of_kind, is_signed_kind, promoted, converted}
use Rattle.pw_types.specs.declared.kind.IntKind.{IntKind}
use Rattle.pw_types.specs.declared.kind.IntKind.TheVariants as K
use Rattle.pw_types.specs.declared.tree.BinaryOperator.{BinaryOperator}
use Rattle.pw_types.specs.declared.tree.BinaryOperator.TheVariants as B
use Rattle.pw_types.specs.TypedTrees.{Expression}
use Rattle.pw_types.specs.WellTyped.{IsTyped, FitsBinary, FitsCompound, type_in}
use Rattle.pw_flow.specs.declared.flow.FlowFn.{FlowFn}
use Rattle.pw_flow.specs.declared.flow.ExtKind.{ExtKind}
use Rattle.pw_flow.specs.declared.flow.Op.TheVariants as op
use Rattle.pw_lower.specs.declared.code.Code.{Code}
use Rattle.pw_lower.specs.declared.place.Target.{Target}
use Rattle.pw_lower.specs.declared.place.Target.TheVariants.{Kept, Named, Led}
use Rattle.pw_lower.specs.Codes.{Lowered, temp_of, lowered_as}
use Rattle.pw_lower.specs.Places.{addressed_in}
use Rattle.pw_lower.specs.Operators as lowering
use Rattle.pw_lower.specs.Operators.{kind_of, kind_of_int, extension, sum_or}
use Rattle.pw_lower.specs.Expressions.{lower, place, read_target, write, stored}
use Rattle.pw_cmean.specs.Acts.{State, Site, Gives, give, stop, wrong, ◌>>=◌, go_on}
use Rattle.pw_cmean.specs.Undefined.{◌when◌}
use Rattle.pw_cmean.specs.declared.undefined.Undef.TheVariants as U
use Rattle.pw_cmean.specs.Access.{Assigning, load, store, put}
use Rattle.pw_cmean.specs.Operators as source
use Rattle.pw_cmean.specs.Operators.{is_piece, outcome_of, arithmetic, convert}
use Rattle.pw_cmean.specs.Evaluation.{site, used, old_value, update, answer_of}
use Rattle.pw_cmean.specs.SourceRun.{calls}
use Rattle.pw_cmean.specs.Typed.{IsNumberOf, IsValueOf}
use Rattle.pw_run_languages.specs.FlowRun.{Machine, value_in}
use Rattle.pw_law_refine.specs.Standing.{Spot, Stands}
use Rattle.pw_law_refine.specs.Activations.{Activation, IsActivation, Numbers, graph_of, home_of, env_of, local_temps, HaveSlots}
use Rattle.pw_law_refine.specs.Containing.{ContainsCode}
use Rattle.pw_law_refine.specs.Meeting.{Meets}
use Rattle.pw_law_refine.specs.Expressions.{assigned_in, IsReady, HasValue, ResultStands, TargetStands, ExpressionKeeps}
use Rattle.pw_law_refine_forms.specs.Accesses.{SuitsType, Covers}
use Rattle.pw_law_refine_forms.proofs.Laws.{Laws}
use Rattle.pw_law_refine_forms.proofs.Simulation.{meets-then, meets-here, meets-typed, judged}
use Rattle.pw_law_refine_forms.proofs.Kit.{before-fresh, value-after, none-in, stays, HasOperand, operand, operand-stands}
use Rattle.pw_law_refine_forms.proofs.Access.{first-false, reads, writes}
use Rattle.pw_law_refine_forms.proofs.Assign.{before-write, target-later, result-stands}
use Rattle.pw_law_refine_forms.specs.Operands.{BothStand}
use Rattle.pw_law_refine_forms.proofs.Numbers.{NumberLaws, IsWordValue, word-of, word-number, promoted-size, before-two, before-extended, numbers-meet, converts, converted-number, result-number, load-word}

-- ---- the types

pub promoted-twice : (k : IntKind) → promoted (promoted k) ≡ promoted k
promoted-twice K.Char = refl
promoted-twice K.SChar = refl
promoted-twice K.UChar = refl
promoted-twice K.Short = refl
promoted-twice K.UShort = refl
promoted-twice K.Int = refl
promoted-twice K.UInt = refl
promoted-twice K.Long = refl
promoted-twice K.ULong = refl

kind_in : CType → IntKind
kind_in (Int k) = k
kind_in ty = K.Int

int-kind : (j k : IntKind) → Int j ≡ Int k → j ≡ k
unfolding kind_in
int-kind j k e = ap kind_in e

is_int : CType → Bool
is_int (Int k) = true
is_int ty = false

no-pointer : (k : IntKind) (q : QType) → Int k ≡ Pointer q → ⊥
unfolding is_int
no-pointer k q e = true≢false (ap is_int e)

-- a compound assignment works as the operator does in the type of its work
pub fits-binary : (records : List RecordValue) (o : BinaryOperator) (work left right : IntKind) → FitsCompound records o (Int work) (Int left) (Int right)
    → (promoted work ≡ work) × FitsBinary records o (Int work) (Int right) (Int work)
fits-binary records B.Add work left right (inl h) = (h.1, inl (h.1, refl, h.2))
fits-binary records B.Add work left right (inr h) = absurd (no-pointer left h.0.0 h.0.1)
fits-binary records B.Subtract work left right (inl h) = (h.1, inl (h.1, refl, h.2))
fits-binary records B.Subtract work left right (inr h) = absurd (no-pointer left h.0.0 h.0.1)
fits-binary records B.Multiply work left right h = (h.1, (h.1, refl, h.2))
fits-binary records B.Divide work left right h = (h.1, (h.1, refl, h.2))
fits-binary records B.Remainder work left right h = (h.1, (h.1, refl, h.2))
fits-binary records B.And work left right h = (h.1, (h.1, refl, h.2))
fits-binary records B.ExclusiveOr work left right h = (h.1, (h.1, refl, h.2))
fits-binary records B.Or work left right h = (h.1, (h.1, refl, h.2))
fits-binary records B.ShiftLeft work left right h =
    let p : promoted work ≡ work = ap promoted (int-kind work (promoted left) h.0) ∙ promoted-twice left ∙ sym (int-kind work (promoted left) h.0) in (p, (p, h.1, refl))
fits-binary records B.ShiftRight work left right h =
    let p : promoted work ≡ work = ap promoted (int-kind work (promoted left) h.0) ∙ promoted-twice left ∙ sym (int-kind work (promoted left) h.0) in (p, (p, h.1, refl))
fits-binary records B.Less work left right h = absurd h
fits-binary records B.Greater work left right h = absurd h
fits-binary records B.LessEqual work left right h = absurd h
fits-binary records B.GreaterEqual work left right h = absurd h
fits-binary records B.Equal work left right h = absurd h
fits-binary records B.NotEqual work left right h = absurd h

-- ---- what was read, in the type of the work

undefined-stands : (spots : List Spot) (to : Option ℕ) (t : ℕ) (n : Machine) → to ≡ Some t → ResultStands spots (Some V.Undefined) to n
undefined-stands spots to t n e = subst (λ (o : Option ℕ). ResultStands spots (Some V.Undefined) o n) (sym e) tt

pub old-converted :
    (bound : ℕ) (x : Activation) (numbers : Numbers) (spots : List Spot) (at : Site) (work : IntKind) (y : Lowered) (c : Code) (s u : State) (m n : Machine) (v : Value) (temp : ℕ)
    → y.temp ≡ Some temp → promoted work ≡ work → IsWordValue v → HasValue x numbers spots [] y c s m (Some v) u n
    → Meets x.world bound n (convert at (Int work) v u) (λ r t q. HasValue x numbers spots [] y c s m (Some r) t q × IsWordValue r)
unfolding convert give
old-converted bound x numbers spots at work y c s u m n (V.Num k) temp is p word h =
    judged x.world bound n at (U.PointerBytes when (is_piece (V.Num k) && not (size_of_kind work == 1)) ∷ []) _ u _ h.done.later.related.matches.shows (λ none.
    subst (λ (v : Value). Meets x.world bound n (Gives v u) (λ r t q. HasValue x numbers spots [] y c s m (Some r) t q × IsWordValue r)) (sym (word-number work k p word))
    (meets-here x.world bound n (V.Num k) u (λ r t q. HasValue x numbers spots [] y c s m (Some r) t q × IsWordValue r) (h, word)))
old-converted bound x numbers spots at work y c s u m n (V.Piece q i) temp is p word h =
    judged x.world bound n at (U.PointerBytes when (is_piece (V.Piece q i) && not (size_of_kind work == 1)) ∷ []) _ u _ h.done.later.related.matches.shows (λ none.
    absurd (true≢false (subst (λ (z : ℕ). (true && not (z == 1)) ≡ false) (promoted-size work p) (first-false U.PointerBytes (is_piece (V.Piece q i) && not (size_of_kind work == 1)) [] none).0)))
old-converted bound x numbers spots at work y c s u m n V.Undefined temp is p word h =
    judged x.world bound n at (U.PointerBytes when (is_piece V.Undefined && not (size_of_kind work == 1)) ∷ []) _ u _ h.done.later.related.matches.shows (λ none.
    meets-here x.world bound n V.Undefined u (λ r t q. HasValue x numbers spots [] y c s m (Some r) t q × IsWordValue r) (record { done = h.done; behind = h.behind; stands = undefined-stands h.done.later.spots y.temp temp n is }, tt))
old-converted bound x numbers spots at work y c s u m n V.Null temp is p word h =
    judged x.world bound n at (U.PointerBytes when (is_piece V.Null && not (size_of_kind work == 1)) ∷ []) _ u _ h.done.later.related.matches.shows (λ none.
    meets-here x.world bound n V.Undefined u (λ r t q. HasValue x numbers spots [] y c s m (Some r) t q × IsWordValue r) (record { done = h.done; behind = h.behind; stands = undefined-stands h.done.later.spots y.temp temp n is }, tt))
old-converted bound x numbers spots at work y c s u m n (V.At q) temp is p word h =
    judged x.world bound n at (U.PointerBytes when (is_piece (V.At q) && not (size_of_kind work == 1)) ∷ []) _ u _ h.done.later.related.matches.shows (λ none.
    meets-here x.world bound n V.Undefined u (λ r t q. HasValue x numbers spots [] y c s m (Some r) t q × IsWordValue r) (record { done = h.done; behind = h.behind; stands = undefined-stands h.done.later.spots y.temp temp n is }, tt))

pub read-temp : (k : Kind) (target : Target) (c : Code) → (read_target k target c).temp ≡ Some c.temps
read-temp k (Kept t) c = refl
read-temp k (Named g) c = refl
read-temp k (Led t) c = refl

pub read-later : (k : Kind) (target : Target) (c : Code) → (read_target k target c).code.temps ≡ c.temps + 1
read-later k (Kept t) c = refl
read-later k (Named g) c = refl
read-later k (Led t) c = refl

pub before-read : (g : FlowFn) (k : Kind) (target : Target) (c : Code) → ContainsCode g (read_target k target c).code → ContainsCode g c
before-read g k (Kept x) c w = before-fresh g (λ t. op.Copy t x) c w
before-read g k (Named n) c w = before-fresh g (λ t. op.LoadG t n k) c w
before-read g k (Led a) c w = before-fresh g (λ t. op.Load k t a) c w

-- ---- the new value, converted and stored

-- the code behind both operands, which stand in p and q
abbrev pub new-code : BinaryOperator → IntKind → IntKind → Target → ℕ → ℕ → Code → Lowered
new-code o work own target p q d =
    let z = sum_or o (is_signed_kind work) None None p q d in
    stored (kind_of_int own) target (lowering.extended (extension (kind_of_int work) (kind_of_int own)) (temp_of z) z.code)

sum-temps : (o : BinaryOperator) (s : Bool) (p q : ℕ) (d : Code) → ((sum_or o s None None p q d).temp ≡ Some d.temps) × ((sum_or o s None None p q d).code.temps ≡ d.temps + 1)
sum-temps B.Add s p q d = (refl, refl)
sum-temps B.Subtract s p q d = (refl, refl)
sum-temps B.Multiply s p q d = (refl, refl)
sum-temps B.Divide s p q d = (refl, refl)
sum-temps B.Remainder s p q d = (refl, refl)
sum-temps B.ShiftLeft s p q d = (refl, refl)
sum-temps B.ShiftRight s p q d = (refl, refl)
sum-temps B.Less s p q d = (refl, refl)
sum-temps B.Greater s p q d = (refl, refl)
sum-temps B.LessEqual s p q d = (refl, refl)
sum-temps B.GreaterEqual s p q d = (refl, refl)
sum-temps B.Equal s p q d = (refl, refl)
sum-temps B.NotEqual s p q d = (refl, refl)
sum-temps B.And s p q d = (refl, refl)
sum-temps B.ExclusiveOr s p q d = (refl, refl)
sum-temps B.Or s p q d = (refl, refl)

extended-temp : (k : Option ExtKind) (t : ℕ) (d : Code) → (r : ℕ) × ((lowering.extended k t d).temp ≡ Some r) × ((r ≡ t) ⊎ (d.temps ≤ r)) × (d.temps ≤ (lowering.extended k t d).code.temps)
extended-temp None t d = (t, refl, inl refl, omega arith)
extended-temp (Some k) t d = (d.temps, refl, inr (omega arith), omega arith)

pub more-then : (a b c : List Spot) → ((new : List Spot) × (b ≡ a ++ new)) → ((new : List Spot) × (c ≡ b ++ new)) → (new : List Spot) × (c ≡ a ++ new)
more-then a b c x y = (x.0 ++ y.0, y.1 ∙ ap (λ (l : List Spot). l ++ y.0) x.1 ∙ append_assoc a x.0 y.0)

-- what is known of a target where both operands are there
pub record TargetIs (x : Activation) (numbers : Numbers) (spots : List Spot) (assigned : List ℕ) (ty : CType) (target : Target) (place : Value) (d : Code) (n : Machine) : Type 0 where
  pub suits : SuitsType x ty target
  pub covers : Covers x assigned target
  pub led : (t : ℕ) → target ≡ Led t → t < d.temps
  pub stands : TargetStands x numbers spots place target n

number-temp : (spots : List Spot) (i : ℕ) (to : Option ℕ) (m : Machine) → ResultStands spots (Some (V.Num i)) to m → value_in m.frame (unwrap_or to 0) ≡ V.Num i
number-temp spots i None m h = absurd h
number-temp spots i (Some t) m h = h

pub update-int :
    Laws → NumberLaws → (bound : ℕ) (x : Activation) (numbers : Numbers) (spots : List Spot) (assigned : List ℕ) (token : ℕ) (o : BinaryOperator) (own work right : IntKind) (target : Target) (p q : ℕ) (d : Code) (u : State) (n : Machine) (place old w : Value)
    → IsActivation x → promoted work ≡ work → ((a b i : ℕ) → IsNumberOf work (V.Num a) → IsNumberOf right (V.Num b) → arithmetic o (is_signed_kind work) a b ≡ Ok i → IsNumberOf work (V.Num i))
    → IsWordValue old → IsNumberOf right w → BothStand x numbers spots p q d old w u n → TargetIs x numbers spots assigned (Int own) target place d n
    → ContainsCode (graph_of x) (new-code o work own target p q d).code
    → Meets x.world bound n (update (env_of x numbers) token (Int own) (Int work) place o (Int right) old w u) (λ v. HasValue x numbers spots assigned (new-code o work own target p q d) d u n (Some v))
unfolding update put source.binary source.on_numbers give stop wrong ◌>>=◌ go_on
update-int laws nums bound x numbers spots assigned token o own work right target p q d u n place (V.Num a) (V.Num b) active promo good word typed both there holds =
    let at = site (env_of x numbers) token in
    let z = sum_or o (is_signed_kind work) None None p q d in
    let ext = extension (kind_of_int work) (kind_of_int own) in
    let y = lowering.extended ext (temp_of z) z.code in
    let k = kind_of_int own in
    let in-y = before-write (graph_of x) k target (temp_of y) y.code holds in
    let in-z = before-extended (graph_of x) ext (temp_of z) z.code in-y in
    let zt = sum-temps o (is_signed_kind work) p q d in
    let zt-is : temp_of z ≡ d.temps = ap (λ (r : Option ℕ). unwrap_or r 0) zt.0 in
    let yt = extended-temp ext (temp_of z) z.code in
    let yt-is : temp_of y ≡ yt.0 = ap (λ (r : Option ℕ). unwrap_or r 0) yt.1 in
    let above : d.temps ≤ temp_of y = elim yt.2 [
      | inl e ↦ omega (arith, yt-is, e, zt-is)
      | inr e ↦ omega (arith, yt-is, e, zt.1)
    ] in
    let R : Value → State → Machine → Type 0 = λ v. HasValue x numbers spots assigned (new-code o work own target p q d) d u n (Some v) in
    meets-then laws x.world bound n (outcome_of at (arithmetic o (is_signed_kind work) a b) u) _
    (λ v r t. HasValue x numbers spots [] z d u n (Some v) r t × ((i : ℕ) × (v ≡ V.Num i) × IsNumberOf work (V.Num i))) R
    (numbers-meet laws nums bound x numbers spots at o (is_signed_kind work) p q d a b u n word (word-of right b typed) both in-z (λ i. IsNumberOf work (V.Num i)) (λ i e. good a b i (word-number work a promo word) typed e))
    (λ v r t h.
    let i = h.1.0 in
    let at-i : HasValue x numbers spots [] z d u n (Some (V.Num i)) r t = subst (λ (v : Value). HasValue x numbers spots [] z d u n (Some v) r t) h.1.1 h.0 in
    subst (λ (v : Value). Meets x.world bound t ((convert at (Int own) v >>= λ v. put Assigning at x.home.tree.records (Int own) place v >>= λ done. give v) r) R) (sym h.1.1)
    (meets-then laws x.world bound t (convert at (Int own) (V.Num i) r) (λ v. put Assigning at x.home.tree.records (Int own) place v >>= λ done. give v)
    (λ v r2 t2. HasValue x numbers at-i.done.later.spots [] y z.code r t (Some v) r2 t2 × (v ≡ converted (V.Num i) own)) R
    (converts laws nums bound x numbers at-i.done.later.spots at work own (temp_of z) z.code i r t h.1.2 (record { related = at-i.done.later.related; behind = at-i.behind; temps = omega (arith, both.ready.temps, zt.1) }) in-y (number-temp at-i.done.later.spots i z.temp t at-i.stands))
    (λ v2 r2 t2 g.
    let spots2 = g.0.done.later.spots in
    let spots1 = at-i.done.later.spots in
    let target2 = target-later laws x numbers spots spots2 place target n t2 (more-then spots spots1 spots2 at-i.done.later.lasts.more g.0.done.later.lasts.more)
    (λ j e. let lt = there.led j e in g.0.done.temps j (omega (arith, lt, zt.1)) (λ l c. none-in l (_ ≢ _) c) ∙ at-i.done.temps j lt (λ l c. none-in l (_ ≢ _) c)) there.stands in
    meets-then laws x.world bound t2 (store Assigning at (Int own) place v2 r2) (λ done. give v2)
    (λ done. HasValue x numbers spots2 assigned (lowered_as (Some (temp_of y)) (write k target (temp_of y) y.code)) y.code r2 t2 (Some v2)) R
    (writes laws bound x numbers spots2 assigned Assigning (Int own) k at target (temp_of y) y.code r2 t2 place v2 refl
    (record { related = g.0.done.later.related; behind = g.0.behind; temps = omega (arith, both.ready.temps, zt.1, yt.3) }) holds there.suits there.covers (omega (arith, both.ready.temps, above)) (subst (λ (v : Value). IsNumberOf own v) (sym g.1) (converted-number laws x numbers r work own i active at-i.done.later.related.matches.bytes h.1.2)) (operand-stands spots2 v2 y.temp t2 g.0.stands) target2)
    (λ done r3 t3 f.
    meets-here x.world bound t3 v2 r3 R
    (value-after laws x numbers spots [] assigned assigned (new-code o work own target p q d) d z.code u r r3 n t t3 (Some v2) both.ready.related (omega (arith, zt.1)) (λ l c. none-in l (Contains assigned l) c) (λ l c. c) at-i.done
    (value-after laws x numbers spots1 [] assigned assigned (new-code o work own target p q d) z.code y.code r r2 r3 t t2 t3 (Some v2) at-i.done.later.related yt.3 (λ l c. none-in l (Contains assigned l) c) (λ l c. c) g.0.done
    (record { done = f.done; behind = f.behind; stands = result-stands f.done.later.spots v2 y.temp yt.0 t3 yt.1 f.stands })))))))
update-int laws nums bound x numbers spots assigned token o own work right target p q d u n place old w active promo good word typed both there holds = tt

-- ---- behind the place: the old value, the right operand, and the new value

pub rest-keeps :
    Laws → NumberLaws → (bound t : ℕ) (o : BinaryOperator) (b : Expression) (own work right : IntKind) (la : List ℕ) (target : Target) (x : Activation) (numbers : Numbers) (spots : List Spot) (c : Code) (u : State) (n : Machine) (place : Value)
    → IsActivation x → IsTyped x.home.tree x.function.locals b → HaveSlots x (addressed_in b) → ExpressionKeeps bound b → type_in b ≡ Int right
    → (promoted work ≡ work) × FitsBinary x.home.tree.records o (Int work) (Int right) (Int work)
    → IsReady x numbers spots c u n → SuitsType x (Int own) target → Covers x la target → ((i : ℕ) → target ≡ Led i → (local_temps x ≤ i) × (i < c.temps)) → TargetStands x numbers spots place target n
    → let y = lower (home_of x) b (read_target (kind_of_int own) target c).code in
    ContainsCode (graph_of x) (new-code o work own target (temp_of (read_target (kind_of_int own) target c)) (temp_of y) y.code).code
    → Meets x.world bound n ((old_value (env_of x numbers) t (Int own) (Int work) place >>= λ old. answer_of b (calls x.world bound) (env_of x numbers) >>= used (site (env_of x numbers) t) >>= λ w. update (env_of x numbers) t (Int own) (Int work) place o (Int right) old w >>= λ r. give (Some r)) u)
    (HasValue x numbers spots (la ++ assigned_in b) (new-code o work own target (temp_of (read_target (kind_of_int own) target c)) (temp_of y) y.code) c u n)
unfolding old_value ◌>>=◌ go_on give
rest-keeps laws nums bound t o b own work right la target x numbers spots c u n place active typed slots keeps is fits ready suits covers led st holds =
    let h = home_of x in
    let at = site (env_of x numbers) t in
    let k = kind_of_int own in
    let old = read_target k target c in
    let old-temp : temp_of old ≡ c.temps = ap (λ (r : Option ℕ). unwrap_or r 0) (read-temp k target c) in
    let old-later = read-later k target c in
    let y = lower h b old.code in
    let z = new-code o work own target (temp_of old) (temp_of y) y.code in
    let sum = sum_or o (is_signed_kind work) None None (temp_of old) (temp_of y) y.code in
    let ext = extension (kind_of_int work) k in
    let in-y = before-two x o (is_signed_kind work) (temp_of old) (temp_of y) y.code (before-extended (graph_of x) ext (temp_of sum) sum.code (before-write (graph_of x) k target (temp_of (lowering.extended ext (temp_of sum) sum.code)) (lowering.extended ext (temp_of sum) sum.code).code holds)) in
    let in-old = laws.contain (graph_of x) h b old.code in-y in
    let all = la ++ assigned_in b in
    let R = HasValue x numbers spots all z c u n in
    meets-then laws x.world bound n (old_value (env_of x numbers) t (Int own) (Int work) place u) _
    (λ v u1 n1. HasValue x numbers spots [] old c u n (Some v) u1 n1 × IsWordValue v) R
    (meets-then laws x.world bound n (load at (Int own) place u) (λ v. convert at (Int work) v) (λ v u1 n1. HasValue x numbers spots [] old c u n (Some v) u1 n1 × IsWordValue v) (λ v u1 n1. HasValue x numbers spots [] old c u n (Some v) u1 n1 × IsWordValue v)
    (meets-typed x.world bound n IsWordValue (load at (Int own) place u) (λ v. HasValue x numbers spots [] old c u n (Some v))
    (reads laws bound x numbers spots (Int own) k at target c u n place refl ready in-old suits st) (load-word own at place u ready.related.matches.bytes))
    (λ v u1 n1 g. old-converted bound x numbers spots at work old c u u1 n n1 v c.temps (read-temp k target c) fits.0 g.1 g.0))
    (λ v u1 n1 g.
    let spots1 = g.0.done.later.spots in
    let again : IsReady x numbers spots1 old.code u1 n1 = record { related = g.0.done.later.related; behind = g.0.behind; temps = omega (arith, ready.temps, old-later) } in
    meets-then laws x.world bound n1 ((answer_of b (calls x.world bound) (env_of x numbers) >>= used at) u1) _ (HasOperand x numbers spots1 b old.code u1 n1) R
    (operand laws bound x numbers spots1 b old.code u1 n1 at active typed g.0.done.later.related.matches.bytes (keeps x numbers spots1 old.code u1 n1 active typed slots in-y again))
    (λ w u2 n2 q.
    let spots2 = q.0.done.later.spots in
    let stay : (i : ℕ) → local_temps x ≤ i → i < old.code.temps → value_in n2.frame i ≡ value_in n1.frame i = λ i low lt. stays laws x numbers spots1 b old.code i u1 u2 n1 n2 typed low lt q.0.done in
    let typed-w : IsNumberOf right w = subst (λ (T : CType). IsValueOf T w) is q.1 in
    meets-then laws x.world bound n2 (update (env_of x numbers) t (Int own) (Int work) place o (Int right) v w u2) (λ r. give (Some r)) (λ r. HasValue x numbers spots2 la z y.code u2 n2 (Some r)) R
    (update-int laws nums bound x numbers spots2 la t o own work right target (temp_of old) (temp_of y) y.code u2 n2 place v w active fits.0
    (λ i j r ti tj e. result-number laws x numbers u2 o work right i j r active q.0.done.later.related.matches.bytes fits.1 ti tj e) g.1 typed-w
    (record {
      ready = record { related = q.0.done.later.related; behind = q.0.behind; temps = omega (arith, again.temps, (laws.later h b old.code).temps) };
      first = subst (λ (r : Value). Stands spots2 v r) (sym (stay (temp_of old) (omega (arith, old-temp, ready.temps)) (omega (arith, old-temp, old-later))))
          (laws.stands spots1 spots2 v (value_in n1.frame (temp_of old)) q.0.done.later.lasts.more (operand-stands spots1 v old.temp n1 g.0.stands));
      second = operand-stands spots2 w y.temp n2 q.0.stands;
    })
    (record {
      suits = suits;
      covers = covers;
      led = λ i e. let l = led i e in omega (arith, l.1, old-later, (laws.later h b old.code).temps);
      stands = target-later laws x numbers spots spots2 place target n n2 (more-then spots spots1 spots2 g.0.done.later.lasts.more q.0.done.later.lasts.more)
          (λ i e. let l = led i e in stay i l.0 (omega (arith, l.1, old-later)) ∙ g.0.done.temps i l.1 (λ j there. none-in j (_ ≢ _) there)) st;
    }) holds)
    (λ r u3 n3 f.
    meets-here x.world bound n3 (Some r) u3 R
    (value-after laws x numbers spots [] all all z c old.code u u1 u3 n n1 n3 (Some r) ready.related (omega (arith, old-later)) (λ j there. none-in j (Contains all j) there) (λ j there. there) g.0.done
    (value-after laws x numbers spots1 (assigned_in b) la all z old.code y.code u1 u2 u3 n1 n2 n3 (Some r) g.0.done.later.related (laws.later h b old.code).temps
    (λ j there. Contains-append_right la (assigned_in b) j there) (λ j there. Contains-append_left la (assigned_in b) j there) q.0.done f)))))

-- A pointer some bytes further, in an object that is no greater than words can count.
use Rattle.std.proofs.Common.{◌≡◌, ◌≢◌, ℕ, ◌+◌, ◌%◌, ◌^◌, ◌<◌, ◌≤◌, ◌==◌, Bool, true, false, true≢false, nat_le, leb-true, eqb-true, if◌then◌else◌, Option, Some, None, is_none, option_map, List, [], ◌∷◌, length, refl, ap, ap₂, sym, ◌∙◌, subst, arith}
use Rattle.std.specs.Prelude.{pos}
use Rattle.std.proofs.lemmas.Bool.{not-false}
use Rattle.pw_value.specs.declared.value.Value.{Value}
use Rattle.pw_value.specs.declared.value.Value.TheVariants as V
use Rattle.pw_value.specs.declared.value.Pointer.TheVariants as P
use Rattle.pw_value.specs.Objects.{Object, object_at}
use Rattle.pw_flow.specs.declared.flow.Op.TheVariants as op
use Rattle.pw_flow.specs.declared.flow.BinKind.TheVariants.{Add}
use Rattle.pw_lower.specs.Codes.{Lowered, temp_of, constant}
use Rattle.pw_lower.specs.Operators.{with}
use Rattle.pw_lower.specs.Expressions.{further}
use Rattle.pw_cmean.specs.declared.undefined.Undef.TheVariants as U
use Rattle.pw_cmean.specs.Undefined.{◌when◌}
use Rattle.pw_cmean.specs.Acts.{State, Gives, give, stop, wrong, need, look, ◌>>=◌, go_on}
use Rattle.pw_cmean.specs.Access.{objects_now}
use Rattle.pw_cmean.specs.Operators.{is_ended, moved, advance}
use Rattle.pw_run_languages.specs.Commands.{command}
use Rattle.pw_run_languages.specs.Values as flow
use Rattle.pw_run_languages.specs.FlowRun as run
use Rattle.pw_run_languages.specs.FlowRun.{Machine, value_in}
use Rattle.pw_law_refine.specs.Standing.{Spot, In, spot_of, Stands}
use Rattle.pw_law_refine.specs.Activations.{Activation, Numbers, graph_of}
use Rattle.pw_law_refine.specs.Containing.{ContainsCode}
use Rattle.pw_law_refine.specs.Meeting.{Meets}
use Rattle.pw_law_refine.specs.Expressions.{IsReady, HasValue, ResultStands}
use Rattle.pw_law_refine_forms.specs.Accesses.{AdvancesKeep}
use Rattle.pw_law_refine_forms.proofs.Laws.{Laws}
use Rattle.pw_law_refine_forms.proofs.Simulation.{meets-less, meets-later, meets-here, judged}
use Rattle.pw_law_refine_forms.proofs.Kit.{before-fresh, value-then, none-in, nothing-done, operand-stands}
use Rattle.pw_law_refine_forms.proofs.Access.{first-false}

-- ---- what moving gives

moved-kept : (objects : List Object) (o i n : ℕ) → is_none (moved objects (V.At (P.Object o i)) (pos n)) ≡ false
    → (i + n ≤ length (object_at objects o).bytes) × (moved objects (V.At (P.Object o i)) (pos n) ≡ Some (V.At (P.Object o (i + n))))
moved-kept objects o i n e = by_test (nat_le (i + n) (length (object_at objects o).bytes)) refl e
  where
    by_test : (b : Bool) → nat_le (i + n) (length (object_at objects o).bytes) ≡ b
        → is_none (option_map (λ to. V.At (P.Object o to)) (if b then Some (i + n) else None)) ≡ false
        → (i + n ≤ length (object_at objects o).bytes) × (moved objects (V.At (P.Object o i)) (pos n) ≡ Some (V.At (P.Object o (i + n))))
    by_test true is e = (leb-true (i + n) (length (object_at objects o).bytes) is, ap (λ (b : Bool). option_map (λ to. V.At (P.Object o to)) (if b then Some (i + n) else None)) is)
    by_test false is e = absurd (true≢false e)

-- into the same object
further-stands : (spots : List Spot) (o i j f size : ℕ) (w : Value) → spot_of spots o ≡ In f size → j ≤ size → w ≡ V.At (P.Object f j) → Stands spots (V.At (P.Object o j)) w
further-stands spots o i j f size w there inside is = (P.Object f j, record { object = f; size = size; there = there; inside = inside; is = refl }, is)

-- ---- the code

-- nothing, or a number that is added
adds :
    Laws → (bound : ℕ) (x : Activation) (numbers : Numbers) (spots : List Spot) (offset : ℕ) (y : Lowered) (s : State) (m : Machine) (o i : ℕ) (b : Bool)
    → (offset == 0) ≡ b → IsReady x numbers spots y.code s m → i + offset < 2 ^ 31 → (temp_of y < y.code.temps)
    → ContainsCode (graph_of x) (if b then y else with Add (temp_of y) (constant offset y.code)).code
    → ResultStands spots (Some (V.At (P.Object o i))) y.temp m → (object_at s.objects o).live ≡ true → i + offset ≤ length (object_at s.objects o).bytes
    → Meets x.world bound m (Gives (V.At (P.Object o (i + offset))) s) (λ v. HasValue x numbers spots [] (if b then y else with Add (temp_of y) (constant offset y.code)) y.code s m (Some v))
unfolding command nothing-done
adds laws bound x numbers spots offset y s m o i true zero-is ready low given holds st live inside =
    let none : offset ≡ 0 = eqb-true offset 0 zero-is in
    let to : i ≡ i + offset = omega (arith, none) in
    meets-here x.world bound m (V.At (P.Object o (i + offset))) s (λ v. HasValue x numbers spots [] y y.code s m (Some v))
    (record {
      done = nothing-done x numbers spots [] y.code s m ready.related;
      behind = ready.behind;
      stands = subst (λ (j : ℕ). ResultStands spots (Some (V.At (P.Object o j))) y.temp m) to st;
    })
adds laws bound x numbers spots offset y s m o i false some ready low given holds st live inside =
    let d = y.code in
    let z = constant offset d in
    let t = temp_of y in
    let in-z = before-fresh (graph_of x) (λ r. op.Bin Add r t (temp_of z)) z.code holds in
    let place = V.At (P.Object o i) in
    let to = V.At (P.Object o (i + offset)) in
    let here = operand-stands spots place y.temp m st in
    let r = laws.fresh x numbers spots [] d s m (λ a. op.Const a offset) (V.Num offset) (V.Num offset) in-z ready refl (λ rest. refl) in
    let h = r.holds in
    let n = r.machine in
    let later = h.done.later.spots in
    let kept : value_in n.frame t ≡ value_in m.frame t = h.done.temps t given (λ k e. none-in k (_ ≢ _) e) in
    let st2 : Stands later place (value_in n.frame t) = subst (λ (w : Value). Stands later place w) (sym kept) (laws.stands spots later place (value_in m.frame t) h.done.later.lasts.more here) in
    let f = st2.1.object in
    let sum : V.At (P.Object f ((i + offset) % 2 ^ 32)) ≡ V.At (P.Object f (i + offset)) = ap (λ (j : ℕ). V.At (P.Object f j)) (let e : (i + offset) % 4294967296 ≡ i + offset = omega (arith, low) in e) in
    let own = (h.done.later.related.matches.memory.holds o f st2.1.size live st2.1.there).own_size in
    meets-later laws x.world bound m n r.count (Gives to s) (λ v. HasValue x numbers spots [] (with Add t z) d s m (Some v)) r.comes
    (meets-less x.world bound n (Gives to s) (λ v. HasValue x numbers later [] (with Add t z) z.code s n (Some v)) (λ v. HasValue x numbers spots [] (with Add t z) d s m (Some v))
    (laws.fresh x numbers later [] z.code s n (λ a. op.Bin Add a t (temp_of z)) to (V.At (P.Object f (i + offset))) holds
    (record { related = h.done.later.related; behind = h.behind; temps = omega (arith, ready.temps) })
    (further-stands later o i (i + offset) f st2.1.size (V.At (P.Object f (i + offset))) st2.1.there (omega (arith, inside, own)) refl)
    (λ rest. ap (λ (a : Option Value). run.gives z.code.temps a (record n { frame = record n.frame { ops = rest } }))
    (ap₂ (λ (a b : Value). flow.binary n.objects Add a b) (st2.2 ∙ ap V.At st2.1.is) h.stands ∙ ap Some sum)))
    (λ v w q g. value-then laws x numbers spots [] z (with Add t z) d s s w m n q (Some (V.Num offset)) (Some v) ready.related (omega arith) h g))

-- ---- the law

pub advances : Laws → AdvancesKeep
unfolding advance objects_now look need give stop wrong ◌>>=◌ go_on
advances laws bound x numbers spots at offset y s m (V.At (P.Object o i)) ready given holds st =
    judged x.world bound m at (U.EndedObject when is_ended s.objects (V.At (P.Object o i)) ∷ U.PointerArithmetic when is_none (moved s.objects (V.At (P.Object o i)) (pos offset)) ∷ []) _ s _ ready.related.matches.shows (λ none.
    let a = first-false U.EndedObject (is_ended s.objects (V.At (P.Object o i))) (U.PointerArithmetic when is_none (moved s.objects (V.At (P.Object o i)) (pos offset)) ∷ []) none in
    let b = first-false U.PointerArithmetic (is_none (moved s.objects (V.At (P.Object o i)) (pos offset))) [] a.1 in
    let live = not-false (object_at s.objects o).live a.0 in
    let k = moved-kept s.objects o i offset b.0 in
    let few = ready.related.matches.small o in
    subst (λ (r : Option Value). Meets x.world bound m (need r s) (λ v. HasValue x numbers spots [] (further offset y) y.code s m (Some v))) (sym k.1)
    (adds laws bound x numbers spots offset y s m o i (offset == 0) refl ready (omega (arith, k.0, few)) given holds st live k.0))
advances laws bound x numbers spots at offset y s m place ready given holds st =
    judged x.world bound m at (U.EndedObject when is_ended s.objects place ∷ U.PointerArithmetic when is_none (moved s.objects place (pos offset)) ∷ []) _ s _ ready.related.matches.shows (λ none. tt)

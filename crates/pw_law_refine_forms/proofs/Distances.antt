-- How many elements lie between two pointers (C90 6.3.6).
use Rattle.std.proofs.Common.{◌≡◌, ◌≢◌, ℕ, zero, suc, ◌+◌, ◌-◌, ◌/◌, ◌%◌, ◌^◌, ◌<◌, ◌≤◌, ◌⊎◌, inl, inr, ◌==◌, ◌||◌, Bool, true, false, not, true≢false, eq-eqb, ne_eqb, eqb-true, if◌then◌else◌, Option, Some, None, unwrap_or, option_map, List, [], ◌∷◌, refl, ap, ap₂, sym, ◌∙◌, subst, arith}
use Rattle.std.specs.Prelude.{ℤ, pos, negsuc, neg_ℤ, ◌+ℤ◌, ◌-ℤ◌, int_div, unsigned_abs, FitsSigned, Result, Ok, Err}
use Rattle.std.specs.Int.{w32, cast_signed, int_wrap}
use Rattle.std.proofs.lemmas.Int.{ints, of_z-to_z, int_wrap_fits, wrapping_sub-bits}
use Rattle.std.proofs.Math.Nat.{mod-eq_of_lt, zero-div}
use Rattle.std.proofs.lemmas.Bool.{cases_lt, not-false, or_parts}
use Rattle.pw_value.specs.Objects.{Object, object_at}
use Rattle.pw_value.specs.Words.{fits, word, exact}
use Rattle.pw_value.specs.declared.words.WordFault.{WordFault}
use Rattle.pw_value.specs.declared.words.WordFault.TheVariants.{Overflow, ZeroDivisor, ShiftCount}
use Rattle.pw_value.specs.declared.value.Value.{Value}
use Rattle.pw_value.specs.declared.value.Value.TheVariants as V
use Rattle.pw_value.specs.declared.value.Pointer.TheVariants as P
use Rattle.pw_types.specs.TypeTrees.{Pointer as PointerTo, QType, Qualified}
use Rattle.pw_types.specs.Layouts.{layout_of}
use Rattle.pw_types.specs.declared.record.Layout.{Layout}
use Rattle.pw_types.specs.declared.tree.BinaryOperator.TheVariants as B
use Rattle.pw_flow.specs.declared.flow.Op.TheVariants as op
use Rattle.pw_flow.specs.declared.flow.BinKind.{BinKind}
use Rattle.pw_flow.specs.declared.flow.BinKind.TheVariants.{Sub, DivS}
use Rattle.pw_lower.specs.declared.code.Code.{Code}
use Rattle.pw_lower.specs.Codes.{Lowered, temp_of, fresh, constant}
use Rattle.pw_lower.specs.Operators.{bytes_of, with, distance}
use Rattle.pw_cmean.specs.declared.undefined.Undef.TheVariants as U
use Rattle.pw_cmean.specs.Undefined.{◌when◌}
use Rattle.pw_cmean.specs.Acts.{State, Site, give, stop, wrong, undefined, need, look, ◌>>=◌, go_on}
use Rattle.pw_cmean.specs.Access.{objects_now}
use Rattle.pw_cmean.specs.Operators as source
use Rattle.pw_cmean.specs.Operators.{is_ended, into_one_object, offset_of, outcome_of}
use Rattle.pw_run_languages.specs.Commands.{command}
use Rattle.pw_run_languages.specs.Values as flow
use Rattle.pw_run_languages.specs.FlowRun as run
use Rattle.pw_run_languages.specs.FlowRun.{Machine, value_in, steps}
use Rattle.pw_law_refine.specs.Standing.{Spot, Stands}
use Rattle.pw_law_refine.specs.Activations.{Activation, Numbers, graphs, graph_of}
use Rattle.pw_law_refine.specs.Containing.{ContainsCode}
use Rattle.pw_law_refine.specs.Meeting.{Reaches, Meets}
use Rattle.pw_law_refine.specs.Expressions.{IsReady, HasValue}
use Rattle.pw_law_refine_forms.specs.Operands.{BothStand, Applies}
use Rattle.pw_law_refine_forms.proofs.Bytes.{same-object}
use Rattle.pw_law_refine_forms.proofs.Laws.{Laws}
use Rattle.pw_law_refine_forms.proofs.Simulation.{judged-then, shown-here}
use Rattle.pw_law_refine_forms.proofs.Kit.{before-fresh, value-then, none-in}
use Rattle.pw_law_refine_forms.proofs.Access.{first-false}
use Rattle.pw_law_refine_forms.proofs.Compare.{into-one}
use Rattle.pw_law_refine_forms.proofs.Sums.{low-signed, reaches-then}

-- ---- words

fits-difference : (z : ℤ) (i j : ℕ) → z ≡ pos i +ℤ neg_ℤ (pos j) → i < 2 ^ 31 → j < 2 ^ 31 → FitsSigned w32 z
fits-difference (pos n) i j e hi hj = let same : n + j ≡ i = omega (arith, ints, e) in record { sfits = omega (arith, same, hi) }
fits-difference (negsuc n) i j e hi hj = let same : suc n + i ≡ j = omega (arith, ints, e) in record { sfits = omega (arith, same, hj) }

-- the difference of two small numbers
signed-less : (i j : ℕ) → i < 2 ^ 31 → j < 2 ^ 31 → cast_signed w32 ((i + (2 ^ 32 - j)) % 2 ^ 32) ≡ pos i -ℤ pos j
signed-less i j hi hj =
    wrapping_sub-bits w32 i j (omega (arith, hi)) (omega (arith, hj)) ∙ ap₂ (λ (u v : ℤ). int_wrap w32 (u +ℤ neg_ℤ v)) (low-signed i hi) (low-signed j hj)
    ∙ int_wrap_fits w32 (pos i +ℤ neg_ℤ (pos j)) (fits-difference (pos i +ℤ neg_ℤ (pos j)) i j refl hi hj)

by-one : (z : ℤ) → int_div z (pos 1) ≡ z
by-one (pos n) = ap pos (let e : n / 1 ≡ n = omega arith in e)
by-one (negsuc n) = ap (λ (k : ℕ). neg_ℤ (pos k)) (let e : suc n / 1 ≡ suc n = omega arith in e)

-- the number that is exact
number-in : Result ℕ WordFault → ℕ
number-in (Ok n) = n
number-in (Err fault) = 0

is_number : Result ℕ WordFault → Bool
is_number (Ok n) = true
is_number (Err fault) = false

exact-word : (z : ℤ) (n : ℕ) → exact z ≡ Ok n → word z ≡ n
unfolding number-in is_number
exact-word z n e = by_test (fits z) e
  where
    by_test : (b : Bool) → (if b then Ok (word z) else Err Overflow) ≡ Ok n → word z ≡ n
    by_test true e = ap number-in e
    by_test false e = absurd (true≢false (sym (ap is_number e)))

-- ---- the code

-- an operation on a temporary and a number
with-number :
    Laws → (x : Activation) (numbers : Numbers) (spots : List Spot) (k : BinKind) (number : ℕ) (y : Lowered) (s : State) (m : Machine) (a : ℕ)
    → IsReady x numbers spots y.code s m → temp_of y < y.code.temps → ContainsCode (graph_of x) (with k (temp_of y) (constant number y.code)).code
    → ((objects : List Object) → flow.binary objects k (value_in m.frame (temp_of y)) (V.Num number) ≡ Some (V.Num a))
    → Reaches (graphs x.world) m (HasValue x numbers spots [] (with k (temp_of y) (constant number y.code)) y.code s m (Some (V.Num a)) s)
unfolding command steps
with-number laws x numbers spots k number y s m a ready given holds does =
    let d = y.code in
    let q = temp_of y in
    let z = constant number d in
    let in-z = before-fresh (graph_of x) (λ r. op.Bin k r q (temp_of z)) z.code holds in
    let r = laws.fresh x numbers spots [] d s m (λ t. op.Const t number) (V.Num number) (V.Num number) in-z ready refl (λ rest. refl) in
    let h = r.holds in
    let n = r.machine in
    let kept : value_in n.frame q ≡ value_in m.frame q = h.done.temps q given (λ j e. none-in j (_ ≢ _) e) in
    let g = laws.fresh x numbers h.done.later.spots [] z.code s n (λ t. op.Bin k t q (temp_of z)) (V.Num a) (V.Num a) holds
    (record { related = h.done.later.related; behind = h.behind; temps = omega (arith, ready.temps) }) refl
    (λ rest. ap (λ (o : Option Value). run.gives z.code.temps o (record n { frame = record n.frame { ops = rest } })) (ap₂ (λ (v w : Value). flow.binary n.objects k v w) kept h.stands ∙ does n.objects)) in
    reaches-then laws x m n r.count (HasValue x numbers spots [] (with k q z) d s m (Some (V.Num a)) s) r.comes
    (record {
      count = g.count;
      machine = g.machine;
      comes = g.comes;
      holds = value-then laws x numbers spots [] z (with k q z) d s s s m n g.machine (Some (V.Num number)) (Some (V.Num a)) ready.related (omega arith) h g.holds;
    })

positive : (n : ℕ) → n ≢ 0 → 0 < n
positive zero ne = absurd (ne refl)
positive (suc n) ne = omega arith

-- Nothing divided by a number is nothing.
nothing-divided : (z : ℤ) → int_div (pos 0) z ≡ pos 0
nothing-divided (pos n) = ap pos (zero-div n)
nothing-divided (negsuc n) = ap (λ (k : ℕ). neg_ℤ (pos k)) (zero-div (suc n))

-- a number is no distance from itself
no-distance : (i j : ℕ) → i ≡ j → pos i -ℤ pos j ≡ pos 0
no-distance i j e = by_number (pos i +ℤ neg_ℤ (pos j)) refl
  where
    by_number : (z : ℤ) → z ≡ pos i +ℤ neg_ℤ (pos j) → z ≡ pos 0
    by_number (pos n) is = let none : n ≡ 0 = omega (arith, ints, is, e) in ap pos none
    by_number (negsuc n) is = absurd (omega (arith, ints, is, e))

-- A size is a positive int, or there is nothing between the two places: an element of 2^31 bytes and more lies in no
-- object.
abbrev IsCounted : ℕ → ℕ → ℕ → Type 0
IsCounted size i j = (size < 2 ^ 31) ⊎ (i ≡ j)

-- so the size may be read as an int
same-quotient : (size i j : ℕ) → IsCounted size i j → int_div (pos i -ℤ pos j) (cast_signed w32 size) ≡ int_div (pos i -ℤ pos j) (pos size)
same-quotient size i j (inl few) = ap (λ (z : ℤ). int_div (pos i -ℤ pos j) z) (low-signed size few)
same-quotient size i j (inr e) =
    let none = no-distance i j e in
    ap (λ (y : ℤ). int_div y (cast_signed w32 size)) none ∙ nothing-divided (cast_signed w32 size) ∙ sym (nothing-divided (pos size))
    ∙ ap (λ (y : ℤ). int_div y (pos size)) (sym none)

-- what has a multiple of the size between them
counted : (size i j : ℕ) → i < 2 ^ 31 → j < 2 ^ 31 → unsigned_abs (pos i -ℤ pos j) % size ≡ 0 → IsCounted size i j
counted size i j hi hj whole = elim (cases_lt size (2 ^ 31)) [
  | inl few ↦ inl few
  | inr more ↦ inr (by_number (pos i +ℤ neg_ℤ (pos j)) refl more whole)
]
  where
    by_number : (z : ℤ) → z ≡ pos i +ℤ neg_ℤ (pos j) → 2 ^ 31 ≤ size → unsigned_abs z % size ≡ 0 → i ≡ j
    by_number (pos n) is more whole =
        let sum : n + j ≡ i = omega (arith, ints, is) in
        let left : n % size ≡ n = mod-eq_of_lt {n = n} {m = size} (omega (arith, sum, hi, more)) in
        omega (arith, sum, left, whole)
    by_number (negsuc n) is more whole =
        let sum : suc n + i ≡ j = omega (arith, ints, is) in
        let left : suc n % size ≡ suc n = mod-eq_of_lt {n = suc n} {m = size} (omega (arith, sum, hj, more)) in
        absurd (omega (arith, left, whole))

-- the difference in bytes, and in elements
lies-apart :
    Laws → (x : Activation) (numbers : Numbers) (spots : List Spot) (size p q : ℕ) (d : Code) (u : State) (m : Machine) (f i j a : ℕ) (b : Bool)
    → (size == 1) ≡ b → 0 < size → IsCounted size i j → i < 2 ^ 31 → j < 2 ^ 31 → IsReady x numbers spots d u m
    → value_in m.frame p ≡ V.At (P.Object f i) → value_in m.frame q ≡ V.At (P.Object f j) → exact (int_div (pos i -ℤ pos j) (pos size)) ≡ Ok a
    → ContainsCode (graph_of x) (let less = fresh (λ t. op.Bin Sub t p q) d in if b then less else with DivS (temp_of less) (constant size less.code)).code
    → Reaches (graphs x.world) m (HasValue x numbers spots [] (let less = fresh (λ t. op.Bin Sub t p q) d in if b then less else with DivS (temp_of less) (constant size less.code)) d u m (Some (V.Num a)) u)
unfolding command steps
lies-apart laws x numbers spots size p q d u m f i j a true is some few hi hj ready vp vq e holds =
    let w = (i + (2 ^ 32 - j)) % 2 ^ 32 in
    let one : size ≡ 1 = eqb-true size 1 is in
    let z = pos i -ℤ pos j in
    let same : w ≡ a =
    sym (of_z-to_z w32 w (omega arith)) ∙ ap (λ (y : ℤ). word y) (signed-less i j hi hj ∙ sym (by-one z) ∙ ap (λ (k : ℕ). int_div z (pos k)) (sym one)) ∙ exact-word (int_div z (pos size)) a e in
    laws.fresh x numbers spots [] d u m (λ t. op.Bin Sub t p q) (V.Num a) (V.Num w) holds ready (ap V.Num same)
    (λ rest. ap (λ (r : Option Value). run.gives d.temps r (record m { frame = record m.frame { ops = rest } }))
    (ap₂ (λ (y z : Value). flow.binary m.objects Sub y z) vp vq ∙ ap (λ (t : Bool). if t then Some (V.Num w) else None) (eq-eqb f f refl)))
lies-apart laws x numbers spots size p q d u m f i j a false is some few hi hj ready vp vq e holds =
    let w = (i + (2 ^ 32 - j)) % 2 ^ 32 in
    let less = fresh (λ t. op.Bin Sub t p q) d in
    let z = with DivS (temp_of less) (constant size less.code) in
    let in-less = before-fresh (graph_of x) (λ t. op.Const t size) less.code (before-fresh (graph_of x) (λ t. op.Bin DivS t (temp_of less) (temp_of (constant size less.code))) (constant size less.code).code holds) in
    let r = laws.fresh x numbers spots [] d u m (λ t. op.Bin Sub t p q) (V.Num w) (V.Num w) in-less ready refl
    (λ rest. ap (λ (r : Option Value). run.gives d.temps r (record m { frame = record m.frame { ops = rest } }))
    (ap₂ (λ (y z : Value). flow.binary m.objects Sub y z) vp vq ∙ ap (λ (t : Bool). if t then Some (V.Num w) else None) (eq-eqb f f refl))) in
    let h = r.holds in
    let n = r.machine in
    let divides : flow.on_numbers DivS w size ≡ Some (V.Num a) =
    ap (λ (t : Bool). flow.number_of (if t then Err ZeroDivisor else exact (int_div (cast_signed w32 w) (cast_signed w32 size)))) (ne_eqb size 0 (λ zero-is. omega (arith, some, zero-is)))
    ∙ ap (λ (y : ℤ). flow.number_of (exact (int_div y (cast_signed w32 size)))) (signed-less i j hi hj) ∙ ap (λ (y : ℤ). flow.number_of (exact y)) (same-quotient size i j few) ∙ ap (λ (o : Result ℕ WordFault). flow.number_of o) e in
    let g = with-number laws x numbers h.done.later.spots DivS size less u n a (record { related = h.done.later.related; behind = h.behind; temps = omega (arith, ready.temps) }) (omega arith) holds
    (λ objects. ap (λ (v : Value). flow.binary objects DivS v (V.Num size)) h.stands ∙ divides) in
    reaches-then laws x m n r.count (HasValue x numbers spots [] z d u m (Some (V.Num a)) u) r.comes
    (record {
      count = g.count;
      machine = g.machine;
      comes = g.comes;
      holds = value-then laws x numbers spots [] less z d u u u m n g.machine (Some (V.Num w)) (Some (V.Num a)) ready.related (omega arith) h g.holds;
    })

-- ---- the operator

-- behind two pointers into one object
distances :
    Laws → (bound : ℕ) (x : Activation) (numbers : Numbers) (spots : List Spot) (at : Site) (size p q : ℕ) (d : Code) (v w : Value) (u : State) (m : Machine)
    → BothStand x numbers spots p q d v w u m → ContainsCode (graph_of x) (distance size p q d).code
    → Meets x.world bound m ((source.difference at size v w >>= λ result. give (Some result)) u) (HasValue x numbers spots [] (distance size p q d) d u m)
unfolding source.difference objects_now look give ◌>>=◌ go_on outcome_of undefined stop
distances laws bound x numbers spots at size p q d v w u m both holds =
    judged-then x.world bound m at (U.EndedObject when (is_ended u.objects v || is_ended u.objects w) ∷ U.DifferentObjects when not (into_one_object v w) ∷ U.PointerDifference when source.are_no_elements size (unsigned_abs (source.distance v w)) ∷ []) (outcome_of at (exact (int_div (source.distance v w) (pos size)))) (λ result. give (Some result)) u (HasValue x numbers spots [] (distance size p q d) d u m) both.ready.related.matches.shows (λ none.
    let rest = U.PointerDifference when source.are_no_elements size (unsigned_abs (source.distance v w)) ∷ [] in
    let a = first-false U.EndedObject (is_ended u.objects v || is_ended u.objects w) (U.DifferentObjects when not (into_one_object v w) ∷ rest) none in
    let b = first-false U.DifferentObjects (not (into_one_object v w)) rest a.1 in
    let e = first-false U.PointerDifference (source.are_no_elements size (unsigned_abs (source.distance v w))) [] b.1 in
    let parts = or_parts (size == 0) (not (unsigned_abs (source.distance v w) % size == 0)) e.0 in
    let some : size ≢ 0 = λ (h : size ≡ 0). true≢false (sym (eq-eqb size 0 h) ∙ parts.0) in
    let whole : unsigned_abs (source.distance v w) % size ≡ 0 = eqb-true (unsigned_abs (source.distance v w) % size) 0 (not-false (unsigned_abs (source.distance v w) % size == 0) parts.1) in
    let one = into-one v w (not-false (into_one_object v w) b.0) in
    let lives = or_parts (is_ended u.objects v) (is_ended u.objects w) a.0 in
    let live = not-false (object_at u.objects one.object).live (ap (λ (z : Value). is_ended u.objects z) (sym one.first) ∙ lives.0) in
    let sv : Stands spots (V.At (P.Object one.object one.i)) (value_in m.frame p) = subst (λ (z : Value). Stands spots z (value_in m.frame p)) one.first both.first in
    let sw : Stands spots (V.At (P.Object one.object one.j)) (value_in m.frame q) = subst (λ (z : Value). Stands spots z (value_in m.frame q)) one.second both.second in
    let f = sv.1.object in
    let same-f : sw.1.object ≡ f = same-object sw.1.object sw.1.size f sv.1.size (sym sw.1.there ∙ sv.1.there) in
    let vp : value_in m.frame p ≡ V.At (P.Object f one.i) = sv.2 ∙ ap V.At sv.1.is in
    let vq : value_in m.frame q ≡ V.At (P.Object f one.j) = sw.2 ∙ ap V.At sw.1.is ∙ ap (λ (k : ℕ). V.At (P.Object k one.j)) same-f in
    let small = both.ready.related.matches.small one.object in
    let own-i = (both.ready.related.matches.memory.holds one.object f sv.1.size live sv.1.there).own_size in
    let own-j = (both.ready.related.matches.memory.holds one.object sw.1.object sw.1.size live sw.1.there).own_size in
    let z-is : source.distance v w ≡ pos one.i -ℤ pos one.j = ap₂ (λ (y z : Value). source.distance y z) one.first one.second in
    by_outcome f one.i one.j (positive size some) (subst (λ (z : ℤ). unsigned_abs z % size ≡ 0) z-is whole) (omega (arith, sv.1.inside, own-i, small)) (omega (arith, sw.1.inside, own-j, small)) vp vq (exact (int_div (source.distance v w) (pos size))) (ap (λ (z : ℤ). exact (int_div z (pos size))) (sym z-is)))
  where
    by_outcome : (f i j : ℕ) → 0 < size → unsigned_abs (pos i -ℤ pos j) % size ≡ 0 → i < 2 ^ 31 → j < 2 ^ 31 → value_in m.frame p ≡ V.At (P.Object f i) → value_in m.frame q ≡ V.At (P.Object f j)
        → (r : Result ℕ WordFault) → exact (int_div (pos i -ℤ pos j) (pos size)) ≡ r
        → Meets x.world bound m ((outcome_of at r >>= λ result. give (Some result)) u) (HasValue x numbers spots [] (distance size p q d) d u m)
    by_outcome f i j some whole hi hj vp vq (Ok a) e = lies-apart laws x numbers spots size p q d u m f i j a (size == 1) refl some (counted size i j hi hj whole) hi hj both.ready vp vq e holds
    by_outcome f i j some whole hi hj vp vq (Err Overflow) e = shown-here x.world m u both.ready.related.matches.shows
    by_outcome f i j some whole hi hj vp vq (Err ZeroDivisor) e = shown-here x.world m u both.ready.related.matches.shows
    by_outcome f i j some whole hi hj vp vq (Err ShiftCount) e = shown-here x.world m u both.ready.related.matches.shows

pub distance-applies : Laws → (bound : ℕ) (left right : QType) → Applies bound B.Subtract (PointerTo left) (PointerTo right)
unfolding source.binary source.on_pointers source.difference need give stop wrong ◌>>=◌ go_on
distance-applies laws bound (Qualified ty c v) (Qualified to k l) x numbers spots at p q d first second u m given-p given-q tv tw both holds = by_layout (layout_of x.home.tree.records ty) refl
  where
    by_layout : (r : Option Layout) → layout_of x.home.tree.records ty ≡ r
        → Meets x.world bound m (((need r >>= λ layout. source.difference at layout.size first second) >>= λ result. give (Some result)) u) (HasValue x numbers spots [] (distance (bytes_of x.home.tree.records ty) p q d) d u m)
    by_layout None e = tt
    by_layout (Some layout) e =
        let size-is : bytes_of x.home.tree.records ty ≡ layout.size = ap (λ (r : Option Layout). unwrap_or (option_map (λ (l : Layout). l.size) r) 0) e in
        subst (λ (n : ℕ). Meets x.world bound m ((source.difference at layout.size first second >>= λ result. give (Some result)) u) (HasValue x numbers spots [] (distance n p q d) d u m)) (sym size-is)
        (distances laws bound x numbers spots at layout.size p q d first second u m both (subst (λ (n : ℕ). ContainsCode (graph_of x) (distance n p q d).code) size-is holds))

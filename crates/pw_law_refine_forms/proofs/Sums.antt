-- Sums of pointers and numbers, and pointers less numbers: objects are small, so words do what whole numbers do.
use Rattle.std.proofs.Common.{◌≡◌, ◌≢◌, ℕ, zero, suc, ◌+◌, ◌-◌, ◌*◌, ◌%◌, ◌^◌, ◌<◌, ◌≤◌, ◌==◌, ◌⊎◌, inl, inr, Bool, true, false, true≢false, nat_le, nat_lt, leb-true, ltb-true, eqb-true, if◌then◌else◌, Option, Some, None, is_none, option_map, unwrap_or, List, [], ◌∷◌, length, refl, ap, ap₂, sym, ◌∙◌, subst, arith}
use Rattle.std.specs.Prelude.{ℤ, pos, negsuc, neg_ℤ, ◌+ℤ◌, ◌*ℤ◌, FitsSigned}
use Rattle.std.specs.Int.{w32, cast_signed, cast_unsigned, int_wrap}
use Rattle.std.proofs.Math.IntN.{zero-*ℤ}
use Rattle.std.proofs.Math.Nat.{suc-mul}
use Rattle.std.proofs.lemmas.Int.{ints, to_z_pos, of_z-to_z, int_wrap_fits, wrapping_add-bits, wrapping_sub-bits, wrapping_mul-bits}
use Rattle.std.proofs.lemmas.Option.{same_Some}
use Rattle.pw_value.specs.declared.value.Value.{Value}
use Rattle.pw_value.specs.declared.value.Value.TheVariants as V
use Rattle.pw_value.specs.declared.value.Pointer.TheVariants as P
use Rattle.pw_value.specs.Objects.{Object, object_at}
use Rattle.pw_flow.specs.declared.flow.Op.TheVariants as op
use Rattle.pw_flow.specs.declared.flow.BinKind.{BinKind}
use Rattle.pw_flow.specs.declared.flow.BinKind.TheVariants.{Add, Sub, Mul}
use Rattle.pw_lower.specs.declared.code.Code.{Code}
use Rattle.pw_lower.specs.Codes.{temp_of, value_is, constant}
use Rattle.pw_lower.specs.Operators.{bytes_of, with, scaled, moved_by}
use Rattle.pw_cmean.specs.Acts.{State, Site, Gives, give, stop, wrong, need, look, judge, ◌>>=◌, go_on}
use Rattle.pw_cmean.specs.Access.{objects_now}
use Rattle.pw_run_languages.specs.Commands.{command}
use Rattle.pw_run_languages.specs.Values as flow
use Rattle.pw_run_languages.specs.FlowRun as run
use Rattle.pw_run_languages.specs.FlowRun.{Machine, Step, On, value_in, steps}
use Rattle.pw_law_refine.specs.Standing.{Spot, Stands}
use Rattle.pw_law_refine.specs.Activations.{Activation, Numbers, graphs, graph_of}
use Rattle.pw_law_refine.specs.Matching.{Shows}
use Rattle.pw_law_refine.specs.Containing.{ContainsCode}
use Rattle.pw_law_refine.specs.Meeting.{Reaches, Meets}
use Rattle.pw_law_refine.specs.Expressions.{IsReady, HasValue, ResultStands}
use Rattle.pw_law_refine_forms.proofs.Laws.{Laws}
use Rattle.pw_law_refine_forms.proofs.Simulation.{meets-less, meets-later, judged-then}
use Rattle.pw_law_refine_forms.proofs.Kit.{before-fresh, value-then, none-in, nothing-done}
use Rattle.pw_law_refine_forms.proofs.Access.{first-false}
use Rattle.pw_law_refine_forms.proofs.Numbers.{word-of}
use Rattle.std.proofs.lemmas.Bool.{not-false, cases_lt}
use Rattle.pw_cmean.specs.Operators as source
use Rattle.pw_cmean.specs.Operators.{is_ended, is_piece, moved, kept_in, integer, advance_elements}
use Rattle.pw_cmean.specs.declared.undefined.Undef.TheVariants as U
use Rattle.pw_cmean.specs.Undefined.{◌when◌, least}
use Rattle.pw_cmean.specs.Typed.{IsNumberOf, IsPointer}
use Rattle.pw_types.specs.TypeTrees.{CType, Int, Pointer as PointerTo, QType, Qualified, type_of, RecordValue}
use Rattle.pw_types.specs.Conversions.{is_signed_kind}
use Rattle.pw_types.specs.Layouts.{layout_of}
use Rattle.pw_types.specs.declared.record.Layout.{Layout}
use Rattle.pw_types.specs.declared.kind.IntKind.{IntKind}
use Rattle.pw_types.specs.declared.tree.BinaryOperator.TheVariants as B
use Rattle.pw_law_refine_forms.specs.Operands.{BothStand, Applies}

-- ---- whole numbers as words

pub low-signed : (n : ℕ) → n < 2 ^ 31 → cast_signed w32 n ≡ pos n
low-signed n h = to_z_pos w32 n h

nat-of : ℤ → ℕ
nat-of (pos n) = n
nat-of (negsuc n) = 0

-- what is added between two small numbers is a signed word
fits-between : (z : ℤ) (i to : ℕ) → pos to ≡ pos i +ℤ z → i < 2 ^ 31 → to < 2 ^ 31 → FitsSigned w32 z
unfolding nat-of
fits-between (pos n) i to e hi ht = let same : to ≡ i + n = ap nat-of e in record { sfits = omega (arith, same, ht) }
fits-between (negsuc n) i to e hi ht = record { sfits = omega (arith, ints, e, hi) }

fits-away : (z : ℤ) (i to : ℕ) → pos to ≡ pos i +ℤ neg_ℤ z → i < 2 ^ 31 → to < 2 ^ 31 → FitsSigned w32 z
unfolding nat-of
fits-away (pos zero) i to e hi ht = record { sfits = omega arith }
fits-away (pos (suc n)) i to e hi ht = record { sfits = omega (arith, ints, e, hi) }
fits-away (negsuc n) i to e hi ht = let same : to ≡ i + suc n = ap nat-of e in record { sfits = omega (arith, same, ht) }

-- a number of elements that are small, forwards
small-add : (a size i to : ℕ) → a < 2 ^ 32 → size < 2 ^ 31 → i < 2 ^ 31 → to < 2 ^ 31 → pos to ≡ pos i +ℤ (cast_signed w32 a *ℤ pos size)
    → (i + a * size % 2 ^ 32) % 2 ^ 32 ≡ to
small-add a size i to ha hs hi ht e =
    let z = cast_signed w32 a *ℤ pos size in
    let n = a * size % 2 ^ 32 in
    let low : n < 2 ^ 32 = omega arith in
    let n-is : cast_signed w32 n ≡ z =
    wrapping_mul-bits w32 a size ha (omega (arith, hs)) ∙ ap (λ (b : ℤ). int_wrap w32 (cast_signed w32 a *ℤ b)) (low-signed size hs) ∙ int_wrap_fits w32 z (fits-between z i to e hi ht) in
    let sum-is : cast_signed w32 ((i + n) % 2 ^ 32) ≡ pos to =
    wrapping_add-bits w32 i n (omega (arith, hi)) low ∙ ap₂ (λ (u v : ℤ). int_wrap w32 (u +ℤ v)) (low-signed i hi) n-is ∙ ap (λ (u : ℤ). int_wrap w32 u) (sym e) ∙ int_wrap_fits w32 (pos to) (record { sfits = ht }) in
    sym (of_z-to_z w32 ((i + n) % 2 ^ 32) (omega arith)) ∙ ap (λ (u : ℤ). cast_unsigned w32 u) sum-is

-- and backwards
small-sub : (a size i to : ℕ) → a < 2 ^ 32 → size < 2 ^ 31 → i < 2 ^ 31 → to < 2 ^ 31 → pos to ≡ pos i +ℤ neg_ℤ (cast_signed w32 a *ℤ pos size)
    → (i + (2 ^ 32 - a * size % 2 ^ 32)) % 2 ^ 32 ≡ to
small-sub a size i to ha hs hi ht e =
    let z = cast_signed w32 a *ℤ pos size in
    let n = a * size % 2 ^ 32 in
    let low : n < 2 ^ 32 = omega arith in
    let n-is : cast_signed w32 n ≡ z =
    wrapping_mul-bits w32 a size ha (omega (arith, hs)) ∙ ap (λ (b : ℤ). int_wrap w32 (cast_signed w32 a *ℤ b)) (low-signed size hs) ∙ int_wrap_fits w32 z (fits-away z i to e hi ht) in
    let sum-is : cast_signed w32 ((i + (2 ^ 32 - n)) % 2 ^ 32) ≡ pos to =
    wrapping_sub-bits w32 i n (omega (arith, hi)) low ∙ ap₂ (λ (u v : ℤ). int_wrap w32 (u +ℤ neg_ℤ v)) (low-signed i hi) n-is ∙ ap (λ (u : ℤ). int_wrap w32 u) (sym e) ∙ int_wrap_fits w32 (pos to) (record { sfits = ht }) in
    sym (of_z-to_z w32 ((i + (2 ^ 32 - n)) % 2 ^ 32) (omega arith)) ∙ ap (λ (u : ℤ). cast_unsigned w32 u) sum-is

at-least : (k size : ℕ) → size ≤ suc k * size
at-least k size = omega (arith, suc-mul k size)

-- greater elements than objects can have: between small numbers lie none of them
none-forwards : (z : ℤ) (size i to : ℕ) → 2 ^ 31 ≤ size → i < 2 ^ 31 → to < 2 ^ 31 → pos to ≡ pos i +ℤ (z *ℤ pos size) → z ≡ pos 0
unfolding nat-of
none-forwards (pos zero) size i to big hi ht e = refl
none-forwards (pos (suc k)) size i to big hi ht e = let same : to ≡ i + suc k * size = ap nat-of e in let more = at-least k size in absurd (omega (arith, same, ht, big, more))
none-forwards (negsuc k) size i to big hi ht e = by_product (suc k * size) (at-least k size) e
  where
    by_product : (p : ℕ) → size ≤ p → pos to ≡ pos i +ℤ neg_ℤ (pos p) → negsuc k ≡ pos 0
    by_product p more e = let same : to + p ≡ i = omega (arith, ints, e) in absurd (omega (arith, same, hi, big, more))

none-backwards : (z : ℤ) (size i to : ℕ) → 2 ^ 31 ≤ size → i < 2 ^ 31 → to < 2 ^ 31 → pos to ≡ pos i +ℤ neg_ℤ (z *ℤ pos size) → z ≡ pos 0
unfolding nat-of
none-backwards (pos zero) size i to big hi ht e = refl
none-backwards (pos (suc k)) size i to big hi ht e = by_product (suc k * size) (at-least k size) e
  where
    by_product : (p : ℕ) → size ≤ p → pos to ≡ pos i +ℤ neg_ℤ (pos p) → pos (suc k) ≡ pos 0
    by_product p more e = let same : to + p ≡ i = omega (arith, ints, e) in absurd (omega (arith, same, hi, big, more))
none-backwards (negsuc k) size i to big hi ht e = by_product (suc k * size) (at-least k size) e
  where
    by_product : (p : ℕ) → size ≤ p → pos to ≡ pos i +ℤ neg_ℤ (neg_ℤ (pos p)) → negsuc k ≡ pos 0
    by_product p more e = let same : to ≡ i + p = omega (arith, ints, e) in absurd (omega (arith, same, ht, big, more))

no-number : (a : ℕ) → a < 2 ^ 32 → cast_signed w32 a ≡ pos 0 → a ≡ 0
no-number a ha e = sym (of_z-to_z w32 a ha) ∙ ap (λ (z : ℤ). cast_unsigned w32 z) e

-- a number of elements, forwards
signed-add : (a size i to : ℕ) → a < 2 ^ 32 → i < 2 ^ 31 → to < 2 ^ 31 → pos to ≡ pos i +ℤ (cast_signed w32 a *ℤ pos size)
    → (i + a * size % 2 ^ 32) % 2 ^ 32 ≡ to
unfolding nat-of
signed-add a size i to ha hi ht e = elim (cases_lt size (2 ^ 31)) [
  | inl few ↦ small-add a size i to ha few hi ht e
  | inr big ↦
      let none = none-forwards (cast_signed w32 a) size i to big hi ht e in
      let same : to ≡ i + 0 = ap nat-of (e ∙ ap (λ (z : ℤ). pos i +ℤ (z *ℤ pos size)) none ∙ ap (λ (z : ℤ). pos i +ℤ z) (zero-*ℤ (pos size))) in
      ap (λ (n : ℕ). (i + n * size % 2 ^ 32) % 2 ^ 32) (no-number a ha none) ∙ omega (arith, same, hi)
]

-- and backwards
signed-sub : (a size i to : ℕ) → a < 2 ^ 32 → i < 2 ^ 31 → to < 2 ^ 31 → pos to ≡ pos i +ℤ neg_ℤ (cast_signed w32 a *ℤ pos size)
    → (i + (2 ^ 32 - a * size % 2 ^ 32)) % 2 ^ 32 ≡ to
unfolding nat-of
signed-sub a size i to ha hi ht e = elim (cases_lt size (2 ^ 31)) [
  | inl few ↦ small-sub a size i to ha few hi ht e
  | inr big ↦
      let none = none-backwards (cast_signed w32 a) size i to big hi ht e in
      let same : to ≡ i + 0 = ap nat-of (e ∙ ap (λ (z : ℤ). pos i +ℤ neg_ℤ (z *ℤ pos size)) none ∙ ap (λ (z : ℤ). pos i +ℤ neg_ℤ z) (zero-*ℤ (pos size))) in
      ap (λ (n : ℕ). (i + (2 ^ 32 - n * size % 2 ^ 32)) % 2 ^ 32) (no-number a ha none) ∙ omega (arith, same, hi)
]

-- of an unsigned number
unsigned-add : (a size i to : ℕ) → to < 2 ^ 31 → pos to ≡ pos i +ℤ (pos a *ℤ pos size) → (i + a * size % 2 ^ 32) % 2 ^ 32 ≡ to
unfolding nat-of
unsigned-add a size i to ht e = let same : to ≡ i + a * size = ap nat-of e in omega (arith, same, ht)

unsigned-sub : (a size i to : ℕ) → i < 2 ^ 31 → pos to ≡ pos i +ℤ neg_ℤ (pos a *ℤ pos size) → (i + (2 ^ 32 - a * size % 2 ^ 32)) % 2 ^ 32 ≡ to
unsigned-sub a size i to hi e = by_product (a * size) refl e
  where
    by_product : (p : ℕ) → a * size ≡ p → pos to ≡ pos i +ℤ neg_ℤ (pos p) → (i + (2 ^ 32 - a * size % 2 ^ 32)) % 2 ^ 32 ≡ to
    by_product p is e = let same : to + p ≡ i = omega (arith, ints, e) in omega (arith, same, hi, is)

-- ---- where a pointer is moved

pub record IsMoved (objects : List Object) (o i : ℕ) (z : ℤ) (v : Value) : Type 0 where
  pub to : ℕ
  pub is : v ≡ V.At (P.Object o to)
  pub inside : to ≤ length (object_at objects o).bytes
  pub sum : pos to ≡ pos i +ℤ z

value-of : Option Value → Value
value-of None = V.Undefined
value-of (Some v) = v

is_there : Option Value → Bool
is_there None = false
is_there (Some v) = true

kept : (objects : List Object) (o i j : ℕ) (z : ℤ) (v : Value) → pos j ≡ pos i +ℤ z
    → option_map (λ to. V.At (P.Object o to)) (if nat_le j (length (object_at objects o).bytes) then Some j else None) ≡ Some v → IsMoved objects o i z v
unfolding is_there
kept objects o i j z v sum e = by_test (nat_le j (length (object_at objects o).bytes)) refl e
  where
    no-value : None ≡ Some v → ⊥
    no-value f = true≢false (sym (ap is_there f))

    by_test : (b : Bool) → nat_le j (length (object_at objects o).bytes) ≡ b → option_map (λ to. V.At (P.Object o to)) (if b then Some j else None) ≡ Some v → IsMoved objects o i z v
    by_test true is f = record { to = j; is = sym (same_Some (V.At (P.Object o j)) v f); inside = leb-true j (length (object_at objects o).bytes) is; sum = sum }
    by_test false is f = absurd (no-value f)

pub moved-is : (objects : List Object) (o i : ℕ) (z : ℤ) (v : Value) → moved objects (V.At (P.Object o i)) z ≡ Some v → IsMoved objects o i z v
unfolding is_there
moved-is objects o i (pos n) v e = kept objects o i (i + n) (pos n) v refl e
moved-is objects o i (negsuc n) v e = by_test (nat_lt n i) refl e
  where
    no-value : None ≡ Some v → ⊥
    no-value f = true≢false (sym (ap is_there f))

    by_test : (b : Bool) → nat_lt n i ≡ b → option_map (λ to. V.At (P.Object o to)) (kept_in (length (object_at objects o).bytes) (if b then Some (i - suc n) else None)) ≡ Some v → IsMoved objects o i (negsuc n) v
    by_test true is f = kept objects o i (i - suc n) (negsuc n) v (let lt : n < i = ltb-true n i is in omega (arith, ints, lt)) f
    by_test false is f = absurd (no-value f)

-- ---- the words that are added

add-words : (s : Bool) (a size i to : ℕ) → a < 2 ^ 32 → i < 2 ^ 31 → to < 2 ^ 31 → pos to ≡ pos i +ℤ ((if s then cast_signed w32 a else pos a) *ℤ pos size)
    → (i + a * size % 2 ^ 32) % 2 ^ 32 ≡ to
add-words true a size i to ha hi ht e = signed-add a size i to ha hi ht e
add-words false a size i to ha hi ht e = unsigned-add a size i to ht e

sub-words : (s : Bool) (a size i to : ℕ) → a < 2 ^ 32 → i < 2 ^ 31 → to < 2 ^ 31 → pos to ≡ pos i +ℤ neg_ℤ ((if s then cast_signed w32 a else pos a) *ℤ pos size)
    → (i + (2 ^ 32 - a * size % 2 ^ 32)) % 2 ^ 32 ≡ to
sub-words true a size i to ha hi ht e = signed-sub a size i to ha hi ht e
sub-words false a size i to ha hi ht e = unsigned-sub a size i to hi e

-- ---- the code

pub reaches-then : Laws → (x : Activation) (m n : Machine) (k : ℕ) (Q : Machine → Type 0) → steps (graphs x.world) k (On m) ≡ On n → Reaches (graphs x.world) n Q → Reaches (graphs x.world) m Q
reaches-then laws x m n k Q c r = record {
  count = k + r.count;
  machine = r.machine;
  comes = laws.more (graphs x.world) k r.count (On m) ∙ ap (λ (a : Step). steps (graphs x.world) r.count a) c ∙ r.comes;
  holds = r.holds;
}

-- a number times a size
product :
    Laws → (bound : ℕ) (x : Activation) (numbers : Numbers) (spots : List Spot) (size q : ℕ) (d : Code) (u : State) (m : Machine) (a : ℕ) (b : Bool)
    → (size == 1) ≡ b → IsReady x numbers spots d u m → q < d.temps → a < 2 ^ 32 → value_in m.frame q ≡ V.Num a
    → ContainsCode (graph_of x) (if b then value_is q d else with Mul q (constant size d)).code
    → Reaches (graphs x.world) m (HasValue x numbers spots [] (if b then value_is q d else with Mul q (constant size d)) d u m (Some (V.Num (a * size % 2 ^ 32))) u)
unfolding command nothing-done steps
product laws bound x numbers spots size q d u m a true one-is ready given word is holds =
    let one : size ≡ 1 = eqb-true size 1 one-is in
    let same : a ≡ a * size % 2 ^ 32 = (let e : a ≡ a * 1 % 4294967296 = omega (arith, word) in e) ∙ ap (λ (k : ℕ). a * k % 2 ^ 32) (sym one) in
    record {
      count = 0;
      machine = m;
      comes = refl;
      holds = record { done = nothing-done x numbers spots [] d u m ready.related; behind = ready.behind; stands = is ∙ ap V.Num same };
    }
product laws bound x numbers spots size q d u m a false other ready given word is holds =
    let z = constant size d in
    let in-z = before-fresh (graph_of x) (λ r. op.Bin Mul r q (temp_of z)) z.code holds in
    let r = laws.fresh x numbers spots [] d u m (λ t. op.Const t size) (V.Num size) (V.Num size) in-z ready refl (λ rest. refl) in
    let h = r.holds in
    let n = r.machine in
    let kept : value_in n.frame q ≡ value_in m.frame q = h.done.temps q given (λ k e. none-in k (_ ≢ _) e) in
    let g = laws.fresh x numbers h.done.later.spots [] z.code u n (λ t. op.Bin Mul t q (temp_of z)) (V.Num (a * size % 2 ^ 32)) (V.Num (a * size % 2 ^ 32)) holds
    (record { related = h.done.later.related; behind = h.behind; temps = omega (arith, ready.temps) }) refl
    (λ rest. ap (λ (o : Option Value). run.gives z.code.temps o (record n { frame = record n.frame { ops = rest } })) (ap₂ (λ (v w : Value). flow.binary n.objects Mul v w) (kept ∙ is) h.stands)) in
    reaches-then laws x m n r.count (HasValue x numbers spots [] (with Mul q z) d u m (Some (V.Num (a * size % 2 ^ 32))) u) r.comes
    (record {
      count = g.count;
      machine = g.machine;
      comes = g.comes;
      holds = value-then laws x numbers spots [] z (with Mul q z) d u u u m n g.machine (Some (V.Num size)) (Some (V.Num (a * size % 2 ^ 32))) ready.related (omega arith) h g.holds;
    })

pub scaled-later : (size q : ℕ) (d : Code) (b : Bool) → d.temps ≤ (if b then value_is q d else with Mul q (constant size d)).code.temps
scaled-later size q d true = omega arith
scaled-later size q d false = omega arith

product-stands : (spots : List Spot) (n : ℕ) (to : Option ℕ) (m : Machine) → ResultStands spots (Some (V.Num n)) to m → value_in m.frame (unwrap_or to 0) ≡ V.Num n
product-stands spots n None m h = absurd h
product-stands spots n (Some t) m h = h

-- a pointer and a product
moves :
    Laws → (bound : ℕ) (x : Activation) (numbers : Numbers) (spots : List Spot) (k : BinKind) (size p q : ℕ) (d : Code) (u : State) (m : Machine) (o i to a : ℕ)
    → IsReady x numbers spots d u m → p < d.temps → q < d.temps → a < 2 ^ 32 → value_in m.frame q ≡ V.Num a → Stands spots (V.At (P.Object o i)) (value_in m.frame p)
    → (object_at u.objects o).live ≡ true → to ≤ length (object_at u.objects o).bytes
    → ((objects : List Object) (f : ℕ) → flow.binary objects k (V.At (P.Object f i)) (V.Num (a * size % 2 ^ 32)) ≡ Some (V.At (P.Object f to)))
    → ContainsCode (graph_of x) (moved_by k size p q d).code
    → Meets x.world bound m (Gives (V.At (P.Object o to)) u) (λ v. HasValue x numbers spots [] (moved_by k size p q d) d u m (Some v))
unfolding command
moves laws bound x numbers spots k size p q d u m o i to a ready given-p given-q word is st live inside does holds =
    let z = scaled size q d in
    let in-z = before-fresh (graph_of x) (λ t. op.Bin k t p (temp_of z)) z.code holds in
    let r = product laws bound x numbers spots size q d u m a (size == 1) refl ready given-q word is in-z in
    let h = r.holds in
    let n = r.machine in
    let later = h.done.later.spots in
    let kept : value_in n.frame p ≡ value_in m.frame p = h.done.temps p given-p (λ j e. none-in j (_ ≢ _) e) in
    let more : d.temps ≤ z.code.temps = scaled-later size q d (size == 1) in
    let st2 : Stands later (V.At (P.Object o i)) (value_in n.frame p) = subst (λ (w : Value). Stands later (V.At (P.Object o i)) w) (sym kept) (laws.stands spots later (V.At (P.Object o i)) (value_in m.frame p) h.done.later.lasts.more st) in
    let f = st2.1.object in
    let own = (h.done.later.related.matches.memory.holds o f st2.1.size live st2.1.there).own_size in
    meets-later laws x.world bound m n r.count (Gives (V.At (P.Object o to)) u) (λ v. HasValue x numbers spots [] (moved_by k size p q d) d u m (Some v)) r.comes
    (meets-less x.world bound n (Gives (V.At (P.Object o to)) u) (λ v. HasValue x numbers later [] (moved_by k size p q d) z.code u n (Some v)) (λ v. HasValue x numbers spots [] (moved_by k size p q d) d u m (Some v))
    (laws.fresh x numbers later [] z.code u n (λ t. op.Bin k t p (temp_of z)) (V.At (P.Object o to)) (V.At (P.Object f to)) holds
    (record { related = h.done.later.related; behind = h.behind; temps = omega (arith, ready.temps, more) })
    (P.Object f to, record { object = f; size = st2.1.size; there = st2.1.there; inside = omega (arith, inside, own); is = refl }, refl)
    (λ rest. ap (λ (b : Option Value). run.gives z.code.temps b (record n { frame = record n.frame { ops = rest } }))
    (ap₂ (λ (b c : Value). flow.binary n.objects k b c) (st2.2 ∙ ap V.At st2.1.is) (product-stands later (a * size % 2 ^ 32) z.temp n h.stands) ∙ does n.objects f)))
    (λ v w t g. value-then laws x numbers spots [] z (moved_by k size p q d) d u u w m n t (Some (V.Num (a * size % 2 ^ 32))) (Some v) ready.related more h g))

-- ---- the operators

-- a byte of a pointer moves nothing
no-piece : (objects : List Object) (p v : Value) (z : ℤ) → least (U.EndedObject when is_ended objects p ∷ U.PointerArithmetic when is_none (moved objects p z) ∷ U.PointerBytes when is_piece v ∷ []) ≡ None → is_piece v ≡ false
no-piece objects p v z e =
    let a = first-false U.EndedObject (is_ended objects p) (U.PointerArithmetic when is_none (moved objects p z) ∷ U.PointerBytes when is_piece v ∷ []) e in
    let b = first-false U.PointerArithmetic (is_none (moved objects p z)) (U.PointerBytes when is_piece v ∷ []) a.1 in
    (first-false U.PointerBytes (is_piece v) [] b.1).0

lives : (objects : List Object) (o i : ℕ) (v : Value) (z : ℤ) → least (U.EndedObject when is_ended objects (V.At (P.Object o i)) ∷ U.PointerArithmetic when is_none (moved objects (V.At (P.Object o i)) z) ∷ U.PointerBytes when is_piece v ∷ []) ≡ None → (object_at objects o).live ≡ true
lives objects o i v z e =
    not-false (object_at objects o).live (first-false U.EndedObject (is_ended objects (V.At (P.Object o i))) (U.PointerArithmetic when is_none (moved objects (V.At (P.Object o i)) z) ∷ U.PointerBytes when is_piece v ∷ []) e).0

-- what the words of an operation do to an offset
abbrev DoesWords : BinKind → (ℤ → ℤ) → Type 0
DoesWords k sign =
    (s : Bool) (a size i to : ℕ) → a < 2 ^ 32 → i < 2 ^ 31 → to < 2 ^ 31 → pos to ≡ pos i +ℤ sign ((if s then cast_signed w32 a else pos a) *ℤ pos size) →
    (objects : List Object) (f : ℕ) → flow.binary objects k (V.At (P.Object f i)) (V.Num (a * size % 2 ^ 32)) ≡ Some (V.At (P.Object f to))

add-does : DoesWords Add (λ z. z)
add-does s a size i to ha hi ht e = λ objects f. ap (λ (j : ℕ). Some (V.At (P.Object f j))) (add-words s a size i to ha hi ht e)

sub-does : DoesWords Sub neg_ℤ
sub-does s a size i to ha hi ht e = λ objects f. ap (λ (j : ℕ). Some (V.At (P.Object f j))) (sub-words s a size i to ha hi ht e)

-- a pointer that moves nowhere
stays-put :
    (bound : ℕ) (x : Activation) (at : Site) (records : List RecordValue) (left : QType) (sign : ℤ → ℤ) (kind : IntKind) (v w : Value) (u : State) (m : Machine) (R : Option Value → State → Machine → Type 0)
    → Shows x.world u m → ((objects : List Object) (z : ℤ) → (moved objects v z ≡ None) ⊎ (is_piece w ≡ true))
    → Meets x.world bound m ((advance_elements at records left sign v kind w >>= λ result. give (Some result)) u) R
unfolding advance_elements objects_now look need give stop wrong ◌>>=◌ go_on
stays-put bound x at records left sign kind v w u m R shows none = by_layout (layout_of records (type_of left))
  where
    by_layout : (r : Option Layout)
        → Meets x.world bound m (((need r >>= λ layout. (objects_now >>= λ objects. judge at (U.EndedObject when is_ended objects v ∷ U.PointerArithmetic when is_none (moved objects v (sign (unwrap_or (integer kind w) (pos 0) *ℤ pos layout.size))) ∷ U.PointerBytes when is_piece w ∷ []) >>= λ done. need (moved objects v (sign (unwrap_or (integer kind w) (pos 0) *ℤ pos layout.size))))) >>= λ result. give (Some result)) u) R
    by_layout None = tt
    by_layout (Some layout) =
        let z = sign (unwrap_or (integer kind w) (pos 0) *ℤ pos layout.size) in
        judged-then x.world bound m at (U.EndedObject when is_ended u.objects v ∷ U.PointerArithmetic when is_none (moved u.objects v z) ∷ U.PointerBytes when is_piece w ∷ []) (need (moved u.objects v z)) (λ result. give (Some result)) u R shows (λ fine.
        elim (none u.objects z) [
          | inl e ↦ subst (λ (r : Option Value). Meets x.world bound m ((need r >>= λ result. give (Some result)) u) R) (sym e) tt
          | inr e ↦ absurd (true≢false (sym e ∙ no-piece u.objects v w z fine))
        ])

-- behind a pointer and a number
elements :
    Laws → (bound : ℕ) (x : Activation) (numbers : Numbers) (spots : List Spot) (at : Site) (k : BinKind) (sign : ℤ → ℤ) (ty : CType) (constant volatile : Bool) (kind : IntKind) (p q : ℕ) (d : Code) (v w : Value) (u : State) (m : Machine)
    → DoesWords k sign → p < d.temps → q < d.temps → IsPointer v → IsNumberOf kind w
    → BothStand x numbers spots p q d v w u m → ContainsCode (graph_of x) (moved_by k (bytes_of x.home.tree.records ty) p q d).code
    → Meets x.world bound m ((advance_elements at x.home.tree.records (Qualified ty constant volatile) sign v kind w >>= λ result. give (Some result)) u) (HasValue x numbers spots [] (moved_by k (bytes_of x.home.tree.records ty) p q d) d u m)
unfolding advance_elements objects_now look need give stop wrong ◌>>=◌ go_on
elements laws bound x numbers spots at k sign ty constant volatile kind p q d (V.At (P.Object o i)) (V.Num a) u m does given-p given-q tv tw both holds = by_layout (layout_of x.home.tree.records ty) refl
  where
    place : Value
    place = V.At (P.Object o i)

    by_moved : (layout : Layout) → (object_at u.objects o).live ≡ true → ContainsCode (graph_of x) (moved_by k layout.size p q d).code
        → (r : Option Value) → moved u.objects place (sign ((if is_signed_kind kind then cast_signed w32 a else pos a) *ℤ pos layout.size)) ≡ r
        → Meets x.world bound m ((need r >>= λ result. give (Some result)) u) (HasValue x numbers spots [] (moved_by k layout.size p q d) d u m)
    by_moved layout live within None e = tt
    by_moved layout live within (Some r) e =
        let z = sign ((if is_signed_kind kind then cast_signed w32 a else pos a) *ℤ pos layout.size) in
        let h = moved-is u.objects o i z r e in
        let less = both.ready.related.matches.small o in
        let word = word-of kind a tw in
        let own = (both.ready.related.matches.memory.holds o both.first.1.object both.first.1.size live both.first.1.there).own_size in
        subst (λ (result : Value). Meets x.world bound m (Gives (Some result) u) (HasValue x numbers spots [] (moved_by k layout.size p q d) d u m)) (sym h.is)
        (moves laws bound x numbers spots k layout.size p q d u m o i h.to a both.ready given-p given-q word both.second both.first live h.inside
        (does (is_signed_kind kind) a layout.size i h.to word (omega (arith, both.first.1.inside, own, less)) (omega (arith, h.inside, less)) h.sum) within)

    by_layout : (r : Option Layout) → layout_of x.home.tree.records ty ≡ r
        → Meets x.world bound m (((need r >>= λ layout. (objects_now >>= λ objects. judge at (U.EndedObject when is_ended objects place ∷ U.PointerArithmetic when is_none (moved objects place (sign ((if is_signed_kind kind then cast_signed w32 a else pos a) *ℤ pos layout.size))) ∷ U.PointerBytes when is_piece (V.Num a) ∷ []) >>= λ done. need (moved objects place (sign ((if is_signed_kind kind then cast_signed w32 a else pos a) *ℤ pos layout.size))))) >>= λ result. give (Some result)) u)
        (HasValue x numbers spots [] (moved_by k (bytes_of x.home.tree.records ty) p q d) d u m)
    by_layout None e = tt
    by_layout (Some layout) e =
        let size-is : bytes_of x.home.tree.records ty ≡ layout.size = ap (λ (r : Option Layout). unwrap_or (option_map (λ (l : Layout). l.size) r) 0) e in
        let z = sign ((if is_signed_kind kind then cast_signed w32 a else pos a) *ℤ pos layout.size) in
        subst (λ (n : ℕ). Meets x.world bound m (((judge at (U.EndedObject when is_ended u.objects place ∷ U.PointerArithmetic when is_none (moved u.objects place z) ∷ U.PointerBytes when is_piece (V.Num a) ∷ []) >>= λ done. need (moved u.objects place z)) >>= λ result. give (Some result)) u) (HasValue x numbers spots [] (moved_by k n p q d) d u m)) (sym size-is)
        (judged-then x.world bound m at (U.EndedObject when is_ended u.objects place ∷ U.PointerArithmetic when is_none (moved u.objects place z) ∷ U.PointerBytes when is_piece (V.Num a) ∷ []) (need (moved u.objects place z)) (λ result. give (Some result)) u (HasValue x numbers spots [] (moved_by k layout.size p q d) d u m) both.ready.related.matches.shows (λ none.
        by_moved layout (lives u.objects o i (V.Num a) z none) (subst (λ (n : ℕ). ContainsCode (graph_of x) (moved_by k n p q d).code) size-is holds) (moved u.objects place z) refl))
elements laws bound x numbers spots at k sign ty constant volatile kind p q d (V.At (P.Object o i)) (V.Piece r j) u m does given-p given-q tv tw both holds =
    stays-put bound x at x.home.tree.records (Qualified ty constant volatile) sign kind (V.At (P.Object o i)) (V.Piece r j) u m (HasValue x numbers spots [] (moved_by k (bytes_of x.home.tree.records ty) p q d) d u m) both.ready.related.matches.shows (λ objects z. inr refl)
elements laws bound x numbers spots at k sign ty constant volatile kind p q d (V.At (P.Object o i)) V.Undefined u m does given-p given-q tv tw both holds = absurd tw
elements laws bound x numbers spots at k sign ty constant volatile kind p q d (V.At (P.Object o i)) V.Null u m does given-p given-q tv tw both holds = absurd tw
elements laws bound x numbers spots at k sign ty constant volatile kind p q d (V.At (P.Object o i)) (V.At r) u m does given-p given-q tv tw both holds = absurd tw
elements laws bound x numbers spots at k sign ty constant volatile kind p q d (V.At (P.Function f)) w u m does given-p given-q tv tw both holds =
    stays-put bound x at x.home.tree.records (Qualified ty constant volatile) sign kind (V.At (P.Function f)) w u m (HasValue x numbers spots [] (moved_by k (bytes_of x.home.tree.records ty) p q d) d u m) both.ready.related.matches.shows (λ objects z. inl refl)
elements laws bound x numbers spots at k sign ty constant volatile kind p q d V.Null w u m does given-p given-q tv tw both holds =
    stays-put bound x at x.home.tree.records (Qualified ty constant volatile) sign kind V.Null w u m (HasValue x numbers spots [] (moved_by k (bytes_of x.home.tree.records ty) p q d) d u m) both.ready.related.matches.shows (λ objects z. inl refl)
elements laws bound x numbers spots at k sign ty constant volatile kind p q d V.Undefined w u m does given-p given-q tv tw both holds = absurd tv
elements laws bound x numbers spots at k sign ty constant volatile kind p q d (V.Num n) w u m does given-p given-q tv tw both holds = absurd tv
elements laws bound x numbers spots at k sign ty constant volatile kind p q d (V.Piece r j) w u m does given-p given-q tv tw both holds = absurd tv

pub pointer-sum : Laws → (bound : ℕ) (left : QType) (kind : IntKind) → Applies bound B.Add (PointerTo left) (Int kind)
unfolding source.binary source.pointer_and_number
pointer-sum laws bound (Qualified ty constant volatile) kind x numbers spots at p q d v w u m given-p given-q tv tw both holds =
    elements laws bound x numbers spots at Add (λ z. z) ty constant volatile kind p q d v w u m add-does given-p given-q tv tw both holds

pub pointer-difference : Laws → (bound : ℕ) (left : QType) (kind : IntKind) → Applies bound B.Subtract (PointerTo left) (Int kind)
unfolding source.binary source.pointer_and_number
pointer-difference laws bound (Qualified ty constant volatile) kind x numbers spots at p q d v w u m given-p given-q tv tw both holds =
    elements laws bound x numbers spots at Sub neg_ℤ ty constant volatile kind p q d v w u m sub-does given-p given-q tv tw both holds

pub number-sum : Laws → (bound : ℕ) (right : QType) (kind : IntKind) → Applies bound B.Add (Int kind) (PointerTo right)
unfolding source.binary source.number_and_pointer
number-sum laws bound (Qualified ty constant volatile) kind x numbers spots at p q d v w u m given-p given-q tv tw both holds =
    elements laws bound x numbers spots at Add (λ z. z) ty constant volatile kind q p d w v u m add-does given-q given-p tw tv
    (record { ready = both.ready; first = both.second; second = both.first }) holds

-- The code of a well-typed expression stays in range.
use Rattle.std.proofs.Common.{◌≡◌, ℕ, ◌+◌, ◌<◌, ◌≤◌, ◌==◌, ◌⊎◌, inl, inr, Bool, true, false, if◌then◌else◌, Option, Some, None, List, refl, ap, sym, subst, ◌∙◌, arith}
use Rattle.std.specs.Prelude.{slice_get}
use Rattle.std.specs.List.{AllByRecursion}
use Rattle.pw_value.specs.declared.value.Kind.{Kind}
use Rattle.pw_types.specs.Kinds.{is_record}
use Rattle.pw_types.specs.TypeTrees.{CType, Void, Int, Pointer, Array, Function as FunctionType, Record, QType, QTypes, NoType, OneType, type_of, RecordValue}
use Rattle.pw_types.specs.TypedTrees.{Expression, Node, Form, type_at, Number, Str, Local, Global, Function, Unary, Binary, Logic, Cond, Comma, Assign, Compound, Step, Cast, Decay, Member, Deref, Address, Call, CallValue, Expressions, NoExpression, OneExpression, Hidden, LocalValue, ModuleValue}
use Rattle.pw_types.specs.declared.tree.UnaryOperator.{UnaryOperator}
use Rattle.pw_types.specs.declared.tree.UnaryOperator.TheVariants as unary
use Rattle.pw_types.specs.declared.tree.BinaryOperator.{BinaryOperator}
use Rattle.pw_types.specs.declared.tree.BinaryOperator.TheVariants as binary
use Rattle.pw_types.specs.declared.tree.LogicOperator.TheVariants as logic
use Rattle.pw_types.specs.WellTyped.{promoted_type, type_in, IsScalar, IsPromoted, IsArithmetic, IsAddressed, FitsUnary, FitsCast, IsModifiable, IsFunctionType, IsLvalueForm, Decays, IsTyped, AreArguments}
use Rattle.pw_flow.specs.declared.flow.Op.{Op}
use Rattle.pw_flow.specs.declared.flow.Op.TheVariants as op
use Rattle.pw_flow.specs.declared.flow.BinKind.{BinKind}
use Rattle.pw_flow.specs.declared.flow.BinKind.TheVariants.{Add, Sub, Mul, DivS, Eq, Ne}
use Rattle.pw_flow.specs.declared.flow.UnKind.TheVariants.{Neg, Not}
use Rattle.pw_flow.specs.declared.flow.ExtKind.{ExtKind}
use Rattle.pw_flow.specs.declared.flow.End.TheVariants.{Jump, Branch}
use Rattle.pw_lower.specs.declared.code.Code.{Code}
use Rattle.pw_lower.specs.declared.place.LocalPlace.{LocalPlace}
use Rattle.pw_lower.specs.declared.place.LocalPlace.TheVariants.{Temp, Slot}
use Rattle.pw_lower.specs.declared.place.Target.{Target}
use Rattle.pw_lower.specs.declared.place.Target.TheVariants.{Kept, Named, Led}
use Rattle.pw_lower.specs.Codes.{Lowered, lowered_as, temp_of, emit, fresh, constant, reserve, reserve_temps, cut_here, value_is}
use Rattle.pw_lower.specs.Places.{place_at}
use Rattle.pw_lower.specs.Operators.{kind_of, with, scaled, moved_by, distance, on_numbers, operation_of, is_turned, sum_or, combined, is_signed, target_size, truth_in, unary_on, extension, extending, extended, converted, step_operator, is_behind, bytes_of, unit_of}
use Rattle.pw_lower.specs.Expressions.{Home, Placed, full_name, shape_at, read_target, read, write, further, address_of_global, address_of_local, target_of_local, value_at, value_of_global, value_of_local, stored, copied, scalar_kind, updated, fork, in_result, decides, says, gives, is_void, cast_to, lower, place, arguments, Arguments}
use Rattle.pw_law_lower.specs.Ranges.{IsInRange}
use Rattle.pw_law_lower.proofs.Sound.{below_more_all, Sound, Goes, Made, stays, goes_then, made_then, less, emits-in, temps-in, blocks-in, cuts-in, adds-in, constant-in}

-- ---- operators

pub with-in : (slots n : ℕ) (k : BinKind) (p : ℕ) (c : Code) (x : Lowered) → Made slots c 0 x → p ≤ c.temps → n ≤ 1 → Made slots c n (with k p x)
with-in slots n k p c x m h l =
    made_then m.goes (adds-in slots n (λ t. op.Bin k t p (temp_of x)) x.code m.goes.sound l ((omega (arith, h, m.goes.temps), (omega (arith, m.reach), tt)), omega arith, tt))

scaled-in : (slots : ℕ) (b : Bool) (size n : ℕ) (c : Code) → Sound slots c → n ≤ c.temps → Made slots c 0 (if b then value_is n c else with Mul n (constant size c))
scaled-in slots true size n c s h = record { goes = stays slots c s; reach = omega (arith, h) }
scaled-in slots false size n c s h = with-in slots 0 Mul n c (constant size c) (constant-in slots 0 size c s (omega arith)) h (omega arith)

moved_by-in : (slots : ℕ) (k : BinKind) (size p n : ℕ) (c : Code) → Sound slots c → p ≤ c.temps → n ≤ c.temps → Made slots c 1 (moved_by k size p n c)
moved_by-in slots k size p n c s h i = with-in slots 1 k p c (scaled size n c) (scaled-in slots (size == 1) size n c s i) h (omega arith)

in_elements-in : (slots : ℕ) (b : Bool) (size : ℕ) (c : Code) (x : Lowered) → Made slots c 1 x → Made slots c 1 (if b then x else with DivS (temp_of x) (constant size x.code))
in_elements-in slots true size c x m = m
in_elements-in slots false size c x m =
    made_then m.goes (with-in slots 1 DivS (temp_of x) x.code (constant size x.code) (constant-in slots 0 size x.code m.goes.sound (omega arith)) (omega (arith, m.reach)) (omega arith))

bin-in : (slots : ℕ) (k : BinKind) (p q : ℕ) (c : Code) → Sound slots c → p ≤ c.temps → q ≤ c.temps → Made slots c 1 (fresh (λ t. op.Bin k t p q) c)
bin-in slots k p q c s h i = adds-in slots 1 (λ t. op.Bin k t p q) c s (omega arith) ((omega (arith, h), (omega (arith, i), tt)), omega arith, tt)

distance-in : (slots size p q : ℕ) (c : Code) → Sound slots c → p ≤ c.temps → q ≤ c.temps → Made slots c 1 (distance size p q c)
distance-in slots size p q c s h i = in_elements-in slots (size == 1) size c (fresh (λ t. op.Bin Sub t p q) c) (bin-in slots Sub p q c s h i)

turned-in : (slots : ℕ) (b : Bool) (k : BinKind) (p q : ℕ) (c : Code) → Sound slots c → p ≤ c.temps → q ≤ c.temps → Made slots c 1 (if b then fresh (λ t. op.Bin k t q p) c else fresh (λ t. op.Bin k t p q) c)
turned-in slots true k p q c s h i = bin-in slots k q p c s i h
turned-in slots false k p q c s h i = bin-in slots k p q c s h i

on_numbers-in : (slots : ℕ) (o : BinaryOperator) (v : Bool) (p q : ℕ) (c : Code) → Sound slots c → p ≤ c.temps → q ≤ c.temps → Made slots c 1 (on_numbers o v p q c)
on_numbers-in slots o v p q c s h i = turned-in slots (is_turned o) (operation_of o v) p q c s h i

sum_or-in : (slots : ℕ) (o : BinaryOperator) (v : Bool) (left right : Option ℕ) (p q : ℕ) (c : Code) → Sound slots c → p ≤ c.temps → q ≤ c.temps → Made slots c 1 (sum_or o v left right p q c)
sum_or-in slots binary.Add v (Some size) right p q c s h i = moved_by-in slots Add size p q c s h i
sum_or-in slots binary.Add v None (Some size) p q c s h i = moved_by-in slots Add size q p c s i h
sum_or-in slots binary.Add v None None p q c s h i = on_numbers-in slots binary.Add v p q c s h i
sum_or-in slots binary.Subtract v (Some size) (Some other) p q c s h i = distance-in slots size p q c s h i
sum_or-in slots binary.Subtract v (Some size) None p q c s h i = moved_by-in slots Sub size p q c s h i
sum_or-in slots binary.Subtract v None right p q c s h i = on_numbers-in slots binary.Subtract v p q c s h i
sum_or-in slots o v left right p q c s h i = on_numbers-in slots o v p q c s h i

extended-in : (slots n : ℕ) (k : Option ExtKind) (t : ℕ) (c : Code) → Sound slots c → n ≤ 1 → t + n ≤ c.temps → Made slots c n (extended k t c)
extended-in slots n None t c s l h = record { goes = stays slots c s; reach = h }
extended-in slots n (Some k) t c s l h = adds-in slots n (extending k t) c s l ((omega (arith, h), tt), omega arith, tt)

converted-in : (slots n : ℕ) (from to : Option Kind) (c : Code) (x : Lowered) → n ≤ 1 → Made slots c n x → Made slots c n (converted from to x)
converted-in slots n None to c x l m = m
converted-in slots n (Some from) None c x l m = m
converted-in slots n (Some from) (Some to) c x l m = made_then m.goes (extended-in slots n (extension from to) (temp_of x) x.code m.goes.sound l m.reach)

truth_in-in : (slots r t : ℕ) (c : Code) → Sound slots c → r < c.temps → t ≤ c.temps → Goes slots c (truth_in r t c)
truth_in-in slots r t c s h i =
    let m = constant-in slots 1 0 c s (omega arith) in
    let x = constant 0 c in
    goes_then m.goes (emits-in slots (op.Bin Ne r t (temp_of x)) x.code m.goes.sound ((omega (arith, i), (omega (arith, m.reach), tt)), omega (arith, h), tt))

unary_on-in : (slots : ℕ) (o : UnaryOperator) (t : ℕ) (c : Code) → Sound slots c → t < c.temps → Made slots c 1 (unary_on o t c)
unary_on-in slots unary.Plus t c s h = record { goes = stays slots c s; reach = omega (arith, h) }
unary_on-in slots unary.Minus t c s h = adds-in slots 1 (λ r. op.Un Neg r t) c s (omega arith) ((omega (arith, h), tt), omega arith, tt)
unary_on-in slots unary.Complement t c s h = adds-in slots 1 (λ r. op.Un Not r t) c s (omega arith) ((omega (arith, h), tt), omega arith, tt)
unary_on-in slots unary.Not t c s h = with-in slots 1 Eq t c (constant 0 c) (constant-in slots 0 0 c s (omega arith)) (omega (arith, h)) (omega arith)

-- ---- lvalues

abbrev TargetIn : ℕ → Target → Type 0
TargetIn temps (Kept x) = x < temps
TargetIn temps (Named g) = Unit {0}
TargetIn temps (Led p) = p < temps

pub target_more : (n m : ℕ) (t : Target) → n ≤ m → TargetIn n t → TargetIn m t
target_more n m (Kept x) l h = omega (arith, l, h)
target_more n m (Named g) l h = tt
target_more n m (Led p) l h = omega (arith, l, h)

pub record PlacedIn (slots : ℕ) (c : Code) (p : Placed) : Type 0 where
  pub goes : Goes slots c p.code
  pub target : TargetIn p.code.temps p.target

read-in : (slots : ℕ) (k : Kind) (target : Target) (c : Code) → Sound slots c → TargetIn c.temps target → Made slots c 1 (read_target k target c)
read-in slots k (Kept x) c s h = adds-in slots 1 (λ t. op.Copy t x) c s (omega arith) ((omega (arith, h), tt), omega arith, tt)
read-in slots k (Named g) c s h = adds-in slots 1 (λ t. op.LoadG t g k) c s (omega arith) (tt, omega arith, tt)
read-in slots k (Led p) c s h = adds-in slots 1 (λ t. op.Load k t p) c s (omega arith) ((omega (arith, h), tt), omega arith, tt)

write-in : (slots : ℕ) (k : Kind) (target : Target) (v : ℕ) (c : Code) → Sound slots c → TargetIn c.temps target → v < c.temps → Goes slots c (write k target v c)
write-in slots k (Kept x) v c s h i = emits-in slots (op.Copy x v) c s ((i, tt), h, tt)
write-in slots k (Named g) v c s h i = emits-in slots (op.StoreG g v k) c s ((i, tt), tt, tt)
write-in slots k (Led p) v c s h i = emits-in slots (op.Store k p v) c s ((h, (i, tt)), tt, tt)

further-by : (slots n : ℕ) (b : Bool) (offset : ℕ) (c : Code) (x : Lowered) → n ≤ 1 → Made slots c n x → Made slots c n (if b then x else with Add (temp_of x) (constant offset x.code))
further-by slots n true offset c x l m = m
further-by slots n false offset c x l m =
    made_then m.goes (with-in slots n Add (temp_of x) x.code (constant offset x.code) (constant-in slots 0 offset x.code m.goes.sound (omega arith)) (omega (arith, m.reach)) l)

further-in : (slots n offset : ℕ) (c : Code) (x : Lowered) → n ≤ 1 → Made slots c n x → Made slots c n (further offset x)
further-in slots n offset c x l m = further-by slots n (offset == 0) offset c x l m

-- a place of a local in a function with so many slots and temporaries
abbrev pub IsPlace : ℕ → ℕ → LocalPlace → Type 0
IsPlace slots temps (Temp t) = t < temps
IsPlace slots temps (Slot s) = s < slots

pub address_of_local-in : (slots : ℕ) (p : LocalPlace) (c : Code) → Sound slots c → IsPlace slots c.temps p → Made slots c 1 (address_of_local p c)
address_of_local-in slots (Temp x) c s h = record { goes = stays slots c s; reach = omega (arith, h) }
address_of_local-in slots (Slot k) c s h = adds-in slots 1 (λ t. op.AddrSlot t k) c s (omega arith) (tt, omega arith, (h, tt))

pub target_of_local-in : (slots : ℕ) (p : LocalPlace) (c : Code) → Sound slots c → IsPlace slots c.temps p → PlacedIn slots c (target_of_local p c)
target_of_local-in slots (Temp x) c s h = record { goes = stays slots c s; target = h }
target_of_local-in slots (Slot k) c s h =
    let m = address_of_local-in slots (Slot k) c s h in record { goes = m.goes; target = omega (arith, m.reach) }

value_at-in : (slots n : ℕ) (k : Option Kind) (c : Code) (x : Lowered) → n ≤ 1 → Made slots c n x → Made slots c n (value_at k x)
value_at-in slots n None c x l m = m
value_at-in slots n (Some k) c x l m =
    made_then m.goes (adds-in slots n (λ t. op.Load k t (temp_of x)) x.code m.goes.sound l ((omega (arith, m.reach), tt), omega arith, tt))

pub global-in : (slots : ℕ) (g : List ℕ) (c : Code) → Sound slots c → Made slots c 1 (address_of_global g c)
global-in slots g c s = adds-in slots 1 (λ t. op.AddrGlobal t g 0) c s (omega arith) (tt, omega arith, tt)

value_of_global-in : (slots : ℕ) (k : Option Kind) (g : List ℕ) (c : Code) → Sound slots c → Made slots c 1 (value_of_global k g c)
value_of_global-in slots None g c s = global-in slots g c s
value_of_global-in slots (Some k) g c s = read-in slots k (Named g) c s tt

value_of_local-in : (slots : ℕ) (k : Option Kind) (p : LocalPlace) (c : Code) → Sound slots c → IsPlace slots c.temps p → Made slots c 1 (value_of_local k p c)
value_of_local-in slots None (Temp x) c s h = record { goes = stays slots c s; reach = omega (arith, h) }
value_of_local-in slots (Some k) (Temp x) c s h = read-in slots k (Kept x) c s h
value_of_local-in slots None (Slot q) c s h = address_of_local-in slots (Slot q) c s h
value_of_local-in slots (Some k) (Slot q) c s h = value_at-in slots 1 (Some k) c (address_of_local (Slot q) c) (omega arith) (address_of_local-in slots (Slot q) c s h)

-- ---- assignments

pub stored-in : (slots : ℕ) (k : Kind) (target : Target) (c : Code) (x : Lowered) → Made slots c 1 x → TargetIn x.code.temps target → Made slots c 1 (stored k target x)
stored-in slots k target c x m h =
    let g = write-in slots k target (temp_of x) x.code m.goes.sound h (omega (arith, m.reach)) in
    record { goes = goes_then m.goes g; reach = omega (arith, m.reach, g.temps) }

pub copied-in : (slots : ℕ) (records : List RecordValue) (ty : CType) (to : ℕ) (c : Code) (x : Lowered) → Made slots c 1 x → to < c.temps → Made slots c 1 (copied records ty to x)
copied-in slots records ty to c x m h =
    let g = emits-in slots (op.Move to (temp_of x) (bytes_of records ty) (unit_of records ty)) x.code m.goes.sound ((omega (arith, h, m.goes.temps), (omega (arith, m.reach), tt)), tt, tt) in
    record { goes = goes_then m.goes g; reach = omega (arith, h, m.goes.temps) }

updated-in : (slots : ℕ) (records : List RecordValue) (o : BinaryOperator) (ty right : CType) (own : Kind) (target : Target) (old : ℕ) (c : Code) (x : Lowered)
    → Made slots c 0 x → TargetIn c.temps target → old < c.temps → Made slots c 1 (updated records o ty right own target old x)
updated-in slots records o ty right own target old c x m h i =
    let s = combined records o ty right old (temp_of x) x.code in
    let v = converted (kind_of ty) (Some own) s in
    let one = sum_or-in slots o (is_signed ty) (target_size records ty) (target_size records right) old (temp_of x) x.code m.goes.sound (omega (arith, i, m.goes.temps)) (omega (arith, m.reach)) in
    let two = converted-in slots 1 (kind_of ty) (Some own) x.code s (omega arith) one in
    made_then m.goes (stored-in slots own target x.code v two (target_more c.temps v.code.temps target (omega (arith, m.goes.temps, two.goes.temps)) h))

step_value-in : (slots : ℕ) (b : Bool) (old : ℕ) (c : Code) (x : Lowered) → Made slots c 1 x → old < c.temps → Made slots c 1 (if b then record x { temp = Some old } else x)
step_value-in slots true old c x m h = record { goes = m.goes; reach = omega (arith, h, m.goes.temps) }
step_value-in slots false old c x m h = m

-- ---- types with values

-- 1 for a type that has values
abbrev pub worth : CType → ℕ
worth ty = if is_void ty then 0 else 1

worth_by : (b : Bool) → (if b then 0 else 1) ≤ 1
worth_by true = omega arith
worth_by false = omega arith

pub worth_le : (ty : CType) → worth ty ≤ 1
worth_le ty = worth_by (is_void ty)

pub scalar_worth : (ty : CType) → IsScalar ty → worth ty ≡ 1
scalar_worth (Int k) h = refl
scalar_worth (Pointer q) h = refl
scalar_worth Void h = absurd h
scalar_worth (Array q n) h = absurd h
scalar_worth (FunctionType q ps) h = absurd h
scalar_worth (Record n) h = absurd h

pub promoted_worth : (ty : CType) → IsPromoted ty → worth ty ≡ 1
promoted_worth (Int k) h = refl
promoted_worth (Pointer q) h = absurd h
promoted_worth Void h = absurd h
promoted_worth (Array q n) h = absurd h
promoted_worth (FunctionType q ps) h = absurd h
promoted_worth (Record n) h = absurd h

arithmetic_worth : (ty : CType) → IsArithmetic ty → worth ty ≡ 1
arithmetic_worth (Int k) h = refl
arithmetic_worth (Pointer q) h = absurd h
arithmetic_worth Void h = absurd h
arithmetic_worth (Array q n) h = absurd h
arithmetic_worth (FunctionType q ps) h = absurd h
arithmetic_worth (Record n) h = absurd h

unary_worth : (o : UnaryOperator) (operand result : CType) → FitsUnary o operand result → worth operand ≡ 1
unary_worth unary.Not operand result h = scalar_worth operand h.0
unary_worth unary.Plus operand result h = promoted_worth operand h.0
unary_worth unary.Minus operand result h = promoted_worth operand h.0
unary_worth unary.Complement operand result h = promoted_worth operand h.0

assigned_worth : (records : List RecordValue) (e : Expression) → IsModifiable records e → worth (type_in e) ≡ 1
assigned_worth records e h = elim h.assigned [ inl s ↦ scalar_worth (type_in e) s | inr r ↦ ap worth r.1 ]

function_worth : (ty : CType) → IsFunctionType ty → worth ty ≡ 1
function_worth ty h = ap worth h.2

decays_worth : (e : Expression) (result : CType) → Decays e result → worth (type_in e) ≡ 1
decays_worth e result h = elim h [ inl a ↦ ap worth a.1.2 | inr f ↦ function_worth (type_in e) f.1 ]

-- with a value below the count of temporaries
pub valued : (slots : ℕ) (c : Code) (x : Lowered) (ty : CType) → worth ty ≡ 1 → Made slots c (worth ty) x → Made slots c 1 x
valued slots c x ty e m = subst (λ (n : ℕ). Made slots c n x) e m

-- of at most that worth
valued_of : (slots : ℕ) (c : Code) (x : Lowered) (ty : CType) → Made slots c 1 x → Made slots c (worth ty) x
valued_of slots c x ty m = less 1 (worth ty) (worth_le ty) m

pub any_value : (slots : ℕ) (c : Code) (x : Lowered) (ty : CType) → Made slots c (worth ty) x → Made slots c 0 x
any_value slots c x ty m = less (worth ty) 0 (omega arith) m

as_type : (slots : ℕ) (c : Code) (x : Lowered) (a b : CType) → a ≡ b → Made slots c (worth a) x → Made slots c (worth b) x
as_type slots c x a b e m = subst (λ (ty : CType). Made slots c (worth ty) x) e m

cast-in : (slots : ℕ) (to from : CType) (c : Code) (x : Lowered) → FitsCast from to → Made slots c (worth from) x → Made slots c (worth to) (cast_to to from x)
cast-in slots Void from c x h m = record { goes = m.goes; reach = omega arith }
cast-in slots (Int k) from c x h m = converted-in slots 1 (kind_of from) (kind_of (Int k)) c x (omega arith) (valued slots c x from (arithmetic_worth from h) m)
cast-in slots (Pointer q) from c x h m = converted-in slots 1 (kind_of from) (kind_of (Pointer q)) c x (omega arith) (valued slots c x from (scalar_worth from h) m)
cast-in slots (Array q n) from c x h m = absurd h
cast-in slots (FunctionType q ps) from c x h m = absurd h
cast-in slots (Record n) from c x h m = absurd h

-- ---- `&&`, `||`, `?:`, assignments, calls

turn-in : (slots to number : ℕ) (c : Code) → Sound slots c → to < c.blocks → Goes slots c (cut_here (Jump to) number c)
turn-in slots to number c s h = cuts-in slots (Jump to) number c.depth c s h

fork-in : (slots n : ℕ) (c : Code) (x : Lowered) → Goes slots c x.code → temp_of x < x.code.temps + n → Goes slots c (fork n x).code
fork-in slots n c x g h =
    let one = temps-in slots n x.code g.sound in
    let two = blocks-in slots 3 (reserve_temps n x.code) one.sound in
    goes_then g (goes_then one (goes_then two (cuts-in slots (Branch (temp_of x) x.code.blocks (x.code.blocks + 1)) x.code.blocks x.code.depth (reserve 3 (reserve_temps n x.code)) two.sound (h, omega arith, omega arith))))

and-in :
    (slots : ℕ) (c : Code) (x : Lowered) (second : Code → Lowered) → Made slots c 0 x → ((d : Code) → Goes slots c d → Made slots d 0 (second d))
    → Made slots c 1
    (let f = fork 1 x in
    let yes = cut_here (Jump f.join) f.if_not (decides f.result (second f.code)) in
    in_result f.result (cut_here (Jump f.join) f.join (says f.result 0 yes)))
and-in slots c x second m h =
    let f = fork 1 x in
    let gf = fork-in slots 1 c x m.goes (omega (arith, m.reach)) in
    let my = h f.code gf in
    let y = second f.code in
    let d = decides f.result y in
    let gd = truth_in-in slots f.result (temp_of y) y.code my.goes.sound (omega (arith, my.goes.temps)) (omega (arith, my.reach)) in
    let yes = cut_here (Jump f.join) f.if_not d in
    let gy = turn-in slots f.join f.if_not d gd.sound (omega (arith, my.goes.blocks, gd.blocks)) in
    let told = says f.result 0 yes in
    let gt = emits-in slots (op.Const f.result 0) yes gy.sound (tt, omega (arith, my.goes.temps, gd.temps, gy.temps), tt) in
    let ge = turn-in slots f.join f.join told gt.sound (omega (arith, my.goes.blocks, gd.blocks, gy.blocks, gt.blocks)) in
    record {
      goes = goes_then gf (goes_then my.goes (goes_then gd (goes_then gy (goes_then gt ge))));
      reach = omega (arith, my.goes.temps, gd.temps, gy.temps, gt.temps, ge.temps);
    }

or-in :
    (slots : ℕ) (c : Code) (x : Lowered) (second : Code → Lowered) → Made slots c 0 x → ((d : Code) → Goes slots c d → Made slots d 0 (second d))
    → Made slots c 1
    (let f = fork 1 x in
    let yes = cut_here (Jump f.join) f.if_not (says f.result 1 f.code) in
    in_result f.result (cut_here (Jump f.join) f.join (decides f.result (second yes))))
or-in slots c x second m h =
    let f = fork 1 x in
    let gf = fork-in slots 1 c x m.goes (omega (arith, m.reach)) in
    let told = says f.result 1 f.code in
    let gt = emits-in slots (op.Const f.result 1) f.code gf.sound (tt, omega arith, tt) in
    let yes = cut_here (Jump f.join) f.if_not told in
    let gy = turn-in slots f.join f.if_not told gt.sound (omega (arith, gt.blocks)) in
    let my = h yes (goes_then gf (goes_then gt gy)) in
    let y = second yes in
    let d = decides f.result y in
    let gd = truth_in-in slots f.result (temp_of y) y.code my.goes.sound (omega (arith, gt.temps, gy.temps, my.goes.temps)) (omega (arith, my.reach)) in
    let ge = turn-in slots f.join f.join d gd.sound (omega (arith, gt.blocks, gy.blocks, my.goes.blocks, gd.blocks)) in
    record {
      goes = goes_then gf (goes_then gt (goes_then gy (goes_then my.goes (goes_then gd ge))));
      reach = omega (arith, gt.temps, gy.temps, my.goes.temps, gd.temps, ge.temps);
    }

-- by whether the type is void
cond-in :
    (slots : ℕ) (v : Bool) (c : Code) (x : Lowered) (first second : Code → Lowered) → Made slots c 1 x
    → ((d : Code) → Goes slots c d → Made slots d (if v then 0 else 1) (first d)) → ((d : Code) → Goes slots c d → Made slots d (if v then 0 else 1) (second d))
    → Made slots c (if v then 0 else 1)
    (if v
    then (let f = fork 0 x in
    let yes = cut_here (Jump f.join) f.if_not (first f.code).code in
    lowered_as None (cut_here (Jump f.join) f.join (second yes).code))
    else (let f = fork 1 x in
    let yes = cut_here (Jump f.join) f.if_not (gives f.result (first f.code)) in
    in_result f.result (cut_here (Jump f.join) f.join (gives f.result (second yes)))))
cond-in slots true c x first second m h i =
    let f = fork 0 x in
    let gf = fork-in slots 0 c x m.goes (omega (arith, m.reach)) in
    let so = first f.code in
    let ms = h f.code gf in
    let yes = cut_here (Jump f.join) f.if_not so.code in
    let gy = turn-in slots f.join f.if_not so.code ms.goes.sound (omega (arith, ms.goes.blocks)) in
    let other = second yes in
    let mo = i yes (goes_then gf (goes_then ms.goes gy)) in
    let ge = turn-in slots f.join f.join other.code mo.goes.sound (omega (arith, ms.goes.blocks, gy.blocks, mo.goes.blocks)) in
    record { goes = goes_then gf (goes_then ms.goes (goes_then gy (goes_then mo.goes ge))); reach = omega arith }
cond-in slots false c x first second m h i =
    let f = fork 1 x in
    let gf = fork-in slots 1 c x m.goes (omega (arith, m.reach)) in
    let so = first f.code in
    let ms = h f.code gf in
    let given = gives f.result so in
    let gg = emits-in slots (op.Copy f.result (temp_of so)) so.code ms.goes.sound ((omega (arith, ms.reach), tt), omega (arith, ms.goes.temps), tt) in
    let yes = cut_here (Jump f.join) f.if_not given in
    let gy = turn-in slots f.join f.if_not given gg.sound (omega (arith, ms.goes.blocks, gg.blocks)) in
    let other = second yes in
    let mo = i yes (goes_then gf (goes_then ms.goes (goes_then gg gy))) in
    let told = gives f.result other in
    let gt = emits-in slots (op.Copy f.result (temp_of other)) other.code mo.goes.sound ((omega (arith, mo.reach), tt), omega (arith, ms.goes.temps, gg.temps, gy.temps, mo.goes.temps), tt) in
    let ge = turn-in slots f.join f.join told gt.sound (omega (arith, ms.goes.blocks, gg.blocks, gy.blocks, mo.goes.blocks, gt.blocks)) in
    record {
      goes = goes_then gf (goes_then ms.goes (goes_then gg (goes_then gy (goes_then mo.goes (goes_then gt ge)))));
      reach = omega (arith, ms.goes.temps, gg.temps, gy.temps, mo.goes.temps, gt.temps, ge.temps);
    }

-- by whether the type is a record
assign-in :
    (slots : ℕ) (v : Bool) (records : List RecordValue) (ty : CType) (k : Kind) (c : Code) (x : Lowered) (p : Placed) (second : Code → Lowered)
    → Made slots c 1 x → PlacedIn slots c p → ((d : Code) → Goes slots c d → Made slots d 1 (second d))
    → Made slots c 1 (if v then copied records ty (temp_of x) (second x.code) else stored k p.target (second p.code))
assign-in slots true records ty k c x p second m q h =
    made_then m.goes (copied-in slots records ty (temp_of x) x.code (second x.code) (h x.code m.goes) (omega (arith, m.reach)))
assign-in slots false records ty k c x p second m q h =
    let my = h p.code q.goes in
    made_then q.goes (stored-in slots k p.target p.code (second p.code) my (target_more p.code.temps (second p.code).code.temps p.target my.goes.temps q.target))

-- by whether the type is void
called-in :
    (slots : ℕ) (b : Bool) (o : Option ℕ → Op) (c : Code) → Sound slots c
    → IsInRange c.temps slots (o None) → IsInRange (c.temps + 1) slots (o (Some c.temps))
    → Made slots c (if b then 0 else 1) (if b then lowered_as None (emit (o None) c) else fresh (λ t. o (Some t)) c)
called-in slots true o c s h i = record { goes = emits-in slots (o None) c s h; reach = omega arith }
called-in slots false o c s h i = adds-in slots 1 (λ t. o (Some t)) c s (omega arith) i

pub record ArgumentsIn (slots : ℕ) (c : Code) (xs : Arguments) : Type 0 where
  pub goes : Goes slots c xs.code
  pub temps : AllByRecursion (λ (t : ℕ). t < xs.code.temps) xs.temps

-- ---- expressions

abbrev pub Fits : Home → List LocalValue → ℕ → ℕ → Type 0
Fits h locals slots temps = (k : ℕ) (l : LocalValue) → slice_get locals k ≡ Some l → IsPlace slots temps (place_at h.places k)

place_more : (slots n m : ℕ) (p : LocalPlace) → n ≤ m → IsPlace slots n p → IsPlace slots m p
place_more slots n m (Temp t) l h = omega (arith, l, h)
place_more slots n m (Slot s) l h = h

pub fits_more : (h : Home) (locals : List LocalValue) (slots n m : ℕ) → n ≤ m → Fits h locals slots n → Fits h locals slots m
fits_more h locals slots n m l f = λ k v e. place_more slots n m (place_at h.places k) l (f k v e)

-- lvalues whose address is their operand's value, or a local's or global's
abbrev IsOther : Form → Type 0
IsOther (Local k) = ⊥
IsOther (Global s) = ⊥
IsOther (Deref a) = ⊥
IsOther (Member a offset) = ⊥
IsOther _ = Unit {0}

lvalue_worth : (m : ModuleValue) (locals : List LocalValue) (u : ℕ) (own : QType) (form : Form) → IsTyped m locals (Node u own form) → IsLvalueForm form → IsOther form → worth (type_of own) ≡ 1
unfolding IsTyped
lvalue_worth m locals u own (Str k) w h o = ap worth w.1.1.3
lvalue_worth m locals u own (Local k) w h o = absurd o
lvalue_worth m locals u own (Global s) w h o = absurd o
lvalue_worth m locals u own (Deref a) w h o = absurd o
lvalue_worth m locals u own (Member a offset) w h o = absurd o
lvalue_worth m locals u own form w h o = absurd h

addressed_worth : (m : ModuleValue) (locals : List LocalValue) (u : ℕ) (own : QType) (form : Form) → IsTyped m locals (Node u own form) → IsAddressed (Node u own form) → IsOther form → worth (type_of own) ≡ 1
addressed_worth m locals u own form w a o = elim a [ inl l ↦ lvalue_worth m locals u own form w l o | inr f ↦ function_worth (type_of own) f.1 ]

no_array : (ty : CType) (q : QType) (n : Option ℕ) → ty ≡ Array q n → IsScalar ty ⊎ ((number : ℕ) × (ty ≡ Record number)) → ⊥
no_array ty q n e (inl s) = subst (λ (t : CType). IsScalar t) e s
no_array ty q n e (inr r) = let f : Array q n ≡ Record r.0 = sym e ∙ r.1 in cc

module _ (m : ModuleValue) (locals : List LocalValue) (h : Home) (slots : ℕ) where
  mutual
    unfolding lower IsTyped

    pub lower-in : (e : Expression) (c : Code) → IsTyped m locals e → Fits h locals slots c.temps → Sound slots c → Made slots c (worth (type_in e)) (lower h e c)
    lower-in (Node t y (Number n)) c w f s = valued_of slots c _ (type_of y) (constant-in slots 1 n c s (omega arith))
    lower-in (Node t y (Str k)) c w f s = valued_of slots c _ (type_of y) (global-in slots (full_name h.name (Hidden k)) c s)
    lower-in (Node t y (Local k)) c w f s = valued_of slots c _ (type_of y) (value_of_local-in slots (kind_of (type_of y)) (place_at h.places k) c s (f k w.1.0 w.1.1))
    lower-in (Node t y (Global g)) c w f s = valued_of slots c _ (type_of y) (value_of_global-in slots (kind_of (type_of y)) (full_name h.name g) c s)
    lower-in (Node t y (Function g)) c w f s = valued_of slots c _ (type_of y) (adds-in slots 1 (λ t. op.AddrFn t (full_name h.name g)) c s (omega arith) (tt, omega arith, tt))
    lower-in (Node t y (Unary o a)) c w f s =
        let x = lower h a c in
        let n = valued slots c x (type_in a) (unary_worth o (type_in a) (type_of y) w.1.1) (lower-in a c w.1.0 f s) in
        valued_of slots c _ (type_of y) (made_then n.goes (unary_on-in slots o (temp_of x) x.code n.goes.sound (omega (arith, n.reach))))
    lower-in (Node t y (Binary o a b)) c w f s =
        let x = lower h a c in
        let mx = lower-in a c w.1.0 f s in
        let z = lower h b x.code in
        let mz = lower-in b x.code w.1.1 (fits_more h locals slots c.temps x.code.temps mx.goes.temps f) mx.goes.sound in
        valued_of slots c _ (type_of y)
        (made_then (goes_then mx.goes mz.goes) (sum_or-in slots o (is_signed (type_in a)) (target_size h.records (type_in a)) (target_size h.records (type_in b)) (temp_of x) (temp_of z) z.code mz.goes.sound (omega (arith, mx.reach, mz.goes.temps)) (omega (arith, mz.reach))))
    lower-in (Node t y (Logic logic.And a b)) c w f s =
        valued_of slots c _ (type_of y)
        (and-in slots c (lower h a c) (λ d. lower h b d) (any_value slots c (lower h a c) (type_in a) (lower-in a c w.1.0 f s))
        (λ d g. any_value slots d (lower h b d) (type_in b) (lower-in b d w.1.1 (fits_more h locals slots c.temps d.temps g.temps f) g.sound)))
    lower-in (Node t y (Logic logic.Or a b)) c w f s =
        valued_of slots c _ (type_of y)
        (or-in slots c (lower h a c) (λ d. lower h b d) (any_value slots c (lower h a c) (type_in a) (lower-in a c w.1.0 f s))
        (λ d g. any_value slots d (lower h b d) (type_in b) (lower-in b d w.1.1 (fits_more h locals slots c.temps d.temps g.temps f) g.sound)))
    lower-in (Node t y (Cond a b d)) c w f s =
        cond-in slots (is_void (type_of y)) c (lower h a c) (λ e. lower h b e) (λ e. lower h d e)
        (valued slots c (lower h a c) (type_in a) (scalar_worth (type_in a) w.1.3) (lower-in a c w.1.0 f s))
        (λ e g. as_type slots e (lower h b e) (type_in b) (type_of y) w.1.4 (lower-in b e w.1.1 (fits_more h locals slots c.temps e.temps g.temps f) g.sound))
        (λ e g. as_type slots e (lower h d e) (type_in d) (type_of y) w.1.5 (lower-in d e w.1.2 (fits_more h locals slots c.temps e.temps g.temps f) g.sound))
    lower-in (Node t y (Comma a b)) c w f s =
        let x = lower h a c in
        let mx = lower-in a c w.1.0 f s in
        made_then mx.goes (as_type slots x.code (lower h b x.code) (type_in b) (type_of y) w.1.2 (lower-in b x.code w.1.1 (fits_more h locals slots c.temps x.code.temps mx.goes.temps f) mx.goes.sound))
    lower-in (Node t y (Assign a b)) c w f s =
        let some = assigned_worth m.records a w.1.2 in
        valued_of slots c _ (type_of y)
        (assign-in slots (is_record (type_of y)) h.records (type_of y) (scalar_kind (type_of y)) c (lower h a c) (place h a c) (λ d. lower h b d)
        (valued slots c (lower h a c) (type_in a) some (lower-in a c w.1.0 f s))
        (place-in a c w.1.0 w.1.2 f s)
        (λ d g. valued slots d (lower h b d) (type_in b) (ap worth w.1.4 ∙ ap worth (sym w.1.3) ∙ some) (lower-in b d w.1.1 (fits_more h locals slots c.temps d.temps g.temps f) g.sound)))
    lower-in (Node t y (Compound o work a b)) c w f s =
        let p = place h a c in
        let q = place-in a c w.1.0 w.1.2 f s in
        let old = read (scalar_kind (type_of y)) p in
        let r = read-in slots (scalar_kind (type_of y)) p.target p.code q.goes.sound q.target in
        let z = lower h b old.code in
        let g = goes_then q.goes r.goes in
        let mz = lower-in b old.code w.1.1 (fits_more h locals slots c.temps old.code.temps g.temps f) r.goes.sound in
        valued_of slots c _ (type_of y)
        (made_then g (updated-in slots h.records o work (type_in b) (scalar_kind (type_of y)) p.target (temp_of old) old.code z (any_value slots old.code z (type_in b) mz) (target_more p.code.temps old.code.temps p.target r.goes.temps q.target) (omega (arith, r.reach))))
    lower-in (Node t y (Step o a)) c w f s =
        let p = place h a c in
        let q = place-in a c w.1.0 w.1.1 f s in
        let old = read (scalar_kind (type_of y)) p in
        let r = read-in slots (scalar_kind (type_of y)) p.target p.code q.goes.sound q.target in
        let one = constant 1 old.code in
        let new = updated h.records (step_operator o) (promoted_type (type_of y)) Void (scalar_kind (type_of y)) p.target (temp_of old) one in
        valued_of slots c _ (type_of y)
        (made_then (goes_then q.goes r.goes) (step_value-in slots (is_behind o) (temp_of old) old.code new
        (updated-in slots h.records (step_operator o) (promoted_type (type_of y)) Void (scalar_kind (type_of y)) p.target (temp_of old) old.code one (constant-in slots 0 1 old.code r.goes.sound (omega arith)) (target_more p.code.temps old.code.temps p.target r.goes.temps q.target) (omega (arith, r.reach)))
        (omega (arith, r.reach))))
    lower-in (Node t y (Cast a)) c w f s = cast-in slots (type_of y) (type_in a) c (lower h a c) w.1.1 (lower-in a c w.1.0 f s)
    lower-in (Node t y (Decay a)) c w f s =
        valued_of slots c _ (type_of y) (valued slots c (lower h a c) (type_in a) (decays_worth a (type_of y) w.1.1) (lower-in a c w.1.0 f s))
    lower-in (Node t y (Member a offset)) c w f s =
        valued_of slots c _ (type_of y)
        (value_at-in slots 1 (kind_of (type_of y)) c (further offset (lower h a c)) (omega arith)
        (further-in slots 1 offset c (lower h a c) (omega arith) (valued slots c (lower h a c) (type_in a) (ap worth w.1.1.type_is) (lower-in a c w.1.0 f s))))
    lower-in (Node t y (Deref a)) c w f s =
        valued_of slots c _ (type_of y)
        (value_at-in slots 1 (kind_of (type_of y)) c (lower h a c) (omega arith) (valued slots c (lower h a c) (type_in a) (ap worth w.1.1) (lower-in a c w.1.0 f s)))
    lower-in (Node t y (Address (Node u own (Local k)))) c w f s =
        valued_of slots c _ (type_of y) (address_of_local-in slots (place_at h.places k) c s (f k w.1.0.1.0 w.1.0.1.1))
    lower-in (Node t y (Address (Node u own (Global g)))) c w f s = valued_of slots c _ (type_of y) (global-in slots (full_name h.name g) c s)
    lower-in (Node t y (Address (Node u own (Deref a)))) c w f s =
        valued_of slots c _ (type_of y) (valued slots c (lower h a c) (type_in a) (ap worth w.1.0.1.1) (lower-in a c w.1.0.1.0 f s))
    lower-in (Node t y (Address (Node u own (Member a offset)))) c w f s =
        valued_of slots c _ (type_of y)
        (further-in slots 1 offset c (lower h a c) (omega arith) (valued slots c (lower h a c) (type_in a) (ap worth w.1.0.1.1.type_is) (lower-in a c w.1.0.1.0 f s)))
    lower-in (Node t y (Address (Node u own form))) c w f s =
        valued_of slots c _ (type_of y) (valued slots c (lower h (Node u own form) c) (type_of own) (addressed_worth m locals u own form w.1.0 w.1.1 tt) (lower-in (Node u own form) c w.1.0 f s))
    lower-in (Node t y (Call g args)) c w f s =
        let xs = arguments h args c in
        let ma = arguments-in args w.1.1 c w.1.5 f s in
        made_then ma.goes (called-in slots (is_void (type_of y)) (λ r. op.Call r (full_name h.name g) xs.temps) xs.code ma.goes.sound (ma.temps, tt, tt) (below_more_all xs.code.temps (xs.code.temps + 1) xs.temps (omega arith) ma.temps, omega arith, tt))
    lower-in (Node t y (CallValue a args)) c w f s =
        let x = lower h a c in
        let mx = valued slots c x (type_in a) (ap worth w.1.1.4) (lower-in a c w.1.0 f s) in
        let xs = arguments h args x.code in
        let ma = arguments-in args w.1.1.1 x.code w.1.1.7 (fits_more h locals slots c.temps x.code.temps mx.goes.temps f) mx.goes.sound in
        made_then (goes_then mx.goes ma.goes) (called-in slots (is_void (type_of y)) (λ r. op.CallInd r (temp_of x) (shape_at h.records (type_at a)) xs.temps) xs.code ma.goes.sound
        ((omega (arith, mx.reach, ma.goes.temps), ma.temps), tt, tt) ((omega (arith, mx.reach, ma.goes.temps), below_more_all xs.code.temps (xs.code.temps + 1) xs.temps (omega arith) ma.temps), omega arith, tt))

    pub place-in : (e : Expression) (c : Code) → IsTyped m locals e → IsModifiable m.records e → Fits h locals slots c.temps → Sound slots c → PlacedIn slots c (place h e c)
    place-in (Node t y (Local k)) c w g f s = target_of_local-in slots (place_at h.places k) c s (f k w.1.0 w.1.1)
    place-in (Node t y (Global k)) c w g f s = record { goes = stays slots c s; target = tt }
    place-in (Node t y (Member a offset)) c w g f s =
        let n = further-in slots 1 offset c (lower h a c) (omega arith) (valued slots c (lower h a c) (type_in a) (ap worth w.1.1.type_is) (lower-in a c w.1.0 f s)) in
        record { goes = n.goes; target = omega (arith, n.reach) }
    place-in (Node t y (Deref a)) c w g f s =
        let n = valued slots c (lower h a c) (type_in a) (ap worth w.1.1) (lower-in a c w.1.0 f s) in
        record { goes = n.goes; target = omega (arith, n.reach) }
    place-in (Node t y (Str k)) c w g f s = absurd (no_array (type_of y) _ _ w.1.1.3 g.assigned)
    place-in (Node t y form) c w g f s = absurd g.lvalue

    pub arguments-in : (args : Expressions) (params : QTypes) (c : Code) → AreArguments m locals args params → Fits h locals slots c.temps → Sound slots c → ArgumentsIn slots c (arguments h args c)
    arguments-in NoExpression params c w f s = record { goes = stays slots c s; temps = tt }
    arguments-in (OneExpression e rest) NoType c w f s = absurd w
    arguments-in (OneExpression e rest) (OneType q qs) c w f s =
        let x = lower h e c in
        let mx = valued slots c x (type_in e) (ap worth w.2 ∙ scalar_worth (type_of q) w.1) (lower-in e c w.0 f s) in
        let ma = arguments-in rest qs x.code w.3 (fits_more h locals slots c.temps x.code.temps mx.goes.temps f) mx.goes.sound in
        record { goes = goes_then mx.goes ma.goes; temps = (omega (arith, mx.reach, ma.goes.temps), ma.temps) }

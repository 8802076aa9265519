-- Operators and conversions on integers, as compound assignments and steps use them.
use Rattle.std.proofs.Common.{◌≡◌, ℕ, suc, ◌+◌, ◌*◌, ◌%◌, ◌^◌, ◌<◌, ◌==◌, ◌&&◌, Bool, true, false, not, if◌then◌else◌, Option, Some, None, Result, Ok, Err, List, [], ◌∷◌, All, refl, ap, ap₂, sym, ◌∙◌, subst, arith}
use Rattle.std.proofs.lemmas.Bool.Decides.{nat_tests}
use Rattle.std.proofs.lemmas.Option.{same_Some}
use Rattle.pw_value.specs.declared.value.Byte.{Byte}
use Rattle.pw_value.specs.declared.value.Byte.TheVariants as Y
use Rattle.pw_value.specs.declared.value.Value.{Value}
use Rattle.pw_value.specs.declared.value.Value.TheVariants as V
use Rattle.pw_value.specs.declared.value.Pointer.TheVariants as P
use Rattle.pw_value.specs.declared.words.WordFault.{WordFault}
use Rattle.pw_value.specs.declared.words.WordFault.TheVariants.{Overflow, ZeroDivisor, ShiftCount}
use Rattle.pw_value.specs.Values.{extended, scalar_in}
use Rattle.pw_value.specs.Objects.{object_at, byte_at, bytes_from}
use Rattle.pw_types.specs.TypeTrees.{Int, Qualified}
use Rattle.pw_types.specs.Conversions.{size_of_kind, is_signed_kind, promoted, converted}
use Rattle.pw_types.specs.declared.kind.IntKind.{IntKind}
use Rattle.pw_types.specs.declared.kind.IntKind.TheVariants as K
use Rattle.pw_types.specs.declared.tree.BinaryOperator.{BinaryOperator}
use Rattle.pw_types.specs.declared.tree.BinaryOperator.TheVariants as B
use Rattle.pw_types.specs.TypedTrees.{Expression, Node, Number, Binary, Cast}
use Rattle.pw_types.specs.WellTyped.{IsTyped, HasForm, FitsBinary}
use Rattle.pw_flow.specs.declared.flow.Op.{Op}
use Rattle.pw_flow.specs.declared.flow.Op.TheVariants as op
use Rattle.pw_flow.specs.declared.flow.ExtKind.{ExtKind}
use Rattle.pw_flow.specs.declared.flow.FlowFn.{FlowFn}
use Rattle.pw_lower.specs.declared.code.Code.{Code}
use Rattle.pw_lower.specs.Codes.{Lowered, fresh}
use Rattle.pw_lower.specs.Operators as lowering
use Rattle.pw_lower.specs.Operators.{kind_of_int, extension, operation_of, is_turned, combined, sum_or}
use Rattle.pw_cmean.specs.Acts.{State, Site, Act, Gives, give, stop, wrong, undefined, look, told, judge, ◌>>=◌, go_on}
use Rattle.pw_cmean.specs.Access.{load, reading, within, objects_now}
use Rattle.pw_cmean.specs.declared.undefined.Undef.{Undef}
use Rattle.pw_cmean.specs.Undefined.{◌when◌, least}
use Rattle.pw_cmean.specs.declared.undefined.Undef.TheVariants as U
use Rattle.pw_cmean.specs.Operators as source
use Rattle.pw_cmean.specs.Operators.{is_piece, outcome_of, arithmetic, convert}
use Rattle.pw_cmean.specs.Evaluation.{site, used, cast, answer_of}
use Rattle.pw_cmean.specs.Typed.{IsNumberOf, IsResultOf, IsByte, HoldsBytes, IfGives}
use Rattle.pw_run_languages.specs.Commands as commands
use Rattle.pw_run_languages.specs.Commands.{command}
use Rattle.pw_run_languages.specs.Values as flow
use Rattle.pw_run_languages.specs.FlowRun as run
use Rattle.pw_run_languages.specs.FlowRun.{Machine, value_in}
use Rattle.pw_law_refine.specs.Standing.{Spot, Stands}
use Rattle.pw_law_refine.specs.Activations.{Activation, IsActivation, Numbers, graphs, graph_of, env_of}
use Rattle.pw_law_refine.specs.Containing.{ContainsCode}
use Rattle.pw_law_refine.specs.Meeting.{Meets}
use Rattle.pw_law_refine.specs.Expressions.{IsReady, HasValue}
use Rattle.pw_law_refine_steps.specs.Operations.{extended_by, operated}
use Rattle.pw_law_refine_forms.proofs.Laws.{Laws}
use Rattle.pw_law_refine_forms.proofs.Simulation.{meets-here, judged, shown-here}
use Rattle.pw_law_refine_forms.proofs.Kit.{before-fresh, nothing-done}
use Rattle.pw_law_refine_forms.proofs.Bytes.{is-byte}
use Rattle.pw_law_refine_forms.proofs.Memory.{bytes-of}
use Rattle.pw_law_refine_forms.proofs.Access.{first-false}
use Rattle.pw_law_refine_forms.specs.Operands.{BothStand}
use Rattle.pw_law_refine_forms.proofs.Compare.{two-give, ordered-code}

-- the laws of numbers
pub record NumberLaws : Type 0 where
  pub binary : (o : BinaryOperator) (sign : Bool) (a b n : ℕ) → a < 2 ^ 32 → b < 2 ^ 32 → arithmetic o sign a b ≡ Ok n → operated o sign a b ≡ Some (V.Num n)
  pub conversions : (from to : IntKind) (v : Value) → IsNumberOf from v → (is_piece v && not (size_of_kind to == 1)) ≡ false
      → extended_by (extension (kind_of_int from) (kind_of_int to)) v ≡ Some (converted v to)

-- ---- words

number_in : Value → ℕ
number_in (V.Num n) = n
number_in v = 0

extended-below : (k : IntKind) (n : ℕ) → extended (size_of_kind k) (is_signed_kind k) (n % 256 ^ size_of_kind k) < 2 ^ 32
extended-below K.Char n = grind (arith, nat_tests)
extended-below K.SChar n = grind (arith, nat_tests)
extended-below K.UChar n = omega arith
extended-below K.Short n = grind (arith, nat_tests)
extended-below K.UShort n = omega arith
extended-below K.Int n = grind (arith, nat_tests)
extended-below K.UInt n = omega arith
extended-below K.Long n = grind (arith, nat_tests)
extended-below K.ULong n = omega arith

-- a number of a type is a word
pub word-of : (k : IntKind) (n : ℕ) → IsNumberOf k (V.Num n) → n < 2 ^ 32
unfolding number_in
word-of k n e = subst (λ (m : ℕ). m < 2 ^ 32) (ap number_in e) (extended-below k n)

size-of : IntKind → ℕ
size-of k = size_of_kind k

-- the types that the integral promotions leave have all words as their numbers
pub word-number : (k : IntKind) (n : ℕ) → promoted k ≡ k → n < 2 ^ 32 → IsNumberOf k (V.Num n)
unfolding size-of
word-number K.Char n p h = absurd (omega (arith, ap size-of p))
word-number K.SChar n p h = absurd (omega (arith, ap size-of p))
word-number K.UChar n p h = absurd (omega (arith, ap size-of p))
word-number K.Short n p h = absurd (omega (arith, ap size-of p))
word-number K.UShort n p h = absurd (omega (arith, ap size-of p))
word-number K.Int n p h = ap V.Num (let e : extended 4 true (n % 4294967296) ≡ n = grind (arith, nat_tests) in e)
word-number K.UInt n p h = ap V.Num (let e : n % 4294967296 ≡ n = omega (arith, h) in e)
word-number K.Long n p h = ap V.Num (let e : extended 4 true (n % 4294967296) ≡ n = grind (arith, nat_tests) in e)
word-number K.ULong n p h = ap V.Num (let e : n % 4294967296 ≡ n = omega (arith, h) in e)

pub promoted-size : (k : IntKind) → promoted k ≡ k → size_of_kind k ≡ 4
promoted-size k p = sym (ap size_of_kind p) ∙ four k
  where
    four : (k : IntKind) → size_of_kind (promoted k) ≡ 4
    four K.Char = refl
    four K.SChar = refl
    four K.UChar = refl
    four K.Short = refl
    four K.UShort = refl
    four K.Int = refl
    four K.UInt = refl
    four K.Long = refl
    four K.ULong = refl

-- ---- operators on numbers

plain : (o : BinaryOperator) (s : Bool) (p q : ℕ) (d : Code) → sum_or o s None None p q d ≡ lowering.on_numbers o s p q d
plain B.Add s p q d = refl
plain B.Subtract s p q d = refl
plain B.Multiply s p q d = refl
plain B.Divide s p q d = refl
plain B.Remainder s p q d = refl
plain B.ShiftLeft s p q d = refl
plain B.ShiftRight s p q d = refl
plain B.Less s p q d = refl
plain B.Greater s p q d = refl
plain B.LessEqual s p q d = refl
plain B.GreaterEqual s p q d = refl
plain B.Equal s p q d = refl
plain B.NotEqual s p q d = refl
plain B.And s p q d = refl
plain B.ExclusiveOr s p q d = refl
plain B.Or s p q d = refl

pub before-two : (x : Activation) (o : BinaryOperator) (s : Bool) (p q : ℕ) (d : Code) → ContainsCode (graph_of x) (sum_or o s None None p q d).code → ContainsCode (graph_of x) d
before-two x o s p q d w =
    either (is_turned o) (λ t. op.Bin (operation_of o s) t q p) (λ t. op.Bin (operation_of o s) t p q)
    (subst (λ (z : Lowered). ContainsCode (graph_of x) z.code) (plain o s p q d) w)
  where
    either : (v : Bool) (f g : ℕ → Op) → ContainsCode (graph_of x) (if v then fresh f d else fresh g d).code → ContainsCode (graph_of x) d
    either true f g w = before-fresh (graph_of x) f d w
    either false f g w = before-fresh (graph_of x) g d w

-- two words, and the result is one
pub numbers-meet :
    Laws → NumberLaws → (bound : ℕ) (x : Activation) (numbers : Numbers) (spots : List Spot) (at : Site) (o : BinaryOperator) (s : Bool) (p q : ℕ) (d : Code) (a b : ℕ) (u : State) (n : Machine)
    → a < 2 ^ 32 → b < 2 ^ 32 → BothStand x numbers spots p q d (V.Num a) (V.Num b) u n → ContainsCode (graph_of x) (sum_or o s None None p q d).code
    → (Good : ℕ → Type 0) → ((i : ℕ) → arithmetic o s a b ≡ Ok i → Good i)
    → Meets x.world bound n (outcome_of at (arithmetic o s a b) u) (λ v r t. HasValue x numbers spots [] (sum_or o s None None p q d) d u n (Some v) r t × ((i : ℕ) × (v ≡ V.Num i) × Good i))
unfolding outcome_of give undefined stop ordered-code
numbers-meet laws nums bound x numbers spots at o s p q d a b u n ha hb both holds Good good = by_outcome (arithmetic o s a b) refl
  where
    by_outcome : (r : Result ℕ WordFault) → arithmetic o s a b ≡ r
        → Meets x.world bound n (outcome_of at r u) (λ v r t. HasValue x numbers spots [] (sum_or o s None None p q d) d u n (Some v) r t × ((i : ℕ) × (v ≡ V.Num i) × Good i))
    by_outcome (Ok i) e =
        let r = two-give laws (is_turned o) (operation_of o s) x numbers spots p q d u n (value_in n.frame p) (V.Num i) (V.Num i) both.ready
        (subst (λ (z : Lowered). ContainsCode (graph_of x) z.code) (plain o s p q d) holds)
        (ap₂ (λ (y z : Value). if is_turned o then flow.binary n.objects (operation_of o s) z y else flow.binary n.objects (operation_of o s) y z) both.first both.second ∙ nums.binary o s a b i ha hb e) refl in
        record {
          count = r.count;
          machine = r.machine;
          comes = r.comes;
          holds = (subst (λ (z : Lowered). HasValue x numbers spots [] z d u n (Some (V.Num i)) u r.machine) (sym (plain o s p q d)) r.holds, (i, refl, good i e));
        }
    by_outcome (Err Overflow) e = shown-here x.world n u both.ready.related.matches.shows
    by_outcome (Err ZeroDivisor) e = shown-here x.world n u both.ready.related.matches.shows
    by_outcome (Err ShiftCount) e = shown-here x.world n u both.ready.related.matches.shows

-- ---- conversions

pub before-extended : (g : FlowFn) (k : Option ExtKind) (t : ℕ) (d : Code) → ContainsCode g (lowering.extended k t d).code → ContainsCode g d
before-extended g None t d w = w
before-extended g (Some k) t d w = before-fresh g (lowering.extending k t) d w

-- an extension, or none, of a number in a temporary
extends :
    Laws → (bound : ℕ) (x : Activation) (numbers : Numbers) (spots : List Spot) (k : Option ExtKind) (t : ℕ) (d : Code) (u : State) (n : Machine) (v w : Value)
    → IsReady x numbers spots d u n → ContainsCode (graph_of x) (lowering.extended k t d).code → value_in n.frame t ≡ v → extended_by k v ≡ Some w → Stands spots w w
    → Meets x.world bound n (Gives w u) (λ r. HasValue x numbers spots [] (lowering.extended k t d) d u n (Some r))
unfolding command nothing-done
extends laws bound x numbers spots None t d u n v w ready holds is e st =
    meets-here x.world bound n w u (λ r. HasValue x numbers spots [] (lowering.extended None t d) d u n (Some r))
    (record { done = nothing-done x numbers spots [] d u n ready.related; behind = ready.behind; stands = subst (λ (z : Value). Stands spots w z) (sym (is ∙ same_Some v w e)) st })
extends laws bound x numbers spots (Some k) t d u n v w ready holds is e st =
    laws.fresh x numbers spots [] d u n (lowering.extending k t) w w holds ready st
    (λ rest. ap (λ (z : Option Value). run.obeys (graphs x.world) (commands.give d.temps z) (record n { frame = record n.frame { ops = rest } })) (ap (λ (z : Value). flow.extension k z) is ∙ e))

with-equal : (x : Activation) (bound : ℕ) (n : Machine) (w : Value) (u : State) (Q : Value → State → Machine → Type 0) → Meets x.world bound n (Gives w u) Q → Meets x.world bound n (Gives w u) (λ r v q. Q r v q × (r ≡ w))
with-equal x bound n w u Q r = record { count = r.count; machine = r.machine; comes = r.comes; holds = (r.holds, refl) }

-- a number of one type as one of another
pub converts :
    Laws → NumberLaws → (bound : ℕ) (x : Activation) (numbers : Numbers) (spots : List Spot) (at : Site) (from to : IntKind) (t : ℕ) (d : Code) (i : ℕ) (u : State) (n : Machine)
    → IsNumberOf from (V.Num i) → IsReady x numbers spots d u n → ContainsCode (graph_of x) (lowering.extended (extension (kind_of_int from) (kind_of_int to)) t d).code → value_in n.frame t ≡ V.Num i
    → Meets x.world bound n (convert at (Int to) (V.Num i) u) (λ r v q. HasValue x numbers spots [] (lowering.extended (extension (kind_of_int from) (kind_of_int to)) t d) d u n (Some r) v q × (r ≡ converted (V.Num i) to))
unfolding convert give
converts laws nums bound x numbers spots at from to t d i u n typed ready holds is =
    judged x.world bound n at (U.PointerBytes when (is_piece (V.Num i) && not (size_of_kind to == 1)) ∷ []) _ u _ ready.related.matches.shows (λ none.
    with-equal x bound n (converted (V.Num i) to) u (λ r. HasValue x numbers spots [] (lowering.extended (extension (kind_of_int from) (kind_of_int to)) t d) d u n (Some r))
    (extends laws bound x numbers spots (extension (kind_of_int from) (kind_of_int to)) t d u n (V.Num i) (converted (V.Num i) to) ready holds is
    (nums.conversions from to (V.Num i) typed (first-false U.PointerBytes (is_piece (V.Num i) && not (size_of_kind to == 1)) [] none).0) refl))

-- what an operator gives on numbers of a type is one of the type
pub result-number :
    Laws → (x : Activation) (numbers : Numbers) (s : State) (o : BinaryOperator) (j k : IntKind) (a b i : ℕ) → IsActivation x → HoldsBytes s
    → FitsBinary x.home.tree.records o (Int j) (Int k) (Int j) → IsNumberOf j (V.Num a) → IsNumberOf k (V.Num b) → arithmetic o (is_signed_kind j) a b ≡ Ok i → IsNumberOf j (V.Num i)
unfolding answer_of used source.binary source.on_numbers outcome_of give ◌>>=◌ go_on IsTyped HasForm
result-number laws x numbers s o j k a b i active bytes fits ta tb e =
    let at = site (env_of x numbers) 0 in
    let form : Expression = Node 0 (Qualified (Int j) false false) (Binary o (Node 0 (Qualified (Int j) false false) (Number a)) (Node 0 (Qualified (Int k) false false) (Number b))) in
    let h = laws.types 0 form (env_of x numbers) s active.world.program.accepted.typed active.home (tt, ((tt, (word-of j a ta, ta)), (tt, (word-of k b tb, tb)), fits)) bytes in
    (subst (λ (r : Result ℕ WordFault). IfGives (IsResultOf (Int j)) ((outcome_of at r >>= λ result. give (Some result)) s)) e h).0

-- and what a conversion gives is one of its type
pub converted-number : Laws → (x : Activation) (numbers : Numbers) (s : State) (from to : IntKind) (i : ℕ) → IsActivation x → HoldsBytes s → IsNumberOf from (V.Num i) → IsNumberOf to (converted (V.Num i) to)
unfolding answer_of used cast convert judge told give ◌>>=◌ go_on IsTyped HasForm
converted-number laws x numbers s from to i active bytes typed =
    let form : Expression = Node 0 (Qualified (Int to) false false) (Cast (Node 0 (Qualified (Int from) false false) (Number i))) in
    (laws.types 0 form (env_of x numbers) s active.world.program.accepted.typed active.home (tt, ((tt, (word-of from i typed, typed)), tt)) bytes).0

-- ---- what is read of an integer type is a word

abbrev pub IsWordValue : Value → Type 0
IsWordValue (V.Num n) = n < 2 ^ 32
IsWordValue v = Unit {0}

one-word : (sign : Bool) (a : Byte) → IsByte a → IsWordValue (scalar_in (a ∷ []) sign)
one-word true (Y.Num n) h = let e : extended 1 true (n * 256 ^ 0 + 0) < 2 ^ 32 = grind (arith, nat_tests) in e
one-word false (Y.Num n) h = let e : n * 256 ^ 0 + 0 < 2 ^ 32 = omega (arith, h) in e
one-word sign Y.Undefined h = tt
one-word sign (Y.Piece p i) h = tt

two-word : (sign : Bool) (a b : Byte) → IsByte a → IsByte b → IsWordValue (scalar_in (a ∷ b ∷ []) sign)
two-word true (Y.Num n) (Y.Num k) h g = let e : extended 2 true (n * 256 ^ 1 + (k * 256 ^ 0 + 0)) < 2 ^ 32 = grind (arith, nat_tests) in e
two-word false (Y.Num n) (Y.Num k) h g = let e : n * 256 ^ 1 + (k * 256 ^ 0 + 0) < 2 ^ 32 = omega (arith, h, g) in e
two-word sign (Y.Num n) Y.Undefined h g = tt
two-word sign (Y.Num n) (Y.Piece p i) h g = tt
two-word sign Y.Undefined b h g = tt
two-word sign (Y.Piece p i) b h g = tt

four-word : (sign : Bool) (a b c d : Byte) → IsByte a → IsByte b → IsByte c → IsByte d → IsWordValue (scalar_in (a ∷ b ∷ c ∷ d ∷ []) sign)
four-word true (Y.Num a) (Y.Num b) (Y.Num c) (Y.Num d) h g f e = let w : extended 4 true (a * 256 ^ 3 + (b * 256 ^ 2 + (c * 256 ^ 1 + (d * 256 ^ 0 + 0)))) < 2 ^ 32 = grind (arith, nat_tests) in w
four-word false (Y.Num a) (Y.Num b) (Y.Num c) (Y.Num d) h g f e = let w : a * 256 ^ 3 + (b * 256 ^ 2 + (c * 256 ^ 1 + (d * 256 ^ 0 + 0))) < 2 ^ 32 = omega (arith, h, g, f, e) in w
four-word sign (Y.Num a) (Y.Num b) (Y.Num c) Y.Undefined h g f e = tt
four-word sign (Y.Num a) (Y.Num b) (Y.Num c) (Y.Piece p i) h g f e = tt
four-word sign (Y.Num a) (Y.Num b) Y.Undefined d h g f e = tt
four-word sign (Y.Num a) (Y.Num b) (Y.Piece p i) d h g f e = tt
four-word sign (Y.Num a) Y.Undefined c d h g f e = tt
four-word sign (Y.Num a) (Y.Piece p i) c d h g f e = tt
four-word sign Y.Undefined b c d h g f e = tt
four-word sign (Y.Piece p i) b c d h g f e = tt

word-at : (sign : Bool) (at : ℕ) (xs : List Byte) → All IsByte xs → IsWordValue (scalar_in (bytes_from 4 at xs) sign)
word-at sign at xs bytes =
    let b = suc at in
    let c = suc b in
    let d = suc c in
    four-word sign (byte_at xs at) (byte_at xs b) (byte_at xs c) (byte_at xs d) (is-byte xs at bytes) (is-byte xs b bytes) (is-byte xs c bytes) (is-byte xs d bytes)

scalar-word : (k : IntKind) (at : ℕ) (xs : List Byte) → All IsByte xs → IsWordValue (scalar_in (bytes_from (size_of_kind k) at xs) (is_signed_kind k))
scalar-word K.Char at xs bytes = one-word true (byte_at xs at) (is-byte xs at bytes)
scalar-word K.SChar at xs bytes = one-word true (byte_at xs at) (is-byte xs at bytes)
scalar-word K.UChar at xs bytes = one-word false (byte_at xs at) (is-byte xs at bytes)
scalar-word K.Short at xs bytes = two-word true (byte_at xs at) (byte_at xs (suc at)) (is-byte xs at bytes) (is-byte xs (suc at) bytes)
scalar-word K.UShort at xs bytes = two-word false (byte_at xs at) (byte_at xs (suc at)) (is-byte xs at bytes) (is-byte xs (suc at) bytes)
scalar-word K.Int at xs bytes = word-at true at xs bytes
scalar-word K.UInt at xs bytes = word-at false at xs bytes
scalar-word K.Long at xs bytes = word-at true at xs bytes
scalar-word K.ULong at xs bytes = word-at false at xs bytes

told-gives : {B : Type 0} (P : B → Type 0) (r : Option Undef) (at : Site) (next : Act B) (s : State) → IfGives P (next s) → IfGives P ((told at r >>= λ done. next) s)
unfolding told undefined give stop ◌>>=◌ go_on
told-gives P None at next s h = h
told-gives P (Some o) at next s h = tt

pub load-word : (k : IntKind) (at : Site) (place : Value) (s : State) → HoldsBytes s → IfGives IsWordValue (load at (Int k) place s)
unfolding load objects_now look judge within give wrong stop ◌>>=◌ go_on
load-word k at (V.At (P.Object o i)) s bytes =
    told-gives IsWordValue (least (reading s.objects (Int k) (V.At (P.Object o i)))) at _ s (scalar-word k i (object_at s.objects o).bytes (bytes-of s.objects o bytes.objects), bytes)
load-word k at (V.At (P.Function f)) s bytes = told-gives IsWordValue (least (reading s.objects (Int k) (V.At (P.Function f)))) at _ s tt
load-word k at V.Undefined s bytes = told-gives IsWordValue (least (reading s.objects (Int k) V.Undefined)) at _ s tt
load-word k at (V.Num n) s bytes = told-gives IsWordValue (least (reading s.objects (Int k) (V.Num n))) at _ s tt
load-word k at V.Null s bytes = told-gives IsWordValue (least (reading s.objects (Int k) V.Null)) at _ s tt
load-word k at (V.Piece p i) s bytes = told-gives IsWordValue (least (reading s.objects (Int k) (V.Piece p i))) at _ s tt

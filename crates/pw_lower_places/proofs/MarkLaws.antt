-- Marks of locals, in any order.
use Rattle.std.proofs.Common.{◌≡◌, ℕ, zero, suc, ◌+◌, ◌<◌, ◌==◌, Bool, true, false, ◌||◌, if◌then◌else◌, List, [], ◌∷◌, ◌++◌, length, slice_set, append_assoc, ◌≤◌, Some, refl, ap, ◌∙◌, sym, arith}
use Rattle.std.proofs.lemmas.Bool.Decides.{nat_tests}
use Rattle.pw_types.specs.TypedTrees.{Expression, Node, Form, Number, Str, Local, Global, Function, Unary, Binary, Logic, Cond, Comma, Assign, Compound, Step, Cast, Decay, Member, Deref, Address, Call, CallValue}
use Rattle.pw_types.specs.Spines.{first_of}
use Rattle.pw_types.specs.TypeTrees.{QType}
use Rattle.pw_types.specs.Views.{view_qtype}
use Rattle.pw_typed.specs.declared.tree.TExpr.{TExpr}
use Rattle.pw_typed.specs.Views.{view_expr, view_form}
use Rattle.pw_lower.specs.Places.{has, local_in, addressed_in, addressed_in_all, addressed_in_option}
use Rattle.pw_lower_places.specs.Marks.{marked_from, marked, addressed_beside, addressed_first}

or-false : (b : Bool) → b || false ≡ b
or-false true = refl
or-false false = refl

or-assoc : (a b c : Bool) → (a || b) || c ≡ a || (b || c)
or-assoc true b c = refl
or-assoc false b c = refl

or-swap : (a b c : Bool) → (a || b) || c ≡ (a || c) || b
or-swap true b c = refl
or-swap false true true = refl
or-swap false true false = refl
or-swap false false true = refl
or-swap false false false = refl

-- by whether the first is the local
has-either : (b x y : Bool) → (if b then true else x || y) ≡ (if b then true else x) || y
has-either true x y = refl
has-either false x y = refl

has-append : (k : ℕ) (a b : List ℕ) → has k (a ++ b) ≡ has k a || has k b
has-append k [] b = refl
has-append k (n ∷ rest) b =
    ap (λ h. if n == k then true else h) (has-append k rest b) ∙ has-either (n == k) (has k rest) (has k b)

both_from : (k : ℕ) (a b : List ℕ) (ms : List Bool) → marked_from k (a ++ b) ms ≡ marked_from k b (marked_from k a ms)
both_from k a b [] = refl
both_from k a b (m ∷ ms) =
    ap (λ h. (m || h) ∷ marked_from (k + 1) (a ++ b) ms) (has-append k a b)
    ∙ ap (λ h. h ∷ marked_from (k + 1) (a ++ b) ms) (sym (or-assoc m (has k a) (has k b)))
    ∙ ap (λ rest. ((m || has k a) || has k b) ∷ rest) (both_from (k + 1) a b ms)

swap_from : (k : ℕ) (a b : List ℕ) (ms : List Bool) → marked_from k b (marked_from k a ms) ≡ marked_from k a (marked_from k b ms)
swap_from k a b [] = refl
swap_from k a b (m ∷ ms) =
    ap (λ h. h ∷ marked_from (k + 1) b (marked_from (k + 1) a ms)) (or-swap m (has k a) (has k b))
    ∙ ap (λ rest. ((m || has k b) || has k a) ∷ rest) (swap_from (k + 1) a b ms)

none_from : (k : ℕ) (ms : List Bool) → marked_from k [] ms ≡ ms
none_from k [] = refl
none_from k (m ∷ ms) = ap (λ h. h ∷ marked_from (k + 1) [] ms) (or-false m) ∙ ap (λ rest. m ∷ rest) (none_from (k + 1) ms)

pub marked_both : (a b : List ℕ) (ms : List Bool) → marked (a ++ b) ms ≡ marked b (marked a ms)
marked_both a b ms = both_from 0 a b ms

pub marked_swap : (a b : List ℕ) (ms : List Bool) → marked b (marked a ms) ≡ marked a (marked b ms)
marked_swap a b ms = swap_from 0 a b ms

pub marked_none : (ms : List Bool) → marked [] ms ≡ ms
marked_none ms = none_from 0 ms

-- ---- the mark of one local

unlike : (m k : ℕ) → m < k → (m == k) ≡ false
unlike m k h = grind (arith, nat_tests)

unlike_above : (m k : ℕ) → k < m → (m == k) ≡ false
unlike_above m k h = grind (arith, nat_tests)

alike : (m k : ℕ) → m ≡ k → (m == k) ≡ true
alike m k h = grind (arith, nat_tests)

or-true : (b : Bool) → b || true ≡ true
or-true true = refl
or-true false = refl

one_past : (k n : ℕ) (ms : List Bool) → n < k → marked_from k (n ∷ []) ms ≡ ms
one_past k n [] h = refl
one_past k n (m ∷ ms) h =
    ap (λ t. (m || (if t then true else false)) ∷ marked_from (k + 1) (n ∷ []) ms) (unlike n k h)
    ∙ ap (λ t. t ∷ marked_from (k + 1) (n ∷ []) ms) (or-false m)
    ∙ ap (λ rest. m ∷ rest) (one_past (k + 1) n ms (omega arith))

one_from : (k i n : ℕ) (ms : List Bool) → n ≡ k + i → marked_from k (n ∷ []) ms ≡ slice_set ms i true
one_from k i n [] h = refl
one_from k zero n (m ∷ ms) h =
    ap (λ t. (m || (if t then true else false)) ∷ marked_from (k + 1) (n ∷ []) ms) (alike n k (omega arith))
    ∙ ap (λ t. t ∷ marked_from (k + 1) (n ∷ []) ms) (or-true m)
    ∙ ap (λ rest. true ∷ rest) (one_past (k + 1) n ms (omega arith))
one_from k (suc i) n (m ∷ ms) h =
    ap (λ t. (m || (if t then true else false)) ∷ marked_from (k + 1) (n ∷ []) ms) (unlike_above n k (omega arith))
    ∙ ap (λ t. t ∷ marked_from (k + 1) (n ∷ []) ms) (or-false m)
    ∙ ap (λ rest. m ∷ rest) (one_from (k + 1) i n ms (omega arith))

pub marked_one : (n : ℕ) (ms : List Bool) → marked (n ∷ []) ms ≡ slice_set ms n true
marked_one n ms = one_from 0 n n ms (omega arith)

set_past : (ms : List Bool) (n : ℕ) → length ms ≤ n → slice_set ms n true ≡ ms
set_past [] n h = refl
set_past (m ∷ ms) zero h = absurd (omega arith)
set_past (m ∷ ms) (suc n) h = ap (λ rest. m ∷ rest) (set_past ms n (omega arith))

pub marked_past : (n : ℕ) (ms : List Bool) → length ms ≤ n → marked (n ∷ []) ms ≡ ms
marked_past n ms h = marked_one n ms ∙ set_past ms n h

-- ---- nodes

-- by what is addressed, and what the first operand and the rest of a node address
alone : (a : List ℕ) (ms : List Bool) → marked a ms ≡ marked a (marked [] ms)
alone a ms = ap (marked a) (sym (marked_none ms))

beside : (b : List ℕ) (ms : List Bool) → marked b ms ≡ marked [] (marked b ms)
beside b ms = sym (marked_none (marked b ms))

both : (a b : List ℕ) (ms : List Bool) → marked (a ++ b) ms ≡ marked a (marked b ms)
both a b ms = marked_both a b ms ∙ marked_swap a b ms

addressed_is :
    (t : ℕ) (ty : QType) (a : Expression) (ms : List Bool)
    → marked (addressed_in (Node t ty (Address a))) ms
    ≡ marked (addressed_first (Node t ty (Address a))) (marked (local_in a) ms)
addressed_is t ty (Node u own (Local k)) ms = beside (k ∷ []) ms
addressed_is t ty (Node u own (Number n)) ms = alone [] ms
addressed_is t ty (Node u own (Str k)) ms = alone [] ms
addressed_is t ty (Node u own (Global s)) ms = alone [] ms
addressed_is t ty (Node u own (Function s)) ms = alone [] ms
addressed_is t ty (Node u own (Unary o a)) ms = alone (addressed_in a) ms
addressed_is t ty (Node u own (Binary o a b)) ms = alone (addressed_in a ++ addressed_in b) ms
addressed_is t ty (Node u own (Logic o a b)) ms = alone (addressed_in a ++ addressed_in b) ms
addressed_is t ty (Node u own (Cond a b c)) ms = alone (addressed_in a ++ addressed_in b ++ addressed_in c) ms
addressed_is t ty (Node u own (Comma a b)) ms = alone (addressed_in a ++ addressed_in b) ms
addressed_is t ty (Node u own (Assign a b)) ms = alone (addressed_in a ++ addressed_in b) ms
addressed_is t ty (Node u own (Compound o w a b)) ms = alone (addressed_in a ++ addressed_in b) ms
addressed_is t ty (Node u own (Step o a)) ms = alone (addressed_in a) ms
addressed_is t ty (Node u own (Cast a)) ms = alone (addressed_in a) ms
addressed_is t ty (Node u own (Decay a)) ms = alone (addressed_in a) ms
addressed_is t ty (Node u own (Member a offset)) ms = alone (addressed_in a) ms
addressed_is t ty (Node u own (Deref a)) ms = alone (addressed_in a) ms
addressed_is t ty (Node u own (Address a)) ms = alone (addressed_in (Node u own (Address a))) ms
addressed_is t ty (Node u own (Call s args)) ms = alone (addressed_in_all args) ms
addressed_is t ty (Node u own (CallValue a args)) ms = alone (addressed_in a ++ addressed_in_all args) ms

pub marked_node :
    (t : ℕ) (ty : QType) (form : Form) (ms : List Bool)
    → marked (addressed_in (Node t ty form)) ms ≡ marked (addressed_first (Node t ty form)) (marked (addressed_beside form) ms)
marked_node t ty (Number n) ms = alone [] ms
marked_node t ty (Str k) ms = alone [] ms
marked_node t ty (Local k) ms = alone [] ms
marked_node t ty (Global s) ms = alone [] ms
marked_node t ty (Function s) ms = alone [] ms
marked_node t ty (Unary o a) ms = alone (addressed_in a) ms
marked_node t ty (Binary o a b) ms = both (addressed_in a) (addressed_in b) ms
marked_node t ty (Logic o a b) ms = both (addressed_in a) (addressed_in b) ms
marked_node t ty (Cond a b c) ms = rw append_assoc (both (addressed_in a) (addressed_in b ++ addressed_in c) ms)
marked_node t ty (Comma a b) ms = both (addressed_in a) (addressed_in b) ms
marked_node t ty (Assign a b) ms = both (addressed_in a) (addressed_in b) ms
marked_node t ty (Compound o w a b) ms = both (addressed_in a) (addressed_in b) ms
marked_node t ty (Step o a) ms = alone (addressed_in a) ms
marked_node t ty (Cast a) ms = alone (addressed_in a) ms
marked_node t ty (Decay a) ms = alone (addressed_in a) ms
marked_node t ty (Member a offset) ms = alone (addressed_in a) ms
marked_node t ty (Deref a) ms = alone (addressed_in a) ms
marked_node t ty (Address a) ms = addressed_is t ty a ms
marked_node t ty (Call s args) ms = beside (addressed_in_all args) ms
marked_node t ty (CallValue a args) ms = both (addressed_in a) (addressed_in_all args) ms

-- ---- along first operands

-- a node's own marks are there: those of its first operand are left
pub node_begun :
    (e : TExpr) (before after : List Bool)
    → after ≡ marked (addressed_beside (view_form e.form)) before
    → marked (addressed_first (view_expr e)) after ≡ marked (addressed_in (view_expr e)) before
node_begun e before after h =
    ap (marked (addressed_first (view_expr e))) h ∙ sym (marked_node e.token (view_qtype e.ty) (view_form e.form) before)

-- one node further
pub node_passed :
    (node first : TExpr) (before after all : List Bool)
    → Some (view_expr first) ≡ first_of (view_expr node)
    → after ≡ marked (addressed_beside (view_form first.form)) before
    → marked (addressed_first (view_expr node)) before ≡ all
    → marked (addressed_first (view_expr first)) after ≡ all
node_passed node first before after all e h left =
    node_begun first before after h ∙ ap (λ o. marked (addressed_in_option o) before) e ∙ left

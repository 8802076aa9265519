-- Modifiable lvalues, and the linkage of a declaration: the tests are the relations.
use Rattle.std.specs.Prelude.{ℕ, ◌≡◌, ◌≢◌, Bool, true, false, not, ◌&&◌, Option, None, Some, List, unwrap_or, refl}
use Rattle.std.proofs.Common.{ap, sym, ◌∙◌}
use Rattle.pw_types.specs.TypeTrees.{CType, Array, QType, RecordValue}
use Rattle.pw_types.specs.TypedTrees.{type_at}
use Rattle.pw_check_rules.specs.Judgements.{ModifiableLvalue, InternalLinkage, ByStatic, ByVisible}
use Rattle.pw_check_rules.specs.Kinds.{is_array, is_complete, is_free_of_const}
use Rattle.pw_check_rules.specs.Linkage.{Asking, AsInternal, AsBefore, AsExternal, is_internal_by, visible_linkage}
use Rattle.pw_check_rules.specs.Operands.{Operand}
use Rattle.pw_types.specs.WellTyped.{type_in}
use Rattle.pw_check_rules.specs.Operators.{is_modifiable}
use Rattle.pw_check_rules.specs.States.{State}
use Rattle.pw_check_rules.proofs.Booleans.{no, both, left, right, opposite}

array_back : (ty : CType) → not (is_array ty) ≡ true → (q : QType) (n : Option ℕ) → ty ≢ Array q n
array_back ty e q n same = no (sym (opposite (is_array ty) e) ∙ ap is_array same)

array_forth : (ty : CType) → ((q : QType) (n : Option ℕ) → ty ≢ Array q n) → not (is_array ty) ≡ true
array_forth (Array q n) h = absurd (h q n refl)
array_forth _ h = refl

pub modifiable_back : (records : List RecordValue) (a : Operand) → is_modifiable records a ≡ true → ModifiableLvalue records a
modifiable_back records a e =
    let three : (a.lvalue && not (is_array (type_in a.node)) && is_complete records (type_in a.node)) ≡ true =
    left (a.lvalue && not (is_array (type_in a.node)) && is_complete records (type_in a.node)) (is_free_of_const records (type_at a.node)) e in
    let two : (a.lvalue && not (is_array (type_in a.node))) ≡ true =
    left (a.lvalue && not (is_array (type_in a.node))) (is_complete records (type_in a.node)) three in
    record {
      lvalue = left a.lvalue (not (is_array (type_in a.node))) two;
      no_array = array_back (type_in a.node) (right a.lvalue (not (is_array (type_in a.node))) two);
      complete = right (a.lvalue && not (is_array (type_in a.node))) (is_complete records (type_in a.node)) three;
      without_const = right (a.lvalue && not (is_array (type_in a.node)) && is_complete records (type_in a.node)) (is_free_of_const records (type_at a.node)) e;
    }

pub modifiable_forth : (records : List RecordValue) (a : Operand) → ModifiableLvalue records a → is_modifiable records a ≡ true
modifiable_forth records a h =
    both (a.lvalue && not (is_array (type_in a.node)) && is_complete records (type_in a.node)) (is_free_of_const records (type_at a.node))
    (both (a.lvalue && not (is_array (type_in a.node))) (is_complete records (type_in a.node))
    (both a.lvalue (not (is_array (type_in a.node))) h.lvalue (array_forth (type_in a.node) h.no_array))
    h.complete)
    h.without_const

some_true : (o : Option Bool) → unwrap_or o false ≡ true → o ≡ Some true
some_true None e = no e
some_true (Some b) e = ap Some e

true_some : (o : Option Bool) → o ≡ Some true → unwrap_or o false ≡ true
true_some o e = ap (λ p. unwrap_or p false) e

pub linkage_back : (s : State) (name : List ℕ) (asking : Asking) → is_internal_by s name asking ≡ true → InternalLinkage s name asking
linkage_back s name AsInternal e = ByStatic
linkage_back s name AsBefore e = ByVisible (some_true (visible_linkage s name) e)
linkage_back s name AsExternal e = no e

pub linkage_forth : (s : State) (name : List ℕ) (asking : Asking) → InternalLinkage s name asking → is_internal_by s name asking ≡ true
linkage_forth s name AsInternal h = refl
linkage_forth s name AsBefore (ByVisible e) = true_some (visible_linkage s name) e
linkage_forth s name AsExternal h = elim h [ ]

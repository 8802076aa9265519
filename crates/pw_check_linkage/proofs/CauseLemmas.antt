-- What is found in three constraints of one kind at one token.
use Rattle.std.proofs.Common.{◌≡◌, Bool, not, Option, None, ap, ◌∙◌}
use Rattle.pw_check_walk.specs.declared.constraints.CheckFault.{CheckFault}
use Rattle.pw_check_walk.specs.Found.{with_cause}

pub three_needed : (n o p r : Option CheckFault) (a b c x y z : Bool) (f : CheckFault) → n ≡ None
    → o ≡ with_cause n (not a) f → p ≡ with_cause o (not b) f → r ≡ with_cause p (not c) f → a ≡ x → b ≡ y → c ≡ z
    → r ≡ with_cause (with_cause (with_cause None (not x) f) (not y) f) (not z) f
three_needed n o p r a b c x y z f none one two three xs ys zs =
    let first : o ≡ with_cause None (not x) f =
    one ∙ ap (λ u. with_cause u (not a) f) none ∙ ap (λ u. with_cause None (not u) f) xs in
    let second : p ≡ with_cause (with_cause None (not x) f) (not y) f =
    two ∙ ap (λ u. with_cause u (not b) f) first ∙ ap (λ u. with_cause (with_cause None (not x) f) (not u) f) ys in
    three ∙ ap (λ u. with_cause u (not c) f) second
    ∙ ap (λ u. with_cause (with_cause (with_cause None (not x) f) (not y) f) (not u) f) zs

-- What is found of a member.
use Rattle.std.specs.Prelude.{OnOk}
use Rattle.std.proofs.Common.{◌≡◌, ℕ, Bool, true, false, not, ◌&&◌, nat_le, Option, None, Some, Result, Ok, List, [], ◌∷◌, length, refl, ap, sym, subst, ◌∙◌, arith}
use Rattle.std.proofs.lemmas.Bool.Decides.{nat_tests}
use Rattle.pw_value.specs.Names.{IsNameLength}
use Rattle.pw_types.specs.TypeTrees.{MemberValue, QType, type_of, RecordValue}
use Rattle.pw_check_walk.specs.Causes.{Cause, Point, fault_of, needs, OneMember, CompleteMember}
use Rattle.pw_check_walk.specs.declared.constraints.CheckFault.{CheckFault}
use Rattle.pw_check_walk.specs.Found.{found, found_behind, lesser_found, told, with_cause}
use Rattle.pw_check_walk.proofs.FindingLaws.{found_after, unbroken}
use Rattle.pw_check_rules.specs.Kinds.{is_function}
use Rattle.pw_check_rules.specs.Leaves.{has_member}
use Rattle.pw_check_rules.specs.Limits.{Spot, completed, identifier_limit, name_within, type_within}
use Rattle.pw_check_records.specs.Parts.{member_point}

-- two constraints by what their tests say
pub two_needed : (n o p : Option CheckFault) (a b x y : Bool) (f g : CheckFault) → n ≡ None → o ≡ with_cause n (not a) f → p ≡ with_cause o (not b) g
    → a ≡ x → b ≡ y → p ≡ with_cause (with_cause None (not x) f) (not y) g
two_needed n o p a b x y f g none one two xs ys =
    let first : o ≡ with_cause None (not x) f =
    one ∙ ap (λ u. with_cause u (not a) f) none ∙ ap (λ u. with_cause None (not u) f) xs in
    two ∙ ap (λ u. with_cause u (not b) g) first ∙ ap (λ u. with_cause (with_cause None (not x) f) (not u) g) ys

-- two causes, one that is found by itself, one behind them, and a list of others
pub found_in_turn : (a b c d : Cause) (rest : Point) (seen three four last : Option CheckFault)
    → seen ≡ found (c ∷ [])
    → three ≡ lesser_found (with_cause (with_cause None a.broken (fault_of a)) b.broken (fault_of b)) seen
    → four ≡ found_behind three (d ∷ [])
    → last ≡ found rest
    → lesser_found four last ≡ found (a ∷ b ∷ c ∷ d ∷ rest)
found_in_turn a b c d rest seen three four last sees threes fours lasts =
    let two = with_cause (with_cause None a.broken (fault_of a)) b.broken (fault_of b) in
    ap (λ o. lesser_found o last) fours
    ∙ ap (lesser_found (found_behind three (d ∷ []))) lasts
    ∙ sym (found_after (found_behind three (d ∷ [])) rest)
    ∙ ap (λ o. found_behind (found_behind o (d ∷ [])) rest) (threes ∙ ap (lesser_found two) sees ∙ sym (found_after two (c ∷ [])))

-- ---- a name that was looked at

-- the limit on identifiers is below that on names
as_long : (n : ℕ) → not (nat_le 1 n && nat_le n identifier_limit) ≡ false → IsNameLength n
as_long n e = by (nat_le 1 n) (nat_le n identifier_limit) refl refl e
  where
    by : (a b : Bool) → nat_le 1 n ≡ a → nat_le n identifier_limit ≡ b → not (a && b) ≡ false → IsNameLength n
    by true true f g h = (grind (arith, nat_tests), grind (arith, nat_tests))
    by true false f g h = absurd (cc)
    by false b f g h = absurd (cc)

pub found_named : (records : List RecordValue) (spot : Spot) (name : List ℕ) (q : QType) (members : List MemberValue)
    → found (member_point records spot name q members) ≡ None → IsNameLength (length name)
found_named records spot name q members none = as_long (length name) (unbroken
    (needs OneMember spot.token (not (has_member members name)) ∷ needs CompleteMember spot.token (not (is_function (type_of q))) ∷ completed records spot CompleteMember (type_of q) ∷ [])
    (type_within records spot.token q) (name_within spot.token name) none)

pub named_end : (o : Option CheckFault) (r : Result (Unit {0}) CheckFault) (P : Type 0) → r ≡ told o (Ok tt) → (o ≡ None → P) → OnOk r P
named_end None r P is h = subst (λ (x : Result (Unit {0}) CheckFault). OnOk x P) (sym is) (h refl)
named_end (Some f) r P is h = subst (λ (x : Result (Unit {0}) CheckFault). OnOk x P) (sym is) tt

-- A well-typed function has no more cases and defaults than labels.
use Rattle.std.proofs.Common.{◌≡◌, ℕ, ◌+◌, ◌≤◌, Bool, true, false, nat_eq, Option, Some, None, List, [], ◌∷◌, ◌++◌, map, length, refl, subst}
use Rattle.std.specs.Prelude.{option_to_list, Contains}
use Rattle.std.specs.List.{AllByRecursion, IsDistinct}
use Rattle.std.specs.Cmp.{nat_eq_equiv}
use Rattle.std.proofs.Common.{Decides}
use Rattle.std.proofs.lemmas.Bool.Decides.{Decides-eqb}
use Rattle.std.proofs.lemmas.List.Elements.{Contains-append_left, Contains-append_right, recursion_from_All, All-from_recursion}
use Rattle.std.proofs.lemmas.Map.Keys.{IsDistinct-tail}
use Rattle.std.proofs.lemmas.Map.Made.{length-le_from_is_member, is_member-Decides}
use Rattle.pw_types.specs.Labels.{labels_in, labels_among, labels_of_arms, labels_behind, cases_in, cases_among, cases_of_arms, cases_behind}
use Rattle.pw_types.specs.TypedModules.{IsStatement, AreStatements, AreArms, IsElse, IsFunction}
use Rattle.pw_types.specs.TypedTrees.{CaseValue, Statement, Block, If, While, Do, For, Switch, Label, Arms, NoArm, Arm, Otherwise, NoElse, Else, Statements, NoStatement, OneStatement, FunctionValue, ModuleValue}

abbrev Within : List ℕ → List ℕ → Type 0
Within xs ys = AllByRecursion (λ x. Contains ys x) xs

within_left : (xs ys zs : List ℕ) → Within xs ys → Within xs (ys ++ zs)
within_left [] ys zs h = tt
within_left (x ∷ xs) ys zs h = (Contains-append_left ys zs x h.0, within_left xs ys zs h.1)

within_right : (xs ys zs : List ℕ) → Within xs zs → Within xs (ys ++ zs)
within_right [] ys zs h = tt
within_right (x ∷ xs) ys zs h = (Contains-append_right ys zs x h.0, within_right xs ys zs h.1)

within_both : (xs ys zs : List ℕ) → Within xs zs → Within ys zs → Within (xs ++ ys) zs
within_both [] ys zs f g = g
within_both (x ∷ xs) ys zs f g = (f.0, within_both xs ys zs f.1 g)

within_joined : (xs ys us vs : List ℕ) → Within xs us → Within ys vs → Within (xs ++ ys) (us ++ vs)
within_joined xs ys us vs f g = within_both xs ys (us ++ vs) (within_left xs us vs f) (within_right ys us vs g)

cases_there : (cases : List CaseValue) (ls : List ℕ) → AllByRecursion (λ (k : CaseValue). Contains ls k.label) cases → Within (map (λ (k : CaseValue). k.label) cases) ls
cases_there [] ls h = tt
cases_there (k ∷ rest) ls h = (h.0, cases_there rest ls h.1)

default_there : (default : Option ℕ) (ls : List ℕ) → ((n : ℕ) → default ≡ Some n → Contains ls n) → Within (option_to_list default) ls
default_there None ls h = tt
default_there (Some n) ls h = (h n refl, tt)

mutual
  unfolding IsStatement

  within-statement : (m : ModuleValue) (f : FunctionValue) (b c : Bool) (from : ℕ) (s : Statement) → IsStatement m f b c from s → Within (cases_in s) (labels_in s)
  within-statement m f b c from (Block t first count initialisers items) h = within-statements m f b c (first + count) items h.3
  within-statement m f b c from (If t arms otherwise) h =
      within_joined (cases_of_arms arms) (cases_behind otherwise) (labels_of_arms arms) (labels_behind otherwise) (within-arms m f b c from arms h.1) (within-else m f b c from otherwise h.2)
  within-statement m f b c from (While t e body) h = within-statement m f true true from body h.1
  within-statement m f b c from (Do t body e) h = within-statement m f true true from body h.1
  within-statement m f b c from (For t first e third body) h = within-statement m f true true from body h.3
  within-statement m f b c from (Switch t e cases default body) h =
      within_both (map (λ (k : CaseValue). k.label) cases) (option_to_list default ++ cases_in body) (labels_in body)
      (cases_there cases (labels_in body) (recursion_from_All (λ (k : CaseValue). Contains (labels_in body) k.label) cases h.1.labels))
      (within_both (option_to_list default) (cases_in body) (labels_in body) (default_there default (labels_in body) h.1.default_label) (within-statement m f true c from body h.2))
  within-statement m f b c from (Label t labels body) h = within_right (cases_in body) labels (labels_in body) (within-statement m f b c from body h.1)
  within-statement m f b c from _ h = tt

  within-statements : (m : ModuleValue) (f : FunctionValue) (b c : Bool) (from : ℕ) (all : Statements) → AreStatements m f b c from all → Within (cases_among all) (labels_among all)
  within-statements m f b c from NoStatement h = tt
  within-statements m f b c from (OneStatement s rest) h =
      within_joined (cases_in s) (cases_among rest) (labels_in s) (labels_among rest) (within-statement m f b c from s h.0) (within-statements m f b c from rest h.1)

  within-arms : (m : ModuleValue) (f : FunctionValue) (b c : Bool) (from : ℕ) (arms : Arms) → AreArms m f b c from arms → Within (cases_of_arms arms) (labels_of_arms arms)
  within-arms m f b c from NoArm h = tt
  within-arms m f b c from (Arm t e body rest) h =
      within_joined (cases_in body) (cases_of_arms rest) (labels_in body) (labels_of_arms rest) (within-statement m f b c from body h.1) (within-arms m f b c from rest h.2)

  within-else : (m : ModuleValue) (f : FunctionValue) (b c : Bool) (from : ℕ) (otherwise : Otherwise) → IsElse m f b c from otherwise → Within (cases_behind otherwise) (labels_behind otherwise)
  within-else m f b c from NoElse h = tt
  within-else m f b c from (Else s) h = within-statement m f b c from s h

distinct_behind : (xs ys : List ℕ) → IsDistinct nat_eq (xs ++ ys) → IsDistinct nat_eq ys
distinct_behind [] ys h = h
distinct_behind (x ∷ xs) ys h = distinct_behind xs ys (IsDistinct-tail nat_eq x (xs ++ ys) h)

same_number : (a b : ℕ) → Decides (nat_eq a b) (a ≡ b)
same_number a b = Decides-eqb a b

member_within : (xs ys : List ℕ) → Within xs ys → (q : ℕ) → Contains xs q → Contains ys q
member_within xs ys h q c = subst (λ x. Contains ys x) c.2 (All-from_recursion (λ x. Contains ys x) xs h c.0 q c.1)

pub few_cases : (m : ModuleValue) (f : FunctionValue) → IsFunction m f → length (cases_in f.body) ≤ length (labels_in f.body)
few_cases m f h =
    let within = within-statement m f false false f.params f.body h.body in
    length-le_from_is_member nat_eq_equiv (cases_in f.body) (labels_in f.body) (distinct_behind f.named (cases_in f.body) h.labels.one_use)
    (λ q e. (is_member-Decides same_number (labels_in f.body) q).1 (member_within (cases_in f.body) (labels_in f.body) within q ((is_member-Decides same_number (cases_in f.body) q).0 e)))

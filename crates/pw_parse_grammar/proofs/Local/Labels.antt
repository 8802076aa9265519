-- Labels in two texts that are one up to a place (6.6.1): where a name stands right before the place, what is behind it decides whether it is a label.
use Rattle.std.proofs.Common.{◌≡◌, ℕ, suc, ◌≤◌, Bool, true, false, ◌||◌, if◌then◌else◌, List, [], ◌∷◌, length, Option, Some, None, arith, refl}
use Rattle.pw_tree.specs.Symbols.{Symbol, Reserved, Identifier}
use Rattle.pw_tree.specs.Trees.{Label}
use Rattle.pw_token.specs.declared.symbol.Keyword.TheVariants as k
use Rattle.pw_token.specs.declared.symbol.Mark.TheVariants as m
use Rattle.pw_parse_grammar.specs.Input.{Binding, Parser, ◌<$>◌, pure, ahead, step, sees, is_typedef_name}
use Rattle.pw_parse_grammar.specs.Statements.{default_label, name_label, before_label, case_label, label_by, label, labels}
use Rattle.pw_parse_grammar.proofs.Progress.Base.{Left, forward-rules, left-bind, expect-left}
use Rattle.pw_parse_grammar.proofs.Progress.Declarations.{parts-left}
use Rattle.pw_parse_grammar.proofs.Progress.Statements.{default_label-left, name_label-left, case_label-left, label-left}
use Rattle.pw_parse_grammar.proofs.Local.Base.{input, near-cases, Near, gone, more, passed, answers, Local, local-rules, agree-bind}
use Rattle.pw_parse_grammar.proofs.Local.Names.{Upto, Settles, settled, open_name, while-upto, left-chosen, or-true, while-first}
use Rattle.pw_parse_grammar.proofs.Local.Parts.{expr-at}
use Rattle.pw_parse_grammar.proofs.Local.Knot.{parts-local}

-- ---- one label

default_label-strict : (r w : List (Option Symbol)) (d : ℕ) → Local r w (suc d) (λ _. d) default_label default_label
unfolding default_label step
default_label-strict r w d names n t t' gone = passed (default_label-left (length r) (input names r n) (omega arith))
default_label-strict r w d names n t t' (more s h) = search (local-rules, agree-bind r w d)

name_label-strict : (r w : List (Option Symbol)) (d : ℕ) (x : List ℕ) → Local r w (suc d) (λ _. d) (name_label x) (name_label x)
unfolding name_label step
name_label-strict r w d x names n t t' gone = passed (name_label-left x (length r) (input names r n) (omega arith))
name_label-strict r w d x names n t t' (more s h) = search (local-rules, agree-bind r w d)

-- a name that is a label where the flag says so
abbrev chosen : List ℕ → Bool → Parser (Option (List Label → List Label))
chosen x b = if b then before_label <$> name_label x else pure None

stepped : (x : List ℕ) (names : List Binding) (n : ℕ) (r : List (Option Symbol)) → length (step (input names (Some (Identifier x) ∷ r) n)).rest ≤ length r
unfolding step
stepped x names n r = omega arith

label-read : (r : List (Option Symbol)) (x : List ℕ) (names : List Binding) (n : ℕ) → Left (length r) (chosen x true (input names (Some (Identifier x) ∷ r) n))
unfolding name_label
label-read r x names n =
    left-bind (left-bind (expect-left m.Colon (length r) (step (input names (Some (Identifier x) ∷ r) n)) (stepped x names n r)) (λ u j h. search forward-rules)) (λ l j h. search forward-rules)

name-last : (r w : List (Option Symbol)) (d : ℕ) (x : List ℕ) (names : List Binding) (n : ℕ) (typed : Bool) → is_typedef_name (input names r n) x ≡ typed → (a a' : Bool)
    → Settles r w false d (chosen x (a || typed) (input names (Some (Identifier x) ∷ r) n)) (chosen x (a' || typed) (input names (Some (Identifier x) ∷ w) n))
name-last r w d x names n true e true a' = settled (passed (label-read r x names n))
name-last r w d x names n true e false a' = settled (passed (label-read r x names n))
name-last r w d x names n false e true a' = settled (passed (label-read r x names n))
name-last r w d x names n false e false a' = open_name e

module _ (r w : List (Option Symbol)) (limit limit' d : ℕ) (c : d ≤ limit) (c' : d ≤ limit') where
  case_label-strict : Local r w (suc d) (λ _. d) (case_label limit) (case_label limit')
  unfolding case_label step
  case_label-strict names n t t' gone = passed (case_label-left limit (length r) (input names r n) (omega arith))
  case_label-strict names n t t' (more s h) = search (local-rules, agree-bind r w d, expr-at (parts-local r w d limit limit' c c'), (parts-left limit).expr)

  name-settles : (x : List ℕ) (names : List Binding) (n : ℕ) (t t' : List (Option Symbol)) → Near r w d t t'
      → Settles r w false d (label_by limit (Some (Identifier x)) (input names (Some (Identifier x) ∷ t) n)) (label_by limit' (Some (Identifier x)) (input names (Some (Identifier x) ∷ t') n))
  unfolding is_typedef_name sees ahead step
  name-settles x names n t t' h =
      near-cases (λ t t'. Near r w d t t' → Settles r w false d (label_by limit (Some (Identifier x)) (input names (Some (Identifier x) ∷ t) n)) (label_by limit' (Some (Identifier x)) (input names (Some (Identifier x) ∷ t') n))) h
      (λ _. name-last r w d x names n (is_typedef_name (input names r n) x) refl (sees m.Colon (input names r n)) (sees m.Colon (input names w n)))
      (λ s u u' h. settled (search (local-rules, more (Some (Identifier x)) h, agree-bind r w d, name_label-strict r w d)))
      h

  label-by-settles : (s : Option Symbol) (names : List Binding) (n : ℕ) (t t' : List (Option Symbol)) → Near r w d t t' → Settles r w false d (label_by limit s (input names (s ∷ t) n)) (label_by limit' s (input names (s ∷ t') n))
  label-by-settles (Some (Reserved k.Case)) names n t t' h = settled (search (local-rules, more, agree-bind r w d, case_label-strict))
  label-by-settles (Some (Reserved k.Default)) names n t t' h = settled (search (local-rules, more, agree-bind r w d, default_label-strict r w d))
  label-by-settles (Some (Identifier x)) names n t t' h = name-settles x names n t t' h
  label-by-settles None names n t t' h = settled (answers (more None h))
  label-by-settles (Some s) names n t t' h = settled (answers (more (Some s) h))

  label-settles : (names : List Binding) (n : ℕ) (t t' : List (Option Symbol)) → Near r w (suc d) t t' → Settles r w false d (label limit (input names t n)) (label limit' (input names t' n))
  unfolding label ahead
  label-settles names n t t' gone = settled (passed (label-left limit (length r) (input names r n) (omega arith)))
  label-settles names n t t' (more s h) = label-by-settles s names n _ _ h

pub labels-upto : (r w : List (Option Symbol)) (limit limit' d : ℕ) (c : d ≤ limit) (c' : d ≤ limit') (names : List Binding) (n : ℕ) (t t' : List (Option Symbol)) → Near r w d t t' → Upto r w false d (labels limit (input names t n)) (labels limit' (input names t' n))
unfolding labels
labels-upto r w limit limit' d c c' = while-upto r w false [] (label limit) (label limit') (label-left limit) d (λ j e. label-settles r w limit limit' j (omega (arith, e, c)) (omega (arith, e, c')))

label-typed : (limit : ℕ) (r : List (Option Symbol)) (names : List Binding) (n : ℕ) (x : List ℕ) → is_typedef_name (input names r n) x ≡ true → Left (length r) (label limit (input names (Some (Identifier x) ∷ r) n))
unfolding label ahead is_typedef_name
label-typed limit r names n x e =
    let i = input names (Some (Identifier x) ∷ r) n in
    left-chosen (sees m.Colon (step i) || is_typedef_name i x) (before_label <$> name_label x) (pure None) i (or-true (sees m.Colon (step i)) (is_typedef_name i x) e) (label-read r x names n)

-- a typedef name at the beginning of labels is read
pub labels-typed : (limit : ℕ) (r : List (Option Symbol)) (names : List Binding) (n : ℕ) (x : List ℕ) → is_typedef_name (input names r n) x ≡ true → Left (length r) (labels limit (input names (Some (Identifier x) ∷ r) n))
unfolding labels
labels-typed limit r names n x e = while-first [] (label limit) (label-left limit) (length r) (input names (Some (Identifier x) ∷ r) n) (label-typed limit r names n x e)

-- The labels of statements: each number stands once, the numbers of cases and defaults are those that were given since, and each
-- named label is that of its name. Said by sums, which add up along the text.
use Rattle.std.specs.Prelude.{ℕ, ◌≡◌, ◌<◌, ◌≤◌, ◌+◌, ◌-◌, ◌*◌, ◌%◌, ◌^◌, ◌==◌, if◌then◌else◌, Bool, true, false, not, ◌&&◌, nat_eq, nat_le, Option, None, Some, is_some, unwrap_or, option_map, option_to_list, List, [], ◌∷◌, ◌++◌, length, map, All, Contains, refl}
use Rattle.std.specs.List.{IsDistinct}
use Rattle.std.specs.Option.{option_map_or}
use Rattle.std.proofs.Common.{arith, ap, sym, subst, ◌∙◌, append-nil, append_assoc}
use Rattle.std.proofs.lemmas.Bool.{eqb-true, eqb-false}
use Rattle.std.proofs.lemmas.Nat.{mod_below}
use Rattle.std.proofs.lemmas.List.Elements.{All-nil, All-cons, All-append}
use Rattle.pw_value.specs.Values.{extended}
use Rattle.pw_tree.specs.FirstTokens.{first_of_expr}
use Rattle.pw_tree.specs.Trees.{Word, Expr, Stmt, Alternative, Block, Stmts, Label, Decl}
use Rattle.pw_tree.specs.Trees as S
use Rattle.pw_types.specs.Conversions.{size_of_kind, is_signed_kind}
use Rattle.pw_types.specs.declared.kind.IntKind.{IntKind}
use Rattle.pw_types.specs.declared.kind.IntKind.TheVariants as K
use Rattle.pw_types.specs.Labels.{labels_in, labels_among, labels_of_arms, labels_behind, cases_in, cases_among, cases_of_arms, cases_behind}
use Rattle.pw_types.specs.TypeTrees.{Int}
use Rattle.pw_types.specs.TypedTrees.{Expression, Statement, CaseValue, LocalValue, FunctionValue}
use Rattle.pw_types.specs.TypedModules.{AreLabels}
use Rattle.pw_types.specs.TypedTrees as T
use Rattle.pw_types.specs.WellTyped.{IsNumber, type_in}
use Rattle.pw_check_walk.specs.Walks.{Walk, Done, bind}
use Rattle.pw_check_rules.specs.Constants.{constant_value, convert_word}
use Rattle.pw_check_rules.specs.Kinds.{kind_in}
use Rattle.pw_check_rules.specs.Leaves.{is_nil}
use Rattle.pw_check_rules.specs.States.{State, Rule, BodyState, SwitchState, one_deeper, scoped}
use Rattle.pw_check_rules.specs.Statements as R
use Rattle.pw_check_rules.specs.Statements.{case_rule, new_label, inside_switch, default_rule, name_label_rule, label_rule, labels_rule, whole_rule, optional_rule, condition_rule, optional_condition, switch_rule, in_switch, in_loop, return_rule, stmt_rule, alternative_rule, block_rule, stmts_rule, first_switch, change_switches, switch_kind, has_case, has_default, switch_of, tail_of, names_of_labels}
use Rattle.pw_law_checked.specs.Lawful.{IsLawful}
use Rattle.pw_law_checked.proofs.Bare.{Bare, Going, statement_of, bare_post}
use Rattle.pw_law_checked.proofs.Walking.{Post, post_bind, post_weaken, truth}
use Rattle.pw_law_checked.proofs.Lists.{Longer}
use Rattle.pw_law_checked.proofs.Types.{no, not_true}
use Rattle.pw_law_checked.proofs.Locals.{longer_same}
use Rattle.pw_check_rules.specs.Functions.{numbers_below}
use Rattle.pw_law_checked.proofs.Places.{word_kept}
use Rattle.pw_law_checked.proofs.States.{Fine, FineValue, goes_on, Grows}
use Rattle.pw_law_checked.proofs.Operations.{value_runs}
use Rattle.pw_law_checked.proofs.Phrases.{expr_post}
use Rattle.pw_law_checked.proofs.Changes.{deeper_lawful, left_lawful_alone}
use Rattle.pw_law_checked.proofs.Keeping.{around}
use Rattle.pw_law_checked.proofs.Adding.{decls_declare}
use Rattle.pw_law_checked.proofs.Counting.{one, times, times_of, below, times_append, below_least, below_more, below_so, times_numbers, numbers_once, contained, none_any, number_among, AreApart, apart_more, distinct_once, all_times, equal_itself}

-- ---- the switches around

-- the labels of the innermost one so far
abbrev pub labels_of_switch : SwitchState → List ℕ
labels_of_switch w = map (λ c. c.label) w.cases ++ option_to_list w.default

abbrev pub pending : List SwitchState → List ℕ
pending [] = []
pending (w ∷ rest) = labels_of_switch w

-- the cases of a switch, whose value is as wide as a word: numbers of its type, which differ
pub record AreCases (w : SwitchState) : Type 0 where
  pub numbers : All (λ c. IsNumber (Int w.kind) c.value) w.cases
  pub apart : (v : ℕ) → times_of v (map (λ c. c.value) w.cases) ≤ 1

abbrev pub AreSound : List SwitchState → Type 0
AreSound [] = Unit {0}
AreSound (w ∷ rest) = size_of_kind w.kind ≡ 4 → AreCases w

abbrev first_kind : List SwitchState → IntKind
first_kind ws = switch_kind (first_switch ws)

-- ---- what statements leave as it was

pub record Steady (a b : BodyState) : Type 0 where
  pub names : b.names ≡ a.names
  pub result : b.result ≡ a.result
  pub loops : b.loops ≡ a.loops
  pub nested : is_nil b.switches ≡ is_nil a.switches
  pub outer : tail_of b.switches ≡ tail_of a.switches
  pub kinds : first_kind b.switches ≡ first_kind a.switches
  pub sound : AreSound a.switches → AreSound b.switches
  pub apart : AreApart a.met → AreApart b.met
  pub locals : Longer a.locals b.locals

pub steady_same : (a : BodyState) → Steady a a
steady_same a = record { names = refl; result = refl; loops = refl; nested = refl; outer = refl; kinds = refl; sound = λ h. h; apart = λ h. h; locals = longer_same a.locals }

pub steady_trans : {a b c : BodyState} → Steady a b → Steady b c → Steady a c
steady_trans {a} {b} {c} x y = record {
  names = y.names ∙ x.names;
  result = y.result ∙ x.result;
  loops = y.loops ∙ x.loops;
  nested = y.nested ∙ x.nested;
  outer = y.outer ∙ x.outer;
  kinds = y.kinds ∙ x.kinds;
  sound = λ h. y.sound (x.sound h);
  apart = λ h. y.apart (x.apart h);
  locals = λ i l e. y.locals i l (x.locals i l e);
}

-- how often the number is that of a name that was met
abbrev pub met_times : ℕ → BodyState → ℕ
met_times l b = times (λ name. nat_eq l (number_among b.names name)) b.met

-- the names, labels and cases of a statement, from the function's state before it to that behind it
pub record Labels (a b : BodyState) (names : List (List ℕ)) (labels cases : List ℕ) : Type 0 where
  pub met : b.met ≡ a.met ++ names
  pub numbers : (l : ℕ) → times_of l labels + below l a.labels + met_times l a ≡ below l b.labels + met_times l b
  pub uses : (l : ℕ) → times_of l cases + times_of l (pending b.switches) + below l a.labels ≡ times_of l (pending a.switches) + below l b.labels

pub labels_none : (a : BodyState) → Labels a a [] [] []
labels_none a = record { met = sym (append-nil a.met); numbers = λ l. omega arith; uses = λ l. omega arith }

pub labels_then : {a b c : BodyState} (n1 n2 : List (List ℕ)) (l1 l2 c1 c2 : List ℕ) → Labels a b n1 l1 c1 → Labels b c n2 l2 c2 → Labels a c (n1 ++ n2) (l1 ++ l2) (c1 ++ c2)
labels_then {a} {b} {c} n1 n2 l1 l2 c1 c2 x y = record {
  met = y.met ∙ (ap (λ xs. xs ++ n2) x.met ∙ append_assoc a.met n1 n2);
  numbers = λ l.
      let s : times_of l (l1 ++ l2) ≡ times_of l l1 + times_of l l2 = times_append (nat_eq l) l1 l2 in
      let h : times_of l l1 + below l a.labels + met_times l a ≡ below l b.labels + met_times l b = x.numbers l in
      let k : times_of l l2 + below l b.labels + met_times l b ≡ below l c.labels + met_times l c = y.numbers l in
      omega (arith, s, h, k);
  uses = λ l.
      let s : times_of l (c1 ++ c2) ≡ times_of l c1 + times_of l c2 = times_append (nat_eq l) c1 c2 in
      let h : times_of l c1 + times_of l (pending b.switches) + below l a.labels ≡ times_of l (pending a.switches) + below l b.labels = x.uses l in
      let k : times_of l c2 + times_of l (pending c.switches) + below l b.labels ≡ times_of l (pending b.switches) + below l c.labels = y.uses l in
      omega (arith, s, h, k);
}

-- ---- a case or a default more

equal_flip : (a b : ℕ) → nat_eq a b ≡ nat_eq b a
equal_flip a b = by (nat_eq a b) refl (nat_eq b a) refl
  where
    by : (x : Bool) → nat_eq a b ≡ x → (y : Bool) → nat_eq b a ≡ y → x ≡ y
    by true e true f = refl
    by true e false f = absurd (eqb-false b a f (sym (eqb-true a b e)))
    by false e true f = absurd (eqb-false a b e (sym (eqb-true b a f)))
    by false e false f = refl

values_times : (v : ℕ) (cs : List CaseValue) → times_of v (map (λ c. c.value) cs) ≡ times (λ (c : CaseValue). c.value == v) cs
values_times v [] = refl
values_times v (c ∷ cs) =
    let h : times_of v (map (λ (x : CaseValue). x.value) cs) ≡ times (λ (x : CaseValue). x.value == v) cs = values_times v cs in
    let k : one (nat_eq v c.value) ≡ one (nat_eq c.value v) = ap one (equal_flip v c.value) in
    omega (arith, h, k)

map_more : {X Y : Type 0} (f : X → Y) (xs : List X) (x : X) → map f (xs ++ x ∷ []) ≡ map f xs ++ f x ∷ []
map_more f [] x = refl
map_more f (y ∷ xs) x = ap (λ zs. f y ∷ zs) (map_more f xs x)

abbrev with_case : CaseValue → SwitchState → SwitchState
with_case c w = record w { cases = w.cases ++ c ∷ [] }

abbrev with_default : ℕ → SwitchState → SwitchState
with_default n w = record w { default = Some n }

case_pending : (ws : List SwitchState) (c : CaseValue) (l : ℕ) → is_nil ws ≡ false → times_of l (pending (change_switches (with_case c) ws)) ≡ times_of l (pending ws) + times_of l (c.label ∷ [])
case_pending [] c l h = no (sym h)
case_pending (w ∷ rest) c l h =
    let a : times_of l (map (λ (x : CaseValue). x.label) (w.cases ++ c ∷ []) ++ option_to_list w.default) ≡ times_of l (map (λ (x : CaseValue). x.label) (w.cases ++ c ∷ [])) + times_of l (option_to_list w.default) =
    times_append (nat_eq l) (map (λ (x : CaseValue). x.label) (w.cases ++ c ∷ [])) (option_to_list w.default) in
    let b : times_of l (map (λ (x : CaseValue). x.label) w.cases ++ option_to_list w.default) ≡ times_of l (map (λ (x : CaseValue). x.label) w.cases) + times_of l (option_to_list w.default) =
    times_append (nat_eq l) (map (λ (x : CaseValue). x.label) w.cases) (option_to_list w.default) in
    let d : times_of l (map (λ (x : CaseValue). x.label) (w.cases ++ c ∷ [])) ≡ times_of l (map (λ (x : CaseValue). x.label) w.cases ++ c.label ∷ []) = ap (times_of l) (map_more (λ (x : CaseValue). x.label) w.cases c) in
    let e : times_of l (map (λ (x : CaseValue). x.label) w.cases ++ c.label ∷ []) ≡ times_of l (map (λ (x : CaseValue). x.label) w.cases) + times_of l (c.label ∷ []) =
    times_append (nat_eq l) (map (λ (x : CaseValue). x.label) w.cases) (c.label ∷ []) in
    omega (arith, a, b, d, e)

default_pending : (ws : List SwitchState) (n l : ℕ) → is_nil ws ≡ false → has_default (first_switch ws) ≡ false
    → times_of l (pending (change_switches (with_default n) ws)) ≡ times_of l (pending ws) + times_of l (n ∷ [])
default_pending [] n l h k = no (sym h)
default_pending (w ∷ rest) n l h k = by w.default k
  where
    by : (o : Option ℕ) → is_some o ≡ false → times_of l (map (λ (x : CaseValue). x.label) w.cases ++ n ∷ []) ≡ times_of l (map (λ (x : CaseValue). x.label) w.cases ++ option_to_list o) + times_of l (n ∷ [])
    by None f =
        let a : times_of l (map (λ (x : CaseValue). x.label) w.cases ++ n ∷ []) ≡ times_of l (map (λ (x : CaseValue). x.label) w.cases) + times_of l (n ∷ []) = times_append (nat_eq l) (map (λ (x : CaseValue). x.label) w.cases) (n ∷ []) in
        let b : times_of l (map (λ (x : CaseValue). x.label) w.cases ++ []) ≡ times_of l (map (λ (x : CaseValue). x.label) w.cases) + 0 = times_append (nat_eq l) (map (λ (x : CaseValue). x.label) w.cases) [] in
        omega (arith, a, b)
    by (Some m) f = no (sym f)

changed_nil : (f : SwitchState → SwitchState) (ws : List SwitchState) → is_nil (change_switches f ws) ≡ is_nil ws
changed_nil f [] = refl
changed_nil f (w ∷ rest) = refl

changed_tail : (f : SwitchState → SwitchState) (ws : List SwitchState) → tail_of (change_switches f ws) ≡ tail_of ws
changed_tail f [] = refl
changed_tail f (w ∷ rest) = refl

changed_kind : (f : SwitchState → SwitchState) → ((w : SwitchState) → (f w).kind ≡ w.kind) → (ws : List SwitchState) → first_kind (change_switches f ws) ≡ first_kind ws
changed_kind f same [] = refl
changed_kind f same (w ∷ rest) = same w

-- ---- a case's value

word_extended : (b : Bool) (n : ℕ) → n < 2 ^ 32 → (if b then 2 ^ 32 - (256 ^ 4 - n) else n) ≡ n
word_extended true n h = omega (arith, h)
word_extended false n h = refl

word_is : (k : IntKind) (n : ℕ) → size_of_kind k ≡ 4 → IsNumber (Int k) (convert_word k n)
word_is k n four = (small, word_kept k (convert_word k n) four small)
  where
    small : convert_word k n < 2 ^ 32
    small =
        let h : n % 2 ^ 32 < 2 ^ 32 = mod_below n (2 ^ 32) (omega arith) in
        subst (λ x. x < 2 ^ 32)
        (sym (ap (λ w. extended w (is_signed_kind k) (n % 256 ^ w)) four ∙ word_extended (is_signed_kind k && nat_le (256 ^ 4) (2 * (n % 256 ^ 4))) (n % 256 ^ 4) h)) h

sound_case : (ws : List SwitchState) (n label : ℕ) → has_case (first_switch ws) (convert_word (first_kind ws) n) ≡ false → AreSound ws
    → AreSound (change_switches (with_case (record { value = convert_word (first_kind ws) n; label = label })) ws)
sound_case [] n label fresh h = tt
sound_case (w ∷ rest) n label fresh h = λ four. record {
  numbers = All-append (λ (c : CaseValue). IsNumber (Int w.kind) c.value) w.cases (record { value = convert_word w.kind n; label = label } ∷ []) (h four).numbers
      (All-cons (λ (c : CaseValue). IsNumber (Int w.kind) c.value) (record { value = convert_word w.kind n; label = label }) [] (word_is w.kind n four) (All-nil (λ (c : CaseValue). IsNumber (Int w.kind) c.value)));
  apart = λ v. once v (nat_eq v (convert_word w.kind n)) refl (h four);
}
  where
    once : (v : ℕ) (b : Bool) → nat_eq v (convert_word w.kind n) ≡ b → AreCases w → times_of v (map (λ (c : CaseValue). c.value) (w.cases ++ record { value = convert_word w.kind n; label = label } ∷ [])) ≤ 1
    once v b e cases =
        let a : times_of v (map (λ (c : CaseValue). c.value) (w.cases ++ record { value = convert_word w.kind n; label = label } ∷ [])) ≡ times_of v (map (λ (c : CaseValue). c.value) w.cases ++ convert_word w.kind n ∷ []) =
        ap (times_of v) (map_more (λ (c : CaseValue). c.value) w.cases (record { value = convert_word w.kind n; label = label })) in
        let d : times_of v (map (λ (c : CaseValue). c.value) w.cases ++ convert_word w.kind n ∷ []) ≡ times_of v (map (λ (c : CaseValue). c.value) w.cases) + (one (nat_eq v (convert_word w.kind n)) + 0) =
        times_append (nat_eq v) (map (λ (c : CaseValue). c.value) w.cases) (convert_word w.kind n ∷ []) in
        let f : times_of v (map (λ (c : CaseValue). c.value) w.cases) ≤ 1 = cases.apart v in
        let g : times_of v (map (λ (c : CaseValue). c.value) w.cases) + one (nat_eq v (convert_word w.kind n)) ≤ 1 = by b e f in
        omega (arith, a, d, g)
      where
        by : (b : Bool) → nat_eq v (convert_word w.kind n) ≡ b → times_of v (map (λ (c : CaseValue). c.value) w.cases) ≤ 1 → times_of v (map (λ (c : CaseValue). c.value) w.cases) + one (nat_eq v (convert_word w.kind n)) ≤ 1
        by true e f =
            let same : v ≡ convert_word w.kind n = eqb-true v (convert_word w.kind n) e in
            let zero_times : times_of v (map (λ (c : CaseValue). c.value) w.cases) ≡ 0 =
            subst (λ x. times_of x (map (λ (c : CaseValue). c.value) w.cases) ≡ 0) (sym same)
            (values_times (convert_word w.kind n) w.cases ∙ none_any (λ (c : CaseValue). c.value == convert_word w.kind n) w.cases fresh) in
            let h : one (nat_eq v (convert_word w.kind n)) ≡ 1 = ap one e in
            omega (arith, zero_times, h)
        by false e f = let h : one (nat_eq v (convert_word w.kind n)) ≡ 0 = ap one e in omega (arith, f, h)

-- ---- rules

-- a lawful state, with the names, labels and cases since the first
abbrev pub Labelled : BodyState → List (List ℕ) → List ℕ → List ℕ → State → Type 0
Labelled a names labels cases t = IsLawful t × Steady a t.body × Labels a t.body names labels cases

pub labelled_quiet : (a : BodyState) (t : State) → IsLawful t → t.body ≡ a → Labelled a [] [] [] t
labelled_quiet a t l same = (l, subst (Steady a) (sym same) (steady_same a), subst (λ b. Labels a b [] [] []) (sym same) (labels_none a))

pub labelled_then : (a : BodyState) (t u : State) (n1 n2 : List (List ℕ)) (l1 l2 c1 c2 : List ℕ) → Labelled a n1 l1 c1 t → Labelled t.body n2 l2 c2 u → Labelled a (n1 ++ n2) (l1 ++ l2) (c1 ++ c2) u
labelled_then a t u n1 n2 l1 l2 c1 c2 x y = (y.0, steady_trans x.1 y.1, labels_then n1 n2 l1 l2 c1 c2 x.2 y.2)

labelled_from : (a b : BodyState) (t : State) (names : List (List ℕ)) (labels cases : List ℕ) → b ≡ a → Labelled b names labels cases t → Labelled a names labels cases t
labelled_from a b t names labels cases same h = subst (λ x. Labelled x names labels cases t) same h

-- rules that leave the function as it was
abbrev pub Quietly : {A : Type 0} → State → A × State → Type 0
Quietly s r = IsLawful r.1 × (r.1.body ≡ s.body)

pub value_then : {B : Type 0} (s : State) (e : Expr) (next : Expression × State → Walk (B × State)) (P : B × State → Type 0) → IsLawful s
    → ((r : Expression × State) → IsLawful r.1 → r.1.body ≡ s.body → Post (next r) P) → Post (bind (Rattle.pw_check_rules.specs.Phrases.expr_rule e s) (λ t. bind (Rattle.pw_check_rules.specs.Operators.value_rule t.0 t.1) next)) P
value_then {B} s e next P l k =
    post_bind (Rattle.pw_check_rules.specs.Phrases.expr_rule e s) _ (λ r. IsLawful r.1 × Grows s r.1 × Fine r.1 r.0) P (expr_post e s l) (λ r g.
    post_bind (Rattle.pw_check_rules.specs.Operators.value_rule r.0 r.1) next (λ u. IsLawful u.1 × Grows r.1 u.1 × FineValue u.1 u.0) P (value_runs r.1 r.0 g.0 g.2) (λ u f. k u f.0 (f.1.body ∙ g.1.body)))

whole_quiet : (s : State) (e : Expr) → IsLawful s → Post (whole_rule e s) (Quietly s)
unfolding whole_rule
whole_quiet s e l =
    post_weaken _ (λ r. IsLawful r.1 × Grows s r.1 × FineValue r.1 r.0) (Quietly s)
    (goes_on _ _ Fine FineValue (expr_post e s l) (λ r m g f. value_runs r.1 r.0 m f)) (λ r g. (g.0, g.1.body))

optional_quiet : (s : State) (e : Option Expr) → IsLawful s → Post (optional_rule e s) (Quietly s)
unfolding optional_rule bind
optional_quiet s None l = (l, refl)
optional_quiet s (Some e) l = post_bind (whole_rule e s) _ (Quietly s) (Quietly s) (whole_quiet s e l) (λ r g. g)

condition_quiet : (s : State) (t : ℕ) (e : Expr) → IsLawful s → Post (condition_rule t e s) (Quietly s)
unfolding condition_rule bind
condition_quiet s t e l = post_bind (whole_rule e s) _ (Quietly s) (Quietly s) (whole_quiet s e l) (λ r g met. g)

optional_condition_quiet : (s : State) (t : ℕ) (e : Option Expr) → IsLawful s → Post (optional_condition t e s) (Quietly s)
unfolding optional_condition bind
optional_condition_quiet s t e l = post_bind (optional_rule e s) _ (Quietly s) (Quietly s) (optional_quiet s e l) (λ r g met. g)

switch_quiet : (s : State) (t : ℕ) (e : Expr) → IsLawful s → Post (switch_rule t e s) (Quietly s)
unfolding switch_rule bind
switch_quiet s t e l = post_bind (whole_rule e s) _ (Quietly s) (Quietly s) (whole_quiet s e l) (λ r g met. g)

return_quiet : (s : State) (t : ℕ) (e : Option Expr) → IsLawful s → Post (return_rule t e s) (λ r. Quietly s r × (labels_in r.0 ≡ []) × (cases_in r.0 ≡ []))
unfolding return_rule bind
return_quiet s t None l = ((l, refl), refl, refl)
return_quiet s t (Some e) l = post_bind (whole_rule e s) _ (Quietly s) (λ r. Quietly s r × (labels_in r.0 ≡ []) × (cases_in r.0 ≡ [])) (whole_quiet s e l) (λ r g met. (g, refl, refl))

-- ---- labels

some_nested : (ws : List SwitchState) → is_some (first_switch ws) ≡ true → is_nil ws ≡ false
some_nested [] h = no h
some_nested (w ∷ rest) h = refl

-- a case has a value, which is none of those before
case_value_sound : (ws : List SwitchState) (o : Option ℕ) (label : ℕ) → is_some o ≡ true → not (option_map_or (has_case (first_switch ws)) (option_map (convert_word (first_kind ws)) o) false) ≡ true
    → AreSound ws → AreSound (change_switches (with_case (record { value = unwrap_or (option_map (convert_word (first_kind ws)) o) 0; label = label })) ws)
case_value_sound ws None label some fresh h = no some
case_value_sound ws (Some n) label some fresh h = sound_case ws n label (not_true _ fresh) h

case_labelled : (s : State) (first : ℕ) (e : Expression) → IsLawful s → is_nil s.body.switches ≡ false → Post (case_rule first e s) (λ r. Labelled s.body [] (r.0 ∷ []) [] r.1)
unfolding case_rule new_label bind
case_labelled s first e l nested = λ met.
    let c : CaseValue = record { value = unwrap_or (option_map (convert_word (first_kind s.body.switches)) (constant_value e)) 0; label = s.body.labels } in (
      (around s s.made (record s.body { labels = s.body.labels + 1; switches = change_switches (with_case (record { value = unwrap_or (option_map (convert_word (first_kind s.body.switches)) (constant_value e)) 0; label = s.body.labels })) s.body.switches }) l refl).0,
      record {
        names = refl;
        result = refl;
        loops = refl;
        nested = changed_nil (with_case c) s.body.switches;
        outer = changed_tail (with_case c) s.body.switches;
        kinds = changed_kind (with_case c) (λ w. refl) s.body.switches;
        sound = case_value_sound s.body.switches (constant_value e) s.body.labels (truth _ met.0) (truth _ met.1.0);
        apart = λ h. h;
        locals = longer_same s.body.locals;
      },
      record {
        met = sym (append-nil s.body.met);
        numbers = λ n. let h : below n (s.body.labels + 1) ≡ below n s.body.labels + times_of n (s.body.labels ∷ []) = below_more n s.body.labels in omega (arith, h);
        uses = λ n.
            let h : below n (s.body.labels + 1) ≡ below n s.body.labels + times_of n (s.body.labels ∷ []) = below_more n s.body.labels in
            let k : times_of n (pending (change_switches (with_case c) s.body.switches)) ≡ times_of n (pending s.body.switches) + times_of n (s.body.labels ∷ []) = case_pending s.body.switches c n nested in
            omega (arith, h, k);
      },
    )

default_sound : (ws : List SwitchState) (n : ℕ) → AreSound ws → AreSound (change_switches (with_default n) ws)
default_sound [] n h = tt
default_sound (w ∷ rest) n h = λ four. record { numbers = (h four).numbers; apart = (h four).apart }

default_labelled : (s : State) (t : ℕ) → IsLawful s → Post (default_rule t s) (λ r. Labelled s.body [] (r.0 ∷ []) [] r.1)
unfolding default_rule new_label bind
default_labelled s t l = λ met. (
  (around s s.made (record s.body { labels = s.body.labels + 1; switches = change_switches (with_default s.body.labels) s.body.switches }) l refl).0,
  record {
    names = refl;
    result = refl;
    loops = refl;
    nested = changed_nil (with_default s.body.labels) s.body.switches;
    outer = changed_tail (with_default s.body.labels) s.body.switches;
    kinds = changed_kind (with_default s.body.labels) (λ w. refl) s.body.switches;
    sound = default_sound s.body.switches s.body.labels;
    apart = λ h. h;
    locals = longer_same s.body.locals;
  },
  record {
    met = sym (append-nil s.body.met);
    numbers = λ n. let h : below n (s.body.labels + 1) ≡ below n s.body.labels + times_of n (s.body.labels ∷ []) = below_more n s.body.labels in omega (arith, h);
    uses = λ n.
        let h : below n (s.body.labels + 1) ≡ below n s.body.labels + times_of n (s.body.labels ∷ []) = below_more n s.body.labels in
        let k : times_of n (pending (change_switches (with_default s.body.labels) s.body.switches)) ≡ times_of n (pending s.body.switches) + times_of n (s.body.labels ∷ []) =
        default_pending s.body.switches s.body.labels n (some_nested s.body.switches (truth _ met.0)) (not_true _ (truth _ met.1.0)) in
        omega (arith, h, k);
  },
)

name_labelled : (s : State) (w : Word) → IsLawful s → Post (name_label_rule w s) (λ r. Labelled s.body (w.text ∷ []) (r.0 ∷ []) [] r.1)
unfolding name_label_rule bind
name_labelled s w l = λ met. (
  (around s s.made (record s.body { met = s.body.met ++ w.text ∷ [] }) l refl).0,
  record {
    names = refl;
    result = refl;
    loops = refl;
    nested = refl;
    outer = refl;
    kinds = refl;
    sound = λ h. h;
    apart = λ h. apart_more s.body.met w.text h (not_true _ (truth _ met.0));
    locals = longer_same s.body.locals;
  },
  record {
    met = refl;
    numbers = λ n.
        let h : times (λ name. nat_eq n (number_among s.body.names name)) (s.body.met ++ w.text ∷ []) ≡ times (λ name. nat_eq n (number_among s.body.names name)) s.body.met + (one (nat_eq n (number_among s.body.names w.text)) + 0) =
        times_append (λ name. nat_eq n (number_among s.body.names name)) s.body.met (w.text ∷ []) in
        omega (arith, h);
    uses = λ n. omega arith;
  },
)

pub label_labelled : (s : State) (label : Label) → IsLawful s → Post (label_rule label s) (λ r. Labelled s.body (names_of_labels (label ∷ [])) (r.0 ∷ []) [] r.1)
unfolding label_rule inside_switch bind
label_labelled s (S.CaseLabel t e) l = λ met.
    value_then s e (λ x. case_rule (first_of_expr e) x.0 x.1) (λ r. Labelled s.body [] (r.0 ∷ []) [] r.1) l (λ x m same.
    post_weaken (case_rule (first_of_expr e) x.0 x.1) (λ r. Labelled x.1.body [] (r.0 ∷ []) [] r.1) (λ r. Labelled s.body [] (r.0 ∷ []) [] r.1)
    (case_labelled x.1 (first_of_expr e) x.0 m (ap (λ b. is_nil b.switches) same ∙ some_nested s.body.switches (truth _ met.0)))
    (λ r g. labelled_from s.body x.1.body r.1 [] (r.0 ∷ []) [] same g))
label_labelled s (S.DefaultLabel t) l = default_labelled s t l
label_labelled s (S.NameLabel w) l = name_labelled s w l

names_first : (label : Label) (rest : List Label) → names_of_labels (label ∷ []) ++ names_of_labels rest ≡ names_of_labels (label ∷ rest)
names_first (S.CaseLabel t e) rest = refl
names_first (S.DefaultLabel t) rest = refl
names_first (S.NameLabel w) rest = refl

pub labels_labelled : (ls : List Label) (s : State) → IsLawful s → Post (labels_rule ls s) (λ r. Labelled s.body (names_of_labels ls) r.0 [] r.1)
unfolding labels_rule
labels_labelled [] s l = labelled_quiet s.body s l refl
labels_labelled (x ∷ rest) s l =
    post_bind _ _ (λ r. Labelled s.body (names_of_labels (x ∷ [])) (r.0 ∷ []) [] r.1) (λ r. Labelled s.body (names_of_labels (x ∷ rest)) r.0 [] r.1) (label_labelled s x l) (λ r g.
    post_bind _ _ (λ u. Labelled r.1.body (names_of_labels rest) u.0 [] u.1) (λ u. Labelled s.body (names_of_labels (x ∷ rest)) u.0 [] u.1) (labels_labelled rest r.1 g.0) (λ u f.
    subst (λ n. Labelled s.body n (r.0 ∷ u.0) [] u.1) (names_first x rest) (labelled_then s.body r.1 u.1 (names_of_labels (x ∷ [])) (names_of_labels rest) (r.0 ∷ []) u.0 [] [] g f)))

-- ---- switches and loops

abbrev innermost_or : List SwitchState → SwitchState
innermost_or ws = option_map_or (λ (w : SwitchState). w) (first_switch ws) (switch_of K.Int)

-- what a switch is, whose value is as wide as a word
pub record IsSwitchOf (kind : IntKind) (w : SwitchState) (body : Statement) : Type 0 where
  pub cases : size_of_kind kind ≡ 4 → All (λ c. IsNumber (Int kind) c.value) w.cases × IsDistinct nat_eq (map (λ c. c.value) w.cases)
  pub labels : All (λ c. Contains (labels_in body) c.label) w.cases
  pub default_label : (n : ℕ) → w.default ≡ Some n → Contains (labels_in body) n

met_grows : (a b : BodyState) (names : List (List ℕ)) → b.names ≡ a.names → b.met ≡ a.met ++ names → (l : ℕ) → met_times l a ≤ met_times l b
met_grows a b names same met l =
    let h : met_times l b ≡ times (λ name. nat_eq l (number_among a.names name)) (a.met ++ names) =
    ap (λ (xs : List (List ℕ)). times (λ name. nat_eq l (number_among xs name)) b.met) same ∙ ap (times (λ name. nat_eq l (number_among a.names name))) met in
    let k : times (λ name. nat_eq l (number_among a.names name)) (a.met ++ names) ≡ met_times l a + times (λ name. nat_eq l (number_among a.names name)) names =
    times_append (λ name. nat_eq l (number_among a.names name)) a.met names in
    omega (arith, h, k)

all_labels : (P : ℕ → Type 0) (cs : List CaseValue) → ((l : ℕ) → 1 ≤ times_of l (map (λ c. c.label) cs) → P l) → All (λ c. P c.label) cs
all_labels P [] h = All-nil (λ (c : CaseValue). P c.label)
all_labels P (c ∷ cs) h =
    All-cons (λ (x : CaseValue). P x.label) c cs
    (h c.label (let k : one (nat_eq c.label c.label) ≡ 1 = ap one (equal_itself c.label) in omega (arith, k)))
    (all_labels P cs (λ l k. h l (omega (arith, k))))

default_times : (w : SwitchState) (n : ℕ) → w.default ≡ Some n → 1 ≤ times_of n (labels_of_switch w)
default_times w n e =
    let a : times_of n (labels_of_switch w) ≡ times_of n (map (λ (c : CaseValue). c.label) w.cases) + times_of n (option_to_list w.default) = times_append (nat_eq n) (map (λ (c : CaseValue). c.label) w.cases) (option_to_list w.default) in
    let b : times_of n (option_to_list w.default) ≡ one (nat_eq n n) + 0 = ap (λ (o : Option ℕ). times_of n (option_to_list o)) e in
    let c : one (nat_eq n n) ≡ 1 = ap one (equal_itself n) in
    omega (arith, a, b, c)

case_times : (w : SwitchState) (n : ℕ) → 1 ≤ times_of n (map (λ c. c.label) w.cases) → 1 ≤ times_of n (labels_of_switch w)
case_times w n h =
    let a : times_of n (labels_of_switch w) ≡ times_of n (map (λ (c : CaseValue). c.label) w.cases) + times_of n (option_to_list w.default) = times_append (nat_eq n) (map (λ (c : CaseValue). c.label) w.cases) (option_to_list w.default) in
    omega (arith, a, h)

-- the body of a switch, whose cases begin with it
switch_is : (kind : IntKind) (a b : BodyState) (names : List (List ℕ)) (body : Statement) → Steady (record a { switches = switch_of kind ∷ a.switches }) b
    → Labels (record a { switches = switch_of kind ∷ a.switches }) b names (labels_in body) (cases_in body) → (w : SwitchState) (rest : List SwitchState) → b.switches ≡ w ∷ rest → IsSwitchOf kind w body
switch_is kind a b names body x y w rest e = record {
  cases = λ four.
      let same : w.kind ≡ kind = sym (ap first_kind e) ∙ x.kinds in
      let s = subst AreSound e (x.sound (λ f. record { numbers = All-nil (λ (c : CaseValue). IsNumber (Int kind) c.value); apart = λ v. omega arith })) in
      let c = s (ap size_of_kind same ∙ four) in
      (subst (λ k. All (λ (z : CaseValue). IsNumber (Int k) z.value) w.cases) same c.numbers, distinct_once (map (λ (z : CaseValue). z.value) w.cases) c.apart);
  labels = all_labels (Contains (labels_in body)) w.cases (λ l h. there l (case_times w l h));
  default_label = λ n h. there n (default_times w n h);
}
  where
    there : (l : ℕ) → 1 ≤ times_of l (labels_of_switch w) → Contains (labels_in body) l
    there l h =
        let p : times_of l (pending b.switches) ≡ times_of l (labels_of_switch w) = ap (λ ws. times_of l (pending ws)) e in
        let n : times_of l (labels_in body) + below l a.labels + met_times l a ≡ below l b.labels + met_times l b = y.numbers l in
        let u : times_of l (cases_in body) + times_of l (pending b.switches) + below l a.labels ≡ 0 + below l b.labels = y.uses l in
        let m : met_times l a ≤ met_times l b = met_grows a b names x.names y.met l in
        contained l (labels_in body) (omega (arith, p, n, u, m, h))

-- behind the switch
switch_left : (kind : IntKind) (a b : BodyState) → Steady (record a { switches = switch_of kind ∷ a.switches }) b → Steady a (record b { switches = tail_of b.switches })
switch_left kind a b x = record {
  names = x.names;
  result = x.result;
  loops = x.loops;
  nested = ap is_nil x.outer;
  outer = ap tail_of x.outer;
  kinds = ap first_kind x.outer;
  sound = λ h. subst AreSound (sym x.outer) h;
  apart = x.apart;
  locals = x.locals;
}

switch_labels : (kind : IntKind) (a b : BodyState) (names : List (List ℕ)) (labels cases : List ℕ) → Steady (record a { switches = switch_of kind ∷ a.switches }) b
    → Labels (record a { switches = switch_of kind ∷ a.switches }) b names labels cases → (w : SwitchState) (rest : List SwitchState) → b.switches ≡ w ∷ rest
    → Labels a (record b { switches = tail_of b.switches }) names labels (map (λ c. c.label) w.cases ++ (option_to_list w.default ++ cases))
switch_labels kind a b names labels cases x y w rest e = record {
  met = y.met;
  numbers = y.numbers;
  uses = λ l.
      let p : times_of l (pending b.switches) ≡ times_of l (labels_of_switch w) = ap (λ ws. times_of l (pending ws)) e in
      let q : times_of l (pending (tail_of b.switches)) ≡ times_of l (pending a.switches) = ap (λ ws. times_of l (pending ws)) x.outer in
      let u : times_of l cases + times_of l (pending b.switches) + below l a.labels ≡ 0 + below l b.labels = y.uses l in
      let s : times_of l (map (λ (c : CaseValue). c.label) w.cases ++ (option_to_list w.default ++ cases)) ≡ times_of l (labels_of_switch w ++ cases) =
      ap (times_of l) (sym (append_assoc (map (λ (c : CaseValue). c.label) w.cases) (option_to_list w.default) cases)) in
      let t : times_of l (labels_of_switch w ++ cases) ≡ times_of l (labels_of_switch w) + times_of l cases = times_append (nat_eq l) (labels_of_switch w) cases in
      omega (arith, p, q, u, s, t);
}

abbrev pub IsLabelledSwitch : BodyState → IntKind → List (List ℕ) → (Statement × SwitchState) × State → Type 0
IsLabelledSwitch a kind names r =
    Labelled a names (labels_in r.0.0) (map (λ c. c.label) r.0.1.cases ++ (option_to_list r.0.1.default ++ cases_in r.0.0)) r.1 × IsSwitchOf kind r.0.1 r.0.0

pub switch_labelled : (s : State) (e : Expression) (body : Rule Statement) (names : List (List ℕ)) → IsLawful s
    → ((t : State) → IsLawful t → Post (body t) (λ r. Labelled t.body names (labels_in r.0) (cases_in r.0) r.1)) → Post (in_switch e body s) (IsLabelledSwitch s.body (kind_in (type_in e)) names)
unfolding in_switch bind
switch_labelled s e body names l h =
    let kind : IntKind = kind_in (type_in e) in
    let inside : State = R.enter_switch (kind_in (type_in e)) s in
    post_bind (body (R.enter_switch (kind_in (type_in e)) s)) _ (λ r. Labelled (R.enter_switch (kind_in (type_in e)) s).body names (labels_in r.0) (cases_in r.0) r.1) (IsLabelledSwitch s.body (kind_in (type_in e)) names)
    (h (R.enter_switch (kind_in (type_in e)) s) (around s s.made (R.enter_switch (kind_in (type_in e)) s).body l refl).0)
    (λ r g. by r.0 r.1 g r.1.body.switches refl)
  where
    by : (x : Statement) (t : State) → Labelled (R.enter_switch (kind_in (type_in e)) s).body names (labels_in x) (cases_in x) t → (ws : List SwitchState) → t.body.switches ≡ ws
        → IsLabelledSwitch s.body (kind_in (type_in e)) names ((x, innermost_or t.body.switches), R.leave_switch t)
    by x t g [] f = no (sym (sym (ap is_nil f) ∙ g.1.nested))
    by x t g (w ∷ rest) f =
        subst (λ v. IsLabelledSwitch s.body (kind_in (type_in e)) names ((x, v), R.leave_switch t)) (sym (ap innermost_or f)) (
          (
            (around t t.made (R.leave_switch t).body g.0 refl).0,
            switch_left (kind_in (type_in e)) s.body t.body g.1,
            switch_labels (kind_in (type_in e)) s.body t.body names (labels_in x) (cases_in x) g.1 g.2 w rest f,
          ),
          switch_is (kind_in (type_in e)) s.body t.body names x g.1 g.2 w rest f,
        )

abbrev pub with_loop : State → State
with_loop s = record s { body = record s.body { loops = s.body.loops + 1 } }

pub loop_labelled : (s : State) (body : Rule Statement) (names : List (List ℕ)) → IsLawful s
    → ((t : State) → IsLawful t → Post (body t) (λ r. Labelled t.body names (labels_in r.0) (cases_in r.0) r.1)) → Post (in_loop body s) (λ r. Labelled s.body names (labels_in r.0) (cases_in r.0) r.1)
unfolding in_loop bind
loop_labelled s body names l h =
    post_bind (body (with_loop s)) _ (λ r. Labelled (with_loop s).body names (labels_in r.0) (cases_in r.0) r.1) (λ r. Labelled s.body names (labels_in r.0) (cases_in r.0) r.1)
    (h (with_loop s) (around s s.made (with_loop s).body l refl).0)
    (λ r g. (
      (around r.1 r.1.made (record r.1.body { loops = r.1.body.loops - 1 }) g.0 refl).0,
      record {
        names = g.1.names;
        result = g.1.result;
        loops = let e : r.1.body.loops ≡ s.body.loops + 1 = g.1.loops in omega (arith, e);
        nested = g.1.nested;
        outer = g.1.outer;
        kinds = g.1.kinds;
        sound = g.1.sound;
        apart = g.1.apart;
        locals = g.1.locals;
      },
      record { met = g.2.met; numbers = g.2.numbers; uses = g.2.uses },
    ))

-- ---- declarations and blocks

pub adds_steady : (a : BodyState) (locals : List LocalValue) → Longer a.locals locals → Steady a (record a { locals = locals }) × Labels a (record a { locals = locals }) [] [] []
adds_steady a locals more = (
  record { names = refl; result = refl; loops = refl; nested = refl; outer = refl; kinds = refl; sound = λ h. h; apart = λ h. h; locals = more },
  record { met = sym (append-nil a.met); numbers = λ l. omega arith; uses = λ l. omega arith },
)

decls_labelled : (s : State) (ds : List Decl) → IsLawful s → Post (Rattle.pw_check_rules.specs.Declarations.decls_rule ds s) (λ r. Labelled s.body [] [] [] r.1)
decls_labelled s ds l =
    post_weaken _ _ (λ r. Labelled s.body [] [] [] r.1) (decls_declare ds s l) (λ r g.
    let k = adds_steady s.body r.1.body.locals g.2.0.locals in
    (g.0, subst (Steady s.body) (sym g.2.0.steady) k.0, subst (λ b. Labels s.body b [] [] []) (sym g.2.0.steady) k.1))

scoped_labelled : (s : State) (inside : Rule Statement) (names : List (List ℕ)) → Post (inside (one_deeper s)) (λ r. Labelled s.body names (labels_in r.0) (cases_in r.0) r.1)
    → Post (scoped inside s) (λ r. Labelled s.body names (labels_in r.0) (cases_in r.0) r.1)
unfolding scoped bind
scoped_labelled s inside names h =
    post_bind (inside (one_deeper s)) _ (λ r. Labelled s.body names (labels_in r.0) (cases_in r.0) r.1) (λ r. Labelled s.body names (labels_in r.0) (cases_in r.0) r.1) h
    (λ r g. (left_lawful_alone r.1 g.0, g.1, g.2))

-- ---- simple statements

pub asked_post : {A B : Type 0} (s : State) (a : A) (next : A × State → Walk (B × State)) (P : B × State → Type 0) → Post (next (a, s)) P → Post (bind (Done (a, s)) next) P
unfolding bind
asked_post s a next P h = h

bare_labelled : (s : State) → IsLawful s → (b : Bare) → Labelled s.body [] (labels_in (statement_of b)) (cases_in (statement_of b)) s
bare_labelled s l (Going t n) = labelled_quiet s.body s l refl
bare_labelled s l b = labelled_quiet s.body s l refl

-- an arm before those behind it
arms_labelled : (a : BodyState) (r u : State) (n1 n2 : List (List ℕ)) (body : Statement) (rest : R.Behind) → Labelled a n1 (labels_in body) (cases_in body) r
    → Labelled r.body n2 (labels_of_arms rest.arms ++ labels_behind rest.otherwise) (cases_of_arms rest.arms ++ cases_behind rest.otherwise) u
    → Labelled a (n1 ++ n2) ((labels_in body ++ labels_of_arms rest.arms) ++ labels_behind rest.otherwise) ((cases_in body ++ cases_of_arms rest.arms) ++ cases_behind rest.otherwise) u
arms_labelled a r u n1 n2 body rest g f =
    subst (λ n. Labelled a (n1 ++ n2) n ((cases_in body ++ cases_of_arms rest.arms) ++ cases_behind rest.otherwise) u) (sym (append_assoc (labels_in body) (labels_of_arms rest.arms) (labels_behind rest.otherwise)))
    (subst (λ n. Labelled a (n1 ++ n2) (labels_in body ++ (labels_of_arms rest.arms ++ labels_behind rest.otherwise)) n u) (sym (append_assoc (cases_in body) (cases_of_arms rest.arms) (cases_behind rest.otherwise)))
    (labelled_then a r u n1 n2 (labels_in body) (labels_of_arms rest.arms ++ labels_behind rest.otherwise) (cases_in body) (cases_of_arms rest.arms ++ cases_behind rest.otherwise) g f))

-- ---- statements

abbrev pub IsLabelled : BodyState → List (List ℕ) → Statement × State → Type 0
IsLabelled a names r = Labelled a names (labels_in r.0) (cases_in r.0) r.1

abbrev pub AreLabelled : BodyState → List (List ℕ) → T.Statements × State → Type 0
AreLabelled a names r = Labelled a names (labels_among r.0) (cases_among r.0) r.1

abbrev pub IsLabelledBehind : BodyState → List (List ℕ) → R.Behind × State → Type 0
IsLabelledBehind a names r = Labelled a names (labels_of_arms r.0.arms ++ labels_behind r.0.otherwise) (cases_of_arms r.0.arms ++ cases_behind r.0.otherwise) r.1

mutual
  unfolding stmt_rule R.labels_in

  pub stmt_labelled : (st : Stmt) (s : State) → IsLawful s → Post (stmt_rule st s) (IsLabelled s.body (R.labels_in st))
  stmt_labelled (S.Compound b) s l = scoped_labelled s (block_rule b) (R.labels_in_block b) (block_labelled b (one_deeper s) (deeper_lawful s l))
  stmt_labelled (S.Expression e) s l = value_then s e _ (IsLabelled s.body []) l (λ r m same. labelled_quiet s.body r.1 m same)
  stmt_labelled (S.Labeled ls st) s l =
      post_bind _ _ (λ r. Labelled s.body (names_of_labels ls) r.0 [] r.1) (IsLabelled s.body (names_of_labels ls ++ R.labels_in st)) (labels_labelled ls s l) (λ r g.
      post_bind _ _ (IsLabelled r.1.body (R.labels_in st)) (IsLabelled s.body (names_of_labels ls ++ R.labels_in st)) (stmt_labelled st r.1 g.0) (λ u f.
      labelled_then s.body r.1 u.1 (names_of_labels ls) (R.labels_in st) r.0 (labels_in u.0) [] (cases_in u.0) g f))
  stmt_labelled (S.If t c st a) s l =
      post_bind _ _ (Quietly s) (IsLabelled s.body (R.labels_in st ++ R.labels_in_alternative a)) (condition_quiet s t c l) (λ q k.
      post_bind _ _ (IsLabelled q.1.body (R.labels_in st)) (IsLabelled s.body (R.labels_in st ++ R.labels_in_alternative a)) (stmt_labelled st q.1 k.0) (λ r g.
      post_bind _ _ (IsLabelledBehind r.1.body (R.labels_in_alternative a)) (IsLabelled s.body (R.labels_in st ++ R.labels_in_alternative a)) (alternative_labelled a r.1 g.0) (λ u f.
      labelled_from s.body q.1.body u.1 _ _ _ k.1 (arms_labelled q.1.body r.1 u.1 (R.labels_in st) (R.labels_in_alternative a) r.0 u.0 g f))))
  stmt_labelled (S.Switch t e st) s l =
      post_bind _ _ (Quietly s) (IsLabelled s.body (R.labels_in st)) (switch_quiet s t e l) (λ q k.
      post_bind _ _ (IsLabelledSwitch q.1.body (kind_in (type_in q.0)) (R.labels_in st)) (IsLabelled s.body (R.labels_in st)) (switch_labelled q.1 q.0 (stmt_rule st) (R.labels_in st) k.0 (λ v i. stmt_labelled st v i)) (λ r g.
      labelled_from s.body q.1.body r.1 _ _ _ k.1 g.0))
  stmt_labelled (S.While t e st) s l =
      post_bind _ _ (Quietly s) (IsLabelled s.body (R.labels_in st)) (condition_quiet s t e l) (λ q k.
      post_bind _ _ (IsLabelled q.1.body (R.labels_in st)) (IsLabelled s.body (R.labels_in st)) (loop_labelled q.1 (stmt_rule st) (R.labels_in st) k.0 (λ v i. stmt_labelled st v i)) (λ r g.
      labelled_from s.body q.1.body r.1 _ _ _ k.1 g))
  stmt_labelled (S.Do t st e) s l =
      post_bind _ _ (IsLabelled s.body (R.labels_in st)) (IsLabelled s.body (R.labels_in st)) (loop_labelled s (stmt_rule st) (R.labels_in st) l (λ v i. stmt_labelled st v i)) (λ r g.
      post_bind _ _ (Quietly r.1) (IsLabelled s.body (R.labels_in st)) (condition_quiet r.1 t e g.0) (λ u k.
      (k.0, subst (Steady s.body) (sym k.1) g.1, subst (λ b. Labels s.body b (R.labels_in st) (labels_in r.0) (cases_in r.0)) (sym k.1) g.2)))
  stmt_labelled (S.For t a b c st) s l =
      post_bind _ _ (Quietly s) (IsLabelled s.body (R.labels_in st)) (optional_quiet s a l) (λ x h.
      post_bind _ _ (Quietly x.1) (IsLabelled s.body (R.labels_in st)) (optional_condition_quiet x.1 t b h.0) (λ y i.
      post_bind _ _ (Quietly y.1) (IsLabelled s.body (R.labels_in st)) (optional_quiet y.1 c i.0) (λ q k.
      post_bind _ _ (IsLabelled q.1.body (R.labels_in st)) (IsLabelled s.body (R.labels_in st)) (loop_labelled q.1 (stmt_rule st) (R.labels_in st) k.0 (λ v j. stmt_labelled st v j)) (λ r g.
      labelled_from s.body q.1.body r.1 _ _ _ (k.1 ∙ (i.1 ∙ h.1)) g))))
  stmt_labelled (S.Return t e) s l =
      post_weaken _ (λ r. Quietly s r × (labels_in r.0 ≡ []) × (cases_in r.0 ≡ [])) (IsLabelled s.body []) (return_quiet s t e l)
      (λ r g. subst (λ n. Labelled s.body [] n (cases_in r.0) r.1) (sym g.1) (subst (λ n. Labelled s.body [] [] n r.1) (sym g.2) (labelled_quiet s.body r.1 g.0.0 g.0.1)))
  stmt_labelled st s l = bare_post (IsLabelled s.body []) st refl s (bare_labelled s l)

  pub alternative_labelled : (a : Alternative) (s : State) → IsLawful s → Post (alternative_rule a s) (IsLabelledBehind s.body (R.labels_in_alternative a))
  alternative_labelled S.NoElse s l = labelled_quiet s.body s l refl
  alternative_labelled (S.Otherwise st) s l = post_bind _ _ (IsLabelled s.body (R.labels_in st)) (IsLabelledBehind s.body (R.labels_in st)) (stmt_labelled st s l) (λ r g. g)
  alternative_labelled (S.ElseIf t c st a) s l =
      post_bind _ _ (Quietly s) (IsLabelledBehind s.body (R.labels_in st ++ R.labels_in_alternative a)) (condition_quiet s t c l) (λ q k.
      post_bind _ _ (IsLabelled q.1.body (R.labels_in st)) (IsLabelledBehind s.body (R.labels_in st ++ R.labels_in_alternative a)) (stmt_labelled st q.1 k.0) (λ r g.
      post_bind _ _ (IsLabelledBehind r.1.body (R.labels_in_alternative a)) (IsLabelledBehind s.body (R.labels_in st ++ R.labels_in_alternative a)) (alternative_labelled a r.1 g.0) (λ u f.
      labelled_from s.body q.1.body u.1 _ _ _ k.1 (arms_labelled q.1.body r.1 u.1 (R.labels_in st) (R.labels_in_alternative a) r.0 u.0 g f))))

  pub block_labelled : (b : Block) (s : State) → IsLawful s → Post (block_rule b s) (IsLabelled s.body (R.labels_in_block b))
  block_labelled (S.Braced t ds ss) s l =
      asked_post s _ _ (IsLabelled s.body (R.labels_in_list ss))
      (post_bind _ _ (λ r. Labelled s.body [] [] [] r.1) (IsLabelled s.body (R.labels_in_list ss)) (decls_labelled s ds l) (λ r g.
      asked_post r.1 _ _ (IsLabelled s.body (R.labels_in_list ss))
      (post_bind _ _ (AreLabelled r.1.body (R.labels_in_list ss)) (IsLabelled s.body (R.labels_in_list ss)) (stmts_labelled ss r.1 g.0) (λ u f.
      labelled_then s.body r.1 u.1 [] (R.labels_in_list ss) [] (labels_among u.0) [] (cases_among u.0) g f))))

  pub stmts_labelled : (ss : Stmts) (s : State) → IsLawful s → Post (stmts_rule ss s) (AreLabelled s.body (R.labels_in_list ss))
  stmts_labelled S.NoStmt s l = labelled_quiet s.body s l refl
  stmts_labelled (S.Next st rest) s l =
      post_bind _ _ (IsLabelled s.body (R.labels_in st)) (AreLabelled s.body (R.labels_in st ++ R.labels_in_list rest)) (stmt_labelled st s l) (λ r g.
      post_bind _ _ (AreLabelled r.1.body (R.labels_in_list rest)) (AreLabelled s.body (R.labels_in st ++ R.labels_in_list rest)) (stmts_labelled rest r.1 g.0) (λ u f.
      labelled_then s.body r.1 u.1 (R.labels_in st) (R.labels_in_list rest) (labels_in r.0) (labels_among u.0) (cases_in r.0) (cases_among u.0) g f))

-- ---- the labels of a function (6.6.1)

no_switches : (ws : List SwitchState) → is_nil ws ≡ true → ws ≡ []
no_switches [] h = refl
no_switches (w ∷ rest) h = no h

-- where the function begins with its names, no label met and no switch around
pub function_labels : (f : FunctionValue) (names : List (List ℕ)) (a b : BodyState) → a.names ≡ names → a.labels ≡ length names → a.met ≡ [] → a.switches ≡ [] → Steady a b
    → Labels a b names (labels_in f.body) (cases_in f.body) → f.labels ≡ b.labels → f.named ≡ numbers_below (length b.names) → AreLabels f
function_labels f names a b named labels met switches x y labels_are named_are = record {
  once = distinct_once (labels_in f.body) (λ l. let h : times_of l (labels_in f.body) ≡ below l f.labels = stands l in let k : below l f.labels ≤ 1 = below_least l f.labels in omega (arith, h, k));
  below = all_times (λ l. l < f.labels) (labels_in f.body) (λ l h. let k : times_of l (labels_in f.body) ≡ below l f.labels = stands l in below_so l f.labels (omega (arith, h, k)));
  one_use = distinct_once (f.named ++ cases_in f.body) (λ l. let h : times_of l (f.named ++ cases_in f.body) ≡ below l f.labels = used l in let k : below l f.labels ≤ 1 = below_least l f.labels in omega (arith, h, k));
  used = all_times (Contains (f.named ++ cases_in f.body)) (labels_in f.body) (λ l h.
      let k : times_of l (labels_in f.body) ≡ below l f.labels = stands l in
      let u : times_of l (f.named ++ cases_in f.body) ≡ below l f.labels = used l in
      contained l (f.named ++ cases_in f.body) (omega (arith, h, k, u)));
  there = all_times (Contains (labels_in f.body)) f.named (λ l h.
      let k : times_of l (labels_in f.body) ≡ below l f.labels = stands l in
      let u : times_of l (f.named ++ cases_in f.body) ≡ below l f.labels = used l in
      let s : times_of l (f.named ++ cases_in f.body) ≡ times_of l f.named + times_of l (cases_in f.body) = times_append (nat_eq l) f.named (cases_in f.body) in
      contained l (labels_in f.body) (omega (arith, h, k, u, s)));
}
  where
    all_met : b.met ≡ names
    all_met = y.met ∙ ap (λ xs. xs ++ names) met

    apart : AreApart names
    apart = subst AreApart all_met (x.apart (subst AreApart (sym met) (λ name. omega arith)))

    none_before : (l : ℕ) → met_times l a ≡ 0
    none_before l = ap (times (λ name. nat_eq l (number_among a.names name))) met

    each_met : (l : ℕ) → met_times l b ≡ below l (length names)
    each_met l =
        ap (λ (xs : List (List ℕ)). times (λ name. nat_eq l (number_among xs name)) b.met) (x.names ∙ named)
        ∙ (ap (times (λ name. nat_eq l (number_among names name))) all_met ∙ numbers_once names apart l)

    stands : (l : ℕ) → times_of l (labels_in f.body) ≡ below l f.labels
    stands l =
        let n : times_of l (labels_in f.body) + below l a.labels + met_times l a ≡ below l b.labels + met_times l b = y.numbers l in
        let m : met_times l a ≡ 0 = none_before l in
        let e : met_times l b ≡ below l (length names) = each_met l in
        let s : below l a.labels ≡ below l (length names) = ap (below l) labels in
        let t : below l f.labels ≡ below l b.labels = ap (below l) labels_are in
        omega (arith, n, m, e, s, t)

    nothing_pending : (l : ℕ) → times_of l (pending b.switches) ≡ 0
    nothing_pending l = ap (λ ws. times_of l (pending ws)) (no_switches b.switches (x.nested ∙ ap is_nil switches))

    used : (l : ℕ) → times_of l (f.named ++ cases_in f.body) ≡ below l f.labels
    used l =
        let s : times_of l (f.named ++ cases_in f.body) ≡ times_of l f.named + times_of l (cases_in f.body) = times_append (nat_eq l) f.named (cases_in f.body) in
        let n : times_of l f.named ≡ below l (length names) =
        ap (times_of l) (named_are ∙ ap (λ (xs : List (List ℕ)). numbers_below (length xs)) (x.names ∙ named)) ∙ times_numbers l (length names) in
        let u : times_of l (cases_in f.body) + times_of l (pending b.switches) + below l a.labels ≡ times_of l (pending a.switches) + below l b.labels = y.uses l in
        let p : times_of l (pending b.switches) ≡ 0 = nothing_pending l in
        let q : times_of l (pending a.switches) ≡ 0 = ap (λ ws. times_of l (pending ws)) switches in
        let a0 : below l a.labels ≡ below l (length names) = ap (below l) labels in
        let t : below l f.labels ≡ below l b.labels = ap (below l) labels_are in
        omega (arith, s, n, u, p, q, a0, t)

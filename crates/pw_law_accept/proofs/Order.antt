-- The labels of a function that a `goto` can name stand in its body in the order of the text (ISO C90 6.6.1), and initialisers of
-- locals suit them: both along the statements.
use Rattle.std.specs.Prelude.{ℕ, suc, ◌≡◌, ◌<◌, ◌≤◌, ◌+◌, Bool, true, false, not, ◌||◌, cond, nat_lt, Option, None, Some, unwrap_or, List, [], ◌∷◌, ◌++◌, length, map, filter, refl}
use Rattle.std.specs.List.{AllByRecursion, list_any, position_or_len}
use Rattle.std.specs.Str.{bytes_eq}
use Rattle.std.proofs.Common.{arith, ap, sym, subst, ◌∙◌, append_assoc}
use Rattle.std.proofs.lemmas.Bool.{lt-ltb, le-ltb}
use Rattle.std.proofs.lemmas.List.{map-append}
use Rattle.std.proofs.lemmas.List.Elements.{filter-append}
use Rattle.pw_tree.specs.FirstTokens.{first_of_expr}
use Rattle.pw_tree.specs.Trees.{Word, Expr, Stmt, Alternative, Block, Stmts, Label}
use Rattle.pw_tree.specs.Trees as S
use Rattle.pw_types.specs.Labels.{labels_in, labels_among, labels_of_arms, labels_behind}
use Rattle.pw_types.specs.TypedTrees.{Expression, Initialiser, Statement, LocalValue}
use Rattle.pw_types.specs.TypedTrees as T
use Rattle.pw_types.specs.WellTyped.{type_in}
use Rattle.pw_flow.proofs.Lists.{all_left}
use Rattle.pw_check_walk.specs.Walks.{bind}
use Rattle.pw_check_rules.specs.Kinds.{kind_in}
use Rattle.pw_check_rules.specs.States.{State, Rule, BodyState, one_deeper, scoped}
use Rattle.pw_check_rules.specs.Statements as R
use Rattle.pw_check_rules.specs.Statements.{case_rule, new_label, inside_switch, default_rule, name_label_rule, label_rule, labels_rule, whole_rule, optional_rule, condition_rule, switch_rule, optional_condition, in_switch, in_loop, return_rule, stmt_rule, alternative_rule, block_rule, stmts_rule, has_name, names_of_labels}
use Rattle.pw_law_checked.specs.Lawful.{IsLawful}
use Rattle.pw_law_checked.proofs.Bare.{Bare, Going, statement_of, bare_post}
use Rattle.pw_law_checked.proofs.Walking.{Post, post_bind, post_weaken, post_both}
use Rattle.pw_law_checked.proofs.Lists.{Longer}
use Rattle.pw_law_checked.proofs.States.{Fine, FineValue, goes_on, Grows}
use Rattle.pw_law_checked.proofs.Operations.{value_runs}
use Rattle.pw_law_checked.proofs.Phrases.{expr_post}
use Rattle.pw_law_checked.proofs.Changes.{deeper_lawful}
use Rattle.pw_law_checked.proofs.Keeping.{around}
use Rattle.pw_law_checked.proofs.Adding.{Declaring, decls_declare}
use Rattle.pw_law_checked.proofs.Counting.{number_among}
use Rattle.pw_law_checked.proofs.LabelLaws.{Labelled, Quietly, value_then, labels_labelled, stmt_labelled, alternative_labelled, stmts_labelled, asked_post, with_loop, IsLabelled, AreLabelled, IsLabelledBehind, label_labelled}
use Rattle.pw_law_source.specs.Accepting.{initialisers_in, initialisers_among, initialisers_of_arms, initialisers_behind}
use Rattle.pw_law_accept.proofs.Suiting.{Suit, Suits, suit_later, suit_both, decls_suit}

-- ---- names of labels

abbrev pub AreAmong : List (List ℕ) → List (List ℕ) → Type 0
AreAmong all names = AllByRecursion (λ name. has_name all name ≡ true) names

all_right : {X : Type 0} (P : X → Type 0) (xs ys : List X) → AllByRecursion P (xs ++ ys) → AllByRecursion P ys
all_right P [] ys h = h
all_right P (x ∷ xs) ys h = all_right P xs ys h.1

among_left : (all n1 n2 : List (List ℕ)) → AreAmong all (n1 ++ n2) → AreAmong all n1
among_left all n1 n2 h = all_left (λ name. has_name all name ≡ true) n1 n2 h

among_right : (all n1 n2 : List (List ℕ)) → AreAmong all (n1 ++ n2) → AreAmong all n2
among_right all n1 n2 h = all_right (λ name. has_name all name ≡ true) n1 n2 h

place_below : (name : List ℕ) (all : List (List ℕ)) → has_name all name ≡ true → position_or_len (bytes_eq name) all < length all
place_below name [] h = absurd cc
place_below name (x ∷ all) h = by (bytes_eq name x) refl h (place_below name all)
  where
    by : (b : Bool) → bytes_eq name x ≡ b → (b || list_any (bytes_eq name) all) ≡ true → (has_name all name ≡ true → position_or_len (bytes_eq name) all < length all)
        → cond (not (bytes_eq name x)) (1 + position_or_len (bytes_eq name) all) 0 < suc (length all)
    by true e k rest = subst (λ c. cond (not c) (1 + position_or_len (bytes_eq name) all) 0 < suc (length all)) (sym e) (omega arith)
    by false e k rest =
        let r : position_or_len (bytes_eq name) all < length all = rest k in
        subst (λ c. cond (not c) (1 + position_or_len (bytes_eq name) all) 0 < suc (length all)) (sym e) (omega (arith, r))

pub number_below : (name : List ℕ) (all : List (List ℕ)) → has_name all name ≡ true → number_among all name < length all
number_below name all h =
    let k = place_below name all h in
    subst (λ b. unwrap_or (cond b (Some (position_or_len (bytes_eq name) all)) None) 0 < length all) (sym (lt-ltb (position_or_len (bytes_eq name) all) (length all) k)) k

-- ---- the labels below a number

abbrev pub named_ones : ℕ → List ℕ → List ℕ
named_ones n labels = filter (λ l. nat_lt l n) labels

one_in : (l n : ℕ) → l < n → named_ones n (l ∷ []) ≡ l ∷ []
one_in l n h = ap (λ b. cond b (l ∷ []) []) (lt-ltb l n h)

one_out : (l n : ℕ) → n ≤ l → named_ones n (l ∷ []) ≡ []
one_out l n h = ap (λ b. cond b (l ∷ []) []) (le-ltb l n h)

-- From one state of a function's body to another: the labels that stand between, and the initialisers of locals.
pub record Formed (a b : BodyState) (names : List (List ℕ)) (labels : List ℕ) (made : List Initialiser) : Type 0 where
  pub more : a.labels ≤ b.labels
  pub order : length a.names ≤ a.labels → AreAmong a.names names → named_ones (length a.names) labels ≡ map (number_among a.names) names
  pub suits : Suit b.locals made

suit_none : (own : List LocalValue) → Suit own []
suit_none own ls longer = tt

formed_none : (a : BodyState) → Formed a a [] [] []
formed_none a = record { more = omega arith; order = λ h k. refl; suits = suit_none a.locals }

pub formed_quiet : (a b : BodyState) → b ≡ a → Formed a b [] [] []
formed_quiet a b e = subst (λ x. Formed a x [] [] []) (sym e) (formed_none a)

pub formed_from : (a b c : BodyState) (names : List (List ℕ)) (labels : List ℕ) (made : List Initialiser) → b ≡ a → Formed b c names labels made → Formed a c names labels made
formed_from a b c names labels made e h = subst (λ x. Formed x c names labels made) e h

formed_then : {a b c : BodyState} (n1 n2 : List (List ℕ)) (l1 l2 : List ℕ) (i1 i2 : List Initialiser) → b.names ≡ a.names → Longer b.locals c.locals → Formed a b n1 l1 i1 → Formed b c n2 l2 i2 → Formed a c (n1 ++ n2) (l1 ++ l2) (i1 ++ i2)
formed_then {a} {b} {c} n1 n2 l1 l2 i1 i2 same longer x y = record {
  more = (let h : a.labels ≤ b.labels = x.more in let k : b.labels ≤ c.labels = y.more in omega (arith, h, k));
  order = λ few among.
      let h : a.labels ≤ b.labels = x.more in
      let later : length a.names ≤ b.labels = omega (arith, few, h) in
      let second : named_ones (length a.names) l2 ≡ map (number_among a.names) n2 =
      subst (λ (xs : List (List ℕ)). length xs ≤ b.labels → AreAmong xs n2 → named_ones (length xs) l2 ≡ map (number_among xs) n2) same y.order later (among_right a.names n1 n2 among) in
      filter-append (λ l. nat_lt l (length a.names)) l1 l2
      ∙ (ap (λ xs. xs ++ named_ones (length a.names) l2) (x.order few (among_left a.names n1 n2 among))
      ∙ (ap (λ xs. map (number_among a.names) n1 ++ xs) second
      ∙ sym (map-append (number_among a.names) n1 n2)));
  suits = suit_both c.locals i1 i2 (suit_later b.locals c.locals i1 longer x.suits) y.suits;
}

-- ---- rules that leave the function as it was

whole_quiet : (s : State) (e : Expr) → IsLawful s → Post (whole_rule e s) (Quietly s)
unfolding whole_rule
whole_quiet s e l =
    post_weaken _ (λ r. IsLawful r.1 × Grows s r.1 × FineValue r.1 r.0) (Quietly s)
    (goes_on _ _ Fine FineValue (expr_post e s l) (λ r m g f. value_runs r.1 r.0 m f)) (λ r g. (g.0, g.1.body))

optional_quiet : (s : State) (e : Option Expr) → IsLawful s → Post (optional_rule e s) (Quietly s)
unfolding optional_rule bind
optional_quiet s None l = (l, refl)
optional_quiet s (Some e) l = post_bind (whole_rule e s) _ (Quietly s) (Quietly s) (whole_quiet s e l) (λ r g. g)

condition_quiet : (s : State) (t : ℕ) (e : Expr) → IsLawful s → Post (condition_rule t e s) (Quietly s)
unfolding condition_rule bind
condition_quiet s t e l = post_bind (whole_rule e s) _ (Quietly s) (Quietly s) (whole_quiet s e l) (λ r g met. g)

optional_condition_quiet : (s : State) (t : ℕ) (e : Option Expr) → IsLawful s → Post (optional_condition t e s) (Quietly s)
unfolding optional_condition bind
optional_condition_quiet s t e l = post_bind (optional_rule e s) _ (Quietly s) (Quietly s) (optional_quiet s e l) (λ r g met. g)

switch_quiet : (s : State) (t : ℕ) (e : Expr) → IsLawful s → Post (switch_rule t e s) (Quietly s)
unfolding switch_rule bind
switch_quiet s t e l = post_bind (whole_rule e s) _ (Quietly s) (Quietly s) (whole_quiet s e l) (λ r g met. g)

-- ---- labels

abbrev AreOrdered : BodyState → List (List ℕ) → List ℕ × State → Type 0
AreOrdered a names r = Formed a r.1.body names r.0 []

abbrev IsOrdered : BodyState → List (List ℕ) → ℕ × State → Type 0
IsOrdered a names r = Formed a r.1.body names (r.0 ∷ []) []

case_ordered : (s : State) (first : ℕ) (e : Expression) → Post (case_rule first e s) (IsOrdered s.body [])
unfolding case_rule new_label bind
case_ordered s first e = λ met. record { more = omega arith; order = λ few among. one_out s.body.labels (length s.body.names) few; suits = suit_none s.body.locals }

default_ordered : (s : State) (t : ℕ) → Post (default_rule t s) (IsOrdered s.body [])
unfolding default_rule new_label bind
default_ordered s t = λ met. record { more = omega arith; order = λ few among. one_out s.body.labels (length s.body.names) few; suits = suit_none s.body.locals }

name_ordered : (s : State) (w : Word) → Post (name_label_rule w s) (IsOrdered s.body (w.text ∷ []))
unfolding name_label_rule bind
name_ordered s w = λ met. record {
  more = omega arith;
  order = λ few among. one_in (number_among s.body.names w.text) (length s.body.names) (number_below w.text s.body.names among.0);
  suits = suit_none s.body.locals;
}

label_ordered : (s : State) (label : Label) → IsLawful s → Post (label_rule label s) (IsOrdered s.body (names_of_labels (label ∷ [])))
unfolding label_rule inside_switch bind
label_ordered s (S.CaseLabel t e) l = λ met.
    value_then s e (λ x. case_rule (first_of_expr e) x.0 x.1) (IsOrdered s.body []) l (λ x m same.
    post_weaken (case_rule (first_of_expr e) x.0 x.1) (IsOrdered x.1.body []) (IsOrdered s.body []) (case_ordered x.1 (first_of_expr e) x.0)
    (λ r g. formed_from s.body x.1.body r.1.body [] (r.0 ∷ []) [] same g))
label_ordered s (S.DefaultLabel t) l = default_ordered s t
label_ordered s (S.NameLabel w) l = name_ordered s w

names_first : (label : Label) (rest : List Label) → names_of_labels (label ∷ []) ++ names_of_labels rest ≡ names_of_labels (label ∷ rest)
names_first (S.CaseLabel t e) rest = refl
names_first (S.DefaultLabel t) rest = refl
names_first (S.NameLabel w) rest = refl

labels_ordered : (ls : List Label) (s : State) → IsLawful s → Post (labels_rule ls s) (AreOrdered s.body (names_of_labels ls))
unfolding labels_rule
labels_ordered [] s l = formed_none s.body
labels_ordered (x ∷ rest) s l =
    post_bind _ _ (λ r. Labelled s.body (names_of_labels (x ∷ [])) (r.0 ∷ []) [] r.1 × IsOrdered s.body (names_of_labels (x ∷ [])) r) (AreOrdered s.body (names_of_labels (x ∷ rest)))
    (post_both _ (λ r. Labelled s.body (names_of_labels (x ∷ [])) (r.0 ∷ []) [] r.1) (IsOrdered s.body (names_of_labels (x ∷ []))) (label_labelled s x l) (label_ordered s x l)) (λ r g.
    post_bind _ _ (λ u. Labelled r.1.body (names_of_labels rest) u.0 [] u.1 × AreOrdered r.1.body (names_of_labels rest) u) (AreOrdered s.body (names_of_labels (x ∷ rest)))
    (post_both _ (λ u. Labelled r.1.body (names_of_labels rest) u.0 [] u.1) (AreOrdered r.1.body (names_of_labels rest)) (labels_labelled rest r.1 g.0.0) (labels_ordered rest r.1 g.0.0)) (λ u f.
    subst (λ n. Formed s.body u.1.body n (r.0 ∷ u.0) []) (names_first x rest)
    (formed_then (names_of_labels (x ∷ [])) (names_of_labels rest) (r.0 ∷ []) u.0 [] [] g.0.1.names f.0.1.locals g.1 f.1)))

-- ---- statements

abbrev pub IsFormedIn : BodyState → List (List ℕ) → Statement × State → Type 0
IsFormedIn a names r = Formed a r.1.body names (labels_in r.0) (initialisers_in r.0)

abbrev AreFormedIn : BodyState → List (List ℕ) → T.Statements × State → Type 0
AreFormedIn a names r = Formed a r.1.body names (labels_among r.0) (initialisers_among r.0)

abbrev IsFormedBehind : BodyState → List (List ℕ) → R.Behind × State → Type 0
IsFormedBehind a names r = Formed a r.1.body names (labels_of_arms r.0.arms ++ labels_behind r.0.otherwise) (initialisers_of_arms r.0.arms ++ initialisers_behind r.0.otherwise)

in_switch_formed : (s : State) (e : Expression) (body : Rule Statement) (names : List (List ℕ)) → IsLawful s → ((t : State) → IsLawful t → Post (body t) (IsFormedIn t.body names))
    → Post (in_switch e body s) (λ r. Formed s.body r.1.body names (labels_in r.0.0) (initialisers_in r.0.0))
unfolding in_switch bind
in_switch_formed s e body names l h =
    post_bind (body (R.enter_switch (kind_in (type_in e)) s)) _ (IsFormedIn (R.enter_switch (kind_in (type_in e)) s).body names) (λ r. Formed s.body r.1.body names (labels_in r.0.0) (initialisers_in r.0.0))
    (h (R.enter_switch (kind_in (type_in e)) s) (around s s.made (R.enter_switch (kind_in (type_in e)) s).body l refl).0)
    (λ r g. record { more = g.more; order = g.order; suits = g.suits })

in_loop_formed : (s : State) (body : Rule Statement) (names : List (List ℕ)) → IsLawful s → ((t : State) → IsLawful t → Post (body t) (IsFormedIn t.body names)) → Post (in_loop body s) (IsFormedIn s.body names)
unfolding in_loop bind
in_loop_formed s body names l h =
    post_bind (body (with_loop s)) _ (IsFormedIn (with_loop s).body names) (IsFormedIn s.body names) (h (with_loop s) (around s s.made (with_loop s).body l refl).0)
    (λ r g. record { more = g.more; order = g.order; suits = g.suits })

scoped_formed : (s : State) (inside : Rule Statement) (names : List (List ℕ)) → Post (inside (one_deeper s)) (IsFormedIn s.body names) → Post (scoped inside s) (IsFormedIn s.body names)
unfolding scoped bind
scoped_formed s inside names h = post_bind (inside (one_deeper s)) _ (IsFormedIn s.body names) (IsFormedIn s.body names) h (λ r g. g)

return_formed : (s : State) (t : ℕ) (e : Option Expr) → IsLawful s → Post (return_rule t e s) (IsFormedIn s.body [])
unfolding return_rule bind
return_formed s t None l = formed_none s.body
return_formed s t (Some e) l = post_bind (whole_rule e s) _ (Quietly s) (IsFormedIn s.body []) (whole_quiet s e l) (λ r g met. formed_quiet s.body r.1.body g.1)

bare_formed : (s : State) (b : Bare) → IsFormedIn s.body [] (statement_of b, s)
bare_formed s (Going t n) = formed_none s.body
bare_formed s b = formed_none s.body

-- an arm before those behind it
arms_formed : (a b c : BodyState) (n1 n2 : List (List ℕ)) (x : Statement) (rest : R.Behind) → b.names ≡ a.names → Longer b.locals c.locals → Formed a b n1 (labels_in x) (initialisers_in x)
    → Formed b c n2 (labels_of_arms rest.arms ++ labels_behind rest.otherwise) (initialisers_of_arms rest.arms ++ initialisers_behind rest.otherwise)
    → Formed a c (n1 ++ n2) ((labels_in x ++ labels_of_arms rest.arms) ++ labels_behind rest.otherwise) ((initialisers_in x ++ initialisers_of_arms rest.arms) ++ initialisers_behind rest.otherwise)
arms_formed a b c n1 n2 x rest same longer g f =
    subst (λ ls. Formed a c (n1 ++ n2) ls ((initialisers_in x ++ initialisers_of_arms rest.arms) ++ initialisers_behind rest.otherwise)) (sym (append_assoc (labels_in x) (labels_of_arms rest.arms) (labels_behind rest.otherwise)))
    (subst (λ is. Formed a c (n1 ++ n2) (labels_in x ++ (labels_of_arms rest.arms ++ labels_behind rest.otherwise)) is) (sym (append_assoc (initialisers_in x) (initialisers_of_arms rest.arms) (initialisers_behind rest.otherwise)))
    (formed_then n1 n2 (labels_in x) (labels_of_arms rest.arms ++ labels_behind rest.otherwise) (initialisers_in x) (initialisers_of_arms rest.arms ++ initialisers_behind rest.otherwise) same longer g f))

-- what statements are in two ways
abbrev IsBoth : BodyState → List (List ℕ) → Statement × State → Type 0
IsBoth a names r = IsLabelled a names r × IsFormedIn a names r

mutual
  unfolding stmt_rule R.labels_in

  stmt_formed : (st : Stmt) (s : State) → IsLawful s → Post (stmt_rule st s) (IsFormedIn s.body (R.labels_in st))
  stmt_formed (S.Compound b) s l = scoped_formed s (block_rule b) (R.labels_in_block b) (block_formed b (one_deeper s) (deeper_lawful s l))
  stmt_formed (S.Expression e) s l = value_then s e _ (IsFormedIn s.body []) l (λ r m same. formed_quiet s.body r.1.body same)
  stmt_formed (S.Labeled ls st) s l =
      post_bind _ _ (λ r. Labelled s.body (names_of_labels ls) r.0 [] r.1 × AreOrdered s.body (names_of_labels ls) r) (IsFormedIn s.body (names_of_labels ls ++ R.labels_in st))
      (post_both _ (λ r. Labelled s.body (names_of_labels ls) r.0 [] r.1) (AreOrdered s.body (names_of_labels ls)) (labels_labelled ls s l) (labels_ordered ls s l)) (λ r g.
      post_bind _ _ (IsBoth r.1.body (R.labels_in st)) (IsFormedIn s.body (names_of_labels ls ++ R.labels_in st))
      (post_both _ (IsLabelled r.1.body (R.labels_in st)) (IsFormedIn r.1.body (R.labels_in st)) (stmt_labelled st r.1 g.0.0) (stmt_formed st r.1 g.0.0)) (λ u f.
      formed_then (names_of_labels ls) (R.labels_in st) r.0 (labels_in u.0) [] (initialisers_in u.0) g.0.1.names f.0.1.locals g.1 f.1))
  stmt_formed (S.If t c st a) s l =
      post_bind _ _ (Quietly s) (IsFormedIn s.body (R.labels_in st ++ R.labels_in_alternative a)) (condition_quiet s t c l) (λ q k.
      post_bind _ _ (IsBoth q.1.body (R.labels_in st)) (IsFormedIn s.body (R.labels_in st ++ R.labels_in_alternative a))
      (post_both _ (IsLabelled q.1.body (R.labels_in st)) (IsFormedIn q.1.body (R.labels_in st)) (stmt_labelled st q.1 k.0) (stmt_formed st q.1 k.0)) (λ r g.
      post_bind _ _ (λ u. IsLabelledBehind r.1.body (R.labels_in_alternative a) u × IsFormedBehind r.1.body (R.labels_in_alternative a) u) (IsFormedIn s.body (R.labels_in st ++ R.labels_in_alternative a))
      (post_both _ (IsLabelledBehind r.1.body (R.labels_in_alternative a)) (IsFormedBehind r.1.body (R.labels_in_alternative a)) (alternative_labelled a r.1 g.0.0) (alternative_formed a r.1 g.0.0)) (λ u f.
      formed_from s.body q.1.body u.1.body _ _ _ k.1 (arms_formed q.1.body r.1.body u.1.body (R.labels_in st) (R.labels_in_alternative a) r.0 u.0 g.0.1.names f.0.1.locals g.1 f.1))))
  stmt_formed (S.Switch t e st) s l =
      post_bind _ _ (Quietly s) (IsFormedIn s.body (R.labels_in st)) (switch_quiet s t e l) (λ q k.
      post_bind _ _ (λ r. Formed q.1.body r.1.body (R.labels_in st) (labels_in r.0.0) (initialisers_in r.0.0)) (IsFormedIn s.body (R.labels_in st))
      (in_switch_formed q.1 q.0 (stmt_rule st) (R.labels_in st) k.0 (λ v i. stmt_formed st v i)) (λ r g.
      formed_from s.body q.1.body r.1.body _ _ _ k.1 g))
  stmt_formed (S.While t e st) s l =
      post_bind _ _ (Quietly s) (IsFormedIn s.body (R.labels_in st)) (condition_quiet s t e l) (λ q k.
      post_bind _ _ (IsFormedIn q.1.body (R.labels_in st)) (IsFormedIn s.body (R.labels_in st)) (in_loop_formed q.1 (stmt_rule st) (R.labels_in st) k.0 (λ v i. stmt_formed st v i)) (λ r g.
      formed_from s.body q.1.body r.1.body _ _ _ k.1 g))
  stmt_formed (S.Do t st e) s l =
      post_bind _ _ (λ r. IsLabelled s.body (R.labels_in st) r × IsFormedIn s.body (R.labels_in st) r) (IsFormedIn s.body (R.labels_in st))
      (post_both _ (IsLabelled s.body (R.labels_in st)) (IsFormedIn s.body (R.labels_in st)) (Rattle.pw_law_checked.proofs.LabelLaws.loop_labelled s (stmt_rule st) (R.labels_in st) l (λ v i. stmt_labelled st v i))
      (in_loop_formed s (stmt_rule st) (R.labels_in st) l (λ v i. stmt_formed st v i))) (λ r g.
      post_bind _ _ (Quietly r.1) (IsFormedIn s.body (R.labels_in st)) (condition_quiet r.1 t e g.0.0) (λ u k.
      subst (λ b. Formed s.body b (R.labels_in st) (labels_in r.0) (initialisers_in r.0)) (sym k.1) g.1))
  stmt_formed (S.For t a b c st) s l =
      post_bind _ _ (Quietly s) (IsFormedIn s.body (R.labels_in st)) (optional_quiet s a l) (λ x h.
      post_bind _ _ (Quietly x.1) (IsFormedIn s.body (R.labels_in st)) (optional_condition_quiet x.1 t b h.0) (λ y i.
      post_bind _ _ (Quietly y.1) (IsFormedIn s.body (R.labels_in st)) (optional_quiet y.1 c i.0) (λ q k.
      post_bind _ _ (IsFormedIn q.1.body (R.labels_in st)) (IsFormedIn s.body (R.labels_in st)) (in_loop_formed q.1 (stmt_rule st) (R.labels_in st) k.0 (λ v j. stmt_formed st v j)) (λ r g.
      formed_from s.body q.1.body r.1.body _ _ _ (k.1 ∙ (i.1 ∙ h.1)) g))))
  stmt_formed (S.Return t e) s l = return_formed s t e l
  stmt_formed st s l = bare_post (IsFormedIn s.body []) st refl s (bare_formed s)

  alternative_formed : (a : Alternative) (s : State) → IsLawful s → Post (alternative_rule a s) (IsFormedBehind s.body (R.labels_in_alternative a))
  alternative_formed S.NoElse s l = formed_none s.body
  alternative_formed (S.Otherwise st) s l = post_bind _ _ (IsFormedIn s.body (R.labels_in st)) (IsFormedBehind s.body (R.labels_in st)) (stmt_formed st s l) (λ r g. g)
  alternative_formed (S.ElseIf t c st a) s l =
      post_bind _ _ (Quietly s) (IsFormedBehind s.body (R.labels_in st ++ R.labels_in_alternative a)) (condition_quiet s t c l) (λ q k.
      post_bind _ _ (IsBoth q.1.body (R.labels_in st)) (IsFormedBehind s.body (R.labels_in st ++ R.labels_in_alternative a))
      (post_both _ (IsLabelled q.1.body (R.labels_in st)) (IsFormedIn q.1.body (R.labels_in st)) (stmt_labelled st q.1 k.0) (stmt_formed st q.1 k.0)) (λ r g.
      post_bind _ _ (λ u. IsLabelledBehind r.1.body (R.labels_in_alternative a) u × IsFormedBehind r.1.body (R.labels_in_alternative a) u) (IsFormedBehind s.body (R.labels_in st ++ R.labels_in_alternative a))
      (post_both _ (IsLabelledBehind r.1.body (R.labels_in_alternative a)) (IsFormedBehind r.1.body (R.labels_in_alternative a)) (alternative_labelled a r.1 g.0.0) (alternative_formed a r.1 g.0.0)) (λ u f.
      formed_from s.body q.1.body u.1.body _ _ _ k.1 (arms_formed q.1.body r.1.body u.1.body (R.labels_in st) (R.labels_in_alternative a) r.0 u.0 g.0.1.names f.0.1.locals g.1 f.1))))

  pub block_formed : (b : Block) (s : State) → IsLawful s → Post (block_rule b s) (IsFormedIn s.body (R.labels_in_block b))
  block_formed (S.Braced t ds ss) s l =
      asked_post s _ _ (IsFormedIn s.body (R.labels_in_list ss))
      (post_bind _ _ (λ r. Declaring s r × Suits r) (IsFormedIn s.body (R.labels_in_list ss)) (post_both _ (Declaring s) Suits (decls_declare ds s l) (decls_suit ds s l)) (λ r g.
      asked_post r.1 _ _ (IsFormedIn s.body (R.labels_in_list ss))
      (post_bind _ _ (λ u. AreLabelled r.1.body (R.labels_in_list ss) u × AreFormedIn r.1.body (R.labels_in_list ss) u) (IsFormedIn s.body (R.labels_in_list ss))
      (post_both _ (AreLabelled r.1.body (R.labels_in_list ss)) (AreFormedIn r.1.body (R.labels_in_list ss)) (stmts_labelled ss r.1 g.0.0) (stmts_formed ss r.1 g.0.0)) (λ u f.
      formed_then [] (R.labels_in_list ss) [] (labels_among u.0) r.0 (initialisers_among u.0) (ap (λ (b : BodyState). b.names) g.0.2.0.steady) f.0.1.locals
      (record { more = (let e : r.1.body.labels ≡ s.body.labels = ap (λ (b : BodyState). b.labels) g.0.2.0.steady in omega (arith, e)); order = λ few among. refl; suits = g.1 }) f.1))))

  stmts_formed : (ss : Stmts) (s : State) → IsLawful s → Post (stmts_rule ss s) (AreFormedIn s.body (R.labels_in_list ss))
  stmts_formed S.NoStmt s l = formed_none s.body
  stmts_formed (S.Next st rest) s l =
      post_bind _ _ (IsBoth s.body (R.labels_in st)) (AreFormedIn s.body (R.labels_in st ++ R.labels_in_list rest))
      (post_both _ (IsLabelled s.body (R.labels_in st)) (IsFormedIn s.body (R.labels_in st)) (stmt_labelled st s l) (stmt_formed st s l)) (λ r g.
      post_bind _ _ (λ u. AreLabelled r.1.body (R.labels_in_list rest) u × AreFormedIn r.1.body (R.labels_in_list rest) u) (AreFormedIn s.body (R.labels_in st ++ R.labels_in_list rest))
      (post_both _ (AreLabelled r.1.body (R.labels_in_list rest)) (AreFormedIn r.1.body (R.labels_in_list rest)) (stmts_labelled rest r.1 g.0.0) (stmts_formed rest r.1 g.0.0)) (λ u f.
      formed_then (R.labels_in st) (R.labels_in_list rest) (labels_in r.0) (labels_among u.0) (initialisers_in r.0) (initialisers_among u.0) g.0.1.names f.0.1.locals g.1 f.1))

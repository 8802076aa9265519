-- The functions of a module that checking accepts: the labels that a `goto` can name are those of the body that are no case's, in the
-- order of the text, and initialisers of locals suit them.
use Rattle.std.specs.Prelude.{ℕ, suc, ◌≡◌, ◌⊎◌, ◌<◌, ◌≤◌, ◌+◌, ◌==◌, Bool, true, false, not, ◌||◌, cond, nat_eq, nat_lt, None, Some, unwrap_or, List, [], ◌∷◌, ◌++◌, length, map, filter, position, slice_get, All, Ok, refl}
use Rattle.std.specs.List.{list_any, position_or_len}
use Rattle.std.specs.Str.{bytes_eq}
use Rattle.std.proofs.Common.{arith, ap, sym, subst, ◌∙◌, append-nil, append_assoc, length-append, add-one, inl, inr}
use Rattle.std.proofs.lemmas.Bool.{eqb-true, eqb-false, lt-ltb, ltb-false}
use Rattle.std.proofs.lemmas.List.Elements.{All-from_recursion}
use Rattle.std.proofs.lemmas.Option.{slice_get-get_or}
use Rattle.pw_tree.specs.Trees.{Word, Function, External, Definition, Declaration, Module, Block}
use Rattle.pw_types.specs.Labels.{labels_in, cases_in}
use Rattle.pw_types.specs.TypeTrees.{QType, type_of}
use Rattle.pw_types.specs.TypedTrees.{Initialiser, FunctionValue, ModuleValue}
use Rattle.pw_check_walk.specs.Walks.{Walk, Done, bind}
use Rattle.pw_check_rules.specs.Checks.{Checks, checking}
use Rattle.pw_check_rules.specs.Declarations.{name_of}
use Rattle.pw_check_rules.specs.Derivations.{spot_of, Declared}
use Rattle.pw_check_rules.specs.Functions.{function_of, bindings_of, enter_body, definition_asking, measured_rule, body_rule, function_rule, numbers_below}
use Rattle.pw_check_rules.specs.Leaves.{first_of_declaration, is_nil}
use Rattle.pw_check_rules.specs.Linkage.{define_function}
use Rattle.pw_check_rules.specs.Modules.{external_rule, externals_rule, module_rule}
use Rattle.pw_check_rules.specs.States.{State, BodyState, SwitchState, leave_scope, start, Entity}
use Rattle.pw_check_rules.specs.Statements as R
use Rattle.pw_check_rules.specs.Statements.{block_rule}
use Rattle.pw_law_checked.specs.Lawful.{IsLawful}
use Rattle.pw_law_checked.proofs.Walking.{Post, post_end, post_bind, post_weaken, post_both}
use Rattle.pw_law_checked.proofs.Lists.{get_more, never_some}
use Rattle.pw_law_checked.proofs.Types.{no, lawful_later, extends_trans}
use Rattle.pw_law_checked.proofs.States.{Grows}
use Rattle.pw_law_checked.proofs.Changes.{left_lawful_alone}
use Rattle.pw_law_checked.proofs.Leaves.{GoodType, GoodSpecified, GoodDeclared, GoodBindings, bindings_later, built_runs}
use Rattle.pw_law_checked.proofs.Phrases.{declarator_post}
use Rattle.pw_law_checked.proofs.Keeping.{After, function_kept, Knows}
use Rattle.pw_law_checked.proofs.Declaring.{declared_knows}
use Rattle.pw_law_checked.proofs.Declarations.{decl_goes}
use Rattle.pw_law_checked.proofs.Statements.{block_goes}
use Rattle.pw_law_checked.proofs.Modules.{body_lawful, good_if_any}
use Rattle.pw_law_checked.proofs.Adding.{specified_all}
use Rattle.pw_law_checked.proofs.Counting.{one, times, times_of, below, times_append, below_least, times_head, number_among, AreApart, named_itself, numbers_once}
use Rattle.pw_law_checked.proofs.LabelLaws.{Steady, Labels, pending, met_times, IsLabelled, block_labelled, asked_post}
use Rattle.pw_law_checked.proofs.FunctionLaws.{met_post, end_same}
use Rattle.pw_law_checked.proofs.Laws.{start_lawful}
use Rattle.pw_law_source.specs.Accepting.{SuitsLocal, initialisers_in, IsFormed}
use Rattle.pw_law_accept.proofs.Order.{AreAmong, named_ones, Formed, IsFormedIn, block_formed}

-- ---- the first place of a name

-- the first place at which the test passes is behind those where it does not
place_behind : {X : Type 0} (p : X → Bool) (xs : List X) (x : X) (rest : List X) → times p xs ≡ 0 → p x ≡ true → position_or_len p (xs ++ x ∷ rest) ≡ length xs
place_behind p [] x rest none h = ap (λ b. cond (not b) (1 + position_or_len p rest) 0) h
place_behind {X} p (y ∷ xs) x rest none h = by (p y) refl none (λ k. place_behind p xs x rest k h)
  where
    by : (b : Bool) → p y ≡ b → one b + times p xs ≡ 0 → (times p xs ≡ 0 → position_or_len p (xs ++ x ∷ rest) ≡ length xs)
        → cond (not (p y)) (1 + position_or_len p (xs ++ x ∷ rest)) 0 ≡ suc (length xs)
    by true e k again = grind (arith, k)
    by false e k again =
        let r : position_or_len p (xs ++ x ∷ rest) ≡ length xs = again (let q : 0 + times p xs ≡ 0 = k in omega (arith, q)) in
        ap (λ b. cond (not b) (1 + position_or_len p (xs ++ x ∷ rest)) 0) e ∙ omega (arith, r)

place_is : {X : Type 0} (p : X → Bool) (xs : List X) (x : X) (rest : List X) → times p xs ≡ 0 → p x ≡ true → unwrap_or (position p (xs ++ x ∷ rest)) 0 ≡ length xs
place_is {X} p xs x rest none h =
    ap (λ n. unwrap_or (cond (nat_lt n (length (xs ++ x ∷ rest))) (Some n) None) 0) (place_behind p xs x rest none h) ∙ by (nat_lt (length xs) (length (xs ++ x ∷ rest))) refl
  where
    long : (ys : List X) → length ys < length (ys ++ x ∷ rest)
    long [] = omega arith
    long (y ∷ ys) = let r : length ys < length (ys ++ x ∷ rest) = long ys in omega (arith, r)

    by : (b : Bool) → nat_lt (length xs) (length (xs ++ x ∷ rest)) ≡ b → unwrap_or (cond b (Some (length xs)) None) 0 ≡ length xs
    by true e = refl
    by false e = let k : length (xs ++ x ∷ rest) ≤ length xs = ltb-false (length xs) (length (xs ++ x ∷ rest)) e in let r : length xs < length (xs ++ x ∷ rest) = long xs in grind (arith, k, r)

first_of : (name : List ℕ) (done rest : List (List ℕ)) → AreApart (done ++ name ∷ rest) → times (bytes_eq name) done ≡ 0
first_of name done rest apart =
    let a : times (bytes_eq name) (done ++ name ∷ rest) ≤ 1 = apart name in
    let b : times (bytes_eq name) (done ++ name ∷ rest) ≡ times (bytes_eq name) done + (one (bytes_eq name name) + times (bytes_eq name) rest) = times_append (bytes_eq name) done (name ∷ rest) in
    let c : one (bytes_eq name name) ≡ 1 = ap one (named_itself name) in
    omega (arith, a, b, c)

-- ---- numbers of names in their order

numbers_more : (names done rest : List (List ℕ)) → names ≡ done ++ rest → AreApart names → numbers_below (length done) ++ map (number_among names) rest ≡ numbers_below (length names)
numbers_more names done [] same apart = append-nil (numbers_below (length done)) ∙ ap (λ (xs : List (List ℕ)). numbers_below (length xs)) (sym (append-nil done) ∙ sym same)
numbers_more names done (name ∷ rest) same apart =
    let place : number_among names name ≡ length done =
    ap (λ xs. number_among xs name) same ∙ place_is (bytes_eq name) done name rest (first_of name done rest (subst AreApart same apart)) (named_itself name) in
    let more : numbers_below (length (done ++ name ∷ [])) ≡ numbers_below (length done) ++ length done ∷ [] =
    ap numbers_below (length-append done (name ∷ []) ∙ add-one (length done)) in
    let next = numbers_more names (done ++ name ∷ []) rest (same ∙ sym (append_assoc done (name ∷ []) rest)) apart in
    ap (λ n. numbers_below (length done) ++ n ∷ map (number_among names) rest) place
    ∙ (sym (append_assoc (numbers_below (length done)) (length done ∷ []) (map (number_among names) rest))
    ∙ (ap (λ xs. xs ++ map (number_among names) rest) (sym more) ∙ next))

numbers_in_order : (names : List (List ℕ)) → AreApart names → map (number_among names) names ≡ numbers_below (length names)
numbers_in_order names apart = numbers_more names [] names refl apart

itself_among : (more names : List (List ℕ)) → AreAmong (more ++ names) names
itself_among more [] = tt
itself_among more (x ∷ names) = (
  any_later (bytes_eq x) more (x ∷ names) (ap (λ b. b || list_any (bytes_eq x) names) (named_itself x)),
  subst (λ xs. AreAmong xs names) (append_assoc more (x ∷ []) names) (itself_among (more ++ x ∷ []) names),
)
  where
    any_later : (p : List ℕ → Bool) (xs ys : List (List ℕ)) → list_any p ys ≡ true → list_any p (xs ++ ys) ≡ true
    any_later p [] ys e = e
    any_later p (z ∷ xs) ys e = ap (λ b. p z || b) (any_later p xs ys e) ∙ or_true (p z)
      where
        or_true : (b : Bool) → (b || true) ≡ true
        or_true true = refl
        or_true false = refl

-- ---- labels that are no case's

equal_flip : (a b : ℕ) → nat_eq a b ≡ nat_eq b a
equal_flip a b = by (nat_eq a b) refl (nat_eq b a) refl
  where
    by : (x : Bool) → nat_eq a b ≡ x → (y : Bool) → nat_eq b a ≡ y → x ≡ y
    by true e true f = refl
    by true e false f = absurd (eqb-false b a f (sym (eqb-true a b e)))
    by false e true f = absurd (eqb-false a b e (sym (eqb-true b a f)))
    by false e false f = refl

any_by : (l : ℕ) (cs : List ℕ) (n : ℕ) → times_of l cs ≡ n → list_any (λ c. c == l) cs ≡ nat_lt 0 n
any_by l [] n e = ap (nat_lt 0) e
any_by l (c ∷ cs) n e = by (nat_eq l c) refl e (λ k. any_by l cs n k)
  where
    by : (b : Bool) → nat_eq l c ≡ b → one b + times_of l cs ≡ n → (times_of l cs ≡ n → list_any (λ c. c == l) cs ≡ nat_lt 0 n) → ((c == l) || list_any (λ c. c == l) cs) ≡ nat_lt 0 n
    by true f k rest = ap (λ b. b || list_any (λ c. c == l) cs) (sym (equal_flip l c) ∙ f) ∙ sym (lt-ltb 0 n (omega (arith, k)))
    by false f k rest = ap (λ b. b || list_any (λ c. c == l) cs) (sym (equal_flip l c) ∙ f) ∙ rest (let h : 0 + times_of l cs ≡ n = k in omega (arith, h))

filter_same : (p q : ℕ → Bool) (xs : List ℕ) → ((l : ℕ) → 1 ≤ times_of l xs → p l ≡ q l) → filter p xs ≡ filter q xs
filter_same p q [] h = refl
filter_same p q (x ∷ xs) h =
    let rest = filter_same p q xs (λ l k. h l (let t : times_of l (x ∷ xs) ≡ one (nat_eq l x) + times_of l xs = refl in omega (arith, t, k))) in
    let here = h x (let t : times_of x (x ∷ xs) ≡ 1 + times_of x xs = times_head x xs in omega (arith, t)) in
    ap (λ b. cond b (x ∷ filter p xs) (filter p xs)) here ∙ ap (λ ys. cond (q x) (x ∷ ys) ys) rest

below_by : (b : Bool) (l n : ℕ) → nat_lt l n ≡ b → below l n ≡ one b
below_by b l n e = ap one e

-- where the function begins with its names, no label met and no switch around
labels_in_order : (f : FunctionValue) (names : List (List ℕ)) (a b : BodyState) (made : List Initialiser) → a.names ≡ names → a.labels ≡ length names → a.met ≡ [] → a.switches ≡ [] → Steady a b
    → Labels a b names (labels_in f.body) (cases_in f.body) → Formed a b names (labels_in f.body) made → f.named ≡ numbers_below (length b.names)
    → f.named ≡ filter (λ l. not (list_any (λ c. c == l) (cases_in f.body))) (labels_in f.body)
labels_in_order f names a b made named labels met switches x y z named_are =
    named_are
    ∙ (ap (λ (xs : List (List ℕ)). numbers_below (length xs)) (x.names ∙ named)
    ∙ (sym (numbers_in_order names apart)
    ∙ (sym ordered ∙ filter_same (λ l. nat_lt l (length names)) (λ l. not (list_any (λ c. c == l) (cases_in f.body))) (labels_in f.body) same)))
  where
    all_met : b.met ≡ names
    all_met = y.met ∙ ap (λ xs. xs ++ names) met

    apart : AreApart names
    apart = subst AreApart all_met (x.apart (subst AreApart (sym met) (λ name. omega arith)))

    ordered : named_ones (length names) (labels_in f.body) ≡ map (number_among names) names
    ordered = subst (λ (xs : List (List ℕ)). length xs ≤ a.labels → AreAmong xs names → named_ones (length xs) (labels_in f.body) ≡ map (number_among xs) names) named z.order
        (let e : a.labels ≡ length names = labels in omega (arith, e)) (itself_among [] names)

    none_before : (l : ℕ) → met_times l a ≡ 0
    none_before l = ap (times (λ name. nat_eq l (number_among a.names name))) met

    each_met : (l : ℕ) → met_times l b ≡ below l (length names)
    each_met l =
        ap (λ (xs : List (List ℕ)). times (λ name. nat_eq l (number_among xs name)) b.met) (x.names ∙ named)
        ∙ (ap (times (λ name. nat_eq l (number_among names name))) all_met ∙ numbers_once names apart l)

    stands : (l : ℕ) → times_of l (labels_in f.body) ≡ below l b.labels
    stands l =
        let n : times_of l (labels_in f.body) + below l a.labels + met_times l a ≡ below l b.labels + met_times l b = y.numbers l in
        let m : met_times l a ≡ 0 = none_before l in
        let e : met_times l b ≡ below l (length names) = each_met l in
        let s : below l a.labels ≡ below l (length names) = ap (below l) labels in
        omega (arith, n, m, e, s)

    no_switch : (ws : List SwitchState) → is_nil ws ≡ true → ws ≡ []
    no_switch [] h = refl
    no_switch (w ∷ rest) h = no h

    nothing_pending : (l : ℕ) → times_of l (pending b.switches) ≡ 0
    nothing_pending l = ap (λ ws. times_of l (pending ws)) (no_switch b.switches (x.nested ∙ ap is_nil switches))

    -- a label that stands there is a name's or a case's
    uses : (l : ℕ) → times_of l (cases_in f.body) + below l (length names) ≡ below l b.labels
    uses l =
        let u : times_of l (cases_in f.body) + times_of l (pending b.switches) + below l a.labels ≡ times_of l (pending a.switches) + below l b.labels = y.uses l in
        let p : times_of l (pending b.switches) ≡ 0 = nothing_pending l in
        let q : times_of l (pending a.switches) ≡ 0 = ap (λ ws. times_of l (pending ws)) switches in
        let a0 : below l a.labels ≡ below l (length names) = ap (below l) labels in
        omega (arith, u, p, q, a0)

    same : (l : ℕ) → 1 ≤ times_of l (labels_in f.body) → nat_lt l (length names) ≡ not (list_any (λ c. c == l) (cases_in f.body))
    same l h = by (nat_lt l (length names)) refl
      where
        whole : times_of l (cases_in f.body) + below l (length names) ≡ 1
        whole = let s : times_of l (labels_in f.body) ≡ below l b.labels = stands l in let u : times_of l (cases_in f.body) + below l (length names) ≡ below l b.labels = uses l in let k : below l b.labels ≤ 1 = below_least l b.labels in omega (arith, s, u, k, h)

        by : (c : Bool) → nat_lt l (length names) ≡ c → c ≡ not (list_any (λ c. c == l) (cases_in f.body))
        by true e =
            let k : below l (length names) ≡ 1 = ap one e in
            let w : times_of l (cases_in f.body) + below l (length names) ≡ 1 = whole in
            sym (ap not (any_by l (cases_in f.body) 0 (omega (arith, k, w))))
        by false e =
            let k : below l (length names) ≡ 0 = ap one e in
            let w : times_of l (cases_in f.body) + below l (length names) ≡ 1 = whole in
            sym (ap not (any_by l (cases_in f.body) 1 (omega (arith, k, w))))

-- ---- functions

abbrev AreFormed : List FunctionValue → Type 0
AreFormed fs = (i : ℕ) (f : FunctionValue) → slice_get fs i ≡ Some f → IsFormed f

one_formed : (fs : List FunctionValue) (f : FunctionValue) → AreFormed fs → IsFormed f → AreFormed (fs ++ f ∷ [])
one_formed fs f all h i g e = by (get_more fs f i g e)
  where
    by : (slice_get fs i ≡ Some g) ⊎ ((i ≡ length fs) × (f ≡ g)) → IsFormed g
    by (inl k) = all i g k
    by (inr k) = subst IsFormed k.1 h

abbrev Forms : {A : Type 0} → State → A × State → Type 0
Forms s r = IsLawful r.1 × (AreFormed s.made.functions → AreFormed r.1.made.functions)

body_formed : (s : State) (w : Word) (place : ℕ) (q : QType) (d : Declared) (block : Block) (entities : List Entity) → IsLawful s → GoodBindings s.types.records entities (bindings_of d) → Post (body_rule w place q (bindings_of d) block s) (Forms s)
unfolding body_rule measured_rule bind
body_formed s w place q d block entities l h =
    let c : IsLawful (enter_body q (bindings_of d) (R.labels_in_block block) s) = body_lawful s entities q (bindings_of d) (R.labels_in_block block) l h in
    post_bind (block_rule block (enter_body q (bindings_of d) (R.labels_in_block block) s)) _
    (λ r. (IsLawful r.1 × After (enter_body q (bindings_of d) (R.labels_in_block block) s) r.1 × Unit {0})
    × (IsLabelled (enter_body q (bindings_of d) (R.labels_in_block block) s).body (R.labels_in_block block) r × IsFormedIn (enter_body q (bindings_of d) (R.labels_in_block block) s).body (R.labels_in_block block) r)) (Forms s)
    (post_both _ (λ r. IsLawful r.1 × After (enter_body q (bindings_of d) (R.labels_in_block block) s) r.1 × Unit {0})
    (λ r. IsLabelled (enter_body q (bindings_of d) (R.labels_in_block block) s).body (R.labels_in_block block) r × IsFormedIn (enter_body q (bindings_of d) (R.labels_in_block block) s).body (R.labels_in_block block) r)
    (block_goes block (enter_body q (bindings_of d) (R.labels_in_block block) s) c)
    (post_both _ (IsLabelled (enter_body q (bindings_of d) (R.labels_in_block block) s).body (R.labels_in_block block)) (IsFormedIn (enter_body q (bindings_of d) (R.labels_in_block block) s).body (R.labels_in_block block))
    (block_labelled block (enter_body q (bindings_of d) (R.labels_in_block block) s) c) (block_formed block (enter_body q (bindings_of d) (R.labels_in_block block) s) c)))
    (λ r g met.
    let n : IsLawful (leave_scope r.1) = left_lawful_alone r.1 g.0.0 in (
      record { contents = n.contents; begun = n.begun; counted = n.counted; entities = n.entities; tags = n.tags; linked = n.linked; laid = n.laid; apart = n.apart; depths = n.depths },
      λ all. one_formed r.1.made.functions (function_of r.1 w place q (bindings_of d) r.0) (subst AreFormed (sym g.0.1.functions) all) (record {
        initialisers = All-from_recursion (SuitsLocal r.1.body.locals) (initialisers_in r.0) (g.1.1.suits r.1.body.locals (λ i x e. e));
        named = labels_in_order (function_of r.1 w place q (bindings_of d) r.0) (R.labels_in_block block) (enter_body q (bindings_of d) (R.labels_in_block block) s).body r.1.body (initialisers_in r.0) refl refl refl refl g.1.0.1 g.1.0.2 g.1.1 refl;
      }),
    ))

forms_later : (s t : State) (w : Walk (Unit {0} × State)) → t.made.functions ≡ s.made.functions → Post w (Forms t) → Post w (Forms s)
forms_later s t w same h = post_weaken w (Forms t) (Forms s) h (λ r g. (g.0, λ all. g.1 (subst AreFormed (sym same) all)))

function_formed : (s : State) (f : Function) → IsLawful s → Post (function_rule f s) (Forms s)
unfolding function_rule
function_formed s f l =
    post_bind _ _ (λ r. IsLawful r.1 × Grows s r.1 × GoodSpecified r.1 r.0) (Forms s) (specified_all s f.specifiers (first_of_declaration f.specifiers f.declarator) l) (λ r g.
    post_bind _ _ (λ u. IsLawful u.1 × Grows r.1 u.1 × GoodDeclared u.1 u.0) (Forms s) (declarator_post f.declarator r.1 g.0) (λ u h.
    post_bind _ _ (λ v. IsLawful v.1 × Grows u.1 v.1 × GoodType v.1 v.0) (Forms s)
    (built_runs u.1 (spot_of u.0.name r.0.first r.0.tag) u.0.derivations r.0.ty h.0 h.2.0 (lawful_later r.1.types.records u.1.types.records h.1.extends (type_of r.0.ty) g.2)) (λ v i.
    asked_post v.1 _ _ (Forms s)
    (post_bind _ _ (λ e. IsLawful e.1 × Knows v.1 e.1) (Forms s)
    (met_post v.1 _ _ (λ e. IsLawful e.1 × Knows v.1 e.1) (λ met. declared_knows v.1 (name_of u.0).text (name_of u.0).token r.0.tag (definition_asking r.0) v.0 i.0 i.2)) (λ e j.
    let c = function_kept e.1 e.0 j.0 in
    asked_post _ _ _ (Forms s)
    (forms_later s (define_function e.0 e.1) (body_rule (name_of u.0) e.0 v.0 (bindings_of u.0) f.body (define_function e.0 e.1))
    (c.1.functions ∙ (j.1.functions ∙ (i.1.functions ∙ (h.1.functions ∙ g.1.functions))))
    (body_formed (define_function e.0 e.1) (name_of u.0) e.0 v.0 u.0 f.body v.1.scopes.entities c.0
    (good_if_any (define_function e.0 e.1).types.records v.1.scopes.entities u.0.bindings
    (bindings_later v.1.types.records (define_function e.0 e.1).types.records v.1.scopes.entities v.1.scopes.entities (extends_trans j.1.extends c.1.extends) (λ k x f. f) u.0.bindings
    (bindings_later u.1.types.records v.1.types.records u.1.scopes.entities v.1.scopes.entities i.1.extends i.1.entities u.0.bindings h.2.1))))))))))

-- ---- modules

external_formed : (s : State) (x : External) → IsLawful s → Post (external_rule x s) (Forms s)
unfolding external_rule
external_formed s (Definition f) l = function_formed s f l
external_formed s (Declaration d) l =
    post_bind _ _ (λ r. IsLawful r.1 × After s r.1 × Unit {0}) (Forms s) (decl_goes s d l) (λ r g. (g.0, λ all. subst AreFormed (sym g.1.functions) all))

externals_formed : (xs : List External) (s : State) → IsLawful s → Post (externals_rule xs s) (Forms s)
unfolding externals_rule
externals_formed [] s l = (l, λ all. all)
externals_formed (x ∷ rest) s l =
    post_bind _ _ (Forms s) (Forms s) (external_formed s x l)
    (λ r h. post_weaken (externals_rule rest r.1) (Forms r.1) (Forms s) (externals_formed rest r.1 h.0) (λ u k. (k.0, λ all. k.1 (h.1 all))))

module_formed : (m : Module) (s : State) → IsLawful s → Post (module_rule m s) (λ r. AreFormed s.made.functions → AreFormed r.0.functions)
unfolding module_rule
module_formed m s l =
    post_bind _ _ (Forms s) (λ r. AreFormed s.made.functions → AreFormed r.0.functions)
    (post_bind _ _ (Forms s) (Forms s) (externals_formed m.externals s l) (λ r h. h)) (λ r h.
    post_bind _ _ (λ u. u.1 ≡ r.1) (λ u. AreFormed s.made.functions → AreFormed u.0.functions) (end_same r.0 r.1) (λ u e all.
    subst (λ t. AreFormed t.made.functions) (sym e) (h.1 all)))

formed_all : (fs : List FunctionValue) → AreFormed fs → All IsFormed fs
formed_all fs h = λ k d below. h k _ (slice_get-get_or fs k d below)

checking_formed : (m : Module) → IsLawful start → Post (bind (module_rule m start) (λ r. Done r.0)) (λ v. All IsFormed v.functions)
checking_formed m l =
    post_bind (module_rule m start) (λ r. Done r.0) (λ r. AreFormed start.made.functions → AreFormed r.0.functions) (λ v. All IsFormed v.functions) (module_formed m start l)
    (λ r h. formed_all r.0.functions (h (λ i f e. never_some e)))

pub functions_formed : (tree : Module) (m : ModuleValue) → Checks tree (Ok m) → All IsFormed m.functions
unfolding checking
functions_formed tree m h = post_end (checking tree) m (λ v. All IsFormed v.functions) h (checking_formed tree start_lawful)

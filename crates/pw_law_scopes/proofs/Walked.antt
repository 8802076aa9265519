-- Statements: a local that they name is in scope, and behind them what can be seen could be seen before.
use Rattle.std.specs.Prelude.{ℕ, ◌≡◌, ◌<◌, ◌≤◌, ◌+◌, ◌-◌, ◌⊎◌, Bool, true, false, if◌then◌else◌, Option, None, Some, List, [], ◌∷◌, length, refl}
use Rattle.std.specs.List.{AllByRecursion}
use Rattle.std.proofs.Common.{arith, sym, subst, ◌∙◌, inl, inr}
use Rattle.pw_tree.specs.FirstTokens.{first_of_expr}
use Rattle.pw_tree.specs.Trees.{Expr, Stmt, Alternative, Block, Stmts, Label}
use Rattle.pw_tree.specs.Trees as S
use Rattle.pw_types.specs.TypeTrees.{CType, type_of}
use Rattle.pw_types.specs.TypedTrees.{Expression, Node, Initialiser, Statement, Statements, token_of}
use Rattle.pw_types.specs.TypedTrees as T
use Rattle.pw_types.specs.WellTyped.{type_in}
use Rattle.pw_check_walk.specs.Walks.{bind}
use Rattle.pw_check_rules.specs.Kinds.{plain, same_type, kind_in}
use Rattle.pw_check_rules.specs.Modules.{module_in}
use Rattle.pw_check_rules.specs.Operands.{cast_to, promoted_type}
use Rattle.pw_check_rules.specs.States.{State, Rule, BodyState, one_deeper, leave_scope, scoped}
use Rattle.pw_check_rules.specs.Statements as R
use Rattle.pw_check_rules.specs.Statements.{case_rule, new_label, inside_switch, default_rule, name_label_rule, label_rule, labels_rule, whole_rule, optional_rule, condition_rule, optional_condition, switch_rule, in_switch, in_loop, return_rule, stmt_rule, alternative_rule, block_rule, stmts_rule}
use Rattle.pw_law_checked.specs.Lawful.{IsLawful, AreWords}
use Rattle.pw_law_checked.specs.Words.{HasWords, HasWordsIfAny, WordsInStatement, WordsInStatements, WordsInArms, WordsInElse}
use Rattle.pw_law_checked.proofs.Bare.{Bare, Going, statement_of, bare_post}
use Rattle.pw_law_checked.proofs.Walking.{Post, post_bind, post_weaken}
use Rattle.pw_law_checked.proofs.Conversions.{cast_words}
use Rattle.pw_law_checked.proofs.States.{Fine, FineValue, Runs, goes_on, Grows, grows_trans}
use Rattle.pw_law_checked.proofs.Operations.{value_runs}
use Rattle.pw_law_checked.proofs.Changes.{deeper_lawful, left_lawful_alone, left_sound_alone}
use Rattle.pw_law_checked.proofs.Phrases.{expr_post}
use Rattle.pw_law_checked.proofs.Locals.{IsPlaced, grows_placed, left_placed}
use Rattle.pw_law_checked.proofs.Keeping.{around, deeper_sound}
use Rattle.pw_law_checked.proofs.LabelLaws.{asked_post, with_loop}
use Rattle.pw_law_checked.proofs.Adding.{IsReady, ready_adds, longer_length}
use Rattle.pw_law_never.specs.Scopes.{with_range, InScopeIfAny}
use Rattle.pw_law_never.specs.Resolved.{IsInitialising}
use Rattle.pw_law_scopes.specs.Scoped.{IsScoped, IsScopedInitialiser, IsScopedStatement, AreScopedStatements, AreScopedArms, IsScopedElse}
use Rattle.pw_law_scopes.proofs.Visible.{Seen, Sees, reads_grows, reads_seen, left_seen}
use Rattle.pw_law_scopes.proofs.Shown.{shown_locals, shown_denotes, seen_scoped}
use Rattle.pw_law_scopes.proofs.Located.{AreSited, Sited, IsNew, Comes, decls_come}

-- ---- how statements move the state

pub record Moves (s t : State) : Type 0 where
  pub lawful : IsLawful t
  pub ready : IsReady t
  pub depth : t.scopes.depth ≡ s.scopes.depth
  pub longer : length s.body.locals ≤ length t.body.locals
  pub sees : Sees s t

moves_same : (s : State) → IsLawful s → IsReady s → Moves s s
moves_same s l r = record { lawful = l; ready = r; depth = refl; longer = omega arith; sees = λ d k v. v }

moves_trans : {s t u : State} → Moves s t → Moves t u → Moves s u
moves_trans a b = record {
  lawful = b.lawful;
  ready = b.ready;
  depth = b.depth ∙ a.depth;
  longer = (let x = a.longer in let y = b.longer in omega (arith, x, y));
  sees = λ d k v. a.sees d k (b.sees d k v);
}

moves_grows : {s t : State} → IsReady s → IsLawful t → Grows s t → Moves s t
moves_grows {s} {t} r l g = record {
  lawful = l;
  ready = record { placed = grows_placed g r.placed; counting = g.counting ∙ r.counting; sound = g.sound None r.sound };
  depth = g.depth;
  longer = subst (λ b. length s.body.locals ≤ length b.locals) (sym g.body) (omega arith);
  sees = reads_seen (reads_grows g) r.placed;
}

-- the function's own state is another
moves_body : (s : State) (b : BodyState) → IsLawful s → IsReady s → b.locals ≡ s.body.locals → Moves s (record s { body = b })
moves_body s b l r same = record {
  lawful = (around s s.made b l refl).0;
  ready = record {
    placed = λ i e h. let x = r.placed i e h in (x.0, x.1, subst (λ ls. IsPlaced ls e.1.depth x.0) (sym same) x.2);
    counting = r.counting;
    sound = record { backed = r.sound.backed; spelled = r.sound.spelled; functions = r.sound.functions; slots = r.sound.slots };
  };
  depth = refl;
  longer = subst (λ ls. length s.body.locals ≤ length ls) (sym same) (omega arith);
  sees = λ d k v. v;
}

-- ---- where what can be seen is in scope

pub record Stands (scope : ℕ → Type 0) (s : State) : Type 0 where
  pub lawful : IsLawful s
  pub ready : IsReady s
  pub inside : (d k : ℕ) → Seen s d k → scope k

later : {scope : ℕ → Type 0} {s t : State} → Stands scope s → Moves s t → Stands scope t
later x a = record { lawful = a.lawful; ready = a.ready; inside = λ d k v. x.inside d k (a.sees d k v) }

-- ---- expressions

cast_scoped : (scope : ℕ → Type 0) (ty : CType) (e : Expression) → IsScoped scope e → IsScoped scope (cast_to ty e)
cast_scoped scope ty e h = by (same_type ty (type_in e))
  where
    by : (b : Bool) → IsScoped scope (if b then e else Node (token_of e) (plain ty) (T.Cast e))
    by true = h
    by false = h

module _ (scope : ℕ → Type 0) where
  abbrev Value : State → Expression × State → Type 0
  Value s r = Moves s r.1 × (AreWords r.0 → IsScoped scope r.0)

  abbrev ValueIfAny : State → Option Expression × State → Type 0
  ValueIfAny s r = Moves s r.1 × (HasWordsIfAny r.0 → InScopeIfAny IsScoped scope r.0)

  abbrev pub Walked : State → Statement × State → Type 0
  Walked s r = Moves s r.1 × (WordsInStatement r.0 → IsScopedStatement scope r.0)

  abbrev AllWalked : State → Statements × State → Type 0
  AllWalked s r = Moves s r.1 × (WordsInStatements r.0 → AreScopedStatements scope r.0)

  abbrev WalkedBehind : State → R.Behind × State → Type 0
  WalkedBehind s r = Moves s r.1 × (WordsInArms r.0.arms × WordsInElse r.0.otherwise → AreScopedArms scope r.0.arms × IsScopedElse scope r.0.otherwise)

  -- a value that was read
  value_scoped : (s : State) (e : Expression) → Stands scope s → FineValue s e → AreWords e → IsScoped scope e
  value_scoped s e x f words = seen_scoped s x.lawful x.ready scope x.inside e (λ m locals d. (f m locals d words).typed)

  whole_runs : (s : State) (e : Expr) → IsLawful s → Runs s (whole_rule e s) FineValue
  unfolding whole_rule
  whole_runs s e l = goes_on _ _ Fine FineValue (expr_post e s l) (λ r m g f. value_runs r.1 r.0 m f)

  whole_walked : (s : State) (e : Expr) → Stands scope s → Post (whole_rule e s) (Value s)
  whole_walked s e x =
      post_weaken (whole_rule e s) (λ r. IsLawful r.1 × Grows s r.1 × FineValue r.1 r.0) (Value s) (whole_runs s e x.lawful)
      (λ r g. let a : Moves s r.1 = moves_grows x.ready g.0 g.1 in (a, value_scoped r.1 r.0 (later x a) g.2))

  optional_walked : (s : State) (e : Option Expr) → Stands scope s → Post (optional_rule e s) (ValueIfAny s)
  unfolding optional_rule bind
  optional_walked s None x = (moves_same s x.lawful x.ready, λ words. tt)
  optional_walked s (Some e) x = post_bind (whole_rule e s) _ (Value s) (ValueIfAny s) (whole_walked s e x) (λ r g. g)

  condition_walked : (s : State) (t : ℕ) (e : Expr) → Stands scope s → Post (condition_rule t e s) (Value s)
  unfolding condition_rule bind
  condition_walked s t e x = post_bind (whole_rule e s) _ (Value s) (Value s) (whole_walked s e x) (λ r g met. g)

  optional_condition_walked : (s : State) (t : ℕ) (e : Option Expr) → Stands scope s → Post (optional_condition t e s) (ValueIfAny s)
  unfolding optional_condition bind
  optional_condition_walked s t e x = post_bind (optional_rule e s) _ (ValueIfAny s) (ValueIfAny s) (optional_walked s e x) (λ r g met. g)

  switch_walked : (s : State) (t : ℕ) (e : Expr) → Stands scope s → Post (switch_rule t e s) (Value s)
  unfolding switch_rule bind
  switch_walked s t e x =
      post_bind (whole_rule e s) _ (Value s) (Value s) (whole_walked s e x)
      (λ r g met. (g.0, λ words. cast_scoped scope (promoted_type (type_in r.0)) r.0 (g.1 (cast_words (promoted_type (type_in r.0)) r.0 words))))

  -- ---- labels

  case_moves : (s : State) (first : ℕ) (e : Expression) → IsLawful s → IsReady s → Post (case_rule first e s) (λ r. Moves s r.1)
  unfolding case_rule new_label bind
  case_moves s first e l r = λ met. moves_body s _ l r refl

  label_moves : (s : State) (label : Label) → IsLawful s → IsReady s → Post (label_rule label s) (λ r. Moves s r.1)
  unfolding label_rule inside_switch default_rule name_label_rule new_label bind
  label_moves s (S.CaseLabel t e) l x = λ met.
      post_bind (Rattle.pw_check_rules.specs.Phrases.expr_rule e s) _ (λ r. IsLawful r.1 × Grows s r.1 × Fine r.1 r.0) (λ r. Moves s r.1) (expr_post e s l) (λ r g.
      post_bind (Rattle.pw_check_rules.specs.Operators.value_rule r.0 r.1) _ (λ u. IsLawful u.1 × Grows r.1 u.1 × FineValue u.1 u.0) (λ r. Moves s r.1) (value_runs r.1 r.0 g.0 g.2) (λ u k.
      let a : Moves s u.1 = moves_grows x k.0 (grows_trans g.1 k.1) in
      post_weaken (case_rule (first_of_expr e) u.0 u.1) (λ v. Moves u.1 v.1) (λ v. Moves s v.1) (case_moves u.1 (first_of_expr e) u.0 a.lawful a.ready) (λ v f. moves_trans a f)))
  label_moves s (S.DefaultLabel t) l x = λ met. moves_body s _ l x refl
  label_moves s (S.NameLabel w) l x = λ met. moves_body s _ l x refl

  labels_move : (ls : List Label) (s : State) → IsLawful s → IsReady s → Post (labels_rule ls s) (λ r. Moves s r.1)
  unfolding labels_rule
  labels_move [] s l x = moves_same s l x
  labels_move (label ∷ rest) s l x =
      post_bind _ _ (λ r. Moves s r.1) (λ r. Moves s r.1) (label_moves s label l x) (λ r g.
      post_bind _ _ (λ u. Moves r.1 u.1) (λ r. Moves s r.1) (labels_move rest r.1 g.lawful g.ready) (λ u f. moves_trans g f))

  -- ---- around statements

  in_loop_walked : (s : State) (body : Rule Statement) → Stands scope s → ((t : State) → Stands scope t → Post (body t) (Walked t)) → Post (in_loop body s) (Walked s)
  unfolding in_loop bind
  in_loop_walked s body x h =
      let a : Moves s (with_loop s) = moves_body s (with_loop s).body x.lawful x.ready refl in
      post_bind (body (with_loop s)) _ (Walked (with_loop s)) (Walked s) (h (with_loop s) (later x a))
      (λ r g. (moves_trans a (moves_trans g.0 (moves_body r.1 (record r.1.body { loops = r.1.body.loops - 1 }) g.0.lawful g.0.ready refl)), g.1))

  in_switch_walked : (s : State) (e : Expression) (body : Rule Statement) → Stands scope s → ((t : State) → Stands scope t → Post (body t) (Walked t))
      → Post (in_switch e body s) (λ r. Moves s r.1 × (WordsInStatement r.0.0 → IsScopedStatement scope r.0.0))
  unfolding in_switch bind
  in_switch_walked s e body x h =
      let a : Moves s (R.enter_switch (kind_in (type_in e)) s) = moves_body s (R.enter_switch (kind_in (type_in e)) s).body x.lawful x.ready refl in
      post_bind (body (R.enter_switch (kind_in (type_in e)) s)) _ (Walked (R.enter_switch (kind_in (type_in e)) s)) (λ r. Moves s r.1 × (WordsInStatement r.0.0 → IsScopedStatement scope r.0.0))
      (h (R.enter_switch (kind_in (type_in e)) s) (later x a))
      (λ r g. (moves_trans a (moves_trans g.0 (moves_body r.1 (R.leave_switch r.1).body g.0.lawful g.0.ready refl)), g.1))

  -- ---- simple statements

  bare_walked : (s : State) → Stands scope s → (b : Bare) → Walked s (statement_of b, s)
  bare_walked s x (Going t n) = (moves_same s x.lawful x.ready, λ words. tt)
  bare_walked s x b = (moves_same s x.lawful x.ready, λ words. tt)

  return_walked : (s : State) (t : ℕ) (e : Option Expr) → Stands scope s → Post (return_rule t e s) (Walked s)
  unfolding return_rule bind
  return_walked s t None x = (moves_same s x.lawful x.ready, λ words. tt)
  return_walked s t (Some e) x =
      post_bind (whole_rule e s) _ (Value s) (Walked s) (whole_walked s e x)
      (λ r g met. (g.0, λ words. cast_scoped scope (type_of r.1.body.result) r.0 (g.1 (cast_words (type_of r.1.body.result) r.0 words))))

  evaluate_walked : (s : State) (e : Expr) → Stands scope s
      → Post (bind (Rattle.pw_check_rules.specs.Phrases.expr_rule e s) (λ t. bind (Rattle.pw_check_rules.specs.Operators.value_rule t.0 t.1) (λ x. Rattle.pw_check_walk.specs.Walks.Done (T.Evaluate (first_of_expr e) x.0, x.1)))) (Walked s)
  unfolding bind
  evaluate_walked s e x =
      post_bind (Rattle.pw_check_rules.specs.Phrases.expr_rule e s) _ (λ r. IsLawful r.1 × Grows s r.1 × Fine r.1 r.0) (Walked s) (expr_post e s x.lawful) (λ r g.
      post_bind (Rattle.pw_check_rules.specs.Operators.value_rule r.0 r.1) _ (λ u. IsLawful u.1 × Grows r.1 u.1 × FineValue u.1 u.0) (Walked s) (value_runs r.1 r.0 g.0 g.2) (λ u k.
      let a : Moves s u.1 = moves_grows x.ready k.0 (grows_trans g.1 k.1) in
      (a, value_scoped u.1 u.0 (later x a) k.2)))

-- ---- blocks

-- in a block what can be seen could be seen before, or is as deep
pub record Enters (s t : State) : Type 0 where
  pub lawful : IsLawful t
  pub ready : IsReady t
  pub depth : t.scopes.depth ≡ s.scopes.depth
  pub longer : length s.body.locals ≤ length t.body.locals
  pub sees : (d k : ℕ) → Seen t d k → Seen s d k ⊎ (d ≡ s.scopes.depth)

abbrev pub BlockWalked : (ℕ → Type 0) → State → Statement × State → Type 0
BlockWalked scope s r = Enters s r.1 × (WordsInStatement r.0 → IsScopedStatement scope r.0)

none_as_deep : (d t n : ℕ) → d < t → t ≡ n → d ≡ n → ⊥
none_as_deep d t n below deep same = omega (arith, below, deep, same)

-- behind the scope of a block nothing of it can be seen
left_moves : (s t : State) → Enters (one_deeper s) t → Moves s (leave_scope t)
left_moves s t a = record {
  lawful = left_lawful_alone t a.lawful;
  ready = record { placed = left_placed t a.ready.placed; counting = a.ready.counting; sound = left_sound_alone t None a.ready.sound };
  depth = (let d : t.scopes.depth ≡ s.scopes.depth + 1 = a.depth in omega (arith, d));
  longer = a.longer;
  sees = λ d k v. let x = left_seen t d k v in by d k x.1 (a.sees d k x.0);
}
  where
    by : (d k : ℕ) → d < t.scopes.depth → Seen s d k ⊎ (d ≡ s.scopes.depth + 1) → Seen s d k
    by d k below (inl v) = v
    by d k below (inr same) = absurd (none_as_deep d t.scopes.depth (s.scopes.depth + 1) below a.depth same)

scoped_walked : (scope : ℕ → Type 0) (s : State) (inside : Rule Statement) → Post (inside (one_deeper s)) (BlockWalked scope (one_deeper s)) → Post (scoped inside s) (Walked scope s)
unfolding scoped bind
scoped_walked scope s inside h =
    post_bind (inside (one_deeper s)) _ (BlockWalked scope (one_deeper s)) (Walked scope s) h (λ r g. (left_moves s r.1 g.0, g.1))

deeper_stands : (scope : ℕ → Type 0) (s : State) → Stands scope s → Stands scope (one_deeper s)
deeper_stands scope s x = record {
  lawful = deeper_lawful s x.lawful;
  ready = record { placed = x.ready.placed; counting = x.ready.counting; sound = deeper_sound x.ready.sound };
  inside = x.inside;
}

deeper_inner : (s : State) → 0 < (one_deeper s).scopes.depth
deeper_inner s = (let inner : 0 < s.scopes.depth + 1 = omega arith in inner)

-- the initialisers of a block's locals
sited_scoped : (scope : ℕ → Type 0) (s t : State) → ((d k : ℕ) → Seen s d k ⊎ IsNew s t d k → scope k) → (is : List Initialiser) → AreSited s t is → AllByRecursion HasWords is → AllByRecursion (IsScopedInitialiser scope) is
sited_scoped scope s t inside [] h words = tt
sited_scoped scope s t inside (T.Value k e ∷ is) h words =
    let x : Sited s t e = h.0 in (
      (
        seen_scoped x.at x.lawful x.ready scope (λ d n v. inside d n (x.finds d n v)) e (λ m locals d. (x.typed m locals d words.0).0),
        subst IsInitialising (sym (x.typed (module_in x.at) (shown_locals x.at) (shown_denotes x.at x.lawful x.ready) words.0).1) x.kind,
      ),
      sited_scoped scope s t inside is h.1 words.1,
    )
sited_scoped scope s t inside (T.Bytes k hidden parts ∷ is) h words = (tt, sited_scoped scope s t inside is h.1 words.1)

-- the scope of a block with its locals
ranged : (scope : ℕ → Type 0) (s t : State) → ((d k : ℕ) → Seen s d k → scope k) → length s.body.locals ≤ length t.body.locals → (d k : ℕ) → Seen s d k ⊎ IsNew s t d k
    → with_range (length s.body.locals) (length t.body.locals - length s.body.locals) scope k
ranged scope s t inside more d k (inl v) = inl (inside d k v)
ranged scope s t inside more d k (inr n) = inr (n.1, (let below : k < length t.body.locals = n.2 in omega (arith, below, more)))

as_deep : (s t : State) (d k : ℕ) → Seen s d k ⊎ IsNew s t d k → Seen s d k ⊎ (d ≡ s.scopes.depth)
as_deep s t d k (inl v) = inl v
as_deep s t d k (inr n) = inr n.0

-- ---- statements

mutual
  unfolding stmt_rule

  stmt_walked : (st : Stmt) (s : State) (scope : ℕ → Type 0) → Stands scope s → Post (stmt_rule st s) (Walked scope s)
  stmt_walked (S.Compound b) s scope x = scoped_walked scope s (block_rule b) (block_walked b (one_deeper s) scope (deeper_stands scope s x) (deeper_inner s))
  stmt_walked (S.Expression e) s scope x = evaluate_walked scope s e x
  stmt_walked (S.Labeled ls st) s scope x =
      post_bind _ _ (λ r. Moves s r.1) (Walked scope s) (labels_move scope ls s x.lawful x.ready) (λ r g.
      post_bind _ _ (Walked scope r.1) (Walked scope s) (stmt_walked st r.1 scope (later x g)) (λ u k. (moves_trans g k.0, k.1)))
  stmt_walked (S.If t c st a) s scope x =
      post_bind _ _ (Value scope s) (Walked scope s) (condition_walked scope s t c x) (λ q g.
      post_bind _ _ (Walked scope q.1) (Walked scope s) (stmt_walked st q.1 scope (later x g.0)) (λ r k.
      let a1 = moves_trans g.0 k.0 in
      post_bind _ _ (WalkedBehind scope r.1) (Walked scope s) (alternative_walked a r.1 scope (later x a1)) (λ u i.
      (moves_trans a1 i.0, λ words. let rest = i.1 (words.0.2, words.1) in ((g.1 words.0.0, k.1 words.0.1, rest.0), rest.1)))))
  stmt_walked (S.Switch t e st) s scope x =
      post_bind _ _ (Value scope s) (Walked scope s) (switch_walked scope s t e x) (λ q g.
      post_bind _ _ (λ r. Moves q.1 r.1 × (WordsInStatement r.0.0 → IsScopedStatement scope r.0.0)) (Walked scope s)
      (in_switch_walked scope q.1 q.0 (stmt_rule st) (later x g.0) (λ v y. stmt_walked st v scope y)) (λ r k.
      (moves_trans g.0 k.0, λ words. (g.1 words.0, k.1 words.1))))
  stmt_walked (S.While t e st) s scope x =
      post_bind _ _ (Value scope s) (Walked scope s) (condition_walked scope s t e x) (λ q g.
      post_bind _ _ (Walked scope q.1) (Walked scope s) (in_loop_walked scope q.1 (stmt_rule st) (later x g.0) (λ v y. stmt_walked st v scope y)) (λ r k.
      (moves_trans g.0 k.0, λ words. (g.1 words.0, k.1 words.1))))
  stmt_walked (S.Do t st e) s scope x =
      post_bind _ _ (Walked scope s) (Walked scope s) (in_loop_walked scope s (stmt_rule st) x (λ v y. stmt_walked st v scope y)) (λ q g.
      post_bind _ _ (Value scope q.1) (Walked scope s) (condition_walked scope q.1 t e (later x g.0)) (λ r k.
      (moves_trans g.0 k.0, λ words. (g.1 words.1, k.1 words.0))))
  stmt_walked (S.For t a b c st) s scope x =
      post_bind _ _ (ValueIfAny scope s) (Walked scope s) (optional_walked scope s a x) (λ y i.
      post_bind _ _ (ValueIfAny scope y.1) (Walked scope s) (optional_condition_walked scope y.1 t b (later x i.0)) (λ z j.
      let a2 = moves_trans i.0 j.0 in
      post_bind _ _ (ValueIfAny scope z.1) (Walked scope s) (optional_walked scope z.1 c (later x a2)) (λ q g.
      let a3 = moves_trans a2 g.0 in
      post_bind _ _ (Walked scope q.1) (Walked scope s) (in_loop_walked scope q.1 (stmt_rule st) (later x a3) (λ v o. stmt_walked st v scope o)) (λ r k.
      (moves_trans a3 k.0, λ words. (i.1 words.0, j.1 words.1, g.1 words.2, k.1 words.3))))))
  stmt_walked (S.Return t e) s scope x = return_walked scope s t e x
  stmt_walked st s scope x = bare_post (Walked scope s) st refl s (bare_walked scope s x)

  alternative_walked : (a : Alternative) (s : State) (scope : ℕ → Type 0) → Stands scope s → Post (alternative_rule a s) (WalkedBehind scope s)
  alternative_walked S.NoElse s scope x = (moves_same s x.lawful x.ready, λ words. (tt, tt))
  alternative_walked (S.Otherwise st) s scope x =
      post_bind _ _ (Walked scope s) (WalkedBehind scope s) (stmt_walked st s scope x) (λ r g. (g.0, λ words. (tt, g.1 words.1)))
  alternative_walked (S.ElseIf t c st a) s scope x =
      post_bind _ _ (Value scope s) (WalkedBehind scope s) (condition_walked scope s t c x) (λ q g.
      post_bind _ _ (Walked scope q.1) (WalkedBehind scope s) (stmt_walked st q.1 scope (later x g.0)) (λ r k.
      let a1 = moves_trans g.0 k.0 in
      post_bind _ _ (WalkedBehind scope r.1) (WalkedBehind scope s) (alternative_walked a r.1 scope (later x a1)) (λ u i.
      (moves_trans a1 i.0, λ words. let rest = i.1 (words.0.2, words.1) in ((g.1 words.0.0, k.1 words.0.1, rest.0), rest.1)))))

  pub block_walked : (b : Block) (s : State) (scope : ℕ → Type 0) → Stands scope s → 0 < s.scopes.depth → Post (block_rule b s) (BlockWalked scope s)
  block_walked (S.Braced t ds ss) s scope x inner =
      asked_post s _ _ (BlockWalked scope s)
      (post_bind _ _ (Comes s) (BlockWalked scope s) (decls_come ds s x.lawful x.ready inner) (λ r g.
      let more : length s.body.locals ≤ length r.1.body.locals = longer_length s.body.locals r.1.body.locals g.0.2.0.locals in
      let y : Stands (with_range (length s.body.locals) (length r.1.body.locals - length s.body.locals) scope) r.1 =
      record { lawful = g.0.0; ready = ready_adds g.0.1 g.0.2.0 x.ready; inside = λ d k v. ranged scope s r.1 x.inside more d k (g.1.0 d k v) } in
      asked_post r.1 _ _ (BlockWalked scope s)
      (post_bind _ _ (AllWalked (with_range (length s.body.locals) (length r.1.body.locals - length s.body.locals) scope) r.1) (BlockWalked scope s)
      (stmts_walked ss r.1 (with_range (length s.body.locals) (length r.1.body.locals - length s.body.locals) scope) y) (λ u k. (
        record {
          lawful = k.0.lawful;
          ready = k.0.ready;
          depth = k.0.depth ∙ g.0.2.0.depth;
          longer = (let late = k.0.longer in omega (arith, more, late));
          sees = λ d n v. as_deep s r.1 d n (g.1.0 d n (k.0.sees d n v));
        },
        λ words. (sited_scoped (with_range (length s.body.locals) (length r.1.body.locals - length s.body.locals) scope) s r.1 (ranged scope s r.1 x.inside more) r.0 g.1.1 words.0, k.1 words.1),
      )))))

  stmts_walked : (ss : Stmts) (s : State) (scope : ℕ → Type 0) → Stands scope s → Post (stmts_rule ss s) (AllWalked scope s)
  stmts_walked S.NoStmt s scope x = (moves_same s x.lawful x.ready, λ words. tt)
  stmts_walked (S.Next st rest) s scope x =
      post_bind _ _ (Walked scope s) (AllWalked scope s) (stmt_walked st s scope x) (λ r g.
      post_bind _ _ (AllWalked scope r.1) (AllWalked scope s) (stmts_walked rest r.1 scope (later x g.0)) (λ u k.
      (moves_trans g.0 k.0, λ words. (g.1 words.0, k.1 words.1))))

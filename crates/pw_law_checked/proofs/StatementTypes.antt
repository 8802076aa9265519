-- Statements are well typed, in a module and a function that the names of the state at their end stand for.
use Rattle.std.specs.Prelude.{ℕ, ◌≡◌, ◌≢◌, ◌<◌, ◌≤◌, ◌+◌, ◌-◌, Bool, true, false, not, ◌||◌, nat_lt, cond, Option, None, Some, is_some, unwrap_or, List, [], ◌∷◌, ◌++◌, length, position, Contains, refl}
use Rattle.std.specs.List.{position_or_len}
use Rattle.std.specs.Str.{bytes_eq}
use Rattle.std.proofs.Common.{arith, ap, sym, subst, ◌∙◌, inl, inr}
use Rattle.std.proofs.lemmas.Bool.{ltb-true, ltb-false}
use Rattle.std.proofs.lemmas.List.Elements.{All-weaker, All-from_recursion}
use Rattle.pw_tree.specs.FirstTokens.{first_of_expr}
use Rattle.pw_tree.specs.Trees.{Word, Expr, Stmt, Alternative, Block, Stmts, Label, Decl}
use Rattle.pw_tree.specs.Trees as S
use Rattle.pw_types.specs.Conversions.{size_of_kind, promoted}
use Rattle.pw_types.specs.declared.kind.IntKind.{IntKind}
use Rattle.pw_types.specs.declared.kind.IntKind.TheVariants as K
use Rattle.pw_types.specs.Labels.{labels_in}
use Rattle.pw_types.specs.TypeTrees.{CType, Int, Function, QTypes, type_of}
use Rattle.pw_types.specs.TypedTrees.{Expression, Initialiser, Statement, LocalValue, FunctionValue, ModuleValue}
use Rattle.pw_types.specs.TypedTrees as T
use Rattle.pw_types.specs.TypedModules.{Initialises, IsSwitch, Returns, IsStatement}
use Rattle.pw_types.specs.TypedModules as M
use Rattle.pw_types.specs.WellTyped.{IsTyped, IsTypedOrAbsent, IsCondition, IsConditionOrAbsent, IsScalar, IsResult, type_in}
use Rattle.pw_check_walk.specs.Walks.{Walk, Done, bind}
use Rattle.pw_check_rules.specs.Functions.{numbers_below}
use Rattle.pw_check_rules.specs.Kinds.{kind_in, is_void}
use Rattle.pw_check_rules.specs.Leaves.{is_nil}
use Rattle.pw_check_rules.specs.Operands.{cast_to, promote}
use Rattle.pw_check_rules.specs.Operators.{is_assignable}
use Rattle.pw_check_rules.specs.States.{State, Rule, BodyState, SwitchState, one_deeper, leave_scope, scoped}
use Rattle.pw_check_rules.specs.Statements as R
use Rattle.pw_check_rules.specs.Statements.{case_rule, new_label, inside_switch, default_rule, name_label_rule, label_rule, labels_rule, whole_rule, optional_rule, is_condition, condition_rule, optional_condition, switch_rule, in_switch, in_loop, goto_rule, continue_rule, break_rule, return_rule, stmt_rule, alternative_rule, block_rule, stmts_rule, place_of_label}
use Rattle.pw_law_checked.specs.Lawful.{IsLawful, IsLawfulType, AreWords}
use Rattle.pw_law_checked.proofs.Texts.{never_nil, HasText, AlternativeHasText, BlockHasText, StmtsHaveText}
use Rattle.pw_law_checked.specs.Words.{HasWords, HasWordsIfAny, WordsInStatement, WordsInStatements, WordsInArms, WordsInElse}
use Rattle.pw_law_checked.proofs.Walking.{Post, post_bind, post_weaken, post_both, truth}
use Rattle.pw_law_checked.proofs.Lists.{Longer}
use Rattle.pw_law_checked.proofs.Types.{no, not_true}
use Rattle.pw_law_checked.proofs.Conversions.{scalar_is, integral_is, cast_type, cast_words, promote_type, promote_typed, promoted_twice}
use Rattle.pw_law_checked.proofs.Places.{assignable_typed}
use Rattle.pw_law_checked.proofs.States.{Fine, FineValue, GoodValue, Runs, goes_on, Grows, grows_same, grows_trans, stands_back}
use Rattle.pw_law_checked.proofs.Operations.{value_runs}
use Rattle.pw_law_checked.proofs.Changes.{deeper_lawful}
use Rattle.pw_law_checked.proofs.Phrases.{expr_post}
use Rattle.pw_law_checked.proofs.Counting.{one, times_of, below, times_numbers, contained}
use Rattle.pw_law_checked.proofs.Locals.{ArePlaced, longer_same, grows_placed, left_placed}
use Rattle.pw_law_checked.proofs.Keeping.{After, after_trans, after_grows, Goes, Anything, around}
use Rattle.pw_law_checked.proofs.Statements.{labels_goes, in_switch_goes, in_loop_goes, stmt_goes, alternative_goes, stmts_goes}
use Rattle.pw_law_checked.proofs.Adding.{IsOwned, Final, IsReady, Starts, Declares, Declaring, denotes_final, decls_declare, longer_length}
use Rattle.pw_law_checked.proofs.LabelLaws.{label_labelled, loop_labelled, asked_post, Steady, steady_same, steady_trans, Labelled, labels_labelled, IsSwitchOf, IsLabelledSwitch, switch_labelled, stmt_labelled, alternative_labelled, stmts_labelled, adds_steady, with_loop}

-- ---- how statements move the state

-- what they keep beside the function's own
pub record Inside (s t : State) : Type 0 where
  pub placed : ArePlaced s → ArePlaced t
  pub depth : t.scopes.depth ≡ s.scopes.depth
  pub counting : t.made.counting ≡ s.made.counting
  pub hidden : Longer s.made.hidden t.made.hidden

pub record Moves (s t : State) : Type 0 where
  pub after : After s t
  pub inside : Inside s t
  pub steady : Steady s.body t.body

inside_same : (s : State) → Inside s s
inside_same s = record { placed = λ p. p; depth = refl; counting = refl; hidden = longer_same s.made.hidden }

inside_trans : {s t u : State} → Inside s t → Inside t u → Inside s u
inside_trans {s} {t} {u} a b = record { placed = λ p. b.placed (a.placed p); depth = b.depth ∙ a.depth; counting = b.counting ∙ a.counting; hidden = λ k x e. b.hidden k x (a.hidden k x e) }

inside_grows : {s t : State} → Grows s t → Inside s t
inside_grows g = record { placed = grows_placed g; depth = g.depth; counting = g.counting; hidden = g.hidden }

moves_trans : {s t u : State} → Moves s t → Moves t u → Moves s u
moves_trans {s} {t} {u} a b = record { after = after_trans a.after b.after; inside = inside_trans a.inside b.inside; steady = steady_trans a.steady b.steady }

moves_grows : {s t : State} → IsLawful t → Grows s t → Moves s t
moves_grows {s} {t} l g = record { after = after_grows g; inside = inside_grows g; steady = subst (Steady s.body) (sym g.body) (steady_same s.body) }

ready_moves : {s t : State} → Moves s t → IsReady s → IsReady t
ready_moves {s} {t} a r = record { placed = a.inside.placed r.placed; counting = a.inside.counting ∙ r.counting; sound = a.after.sound r.sound }

-- ---- a function around

-- what a statement asks of its function: its result, and its labels with names
pub record Frame (b : BodyState) (m : ModuleValue) (f : FunctionValue) : Type 0 where
  pub returns : (params : QTypes) × (type_of f.ty ≡ Function b.result params)
  pub gives : IsResult (type_of b.result)
  pub lawful : IsLawfulType m.records (type_of b.result)
  pub named : f.named ≡ numbers_below (length b.names)

frame_later : {a b : BodyState} {m : ModuleValue} {f : FunctionValue} → Steady a b → Frame a m f → Frame b m f
frame_later {a} {b} {m} {f} x g = record {
  returns = (g.returns.0, g.returns.1 ∙ ap (λ q. Function q g.returns.0) (sym x.result));
  gives = subst (λ q. IsResult (type_of q)) (sym x.result) g.gives;
  lawful = subst (λ q. IsLawfulType m.records (type_of q)) (sym x.result) g.lawful;
  named = g.named ∙ ap (λ (xs : List (List ℕ)). numbers_below (length xs)) (sym x.names);
}

-- what holds in each module and function that a state's end stands for
abbrev pub Promise : State → State → (ModuleValue → FunctionValue → Type 0) → Type 0
Promise s t P = (m : ModuleValue) (f : FunctionValue) → Final t m f.locals → Frame s.body m f → IsReady s → P m f

-- a state later, it holds still
promise_front : {s t u : State} (P : ModuleValue → FunctionValue → Type 0) → Moves s t → Moves t u → Promise s t P → Promise s u P
promise_front {s} {t} {u} P a b h m f final frame ready =
    h m f (Rattle.pw_law_checked.proofs.Adding.final_back b.after (ready_moves a ready) b.steady.locals b.inside.hidden final) frame ready

-- from a state before
promise_later : {s t u : State} (P : ModuleValue → FunctionValue → Type 0) → Moves s t → Promise t u P → Promise s u P
promise_later {s} {t} {u} P a h m f final frame ready = h m f final (frame_later a.steady frame) (ready_moves a ready)

-- ---- expressions

-- the value of an expression
value_promise : {s t : State} (x : Expression) → Moves s t → FineValue t x → Promise s t (λ m f. AreWords x → GoodValue m f.locals x)
value_promise {s} {t} x a v m f final frame ready words =
    let r : IsReady t = ready_moves a ready in
    v m f.locals (denotes_final t m f.locals final.names r.placed r.counting final.locals_are) words

whole_runs : (s : State) (e : Expr) → IsLawful s → Runs s (whole_rule e s) FineValue
unfolding whole_rule
whole_runs s e l = goes_on _ _ Fine FineValue (expr_post e s l) (λ r m g f. value_runs r.1 r.0 m f)

-- a rule that grows, and what its answer promises
abbrev Offers : {A : Type 0} → State → (A → ModuleValue → FunctionValue → Type 0) → A × State → Type 0
Offers s P r = IsLawful r.1 × Moves s r.1 × Promise s r.1 (P r.0)

whole_offers : (s : State) (e : Expr) → IsLawful s → Post (whole_rule e s) (Offers s (λ x m f. AreWords x → GoodValue m f.locals x))
whole_offers s e l =
    post_weaken (whole_rule e s) (λ r. IsLawful r.1 × Grows s r.1 × FineValue r.1 r.0) (Offers s (λ x m f. AreWords x → GoodValue m f.locals x)) (whole_runs s e l)
    (λ r g. let a = moves_grows {s = s} {t = r.1} g.0 g.1 in (g.0, a, value_promise {s = s} {t = r.1} r.0 a g.2))

abbrev OffersIfAny : Option Expression → ModuleValue → FunctionValue → Type 0
OffersIfAny x m f = HasWordsIfAny x → IsTypedOrAbsent m f.locals x

optional_offers : (s : State) (e : Option Expr) → IsLawful s → Post (optional_rule e s) (Offers s OffersIfAny)
unfolding optional_rule bind
optional_offers s None l = (l, moves_grows l (grows_same s), λ m f final frame ready words. tt)
optional_offers s (Some e) l =
    post_bind (whole_rule e s) _ (Offers s (λ x m f. AreWords x → GoodValue m f.locals x)) (Offers s OffersIfAny) (whole_offers s e l)
    (λ r g. (g.0, g.1, λ m f final frame ready words. (g.2 m f final frame ready words).typed))

abbrev OffersCondition : Expression → ModuleValue → FunctionValue → Type 0
OffersCondition x m f = AreWords x → IsCondition m f.locals x

condition_offers : (s : State) (t : ℕ) (e : Expr) → IsLawful s → Post (condition_rule t e s) (Offers s OffersCondition)
unfolding condition_rule bind
condition_offers s t e l =
    post_bind (whole_rule e s) _ (Offers s (λ x m f. AreWords x → GoodValue m f.locals x)) (Offers s OffersCondition) (whole_offers s e l)
    (λ r g met. (g.0, g.1, λ m f final frame ready words. ((g.2 m f final frame ready words).typed, scalar_is (type_in r.0) (truth _ met.0))))

abbrev OffersConditionIfAny : Option Expression → ModuleValue → FunctionValue → Type 0
OffersConditionIfAny x m f = HasWordsIfAny x → IsConditionOrAbsent m f.locals x

condition_so : (m : ModuleValue) (f : FunctionValue) (x : Option Expression) → is_condition x ≡ true → IsTypedOrAbsent m f.locals x → IsConditionOrAbsent m f.locals x
condition_so m f None e h = tt
condition_so m f (Some x) e h = (h, scalar_is (type_in x) e)

optional_condition_offers : (s : State) (t : ℕ) (e : Option Expr) → IsLawful s → Post (optional_condition t e s) (Offers s OffersConditionIfAny)
unfolding optional_condition bind
optional_condition_offers s t e l =
    post_bind (optional_rule e s) _ (Offers s OffersIfAny) (Offers s OffersConditionIfAny) (optional_offers s e l)
    (λ r g met. (g.0, g.1, λ m f final frame ready words. condition_so m f r.0 (truth _ met.0) (g.2 m f final frame ready words)))

wide_promoted : (k : IntKind) → size_of_kind (promoted k) ≡ 4
wide_promoted K.SChar = refl
wide_promoted _ = refl

-- the value of a switch
abbrev OffersSwitch : Expression → ModuleValue → FunctionValue → Type 0
OffersSwitch x m f = (AreWords x → IsTyped m f.locals x) × ((k : IntKind) × (type_in x ≡ Int (promoted k)))

switch_offers : (s : State) (t : ℕ) (e : Expr) → IsLawful s → Post (switch_rule t e s) (λ r. Offers s (λ x m f. AreWords x → IsTyped m f.locals x) r × ((k : IntKind) × (type_in r.0 ≡ Int (promoted k))))
unfolding switch_rule bind
switch_offers s t e l =
    post_bind (whole_rule e s) _ (Offers s (λ x m f. AreWords x → GoodValue m f.locals x)) (λ r. Offers s (λ x m f. AreWords x → IsTyped m f.locals x) r × ((k : IntKind) × (type_in r.0 ≡ Int (promoted k)))) (whole_offers s e l)
    (λ r g met.
    let k = integral_is (type_in r.0) (truth _ met.0) in
    ((g.0, g.1, λ m f final frame ready words. promote_typed m f.locals r.0 k.0 k.1 (g.2 m f final frame ready (cast_words (Rattle.pw_check_rules.specs.Operands.promoted_type (type_in r.0)) r.0 words)).typed), (k.0, promote_type r.0 k.0 k.1)))

-- ---- what a statement promises

abbrev pub breaks_in : BodyState → Bool
breaks_in b = nat_lt 0 b.loops || not (is_nil b.switches)

abbrev pub loops_in : BodyState → Bool
loops_in b = nat_lt 0 b.loops

abbrev pub IsTypedIn : BodyState → Statement → ModuleValue → FunctionValue → Type 0
IsTypedIn b x m f = WordsInStatement x → (from : ℕ) → from ≤ length b.locals → IsStatement m f (breaks_in b) (loops_in b) from x

abbrev AreTypedIn : BodyState → T.Statements → ModuleValue → FunctionValue → Type 0
AreTypedIn b x m f = WordsInStatements x → (from : ℕ) → from ≤ length b.locals → M.AreStatements m f (breaks_in b) (loops_in b) from x

abbrev IsTypedBehind : BodyState → R.Behind → ModuleValue → FunctionValue → Type 0
IsTypedBehind b x m f = WordsInArms x.arms × WordsInElse x.otherwise → (from : ℕ) → from ≤ length b.locals
    → M.AreArms m f (breaks_in b) (loops_in b) from x.arms × M.IsElse m f (breaks_in b) (loops_in b) from x.otherwise

breaks_same : {a b : BodyState} → Steady a b → breaks_in b ≡ breaks_in a
breaks_same {a} {b} x = ap (λ n. nat_lt 0 n || not (is_nil b.switches)) x.loops ∙ ap (λ y. nat_lt 0 a.loops || not y) x.nested

loops_same : {a b : BodyState} → Steady a b → loops_in b ≡ loops_in a
loops_same x = ap (nat_lt 0) x.loops

-- what holds of each break and continue around
from_before : {a b : BodyState} (P : Bool → Bool → ℕ → Type 0) → Steady a b → ((from : ℕ) → from ≤ length b.locals → P (breaks_in b) (loops_in b) from)
    → (from : ℕ) → from ≤ length a.locals → P (breaks_in a) (loops_in a) from
from_before {a} {b} P x h from within =
    let k : length a.locals ≤ length b.locals = longer_length a.locals b.locals x.locals in
    subst (λ y. P y (loops_in a) from) (breaks_same x) (subst (λ y. P (breaks_in b) y from) (loops_same x) (h from (omega (arith, within, k))))

typed_before : {a b : BodyState} (x : Statement) (m : ModuleValue) (f : FunctionValue) → Steady a b → IsTypedIn b x m f → IsTypedIn a x m f
typed_before {a} {b} x m f y h words = from_before {a = a} {b = b} (λ breaks continues from. IsStatement m f breaks continues from x) y (h words)

all_before : {a b : BodyState} (x : T.Statements) (m : ModuleValue) (f : FunctionValue) → Steady a b → AreTypedIn b x m f → AreTypedIn a x m f
all_before {a} {b} x m f y h words = from_before {a = a} {b = b} (λ breaks continues from. M.AreStatements m f breaks continues from x) y (h words)

behind_before : {a b : BodyState} (x : R.Behind) (m : ModuleValue) (f : FunctionValue) → Steady a b → IsTypedBehind b x m f → IsTypedBehind a x m f
behind_before {a} {b} x m f y h words = from_before {a = a} {b = b} (λ breaks continues from. M.AreArms m f breaks continues from x.arms × M.IsElse m f breaks continues from x.otherwise) y (h words)

-- what the induction says of a rule's answer
abbrev Keeps : {A : Type 0} → State → (A → ModuleValue → FunctionValue → Type 0) → A × State → Type 0
Keeps s P r = Inside s r.1 × Promise s r.1 (P r.0)

abbrev pub IsKept : State → Statement × State → Type 0
IsKept s r = Keeps s (IsTypedIn s.body) r

-- with what the inductions before say
offered : {A : Type 0} (s : State) (w : Walk (A × State)) (P : A → ModuleValue → FunctionValue → Type 0) (names : List (List ℕ)) (labels cases : A → List ℕ) → Goes s w Anything
    → Post w (λ r. Labelled s.body names (labels r.0) (cases r.0) r.1) → Post w (Keeps s P) → Post w (Offers s P)
offered {A} s w P names labels cases goes labelled kept =
    post_weaken w (λ r. (IsLawful r.1 × After s r.1 × Unit {0}) × (Labelled s.body names (labels r.0) (cases r.0) r.1 × Keeps s P r)) (Offers s P)
    (post_both w (λ r. IsLawful r.1 × After s r.1 × Unit {0}) (λ r. Labelled s.body names (labels r.0) (cases r.0) r.1 × Keeps s P r) goes
    (post_both w (λ r. Labelled s.body names (labels r.0) (cases r.0) r.1) (Keeps s P) labelled kept))
    (λ r g. (g.0.0, record { after = g.0.1; inside = g.1.1.0; steady = g.1.0.1 }, g.1.1.1))

stmt_offers : (st : Stmt) (s : State) → IsLawful s → Post (stmt_rule st s) (IsKept s) → Post (stmt_rule st s) (Offers s (IsTypedIn s.body))
stmt_offers st s l h = offered s (stmt_rule st s) (IsTypedIn s.body) (R.labels_in st) labels_in Rattle.pw_types.specs.Labels.cases_in (stmt_goes st s l) (stmt_labelled st s l) h

stmts_offer : (ss : Stmts) (s : State) → IsLawful s → Post (stmts_rule ss s) (Keeps s (AreTypedIn s.body)) → Post (stmts_rule ss s) (Offers s (AreTypedIn s.body))
stmts_offer ss s l h =
    offered s (stmts_rule ss s) (AreTypedIn s.body) (R.labels_in_list ss) Rattle.pw_types.specs.Labels.labels_among Rattle.pw_types.specs.Labels.cases_among (stmts_goes ss s l) (stmts_labelled ss s l) h

alternative_offers : (a : Alternative) (s : State) → IsLawful s → Post (alternative_rule a s) (Keeps s (IsTypedBehind s.body)) → Post (alternative_rule a s) (Offers s (IsTypedBehind s.body))
alternative_offers a s l h =
    offered s (alternative_rule a s) (IsTypedBehind s.body) (R.labels_in_alternative a) (λ r. Rattle.pw_types.specs.Labels.labels_of_arms r.arms ++ Rattle.pw_types.specs.Labels.labels_behind r.otherwise)
    (λ r. Rattle.pw_types.specs.Labels.cases_of_arms r.arms ++ Rattle.pw_types.specs.Labels.cases_behind r.otherwise) (alternative_goes a s l) (alternative_labelled a s l) h

-- ---- changes of the function alone

final_around : (t : State) (b : BodyState) (m : ModuleValue) (locals : List LocalValue) → Longer t.body.locals b.locals → Final (record t { body = b }) m locals → Final t m locals
final_around t b m locals more f = record {
  names = record {
    records = f.names.records;
    strings = f.names.strings;
    entities = λ k e h. stands_back t (record t { body = b }) m refl e (f.names.entities k e h);
  };
  owned = f.owned;
  locals_are = λ i x e. f.locals_are i x (more i x e);
}

-- a loop: `break` and `continue` can leave it
abbrev IsTypedLoop : State → Statement → ModuleValue → FunctionValue → Type 0
IsTypedLoop s x m f = WordsInStatement x → (from : ℕ) → from ≤ length s.body.locals → IsStatement m f true true from x

lt_more : (n : ℕ) → nat_lt 0 (n + 1) ≡ true
lt_more n = by (nat_lt 0 (n + 1)) refl
  where
    by : (b : Bool) → nat_lt 0 (n + 1) ≡ b → b ≡ true
    by true e = refl
    by false e = let k : n + 1 ≤ 0 = ltb-false 0 (n + 1) e in grind (arith, k)

loop_kept : (s : State) (body : Rule Statement) → IsLawful s → ((t : State) → IsLawful t → Post (body t) (IsKept t)) → Post (in_loop body s) (Keeps s (IsTypedLoop s))
unfolding in_loop bind
loop_kept s body l h =
    post_bind (body (with_loop s)) _ (IsKept (with_loop s)) (Keeps s (IsTypedLoop s)) (h (with_loop s) (around s s.made (with_loop s).body l refl).0)
    (λ r g. (
      record { placed = g.0.placed; depth = g.0.depth; counting = g.0.counting; hidden = g.0.hidden },
      λ m f final frame ready words from within.
          subst (λ y. IsStatement m f y true from r.0) (ap (λ y. y || not (is_nil s.body.switches)) (lt_more s.body.loops))
          (subst (λ y. IsStatement m f (breaks_in (with_loop s).body) y from r.0) (lt_more s.body.loops)
          (g.1 m f (final_around r.1 (record r.1.body { loops = r.1.body.loops - 1 }) m f.locals (longer_same r.1.body.locals) final)
          (record { returns = frame.returns; gives = frame.gives; lawful = frame.lawful; named = frame.named }) (record { placed = ready.placed; counting = ready.counting; sound = record { backed = ready.sound.backed; spelled = ready.sound.spelled; functions = ready.sound.functions; slots = ready.sound.slots } }) words from within)),
    ))

-- a switch: `break` can leave it
abbrev IsTypedSwitch : State → Statement × SwitchState → ModuleValue → FunctionValue → Type 0
IsTypedSwitch s x m f = WordsInStatement x.0 → (from : ℕ) → from ≤ length s.body.locals → IsStatement m f true (loops_in s.body) from x.0

or_true : (x : Bool) → (x || true) ≡ true
or_true true = refl
or_true false = refl

switch_kept : (s : State) (e : Expression) (body : Rule Statement) → IsLawful s → ((t : State) → IsLawful t → Post (body t) (IsKept t)) → Post (in_switch e body s) (Keeps s (IsTypedSwitch s))
unfolding in_switch bind
switch_kept s e body l h =
    post_bind (body (R.enter_switch (kind_in (type_in e)) s)) _ (IsKept (R.enter_switch (kind_in (type_in e)) s)) (Keeps s (IsTypedSwitch s))
    (h (R.enter_switch (kind_in (type_in e)) s) (around s s.made (R.enter_switch (kind_in (type_in e)) s).body l refl).0)
    (λ r g. (
      record { placed = g.0.placed; depth = g.0.depth; counting = g.0.counting; hidden = g.0.hidden },
      λ m f final frame ready words from within.
          subst (λ y. IsStatement m f y (loops_in s.body) from r.0) (or_true (nat_lt 0 s.body.loops))
          (g.1 m f (final_around r.1 (R.leave_switch r.1).body m f.locals (longer_same r.1.body.locals) final)
          (record { returns = frame.returns; gives = frame.gives; lawful = frame.lawful; named = frame.named }) (record { placed = ready.placed; counting = ready.counting; sound = record { backed = ready.sound.backed; spelled = ready.sound.spelled; functions = ready.sound.functions; slots = ready.sound.slots } }) words from within),
    ))

-- a scope
scoped_kept : (s : State) (inside : Rule Statement) → Post (inside (one_deeper s)) (IsKept (one_deeper s)) → Post (scoped inside s) (IsKept s)
unfolding scoped bind
scoped_kept s inside h =
    post_bind (inside (one_deeper s)) _ (IsKept (one_deeper s)) (IsKept s) h
    (λ r g. (
      record { placed = λ p. left_placed r.1 (g.0.placed p); depth = let d : r.1.scopes.depth ≡ s.scopes.depth + 1 = g.0.depth in omega (arith, d); counting = g.0.counting; hidden = g.0.hidden },
      λ m f final frame ready. g.1 m f (final_left r.1 m f.locals final) frame (record { placed = ready.placed; counting = ready.counting; sound = record { backed = ready.sound.backed; spelled = ready.sound.spelled; functions = ready.sound.functions; slots = ready.sound.slots } }),
    ))
  where
    final_left : (t : State) (m : ModuleValue) (locals : List LocalValue) → Final (leave_scope t) m locals → Final t m locals
    final_left t m locals f = record {
      names = record {
        records = f.names.records;
        strings = f.names.strings;
        entities = λ k e h. stands_back t (leave_scope t) m refl e (f.names.entities k e h);
      };
      owned = f.owned;
      locals_are = f.locals_are;
    }

-- ---- simple statements

statement_same : (s : State) (x : Statement) → IsLawful s → ((m : ModuleValue) (f : FunctionValue) → Frame s.body m f → IsTypedIn s.body x m f) → IsKept s (x, s)
statement_same s x l h = (inside_same s, λ m f final frame ready. h m f frame)

evaluate_kept : (s : State) (e : Expr) → IsLawful s → Post (bind (Rattle.pw_check_rules.specs.Phrases.expr_rule e s) (λ t. bind (Rattle.pw_check_rules.specs.Operators.value_rule t.0 t.1) (λ x. Done (T.Evaluate (first_of_expr e) x.0, x.1)))) (IsKept s)
unfolding bind IsStatement
evaluate_kept s e l =
    post_bind (Rattle.pw_check_rules.specs.Phrases.expr_rule e s) _ (λ r. IsLawful r.1 × Grows s r.1 × Fine r.1 r.0) (IsKept s) (expr_post e s l) (λ r g.
    post_bind (Rattle.pw_check_rules.specs.Operators.value_rule r.0 r.1) _ (λ u. IsLawful u.1 × Grows r.1 u.1 × FineValue u.1 u.0) (IsKept s) (value_runs r.1 r.0 g.0 g.2) (λ u k.
    let a = moves_grows {s = s} {t = u.1} k.0 (grows_trans g.1 k.1) in
    (inside_grows (grows_trans g.1 k.1), λ m f final frame ready words from within. (value_promise {s = s} {t = u.1} u.0 a k.2 m f final frame ready words).typed)))

position_below : (p : List ℕ → Bool) (names : List (List ℕ)) → is_some (position p names) ≡ true → unwrap_or (position p names) 0 < length names
position_below p names h = by (nat_lt (position_or_len p names) (length names)) refl h
  where
    by : (b : Bool) → nat_lt (position_or_len p names) (length names) ≡ b → is_some (cond b (Some (position_or_len p names)) None) ≡ true → unwrap_or (cond b (Some (position_or_len p names)) None) 0 < length names
    by true e k = ltb-true (position_or_len p names) (length names) e
    by false e k = no k

number_named : (n count : ℕ) → n < count → Contains (numbers_below count) n
number_named n count h =
    contained n (numbers_below count)
    (let a : times_of n (numbers_below count) ≡ below n count = times_numbers n count in let b : below n count ≡ 1 = by (nat_lt n count) refl in omega (arith, a, b))
  where
    by : (b : Bool) → nat_lt n count ≡ b → one b ≡ 1
    by true e = refl
    by false e = let k : count ≤ n = ltb-false n count e in grind (arith, h, k)

goto_kept : (s : State) (t : ℕ) (w : Word) → IsLawful s → Post (goto_rule t w s) (IsKept s)
unfolding goto_rule bind IsStatement
goto_kept s t w l = λ met.
    statement_same s (T.Goto t (unwrap_or (place_of_label s w.text) 0)) l (λ m f frame words from within.
    subst (λ names. Contains names (unwrap_or (place_of_label s w.text) 0)) (sym frame.named)
    (number_named (unwrap_or (place_of_label s w.text) 0) (length s.body.names) (position_below (bytes_eq w.text) s.body.names (truth _ met.0))))

continue_kept : (s : State) (t : ℕ) → IsLawful s → Post (continue_rule t s) (IsKept s)
unfolding continue_rule bind IsStatement
continue_kept s t l = λ met. statement_same s (T.Continue t) l (λ m f frame words from within. truth _ met.0)

break_kept : (s : State) (t : ℕ) → IsLawful s → Post (break_rule t s) (IsKept s)
unfolding break_rule bind IsStatement
break_kept s t l = λ met. statement_same s (T.Break t) l (λ m f frame words from within. truth _ met.0)

empty_kept : (s : State) (t : ℕ) → IsLawful s → IsKept s (T.Empty t, s)
unfolding IsStatement
empty_kept s t l = statement_same s (T.Empty t) l (λ m f frame words from within. tt)

result_scalar : (ty : CType) → IsResult ty → is_void ty ≡ false → IsScalar ty
result_scalar ty (inl same) e = no (sym e ∙ ap is_void same)
result_scalar ty (inr h) e = h

return_kept : (s : State) (t : ℕ) (e : Option Expr) → IsLawful s → Post (return_rule t e s) (IsKept s)
unfolding return_rule bind IsStatement
return_kept s t None l = statement_same s (T.Return t None) l (λ m f frame words from within. tt)
return_kept s t (Some e) l =
    post_bind (whole_rule e s) _ (Offers s (λ x m f. AreWords x → GoodValue m f.locals x)) (IsKept s) (whole_offers s e l) (λ r g met. (
      g.1.inside,
      λ m f final frame ready words from within.
          let later : Frame r.1.body m f = frame_later g.1.steady frame in
          let good = g.2 m f final frame ready (cast_words (type_of r.1.body.result) r.0 words) in (
            assignable_typed m f.locals (type_of r.1.body.result) r.0 good later.lawful (truth _ met.1.0),
            (
              r.1.body.result,
              later.returns.0,
              later.returns.1,
              result_scalar (type_of r.1.body.result) later.gives (not_true _ (truth _ met.0)),
              cast_type (type_of r.1.body.result) r.0,
            ),
          ),
    ))

-- ---- labels

inside_body : (s : State) (b : BodyState) → b.locals ≡ s.body.locals → Inside s (record s { body = b })
inside_body s b same = record {
  placed = λ p i e h. let x = p i e h in (x.0, x.1, subst (λ ls. Rattle.pw_law_checked.proofs.Locals.IsPlaced ls e.1.depth x.0) (sym same) x.2);
  depth = refl;
  counting = refl;
  hidden = longer_same s.made.hidden;
}

case_inside : (s : State) (first : ℕ) (e : Expression) → Post (case_rule first e s) (λ r. Inside s r.1)
unfolding case_rule new_label bind
case_inside s first e = λ met. inside_body s _ refl

label_inside : (s : State) (label : Label) → IsLawful s → Post (label_rule label s) (λ r. Inside s r.1)
unfolding label_rule inside_switch default_rule name_label_rule new_label bind
label_inside s (S.CaseLabel t e) l = λ met.
    post_bind (Rattle.pw_check_rules.specs.Phrases.expr_rule e s) _ (λ r. IsLawful r.1 × Grows s r.1 × Fine r.1 r.0) (λ r. Inside s r.1) (expr_post e s l) (λ r g.
    post_bind (Rattle.pw_check_rules.specs.Operators.value_rule r.0 r.1) _ (λ u. IsLawful u.1 × Grows r.1 u.1 × FineValue u.1 u.0) (λ r. Inside s r.1) (value_runs r.1 r.0 g.0 g.2) (λ u k.
    post_weaken (case_rule (first_of_expr e) u.0 u.1) (λ v. Inside u.1 v.1) (λ v. Inside s v.1) (case_inside u.1 (first_of_expr e) u.0) (λ v f. inside_trans (inside_grows (grows_trans g.1 k.1)) f)))
label_inside s (S.DefaultLabel t) l = λ met. inside_body s _ refl
label_inside s (S.NameLabel w) l = λ met. inside_body s _ refl

-- as many labels as the tree has
abbrev IsSome : List Label → List ℕ → Type 0
IsSome ls ns = ls ≢ [] → ns ≢ []

labels_inside : (ls : List Label) (s : State) → IsLawful s → Post (labels_rule ls s) (λ r. Inside s r.1 × IsSome ls r.0)
unfolding labels_rule
labels_inside [] s l = (inside_same s, λ some. absurd (some refl))
labels_inside (x ∷ rest) s l =
    post_bind _ _ (λ r. Labelled s.body (R.names_of_labels (x ∷ [])) (r.0 ∷ []) [] r.1 × Inside s r.1) (λ r. Inside s r.1 × IsSome (x ∷ rest) r.0)
    (post_both _ (λ r. Labelled s.body (R.names_of_labels (x ∷ [])) (r.0 ∷ []) [] r.1) (λ r. Inside s r.1) (label_labelled s x l) (label_inside s x l)) (λ r g.
    post_bind _ _ (λ u. Inside r.1 u.1 × IsSome rest u.0) (λ u. Inside s u.1 × IsSome (x ∷ rest) u.0) (labels_inside rest r.1 g.0.0) (λ u f.
    (inside_trans g.1 f.0, λ some. never_nil r.0 u.0)))

-- what labels keep
labels_move : (ls : List Label) (s : State) → IsLawful s → Post (labels_rule ls s) (λ r. IsLawful r.1 × Moves s r.1 × IsSome ls r.0)
labels_move ls s l =
    post_weaken (labels_rule ls s) (λ r. (IsLawful r.1 × After s r.1 × Unit {0}) × (Labelled s.body (R.names_of_labels ls) r.0 [] r.1 × (Inside s r.1 × IsSome ls r.0))) (λ r. IsLawful r.1 × Moves s r.1 × IsSome ls r.0)
    (post_both _ (λ r. IsLawful r.1 × After s r.1 × Unit {0}) (λ r. Labelled s.body (R.names_of_labels ls) r.0 [] r.1 × (Inside s r.1 × IsSome ls r.0)) (labels_goes ls s l)
    (post_both _ (λ r. Labelled s.body (R.names_of_labels ls) r.0 [] r.1) (λ r. Inside s r.1 × IsSome ls r.0) (labels_labelled ls s l) (labels_inside ls s l)))
    (λ r g. (g.0.0, record { after = g.0.1; inside = g.1.1.0; steady = g.1.0.1 }, g.1.1.1))

-- ---- blocks

starts_initialise : (m : ModuleValue) (locals : List LocalValue) (first end : ℕ) (i : Initialiser) → Starts m locals first end i → Initialises m locals first (end - first) i
starts_initialise m locals first end (T.Value k e) h = (h.0, (let a : first ≤ k = h.0 in let b : k < end = h.1 in omega (arith, a, b)), h.2, h.3)
starts_initialise m locals first end (T.Bytes k hidden parts) h = (h.0, (let a : first ≤ k = h.0 in let b : k < end = h.1 in omega (arith, a, b)), h.2)

decls_move : {s t : State} (is : List Initialiser) → IsLawful t × After s t × (Rattle.pw_law_checked.proofs.Adding.Adds s t × Declares s t is) → Moves s t
decls_move {s} {t} is g = record {
  after = g.1;
  inside = record { placed = g.2.0.placed; depth = g.2.0.depth; counting = g.2.0.counting; hidden = g.2.0.hidden };
  steady = subst (Steady s.body) (sym g.2.0.steady) (adds_steady s.body t.body.locals g.2.0.locals).0;
}

block_typed : (s r u : State) (is : List Initialiser) (items : T.Statements) (t : ℕ) → Moves s r → Declares s r is → Moves r u → Promise r u (AreTypedIn r.body items)
    → Promise s u (IsTypedIn s.body (T.Block t (length s.body.locals) (length r.body.locals - length s.body.locals) is items))
unfolding IsStatement
block_typed s r u is items t a d b h m f final frame ready words from within =
    let early : length s.body.locals ≤ length r.body.locals = longer_length s.body.locals r.body.locals a.steady.locals in
    let late : length r.body.locals ≤ length u.body.locals = longer_length r.body.locals u.body.locals b.steady.locals in
    let whole : length u.body.locals ≤ length f.locals = longer_length u.body.locals f.locals final.locals_are in
    let middle : Final r m f.locals = Rattle.pw_law_checked.proofs.Adding.final_back b.after (ready_moves a ready) b.steady.locals b.inside.hidden final in (
      within,
      omega (arith, early, late, whole),
      All-weaker (Starts m f.locals (length s.body.locals) (length r.body.locals)) (Initialises m f.locals (length s.body.locals) (length r.body.locals - length s.body.locals))
          (starts_initialise m f.locals (length s.body.locals) (length r.body.locals)) is (d m f.locals middle ready (All-from_recursion HasWords is words.0)),
      subst (λ y. M.AreStatements m f y (loops_in s.body) (length s.body.locals + (length r.body.locals - length s.body.locals)) items) (breaks_same a.steady)
          (subst (λ y. M.AreStatements m f (breaks_in r.body) y (length s.body.locals + (length r.body.locals - length s.body.locals)) items) (loops_same a.steady)
          (h m f final (frame_later a.steady frame) (ready_moves a ready) words.1 (length s.body.locals + (length r.body.locals - length s.body.locals)) (omega (arith, early)))),
    )

-- ---- statements

arms_typed : (s q r u : State) (t : ℕ) (x : Expression) (body : Statement) (rest : R.Behind) → Moves s q → Promise s q (OffersCondition x) → Moves q r → Promise q r (IsTypedIn q.body body) → Moves r u
    → Promise r u (IsTypedBehind r.body rest) → Promise s u (IsTypedBehind s.body (R.arms_behind (T.Arm t x body rest.arms) rest.otherwise))
unfolding IsStatement
arms_typed s q r u t x body rest a c b h d k m f final frame ready words from within =
    let condition = promise_front {s = s} {t = q} {u = u} (OffersCondition x) a (moves_trans b d) c m f final frame ready words.0.0 in
    let first = typed_before body m f a.steady (promise_later {s = s} {t = q} {u = u} (IsTypedIn q.body body) a (promise_front {s = q} {t = r} {u = u} (IsTypedIn q.body body) b d h) m f final frame ready) words.0.1 from within in
    let others = behind_before rest m f (moves_trans a b).steady (promise_later {s = s} {t = r} {u = u} (IsTypedBehind r.body rest) (moves_trans a b) k m f final frame ready) (words.0.2, words.1) from within in
    ((condition, first, others.0), others.1)

if_typed : (s q r u : State) (t : ℕ) (x : Expression) (body : Statement) (rest : R.Behind) → Moves s q → Promise s q (OffersCondition x) → Moves q r → Promise q r (IsTypedIn q.body body) → Moves r u
    → Promise r u (IsTypedBehind r.body rest) → Promise s u (IsTypedIn s.body (T.If t (T.Arm t x body rest.arms) rest.otherwise))
unfolding IsStatement
if_typed s q r u t x body rest a c b h d k m f final frame ready words from within =
    let all = arms_typed s q r u t x body rest a c b h d k m f final frame ready words from within in (refl, all.0, all.1)

-- a condition, and then a loop
while_typed : (s q r : State) (t : ℕ) (x : Expression) (body : Statement) → Moves s q → Promise s q (OffersCondition x) → Moves q r → Promise q r (IsTypedLoop q body) → Promise s r (IsTypedIn s.body (T.While t x body))
unfolding IsStatement
while_typed s q r t x body a c b h m f final frame ready words from within =
    let k : length s.body.locals ≤ length q.body.locals = longer_length s.body.locals q.body.locals a.steady.locals in (
      promise_front {s = s} {t = q} {u = r} (OffersCondition x) a b c m f final frame ready words.0,
      promise_later {s = s} {t = q} {u = r} (IsTypedLoop q body) a h m f final frame ready words.1 from (omega (arith, within, k)),
    )

do_typed : (s q r : State) (t : ℕ) (x : Expression) (body : Statement) → Moves s q → Promise s q (IsTypedLoop s body) → Moves q r → Promise q r (OffersCondition x) → Promise s r (IsTypedIn s.body (T.Do t body x))
unfolding IsStatement
do_typed s q r t x body a h b c m f final frame ready words from within = (
  promise_later {s = s} {t = q} {u = r} (OffersCondition x) a c m f final frame ready words.0,
  promise_front {s = s} {t = q} {u = r} (IsTypedLoop s body) a b h m f final frame ready words.1 from within,
)

for_typed : (s a b c r : State) (t : ℕ) (x y z : Option Expression) (body : Statement) → Moves s a → Promise s a (OffersIfAny x) → Moves a b → Promise a b (OffersConditionIfAny y) → Moves b c → Promise b c (OffersIfAny z)
    → Moves c r → Promise c r (IsTypedLoop c body) → Promise s r (IsTypedIn s.body (T.For t x y z body))
unfolding IsStatement
for_typed s a b c r t x y z body sa px ab py bc pz cr pb m f final frame ready words from within =
    let k : length s.body.locals ≤ length c.body.locals = longer_length s.body.locals c.body.locals (moves_trans sa (moves_trans ab bc)).steady.locals in (
      promise_front {s = s} {t = a} {u = r} (OffersIfAny x) sa (moves_trans ab (moves_trans bc cr)) px m f final frame ready words.0,
      promise_later {s = s} {t = a} {u = r} (OffersConditionIfAny y) sa (promise_front {s = a} {t = b} {u = r} (OffersConditionIfAny y) ab (moves_trans bc cr) py) m f final frame ready words.1,
      promise_later {s = s} {t = b} {u = r} (OffersIfAny z) (moves_trans sa ab) (promise_front {s = b} {t = c} {u = r} (OffersIfAny z) bc cr pz) m f final frame ready words.2,
      promise_later {s = s} {t = c} {u = r} (IsTypedLoop c body) (moves_trans sa (moves_trans ab bc)) pb m f final frame ready words.3 from (omega (arith, within, k)),
    )

is_switch : (x : Expression) (k : IntKind) (w : SwitchState) (body : Statement) → type_in x ≡ Int (promoted k) → IsSwitchOf (kind_in (type_in x)) w body → IsSwitch (type_in x) w.cases w.default body
is_switch x k w body same h =
    let h2 = subst (λ ty. IsSwitchOf (kind_in ty) w body) same h in
    let c = h2.cases (wide_promoted k) in
    subst (λ ty. IsSwitch ty w.cases w.default body) (sym same)
    (record { promoted = promoted_twice k; numbers = c.0; apart = c.1; labels = h2.labels; default_label = h2.default_label })

switch_typed : (s q r : State) (t : ℕ) (x : Expression) (w : SwitchState) (body : Statement) → Moves s q → Promise s q (λ m f. AreWords x → IsTyped m f.locals x) → (k : IntKind) → type_in x ≡ Int (promoted k)
    → Moves q r → Promise q r (IsTypedSwitch q (body, w)) → IsSwitchOf (kind_in (type_in x)) w body → Promise s r (IsTypedIn s.body (T.Switch t x w.cases w.default body))
unfolding IsStatement
switch_typed s q r t x w body a c kind same b h is m f final frame ready words from within =
    let k : length s.body.locals ≤ length q.body.locals = longer_length s.body.locals q.body.locals a.steady.locals in (
      promise_front {s = s} {t = q} {u = r} (λ n g. AreWords x → IsTyped n g.locals x) a b c m f final frame ready words.0,
      is_switch x kind w body same is,
      subst (λ y. IsStatement m f true y from body) (loops_same a.steady) (promise_later {s = s} {t = q} {u = r} (IsTypedSwitch q (body, w)) a h m f final frame ready words.1 from (omega (arith, within, k))),
    )

label_typed : (s q r : State) (t : ℕ) (ns : List ℕ) (body : Statement) → ns ≢ [] → Moves s q → Promise q r (IsTypedIn q.body body) → Promise s r (IsTypedIn s.body (T.Label t ns body))
unfolding IsStatement
label_typed s q r t ns body some a h m f final frame ready words from within =
    (some, typed_before body m f a.steady (promise_later {s = s} {t = q} {u = r} (IsTypedIn q.body body) a h m f final frame ready) words from within)

statements_typed : (s q r : State) (x : Statement) (xs : T.Statements) → Moves s q → Promise s q (IsTypedIn s.body x) → Moves q r → Promise q r (AreTypedIn q.body xs) → Promise s r (AreTypedIn s.body (T.OneStatement x xs))
unfolding IsStatement
statements_typed s q r x xs a h b k m f final frame ready words from within = (
  promise_front {s = s} {t = q} {u = r} (IsTypedIn s.body x) a b h m f final frame ready words.0 from within,
  all_before xs m f a.steady (promise_later {s = s} {t = q} {u = r} (AreTypedIn q.body xs) a k m f final frame ready) words.1 from within,
)

none_typed : (s : State) → Promise s s (AreTypedIn s.body T.NoStatement)
unfolding IsStatement
none_typed s m f final frame ready words from within = tt

no_arm : (s : State) → Promise s s (IsTypedBehind s.body (R.arms_behind T.NoArm T.NoElse))
unfolding IsStatement
no_arm s m f final frame ready words from within = (tt, tt)

else_typed : (s r : State) (x : Statement) → Promise s r (IsTypedIn s.body x) → Promise s r (IsTypedBehind s.body (R.arms_behind T.NoArm (T.Else x)))
unfolding IsStatement
else_typed s r x h m f final frame ready words from within = (tt, h m f final frame ready words.1 from within)

-- the labels of a switch go with its promise
switch_both : (s : State) (x : Expression) (st : Stmt) → IsLawful s → ((v : State) → IsLawful v → Post (stmt_rule st v) (IsKept v))
    → Post (in_switch x (stmt_rule st) s) (λ r. (IsLawful r.1 × Moves s r.1) × (Promise s r.1 (IsTypedSwitch s r.0) × IsSwitchOf (kind_in (type_in x)) r.0.1 r.0.0))
switch_both s x st l h =
    post_weaken _ (λ r. (IsLawful r.1 × After s r.1 × Unit {0}) × (IsLabelledSwitch s.body (kind_in (type_in x)) (R.labels_in st) r × Keeps s (IsTypedSwitch s) r))
    (λ r. (IsLawful r.1 × Moves s r.1) × (Promise s r.1 (IsTypedSwitch s r.0) × IsSwitchOf (kind_in (type_in x)) r.0.1 r.0.0))
    (post_both _ (λ r. IsLawful r.1 × After s r.1 × Unit {0}) (λ r. IsLabelledSwitch s.body (kind_in (type_in x)) (R.labels_in st) r × Keeps s (IsTypedSwitch s) r)
    (in_switch_goes s x (stmt_rule st) l (λ v i. stmt_goes st v i))
    (post_both _ (IsLabelledSwitch s.body (kind_in (type_in x)) (R.labels_in st)) (Keeps s (IsTypedSwitch s)) (switch_labelled s x (stmt_rule st) (R.labels_in st) l (λ v i. stmt_labelled st v i)) (switch_kept s x (stmt_rule st) l h)))
    (λ r g. ((g.0.0, record { after = g.0.1; inside = g.1.1.0; steady = g.1.0.0.1 }), (g.1.1.1, g.1.0.1)))

loop_both : (s : State) (st : Stmt) → IsLawful s → ((v : State) → IsLawful v → Post (stmt_rule st v) (IsKept v)) → Post (in_loop (stmt_rule st) s) (Offers s (IsTypedLoop s))
loop_both s st l h =
    offered s (in_loop (stmt_rule st) s) (IsTypedLoop s) (R.labels_in st) labels_in Rattle.pw_types.specs.Labels.cases_in (in_loop_goes s (stmt_rule st) l (λ v i. stmt_goes st v i))
    (loop_labelled s (stmt_rule st) (R.labels_in st) l (λ v i. stmt_labelled st v i)) (loop_kept s (stmt_rule st) l h)

mutual
  unfolding stmt_rule

  pub stmt_kept : (st : Stmt) (s : State) → IsLawful s → HasText st → Post (stmt_rule st s) (IsKept s)
  stmt_kept (S.Compound b) s l h = scoped_kept s (block_rule b) (block_kept b (one_deeper s) (deeper_lawful s l) h)
  stmt_kept (S.Expression e) s l h = evaluate_kept s e l
  stmt_kept (S.Empty t) s l h = empty_kept s t l
  stmt_kept (S.Labeled ls st) s l h =
      post_bind _ _ (λ r. IsLawful r.1 × Moves s r.1 × IsSome ls r.0) (IsKept s) (labels_move ls s l) (λ r g.
      post_bind _ _ (Offers r.1 (IsTypedIn r.1.body)) (IsKept s) (stmt_offers st r.1 g.0 (stmt_kept st r.1 g.0 h.1)) (λ u k.
      ((moves_trans g.1 k.1).inside, label_typed s r.1 u.1 (Rattle.pw_tree.specs.FirstTokens.first_of_labels ls 0) r.0 u.0 (g.2 h.0) g.1 k.2)))
  stmt_kept (S.If t c st a) s l h =
      post_bind _ _ (Offers s OffersCondition) (IsKept s) (condition_offers s t c l) (λ q g.
      post_bind _ _ (Offers q.1 (IsTypedIn q.1.body)) (IsKept s) (stmt_offers st q.1 g.0 (stmt_kept st q.1 g.0 h.0)) (λ r k.
      post_bind _ _ (Offers r.1 (IsTypedBehind r.1.body)) (IsKept s) (alternative_offers a r.1 k.0 (alternative_kept a r.1 k.0 h.1)) (λ u i.
      ((moves_trans g.1 (moves_trans k.1 i.1)).inside, if_typed s q.1 r.1 u.1 t q.0 r.0 u.0 g.1 g.2 k.1 k.2 i.1 i.2))))
  stmt_kept (S.Switch t e st) s l h =
      post_bind _ _ (λ r. Offers s (λ x m f. AreWords x → IsTyped m f.locals x) r × ((k : IntKind) × (type_in r.0 ≡ Int (promoted k)))) (IsKept s) (switch_offers s t e l) (λ q g.
      post_bind _ _ (λ r. (IsLawful r.1 × Moves q.1 r.1) × (Promise q.1 r.1 (IsTypedSwitch q.1 r.0) × IsSwitchOf (kind_in (type_in q.0)) r.0.1 r.0.0)) (IsKept s)
      (switch_both q.1 q.0 st g.0.0 (λ v i. stmt_kept st v i h)) (λ r k.
      ((moves_trans g.0.1 k.0.1).inside, switch_typed s q.1 r.1 t q.0 r.0.1 r.0.0 g.0.1 g.0.2 g.1.0 g.1.1 k.0.1 k.1.0 k.1.1)))
  stmt_kept (S.While t e st) s l h =
      post_bind _ _ (Offers s OffersCondition) (IsKept s) (condition_offers s t e l) (λ q g.
      post_bind _ _ (Offers q.1 (IsTypedLoop q.1)) (IsKept s) (loop_both q.1 st g.0 (λ v i. stmt_kept st v i h)) (λ r k.
      ((moves_trans g.1 k.1).inside, while_typed s q.1 r.1 t q.0 r.0 g.1 g.2 k.1 k.2)))
  stmt_kept (S.Do t st e) s l h =
      post_bind _ _ (Offers s (IsTypedLoop s)) (IsKept s) (loop_both s st l (λ v i. stmt_kept st v i h)) (λ q g.
      post_bind _ _ (Offers q.1 OffersCondition) (IsKept s) (condition_offers q.1 t e g.0) (λ r k.
      ((moves_trans g.1 k.1).inside, do_typed s q.1 r.1 t r.0 q.0 g.1 g.2 k.1 k.2)))
  stmt_kept (S.For t a b c st) s l h =
      post_bind _ _ (Offers s OffersIfAny) (IsKept s) (optional_offers s a l) (λ x i.
      post_bind _ _ (Offers x.1 OffersConditionIfAny) (IsKept s) (optional_condition_offers x.1 t b i.0) (λ y j.
      post_bind _ _ (Offers y.1 OffersIfAny) (IsKept s) (optional_offers y.1 c j.0) (λ q g.
      post_bind _ _ (Offers q.1 (IsTypedLoop q.1)) (IsKept s) (loop_both q.1 st g.0 (λ v n. stmt_kept st v n h)) (λ r k.
      ((moves_trans i.1 (moves_trans j.1 (moves_trans g.1 k.1))).inside, for_typed s x.1 y.1 q.1 r.1 t x.0 y.0 q.0 r.0 i.1 i.2 j.1 j.2 g.1 g.2 k.1 k.2)))))
  stmt_kept (S.Goto t w) s l h = goto_kept s t w l
  stmt_kept (S.Continue t) s l h = continue_kept s t l
  stmt_kept (S.Break t) s l h = break_kept s t l
  stmt_kept (S.Return t e) s l h = return_kept s t e l

  alternative_kept : (a : Alternative) (s : State) → IsLawful s → AlternativeHasText a → Post (alternative_rule a s) (Keeps s (IsTypedBehind s.body))
  alternative_kept S.NoElse s l h = (inside_same s, no_arm s)
  alternative_kept (S.Otherwise st) s l h =
      post_bind _ _ (IsKept s) (Keeps s (IsTypedBehind s.body)) (stmt_kept st s l h) (λ r g. (g.0, else_typed s r.1 r.0 g.1))
  alternative_kept (S.ElseIf t c st a) s l h =
      post_bind _ _ (Offers s OffersCondition) (Keeps s (IsTypedBehind s.body)) (condition_offers s t c l) (λ q g.
      post_bind _ _ (Offers q.1 (IsTypedIn q.1.body)) (Keeps s (IsTypedBehind s.body)) (stmt_offers st q.1 g.0 (stmt_kept st q.1 g.0 h.0)) (λ r k.
      post_bind _ _ (Offers r.1 (IsTypedBehind r.1.body)) (Keeps s (IsTypedBehind s.body)) (alternative_offers a r.1 k.0 (alternative_kept a r.1 k.0 h.1)) (λ u i.
      ((moves_trans g.1 (moves_trans k.1 i.1)).inside, arms_typed s q.1 r.1 u.1 t q.0 r.0 u.0 g.1 g.2 k.1 k.2 i.1 i.2))))

  pub block_kept : (b : Block) (s : State) → IsLawful s → BlockHasText b → Post (block_rule b s) (IsKept s)
  block_kept (S.Braced t ds ss) s l h =
      asked_post s _ _ (IsKept s)
      (post_bind _ _ (Declaring s) (IsKept s) (decls_declare ds s l) (λ r g.
      let a : Moves s r.1 = decls_move {s = s} {t = r.1} r.0 g in
      asked_post r.1 _ _ (IsKept s)
      (post_bind _ _ (Offers r.1 (AreTypedIn r.1.body)) (IsKept s) (stmts_offer ss r.1 g.0 (stmts_kept ss r.1 g.0 h)) (λ u k.
      ((moves_trans a k.1).inside, block_typed s r.1 u.1 r.0 u.0 t a g.2.1 k.1 k.2)))))

  stmts_kept : (ss : Stmts) (s : State) → IsLawful s → StmtsHaveText ss → Post (stmts_rule ss s) (Keeps s (AreTypedIn s.body))
  stmts_kept S.NoStmt s l h = (inside_same s, none_typed s)
  stmts_kept (S.Next st rest) s l h =
      post_bind _ _ (Offers s (IsTypedIn s.body)) (Keeps s (AreTypedIn s.body)) (stmt_offers st s l (stmt_kept st s l h.0)) (λ r g.
      post_bind _ _ (Offers r.1 (AreTypedIn r.1.body)) (Keeps s (AreTypedIn s.body)) (stmts_offer rest r.1 g.0 (stmts_kept rest r.1 g.0 h.1)) (λ u k.
      ((moves_trans g.1 k.1).inside, statements_typed s r.1 u.1 r.0 u.0 g.1 g.2 k.1 k.2)))

-- The rules of declared objects, as the code joins them.
use Rattle.std.proofs.Common.{◌≡◌, ℕ, true, false, not, if◌then◌else◌, Option, None, Some, List, [], ◌∷◌, ◌<◌, length, map, get_or, refl, ap, sym, ◌∙◌, arith}
use Rattle.pw_tree.specs.Trees.{Word, Init}
use Rattle.pw_tree.specs.Views.{view_init, view_initializer}
use Rattle.pw_tree.specs.declared.decl.Initializer.{Initializer}
use Rattle.pw_types.specs.TypeTrees.{QType, type_of}
use Rattle.pw_typed.specs.Views.{view_expr}
use Rattle.pw_typed.specs.declared.tree.TExpr.{TExpr}
use Rattle.pw_types.specs.TypedTrees as T
use Rattle.pw_check_walk.specs.Walks.{Walk, Done, bind}
use Rattle.pw_check_walk.proofs.CallLaws.{bind_assoc}
use Rattle.pw_check_rules.specs.Kinds.{is_const_object}
use Rattle.pw_check_rules.specs.Limits.{Spot}
use Rattle.pw_check_rules.specs.Linkage.{Asking, declare_linked, define_object, define_tentatively, named_type}
use Rattle.pw_check_rules.specs.SpecifierLists.{Specified}
use Rattle.pw_check_rules.specs.States.{State, add_hidden, next_hidden, next_local, put_hidden}
use Rattle.pw_check_rules.specs.Initialisers.{Context, is_by_bytes, object_rule}
use Rattle.pw_check_rules.specs.Declarations.{AGlobal, asking_of, bytes_rule, completed_rule, context_of, first_part, fitting_rule, global_rule, hidden_of, is_tentative, local_initialiser, local_rule, place_here, single_rule, static_rule}
use Rattle.pw_check_init_parts.proofs.WalkLemmas.{same_behind}
use Rattle.pw_check_objects.specs.Parts.{global_filled, global_rest, linked_only, local_begun, local_filled, local_rest, object_completed, object_fitted, static_begun, static_filled, static_rest}

pub object_joined : (w : Word) (cx : Context) (q : QType) (i : Init) (s : State)
    → object_completed w cx q i s ≡ bind (object_rule cx q i s) (λ o. bind (completed_rule w o.0.ty o.1) (λ t. Done (o.0, t.1)))
unfolding object_completed
object_joined w cx q i s = refl

pub fitted_joined : (w : Word) (place : ℕ) (cx : Context) (q : QType) (i : Init) (s : State)
    → object_fitted w place cx q i s ≡ bind (object_rule cx q i s) (λ o. bind (fitting_rule w place o.0.ty o.1) (λ t. Done (o.0, t.1)))
unfolding object_fitted
fitted_joined w place cx q i s = refl

pub only_linked : (w : Word) (b : Specified) (asking : Asking) (q : QType) (s : State)
    → linked_only w b asking q s ≡ bind (declare_linked w.text w.token b.tag asking q s) (λ t. Done ([], t.1))
unfolding linked_only
only_linked w b asking q s = refl

-- ---- objects with linkage

module _ (w : Word) (b : Specified) (spot : Spot) (q : QType) (o : Option Initializer) (s : State) where
  pub global_none : o ≡ None → global_rule w b spot q (view_initializer o) s
      ≡ bind (declare_linked w.text w.token b.tag (asking_of AGlobal b) q s) (λ p. Done ([], if is_tentative b then define_tentatively p.0 p.1 else p.1))
  unfolding bind global_rule
  global_none is = ap (λ x. global_rule w b spot q (view_initializer x) s) is

  pub global_some : (i : Initializer) → o ≡ Some i → global_rule w b spot q (view_initializer o) s
      ≡ bind (declare_linked w.text w.token b.tag (asking_of AGlobal b) q s) (λ p. global_rest w p.0 q (view_init i.init) p.1)
  unfolding bind global_rule global_rest object_fitted fitting_rule
  global_some i is =
      ap (λ x. global_rule w b spot q (view_initializer x) s) is
      ∙ same_behind (declare_linked w.text w.token b.tag (asking_of AGlobal b) q s) _ _
      (λ p. sym (bind_assoc (object_rule (context_of w true 0) (named_type (define_object p.0 p.1) w.text q) (view_init i.init) (define_object p.0 p.1)) _ _))

-- what stands behind the declaration
abbrev pub global_next : Word → Specified → QType → Option Initializer → ℕ × State → Walk (List T.Initialiser × State)
global_next w b q None p = Done ([], if is_tentative b then define_tentatively p.0 p.1 else p.1)
global_next w b q (Some i) p = global_rest w p.0 q (view_init i.init) p.1

pub global_either : (w : Word) (b : Specified) (spot : Spot) (q : QType) (o : Option Initializer) (s : State)
    → global_rule w b spot q (view_initializer o) s ≡ bind (declare_linked w.text w.token b.tag (asking_of AGlobal b) q s) (global_next w b q o)
global_either w b spot q None s = global_none w b spot q None s refl
global_either w b spot q (Some i) s = global_some w b spot q (Some i) s i refl

pub global_joined : (w : Word) (place : ℕ) (q : QType) (i : Init) (s mid : State) → mid ≡ define_object place s
    → global_rest w place q i s ≡ bind (object_fitted w place (context_of w true 0) (named_type mid w.text q) i mid) (λ o. Done ([], global_filled w place o.0 o.1))
unfolding bind global_rest
global_joined w place q i s mid e = rw e refl

-- ---- static locals

module _ (w : Word) (q : QType) (o : Option Initializer) (s : State) (k : ℕ) (mid : State) where
  pub static_none : o ≡ None → k ≡ next_hidden s → mid ≡ static_begun w k q s → static_rule w q (view_initializer o) s ≡ Done ([], mid)
  unfolding bind static_rule
  static_none is e f = ap (λ x. static_rule w q (view_initializer x) s) is ∙ rw (f, e) refl

  pub static_some : (i : Initializer) → o ≡ Some i → k ≡ next_hidden s → mid ≡ static_begun w k q s
      → static_rule w q (view_initializer o) s ≡ static_rest w k q (view_init i.init) mid
  unfolding bind static_rule static_rest object_completed completed_rule
  static_some i is e f =
      ap (λ x. static_rule w q (view_initializer x) s) is
      ∙ rw (f, e) (sym (bind_assoc (object_rule (context_of w true (next_hidden s)) q (view_init i.init) (static_begun w (next_hidden s) q s)) _ _))

pub static_joined : (w : Word) (k : ℕ) (q : QType) (i : Init) (s : State)
    → static_rest w k q i s
    ≡ bind (object_completed w (context_of w true k) q i s) (λ o. Done ([], static_filled (place_here s w.text) k (not (is_const_object q)) o.0 o.1))
unfolding bind static_rest
static_joined w k q i s = refl

-- ---- locals of automatic storage duration

module _ (w : Word) (b : Specified) (q : QType) (o : Option Initializer) (s : State) (k : ℕ) (mid : State) where
  pub local_none : o ≡ None → k ≡ next_local s → mid ≡ local_begun w b k q s → local_rule w b q (view_initializer o) s ≡ Done ([], mid)
  unfolding bind local_rule
  local_none is e f = ap (λ x. local_rule w b q (view_initializer x) s) is ∙ rw (f, e) refl

  pub local_some : (i : Initializer) → o ≡ Some i → k ≡ next_local s → mid ≡ local_begun w b k q s
      → local_rule w b q (view_initializer o) s ≡ local_rest w b k q (view_init i.init) mid
  unfolding bind local_rule local_rest
  local_some i is e f = ap (λ x. local_rule w b q (view_initializer x) s) is ∙ rw (f, e) refl

pub local_joined : (w : Word) (b : Specified) (k : ℕ) (q : QType) (i : Init) (s : State)
    → local_rest w b k q i s
    ≡ bind (local_initialiser (is_by_bytes (type_of q) i) w k q i s) (λ o. Done (o.0.1, local_filled w b (place_here s w.text) k o.0.0 o.1))
unfolding bind local_rest
local_joined w b k q i s = refl

module _ (w : Word) (k : ℕ) (q : QType) (i : Init) (s : State) where
  bytes_at : bytes_rule w k q i s
      ≡ bind (object_completed w (context_of w true (next_hidden s)) q i (add_hidden (hidden_of q [] false) s))
      (λ o. Done ((o.0.ty, T.Bytes k (next_hidden s) o.0.filled.parts ∷ []), put_hidden (next_hidden s) (hidden_of o.0.ty o.0.filled.items false) o.1))
  unfolding bind bytes_rule object_completed completed_rule
  bytes_at = sym (bind_assoc (object_rule (context_of w true (next_hidden s)) q i (add_hidden (hidden_of q [] false) s)) _ _)

  pub bytes_joined : (h : ℕ) (mid : State) → h ≡ next_hidden s → mid ≡ add_hidden (hidden_of q [] false) s
      → bytes_rule w k q i s
      ≡ bind (object_completed w (context_of w true h) q i mid)
      (λ o. Done ((o.0.ty, T.Bytes k h o.0.filled.parts ∷ []), put_hidden h (hidden_of o.0.ty o.0.filled.items false) o.1))
  bytes_joined h mid e f = rw (f, e) bytes_at

  pub single_joined : single_rule w k q i s
      ≡ bind (object_rule (context_of w false 0) q i s) (λ o. Done ((q, first_part o.0.filled.parts [] (λ e. T.Value k e)), o.1))
  unfolding single_rule
  single_joined = refl

module _ (k : ℕ) (xs : List TExpr) where
  pub first_taken : (e : TExpr) → 0 < length xs → e ≡ get_or xs 0 e → first_part (map view_expr xs) [] (λ x. T.Value k x) ≡ T.Value k (view_expr e) ∷ []
  first_taken e some at = first_of xs e some at
    where
      first_of : (ys : List TExpr) (e : TExpr) → 0 < length ys → e ≡ get_or ys 0 e → first_part (map view_expr ys) [] (λ x. T.Value k x) ≡ T.Value k (view_expr e) ∷ []
      first_of [] e some at = absurd (omega arith)
      first_of (y ∷ rest) e some at = ap (λ x. T.Value k (view_expr x) ∷ []) (sym at)

  pub none_taken : length xs ≡ 0 → first_part (map view_expr xs) [] (λ x. T.Value k x) ≡ []
  none_taken none = none_of xs none
    where
      none_of : (ys : List TExpr) → length ys ≡ 0 → first_part (map view_expr ys) [] (λ x. T.Value k x) ≡ []
      none_of [] none = refl
      none_of (y ∷ rest) none = absurd (omega arith)

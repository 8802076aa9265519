-- The rules of an object's initialiser, as the code joins them.
use Rattle.std.proofs.Common.{◌≡◌, ℕ, Bool, true, false, List, [], ◌∷◌, refl, ap, sym, ◌∙◌}
use Rattle.std.specs.declared.alloc.Global.{Global}
use Rattle.std.specs.declared.vec.Vec.{Vec}
use Rattle.pw_tree.specs.FirstTokens.{first_of_expr}
use Rattle.pw_tree.specs.Trees as S
use Rattle.pw_tree.specs.Views.{view_expr, view_init, view_inits}
use Rattle.pw_tree.specs.declared.decl.Init.{Init}
use Rattle.pw_tree.specs.declared.decl.Init as init
use Rattle.pw_tree.specs.declared.expr.Expr.{Expr}
use Rattle.pw_types.specs.TypeTrees.{QType, type_of}
use Rattle.pw_check_walk.specs.Walks.{Done, bind}
use Rattle.pw_check_walk.proofs.CallLaws.{bind_assoc}
use Rattle.pw_check_rules.specs.States.{State}
use Rattle.pw_check_rules.specs.Initialisers.{Context, braced_string, elements_given, fills_characters, frame_of, initialised_as, inits_rule, nothing_filled, object_by, object_list, object_rule, object_string, object_value, string_form, target_at, value_filled, with_length, words_in}
use Rattle.pw_check_rules.specs.Statements.{whole_rule}

pub value_behind : (cx : Context) (q : QType) (e : S.Expr) (s : State)
    → object_value cx q e s
    ≡ bind (whole_rule e s) (λ r. bind (value_filled cx (first_of_expr e) (target_at q 0) r.0 nothing_filled r.1) (λ f. Done (initialised_as q f.0, f.1)))
unfolding object_value whole_rule
value_behind cx q e s = sym (bind_assoc _ _ _)

pub list_joined : (cx : Context) (q : QType) (is : S.Inits) (s : State)
    → object_list cx q is s
    ≡ bind (inits_rule is cx (frame_of (target_at q 0) ∷ []) nothing_filled s) (λ r. Done (initialised_as (with_length (elements_given r.0.0) q) r.0.1, r.1))
unfolding object_list
list_joined cx q is s = refl

module _ (cx : Context) (q : QType) (s : State) where
  by_value : (e : S.Expr) (b : Bool) → fills_characters (type_of q) (string_form e) ≡ b
      → object_rule cx q (S.Value e) s ≡ object_by b cx q (words_in (string_form e)) (object_value cx q e) s
  unfolding object_rule
  by_value e b h = rw h refl

  by_list : (token : ℕ) (is : S.Inits) (trailing : Bool) (b : Bool) → fills_characters (type_of q) (braced_string is) ≡ b
      → object_rule cx q (S.Braces token is trailing) s ≡ object_by b cx q (words_in (braced_string is)) (object_list cx q is) s
  unfolding object_rule
  by_list token is trailing b h = rw h refl

  pub string_object : (e : S.Expr) (ws : List S.Word) → fills_characters (type_of q) (string_form e) ≡ true → words_in (string_form e) ≡ ws
      → object_rule cx q (S.Value e) s ≡ object_string cx q ws s
  unfolding object_by
  string_object e ws fills words = by_value e true fills ∙ ap (λ w. object_string cx q w s) words

  pub value_object : (e : S.Expr) → fills_characters (type_of q) (string_form e) ≡ false → object_rule cx q (S.Value e) s ≡ object_value cx q e s
  unfolding object_by
  value_object e fills = by_value e false fills

  module _ (token : ℕ) (is : S.Inits) (trailing : Bool) where
    pub braced_object : (ws : List S.Word) → fills_characters (type_of q) (braced_string is) ≡ true → words_in (braced_string is) ≡ ws
        → object_rule cx q (S.Braces token is trailing) s ≡ object_string cx q ws s
    unfolding object_by
    braced_object ws fills words = by_list token is trailing true fills ∙ ap (λ w. object_string cx q w s) words

    pub list_object : fills_characters (type_of q) (braced_string is) ≡ false → object_rule cx q (S.Braces token is trailing) s ≡ object_list cx q is s
    unfolding object_by
    list_object fills = by_list token is trailing false fills

  -- ---- by the initialiser that the code has

  pub shown_value : (i : Init) (e : Expr) → i ≡ init.Value e → object_rule cx q (view_init i) s ≡ object_rule cx q (S.Value (view_expr e)) s
  unfolding view_init
  shown_value i e is = ap (λ x. object_rule cx q (view_init x) s) is

  pub shown_list : (i : Init) (t : ℕ) (is : Vec Init Global) (trailing : Bool) → i ≡ init.List t is trailing
      → view_init (init.List t is trailing) ≡ S.Braces t (view_inits is.items) trailing → object_rule cx q (view_init i) s ≡ object_rule cx q (S.Braces t (view_inits is.items) trailing) s
  shown_list i t is trailing shape shown =
      ap (λ x. object_rule cx q (view_init x) s) shape ∙ ap (λ x. object_rule cx q x s) shown

-- String literals among the forms of expressions and initialisers.
use Rattle.std.proofs.Common.{◌≡◌, ℕ, Bool, List, [], ◌∷◌, length, get_or, refl, ap, sym, ◌∙◌, arith}
use Rattle.std.specs.declared.alloc.Global.{Global}
use Rattle.std.specs.declared.vec.Vec.{Vec}
use Rattle.pw_tree.specs.Trees as tree
use Rattle.pw_tree.specs.Views.{view_expr, view_init, view_inits, view_words}
use Rattle.pw_tree.specs.declared.decl.Init.{Init}
use Rattle.pw_tree.specs.declared.decl.Init as init
use Rattle.pw_tree.specs.declared.expr.Expr.{Expr}
use Rattle.pw_tree.specs.declared.expr.Expr as expr
use Rattle.pw_tree.specs.declared.expr.Word.{Word}
use Rattle.pw_check_rules.specs.Initialisers.{IsOther, IsString, braced_string, string_form}

pub other_form : (e : Expr) → ((ws : Vec Word Global) → e ≡ expr.Strings ws → ⊥) → string_form (view_expr e) ≡ IsOther
unfolding view_expr
other_form (expr.Identifier w) other = refl
other_form (expr.Number w) other = refl
other_form (expr.Floating w) other = refl
other_form (expr.Character w) other = refl
other_form (expr.Wide w) other = refl
other_form (expr.Strings ws) other = absurd (other ws refl)
other_form (expr.Paren' n b e) other = refl
other_form (expr.Postfix' b e l ps) other = refl
other_form (expr.Unary' n op b e) other = refl
other_form (expr.SizeofType' n b l ss ps c m fs) other = refl
other_form (expr.Cast' n b l ss ps c m fs b' e) other = refl
other_form (expr.Chain' b e l ops) other = refl
other_form (expr.Conditional' n b c b' e b'' f) other = refl
other_form (expr.Assign' n op b l b' r) other = refl

pub string_shown : (e : Expr) (ws : Vec Word Global) → e ≡ expr.Strings ws → string_form (view_expr e) ≡ IsString (view_words ws.items)
unfolding view_expr
string_shown e ws is = ap (λ x. string_form (view_expr x)) is

braced_two : (i j : tree.Init) (rest : tree.Inits) → braced_string (tree.Listed i (tree.Listed j rest)) ≡ IsOther
braced_two (tree.Value e) j rest = refl
braced_two (tree.Braces t is trailing) j rest = refl

pub not_alone : (items : List Init) → (length items ≡ 1 → ⊥) → braced_string (view_inits items) ≡ IsOther
not_alone [] other = refl
not_alone (i ∷ []) other = absurd (other refl)
not_alone (i ∷ j ∷ rest) other = braced_two (view_init i) (view_init j) (view_inits rest)

alone : (items : List Init) (i : Init) → length items ≡ 1 → i ≡ get_or items 0 i → view_inits items ≡ tree.Listed (view_init i) tree.NoInit
alone [] i one is = absurd (omega arith)
alone (j ∷ []) i one is = ap (λ x. tree.Listed (view_init x) tree.NoInit) (sym is)
alone (j ∷ k ∷ rest) i one is = absurd (omega arith)

pub value_alone : (items : List Init) (i : Init) (e : Expr) → length items ≡ 1 → i ≡ get_or items 0 i → i ≡ init.Value e → braced_string (view_inits items) ≡ string_form (view_expr e)
unfolding view_init
value_alone items i e one at is = ap braced_string (alone items i one at) ∙ ap (λ x. braced_string (tree.Listed (view_init x) tree.NoInit)) is

pub list_alone : ((t : ℕ) (is : Vec Init Global) (trailing : Bool) → view_init (init.List t is trailing) ≡ tree.Braces t (view_inits is.items) trailing)
    → (items : List Init) (i : Init) (t : ℕ) (is : Vec Init Global) (trailing : Bool) → length items ≡ 1 → i ≡ get_or items 0 i → i ≡ init.List t is trailing
    → braced_string (view_inits items) ≡ IsOther
list_alone law items i t is trailing one at shape =
    ap braced_string (alone items i one at)
    ∙ ap (λ x. braced_string (tree.Listed (view_init x) tree.NoInit)) shape
    ∙ ap (λ x. braced_string (tree.Listed x tree.NoInit)) (law t is trailing)

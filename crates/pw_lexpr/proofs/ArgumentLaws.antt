-- The arguments of a call are lowered one after another.
use Rattle.std.proofs.Common.{◌≡◌, ◌+◌, ◌<◌, ◌≤◌, ℕ, Option, unwrap_or, List, [], ◌∷◌, ◌++◌, drop, get_or, length, ap, ◌∙◌, sym, append_assoc}
use Rattle.std.proofs.lemmas.List.{at_drop_more, at_drop_all, append-nil}
use Rattle.pw_types.specs.TypedTrees.{Expression, Expressions, NoExpression, OneExpression}
use Rattle.pw_typed.specs.Views.{view_expr, view_exprs}
use Rattle.pw_typed.specs.declared.tree.TExpr.{TExpr}
use Rattle.pw_lower.specs.declared.code.Code.{Code}
use Rattle.pw_lower.specs.Codes.{Lowered, lowered_as, temp_of}
use Rattle.pw_lower.specs.Expressions.{Home, Arguments, lower, arguments}
use Rattle.pw_lexpr.specs.Finish.{with_temps}

one_argument :
    (h : Home) (e : Expression) (rest : Expressions) (temps more : List ℕ) (c d : Code) (t : Option ℕ)
    → lowered_as t d ≡ lower h e c → more ≡ temps ++ unwrap_or t 0 ∷ []
    → with_temps more (arguments h rest d) ≡ with_temps temps (arguments h (OneExpression e rest) c)
unfolding lower
one_argument h e rest temps more c d t made pushed =
    let xs = arguments h rest d in
    let joined : more ++ xs.temps ≡ temps ++ (unwrap_or t 0 ∷ xs.temps) = ap (λ (ts : List ℕ). ts ++ xs.temps) pushed ∙ append_assoc temps (unwrap_or t 0 ∷ []) xs.temps in
    ap (λ (ts : List ℕ). record { code = xs.code; temps = ts }) joined
    ∙ ap (λ (x : Lowered). record { code = (arguments h rest x.code).code; temps = temps ++ (temp_of x ∷ (arguments h rest x.code).temps) }) made

-- what is left is still to be lowered
pub args_further :
    (h : Home) (args : List TExpr) (i : ℕ) (e : TExpr) (temps more : List ℕ) (c d : Code) (t : Option ℕ) (n : ℕ) (all : Arguments)
    → i < length args → e ≡ get_or args i e
    → with_temps temps (arguments h (view_exprs (drop i args)) c) ≡ all
    → lowered_as t d ≡ lower h (view_expr e) c → n ≡ unwrap_or t 0 → more ≡ temps ++ n ∷ []
    → with_temps more (arguments h (view_exprs (drop (i + 1) args)) d) ≡ all
args_further h args i e temps more c d t n all inside is before made value pushed =
    let rest = view_exprs (drop (i + 1) args) in
    let left : view_exprs (drop i args) ≡ OneExpression (view_expr e) rest =
    at_drop_more view_exprs args i e inside ∙ ap (λ (x : TExpr). OneExpression (view_expr x) rest) (sym is) in
    one_argument h (view_expr e) rest temps more c d t made (pushed ∙ ap (λ (k : ℕ). temps ++ k ∷ []) value)
    ∙ ap (λ (xs : Expressions). with_temps temps (arguments h xs c)) (sym left)
    ∙ before

-- nothing is left
pub args_done :
    (h : Home) (args : List TExpr) (i : ℕ) (temps : List ℕ) (c : Code) (all : Arguments)
    → length args ≤ i → with_temps temps (arguments h (view_exprs (drop i args)) c) ≡ all → record { code = c; temps = temps } ≡ all
unfolding lower
args_done h args i temps c all outside before =
    let left : view_exprs (drop i args) ≡ NoExpression = at_drop_all view_exprs args i outside in
    ap (λ (ts : List ℕ). record { code = c; temps = ts }) (sym (append-nil temps))
    ∙ ap (λ (xs : Expressions). with_temps temps (arguments h xs c)) (sym left)
    ∙ before

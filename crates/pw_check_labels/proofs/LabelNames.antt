-- The names of labels, statement by statement.
use Rattle.std.proofs.Common.{◌≡◌, ℕ, Option, ◌+◌, ◌<◌, ◌≤◌, List, [], ◌∷◌, ◌++◌, length, get_or, drop, refl, ap, sym, ◌∙◌, append_assoc}
use Rattle.std.proofs.lemmas.List.{at_drop_more, at_drop_all, append-nil}
use Rattle.pw_tree.specs.Trees as S
use Rattle.pw_tree.specs.Trees.{Alternative, Expr, Stmt}
use Rattle.std.specs.declared.alloc.Global.{Global}
use Rattle.std.specs.declared.boxed.Box.{Box}
use Rattle.std.specs.declared.vec.Vec.{Vec}
use Rattle.pw_tree.specs.Views.{view_block, view_else_ifs, view_expr, view_label, view_labels, view_otherwise, view_stmt, view_stmts}
use Rattle.pw_tree.specs.declared.expr.Expr as tree
use Rattle.pw_tree.specs.declared.stmt.Block.{Block}
use Rattle.pw_tree.specs.declared.stmt.ElseIf.{ElseIf}
use Rattle.pw_tree.specs.declared.stmt.Label.{Label}
use Rattle.pw_tree.specs.declared.stmt.Label.TheVariants as label
use Rattle.pw_tree.specs.declared.stmt.Stmt as code
use Rattle.pw_check_rules.specs.Statements.{labels_in, labels_in_alternative, labels_in_list, names_of_labels}

module _ {Item X : Type 0} (f : List Item → List X) (own : Item → List X) (more : (i : Item) (is : List Item) → f (i ∷ is) ≡ own i ++ f is) where
  -- those so far and those of the rest, with one item more
  pub names_on : (all : List Item) (n : ℕ) (now new whole : List X) (i : Item) → n < length all → i ≡ get_or all n i
      → now ++ f (drop n all) ≡ whole → new ≡ now ++ own i → new ++ f (drop (n + 1) all) ≡ whole
  names_on all n now new whole i less is before e =
      ap (λ xs. xs ++ f (drop (n + 1) all)) e
      ∙ append_assoc now (own i) (f (drop (n + 1) all))
      ∙ ap (λ xs. now ++ xs) (sym (more i (drop (n + 1) all)) ∙ ap (λ y. f (y ∷ drop (n + 1) all)) is ∙ sym (at_drop_more f all n i less))
      ∙ before

  pub names_end : (all : List Item) (n : ℕ) (now whole : List X) → length all ≤ n → f [] ≡ [] → now ++ f (drop n all) ≡ whole → now ≡ whole
  names_end all n now whole end none before =
      sym (append-nil now) ∙ ap (λ xs. now ++ xs) (sym (at_drop_all f all n end ∙ none)) ∙ before

pub labels_on : (l : Label) (ls : List Label) → names_of_labels (view_labels (l ∷ ls)) ≡ names_of_labels (view_label l ∷ []) ++ names_of_labels (view_labels ls)
labels_on (label.Case t e) ls = refl
labels_on (label.Default t) ls = refl
labels_on (label.Name w) ls = refl

pub list_on : (s : code.Stmt) (ss : List code.Stmt) → labels_in_list (view_stmts (s ∷ ss)) ≡ labels_in (view_stmt s) ++ labels_in_list (view_stmts ss)
unfolding labels_in
list_on s ss = refl

pub list_none : labels_in_list S.NoStmt ≡ []
unfolding labels_in
list_none = refl

pub arms_on : (a : Alternative) (e : ElseIf) (es : List ElseIf)
    → labels_in_alternative (view_else_ifs (e ∷ es) a) ≡ labels_in (view_stmt e.chosen) ++ labels_in_alternative (view_else_ifs es a)
unfolding labels_in
arms_on a e es = refl

pub arms_none : labels_in_alternative S.NoElse ≡ []
unfolding labels_in
arms_none = refl

-- an alternative's last `else` stands behind the others
pub alternative_split : (es : List ElseIf) (a : Alternative)
    → labels_in_alternative (view_else_ifs es a) ≡ labels_in_alternative (view_else_ifs es S.NoElse) ++ labels_in_alternative a
unfolding labels_in
alternative_split [] a = refl
alternative_split (e ∷ es) a = ap (λ xs. labels_in (view_stmt e.chosen) ++ xs) (alternative_split es a) ∙ sym (append_assoc (labels_in (view_stmt e.chosen)) (labels_in_alternative (view_else_ifs es S.NoElse)) (labels_in_alternative a))

pub otherwise_labels : (s : Stmt) → labels_in_alternative (S.Otherwise s) ≡ labels_in s
unfolding labels_in
otherwise_labels s = refl

-- ---- statements with lists in them

pub block_labels : (b : Block) → view_stmt (code.Block b) ≡ S.Compound (view_block b) → labels_in (view_stmt (code.Block b)) ≡ labels_in_list (view_stmts b.statements.items)
unfolding labels_in
block_labels b shown = ap labels_in shown

pub if_labels : (t : ℕ) (c : tree.Expr) (s : Box code.Stmt Global) (es : Vec ElseIf Global) (o : Option (Box code.Stmt Global))
    → view_stmt (code.If t c s es o) ≡ S.If t (view_expr c) (view_stmt s.value) (view_else_ifs es.items (view_otherwise o))
    → labels_in (view_stmt (code.If t c s es o)) ≡ labels_in (view_stmt s.value) ++ labels_in_alternative (view_else_ifs es.items (view_otherwise o))
unfolding labels_in
if_labels t c s es o shown = ap labels_in shown

pub names_two : {X : Type 0} (now mid new mine more : List X) → mid ≡ now ++ mine → new ≡ mid ++ more → new ≡ now ++ (mine ++ more)
names_two now mid new mine more e f = f ∙ ap (λ xs. xs ++ more) e ∙ append_assoc now mine more

-- What lists of types show.
use Rattle.std.proofs.Common.{◌≡◌, List, [], ◌∷◌, ◌++◌, length, arith, refl, ap}
use Rattle.pw_types.specs.TypeTrees as tree
use Rattle.pw_types.specs.Views.{view_qtype, view_types}
use Rattle.pw_types.specs.declared.ctype.QType.{QType}
use Rattle.pw_check_rules.specs.Kinds.{count_of_types}

-- types, and one more behind them
abbrev pub with_type : tree.QTypes → tree.QType → tree.QTypes
with_type tree.NoType q = tree.OneType q tree.NoType
with_type (tree.OneType p rest) q = tree.OneType p (with_type rest q)

pub view_more : (qs : List QType) (q : QType) → view_types (qs ++ q ∷ []) ≡ with_type (view_types qs) (view_qtype q)
view_more [] q = refl
view_more (p ∷ qs) q = ap (tree.OneType (view_qtype p)) (view_more qs q)

-- types, and others behind them
abbrev pub with_types : tree.QTypes → tree.QTypes → tree.QTypes
with_types tree.NoType qs = qs
with_types (tree.OneType p rest) qs = tree.OneType p (with_types rest qs)

pub with_none : (ps : tree.QTypes) → with_types ps tree.NoType ≡ ps
with_none tree.NoType = refl
with_none (tree.OneType p rest) = ap (tree.OneType p) (with_none rest)

pub count_view : (qs : List QType) → count_of_types (view_types qs) ≡ length qs
count_view [] = refl
count_view (q ∷ qs) = let h : count_of_types (view_types qs) ≡ length qs = count_view qs in omega arith

-- one more, and others behind it
pub more_behind : (made : List QType) (q : QType) (qs : tree.QTypes)
    → with_types (view_types (made ++ q ∷ [])) qs ≡ with_types (view_types made) (tree.OneType (view_qtype q) qs)
more_behind [] q qs = refl
more_behind (p ∷ made) q qs = ap (tree.OneType (view_qtype p)) (more_behind made q qs)

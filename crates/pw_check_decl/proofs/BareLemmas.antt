-- Declarations without declarators.
use Rattle.std.proofs.Common.{◌≡◌, ℕ, None, Some, List, [], ◌∷◌, length, get_or, refl, ap, sym, ◌∙◌, arith}
use Rattle.std.proofs.lemmas.Option.{none-some, same_Some}
use Rattle.pw_tree.specs.Trees as S
use Rattle.pw_tree.specs.Views.{view_expr, view_specifier, view_specifiers, view_word}
use Rattle.pw_tree.specs.declared.expr.RecordKind.{RecordKind}
use Rattle.pw_tree.specs.declared.expr.Specifier.{Specifier}
use Rattle.pw_tree.specs.declared.expr.Specifier as specifier
use Rattle.pw_tree.specs.declared.expr.Word.{Word}
use Rattle.pw_check_walk.specs.Walks.{Done, bind}
use Rattle.pw_check_rules.specs.Leaves.{alone_rule, first_of_list, record_kind}
use Rattle.pw_check_rules.specs.States.{State}
use Rattle.pw_check_rules.specs.Declarations.{bare_rule, specified_rule, storage_rule}
use Rattle.pw_check_decl.specs.Parts.{bare_others, something_rule, tag_alone}

-- the tag of a structure or union alone
pub bare_tag : (ss : S.Specifiers) (k : RecordKind) (w : S.Word) (s : State) → tag_alone ss ≡ Some (k, w)
    → bare_rule ss s ≡ bind (alone_rule (record_kind k) w s) (λ t. Done ([], t.1))
unfolding bare_rule
bare_tag S.NoSpecifier k w s e = absurd (none-some _ e)
bare_tag (S.Storage t c rest) k w s e = absurd (none-some _ e)
bare_tag (S.Qualified t q rest) k w s e = absurd (none-some _ e)
bare_tag (S.Basic t b rest) k w s e = absurd (none-some _ e)
bare_tag (S.TypedefName v rest) k w s e = absurd (none-some _ e)
bare_tag (S.RecordTag t l v S.NoSpecifier) k w s e =
    ap (λ p. bind (alone_rule (record_kind p.0) p.1 s) (λ t. Done ([], t.1))) (same_Some (l, v) (k, w) e)
bare_tag (S.RecordTag t l v (S.Storage t' c rest)) k w s e = absurd (none-some _ e)
bare_tag (S.RecordTag t l v (S.Qualified t' q rest)) k w s e = absurd (none-some _ e)
bare_tag (S.RecordTag t l v (S.Basic t' b rest)) k w s e = absurd (none-some _ e)
bare_tag (S.RecordTag t l v (S.TypedefName v' rest)) k w s e = absurd (none-some _ e)
bare_tag (S.RecordTag t l v (S.RecordTag t' l' v' rest)) k w s e = absurd (none-some _ e)
bare_tag (S.RecordTag t l v (S.Record t' l' v' ms rest)) k w s e = absurd (none-some _ e)
bare_tag (S.RecordTag t l v (S.EnumTag t' v' rest)) k w s e = absurd (none-some _ e)
bare_tag (S.RecordTag t l v (S.Enum t' v' es rest)) k w s e = absurd (none-some _ e)
bare_tag (S.Record t l v ms rest) k w s e = absurd (none-some _ e)
bare_tag (S.EnumTag t v rest) k w s e = absurd (none-some _ e)
bare_tag (S.Enum t v es rest) k w s e = absurd (none-some _ e)

-- other specifiers
pub bare_is_others : (ss : S.Specifiers) (s : State) → tag_alone ss ≡ None
    → bare_rule ss s ≡ bare_others ss s
unfolding bare_rule bare_others something_rule
bare_is_others S.NoSpecifier s e = refl
bare_is_others (S.Storage t c rest) s e = refl
bare_is_others (S.Qualified t q rest) s e = refl
bare_is_others (S.Basic t b rest) s e = refl
bare_is_others (S.TypedefName v rest) s e = refl
bare_is_others (S.RecordTag t l v S.NoSpecifier) s e = absurd (none-some _ (sym e))
bare_is_others (S.RecordTag t l v (S.Storage t' c rest)) s e = refl
bare_is_others (S.RecordTag t l v (S.Qualified t' q rest)) s e = refl
bare_is_others (S.RecordTag t l v (S.Basic t' b rest)) s e = refl
bare_is_others (S.RecordTag t l v (S.TypedefName v' rest)) s e = refl
bare_is_others (S.RecordTag t l v (S.RecordTag t' l' v' rest)) s e = refl
bare_is_others (S.RecordTag t l v (S.Record t' l' v' ms rest)) s e = refl
bare_is_others (S.RecordTag t l v (S.EnumTag t' v' rest)) s e = refl
bare_is_others (S.RecordTag t l v (S.Enum t' v' es rest)) s e = refl
bare_is_others (S.Record t l v ms rest) s e = refl
bare_is_others (S.EnumTag t v rest) s e = refl
bare_is_others (S.Enum t v es rest) s e = refl

pub others_joined : (ss : S.Specifiers) (s : State)
    → bare_others ss s
    ≡ bind (specified_rule ss (first_of_list ss) s) (λ b. bind (storage_rule b.0 b.1) (λ t. bind (something_rule ss b.0.first t.1) (λ u. Done ([], u.1))))
unfolding bind bare_others storage_rule something_rule
others_joined ss s = refl

-- ---- specifiers one by one

second_of : (n : ℕ) (r : RecordKind) (w : S.Word) (y : Specifier) (rest : S.Specifiers) → tag_alone (S.RecordTag n r w (view_specifier y rest)) ≡ None
unfolding view_expr
second_of n' r' w' (specifier.Storage n c) rest = refl
second_of n' r' w' (specifier.Qualifier n q) rest = refl
second_of n' r' w' (specifier.Basic n b) rest = refl
second_of n' r' w' (specifier.TypedefName w) rest = refl
second_of n' r' w' (specifier.RecordTag n r w) rest = refl
second_of n' r' w' (specifier.Record' n r t l ms) rest = refl
second_of n' r' w' (specifier.EnumTag n w) rest = refl
second_of n' r' w' (specifier.Enum' n t l es) rest = refl

two_of : (x y : Specifier) (rest : S.Specifiers) → tag_alone (view_specifier x (view_specifier y rest)) ≡ None
unfolding view_expr
two_of (specifier.Storage n c) y rest = refl
two_of (specifier.Qualifier n q) y rest = refl
two_of (specifier.Basic n b) y rest = refl
two_of (specifier.TypedefName w) y rest = refl
two_of (specifier.RecordTag n r w) y rest = second_of n r (view_word w) y rest
two_of (specifier.Record' n r t l ms) y rest = refl
two_of (specifier.EnumTag n w) y rest = refl
two_of (specifier.Enum' n t l es) y rest = refl

-- several specifiers are no tag alone
pub tag_several : (xs : List Specifier) → (length xs ≡ 1 → ⊥) → tag_alone (view_specifiers xs) ≡ None
tag_several [] several = refl
tag_several (x ∷ []) several = absurd (several refl)
tag_several (x ∷ y ∷ rest) several = two_of x y (view_specifiers rest)

alone : (xs : List Specifier) (x : Specifier) → length xs ≡ 1 → x ≡ get_or xs 0 x → view_specifiers xs ≡ view_specifier x S.NoSpecifier
alone [] x one at = absurd (omega arith)
alone (y ∷ []) x one at = ap (λ z. view_specifier z S.NoSpecifier) (sym at)
alone (y ∷ z ∷ rest) x one at = absurd (omega arith)

other_alone : (x : Specifier) → ((n : ℕ) (r : RecordKind) (w : Word) → x ≡ specifier.RecordTag n r w → ⊥) → tag_alone (view_specifier x S.NoSpecifier) ≡ None
unfolding view_expr
other_alone (specifier.Storage n c) other = refl
other_alone (specifier.Qualifier n q) other = refl
other_alone (specifier.Basic n b) other = refl
other_alone (specifier.TypedefName w) other = refl
other_alone (specifier.RecordTag n r w) other = absurd (other n r w refl)
other_alone (specifier.Record' n r t l ms) other = refl
other_alone (specifier.EnumTag n w) other = refl
other_alone (specifier.Enum' n t l es) other = refl

-- one that is no tag is none
pub tag_other : (xs : List Specifier) (x : Specifier) → length xs ≡ 1 → x ≡ get_or xs 0 x
    → ((n : ℕ) (r : RecordKind) (w : Word) → x ≡ specifier.RecordTag n r w → ⊥) → tag_alone (view_specifiers xs) ≡ None
tag_other xs x one at other = ap tag_alone (alone xs x one at) ∙ other_alone x other

pub tag_found : (xs : List Specifier) (x : Specifier) (n : ℕ) (r : RecordKind) (w : Word) → length xs ≡ 1 → x ≡ get_or xs 0 x → x ≡ specifier.RecordTag n r w
    → tag_alone (view_specifiers xs) ≡ Some (r, view_word w)
unfolding view_expr
tag_found xs x n r w one at is = ap tag_alone (alone xs x one at) ∙ ap (λ z. tag_alone (view_specifier z S.NoSpecifier)) is

-- What lists show, and lists of specifiers that are empty.
use Rattle.std.proofs.Common.{◌≡◌, false, nat_eq, length, List, [], ◌∷◌, map, refl, sym, ap, ◌∙◌, arith}
use Rattle.std.proofs.lemmas.Bool.Decides.{nat_tests}
use Rattle.pw_tree.specs.Trees.{Specifiers}
use Rattle.pw_tree.specs.Views.{view_expr, view_specifier, view_specifiers, view_word, view_words}
use Rattle.pw_tree.specs.declared.expr.Specifier.{Specifier}
use Rattle.pw_tree.specs.declared.expr.Specifier as specifier
use Rattle.pw_tree.specs.declared.expr.Word.{Word}
use Rattle.pw_parse_grammar.specs.Tests.{is_empty}
use Rattle.pw_parse_cursor.specs.PartViews.{word_first}
use Rattle.pw_parse_cursor.proofs.Loops.{prepend}

-- what a list of views shows
pub mapped : {T A : Type 0} (view : T → A) (xs : List T) → prepend (λ x more. view x ∷ more) xs [] ≡ map view xs
mapped view [] = refl
mapped view (x ∷ xs) = ap (λ more. view x ∷ more) (mapped view xs)

pub words_shown : (ws : List Word) → prepend word_first ws [] ≡ view_words ws
words_shown = mapped view_word

one_shown : (s : Specifier) (rest : Specifiers) → is_empty (view_specifier s rest) ≡ false
unfolding view_expr
one_shown (specifier.Storage n c) rest = refl
one_shown (specifier.Qualifier n q) rest = refl
one_shown (specifier.Basic n b) rest = refl
one_shown (specifier.TypedefName w) rest = refl
one_shown (specifier.RecordTag n r w) rest = refl
one_shown (specifier.Record' n r t l ms) rest = refl
one_shown (specifier.EnumTag n w) rest = refl
one_shown (specifier.Enum' n t l es) rest = refl

pub none_shown : (ss : List Specifier) → is_empty (view_specifiers ss) ≡ nat_eq (length ss) 0
none_shown [] = refl
none_shown (s ∷ ss) = let e : nat_eq (length (s ∷ ss)) 0 ≡ false = grind (arith, nat_tests) in one_shown s (view_specifiers ss) ∙ sym e

-- Lists that are read in pairs: names with what they declare, and suffixes with what the first declares.
use Rattle.std.proofs.Common.{◌≡◌, ℕ, Bool, List, [], ◌∷◌, ◌++◌, Option, Some, None, map, refl, sym, ap, ◌∙◌}
use Rattle.std.specs.Option.{option_or}
use Rattle.std.specs.Borrow.{Bor}
use Rattle.pw_tree.specs.Trees.{NoSuffix}
use Rattle.pw_tree.specs.Views.{view_suffix, view_suffixes, view_words}
use Rattle.pw_tree.specs.declared.expr.Suffix.{Suffix}
use Rattle.pw_tree.specs.declared.expr.Word.{Word}
use Rattle.pw_parse_grammar.specs.Declarators.{Names, Behind, suffixed}
use Rattle.pw_parse_grammar.specs.Input.{Binding}
use Rattle.pw_parse_cursor.specs.CursorViews.{binding_first, view_binding}
use Rattle.pw_parse_cursor.specs.PartViews.{word_first}
use Rattle.pw_parse_cursor.proofs.Loops.{prepend, prepend-snoc}
use Rattle.pw_parse_cursor.proofs.Shown.{mapped, words_shown}
use Rattle.pw_parse_declarators.proofs.Shown.{suffixes_shown}

abbrev pub names_before : List Word → List (Bor (List ℕ) × Bool) → Names → Names
names_before ws bs more = (prepend word_first ws more.0, prepend binding_first bs more.1)

pub names_kept : (ws : List Word) (bs : List (Bor (List ℕ) × Bool)) (w : Word) (b : Bor (List ℕ) × Bool) (ws' : List Word) (bs' : List (Bor (List ℕ) × Bool))
    → ws' ≡ ws ++ w ∷ [] → bs' ≡ bs ++ b ∷ [] → (more : Names)
    → names_before ws bs (word_first w more.0, binding_first b more.1) ≡ names_before ws' bs' more
names_kept ws bs w b ws' bs' e f more =
    let one = prepend-snoc word_first ws w more.0 ∙ ap (λ xs. prepend word_first xs more.0) (sym e) in
    let two = prepend-snoc binding_first bs b more.1 ∙ ap (λ xs. prepend binding_first xs more.1) (sym f) in
    λ j. (one j, two j)

pub names_shown : (ws : List Word) (bs : List (Bor (List ℕ) × Bool)) → names_before ws bs ([], []) ≡ (view_words ws, map view_binding bs)
names_shown ws bs = λ j. (words_shown ws j, mapped view_binding bs j)

abbrev pub suffixes_before : List Suffix → Option (List Binding) → Behind → Behind
suffixes_before fs first more = (prepend view_suffix fs more.0, option_or first more.1)

or_or : (o : Option (List Binding)) (b : List Binding) (p : Option (List Binding)) → option_or o (Some b) ≡ option_or (option_or o (Some b)) p
or_or None b p = refl
or_or (Some x) b p = refl

or_none : (o : Option (List Binding)) → option_or o None ≡ o
or_none None = refl
or_none (Some x) = refl

pub suffixes_kept : (fs : List Suffix) (first : Option (List Binding)) (f : Suffix) (b : List Binding) (fs' : List Suffix) (first' : Option (List Binding))
    → fs' ≡ fs ++ f ∷ [] → first' ≡ option_or first (Some b) → (more : Behind)
    → suffixes_before fs first (suffixed (view_suffix f) b more) ≡ suffixes_before fs' first' more
unfolding suffixed
suffixes_kept fs first f b fs' first' e g more =
    let one = prepend-snoc view_suffix fs f more.0 ∙ ap (λ xs. prepend view_suffix xs more.0) (sym e) in
    let two = or_or first b more.1 ∙ ap (λ o. option_or o more.1) (sym g) in
    λ j. (one j, two j)

pub suffixes_end : (fs : List Suffix) (first : Option (List Binding)) → suffixes_before fs first (NoSuffix, None) ≡ (view_suffixes fs, first)
suffixes_end fs first = λ j. (suffixes_shown fs j, or_none first j)

-- What the values within a declarator's rules show.
use Rattle.std.specs.Prelude.{Bool, false, ◌∷◌, Option, Some, None}
use Rattle.pw_tree.specs.Trees as tree
use Rattle.pw_tree.specs.Views.{view_word, view_words, view_core, view_suffix, view_suffixes}
use Rattle.pw_parse_declarators.specs.declared.declarator.Cored.{Cored as CoredHere}
use Rattle.pw_parse_declarators.specs.declared.declarator.ListedName.{ListedName}
use Rattle.pw_parse_declarators.specs.declared.declarator.Names.{Names as NamesHere}
use Rattle.pw_parse_declarators.specs.declared.declarator.Suffixed.{Suffixed as SuffixedHere}
use Rattle.pw_parse_declarators.specs.declared.declarator.SuffixList.{SuffixList}
use Rattle.pw_parse_grammar.specs.Declarators.{Names, Behind, Cored, suffixed}
use Rattle.pw_parse_cursor.specs.CursorViews.{view_bindings, view_name}
use Rattle.pw_parse_cursor.specs.PartViews.{view_behind}

abbrev pub name_first : ListedName → Names → Names
name_first n more = (view_word n.word ∷ more.0, (n.text.now, false) ∷ more.1)

abbrev pub view_names : NamesHere → Names
view_names n = (view_words n.words.items, view_bindings n.bindings)

abbrev pub suffixed_first : SuffixedHere → Behind → Behind
suffixed_first s = suffixed (view_suffix s.suffix) (view_bindings s.bindings)

abbrev pub before_suffixed : Option SuffixedHere → Option (Behind → Behind)
before_suffixed None = None
before_suffixed (Some s) = Some (suffixed_first s)

abbrev pub view_behind_name : SuffixList → Behind
view_behind_name s = (view_suffixes s.found.items, view_behind s.first)

abbrev pub view_cored : CoredHere → Cored
view_cored c = record { core = view_core c.core; name = view_name c.name; behind = view_behind c.behind }

abbrev pub parameters_last : Option Bool → Option (tree.Parameters × Bool)
parameters_last None = None
parameters_last (Some variadic) = Some (tree.NoParameter, variadic)

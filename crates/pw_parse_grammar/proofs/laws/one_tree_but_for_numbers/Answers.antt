use Rattle.pw_parse_grammar.proofs.Renumber.Laws.{same-spelling, own-tree, numbers-kept}
use Rattle.pw_parse_grammar.proofs.laws.one_tree_but_for_numbers.Goals as goal

pub returns-clause-same : goal.returns-clause-same
returns-clause-same c = same-spelling c.symbols_have_one_spelling.ensures.of_symbol

pub returns-clause-spells : goal.returns-clause-spells
returns-clause-spells c = own-tree

pub returns-clause-kept : goal.returns-clause-kept
returns-clause-kept c = numbers-kept c.symbols_have_one_spelling.ensures.of_symbol

use Rattle.pw_tree.proofs.Rows.{braces_view, compound_view, if_view}
use Rattle.pw_tree.proofs.node_laws.statements_show_their_lists.Goals as goal

pub returns-clause-braces : goal.returns-clause-braces
returns-clause-braces c = braces_view

pub returns-clause-compound : goal.returns-clause-compound
returns-clause-compound c = compound_view

pub returns-clause-ifs : goal.returns-clause-ifs
returns-clause-ifs c = if_view

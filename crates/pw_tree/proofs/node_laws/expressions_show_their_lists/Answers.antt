use Rattle.pw_tree.proofs.Rows.{postfix_view, chain_view, sizeof_view, cast_view, call_view}
use Rattle.pw_tree.proofs.node_laws.expressions_show_their_lists.Goals as goal

pub returns-clause-postfix : goal.returns-clause-postfix
returns-clause-postfix c = postfix_view

pub returns-clause-chain : goal.returns-clause-chain
returns-clause-chain c = chain_view

pub returns-clause-size : goal.returns-clause-size
returns-clause-size c = sizeof_view

pub returns-clause-cast : goal.returns-clause-cast
returns-clause-cast c = cast_view

pub returns-clause-call : goal.returns-clause-call
returns-clause-call c = call_view

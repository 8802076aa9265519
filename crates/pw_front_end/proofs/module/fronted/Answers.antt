use Rattle.std.proofs.lemmas.Result.{err_from_is_err_and}
use Rattle.pw_tree.specs.Views.{view_module}
use Rattle.pw_front_end.proofs.CallLaws.{lexed-ok, lexed-err, gives-tokens, gives-fault}
use Rattle.pw_front_end.proofs.module.fronted.Goals as goal

pub returns : goal.returns
returns c =
    gives-tokens view_module c.args.text.now c.in_ok-tokens.tokens.items c.tree_of.result (lexed-ok c.args.text.now c.in_ok-tokens.tokens c.in_ok-tokens.ensures.only) (rw c.as_slice.ensures.value at c.tree_of.ensures)

pub returns-in_err-tokens : goal.returns-in_err-tokens
returns-in_err-tokens c = let p = err_from_is_err_and c.from_residual.result c.from_residual.ensures.1 in
    rw (p.1, p.2) (gives-fault view_module c.args.text.now c.in_err-tokens.field-0.0 (lexed-err c.args.text.now c.in_err-tokens.field-0.0 c.in_err-tokens.ensures.only))

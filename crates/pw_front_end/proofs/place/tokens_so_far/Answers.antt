use Rattle.pw_front_end.specs.Places.{tokens_before}
use Rattle.pw_front_end.proofs.CallLaws.{lexed-ok, lexed-err, some-tokens, no-tokens}
use Rattle.pw_front_end.proofs.place.tokens_so_far.Goals as goal

pub returns-in-Ok : goal.returns-in-Ok
returns-in-Ok c = some-tokens (tokens_before c.args.text.now) c.args.text.now c.in-Ok.tokens.items (lexed-ok c.args.text.now c.in-Ok.tokens c.in-Ok.ensures.only)

pub returns-in-Err : goal.returns-in-Err
returns-in-Err c =
    no-tokens (tokens_before c.args.text.now) c.args.text.now c.in-Err.fault c.tokens_before.result (lexed-err c.args.text.now c.in-Err.fault c.in-Err.ensures.only)
    c.tokens_before.ensures.before c.tokens_before.ensures.fault

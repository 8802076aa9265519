use Rattle.pw_front_end.specs.Places.{or_none}
use Rattle.pw_front_end.proofs.CallLaws.{lexed-ok, lexed-err, some-tokens, no-tokens}
use Rattle.pw_front_end.proofs.place.tokens_or_none.Goals as goal

pub returns-in-Ok : goal.returns-in-Ok
returns-in-Ok c = some-tokens or_none c.args.text.now c.in-Ok.tokens.items (lexed-ok c.args.text.now c.in-Ok.tokens c.in-Ok.ensures.only)

pub returns-in-Err : goal.returns-in-Err
returns-in-Err c =
    no-tokens or_none c.args.text.now c.in-Err.fault c.no_tokens.result (lexed-err c.args.text.now c.in-Err.fault c.in-Err.ensures.only)
    c.no_tokens.ensures.none c.no_tokens.ensures.fault

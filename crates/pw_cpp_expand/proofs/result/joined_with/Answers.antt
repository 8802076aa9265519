use Rattle.std.proofs.Common.{sym, refl}
use Rattle.pw_cpp_expand.proofs.Results.{joined-new, keeps-self}
use Rattle.pw_cpp_expand.proofs.result.joined_with.Goals as goal

pub returns-then-own-last : goal.returns-then-own-last
returns-then-own-last c = (keeps-self c.args.sets.now, c.requires.last, sym c.if-own-last.true)

pub returns : goal.returns
returns c =
    let made = c.in_ok-number.ensures in
    (made.keeps, joined-new c.args.sets.now _ c.args.hidden c.args.own c.in_ok-number.number made.keeps c.requires.hidden c.requires.own made.number.0 made.number.1, refl)

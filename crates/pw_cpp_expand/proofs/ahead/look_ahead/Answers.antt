use Rattle.std.proofs.Common.{sym, subst}
use Rattle.pw_cpp_expand.specs.Lookahead.{At, LooksAhead}
use Rattle.pw_cpp_expand.specs.Numbered.{AnswersAhead, at_hand}
use Rattle.pw_cpp_expand.specs.declared.progress.Mode.{Mode}
use Rattle.pw_cpp_expand.proofs.ReadingOn.{ahead-alone}
use Rattle.pw_cpp_expand.proofs.ahead.look_ahead.Goals as goal

pub returns-in-Alone-clause-answers : goal.returns-in-Alone-clause-answers
returns-in-Alone-clause-answers c = λ known empty.
    let P : Mode → Type 0 = λ m. LooksAhead c.args.text.now m (at_hand known c.args.pending.now) c.args.progress.now (At (at_hand known c.args.pending.now) c.args.progress.now) in
    subst P (sym c.in-Alone.is) (ahead-alone c.args.text.now c.args.progress.now (at_hand known c.args.pending.now))

pub returns-in-InText-clause-answers : goal.returns-in-InText-clause-answers
returns-in-InText-clause-answers c =
    let P : Mode → Type 0 = λ m. AnswersAhead c.args.text.now m c.args.pending.now c.args.progress.now c.look_on.new.pending c.look_on.new.progress c.look_on.result in
    subst P (sym c.in-InText.is) c.look_on.ensures.answers

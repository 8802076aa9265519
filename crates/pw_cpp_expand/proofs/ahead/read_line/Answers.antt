use Rattle.std.proofs.Common.{◌≡◌, ◌+◌, ap, subst, sym, Err, arith}
use Rattle.pw_cpp_expand.specs.Numbered.{AnswersTextLine}
use Rattle.pw_cpp_expand.specs.declared.progress.ExpandFault.{ExpandFault}
use Rattle.pw_cpp_expand.proofs.ReadingOn.{line-faulty, line-long, line-read}
use Rattle.pw_cpp_expand.proofs.ahead.read_line.Goals as goal

pub returns-in-Err-clause-answers : goal.returns-in-Err-clause-answers
returns-in-Err-clause-answers c =
    let P : ExpandFault → Type 0 = λ x. AnswersTextLine c.args.text.now c.args.at c.args.progress.now c.args.progress.now (Err x) in
    subst P (sym c.of_line.ensures) (line-faulty c.args.text.now c.args.at c.args.progress.now c.args.progress.now c.requires.within c.requires.is_text c.in-Err.fault c.in-Err.ensures.answers)

pub returns-then-size-ge-OUTPUT_LIMIT-clause-answers : goal.returns-then-size-ge-OUTPUT_LIMIT-clause-answers
returns-then-size-ge-OUTPUT_LIMIT-clause-answers c =
    line-long c.args.text.now c.args.at c.args.progress.now c.args.progress.now c.requires.within c.requires.is_text c.in-Ok.line c.in-Ok.ensures.answers (omega arith)

pub returns-clause-answers : goal.returns-clause-answers
returns-clause-answers c =
    line-read c.args.text.now c.args.at c.args.progress.now _ c.requires.within c.requires.is_text c.in-Ok.line c.in-Ok.ensures.answers (omega arith)
    (ap (λ x. record { next = c.in-Ok.line.next; rows = x; produced = c.args.progress.now.produced; size = c.args.progress.now.size + 1 }) c.in_ok-push.ensures)

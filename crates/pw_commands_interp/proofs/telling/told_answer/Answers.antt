use Rattle.std.proofs.Common.{◌≡◌, sym, subst}
use Rattle.pw_top_answer.specs.declared.answer.Answer.{Answer}
use Rattle.pw_top_answer.specs.declared.answer.Answer.TheVariants.{Undefined, UndefinedSource}
use Rattle.pw_commands_interp.specs.Interpreting.{told_end}
use Rattle.pw_commands_interp.proofs.ToldLemmas.{told_absent, told_there}
use Rattle.pw_commands_interp.proofs.telling.told_answer.Goals as goal

pub returns-then-is_among-clause-told : goal.returns-then-is_among-clause-told
returns-then-is_among-clause-told c = λ files listed.
    let u = c.in-Undefined in
    let file = c.in_ok-file-in-Undefined in
    subst (λ (a : Answer). UndefinedSource u.operation u.home u.token ≡ told_end files a) (sym u.is)
    (told_there c.args.names.now files u.operation u.home u.token file.file.items c.is_among.result listed file.ensures (rw c.deref.ensures.value at c.is_among.ensures) c.if-is_among.true)

pub returns-in-Undefined-clause-told : goal.returns-in-Undefined-clause-told
returns-in-Undefined-clause-told c = λ files listed.
    let u = c.in-Undefined in
    let file = c.in_ok-file-in-Undefined in
    subst (λ (a : Answer). Undefined u.operation u.home u.token ≡ told_end files a) (sym u.is)
    (told_absent c.args.names.now files u.operation u.home u.token file.file.items c.is_among.result listed file.ensures (rw c.deref.ensures.value at c.is_among.ensures) c.if-is_among.false)

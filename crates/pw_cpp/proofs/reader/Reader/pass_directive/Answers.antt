use Rattle.std.proofs.Common.{refl, rules}
use Rattle.pw_cpp.proofs.Steps.{passed-on, passed-wrong}
use Rattle.pw_cpp.proofs.reader.Reader.pass_directive.Goals as goal

pub returns-in-Ok-true-clause-steps : goal.returns-in-Ok-true-clause-steps
returns-in-Ok-true-clause-steps c = λ f read.
    passed-on c.args.self.now _ (record { source = refl; files = refl; spans = refl; file = refl; out = refl; size = refl }) f c.args.text.now read c.args.at c.args.hash c.pass_line-next.result c.args.name
    c.pass_line-next.ensures.passed (search (rules, c.in-Ok-true.ensures, c.name_in.ensures, c.in-Ok-true.field-0-test)) refl

pub returns-in-Ok-false-clause-steps : goal.returns-in-Ok-false-clause-steps
returns-in-Ok-false-clause-steps c = λ f read.
    passed-wrong c.args.self.now (record { alloc = c.args.self.now.alloc; source = c.args.self.now.source; files = c.args.self.now.files; spans = c.args.self.now.spans; file = c.args.self.now.file; standing = record { macros = c.args.self.now.standing.macros; sets = c.args.self.now.standing.sets; sections = c.args.self.now.standing.sections; nested = c.pass_name.new.nested; produced = c.args.self.now.standing.produced }; out = c.args.self.now.out; size = c.args.self.now.size }) (record { source = refl; files = refl; spans = refl; file = refl; out = refl; size = refl }) f c.args.text.now read c.args.at c.args.hash c.pass_line-next.result c.args.name
    c.pass_line-next.ensures.passed (search (rules, c.in-Ok-false.ensures, c.name_in.ensures, c.in-Ok-false.field-0-test)) c.faulty.result c.faulty.ensures

pub returns-in-Ok-true-clause-within : goal.returns-in-Ok-true-clause-within
returns-in-Ok-true-clause-within c =
    (c.requires.within, c.pass_line-next.ensures.within, (c.lines_go_on.ensures.line c.args.text.now c.args.at c.pass_line-next.result c.pass_line-next.ensures.passed).1 c.requires.place)

use Rattle.pw_cpp.proofs.Texts.{limits-on, text-expanded, text-on}
use Rattle.pw_cpp.proofs.reader.expanded.Goals as goal

pub expand_text-requires-clause-limits : goal.expand_text-requires-clause-limits
expand_text-requires-clause-limits c =
    limits-on c.args.text.now c.args.at c.args.progress.now c.read_line.new.progress c.in_ok-tokens.tokens c.requires.limits c.in_ok-tokens.ensures.answers

pub returns-clause-on : goal.returns-clause-on
returns-clause-on c =
    text-on c.args.source.now c.args.standing.now
    (record { macros = c.args.standing.now.macros; sets = c.expand_text.new.sets; sections = c.args.standing.now.sections; nested = c.args.standing.now.nested; produced = c.args.standing.now.produced })
    c.args.text.now c.args.at c.args.progress.now c.text_goes_on.ensures.reads c.text_goes_on.ensures.expands c.in_ok-tokens.tokens c.read_line.new.progress c.expand_text.new.progress c.expand_text.result
    c.in_ok-tokens.ensures.answers c.expand_text.ensures

pub returns-clause-expands : goal.returns-clause-expands
returns-clause-expands c =
    text-expanded c.args.source.now c.args.standing.now
    (record { macros = c.args.standing.now.macros; sets = c.expand_text.new.sets; sections = c.args.standing.now.sections; nested = c.args.standing.now.nested; produced = c.args.standing.now.produced })
    c.args.text.now c.args.at c.args.progress.now c.line_in_order.ensures c.tokens_in_order.ensures c.requires.first c.in_ok-tokens.tokens c.read_line.new.progress c.expand_text.new.progress c.expand_text.result
    c.in_ok-tokens.ensures.answers c.expand_text.ensures

use Rattle.std.proofs.Common.{◌≡◌, true, Ok, Err, map, string_bytes, sym, subst}
use Rattle.clap.specs.Kinds.{FailsBy}
use Rattle.clap.specs.Simple.{App, HasMatchesOf}
use Rattle.clap.specs.Faults.{fault_of, is_simple_and_free}
use Rattle.clap.specs.declared.parser.matches.ArgMatches.{ArgMatches}
use Rattle.pw_top_words.specs.Reading.{IsRefusal}
use Rattle.pw_top_words.proofs.Asked.{simple}
use Rattle.pw_top_words.proofs.Parses.{all_utf8, parsed, refused}
use Rattle.pw_top_words.proofs.reader.read_parts.Goals as goal

pub returns-in-Ok-clause-parts : goal.returns-in-Ok-clause-parts
returns-in-Ok-clause-parts c =
    let names = map (λ o. o.now) c.args.options.now in
    let takes = c.args.takes_operand in
    let words = map string_bytes c.args.words.now in
    let m = c.in-Ok.matches in
    let clean = subst (λ (a : App). is_simple_and_free a ≡ true → FailsBy {T = ArgMatches} (fault_of a words) (Ok m)) c.in_ok-command.ensures c.in-Ok.ensures.kinds (simple names takes) in
    parsed names takes c.requires words (all_utf8 c.args.words.now) m clean (subst (λ (a : App). HasMatchesOf a words m) c.in_ok-command.ensures c.in-Ok.ensures.matches)

pub returns-in-Err-clause-refusal : goal.returns-in-Err-clause-refusal
returns-in-Err-clause-refusal c =
    let names = map (λ o. o.now) c.args.options.now in
    let takes = c.args.takes_operand in
    let words = map string_bytes c.args.words.now in
    let e = c.in-Err.error in
    let kinds = subst (λ (a : App). is_simple_and_free a ≡ true → FailsBy {T = ArgMatches} (fault_of a words) (Err e)) c.in_ok-command.ensures c.in-Err.ensures.kinds (simple names takes) in
    subst (IsRefusal names takes words) (sym c.fault_of.ensures) (refused names takes c.requires words (all_utf8 c.args.words.now) e kinds)

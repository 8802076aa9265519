use Rattle.std.proofs.Common.{◌≡◌, length, ap, refl, sym, ◌∙◌, map, []}
use Rattle.std.proofs.lemmas.List.Elements.{All-nil}
use Rattle.pw_cpp_expand.proofs.Falling.{result-left}
use Rattle.pw_cpp_expand.proofs.Results.{made-alone}
use Rattle.pw_cpp_expand.proofs.Whole.{named-whole}
use Rattle.pw_cpp_expand.proofs.expansion.Expander.replace_name.Goals as goal

pub result_of-requires-clause-hidden : goal.result_of-requires-clause-hidden
result_of-requires-clause-hidden c = c.in_ok-hidden.ensures.number.0

pub put_result-requires : goal.put_result-requires
put_result-requires c = c.requires.ready.limits.0

pub returns-clause-comes : goal.returns-clause-comes
returns-clause-comes c =
    named-whole c.args.ground.source.now c.args.ground.text.now c.args.ground.macros.now c.args.ground.mode c.args.sets.now _ _ c.in_ok-hidden.ensures.keeps c.in_ok-made.ensures.0 c.args.self.now c.args.name
    c.args.progress.now c.args.meaning.now c.in_ok-hidden.hidden c.spelled.result.now c.args.name.place c.spelled.ensures c.in_ok-hidden.ensures.number.1 refl c.requires.meant c.requires.alone c.requires.ready
    c.requires.name c.in_ok-made.made (made-alone c.args.ground.source.now _ _ _ _ _ c.in_ok-made.ensures.2 c.as_slice-replacement.ensures) c.in_ok-made.ensures.1 _ _
    c.put_result.result c.put_result.ensures

pub returns-clause-left : goal.returns-clause-left
returns-clause-left c = result-left (length c.args.ground.text.now) c.args.self.now c.args.progress.now c.in_ok-made.made c.args.name.place c.put_result.new.self c.put_result.new.progress c.put_result.result c.put_result.ensures

use Rattle.std.proofs.Common.{[], ◌∷◌, ◌++◌}
use Rattle.pw_store_modules.specs.FileNames.{text_name}
use Rattle.pw_commands.proofs.OthersLemmas.{kept_others, put_others}
use Rattle.pw_commands_cpp.specs.Command.{cpp_puts}
use Rattle.pw_commands_cpp.proofs.CppLemmas.{obeys-put, obeys-stopped, put_is_answer, stop_is_answer}
use Rattle.pw_commands_cpp.proofs.sources.preprocess_module.Goals as goal

pub returns-in-Ok-clause-obeys : goal.returns-in-Ok-clause-obeys
returns-in-Ok-clause-obeys g c =
    obeys-put c.one_output.ensures (g.S.Store.told c.args.store.now) _ _ c.args.name.now c.in-Ok.output.items c.put_text.result
    c.in-Ok.ensures.output c.output_of.ensures.same (rw c.as_slice.ensures.value at c.put_text.ensures.put) c.put_text.ensures.answer

pub returns-in-Err-clause-obeys : goal.returns-in-Err-clause-obeys
returns-in-Err-clause-obeys g c =
    obeys-stopped c.one_output.ensures (g.S.Store.told c.args.store.now) _ c.args.name.now c.in-Err.answer c.in-Err.ensures.output c.output_of.ensures.same c.in-Err.ensures.stop

pub returns-in-Ok-clause-answer : goal.returns-in-Ok-clause-answer
returns-in-Ok-clause-answer g c = put_is_answer c.put_text.result c.put_text.ensures.answer

pub returns-in-Err-clause-answer : goal.returns-in-Err-clause-answer
returns-in-Err-clause-answer g c = stop_is_answer c.in-Err.answer c.in-Err.ensures.stop

pub returns-in-Ok-clause-others : goal.returns-in-Ok-clause-others
returns-in-Ok-clause-others g c =
    put_others (g.S.Store.told c.args.store.now) _ _ ((text_name c.args.name.now, c.in-Ok.output.items) ∷ []) c.put_text.result c.output_of.ensures.same (rw c.as_slice.ensures.value at c.put_text.ensures.put)

pub returns-in-Err-clause-others : goal.returns-in-Err-clause-others
returns-in-Err-clause-others g c = kept_others (cpp_puts c.args.name.now) c.in-Err.answer (g.S.Store.told c.args.store.now) _ c.output_of.ensures.same

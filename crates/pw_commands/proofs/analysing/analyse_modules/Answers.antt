use Rattle.std.proofs.Common.{[], ◌∷◌}
use Rattle.pw_store_modules.specs.FileNames.{database_name}
use Rattle.pw_commands.proofs.AnalysingLemmas.{obeys_analysed, obeys_not_analysed}
use Rattle.pw_commands.proofs.OthersLemmas.{kept_others, put_others}
use Rattle.pw_commands.proofs.analysing.analyse_modules.Goals as goal

pub returns-in-Ok-clause-obeys : goal.returns-in-Ok-clause-obeys
returns-in-Ok-clause-obeys g c =
    obeys_analysed (record { database = c.databases_are_one.ensures; file = c.databases_and_files_are_one_to_one.ensures.one_new_file; not_both = c.modules_have_one_answer.ensures.not_both; one_fault = c.modules_have_one_answer.ensures.one_fault })
    (g.S.Store.told c.args.store.now) _ _ c.args.colours c.in-Ok.bytes.items c.put_file.result
    c.in-Ok.ensures.file c.analysed_file.ensures.same (rw c.deref.ensures.value at c.put_file.ensures.put) c.put_file.ensures.answer

pub returns-in-Err-clause-obeys : goal.returns-in-Err-clause-obeys
returns-in-Err-clause-obeys g c =
    obeys_not_analysed (record { database = c.databases_are_one.ensures; file = c.databases_and_files_are_one_to_one.ensures.one_new_file; not_both = c.modules_have_one_answer.ensures.not_both; one_fault = c.modules_have_one_answer.ensures.one_fault })
    (g.S.Store.told c.args.store.now) _ c.args.colours c.in-Err.answer
    c.in-Err.ensures.file c.analysed_file.ensures.same c.in-Err.ensures.stop

pub returns-in-Ok-clause-others : goal.returns-in-Ok-clause-others
returns-in-Ok-clause-others g c =
    put_others (g.S.Store.told c.args.store.now) _ _ ((database_name, c.in-Ok.bytes.items) ∷ []) c.put_file.result c.analysed_file.ensures.same (rw c.deref.ensures.value at c.put_file.ensures.put)

pub returns-in-Err-clause-others : goal.returns-in-Err-clause-others
returns-in-Err-clause-others g c = kept_others (database_name ∷ []) c.in-Err.answer (g.S.Store.told c.args.store.now) _ c.analysed_file.ensures.same

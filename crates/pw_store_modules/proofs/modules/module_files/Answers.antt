use Rattle.std.proofs.Common.{map, length, sym, ◌∙◌}
use Rattle.std.specs.Prelude.{string_bytes}
use Rattle.std.proofs.lemmas.List.{length-map}
use Rattle.std.proofs.lemmas.List.Elements.{All-same}
use Rattle.std.proofs.lemmas.Result.{IfOk-weaker}
use Rattle.pw_store_modules.specs.Modules.{IsModuleFile}
use Rattle.pw_store_modules.proofs.ModuleLemmas.{all_are_modules, all_mapped}
use Rattle.pw_store_modules.proofs.ReadingLemmas.{count_in_order, sources_in_order}
use Rattle.pw_store_modules.proofs.modules.module_files.Goals as goal

pub returns-clause-modules : goal.returns-clause-modules
returns-clause-modules c =
    IfOk-weaker c.placed_modules.result _ _
    (λ files e. all_mapped IsModuleFile string_bytes files.items (All-same IsModuleFile _ _ e (all_are_modules (map string_bytes c.args.names.now))))
    c.placed_modules.ensures

pub returns-clause-sources : goal.returns-clause-sources
returns-clause-sources c = λ files e.
    IfOk-weaker c.placed_modules.result _ _ (λ found f. sources_in_order files (map string_bytes c.args.names.now) (map string_bytes found.items) e f) c.placed_modules.ensures

pub returns-clause-count : goal.returns-clause-count
returns-clause-count c = λ files e.
    IfOk-weaker c.placed_modules.result _ _
    (λ found f. sym (length-map found.items string_bytes) ∙ count_in_order files (map string_bytes c.args.names.now) (map string_bytes found.items) e f) c.placed_modules.ensures

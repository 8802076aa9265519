use Rattle.std.proofs.Common.{◌++◌, map, sym, ap, ◌∙◌}
use Rattle.std.specs.Prelude.{string_bytes}
use Rattle.std.proofs.lemmas.Simd.{map-map}
use Rattle.pw_commands.proofs.NeededLemmas.{needed_of_names}
use Rattle.pw_commands.proofs.kept.kept_of_modules.Goals as goal

pub returns-clause-values : goal.returns-clause-values
returns-clause-values g c =
    needed_of_names (λ values. values.items) g.K.Kept.stands c.args.ending.now (g.S.Store.told c.args.store.now) _ (map string_bytes c.in_ok-modules.modules.items) _ c.read_values.result
    c.in_ok-modules.ensures.names c.few_names.ensures.same
    (ap (map (λ stem. string_bytes stem ++ c.args.ending.now)) c.deref.ensures.value ∙ sym (map-map _ _ c.in_ok-modules.modules.items)) c.read_values.ensures.values

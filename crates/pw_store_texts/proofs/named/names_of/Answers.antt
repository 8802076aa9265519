use Rattle.std.proofs.Common.{◌≡◌, ◌+◌, ◌∷◌, [], true, drop, map, ap, arith, ◌∙◌}
use Rattle.std.specs.Prelude.{string_bytes}
use Rattle.std.proofs.lemmas.List.{map-append}
use Rattle.std.proofs.lemmas.List.Elements.{All-same}
use Rattle.pw_store_modules.specs.Modules.{is_module_name}
use Rattle.pw_store_modules.proofs.ModuleLemmas.{all_mapped, mapped_rest}
use Rattle.pw_store_sources.proofs.ComeLemmas.{none-left}
use Rattle.pw_store_texts.proofs.NamedLemmas.{modules_named, name_end, name_turn}
use Rattle.pw_store_texts.proofs.named.names_of.Goals as goal

pub loop-one-preserved : goal.loop-one-preserved
loop-one-preserved c =
    let next = mapped_rest (λ one. one.name) c.args.modules.now c.loop-one.one-index c.one-item.result (omega arith) c.one-item.is in
    name_turn (map string_bytes c.loop-one.names.items) (map string_bytes c.push.new.self.items) (string_bytes c.in_ok-module_file.field-0) c.one-item.result.name
    (drop c.loop-one.one-index (map (λ one. one.name) c.args.modules.now)) (drop (c.loop-one.one-index + 1) (map (λ one. one.name) c.args.modules.now)) _
    c.loop-one.invariant next (ap (map string_bytes) c.in_ok-push.ensures.items ∙ map-append string_bytes c.loop-one.names.items (c.in_ok-module_file.field-0 ∷ [])) c.in_ok-module_file.ensures

pub returns-clause-names : goal.returns-clause-names
returns-clause-names c =
    name_end (map string_bytes c.loop-one.names.items) (drop c.loop-one.one-index (map (λ one. one.name) c.args.modules.now)) _
    (none-left (λ one. one.name) c.args.modules.now c.loop-one.one-index c.loop-one-test.false) c.loop-one.invariant

pub returns-clause-named : goal.returns-clause-named
returns-clause-named c =
    all_mapped (λ name. is_module_name name ≡ true) string_bytes c.loop-one.names.items
    (All-same (λ name. is_module_name name ≡ true) _ _
    (name_end (map string_bytes c.loop-one.names.items) (drop c.loop-one.one-index (map (λ one. one.name) c.args.modules.now)) _
    (none-left (λ one. one.name) c.args.modules.now c.loop-one.one-index c.loop-one-test.false) c.loop-one.invariant)
    (modules_named c.args.modules.now))

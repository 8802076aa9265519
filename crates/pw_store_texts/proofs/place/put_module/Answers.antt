use Rattle.std.proofs.Common.{map, sym, ap, ◌∙◌}
use Rattle.std.proofs.lemmas.List.{map-set}
use Rattle.pw_store_modules.specs.Views.{source}
use Rattle.pw_store_modules.proofs.ModuleLemmas.{mapped_insert}
use Rattle.pw_store_texts.proofs.place.put_module.Goals as goal

pub returns-in-Ok : goal.returns-in-Ok
returns-in-Ok c = map-set source c.args.modules.now.items c.in-Ok.at c.args.one ∙ sym ((rw c.deref.ensures.value at c.in-Ok.ensures).1 c.args.one.text.items)

pub returns-in_ok-insert-in-Err : goal.returns-in_ok-insert-in-Err
returns-in_ok-insert-in-Err c =
    ap (map source) c.in_ok-insert-in-Err.ensures.items ∙ mapped_insert source c.args.modules.now.items c.in-Err.at c.args.one ∙ sym ((rw c.deref.ensures.value at c.in-Err.ensures).1 c.args.one.text.items)

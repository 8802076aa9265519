use Rattle.std.proofs.Common.{◌∙◌, ap, map}
use Rattle.std.specs.Prelude.{string_bytes, insert}
use Rattle.pw_store_modules.proofs.ModuleLemmas.{mapped_insert}
use Rattle.pw_store_modules.proofs.modules.place.Goals as goal

pub returns : goal.returns
returns c =
    let at = rw (c.as_str.ensures.value, c.deref.ensures.value) at c.first_behind-at.ensures.place in
    rw c.in_ok-insert.ensures.items
    (mapped_insert string_bytes c.args.files.now.items c.first_behind-at.result c.args.file ∙ ap (λ i. insert (map string_bytes c.args.files.now.items) i (string_bytes c.args.file)) at)

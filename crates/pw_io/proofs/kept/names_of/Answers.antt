-- At the end no names are left, and those that were copied are the files'.
use Rattle.std.proofs.Common.{◌++◌, map, List, String, string_bytes, Global, sym, ap, ◌∙◌}
use Rattle.std.proofs.lemmas.List.{append-nil}
use Rattle.pw_io.proofs.KeptFiles.{keys-files_in}
use Rattle.pw_io.proofs.kept.names_of.Goals as goal

pub returns : goal.returns
returns c =
    sym (append-nil (map string_bytes c.loop-name.names.items))
    ∙ ap (λ (left : List (String Global)). map string_bytes c.loop-name.names.items ++ map string_bytes left) (sym c.in-None.ensures.steps.0)
    ∙ c.loop-name.invariant
    ∙ sym (keys-files_in c.args.kept.now c.len.ensures.ordered)

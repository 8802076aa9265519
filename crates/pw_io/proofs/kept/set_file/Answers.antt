-- The entry that the map takes has the name and the bytes that were passed.
use Rattle.std.proofs.Common.{rules, ◌≡◌, string_bytes}
use Rattle.pw_io.proofs.KeptFiles.{files_in-insert}
use Rattle.pw_io.proofs.kept.set_file.Goals as goal

pub returns-clause-ok : goal.returns-clause-ok
returns-clause-ok c =
    let set = files_in-insert c.args.kept.now c.insert.new.self (string_bytes c.in_ok-key.key) c.in_ok-value.value c.in_ok-insert.ensures.updates in
    let name = c.in_ok-key.ensures.ok in
    let bytes : c.in_ok-value.value.items ≡ c.args.bytes.now = search rules in
    cc

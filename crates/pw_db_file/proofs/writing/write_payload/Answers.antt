use Rattle.std.proofs.Common.{map}
use Rattle.pw_db_file.proofs.WritingLemmas.{newest_lawful}
use Rattle.pw_db_file.proofs.writing.write_payload.Goals as goal

pub write_version-requires : goal.write_version-requires
write_version-requires c = newest_lawful (map (λ f. f.now) c.args.functions.now) c.requires

pub returns : goal.returns
returns c = c.write_version.ensures

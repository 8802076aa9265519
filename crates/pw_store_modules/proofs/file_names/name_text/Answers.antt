use Rattle.std.proofs.Common.{sym, subst}
use Rattle.std.specs.Str.{IsUtf8}
use Rattle.pw_store_modules.proofs.NameLemmas.{name_is_text}
use Rattle.pw_store_modules.proofs.file_names.name_text.Goals as goal

pub unreachable-requires : goal.unreachable-requires
unreachable-requires c = absurd (c.in-Err.ensures.cases.0 (subst IsUtf8 (sym c.as_bytes.ensures.bytes) (name_is_text c.args.name.now c.requires)))

use Rattle.std.proofs.Common.{◌≡◌, drop, map}
use Rattle.std.specs.Prelude.{fold, string_bytes}
use Rattle.std.specs.FinMap as finite
use Rattle.pw_store_modules.specs.Views.{source}
use Rattle.pw_store_texts.specs.Named.{named_among, with_entry}
use Rattle.pw_store_texts.proofs.named.named_among.Given as goal

-- the names so far, with those of the files that are left, are all
abbrev pub invariant-loop-file : goal.invariant-loop-file
invariant-loop-file l = fold with_entry (map source l.named.items) (drop l.file-index (map string_bytes l.files)) ≡ finite.entries (named_among (map string_bytes l.files))

-- What the lists of modules show.
use Rattle.std.proofs.Common.{◌≡◌, List, []}
use Rattle.pw_tree.specs.Views.{view_external, view_externals}
use Rattle.pw_tree.specs.declared.module.External.{External}
use Rattle.pw_parse.specs.Views.{external_first}
use Rattle.pw_parse_cursor.proofs.Loops.{prepend}
use Rattle.pw_parse_cursor.proofs.Shown.{mapped}

pub externals_shown : (es : List External) → prepend external_first es [] ≡ view_externals es
externals_shown = mapped view_external

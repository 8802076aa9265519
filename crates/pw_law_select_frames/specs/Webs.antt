-- The lines that load webs at a function's start, and store them back at its end, by the webs that the placed run enters.
use Rattle.std.specs.Prelude.{◌≡◌}
use Rattle.std.specs.List.{flat_map}
use Rattle.pw_db.specs.Database.{IsDirectives}
use Rattle.pw_alloc.specs.declared.located.Located.{Located}
use Rattle.pw_select.specs.Selection.{loaded_web, stored_back, webs_loaded, webs_stored}
use Rattle.pw_run_languages.specs.PlacedRun.{entered_webs}

abbrev pub WebsAreLoadedInOrder : Type 0
WebsAreLoadedInOrder = (f : Located) → IsDirectives f.body.directives → webs_loaded f.body.directives.webs ≡ flat_map loaded_web (entered_webs f)

abbrev pub WebsAreStoredInOrder : Type 0
WebsAreStoredInOrder = (f : Located) → IsDirectives f.body.directives → webs_stored f.body.directives.webs ≡ flat_map stored_back (entered_webs f)

-- The webs that a reader has seen: what a web of the table of names is, and where a number stands first.
use Rattle.std.specs.Prelude.{ℕ, suc, ◌==◌, List, [], ◌∷◌, Option, Some, None, option_map, if◌then◌else◌}
use Rattle.pw_db.specs.declared.database.Web.{Web}
use Rattle.pw_db_file.specs.declared.seen.Known.{Known}

abbrev pub known_web : Known → Web
known_web k = record { id = k.id; global = k.global.now; kind = k.kind; reg = k.reg; writes = k.writes }

-- the first place at which a web of the number stands
abbrev pub place_with : ℕ → List Web → Option ℕ
place_with id [] = None
place_with id (w ∷ webs) = if w.id == id then Some 0 else option_map suc (place_with id webs)

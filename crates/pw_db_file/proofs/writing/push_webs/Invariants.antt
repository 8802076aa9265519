use Rattle.std.proofs.Common.{◌≡◌, ◌++◌, take, ◌<◌, get_or, ℕ}
use Rattle.std.specs.List.{flat_map}
use Rattle.pw_fields.specs.Fields.{FitsU32}
use Rattle.pw_db.specs.declared.database.Web.{Web}
use Rattle.pw_db.specs.declared.database.Role.{Role}
use Rattle.pw_db_file.specs.Spelling.{web}
use Rattle.pw_db_file.proofs.writing.push_webs.Given as goal

abbrev pub invariant-loop-web : goal.invariant-loop-web
invariant-loop-web l = record {
  written : l.out.items ≡ l.fn.out.items ++ flat_map (web l.names) (take l.web-index l.webs);
  fits : (k : ℕ) → k < l.web-index → (d : Web × Role) → FitsU32 (get_or l.webs k d).0.id;
}

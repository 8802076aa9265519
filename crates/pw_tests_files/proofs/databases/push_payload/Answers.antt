use Rattle.std.proofs.Common.{List, sym, subst}
use Rattle.pw_db.specs.declared.database.Directives.{Directives}
use Rattle.std.specs.Prelude.{ℕ}
use Rattle.pw_db.specs.Database.{CanBeStored}
use Rattle.pw_db.proofs.StoringLaws.{can_be_stored}
use Rattle.pw_tests_files.proofs.databases.push_payload.Goals as goal

pub payload-written-requires : goal.payload-written-requires
payload-written-requires c = subst (λ (fs : List (List ℕ × Directives)). CanBeStored fs) (sym c.as_slice-functions.ensures) (can_be_stored _ c.in-Ok.ensures.found.1.contents.lawful.functions)

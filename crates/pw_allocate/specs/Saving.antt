-- The registers that a function saves, of so many from one on.
use Rattle.std.specs.Prelude.{ℕ, Option, List}
use Rattle.std.specs.List.{filter, range_with_len}
use Rattle.pw_db.specs.declared.database.Directives.{Directives}
use Rattle.pw_alloc_temps.specs.Temporaries.{is_saved}

abbrev pub saved_from : Directives → List (Option ℕ) → ℕ → ℕ → List ℕ
saved_from d registers r more = filter (is_saved d registers) (range_with_len r more)

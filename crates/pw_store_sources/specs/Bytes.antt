-- The bytes of texts together.
use Rattle.std.specs.Prelude.{ℕ, length, sum_by}
use Rattle.pw_cpp_sources.specs.Sources.{Texts}

abbrev pub bytes_of : Texts → ℕ
bytes_of texts = sum_by (λ text. length text.1) texts

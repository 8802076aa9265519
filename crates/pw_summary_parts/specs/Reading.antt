-- Reading the parts of a summary from left to right, with the first fault that is met.
use Rattle.std.specs.Prelude.{ℕ, Bool, nat_lt, nat_le, ◌==◌, if◌then◌else◌, List, Option, Result}
use Rattle.pw_value.specs.declared.value.Kind.{Kind}
use Rattle.pw_fields.specs.Fields.{◌>>=◌, done, checked, u8_at, u64_at, text_at, flag_at}
use Rattle.pw_value.specs.declared.program_names.StartName.TheVariants.{Allowed, Refused}
use Rattle.pw_files.specs.Rising.{rising_at}
use Rattle.pw_files.specs.Kinds.{kind_at}
use Rattle.pw_files.specs.Names.{name_above_at, name_list_at, text_list_at}
use Rattle.pw_summary.specs.declared.summary.Uses.{Uses}
use Rattle.pw_summary.specs.Summary.{first_version, weight_bound, need_limit}

unfoldable pub global_at : List (List ℕ) → Option (List ℕ) → List ℕ → Result ((List ℕ × List ℕ × Option Kind × Bool) × List ℕ) ℕ
global_at names before = do
  name ← name_above_at names Allowed before
  shape ← text_at
  kind ← kind_at
  volatile ← flag_at
  done (name, shape, kind, volatile)

-- a weight of four bytes, in eight
unfoldable pub weight_at : List ℕ → Result (ℕ × List ℕ) ℕ
weight_at = checked (λ n. nat_lt n weight_bound) u64_at

unfoldable pub reference_at : List (List ℕ) → Option (List ℕ) → List ℕ → Result ((List ℕ × ℕ × ℕ) × List ℕ) ℕ
reference_at names before = do
  name ← name_above_at names Allowed before
  reads ← weight_at
  writes ← weight_at
  done (name, reads, writes)

-- what a function needs; in the first version that is nothing
unfoldable pub some_need_at : List ℕ → Result (ℕ × List ℕ) ℕ
some_need_at = checked (λ n. nat_le n need_limit) u8_at

abbrev pub need_at : ℕ → List ℕ → Result (ℕ × List ℕ) ℕ
need_at version = if version == first_version then done 0 else some_need_at

unfoldable pub uses_at : ℕ → List (List ℕ) → List ℕ → Result (Uses × List ℕ) ℕ
uses_at version names = do
  calls ← name_list_at names Refused
  shapes ← text_list_at
  refs ← rising_at (λ r. r.0) (reference_at names)
  need ← need_at version
  done (record { calls = calls; shapes = shapes; refs = refs; need = need })

-- The addresses that the linker gives, as the run of lines sees them.
use Rattle.std.specs.Prelude.{ℕ, ◌+◌, List, slice_index_or}
use Rattle.pw_value.specs.Rounding.{stack_start}
use Rattle.pw_object.specs.declared.object.Object.{Object}
use Rattle.pw_link.specs.Layout.{text_of, routine_addresses, data_begin, data_size, stack_end}
use Rattle.pw_link.specs.Linking.{linked}
use Rattle.pw_run_languages.specs.Addresses.{Addresses}
use Rattle.pw_run_languages.specs.LinkingLaws.{address_of}

-- those of linked objects with a stack of so many bytes; the return addresses are given
abbrev pub linked_addresses : List Object → ℕ → (List ℕ → ℕ → ℕ) → Addresses
linked_addresses objects stack behind = record {
  named = address_of (linked objects stack);
  routine = λ k. slice_index_or (routine_addresses (text_of objects)) k 0;
  behind = behind;
  data_start = data_begin objects;
  base = stack_start (data_begin objects + data_size objects);
  limit = stack_end objects stack;
}

-- What a store in memory shows, which of its calls fail, and what a failed put leaves.
use Rattle.std.specs.Prelude.{ℕ, ◌-◌, List, length, take, reverse, min, Option, ◌==◌, nat_lt, if◌then◌else◌}
use Rattle.std.specs.Option.{option_map}
use Rattle.std.specs.List.{find}
use Rattle.std.specs.FinMap as finite
use Rattle.pw_io.specs.declared.mem_store.Left.{Left}
use Rattle.pw_io.specs.declared.mem_store.Left.TheVariants.{Old, Nothing, Prefix}
use Rattle.pw_io.specs.declared.mem_store.StoreFail.{StoreFail}
use Rattle.pw_io.specs.Files.{Files, Told}
use Rattle.pw_io.specs.Faults.{next_fault}
use Rattle.pw_io.specs.Memory.{next_call}

pub record MemStoreState : Type 0 where
  -- the files, and the names put so far
  pub told : Told
  -- how many calls there were
  pub calls : ℕ
  -- how many of them failed
  pub faults : ℕ
  -- the calls that fail
  pub fails : List StoreFail

-- what the call of this number leaves where it is one that fails; the last entry of the number counts
unfoldable pub left_by_call : List StoreFail → ℕ → Option Left
left_by_call fails call = option_map (λ fail. fail.leaves) (find (λ fail. fail.call == call) (reverse fails))

-- the same of the store's next call
abbrev pub next_left : MemStoreState → Option Left
next_left store = left_by_call store.fails (next_call store.calls)

-- the files after a put that failed; a prefix is cut to less than the bytes, and of no bytes there is none
abbrev pub left_files : Left → Files → List ℕ → List ℕ → Files
left_files Old files name bytes = files
left_files Nothing files name bytes = finite.remove files name
left_files (Prefix n) files name bytes =
    if nat_lt 0 (length bytes) then finite.insert files name (take (min n (length bytes - 1)) bytes) else files

-- the store after a call that changes nothing else
abbrev pub counted : MemStoreState → MemStoreState
counted store = record store { calls = next_call store.calls }

-- the store after a call that failed and left the files
abbrev pub counted_fault : MemStoreState → MemStoreState
counted_fault store = record store { calls = next_call store.calls; faults = next_fault store.faults }

-- the store with other files
abbrev pub with_files : MemStoreState → Files → MemStoreState
with_files store files = record store { told = record store.told { files = files } }

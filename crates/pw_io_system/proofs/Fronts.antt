-- The front of an opened file is that of the folder's.
use Rattle.std.proofs.Common.{◌≡◌, ℕ, List, None, Some, ap, subst, take}
use Rattle.std.specs.Prelude.{Option, IfSome, IsSomeAnd, Vec}
use Rattle.std.specs.Option.{option_map}
use Rattle.std.specs.declared.alloc.Global.{Global}
use Rattle.std.specs.FinMap as finite
use Rattle.pw_io.specs.Files.{Told, ReadsPrefix, prefix_of}
use Rattle.pw_io_system.specs.Folders.{Opens}

found : (kept remaining : Option (List ℕ)) (most : ℕ) (file : Vec ℕ Global) → IsSomeAnd kept (λ bytes. remaining ≡ Some bytes)
    → IfSome remaining (λ rest. file.items ≡ take most rest) → option_map (λ (bytes : Vec ℕ Global). bytes.items) (Some file) ≡ option_map (prefix_of most) kept
unfolding prefix_of
found None remaining most file p q = absurd p
found (Some bytes) remaining most file p q =
    ap Some (subst (λ (r : Option (List ℕ)). IfSome r (λ rest. file.items ≡ take most rest)) p q)

pub front_read : (old : Option Told) (name : List ℕ) (remaining : Option (List ℕ)) (most : ℕ) (file : Vec ℕ Global) → Opens old name remaining
    → IfSome remaining (λ rest. file.items ≡ take most rest) → ReadsPrefix old name most (Some file)
front_read None name remaining most file p q = tt
front_read (Some told) name remaining most file p q = found (finite.get told.files name) remaining most file p q

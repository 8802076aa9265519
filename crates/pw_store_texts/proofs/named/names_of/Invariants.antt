use Rattle.std.proofs.Common.{◌≡◌, ◌++◌, drop, map}
use Rattle.std.specs.Prelude.{string_bytes}
use Rattle.pw_store_texts.proofs.named.names_of.Given as goal

-- the names so far, with those of the modules that are left, are all
abbrev pub invariant-loop-one : goal.invariant-loop-one
invariant-loop-one l = map string_bytes l.names.items ++ drop l.one-index (map (λ one. one.name) l.modules) ≡ map (λ one. one.name) l.modules

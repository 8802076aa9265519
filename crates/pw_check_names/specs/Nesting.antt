-- Where the scopes around begin in a list of what is in scope.
use Rattle.std.specs.Prelude.{◌≡◌, ℕ, ◌+◌, ◌≤◌, nat_lt, Some, List, length, slice_get}
use Rattle.pw_check_rules.specs.declared.names.Entry.{Entry}
use Rattle.pw_check_rules.specs.declared.names.TagEntry.{TagEntry}
use Rattle.pw_check_names.specs.declared.scoped.Start.{Start}

-- Nothing is deeper than the scopes around. What stands before the start of a scope is less deep than it, and the rest is
-- not.
pub record Nested {T X : Type 0} (depth : T → ℕ) (start : X → ℕ) (entries : List T) (starts : List X) : Type 0 where
  pub most : (i : ℕ) (e : T) → slice_get entries i ≡ Some e → depth e ≤ length starts
  pub within : (k : ℕ) (s : X) → slice_get starts k ≡ Some s → start s ≤ length entries
  pub divided : (k i : ℕ) (s : X) (e : T) → slice_get starts k ≡ Some s → slice_get entries i ≡ Some e → nat_lt i (start s) ≡ nat_lt (depth e) (k + 1)

-- the names and the tags in scope, with the starts of the scopes around
pub record IsScoped (ordinary : List (List ℕ × Entry)) (tags : List (List ℕ × TagEntry)) (starts : List Start) (depth : ℕ) : Type 0 where
  pub names_nested : Nested (λ e. e.1.depth) (λ s. s.names) ordinary starts
  pub tags_nested : Nested (λ e. e.1.depth) (λ s. s.tags) tags starts
  pub counted : length starts ≡ depth

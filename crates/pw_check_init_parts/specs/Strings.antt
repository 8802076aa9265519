-- A string literal for an array of characters, behind the point of its escapes: its bytes, with the zero at their end.
use Rattle.std.specs.Prelude.{ℕ, ◌-◌, Some, List, [], ◌∷◌, length}
use Rattle.pw_tree.specs.FirstTokens.{first_of_words}
use Rattle.pw_tree.specs.Trees.{Word}
use Rattle.pw_types.specs.TypeTrees.{type_of}
use Rattle.pw_types.specs.TypedTrees.{Node, ItemBytes}
use Rattle.pw_types.specs.TypedTrees as T
use Rattle.pw_check_walk.specs.Causes.{needs, InitialiserCount}
use Rattle.pw_check_walk.specs.Walks.{meets, pure, ◌>>◌}
use Rattle.pw_check_rules.specs.Leaves.{string_type}
use Rattle.pw_check_rules.specs.States.{Rule}
use Rattle.pw_check_rules.specs.Initialisers.{Context, Target, Filled, fill, item_list, bytes_within, string_fits}

unfoldable pub bytes_filled : Context → List Word → List ℕ → Target → Filled → Rule Filled
bytes_filled cx ws bytes t filled =
    meets (needs InitialiserCount cx.token (string_fits (type_of t.ty) (length bytes - 1)) ∷ []) >>
    pure (fill (item_list t.offset (Some (ItemBytes (bytes_within (type_of t.ty) bytes))))
    (Node (first_of_words ws) (string_type bytes) (T.Str cx.hidden)) filled)

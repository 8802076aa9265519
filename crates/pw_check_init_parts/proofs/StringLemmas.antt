-- A string literal for an array of characters: the point of its escapes, and then its bytes.
use Rattle.std.proofs.Common.{◌≡◌, ℕ, ◌-◌, List, length, refl, arith}
use Rattle.std.proofs.lemmas.List.{length_push}
use Rattle.pw_check_literals.specs.Characters.{characters_of_strings, string_bytes_of}
use Rattle.pw_tree.specs.Trees.{Word}
use Rattle.pw_types.specs.TypeTrees.{QType}
use Rattle.pw_check_walk.specs.Walks.{Done, bind}
use Rattle.pw_check_rules.specs.States.{State}
use Rattle.pw_check_rules.specs.Leaves.{string_point, texts_of}
use Rattle.pw_check_rules.specs.Initialisers.{Context, Target, Filled, initialised_as, nothing_filled, object_string, string_filled, target_at, with_length}
use Rattle.pw_check_leaves.specs.Parts.{string_bytes_rule}
use Rattle.pw_check_init_parts.specs.Strings.{bytes_filled}

count : (texts : List (List ℕ)) → length (characters_of_strings texts) ≡ length (string_bytes_of texts) - 1
count texts = omega (arith, length_push (characters_of_strings texts) 0)

pub string_behind : (cx : Context) (ws : List Word) (t : Target) (filled : Filled) (s : State)
    → string_filled cx ws t filled s ≡ bind (string_bytes_rule ws s) (λ r. bytes_filled cx ws r.0 t filled r.1)
unfolding bind string_filled string_bytes_rule string_point bytes_filled
string_behind cx ws t filled s = rw (count (texts_of ws)) refl

pub object_behind : (cx : Context) (q : QType) (ws : List Word) (s : State)
    → object_string cx q ws s
    ≡ bind (string_bytes_rule ws s) (λ r. bind (bytes_filled cx ws r.0 (target_at q 0) nothing_filled r.1) (λ f. Done (initialised_as (with_length (length r.0) q) f.0, f.1)))
unfolding bind object_string string_filled string_bytes_rule string_point bytes_filled
object_behind cx q ws s = rw (count (texts_of ws)) refl

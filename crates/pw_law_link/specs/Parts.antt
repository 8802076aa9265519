-- What linking lays out in the memory: functions and global objects, wherever they come from.
use Rattle.std.specs.Prelude.{ℕ, ◌≡◌, ◌<◌, ◌^◌, None, List, map, Contains}
use Rattle.std.specs.List.{AllByRecursion, flat_map}
use Rattle.pw_value.specs.ProgramNames.{start_name}
use Rattle.pw_fields.specs.Fields.{FitsU32}
use Rattle.pw_flow.specs.ValidFlow.{IsGlobal}
use Rattle.pw_object.specs.declared.functions.ObjectFn.{ObjectFn}
use Rattle.pw_object.specs.declared.object.Object.{Object}
use Rattle.pw_link.specs.Linking.{size_fault}

abbrev pub HasWordsOf32Bits : ObjectFn → Type 0
HasWordsOf32Bits f = AllByRecursion FitsU32 f.words

-- The words of functions have 32 bits, the global objects are lawful, `$start` is one of the functions, and text and
-- memory are large enough. Nothing is said of modules: not of their names, nor of what they declare and use.
pub record AreLawfulParts (objects : List Object) (stack : ℕ) : Type 0 where
  pub words : AllByRecursion HasWordsOf32Bits (flat_map (λ o. o.functions) objects)
  pub globals : AllByRecursion IsGlobal (flat_map (λ o. o.globals) objects)
  pub start : Contains (map (λ f. f.name) (flat_map (λ o. o.functions) objects)) start_name
  pub fits : size_fault objects stack ≡ None
  pub small : stack < 2 ^ 32

-- The plain data that the head of a function's definition shows.
use Rattle.pw_check_state.specs.PhraseViews.{view_bindings}
use Rattle.pw_tree.specs.Views.{view_word}
use Rattle.pw_types.specs.Views.{view_qtype}
use Rattle.pw_check_heads.specs.Parts as part
use Rattle.pw_check_heads.specs.declared.heads.Head.{Head}

abbrev pub view_head : Head → part.Head
view_head h =
    record {
      word = view_word h.word.now;
      storage = h.storage;
      tag = h.tag;
      bindings = view_bindings h.bindings;
      ends = h.ends;
      ty = view_qtype h.ty;
    }

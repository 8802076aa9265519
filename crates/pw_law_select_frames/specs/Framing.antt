-- Where a function's words and slots stand in its frame.
use Rattle.std.specs.Prelude.{ℕ, ◌≡◌, ◌+◌, ◌*◌, ◌%◌, ◌<◌, ◌≤◌, Some, List, length, slice_get}
use Rattle.pw_value.specs.Objects.{Object}
use Rattle.pw_value.specs.Rounding.{slot_room}
use Rattle.pw_alloc.specs.declared.located.Place.{Place}
use Rattle.pw_alloc.specs.declared.located.Located.{Located}
use Rattle.pw_alloc.specs.Frames.{head_size, below}
use Rattle.pw_select.specs.Selection.{slot_offsets}
use Rattle.pw_run_languages.specs.Addresses.{Addresses}
use Rattle.pw_run_languages.specs.Serving.{Serves}
use Rattle.pw_law_select_states.specs.Frames.{HasFrame, words_size}
use Rattle.pw_law_select_frames.specs.Stack.{IsPlaceBelow}

-- behind the head and the saved registers
abbrev pub words_begin : Located → ℕ
words_begin f = head_size f.body + 4 * length f.saved

abbrev pub PlacesAreBelow : Type 0
PlacesAreBelow =
    (w : Addresses) (site : ℕ → ℕ) (objects : List Object) (f : Located) (top t : ℕ) (a : Place) → Serves f.body f → HasFrame w site objects f top
    → slice_get f.places t ≡ Some a → IsPlaceBelow w top (words_begin f) (words_size f) a

-- the sizes of a frame's parts
pub record IsSized (f : Located) : Type 0 where
  pub words : words_begin f ≤ words_size f
  pub frame : words_size f ≤ f.frame
  pub even : f.frame % 8 ≡ 0
  pub head : head_size f.body % 4 ≡ 0

abbrev pub FramesAreSized : Type 0
FramesAreSized = (f : Located) → Serves f.body f → IsSized f

-- a slot of a size, which ends so far below the end of the frame
pub record IsSlotAt (f : Located) (s size : ℕ) : Type 0 where
  pub far : ℕ
  pub is : slice_get (slot_offsets f) s ≡ Some (below far)
  pub low : words_size f + slot_room size ≤ far
  pub high : far ≤ f.frame
  pub even : far % 8 ≡ 0

abbrev pub SlotsStand : Type 0
SlotsStand = (f : Located) (s size : ℕ) → Serves f.body f → slice_get f.body.slots s ≡ Some size → IsSlotAt f s size

-- two slots have no byte in common
abbrev pub SlotsAreApart : Type 0
SlotsAreApart =
    (f : Located) (s t size other : ℕ) → Serves f.body f → s < t → slice_get f.body.slots s ≡ Some size → slice_get f.body.slots t ≡ Some other
    → (one : IsSlotAt f s size) (two : IsSlotAt f t other) → one.far + slot_room other ≤ two.far

-- Where the items of a function stand in the text of a running program.
use Rattle.std.specs.Prelude.{ℕ, ◌≡◌, ◌+◌, ◌*◌, ◌%◌, ◌<◌, ◌≤◌, List, ◌++◌}
use Rattle.pw_value.specs.Limits.{text_start}
use Rattle.pw_delay.specs.declared.items.Item.{Item}
use Rattle.pw_delay.specs.Placement.{sizes}
use Rattle.pw_run_languages.specs.LineRun.{LineFn}
use Rattle.pw_run_languages.specs.Words.{Text, StandsAt}
use Rattle.pw_law_link_run.specs.Steps.{Setting, fetched}

abbrev pub name_in : LineFn → List ℕ
name_in f = f.located.body.name

abbrev pub own_address : Setting → LineFn → ℕ
own_address x f = x.addresses.named (name_in f)

abbrev pub text_of : Setting → LineFn → Text
text_of x f = record {
  fetch = fetched x;
  addresses = x.addresses;
  name = name_in f;
  mark = x.mark (name_in f);
  long = x.long (name_in f);
}

-- how many words items take
abbrev pub words_of : Setting → LineFn → List Item → ℕ
words_of x f items = sizes (x.long (name_in f)) items

-- the items of a function stand at its address, and the text goes on behind them
pub record Stands (x : Setting) (f : LineFn) : Type 0 where
  pub items : StandsAt (text_of x f) (own_address x f) f.items
  pub aligned : own_address x f % 4 ≡ 0
  pub above : text_start ≤ own_address x f
  pub below : own_address x f + 4 * words_of x f f.items < text_start + 4 * x.start.core.text

-- a place among the items
abbrev pub Parts : LineFn → List Item → List Item → Type 0
Parts f before left = f.items ≡ before ++ left

-- what is left of a function's items stands at an address
pub record IsLeft (x : Setting) (f : LineFn) (left : List Item) (a : ℕ) : Type 0 where
  pub before : List Item
  pub items : f.items ≡ before ++ left
  pub at : a ≡ own_address x f + 4 * words_of x f before

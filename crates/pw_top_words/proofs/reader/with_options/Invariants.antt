use Rattle.std.proofs.Common.{◌≡◌, false, map, take}
use Rattle.clap.specs.Simple.{app_of}
use Rattle.pw_top_words.specs.Reading.{app_for}
use Rattle.pw_top_words.proofs.reader.with_options.Given as goal

abbrev pub invariant-loop-option : goal.invariant-loop-option
invariant-loop-option l = app_of l.command ≡ app_for (map (λ o. o.now) (take l.option-index l.options)) false

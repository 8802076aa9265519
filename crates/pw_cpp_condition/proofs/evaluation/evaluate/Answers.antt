use Rattle.std.proofs.Common.{◌≡◌, List, [], Option, Some, None, Result, Ok, Err, IfOk, sym, ◌∙◌}
use Rattle.std.specs.declared.alloc.AllocError.{AllocError}
use Rattle.pw_cpp_values.specs.declared.arithmetic.Number.{Number}
use Rattle.pw_cpp_condition.specs.Grammar.{AnswersItems, Means}
use Rattle.pw_cpp_condition.specs.Machine.{run}
use Rattle.pw_cpp_condition.specs.declared.word.Item.{Item}
use Rattle.pw_cpp_condition.proofs.Complete.{means-run}
use Rattle.pw_cpp_condition.proofs.Sound.{run-means}
use Rattle.pw_cpp_condition.proofs.evaluation.evaluate.Goals as goal

none_some : {A : Type 0} {x : A} → None ≡ Some x → ⊥
none_some e = cc

answered : (items : List Item) (found : Option Number) → found ≡ run None [] items → AnswersItems items found
answered items (Some number) e = run-means items number (sym e)
answered items None e = λ number h. none_some (e ∙ means-run items number h)

by_result : (items : List Item) (r : Result (Option Number) AllocError) → IfOk r (λ found. found ≡ run None [] items) → IfOk r (AnswersItems items)
by_result items (Ok found) h = answered items found h
by_result items (Err fault) h = tt

pub returns : goal.returns
returns c = by_result c.args.items.now c.run.result c.run.ensures

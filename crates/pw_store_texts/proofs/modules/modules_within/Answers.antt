use Rattle.std.proofs.Common.{map, arith}
use Rattle.std.proofs.lemmas.Result.{IfOk-weaker}
use Rattle.pw_store_modules.specs.Views.{source}
use Rattle.pw_store_texts.proofs.CrowdLemmas.{clear_all, crowded_all}
use Rattle.pw_store_texts.proofs.modules.modules_within.Goals as goal

pub returns-then-bytes-gt-TEXTS_LIMIT : goal.returns-then-bytes-gt-TEXTS_LIMIT
returns-then-bytes-gt-TEXTS_LIMIT c = λ files e.
    IfOk-weaker c.refused_modules.result _ _ (λ all h. crowded_all files c.args.bytes (map source c.args.modules.items) (map source all.items) e (omega arith) h) c.refused_modules.ensures

pub returns-else-bytes-gt-TEXTS_LIMIT : goal.returns-else-bytes-gt-TEXTS_LIMIT
returns-else-bytes-gt-TEXTS_LIMIT c = λ files e. clear_all files c.args.bytes (map source c.args.modules.items) e (omega arith)

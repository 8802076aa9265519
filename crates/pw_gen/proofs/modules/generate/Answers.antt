use Rattle.std.proofs.Common.{ap, ◌*◌, ◌∙◌, arith, rules}
use Rattle.std.proofs.lemmas.List.{map-append}
use Rattle.std.proofs.lemmas.List.FromFn.{map-range_with_len_more}
use Rattle.pw_gen.specs.Generator.{after, functions_of_a_module, module_of}
use Rattle.pw_gen.proofs.Steps.{module_more, nothing_before}
use Rattle.pw_gen.proofs.modules.generate.Goals as goal

pub loop-k-init : goal.loop-k-init
loop-k-init c = record { made = search rules; drawn = nothing_before c.args.number }

pub loop-k-preserved : goal.loop-k-preserved
loop-k-preserved c =
    let text = c.in_ok-text.ensures.text c.args.number c.loop-k.invariant.drawn in
    let more = map-range_with_len_more (module_of c.args.number c.from-modules.result) 0 c.loop-k.k c.loop-k.k (omega arith) in
    record {
      made = search (rules, map-append);
      drawn = c.in_ok-text.ensures.state ∙ ap (after (3 * functions_of_a_module)) c.loop-k.invariant.drawn ∙ module_more c.loop-k.k c.args.number;
    }

use Rattle.std.proofs.Common.{◌<◌, ◌+◌, ◌*◌, length, ap, ◌∙◌, arith}
use Rattle.pw_value.specs.Limits.{text_start}
use Rattle.pw_inst.specs.InstructionTable.{decoded}
use Rattle.pw_machine.specs.Core.{Core, word_at}
use Rattle.pw_machine.proofs.Text.{text_entry}
use Rattle.pw_machine.proofs.processor.Processor.instruction_at.Goals as goal

pub index-requires : goal.index-requires
index-requires c = omega (arith, c.requires.above, c.requires.below, ap (λ (p : Core). p.text) c.self.view_is, c.self.invariant.4)

pub returns-clause-table : goal.returns-clause-table
returns-clause-table c =
    let p = c.self.inside in
    let below : c.args.a < text_start + 4 * length p.code.items = omega (arith, c.requires.below, ap (λ (p : Core). p.text) c.self.view_is, c.self.invariant.4, p.code.ok.0) in
    (text_entry p.memory p.code.items c.args.a c.index.result.now c.self.invariant.6 c.requires.aligned c.requires.above below c.index.ensures).0
    ∙ ap (λ (p : Core). decoded (word_at p.memory c.args.a)) c.self.view_is

pub returns-clause-in_range : goal.returns-clause-in_range
returns-clause-in_range c =
    let p = c.self.inside in
    let below : c.args.a < text_start + 4 * length p.code.items = omega (arith, c.requires.below, ap (λ (p : Core). p.text) c.self.view_is, c.self.invariant.4, p.code.ok.0) in
    (text_entry p.memory p.code.items c.args.a c.index.result.now c.self.invariant.6 c.requires.aligned c.requires.above below c.index.ensures).1

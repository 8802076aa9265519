use Rattle.std.proofs.Common.{◌≡◌, List, ℕ, refl, sym, ap, subst, ◌∙◌, arith, length}
use Rattle.pw_value.specs.Limits.{text_start, memory_size}
use Rattle.pw_machine.specs.Start.{bytes_of}
use Rattle.pw_machine.specs.Decoded.{IsTextOf}
use Rattle.pw_machine.proofs.Memories.{length-bytes_of, length-zeros, length-start_memory, start_memory_is, start_core_is}
use Rattle.pw_machine.proofs.Loaded.{length-overwritten}
use Rattle.pw_machine.proofs.Text.{text_at_start}
use Rattle.pw_machine.proofs.processor.Processor.start.Goals as goal

pub put_words-requires-clause-within : goal.put_words-requires-clause-within
put_words-requires-clause-within c = omega (arith, ap length c.in_ok-memory.ensures, length-zeros memory_size, c.requires.few_words)

pub put_items-requires-clause-room : goal.put_items-requires-clause-room
put_items-requires-clause-room c =
    let words = c.args.words.now in
    let blank : length c.in_ok-memory.memory ≡ memory_size = ap length c.in_ok-memory.ensures ∙ length-zeros memory_size in
    let text = length-overwritten c.in_ok-memory.memory text_start (bytes_of words) (omega (arith, blank, length-bytes_of words, c.requires.few_words)) in
    omega (arith, ap length c.put_words.ensures, text, blank, c.data_start-data_start.ensures, c.requires.data_fits)

pub invariant_of-result : goal.invariant_of-result
invariant_of-result c =
    let words = c.args.words.now in
    let items = c.args.items.now in
    let memory = start_memory_is _ _ _ words items c.data_start-data_start.result c.in_ok-memory.ensures c.put_words.ensures c.put_items.ensures c.data_start-data_start.ensures in (
      refl,
      omega arith,
      ap length memory ∙ length-start_memory words c.args.data_size items c.requires.few_words c.requires.data_fits c.requires.items,
      omega (arith, c.requires.few_words),
      c.in_ok-code.ensures.count,
      omega (arith, c.data_start-data_start.ensures),
      subst (λ (m : List ℕ). IsTextOf m c.in_ok-code.code.items) (sym memory)
          (text_at_start words items c.in_ok-code.code.items c.requires.few_words (λ i lt. omega (arith, c.type_inv.words i)) c.in_ok-code.ensures.entries),
    )

pub returns : goal.returns
returns c =
    let words = c.args.words.now in
    let items = c.args.items.now in
    let memory = start_memory_is _ _ _ words items c.data_start-data_start.result c.in_ok-memory.ensures c.put_words.ensures c.put_items.ensures c.data_start-data_start.ensures in
    start_core_is c.args.entry words c.args.data_size items _ c.data_start-data_start.result c.stack_start.result memory c.data_start-data_start.ensures c.stack_start.ensures

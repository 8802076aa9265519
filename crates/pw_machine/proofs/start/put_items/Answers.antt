use Rattle.std.proofs.Common.{◌≡◌, ℕ, suc, ◌+◌, ◌≤◌, List, length, take, sym, ap, subst, ◌∙◌, arith, add-one}
use Rattle.pw_image.specs.declared.image.DataItem.{DataItem}
use Rattle.pw_machine.specs.Start.{overwritten, with_items}
use Rattle.pw_machine.proofs.Items.{with_items-more, items_within}
use Rattle.pw_machine.proofs.Loaded.{length-overwritten}
use Rattle.pw_machine.proofs.start.put_items.Goals as goal

pub put_bytes-requires-clause-within : goal.put_bytes-requires-clause-within
put_bytes-requires-clause-within c =
    let item = c.item-item.result in
    let fits : item.offset + length item.bytes ≤ c.args.size =
    subst (λ (i : DataItem). i.offset + length i.bytes ≤ c.args.size) (sym c.item-item.is) (items_within c.args.size 0 c.args.items.now c.requires.items c.loop-item.item-index item c.loop-item-test.true) in
    omega (arith, fits, ap length c.as_slice.ensures, c.loop-item.invariant.1, c.requires.room)

pub put_bytes-requires-clause-reached : goal.put_bytes-requires-clause-reached
put_bytes-requires-clause-reached c =
    let item = c.item-item.result in
    let fits : item.offset + length item.bytes ≤ c.args.size =
    subst (λ (i : DataItem). i.offset + length i.bytes ≤ c.args.size) (sym c.item-item.is) (items_within c.args.size 0 c.args.items.now c.requires.items c.loop-item.item-index item c.loop-item-test.true) in
    omega (arith, fits, ap length c.as_slice.ensures, c.requires.reached)

pub loop-item-preserved : goal.loop-item-preserved
loop-item-preserved c =
    let item = c.item-item.result in
    let k = c.loop-item.item-index in
    let at = c.args.at + item.offset in
    let items = c.args.items.now in
    let fits : item.offset + length item.bytes ≤ c.args.size =
    subst (λ (i : DataItem). i.offset + length i.bytes ≤ c.args.size) (sym c.item-item.is) (items_within c.args.size 0 items c.requires.items k item c.loop-item-test.true) in
    let so_far = with_items c.args.memory.now c.args.at (take k items) in
    let more : with_items c.args.memory.now c.args.at (take (suc k) items) ≡ overwritten so_far at item.bytes =
    subst (λ (i : DataItem). with_items c.args.memory.now c.args.at (take (suc k) items) ≡ overwritten so_far (c.args.at + i.offset) i.bytes) (sym c.item-item.is)
    (with_items-more c.args.memory.now c.args.at items k item c.loop-item-test.true) in
    let put : c.put_bytes.new.self ≡ overwritten c.loop-item.memory at item.bytes =
    c.put_bytes.ensures ∙ ap (λ (bytes : List ℕ). overwritten c.loop-item.memory at bytes) c.as_slice.ensures in (
      put
          ∙ ap (λ (memory : List ℕ). overwritten memory at item.bytes) c.loop-item.invariant.0
          ∙ sym more
          ∙ ap (λ (n : ℕ). with_items c.args.memory.now c.args.at (take n items)) (sym (add-one k)),
      ap length put
          ∙ length-overwritten c.loop-item.memory at item.bytes (omega (arith, fits, c.loop-item.invariant.1, c.requires.room))
          ∙ c.loop-item.invariant.1,
    )

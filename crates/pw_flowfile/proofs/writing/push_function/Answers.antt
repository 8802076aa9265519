use Rattle.std.proofs.Common.{◌≡◌, ◌++◌, [], length}
use Rattle.std.specs.List.{flat_map}
use Rattle.std.proofs.lemmas.Result.{on_ok_weaker}
use Rattle.pw_fields.specs.Fields.{u32, text}
use Rattle.pw_fields.specs.FieldNames.{name_index}
use Rattle.pw_flowfile.specs.FlowFile.{block}
use Rattle.pw_flowfile.proofs.WritingLemmas.{put, last_put}
use Rattle.pw_flowfile.proofs.writing.push_function.Goals as goal

pub returns : goal.returns
returns c =
    let names = c.args.names.now in
    let f = c.args.function.now in
    let out = c.push_blocks.new.out.items in
    let bs = flat_map (block names) f.blocks in
    let r4 = u32 (length f.blocks) ++ (bs ++ []) in
    let r3 = flat_map u32 f.slots ++ r4 in
    let r2 = u32 (length f.slots) ++ r3 in
    let r1 = u32 f.temps ++ r2 in
    let r0 = u32 f.params ++ r1 in
    let e1 : c.push_bytes.new.out.items ≡ c.push_name.new.out.items ++ text f.shape = rw c.as_bytes.ensures at c.in_ok-push_bytes.ensures.written in
    let e4 : c.push_count.new.out.items ≡ c.push_u32-2.new.out.items ++ u32 (length f.slots) = rw c.len.ensures at c.in_ok-push_count.ensures.written in
    let e5 : c.push_words.new.out.items ≡ c.push_count.new.out.items ++ flat_map u32 f.slots = rw c.as_slice.ensures at c.in_ok-push_words.ensures in
    let e6 : c.push_count-2.new.out.items ≡ c.push_words.new.out.items ++ u32 (length f.blocks) = rw c.len-2.ensures at c.in_ok-push_count-2.ensures.written in
    on_ok_weaker c.push_blocks.result (λ d. put c.args.out.now.items c.push_name.new.out.items out (name_index names f.name) (text f.shape ++ r0) c.in_ok-push_name.ensures
    (put c.push_name.new.out.items c.push_bytes.new.out.items out (text f.shape) r0 e1
    (put c.push_bytes.new.out.items c.push_u32.new.out.items out (u32 f.params) r1 c.in_ok-push_u32.ensures
    (put c.push_u32.new.out.items c.push_u32-2.new.out.items out (u32 f.temps) r2 c.in_ok-push_u32-2.ensures
    (put c.push_u32-2.new.out.items c.push_count.new.out.items out (u32 (length f.slots)) r3 e4
    (put c.push_count.new.out.items c.push_words.new.out.items out (flat_map u32 f.slots) r4 e5
    (put c.push_words.new.out.items c.push_count-2.new.out.items out (u32 (length f.blocks)) (bs ++ []) e6
    (last_put c.push_count-2.new.out.items out bs (rw c.as_slice-2.ensures at d))))))))) c.push_blocks.ensures

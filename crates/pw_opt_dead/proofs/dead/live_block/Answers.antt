use Rattle.std.proofs.Common.{◌≡◌, ◌∙◌, ◌||◌, ◌++◌, ℕ, Bool, List, length, take, drop, vec_len, ap, sym}
use Rattle.std.specs.List.{list_any}
use Rattle.pw_flow.specs.Outline.{Stretch}
use Rattle.pw_live.specs.Liveness.{has, is_live_in, is_live}
use Rattle.pw_opt_dead.specs.Marks.{is_marked}
use Rattle.pw_opt_dead.proofs.Marking.{all_written, none_left}
use Rattle.pw_opt_dead.proofs.dead.live_block.Goals as goal

pub returns-clause-none : goal.returns-clause-none
returns-clause-none c = λ f are at t.
    let s = c.args.stretch.now in
    let v = c.args.room.now.live in
    let n = vec_len v in
    let one = c.mark_end.new.live in
    let two = c.kept_ops.new.live in
    let three = c.unmark_front.new.live in
    let items1 = take n (one ++ drop (length one) v.items) in
    let items2 = take n (two ++ drop (length two) items1) in
    let long1 : length one ≡ n = c.mark_end.ensures.length ∙ c.deref_mut.ensures.len in
    let written1 : items1 ≡ one = all_written n one v.items long1 (sym v.ok.0) in
    let long2 : length two ≡ n = c.kept_ops.ensures.length ∙ c.deref_mut-2.ensures.len in
    let written2 : items2 ≡ two = all_written n two items1 long2 (ap (λ (xs : List Bool). length xs) written1 ∙ long1) in
    let long3 : length three ≡ n = c.unmark_front.ensures.length ∙ c.deref_mut-3.ensures.len in
    let written3 = all_written n three items2 long3 (ap (λ (xs : List Bool). length xs) written2 ∙ long2) in
    let point = c.longer_paths_add_nothing.ensures.point f t c.args.place s at in
    let live = c.in_ok-kept.ensures.live f c.args.block (λ u.
    ap (λ (xs : List Bool). is_marked xs u) (c.deref_mut-2.ensures.value ∙ written1)
    ∙ c.in_ok-mark_end.ensures.marks f are u ∙ ap (λ (us : List ℕ). has u us || list_any (is_live_in f u) c.next.result.now) c.uses.ensures
    ∙ ap (λ (bs : List ℕ). has u s.uses || list_any (is_live_in f u) bs) c.next.ensures ∙ ap (λ (x : Stretch). has u x.uses || list_any (is_live_in f u) x.next) c.requires.stretch) t in
    ap (λ (xs : List Bool). is_marked xs t) written3
    ∙ none_left (is_live_in f t c.args.place) (is_marked c.deref_mut-3.result.now t) (is_marked three t)
    (ap (λ (xs : List Bool). is_marked xs t) (c.deref_mut-3.ensures.value ∙ written2) ∙ live ∙ ap (λ (x : Stretch). is_live f t x.acts x.uses x.next) (sym c.requires.stretch) ∙ sym point)
    (c.in_ok-unmark_front.ensures.marks f are t)

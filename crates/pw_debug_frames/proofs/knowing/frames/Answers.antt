use Rattle.std.proofs.Common.{List, [], ◌∷◌, ◌++◌, ◌-◌, length, take, drop, sym, ap, subst, ◌∙◌, append_assoc, append-nil}
use Rattle.std.specs.List.{AllByRecursion}
use Rattle.pw_object.specs.declared.object.Object.{Object}
use Rattle.pw_debug.specs.declared.info.FrameInfo.{FrameInfo}
use Rattle.pw_debug_frames.specs.Frames.{AreFrames, no_object, next_object, IsMade}
use Rattle.pw_debug_frames.proofs.FrameLemmas.{front_and_rest, no_item}
use Rattle.pw_debug_frames.proofs.knowing.frames.Goals as goal

pub loop-rest-preserved : goal.loop-rest-preserved
loop-rest-preserved c =
    let r = c.loop-rest.rest.now in
    let o = c.object-item.result in
    let e = front_and_rest r o c.in-len1-up.len_at_least c.object-item.is in
    let added = c.in_ok-add_frames.ensures.value in
    let made = subst (AllByRecursion IsMade) e c.loop-rest.invariant.made in
    record {
      made = made.1;
      lawful = c.in_ok-add_frames.ensures.lawful;
      value = λ behind are.
          let whole = c.loop-rest.invariant.value (added.0 ++ behind) (subst (λ (os : List Object). AreFrames os (added.0 ++ behind)) (sym e) (next_object o (take (length r - 1) (drop 1 r)) added.0 behind added.1 are)) in
          subst (AreFrames c.args.objects.now) (sym (append_assoc c.loop-rest.frames added.0 behind) ∙ ap (λ (fs : List FrameInfo). fs ++ behind) (sym added.2)) whole;
    }

pub returns-clause-value : goal.returns-clause-value
returns-clause-value c =
    let e = no_item c.loop-rest.rest.now c.in_default.len_below in
    subst (AreFrames c.args.objects.now) (append-nil c.loop-rest.frames) (c.loop-rest.invariant.value [] (subst (λ (os : List Object). AreFrames os []) (sym e) no_object))

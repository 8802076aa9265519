use Rattle.std.proofs.Common.{◌++◌, ◌∷◌, [], ◌∙◌, List, ap, append_assoc, arith, sym}
use Rattle.std.proofs.lemmas.List.{append-nil}
use Rattle.std.proofs.lemmas.Option.{MatchOption-at_some, MatchOption-at_none}
use Rattle.pw_fix.specs.Row.{Holds}
use Rattle.pw_webs.specs.declared.web.RawWeb.{RawWeb}
use Rattle.pw_webs.specs.Webs.{IsNextWeb}
use Rattle.pw_webs.proofs.Gather.{none_gathered, gather_skip, gather_put, gather_end}
use Rattle.pw_webs.proofs.parts.add_webs.Goals as goal
use Rattle.pw_webs.proofs.parts.add_webs.Goals.{in-Some+in_ok-push-in-Some, in-None}

pub loop-root-init : goal.loop-root-init
loop-root-init c = record { same = c.in_ok-done.ensures.length; gathered = ([], sym (append-nil c.args.found.now.items), none_gathered c.args.graph.now c.args.global c.in_ok-done.done c.in_ok-done.ensures.empty) }

pub loop-root-preserved : goal.loop-root-preserved
loop-root-preserved c =
    let g = c.args.graph.now in
    let v = c.args.global in
    let root = c.loop-root.root in
    let done = c.loop-root.done in
    let region = c.args.region.now in
    let first = c.args.found.now.items in
    let k = c.loop-root.invariant.gathered in
    let same = c.loop-root.invariant.same in
    elim c.match-branch-3.branch [
      | in-Some+in_ok-push-in-Some w ↦
          let web = w.in-Some.web in
          let next = MatchOption-at_some (Holds region root → Holds done root) (IsNextWeb g v done root) web w.in-Some.is c.in_ok-web.ensures in
          rw (w.found-is, w.done-is) (record {
            same = w.union_with.ensures.length ∙ same;
            gathered = (
              k.0 ++ web ∷ [],
              w.in_ok-push-in-Some.ensures.items ∙ ap (λ (ws : List RawWeb). ws ++ web ∷ []) k.1 ∙ append_assoc first k.0 (web ∷ []),
              gather_put g v root k.0 done w.union_with.new.self web k.2 next w.union_with.ensures.holds,
            );
          })
      | in-None w ↦
          let here = MatchOption-at_none (Holds region root → Holds done root) (IsNextWeb g v done root) w.in-None.is c.in_ok-web.ensures in
          rw (w.found-is, w.done-is) (record { same = same; gathered = (k.0, k.1, gather_skip g v root k.0 done k.2 (λ r. here ((c.requires.region root).1 r))) })
    ]

pub returns : goal.returns
returns c =
    let k = c.loop-root.invariant.gathered in
    let few = k.2.count in
    let low = c.loop-root.auto.root-end in
    let size = c.requires.count in
    (k.0, k.1, gather_end c.args.graph.now c.args.global c.loop-root.root k.0 c.loop-root.done c.args.region.now c.requires.region c.loop-root-test.false k.2, omega (arith, few, low, size))

use Rattle.std.proofs.Common.{ℕ, List, subst, sym}
use Rattle.std.specs.Prelude.{◌↔◌}
use Rattle.pw_fix.specs.Row.{Holds}
use Rattle.pw_fix.specs.declared.bit_row.BitRow.{BitRow}
use Rattle.pw_webs.specs.Walking.{AreSteps, Part}
use Rattle.pw_webs.proofs.WalkLaws.{clash}
use Rattle.pw_webs.proofs.RegionLaws.{steps_both}
use Rattle.pw_webs.proofs.PartLaws.{part_is}
use Rattle.pw_webs.proofs.parts.next_web.Goals as goal

pub part-requires-clause-steps : goal.part-requires-clause-steps
part-requires-clause-steps c =
    let b = c.args.beside.now in
    subst AreSteps (sym c.deref.ensures.value) (steps_both c.args.graph.now c.requires.graph b.both.items c.requires.beside.both c.requires.beside.count_both)

pub returns : goal.returns
returns c =
    let g = c.args.graph.now in
    let v = c.args.global in
    let b = c.args.beside.now in
    let region = c.args.region.now in
    let root = c.args.root in
    let members = c.in_ok-members.members in
    let parts = subst (λ (rows : List (List ℕ)). (f : ℕ) → Holds members f ↔ Part rows region root f) c.deref.ensures.value c.in_ok-members.ensures.holds in
    let same = c.in_ok-web_of.ensures.same in
    let joined = part_is g v b.both.items b.callers.items region c.requires.beside.both c.requires.beside.callers c.requires.region root in
    record {
      web = c.in_ok-web_of.ensures.web;
      of = λ f. (
        λ h. (joined f).0 ((parts f).0 (subst (λ (m : BitRow). Holds m f) same h)),
        λ j. subst (λ (m : BitRow). Holds m f) (sym same) ((parts f).1 ((joined f).1 j)),
      );
      free = λ h. clash c.contains-2.result c.if-contains.false (c.contains-2.ensures.1 h);
      within = (c.requires.region root).0 (c.contains.ensures.0 c.if-not-contains.false);
    }

use Rattle.std.proofs.Common.{◌≡◌, ◌≤◌, ◌∙◌, ℕ, List, ap, arith, length, refl, rules, subst}
use Rattle.std.specs.List.{sum_by}
use Rattle.std.proofs.lemmas.Int.{to_z-of_z}
use Rattle.pw_fix.specs.Row.{members as numbers}
use Rattle.pw_fix.specs.RowLaws.{members_fit}
use Rattle.pw_graph.proofs.Members.{members_below}
use Rattle.pw_webs.specs.Webs.{weight, entry_cost}
use Rattle.pw_webs.specs.Walking.{AreEntries}
use Rattle.pw_webs.proofs.PartLaws.{is_web, writes_iff, priority_is}
use Rattle.pw_webs.proofs.parts.web_of.Goals as goal
use mir.Val.{SFits}
use mir.Syntax.{w64}

pub entries-requires-clause-places : goal.entries-requires-clause-places
entries-requires-clause-places c =
    let same = c.requires.places in
    members_below c.args.members c.deref-2.result.now c.args.region.now.len (omega (arith, same)) (c.deref-2.ensures.value ∙ c.in_ok-places.ensures)

pub is_written-writes-requires-clause-places : goal.is_written-writes-requires-clause-places
is_written-writes-requires-clause-places c =
    let same = c.requires.places in
    let size = c.requires.count in
    members_below c.args.members c.deref-3.result.now (length c.args.graph.now.functions) (omega (arith, same, size)) (c.deref-3.ensures.value ∙ c.in_ok-places.ensures)

pub total-requires-clause-places : goal.total-requires-clause-places
total-requires-clause-places c =
    let same = c.requires.places in
    let size = c.requires.count in
    members_below c.args.members c.deref-4.result.now (length c.args.graph.now.functions) (omega (arith, same, size)) (c.deref-4.ensures.value ∙ c.in_ok-places.ensures)

pub total-requires-clause-count : goal.total-requires-clause-count
total-requires-clause-count c =
    let members = c.args.members in
    let same = c.requires.places in
    let size = c.requires.count in
    let count : length c.deref-4.result.now ≡ length (numbers members) = ap length (c.deref-4.ensures.value ∙ c.in_ok-places.ensures) in
    let fit : length (numbers members) ≤ members.len = members_fit members.len members refl in
    omega (arith, count, fit, same, size)

pub saved-priority-requires-clause-entries : goal.saved-priority-requires-clause-entries
saved-priority-requires-clause-entries c =
    let entries = c.in_ok-entries.entries in
    let fit : length (numbers entries) ≤ entries.len = members_fit entries.len entries refl in
    let count : length c.in_ok-numbers.field-0.items ≡ length (numbers entries) = ap length c.in_ok-numbers.ensures in
    let entered = c.len-entered.ensures in
    let long = c.in_ok-numbers.field-0.ok.0 in
    let same = c.in_ok-entries.ensures.length in
    let size = c.requires.count in
    let few = c.requires.graph.functions in
    omega (arith, fit, count, entered, long, same, size, few)

pub returns-clause-web : goal.returns-clause-web
returns-clause-web c =
    let g = c.args.graph.now in
    let v = c.args.global in
    let b = c.args.beside.now in
    let region = c.args.region.now in
    let members = c.args.members in
    let entries = c.in_ok-entries.entries in
    let listed = c.deref-2.ensures.value ∙ c.in_ok-places.ensures in
    let seen = subst (λ (rows : List (List ℕ)). AreEntries rows region c.deref-2.result.now entries) c.deref.ensures.value c.in_ok-entries.ensures.entries in
    let are = subst (λ (ps : List ℕ). AreEntries b.callers.items region ps entries) listed seen in
    let fits : SFits w64 c.saved-priority.result = search rules in
    let entered = c.len-entered.ensures in
    let long = c.in_ok-numbers.field-0.ok.0 in
    let count : length c.in_ok-numbers.field-0.items ≡ length (numbers entries) = ap length c.in_ok-numbers.ensures in
    record {
      raw = record {
        global = c.requires.global;
        member_places = c.requires.places ∙ c.requires.count;
        entry_places = c.in_ok-entries.ensures.length ∙ c.requires.count;
        web = is_web g v b.both.items b.callers.items region c.requires.beside.both c.requires.beside.callers c.requires.region c.args.root members entries c.requires.root c.requires.members are;
        writes = writes_iff g v members c.deref-3.result.now c.is_written-writes.result (c.deref-3.ensures.value ∙ c.in_ok-places.ensures) c.is_written-writes.ensures;
        priority = priority_is _ c.saved-priority.result (entry_cost c.is_written-writes.result) c.len-entered.result (length (numbers entries)) c.total.result (sum_by (weight g v) (numbers members)) (to_z-of_z w64 c.saved-priority.result fits) c.saved-priority.ensures
            (omega (arith, entered, long, count)) (c.total.ensures.sum ∙ ap (λ (ps : List ℕ). sum_by (weight g v) ps) (c.deref-4.ensures.value ∙ c.in_ok-places.ensures));
      };
      its = refl;
    }

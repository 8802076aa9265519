use Rattle.std.proofs.Common.{◌≡◌, ◌<◌, ◌∙◌, List, ℕ, arith, length, get_or, refl, subst, sym}
use Rattle.std.specs.Prelude.{Some, slice_get}
use Rattle.std.proofs.lemmas.Option.{slice_get_read}
use Rattle.pw_webs.proofs.WalkLaws.{item_at}
use Rattle.pw_webs.proofs.Gather.{no_entries, entry_put, entries_end}
use Rattle.pw_webs.proofs.parts.entries.Goals as goal

pub loop-place-init : goal.loop-place-init
loop-place-init c = record { same = c.in_ok-found.ensures.length; entries = no_entries c.args.callers.now c.args.region.now c.in_ok-found.found c.in_ok-found.ensures.empty }

pub bounds-callers-place : goal.bounds-callers-place
bounds-callers-place c = let lt = c.requires.places c.loop-place.place-index 0 c.loop-place-test.true in let size = c.requires.rows in omega (arith, lt, size)

pub add_entry-requires : goal.add_entry-requires
add_entry-requires c = let lt = c.requires.places c.loop-place.place-index 0 c.loop-place-test.true in let same = c.loop-place.invariant.same in omega (arith, lt, same)

pub loop-place-preserved : goal.loop-place-preserved
loop-place-preserved c =
    let callers = c.args.callers.now in
    let ps = c.args.members.now in
    let i = c.loop-place.place-index in
    let p = get_or ps i 0 in
    let row = c.index-callers-place.result in
    let below = c.requires.places i 0 c.loop-place-test.true in
    let size = c.requires.rows in
    let lt : p < length callers = omega (arith, below, size) in
    let there = slice_get_read callers (length callers) p row refl lt c.index-callers-place.is in
    record {
      same = c.add_entry.ensures.length ∙ c.loop-place.invariant.same;
      entries = entry_put callers c.args.region.now ps i p c.as_slice.result.now c.loop-place.found c.add_entry.new.found c.loop-place-test.true (item_at ps i 0 c.loop-place-test.true)
          (subst (λ (r : List ℕ). slice_get callers p ≡ Some r) (sym c.as_slice.ensures) there) c.loop-place.invariant.entries c.add_entry.ensures.kept c.add_entry.ensures.added c.add_entry.ensures.others;
    }

pub returns-clause-entries : goal.returns-clause-entries
returns-clause-entries c = entries_end c.args.callers.now c.args.region.now c.args.members.now c.loop-place.place-index c.loop-place.found c.loop-place-test.false c.loop-place.invariant.entries

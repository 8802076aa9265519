-- The lines of a function whose places serve it are ready for words.
use Rattle.std.proofs.Common.{◌≡◌, ℕ, zero, suc, ◌+◌, ◌*◌, ◌^◌, ◌≤◌, ◌<◌, List, [], ◌∷◌, map, length, get_or, refl, sym, ap, subst, ◌∙◌, arith}
use Rattle.std.specs.Prelude.{Contains}
use Rattle.std.specs.List.{AllByRecursion}
use Rattle.pw_files.proofs.Standing.{has_by}
use Rattle.pw_db.specs.Limits.{first_register, last_register, register_count}
use Rattle.pw_db.specs.Database.{EachTwo, IsDirectives, IsWeb}
use Rattle.pw_db.specs.declared.database.Web.{Web}
use Rattle.pw_db.specs.declared.database.Role.{Role}
use Rattle.pw_db.specs.declared.database.Role.TheVariants.{Entry}
use Rattle.pw_db.proofs.Keeping.{kept_from}
use Rattle.pw_webflow.specs.declared.web.WebFn.{WebFn}
use Rattle.pw_webflow.specs.ValidWebs.{IsWebFn}
use Rattle.pw_webflow.specs.Direction.{directed}
use Rattle.pw_webflow.proofs.DirectionLaws.{directed_lawful}
use Rattle.pw_alloc.specs.declared.located.Place.{Place}
use Rattle.pw_alloc.specs.declared.located.Place.TheVariants.{Slot, Reg}
use Rattle.pw_alloc.specs.declared.located.Located.{Located}
use Rattle.pw_alloc.specs.Allocation.{slots_from, in_frame}
use Rattle.pw_alloc.specs.Frames.{below, head_size, slots_begin, last_reach, reaches_from}
use Rattle.pw_alloc.proofs.FrameLaws.{frame_fits}
use Rattle.pw_select_lines.proofs.Placeable.{Fits, below_fits, PlaceGood}
use Rattle.pw_select_lines.specs.Operations.{Layout, layout}
use Rattle.pw_select.specs.Selection.{slot_offsets}
use Rattle.pw_select.proofs.PlaceableFn.{Good, LayoutGood, all_below_fit, selected_good}
use Rattle.pw_alloc.proofs.SavedLaws.{few_between}
use Rattle.pw_run_languages.specs.Serving.{slots_alone, Changes, places, enters, saves, Serves}
use Rattle.pw_run_languages.specs.CodeStands.{AreReady, SelectionIsReady}
use Rattle.pw_law_code.proofs.SelectedLines.{ready_by}

-- ---- saved registers

each : (P : ℕ → Type 0) (rs : List ℕ) → ((r : ℕ) → Contains rs r → P r) → AllByRecursion P rs
each P [] all = tt
each P (r ∷ rs) all = (all r (0, omega arith, refl), each P rs (λ q c. all q (suc c.0, omega (arith, c.1), c.2)))

web_is : (webs : List (Web × Role)) (k : ℕ) (w : Web × Role) → AllByRecursion IsWeb (map (λ w. w.0) webs) → k < length webs → get_or webs k w ≡ w → IsWeb w.0
web_is [] k w all lt e = absurd (omega (arith, lt))
web_is (x ∷ rest) zero w all lt e = subst (λ (y : Web × Role). IsWeb y.0) e all.0
web_is (x ∷ rest) (suc k) w all lt e = web_is rest k w all.1 (omega (arith, lt)) e

register_between : (f : WebFn) (l : Located) → IsWebFn f → Serves f l → (r : ℕ) → Changes f l r → (first_register ≤ r) × (r ≤ last_register)
register_between f l is serves r (places c small apart) = let h = (serves.registers r c).0.low in (h, small)
register_between f l is serves r (saves c) = kept_from first_register f.directives.saves r is.directives.saves (has_by r f.directives.saves c)
register_between f l is serves r (enters w) =
    let web = web_is f.directives.webs w.there.0 (w.web, Entry) is.directives.each w.there.1 w.there.2 in
    (omega (arith, web.low, w.is), omega (arith, web.high, w.is))

-- ---- places

few_slots : (ps : List Place) → length (slots_alone ps) ≤ length ps
few_slots [] = omega arith
few_slots (Slot offset ∷ rest) = omega (arith, few_slots rest)
few_slots (Reg r ∷ rest) = omega (arith, few_slots rest)

slots_good : (head saved i more : ℕ) → AllByRecursion PlaceGood (slots_from head saved i more)
slots_good head saved i zero = tt
slots_good head saved i (suc more) = (below_fits (head + 4 * saved + 4 * (i + 1)), slots_good head saved (suc i) more)

places_good : (ps : List Place) → ((r : ℕ) → Contains ps (Reg r) → r < 32) → AllByRecursion PlaceGood (slots_alone ps) → AllByRecursion PlaceGood ps
places_good [] small all = tt
places_good (Slot offset ∷ rest) small all = (all.0, places_good rest (λ r c. small r (suc c.0, omega (arith, c.1), c.2)) all.1)
places_good (Reg r ∷ rest) small all = (small r (0, omega arith, refl), places_good rest (λ q c. small q (suc c.0, omega (arith, c.1), c.2)) all)

-- ---- all of it

served_good : (f : WebFn) (l : Located) → IsWebFn f → Serves f l → Good l
served_good f l is serves =
    let between = λ (r : ℕ) (c : Contains l.saved r). register_between f l is serves r ((serves.saved r).0 c) in
    let low = each (λ r. first_register ≤ r) l.saved (λ r c. (between r c).0) in
    let high = each (λ r. r < last_register + 1) l.saved (λ r c. omega (arith, (between r c).1)) in
    let few : length l.saved ≤ register_count = omega (arith, few_between first_register (last_register + 1) l.saved (omega arith) low high serves.order) in
    let slots : length (slots_alone l.places) ≤ f.temps = omega (arith, few_slots l.places, serves.count) in
    let fits = frame_fits f (length l.saved) (length (slots_alone l.places)) is few slots in
    record {
      body = subst IsWebFn (sym serves.body) is;
      frame = omega (arith, serves.frame, fits.reach);
      saved = each (λ r. r < 32) l.saved (λ r c. omega (arith, (between r c).1));
      layout = record {
        places = places_good l.places (λ r c. omega (arith, (serves.registers r c).0.high))
            (subst (AllByRecursion PlaceGood) (sym serves.words) (slots_good (head_size f) (length l.saved) 0 (length (slots_alone l.places))));
        slots = all_below_fit (reaches_from (slots_begin (head_size l.body) (length l.saved) (in_frame l.places)) l.body.slots);
      };
    }

pub served_ready : SelectionIsReady
served_ready f d l is ds serves = ready_by l (selected_good l (served_good (directed f d) l (directed_lawful f d is ds) serves))

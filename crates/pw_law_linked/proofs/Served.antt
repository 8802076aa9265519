-- Functions whose places serve them stand in other registers than the stack pointer, and have a frame.
use Rattle.std.specs.Prelude.{ℕ, zero, suc, ◌≡◌, ◌<◌, ◌≤◌, ◌^◌, List, [], ◌∷◌, map, length, Contains}
use Rattle.std.specs.List.{AllByRecursion}
use Rattle.std.proofs.Common.{arith, subst, sym, refl, get_or}
use Rattle.std.proofs.lemmas.Bool.{ne_eqb}
use Rattle.pw_files.proofs.Standing.{has_by}
use Rattle.pw_db.specs.Limits.{first_register, last_register}
use Rattle.pw_db.specs.Database.{IsWeb}
use Rattle.pw_db.specs.declared.database.Web.{Web}
use Rattle.pw_db.specs.declared.database.Role.{Role}
use Rattle.pw_db.specs.declared.database.Role.TheVariants.{Entry}
use Rattle.pw_db.proofs.Keeping.{kept_from}
use Rattle.pw_webflow.specs.declared.web.WebFn.{WebFn}
use Rattle.pw_webflow.specs.declared.web.WebOp.{WebOp}
use Rattle.pw_webflow.specs.declared.web.WebOp.TheVariants.{Flow, Read, Write}
use Rattle.pw_webflow.specs.declared.web.WebBlock.{WebBlock}
use Rattle.pw_webflow.specs.ValidWebs.{IsWebOp, IsWebBlock, IsWebFn}
use Rattle.pw_alloc.specs.declared.located.Place.{Place}
use Rattle.pw_alloc.specs.declared.located.Place.TheVariants.{Slot, Reg}
use Rattle.pw_alloc.specs.declared.located.Located.{Located}
use Rattle.pw_alloc.specs.Frames.{head_size, slots_begin, last_reach}
use Rattle.pw_run_languages.specs.Serving.{slots_alone, Changes, places, enters, saves, Serves}
use Rattle.pw_law_levels.specs.Sparing.{IsOther, SparesPlace, SparesOp, SparesWeb, IsSparing}
use Rattle.pw_law_linked.specs.Standing.{HasFrame}

-- a register below it
low_other : (r : ℕ) → r ≤ 20 → IsOther r
low_other r le = ne_eqb r 30 (λ e. omega (arith, le, e))

pub each : (P : ℕ → Type 0) (rs : List ℕ) → ((r : ℕ) → Contains rs r → P r) → AllByRecursion P rs
each P [] all = tt
each P (r ∷ rs) all = (all r (0, omega arith, refl), each P rs (λ q c. all q (suc c.0, omega (arith, c.1), c.2)))

all_places : (ps : List Place) → ((r : ℕ) → Contains ps (Reg r) → r ≤ 20) → AllByRecursion SparesPlace ps
all_places [] low = tt
all_places (Slot offset ∷ rest) low = (tt, all_places rest (λ r c. low r (suc c.0, omega (arith, c.1), c.2)))
all_places (Reg r ∷ rest) low = (low_other r (low r (0, omega arith, refl)), all_places rest (λ q c. low q (suc c.0, omega (arith, c.1), c.2)))

-- ---- webs

all_webs : (webs : List (Web × Role)) → AllByRecursion IsWeb (map (λ w. w.0) webs) → AllByRecursion SparesWeb webs
all_webs [] h = tt
all_webs (w ∷ rest) h = let high = h.0.high in (low_other w.0.reg (omega (arith, high)), all_webs rest h.1)

register_low : (webs : List (Web × Role)) (r : ℕ) → AllByRecursion IsWeb (map (λ w. w.0) webs) → Contains (map (λ w. w.0.reg) webs) r → r ≤ 20
register_low [] r h c = absurd (omega (arith, c.1))
register_low (w ∷ rest) r h c = by c.0 c.1 c.2 (register_low rest r h.1)
  where
    by : (k : ℕ) → k < length (map (λ (w : Web × Role). w.0.reg) (w ∷ rest)) → get_or (map (λ (w : Web × Role). w.0.reg) (w ∷ rest)) k r ≡ r → (Contains (map (λ (w : Web × Role). w.0.reg) rest) r → r ≤ 20) → r ≤ 20
    by zero lt e later = let high = h.0.high in let is : w.0.reg ≡ r = e in omega (arith, high, is)
    by (suc k) lt e later = later (k, omega (arith, lt), e)

web_low : (webs : List (Web × Role)) (k : ℕ) (w : Web × Role) → AllByRecursion IsWeb (map (λ w. w.0) webs) → k < length webs → get_or webs k w ≡ w → IsWeb w.0
web_low [] k w h lt e = absurd (omega (arith, lt))
web_low (x ∷ rest) zero w h lt e = subst (λ (y : Web × Role). IsWeb y.0) e h.0
web_low (x ∷ rest) (suc k) w h lt e = web_low rest k w h.1 (omega (arith, lt)) e

-- ---- operations

all_ops : (f : WebFn) → AllByRecursion IsWeb (map (λ w. w.0) f.directives.webs) → (ops : List WebOp) → AllByRecursion (IsWebOp f) ops → AllByRecursion SparesOp ops
all_ops f webs [] h = tt
all_ops f webs (Flow o ∷ rest) h = (tt, all_ops f webs rest h.1)
all_ops f webs (Read t r ∷ rest) h = (tt, all_ops f webs rest h.1)
all_ops f webs (Write r a ∷ rest) h = (low_other r (register_low f.directives.webs r webs h.0.0), all_ops f webs rest h.1)

all_blocks : (f : WebFn) → AllByRecursion IsWeb (map (λ w. w.0) f.directives.webs) → (blocks : List WebBlock) → AllByRecursion (IsWebBlock f) blocks
    → AllByRecursion (λ (b : WebBlock). AllByRecursion SparesOp b.ops) blocks
all_blocks f webs [] h = tt
all_blocks f webs (b ∷ rest) h = (all_ops f webs b.ops h.0.ops, all_blocks f webs rest h.1)

-- ---- what is saved

pub changed_between : (f : WebFn) (l : Located) → IsWebFn f → Serves f l → (r : ℕ) → Changes f l r → (first_register ≤ r) × (r ≤ last_register)
changed_between f l is serves r (places c small free) = let low = (serves.registers r c).0.low in (low, small)
changed_between f l is serves r (saves c) = kept_from first_register f.directives.saves r is.directives.saves (has_by r f.directives.saves c)
changed_between f l is serves r (enters w) =
    let web = web_low f.directives.webs w.there.0 (w.web, Entry) is.directives.each w.there.1 w.there.2 in
    let low = web.low in
    let high = web.high in
    (omega (arith, low, w.is), omega (arith, high, w.is))

-- ---- the function

pub frame_served : (f : WebFn) (l : Located) → Serves f l → HasFrame l
frame_served f l serves = (
  length (slots_alone l.places),
  subst (λ (b : WebFn). l.frame ≡ last_reach (slots_begin (head_size b) (length l.saved) (length (slots_alone l.places))) b.slots) (sym serves.body) serves.frame,
)

pub sparing_served : (f : WebFn) (l : Located) → IsWebFn f → Serves f l → 1 ≤ l.frame → l.frame < 2 ^ 31 → IsSparing l
sparing_served f l is serves some small =
    let webs = is.directives.each in
    record {
      places = all_places l.places (λ r c. let high = (serves.registers r c).0.high in omega (arith, high));
      saved = each IsOther l.saved (λ r c. let high = (changed_between f l is serves r ((serves.saved r).0 c)).1 in low_other r (omega (arith, high)));
      webs = subst (λ (b : WebFn). AllByRecursion SparesWeb b.directives.webs) (sym serves.body) (all_webs f.directives.webs webs);
      ops = subst (λ (b : WebFn). AllByRecursion (λ (c : WebBlock). AllByRecursion SparesOp c.ops) b.blocks) (sym serves.body) (all_blocks f webs f.blocks is.blocks);
      some = some;
      frame = small;
      start = subst (λ (b : WebFn). 1 ≤ length b.blocks) (sym serves.body) is.start;
    }

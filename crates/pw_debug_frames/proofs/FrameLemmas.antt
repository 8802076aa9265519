-- What a debugger knows of lawful functions is lawful.
use Rattle.std.proofs.Common.{◌≡◌, ℕ, ◌+◌, ◌-◌, ◌<◌, ◌≤◌, List, [], ◌∷◌, ◌++◌, length, take, drop, get_or, map, Result, Ok, Err, refl, sym, subst, arith}
use Rattle.std.proofs.lemmas.List.{take_all}
use Rattle.std.specs.List.{AllByRecursion}
use Rattle.pw_value.specs.declared.fault.FileError.{FileError}
use Rattle.pw_value.specs.declared.fault.FileError.TheVariants as file
use Rattle.pw_fields.specs.FieldFaults.{FailsFile}
use Rattle.pw_db.specs.Limits.{first_register, last_register}
use Rattle.pw_db.specs.Database.{IsWeb}
use Rattle.pw_db.specs.declared.database.Web.{Web}
use Rattle.pw_db.specs.declared.database.Role.{Role}
use Rattle.pw_alloc.specs.Allocation.{in_frame}
use Rattle.pw_alloc.specs.Frames.{head_size, slots_begin}
use Rattle.pw_alloc.specs.ValidPlaces.{IsLocated}
use Rattle.pw_alloc.specs.declared.located.Located.{Located}
use Rattle.pw_alloc.proofs.FrameLaws.{last_reach_above}
use Rattle.pw_debug.specs.Knowing.{IsFrame, IsKept}
use Rattle.pw_debug.specs.declared.info.FrameInfo.{FrameInfo}
use Rattle.pw_debug_frames.specs.Frames.{places_from, frame_info}

kept_places : (head i : ℕ) (rs : List ℕ) → AllByRecursion (λ r. (first_register ≤ r) × (r ≤ last_register)) rs → AllByRecursion (λ s. IsKept s.0) (places_from head i rs)
kept_places head i [] all = tt
kept_places head i (r ∷ rs) all = (all.0, kept_places head (i + 1) rs all.1)

kept_webs : (webs : List (Web × Role)) → AllByRecursion IsWeb (map (λ w. w.0) webs) → AllByRecursion (λ w. IsKept w.0.reg) webs
kept_webs [] all = tt
kept_webs (w ∷ ws) all = ((all.0.low, all.0.high), kept_webs ws all.1)

frame_above : (l : Located) → IsLocated l → 0 < l.frame
frame_above l h =
    let reach = last_reach_above (slots_begin (head_size l.body) (length l.saved) (in_frame l.places)) l.body.slots in
    omega (arith, reach, h.frame)

pub info_lawful : (l : Located) → IsLocated l → IsFrame (frame_info l)
info_lawful l h = record {
  frame = frame_above l h;
  saved = kept_places (head_size l.body) 0 l.saved h.saved.kept;
  webs = kept_webs l.body.directives.webs h.body.directives.each;
}

pub all_push : {X : Type 0} (P : X → Type 0) (xs : List X) (x : X) → AllByRecursion P xs → P x → AllByRecursion P (xs ++ x ∷ [])
all_push P [] x all h = (h, tt)
all_push P (y ∷ ys) x all h = (all.0, all_push P ys x all.1 h)

-- ---- what was read

-- a file that was written is read, and has no fault
pub no_fault : {V : Type 0} (error : FileError) (at : ℕ) (v : V) → error ≡ file.FileFault at → FailsFile {Y = V} error (Ok v) → ⊥
no_fault {V} error at v e fails =
    let broken : ◌≡◌ {A = Result V ℕ} (Ok v) (Err at) = subst (λ (x : FileError). FailsFile {Y = V} x (Ok v)) e fails in
    cc

-- ---- lists

-- a list's first item, and the rest
pub front_and_rest : {X : Type 0} (xs : List X) (x : X) → 1 ≤ length xs → x ≡ get_or xs 0 x → xs ≡ x ∷ take (length xs - 1) (drop 1 xs)
front_and_rest [] x some e = absurd (omega (arith, some))
front_and_rest (y ∷ ys) x some e =
    let all : take (length (y ∷ ys) - 1) ys ≡ ys = take_all (length (y ∷ ys) - 1) ys (omega arith) in
    λ i. sym e i ∷ sym all i

pub no_item : {X : Type 0} (xs : List X) → length xs < 1 → xs ≡ []
no_item [] few = refl
no_item (x ∷ xs) few = absurd (omega (arith, few))

-- What allocation gives is lawful.
use Rattle.std.proofs.Common.{◌≡◌, ℕ, ◌+◌, ◌-◌, ◌≤◌, ◌<◌, ◌⊎◌, ◌&&◌, ◌||◌, not, Bool, true, false, List, length, map, ◌++◌, refl, ap, ◌∙◌, arith, inl, inr}
use Rattle.std.specs.Prelude.{Some, slice_get, Contains}
use Rattle.std.proofs.lemmas.Bool.{and_from, or_left, or_right, eq-eqb}
use Rattle.pw_files.proofs.Standing.{Has, has_by, contains_by, has_split, each_by}
use Rattle.pw_db.specs.Limits.{first_register, last_register, last_temporary, register_count, kept_registers}
use Rattle.pw_webflow.specs.declared.web.WebFn.{WebFn}
use Rattle.pw_webflow.specs.WebOutline.{web_outline}
use Rattle.pw_webflow.specs.ValidWebs.{HasRegister, IsWebFn}
use Rattle.pw_alloc.specs.Allocation.{is_entered, saved_of, in_frame}
use Rattle.pw_alloc.specs.Frames.{head_size}
use Rattle.pw_alloc.specs.ValidPlaces.{IsPlace, IsSaved, IsLocated}
use Rattle.pw_live.specs.Liveness.{has, is_that}
use Rattle.pw_live.specs.Interference.{is_held}
use Rattle.pw_alloc_temps.specs.Registers.{changed_registers, shared, unshared, of_temporaries, allowed}
use Rattle.pw_alloc_temps.specs.Temporaries.{cluster_of, registers_in, is_given, is_saved, saved_in, placed, allocated}
use Rattle.pw_alloc_temps.proofs.Lists.{stands_at, listed, has_listed, not_listed, some_passes, Kept, kept, stays, within, all_within, rises}
use Rattle.pw_alloc_temps.proofs.Places.{each_placed, placed_each}
use Rattle.pw_alloc_temps.proofs.Entered.{entered_are}
use Rattle.pw_alloc_temps.proofs.Registers.{each_has_one, registers_allowed}

-- ---- the registers that a temporary may have

pub record IsInBounds (r : ℕ) : Type 0 where
  pub low : first_register ≤ r
  pub high : r ≤ last_temporary

kept_bounds : (r : ℕ) → Has r kept_registers → IsInBounds r
kept_bounds r h = let k = within first_register register_count r h in record { low = k.0; high = omega (arith, k.1) }

in_bounds : (cluster : List ℕ) (held : Bool) (r : ℕ) → Has r (of_temporaries cluster held) → IsInBounds r
in_bounds cluster true r h = kept_bounds r (kept (λ r. not (has r cluster)) r kept_registers h).there
in_bounds cluster false r h = elim (has_split r changed_registers (shared cluster ++ unshared cluster) h) [
  | inl c ↦ let k = within (last_register + 1) (last_temporary - last_register) r c in record { low = omega (arith, k.0); high = omega (arith, k.1) }
  | inr c ↦ elim (has_split r (shared cluster) (unshared cluster) c) [
    | inl one ↦ kept_bounds r (kept (λ r. has r cluster) r kept_registers one).there
    | inr one ↦ kept_bounds r (kept (λ r. not (has r cluster)) r kept_registers one).there
  ]
]

pub not_there : (r : ℕ) (rs : List ℕ) → not (has r rs) ≡ true → ¬ Contains rs r
not_there r rs e c = let k = listed r rs (has_by r rs c) in let n = ap not k in cc

pub record IsFree (f : WebFn) (r : ℕ) : Type 0 where
  pub bounds : IsInBounds r
  pub apart : ¬ HasRegister f.directives r

abbrev webs_of : WebFn → List ℕ
webs_of f = map (λ w. w.0.reg) f.directives.webs

-- that of a temporary is one that it may have, and of no web
pub may_stand : (f : WebFn) (t r : ℕ) → slice_get (registers_in f) t ≡ Some (Some r) → Kept (λ r. not (has r (webs_of f))) r (of_temporaries (cluster_of f.directives) (is_held (web_outline f) t))
may_stand f t r e =
    kept (λ r. not (has r (webs_of f))) r (of_temporaries (cluster_of f.directives) (is_held (web_outline f) t))
    (has_by r (allowed (web_outline f) (webs_of f) (cluster_of f.directives) t) (registers_allowed (web_outline f) (webs_of f) (cluster_of f.directives) t r e))

pub of_temporary : (f : WebFn) (t r : ℕ) → slice_get (registers_in f) t ≡ Some (Some r) → IsFree f r
of_temporary f t r e =
    let k = may_stand f t r e in
    record { bounds = in_bounds (cluster_of f.directives) (is_held (web_outline f) t) r k.there; apart = not_there r (webs_of f) k.passes }

pub of_some : (f : WebFn) (r : ℕ) → Has (Some r) (registers_in f) → IsFree f r
of_some f r h = let p = stands_at (Some r) (registers_in f) h in of_temporary f p.place r p.is

-- ---- the registers that are saved

-- one that passes is saved
pub stands_saved : (f : WebFn) (r : ℕ) → first_register ≤ r → r < first_register + register_count → is_saved f.directives (registers_in f) r ≡ true → Contains (saved_in f (registers_in f)) r
stands_saved f r low high e =
    contains_by r (saved_in f (registers_in f)) (stays (is_saved f.directives (registers_in f)) r kept_registers (all_within first_register register_count r low high) e)

-- that of a temporary is, unless the function is free to use it
pub temporary_saved : (f : WebFn) (r : ℕ) → Has (Some r) (registers_in f) → r ≤ last_register → not (has r f.directives.free) ≡ true → Contains (saved_in f (registers_in f)) r
temporary_saved f r h high owned =
    stands_saved f r (of_some f r h).bounds.low (omega (arith, high))
    (or_right (is_entered f.directives.webs r) (has r f.directives.saves || (not (has r f.directives.free) && is_given (registers_in f) r))
    (or_right (has r f.directives.saves) (not (has r f.directives.free) && is_given (registers_in f) r)
    (and_from (not (has r f.directives.free)) (is_given (registers_in f) r) owned
    (some_passes (λ o. is_that o r) (Some r) (registers_in f) h (eq-eqb r r refl)))))

saved_or_free : (f : WebFn) (r : ℕ) → Has (Some r) (registers_in f) → r ≤ last_register → Contains (saved_in f (registers_in f)) r ⊎ Contains f.directives.free r
saved_or_free f r h high = by_test (has r f.directives.free) refl
  where
    by_test : (b : Bool) → has r f.directives.free ≡ b → Contains (saved_in f (registers_in f)) r ⊎ Contains f.directives.free r
    by_test true e = inr (contains_by r f.directives.free (has_listed r f.directives.free e))
    by_test false e = inl (temporary_saved f r h high (ap not e))

entered_saved : (f : WebFn) (r : ℕ) → Contains (saved_of f) r → Contains (saved_in f (registers_in f)) r
entered_saved f r c =
    let e = entered_are f.directives.webs first_register register_count r (has_by r (saved_of f) c) in
    stands_saved f r e.low e.high
    (or_left (is_entered f.directives.webs r) (has r f.directives.saves || (not (has r f.directives.free) && is_given (registers_in f) r)) e.is)

saved_kept : (f : WebFn) (r : ℕ) → Has r (saved_in f (registers_in f)) → (first_register ≤ r) × (r ≤ last_register)
saved_kept f r h =
    let k = kept (is_saved f.directives (registers_in f)) r kept_registers h in
    let high = within first_register register_count r k.there in
    (high.0, omega (arith, high.1))

saved_lawful : (f : WebFn) → IsSaved f (saved_in f (registers_in f))
saved_lawful f = record {
  kept = each_by (λ r. (first_register ≤ r) × (r ≤ last_register)) (saved_in f (registers_in f)) (saved_kept f);
  rising = rises (is_saved f.directives (registers_in f)) first_register register_count;
  entered = entered_saved f;
}

-- ---- together

pub allocated_lawful : (f : WebFn) → IsWebFn f → IsLocated (allocated f)
unfolding allocated
allocated_lawful f h =
    let head = head_size f in
    let saved = length (saved_in f (registers_in f)) in
    let words = in_frame (placed head saved 0 (registers_in f)) in
    record {
      body = h;
      count = each_placed head saved 0 (registers_in f) ∙ each_has_one (web_outline f) (webs_of f) (cluster_of f.directives);
      places = placed_each (IsPlace (allocated f)) head saved 0 words (registers_in f)
          (λ r there. let free = of_some f r there in (free.bounds.low, free.bounds.high, free.apart, saved_or_free f r there))
          (λ k lt. (k, (lt, refl)))
          (omega arith);
      saved = saved_lawful f;
      frame = refl;
    }

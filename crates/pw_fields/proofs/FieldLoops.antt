-- Reading items one after the other, as a loop does: what was read before stands in front.
use Rattle.std.proofs.Common.{◌≡◌, ℕ, suc, ◌-◌, ◌+◌, ◌≤◌, ◌<◌, List, [], ◌∷◌, ◌++◌, Result, Ok, Err, refl, sym, ap, ◌∙◌, append_assoc, arith}
use Rattle.std.proofs.lemmas.List.{append-nil}
use Rattle.pw_fields.specs.declared.fault.FieldFault.{FieldFault}
use Rattle.pw_fields.specs.declared.fault.FieldFault.TheVariants as field
use Rattle.pw_fields.specs.Fields.{after, done, items_at, same_state, repeated}
use Rattle.pw_fields.specs.FieldFaults.{Fails}

-- what was read before, and what is still read
abbrev pub with_front : {X : Type 0} → List X → Result (List X × List ℕ) ℕ → Result (List X × List ℕ) ℕ
with_front front found = after found (λ others. done (front ++ others))

regroup : {X : Type 0} (front : List X) (x : X) (found : Result (List X × List ℕ) ℕ) → with_front front (after found (λ others. done (x ∷ others))) ≡ with_front (front ++ x ∷ []) found
regroup {X} front x (Ok p) = ap (λ (xs : List X). Ok (xs, p.1)) (simp append_assoc)
regroup front x (Err left) = refl

pub goes_on : {S X : Type 0} (item : S → List ℕ → Result (X × List ℕ) ℕ) (next : S → X → S) (front : List X) (count i : ℕ) (s : S) (bytes : List ℕ) (x : X) (behind : List ℕ) (total : Result (List X × List ℕ) ℕ)
    → i < count → item s bytes ≡ Ok (x, behind) → with_front front (items_at item next (count - i) s bytes) ≡ total
    → with_front (front ++ x ∷ []) (items_at item next (count - (i + 1)) (next s x) behind) ≡ total
unfolding items_at
goes_on item next front count i s bytes x behind total lt h so_far =
    let k : count - i ≡ suc (count - (i + 1)) = omega arith in
    let one : with_front front (items_at item next (count - i) s bytes) ≡ with_front (front ++ x ∷ []) (items_at item next (count - (i + 1)) (next s x) behind) = rw (k, h) (regroup front x (items_at item next (count - (i + 1)) (next s x) behind)) in
    sym one ∙ so_far

pub ends : {S X : Type 0} (item : S → List ℕ → Result (X × List ℕ) ℕ) (next : S → X → S) (e : FieldFault) (front : List X) (count i : ℕ) (s : S) (bytes : List ℕ) (total : Result (List X × List ℕ) ℕ)
    → i < count → Fails e (item s bytes) → with_front front (items_at item next (count - i) s bytes) ≡ total → Fails e total
unfolding items_at
ends item next field.NoMemory front count i s bytes total lt h so_far = tt
ends item next (field.Fault left) front count i s bytes total lt h so_far =
    let k : count - i ≡ suc (count - (i + 1)) = omega arith in
    let one : with_front front (items_at item next (count - i) s bytes) ≡ Err left = rw (k, h) refl in
    sym so_far ∙ one

pub is_done : {S X : Type 0} (item : S → List ℕ → Result (X × List ℕ) ℕ) (next : S → X → S) (front : List X) (count i : ℕ) (s : S) (bytes : List ℕ) (total : Result (List X × List ℕ) ℕ)
    → count ≤ i → with_front front (items_at item next (count - i) s bytes) ≡ total → total ≡ Ok (front, bytes)
unfolding items_at
is_done {X = X} item next front count i s bytes total le so_far =
    let k : count - i ≡ 0 = omega arith in
    let one : with_front front (items_at item next (count - i) s bytes) ≡ Ok (front, bytes) = rw k (ap (λ (xs : List X). Ok (xs, bytes)) (append-nil front)) in
    sym so_far ∙ one

-- ---- the same where each item is read alike

pub repeat_goes_on : {X : Type 0} (item : List ℕ → Result (X × List ℕ) ℕ) (front : List X) (count i : ℕ) (bytes : List ℕ) (x : X) (behind : List ℕ) (total : Result (List X × List ℕ) ℕ)
    → i < count → item bytes ≡ Ok (x, behind) → with_front front (repeated item (count - i) bytes) ≡ total → with_front (front ++ x ∷ []) (repeated item (count - (i + 1)) behind) ≡ total
unfolding repeated
repeat_goes_on item front count i bytes x behind total lt h so_far = goes_on (λ s. item) same_state front count i 0 bytes x behind total lt h so_far

pub repeat_ends : {X : Type 0} (item : List ℕ → Result (X × List ℕ) ℕ) (e : FieldFault) (front : List X) (count i : ℕ) (bytes : List ℕ) (total : Result (List X × List ℕ) ℕ)
    → i < count → Fails e (item bytes) → with_front front (repeated item (count - i) bytes) ≡ total → Fails e total
unfolding repeated
repeat_ends item e front count i bytes total lt h so_far = ends (λ s. item) same_state e front count i 0 bytes total lt h so_far

pub repeat_is_done : {X : Type 0} (item : List ℕ → Result (X × List ℕ) ℕ) (front : List X) (count i : ℕ) (bytes : List ℕ) (total : Result (List X × List ℕ) ℕ)
    → count ≤ i → with_front front (repeated item (count - i) bytes) ≡ total → total ≡ Ok (front, bytes)
unfolding repeated
repeat_is_done item front count i bytes total le so_far = is_done (λ s. item) same_state front count i 0 bytes total le so_far

-- a loop over items that has read nothing yet
pub with_nothing : {X : Type 0} (found : Result (List X × List ℕ) ℕ) → with_front [] found ≡ found
with_nothing (Ok x) = refl
with_nothing (Err left) = refl

-- Registers as they are when what was saved is given back.
use Rattle.std.proofs.Common.{◌≡◌, ◌≢◌, ◌⊎◌, ℕ, zero, suc, ◌+◌, ◌-◌, ◌*◌, ◌<◌, ◌≤◌, ◌==◌, Bool, true, false, if◌then◌else◌, Some, List, [], ◌∷◌, map, length, get_or, slice_get, refl, sym, ap, subst, ◌∙◌, arith, inl, inr}
use Rattle.std.specs.Prelude.{Contains, slice_index_or}
use Rattle.std.proofs.lemmas.Bool.{cases_eq, eq-eqb, eqb-true}
use Rattle.std.proofs.lemmas.Option.{slice_get-get_or}
use Rattle.std.proofs.lemmas.List.FromFn.{length-map-range_with_len, get_or-map-range_with_len}
use Rattle.pw_files.proofs.Standing.{Has, has_by, contains_by}
use Rattle.pw_db.specs.Limits.{first_register, register_count, kept_registers}
use Rattle.pw_db.specs.declared.database.Directives.{Directives}
use Rattle.pw_db_sound.specs.CallGraphs.{Graph, Calls}
use Rattle.pw_alloc.specs.declared.located.Located.{Located}
use Rattle.pw_alloc.specs.Frames.{head_size}
use Rattle.pw_run_languages.specs.Traces.{Standing, MayChange, KeepsRegisters, Returned}
use Rattle.pw_run_languages.specs.Calls.{Saves, AreGuarded}
use Rattle.pw_run_languages.specs.Acts.{put, number_at}
use Rattle.pw_run_languages.specs.Standing.{given_back, without}
use Rattle.pw_run_languages.specs.LineRun.{Frame, active, name_of}
use Rattle.pw_law_select_kept.specs.Keeping.{IsKept, at_call, LeavesAsFound, saved_word, SavedStays, CallEachOther, AllLeaveAsFound, AllSavedStay, OperationsLeaveAsFound, FunctionsEnterAsFound, ReturnsAsFound, FunctionsReturnAsFound}
use Rattle.pw_law_select_kept.proofs.Saved.{has_or_not}

-- ---- registers that are given back, by one register

put_same : (q v r : ℕ) (g h : ℕ → ℕ) → g r ≡ h r → put q v g r ≡ put q v h r
put_same q v r g h e = by_test (r == q)
  where
    by_test : (t : Bool) → (if t then v else g r) ≡ (if t then v else h r)
    by_test true = refl
    by_test false = e

put_here : (q v r : ℕ) (g : ℕ → ℕ) → q ≡ r → put q v g r ≡ v
put_here q v r g e = ap (λ (t : Bool). if t then v else g r) (eq-eqb r q (sym e))

put_other : (q v r : ℕ) (g : ℕ → ℕ) → ¬ (q ≡ r) → put q v g r ≡ g r
put_other q v r g ne = by_test (r == q) refl
  where
    by_test : (t : Bool) → (r == q) ≡ t → (if t then v else g r) ≡ g r
    by_test true e = absurd (ne (sym (eqb-true r q e)))
    by_test false e = refl

given_same : (memory : ℕ → ℕ) (top k : ℕ) (saved : List ℕ) (g h : ℕ → ℕ) (r : ℕ) → g r ≡ h r → given_back memory top k saved g r ≡ given_back memory top k saved h r
given_same memory top k [] g h r e = e
given_same memory top k (q ∷ rest) g h r e =
    let v = number_at 4 memory (top - 4 * (k + 1)) in
    given_same memory top (suc k) rest (put q v g) (put q v h) r (put_same q v r g h e)

-- one that was saved is given back whatever it holds, and any other stays
given_saved : (memory : ℕ → ℕ) (top k : ℕ) (saved : List ℕ) (g h : ℕ → ℕ) (r : ℕ) → Has r saved → given_back memory top k saved g r ≡ given_back memory top k saved h r
given_saved memory top k [] g h r has = absurd has
given_saved memory top k (q ∷ rest) g h r (inl e) =
    let v = number_at 4 memory (top - 4 * (k + 1)) in
    given_same memory top (suc k) rest (put q v g) (put q v h) r (put_here q v r g e ∙ sym (put_here q v r h e))
given_saved memory top k (q ∷ rest) g h r (inr has) =
    let v = number_at 4 memory (top - 4 * (k + 1)) in
    given_saved memory top (suc k) rest (put q v g) (put q v h) r has

given_not : (memory : ℕ → ℕ) (top k : ℕ) (saved : List ℕ) (g : ℕ → ℕ) (r : ℕ) → ¬ Has r saved → given_back memory top k saved g r ≡ g r
given_not memory top k [] g r lacks = refl
given_not memory top k (q ∷ rest) g r lacks =
    let v = number_at 4 memory (top - 4 * (k + 1)) in
    given_not memory top (suc k) rest (put q v g) r (λ h. lacks (inr h)) ∙ put_other q v r g (λ e. lacks (inl e))

-- the same words give the same
given_words : (memory later : ℕ → ℕ) (top k : ℕ) (saved : List ℕ) (g : ℕ → ℕ) (r : ℕ)
    → ((i : ℕ) → i < length saved → number_at 4 later (top - 4 * (k + i + 1)) ≡ number_at 4 memory (top - 4 * (k + i + 1)))
    → given_back later top k saved g r ≡ given_back memory top k saved g r
given_words memory later top k [] g r same = refl
given_words memory later top k (q ∷ rest) g r same =
    let v = number_at 4 later (top - 4 * (k + 1)) in
    let u = number_at 4 memory (top - 4 * (k + 1)) in
    let first : v ≡ u = subst (λ (n : ℕ). number_at 4 later (top - 4 * n) ≡ number_at 4 memory (top - 4 * n)) (first_place k) (same 0 (omega arith)) in
    given_words memory later top (suc k) rest (put q v g) r (λ i less. subst (λ (n : ℕ). number_at 4 later (top - 4 * n) ≡ number_at 4 memory (top - 4 * n)) (next_place k i) (same (suc i) (omega (arith, less))))
    ∙ ap (λ (x : ℕ). given_back memory top (suc k) rest (put q x g) r) first
  where
    first_place : (k : ℕ) → k + 0 + 1 ≡ k + 1
    first_place k = omega arith

    next_place : (k i : ℕ) → k + suc i + 1 ≡ suc k + i + 1
    next_place k i = omega arith

-- words that hold what registers held are what is given back
given_is : (memory : ℕ → ℕ) (top k : ℕ) (saved : List ℕ) (g v : ℕ → ℕ) (r : ℕ)
    → ((i q : ℕ) → slice_get saved i ≡ Some q → number_at 4 memory (top - 4 * (k + i + 1)) ≡ v q)
    → Has r saved ⊎ (g r ≡ v r) → given_back memory top k saved g r ≡ v r
given_is memory top k [] g v r words (inl h) = absurd h
given_is memory top k [] g v r words (inr e) = e
given_is memory top k (q ∷ rest) g v r words has =
    given_is memory top (suc k) rest (put q u g) v r (λ i s at. subst (λ (n : ℕ). number_at 4 memory (top - 4 * n) ≡ v s) (next_place k i) (words (suc i) s at)) (still has)
  where
    u : ℕ
    u = number_at 4 memory (top - 4 * (k + 1))

    first_place : (k : ℕ) → k + 0 + 1 ≡ k + 1
    first_place k = omega arith

    next_place : (k i : ℕ) → k + suc i + 1 ≡ suc k + i + 1
    next_place k i = omega arith

    first : u ≡ v q
    first = subst (λ (n : ℕ). number_at 4 memory (top - 4 * n) ≡ v q) (first_place k) (words 0 q refl)

    here : q ≡ r → put q u g r ≡ v r
    here e = put_here q u r g e ∙ first ∙ ap v e

    still : Has r (q ∷ rest) ⊎ (g r ≡ v r) → Has r rest ⊎ (put q u g r ≡ v r)
    still (inl (inl e)) = inr (here e)
    still (inl (inr h)) = inl h
    still (inr e) = elim (cases_eq q r) [ inl is ↦ inr (here is) | inr ne ↦ inr (put_other q u r g ne ∙ e) ]

-- ---- of one function

without_same : (l : Frame) (memory registers now : ℕ → ℕ) (r : ℕ) → Contains l.function.located.saved r ⊎ (now r ≡ registers r)
    → without (active l) memory now r ≡ without (active l) memory registers r
without_same l memory registers now r (inl c) =
    given_saved memory (l.stack + l.function.located.frame - head_size l.function.located.body) 0 l.function.located.saved now registers r (has_by r l.function.located.saved c)
without_same l memory registers now r (inr e) =
    given_same memory (l.stack + l.function.located.frame - head_size l.function.located.body) 0 l.function.located.saved now registers r e

without_later : (l : Frame) (memory later registers : ℕ → ℕ) (r : ℕ) → SavedStays memory later l → without (active l) later registers r ≡ without (active l) memory registers r
without_later l memory later registers r stays =
    given_words memory later top 0 l.function.located.saved registers r
    (λ i less. subst (λ (n : ℕ). number_at 4 later (top - 4 * n) ≡ number_at 4 memory (top - 4 * n)) (place i) (stays i less))
  where
    top : ℕ
    top = l.stack + l.function.located.frame - head_size l.function.located.body

    place : (i : ℕ) → i + 1 ≡ 0 + i + 1
    place i = omega arith

one_later : (d : List (List ℕ × Directives)) (memory later registers now : ℕ → ℕ) (l : Frame) → SavedStays memory later l
    → ((r : ℕ) → IsKept r → ¬ MayChange d (name_of l) r → Contains l.function.located.saved r ⊎ (now r ≡ registers r))
    → LeavesAsFound d memory registers l → LeavesAsFound d later now l
one_later d memory later registers now l stays same h = record {
  whole = h.whole;
  same = λ r kept may. without_later l memory later now r stays ∙ without_same l memory registers now r (same r kept may) ∙ h.same r kept may;
}

-- of all that wait, where their registers are the same
all_later : (d : List (List ℕ × Directives)) (memory later registers now : ℕ → ℕ) (ls : List Frame) → AllSavedStay memory later ls → ((r : ℕ) → IsKept r → now r ≡ registers r)
    → AllLeaveAsFound d memory registers ls → AllLeaveAsFound d later now ls
all_later d memory later registers now [] stays same all = tt
all_later d memory later registers now (l ∷ ls) stays same all = (
  one_later d memory later registers now l stays.0 (λ r kept may. inr (same r kept)) all.0,
  all_later d memory later (at_call l) (at_call l) ls stays.1 (λ r kept. refl) all.1,
)

-- ---- the laws

pub operations_leave_as_found : OperationsLeaveAsFound
operations_leave_as_found d memory later registers now l ls stays same all = (
  one_later d memory later registers now l stays.0 same all.0,
  all_later d memory later (at_call l) (at_call l) ls stays.1 (λ r kept. refl) all.1,
)

-- a register's word among those that a callee keeps
kept_at : (registers : ℕ → ℕ) (r : ℕ) → IsKept r → slice_index_or (map registers kept_registers) (r - first_register) 0 ≡ registers r
kept_at registers r kept =
    let low = kept.low in
    let high = kept.high in
    get_or-map-range_with_len registers first_register register_count (r - first_register) r 0 (omega (arith, low, high)) (omega (arith, low, high))

pub functions_enter_as_found : FunctionsEnterAsFound
functions_enter_as_found d memory later registers now l ls stays before words others saved all = (
  record { whole = whole; same = λ r kept may. given r kept ∙ sym (called r kept) },
  all_later d memory later registers (at_call l) ls stays called all,
) where
  whole : length l.before ≡ register_count
  whole = ap length before ∙ length-map-range_with_len registers first_register register_count

  called : (r : ℕ) → IsKept r → at_call l r ≡ registers r
  called r kept = ap (λ (b : List ℕ). slice_index_or b (r - first_register) 0) before ∙ kept_at registers r kept

  top : ℕ
  top = l.stack + l.function.located.frame - head_size l.function.located.body

  place : (i : ℕ) → i + 1 ≡ 0 + i + 1
  place i = omega arith

  given : (r : ℕ) → IsKept r → without (active l) later now r ≡ registers r
  given r kept =
      given_is later top 0 l.function.located.saved now registers r
      (λ i q at. subst (λ (n : ℕ). number_at 4 later (top - 4 * n) ≡ registers q) (place i) (words i q at)) (inr (others r kept))

module _ (g : Graph) (d : List (List ℕ × Directives)) (functions : List Located) (memory registers now : ℕ → ℕ) (l : Frame) (guarded : AreGuarded g d functions)
    (given : (r : ℕ) → IsKept r → now r ≡ without (active l) memory registers r) (own : LeavesAsFound d memory registers l) where
  -- what the function may not change is as it was at its call
  as_called : (r : ℕ) → IsKept r → ¬ MayChange d (name_of l) r → now r ≡ at_call l r
  as_called r kept may = given r kept ∙ own.same r kept may

  callers_too : (ls : List Frame) → CallEachOther g (l ∷ ls) → ((caller : Frame) (r : ℕ) → Contains ls caller → Saves functions (name_of caller) r → Contains caller.function.located.saved r)
      → AllLeaveAsFound d memory (at_call l) ls → AllLeaveAsFound d memory now ls
  callers_too [] calls saves all = tt
  callers_too (caller ∷ callers) calls saves all = (
    record { whole = all.0.whole; same = λ r kept may. without_same caller memory (at_call l) now r (either r kept may) ∙ all.0.same r kept may },
    all.1,
  ) where
    saved_here : (r : ℕ) → Saves functions (name_of caller) r → Contains caller.function.located.saved r
    saved_here r s = saves caller r (contains_by caller (caller ∷ callers) (inl refl)) s

    either : (r : ℕ) → IsKept r → ¬ MayChange d (name_of caller) r → Contains caller.function.located.saved r ⊎ (now r ≡ at_call l r)
    either r kept may = elim (has_or_not r caller.function.located.saved) [
      | inl h ↦ inl (contains_by r caller.function.located.saved h)
      | inr lacks ↦ inr (as_called r kept (λ change. elim (guarded (name_of caller) (name_of l) r calls.0 change) [
        | inl m ↦ may m
        | inr s ↦ lacks (has_by r caller.function.located.saved (saved_here r s))
      ]))
    ]

  kept_is : (r : ℕ) → IsKept r → ¬ MayChange d (name_of l) r → slice_get (map now kept_registers) (r - first_register) ≡ slice_get l.before (r - first_register)
  kept_is r kept may =
      let low = kept.low in
      let high = kept.high in
      let whole = own.whole in
      let long = length-map-range_with_len now first_register register_count in
      slice_get-get_or (map now kept_registers) (r - first_register) 0 (omega (arith, low, high, long))
      ∙ ap Some (kept_at now r kept ∙ as_called r kept may)
      ∙ sym (slice_get-get_or l.before (r - first_register) 0 (omega (arith, low, high, whole)))

pub functions_return_as_found : FunctionsReturnAsFound
functions_return_as_found g d functions memory registers now l ls guarded calls saves given all = record {
  callers = callers_too g d functions memory registers now l guarded given all.0 ls calls saves all.1;
  keeps = λ globals r low high may. kept_is g d functions memory registers now l guarded given all.0 r (record { low = low; high = high }) may;
}

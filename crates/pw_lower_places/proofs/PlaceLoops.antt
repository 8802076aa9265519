-- The locals and their places, one after another.
use Rattle.std.proofs.Common.{◌≡◌, ℕ, zero, suc, ◌+◌, ◌-◌, ◌<◌, min, Bool, List, [], ◌∷◌, length, get_or, drop, refl, ap, ◌∙◌, sym, arith}
use Rattle.std.proofs.lemmas.List.{drop_more}
use Rattle.pw_types.specs.TypeTrees.{RecordValue}
use Rattle.pw_types.specs.TypedTrees.{LocalValue}
use Rattle.pw_typed.specs.declared.tree.Local.{Local}
use Rattle.pw_typed.specs.Views.{view_local, view_locals}
use Rattle.pw_lower.specs.declared.code.Code.{Code}
use Rattle.pw_lower.specs.declared.place.LocalPlace.{LocalPlace}
use Rattle.pw_lower.specs.declared.place.LocalPlace.TheVariants.{Temp, Slot}
use Rattle.pw_lower.specs.Modules.{slots_of, parameters_stored}
use Rattle.pw_lower_places.specs.Placing.{placed, parameter_stored}

-- ---- at the end of the locals or of what stands beside them, nothing is left

slots_nowhere : (records : List RecordValue) (locals : List LocalValue) → slots_of records locals [] ≡ []
slots_nowhere records [] = refl
slots_nowhere records (local ∷ rest) = refl

pub slots_done : (records : List RecordValue) (n : ℕ) (locals : List Local) (places : List LocalPlace) → n ≡ min (length locals) (length places) → slots_of records (view_locals (drop n locals)) (drop n places) ≡ []
slots_done records zero [] places h = refl
slots_done records zero (local ∷ locals) [] h = refl
slots_done records zero (local ∷ locals) (place ∷ places) h = absurd (omega arith)
slots_done records (suc n) [] places h = refl
slots_done records (suc n) (local ∷ locals) [] h = slots_nowhere records (view_locals (drop n locals))
slots_done records (suc n) (local ∷ locals) (place ∷ places) h = slots_done records n locals places (omega arith)

placed_nowhere : (marks : List Bool) (params k temp slot : ℕ) → placed marks params k temp slot [] ≡ []
placed_nowhere [] params k temp slot = refl
placed_nowhere (mark ∷ marks) params k temp slot = refl

pub placed_done : (n params k temp slot : ℕ) (locals : List Local) (marks : List Bool) → n ≡ min (length locals) (length marks) → placed (drop n marks) params k temp slot (view_locals (drop n locals)) ≡ []
placed_done zero params k temp slot locals [] h = refl
placed_done zero params k temp slot [] (mark ∷ marks) h = refl
placed_done zero params k temp slot (local ∷ locals) (mark ∷ marks) h = absurd (omega arith)
placed_done (suc n) params k temp slot locals [] h = refl
placed_done (suc n) params k temp slot [] (mark ∷ marks) h = placed_nowhere (drop n marks) params k temp slot
placed_done (suc n) params k temp slot (local ∷ locals) (mark ∷ marks) h = placed_done n params k temp slot locals marks (omega arith)

stored_nowhere : (locals : List LocalValue) (k left : ℕ) (c : Code) → parameters_stored locals [] k left c ≡ c
stored_nowhere [] k left c = refl
stored_nowhere (local ∷ rest) k left c = refl

pub stored_done : (n k left : ℕ) (locals : List Local) (places : List LocalPlace) (c : Code) → n ≡ min (length locals) (length places) → parameters_stored (view_locals (drop n locals)) (drop n places) k left c ≡ c
stored_done zero k left [] places c h = refl
stored_done zero k left (local ∷ locals) [] c h = refl
stored_done zero k left (local ∷ locals) (place ∷ places) c h = absurd (omega arith)
stored_done (suc n) k left [] places c h = refl
stored_done (suc n) k left (local ∷ locals) [] c h = stored_nowhere (view_locals (drop n locals)) k left c
stored_done (suc n) k left (local ∷ locals) (place ∷ places) c h = stored_done n k left locals places c (omega arith)

-- ---- parameters

stored_zero : (locals : List LocalValue) (places : List LocalPlace) (k : ℕ) (c : Code) → parameters_stored locals places k 0 c ≡ c
stored_zero [] places k c = refl
stored_zero (local ∷ locals) [] k c = refl
stored_zero (local ∷ locals) (Slot s ∷ places) k c = refl
stored_zero (local ∷ locals) (Temp t ∷ places) k c = refl

-- no parameter is left
pub stored_none : (locals : List LocalValue) (places : List LocalPlace) (k params : ℕ) (c : Code) → k ≡ params → parameters_stored locals places k (params - k) c ≡ c
stored_none locals places k params c h =
    let e : params - k ≡ 0 = omega arith in
    rw e (stored_zero locals places k c)

stored_next : (local : LocalValue) (locals : List LocalValue) (place : LocalPlace) (places : List LocalPlace) (k left : ℕ) (c : Code) → parameters_stored (local ∷ locals) (place ∷ places) k (suc left) c ≡ parameters_stored locals places (k + 1) left (parameter_stored local place k c)
stored_next local locals (Slot s) places k left c = refl
stored_next local locals (Temp t) places k left c = refl

-- one parameter further
stored_turn :
    (locals : List Local) (places : List LocalPlace) (local : Local) (place : LocalPlace) (n k params : ℕ) (c : Code)
    → n < length locals → n < length places → local ≡ get_or locals n local → place ≡ get_or places n place → k < params
    → parameters_stored (view_locals (drop n locals)) (drop n places) k (params - k) c
    ≡ parameters_stored (view_locals (drop (n + 1) locals)) (drop (n + 1) places) (k + 1) (params - (k + 1)) (parameter_stored (view_local local) place k c)
stored_turn locals places local place n k params c a b x y h =
    let e : params - k ≡ suc (params - (k + 1)) = omega arith in
    ap (λ left. parameters_stored (view_locals (drop n locals)) (drop n places) k left c) e
    ∙ ap (λ l. parameters_stored (view_locals l) (drop n places) k (suc (params - (k + 1))) c) (drop_more locals n local a)
    ∙ ap (λ p. parameters_stored (view_locals (get_or locals n local ∷ drop (n + 1) locals)) p k (suc (params - (k + 1))) c) (drop_more places n place b)
    ∙ ap (λ l. parameters_stored (view_locals (l ∷ drop (n + 1) locals)) (get_or places n place ∷ drop (n + 1) places) k (suc (params - (k + 1))) c) (sym x)
    ∙ ap (λ p. parameters_stored (view_locals (local ∷ drop (n + 1) locals)) (p ∷ drop (n + 1) places) k (suc (params - (k + 1))) c) (sym y)
    ∙ stored_next (view_local local) (view_locals (drop (n + 1) locals)) place (drop (n + 1) places) k (params - (k + 1)) c

-- the same in a loop
pub stored_on :
    (locals : List Local) (places : List LocalPlace) (local : Local) (place : LocalPlace) (n m k params : ℕ) (c after all : Code)
    → n < length locals → n < length places → local ≡ get_or locals n local → place ≡ get_or places n place → k < params
    → m ≡ n + 1 → after ≡ parameter_stored (view_local local) place k c
    → parameters_stored (view_locals (drop n locals)) (drop n places) k (params - k) c ≡ all
    → parameters_stored (view_locals (drop m locals)) (drop m places) (k + 1) (params - (k + 1)) after ≡ all
stored_on locals places local place n m k params c after all a b x y h e f left =
    ap (λ i. parameters_stored (view_locals (drop i locals)) (drop i places) (k + 1) (params - (k + 1)) after) e
    ∙ ap (λ d. parameters_stored (view_locals (drop (n + 1) locals)) (drop (n + 1) places) (k + 1) (params - (k + 1)) d) f
    ∙ sym (stored_turn locals places local place n k params c a b x y h)
    ∙ left

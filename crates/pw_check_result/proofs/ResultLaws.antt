-- Lists of objects and of declared names, item by item.
use Rattle.std.proofs.Common.{◌≡◌, ℕ, ◌+◌, ◌<◌, length, get_or, drop, Bool, true, false, cond, not, None, Some, slice_get, List, [], ◌∷◌, ◌++◌, map, filter, flat_map, refl, ap, ◌∙◌}
use Rattle.std.proofs.lemmas.List.{get_or_default}
use Rattle.std.specs.Option.{option_map_or}
use Rattle.pw_check_state.specs.EntityViews.{view_linked}
use Rattle.pw_check_names.specs.declared.entity.LinkedName.{LinkedName}
use Rattle.pw_types.specs.TypedTrees.{DeclaredValue}
use Rattle.pw_check_state.proofs.PlaceLemmas.{map_push}
use Rattle.pw_check_labels.proofs.LabelNames.{names_on}
use Rattle.pw_check_names.specs.declared.entity.HiddenObject.{HiddenObject}
use Rattle.pw_types.specs.TypedTrees.{GlobalValue}
use Rattle.pw_typed.specs.Views.{view_global}
use Rattle.pw_typed.specs.declared.tree.TGlobal.{TGlobal}
use Rattle.pw_check_rules.specs.Modules.{declared_value, global_in, hidden_global, named_global}
use Rattle.pw_check_rules.specs.declared.names.Slot.TheVariants as slot
use Rattle.pw_check_rules.specs.States as states
use Rattle.pw_check_rules.specs.declared.names.Slot.{Slot}
use Rattle.pw_check_result.specs.Parts.{declared_of}

pub slots_on : (s : states.State) (x : Slot) (xs : List Slot) → flat_map (global_in s) (x ∷ xs) ≡ global_in s x ++ flat_map (global_in s) xs
slots_on s x xs = refl

-- the objects so far and those of the rest, with one slot more
pub slot_on : (s : states.State) (all : List Slot) (n : ℕ) (d : Slot) (now new whole : List GlobalValue) → n < length all
    → now ++ flat_map (global_in s) (drop n all) ≡ whole → new ≡ now ++ global_in s (get_or all n d)
    → new ++ flat_map (global_in s) (drop (n + 1) all) ≡ whole
slot_on s all n d now new whole less before e =
    names_on (flat_map (global_in s)) (global_in s) (slots_on s) all n now new whole (get_or all n d) less (get_or_default all n d (get_or all n d) less) before e

-- what names with linkage give
abbrev pub all_declared : List LinkedName → List DeclaredValue
all_declared xs = map declared_value (filter (λ l. not l.internal) (map view_linked xs))

declared_by : (internal : Bool) (l : states.LinkedName) (xs : List states.LinkedName)
    → map declared_value (cond (not internal) (l ∷ xs) xs) ≡ cond internal [] (declared_value l ∷ []) ++ map declared_value xs
declared_by true l xs = refl
declared_by false l xs = refl

pub declared_on : (x : LinkedName) (xs : List LinkedName) → all_declared (x ∷ xs) ≡ declared_of (view_linked x) ++ all_declared xs
declared_on x xs = declared_by x.internal (view_linked x) (filter (λ l. not l.internal) (map view_linked xs))

-- ---- the object of a slot

pub named_there : (s : states.State) (place : ℕ) (l : states.LinkedName) → Some l ≡ states.linked_at s place
    → named_global s l ∷ [] ≡ global_in s (slot.Named place)
named_there s place l e = ap (λ o. option_map_or (λ x. named_global s x ∷ []) o []) e

pub none_named : (s : states.State) (place : ℕ) → None ≡ states.linked_at s place → [] ≡ global_in s (slot.Named place)
none_named s place e = ap (λ o. option_map_or (λ x. named_global s x ∷ []) o []) e

pub hidden_there : (s : states.State) (number : ℕ) (h : states.HiddenObject) → Some h ≡ slice_get s.made.hidden number
    → hidden_global number h ∷ [] ≡ global_in s (slot.Hidden number)
hidden_there s number h e = ap (λ o. option_map_or (λ x. hidden_global number x ∷ []) o []) e

pub pushed : (old new : List TGlobal) (g : TGlobal) (v : GlobalValue) (more : List GlobalValue)
    → new ≡ old ++ g ∷ [] → view_global g ≡ v → v ∷ [] ≡ more → map view_global new ≡ map view_global old ++ more
pushed old new g v more e is shown =
    ap (map view_global) e ∙ map_push view_global old g ∙ ap (λ x. map view_global old ++ x ∷ []) is ∙ ap (λ xs. map view_global old ++ xs) shown

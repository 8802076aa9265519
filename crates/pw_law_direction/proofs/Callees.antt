-- The function of a name, in both runs; and its first block.
use Rattle.std.proofs.Common.{◌≡◌, ℕ, Bool, true, false, cond, Option, Some, List, [], ◌∷◌, map, refl}
use Rattle.std.specs.Prelude.{find, option_map, slice_get}
use Rattle.std.specs.Str.{bytes_eq}
use Rattle.std.proofs.lemmas.Option.{slice_get-map}
use Rattle.pw_db.specs.declared.database.Directives.{Directives}
use Rattle.pw_flow.specs.declared.flow.FlowFn.{FlowFn}
use Rattle.pw_webflow.specs.Direction.{directed, directed_block}
use Rattle.pw_alloc.specs.declared.located.Located.{Located}
use Rattle.pw_run_languages.specs.Programs.{functions_of}
use Rattle.pw_run_languages.specs.Direction.{directed_by, unplaced}
use Rattle.pw_law_direction.specs.Pairs.{webs_of}
use Rattle.pw_law_direction.specs.SideBySide.{SameFunctions}

found-by : {X Y : Type 0} (h : X → Y) (b : Bool) (f : X) (x : Option Y) (y : Option X) → x ≡ option_map h y → cond b (Some (h f)) x ≡ option_map h (cond b (Some f) y)
found-by h true f x y e = refl
found-by h false f x y e = e

found-under : (d : List (List ℕ × Directives)) (name : List ℕ) (fs : List FlowFn)
    → find (λ (f : Located). bytes_eq f.body.name name) (map unplaced (map (directed_by d) fs)) ≡ option_map (λ (f : FlowFn). unplaced (directed_by d f)) (find (λ (f : FlowFn). bytes_eq f.name name) fs)
unfolding directed
found-under d name [] = refl
found-under d name (f ∷ fs) =
    found-by (λ (f : FlowFn). unplaced (directed_by d f)) (bytes_eq f.name name) f
    (find (λ (f : Located). bytes_eq f.body.name name) (map unplaced (map (directed_by d) fs))) (find (λ (f : FlowFn). bytes_eq f.name name) fs) (found-under d name fs)

block-under : (d : List (List ℕ × Directives)) (f : FlowFn) (b : ℕ) → slice_get (directed_by d f).blocks b ≡ option_map (directed_block (webs_of d f)) (slice_get f.blocks b)
unfolding directed
block-under d f b = slice_get-map (directed_block (webs_of d f)) f.blocks b

pub same-functions : SameFunctions
same-functions p d = record { function = λ name. found-under d name (functions_of p); block = block-under d }

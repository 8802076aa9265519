-- What stands before the points of a block.
use Rattle.std.proofs.Common.{◌≡◌, ℕ, ◌+◌, ◌<◌, List, [], ◌∷◌, ◌++◌, length, get_or, map, take, refl, sym, ap, ◌∙◌}
use Rattle.std.specs.Prelude.{Bool, false, Option, None}
use Rattle.std.specs.List.{flat_map}
use Rattle.std.proofs.lemmas.List.{map_more, take_more, map-append, append_assoc, append-nil}
use Rattle.std.proofs.lemmas.List.Concat.{flat_map-cons}
use Rattle.std.proofs.lemmas.Grind.{flat_map-append}
use Rattle.pw_flow.specs.Outline.{Act, Stretch}
use Rattle.pw_live.specs.Points.{Point, points_behind, points_in}
use Rattle.pw_live_held.specs.Makers.{maker, calls}

makers_behind : (s : Stretch) (acts : List Act) → map maker (points_behind s acts) ≡ map (λ (a : Act). a.defines) acts
makers_behind s [] = refl
makers_behind s (a ∷ acts) = ap (λ (ms : List (Option ℕ)). a.defines ∷ ms) (makers_behind s acts)

pub makers_in : (s : Stretch) → map maker (points_in s) ≡ None ∷ map (λ (a : Act). a.defines) s.acts
makers_in s = ap (λ (ms : List (Option ℕ)). None ∷ ms) (makers_behind s s.acts)

calls_behind : (s : Stretch) (acts : List Act) → map calls (points_behind s acts) ≡ map (λ (a : Act). a.calls) acts
calls_behind s [] = refl
calls_behind s (a ∷ acts) = ap (λ (cs : List Bool). a.calls ∷ cs) (calls_behind s acts)

pub calls_in : (s : Stretch) → map calls (points_in s) ≡ false ∷ map (λ (a : Act). a.calls) s.acts
calls_in s = ap (λ (cs : List Bool). false ∷ cs) (calls_behind s s.acts)

-- ---- one operation more

pub made_more : (acts : List Act) (a : Act) (k : ℕ) (made : Option ℕ) (old cur new : List (Option ℕ)) → k < length acts → get_or acts k a ≡ a → made ≡ a.defines → new ≡ cur ++ made ∷ []
    → cur ≡ old ++ None ∷ map (λ (a : Act). a.defines) (take k acts) → new ≡ old ++ None ∷ map (λ (a : Act). a.defines) (take (k + 1) acts)
made_more acts a k made old cur new lt is which now before =
    let more : map (λ (x : Act). x.defines) (take (k + 1) acts) ≡ map (λ (x : Act). x.defines) (take k acts) ++ a.defines ∷ [] =
    map_more (λ (x : Act). x.defines) acts k a lt ∙ ap (λ (x : Act). map (λ (y : Act). y.defines) (take k acts) ++ x.defines ∷ []) is in
    now ∙ ap (λ (xs : List (Option ℕ)). xs ++ made ∷ []) before ∙ append_assoc old (None ∷ map (λ (x : Act). x.defines) (take k acts)) (made ∷ [])
    ∙ ap (λ (m : Option ℕ). old ++ None ∷ (map (λ (x : Act). x.defines) (take k acts) ++ m ∷ [])) which
    ∙ ap (λ (xs : List (Option ℕ)). old ++ None ∷ xs) (sym more)

pub called_more : (acts : List Act) (a : Act) (k : ℕ) (call : Bool) (old cur new : List Bool) → k < length acts → get_or acts k a ≡ a → call ≡ a.calls → new ≡ cur ++ call ∷ []
    → cur ≡ old ++ false ∷ map (λ (a : Act). a.calls) (take k acts) → new ≡ old ++ false ∷ map (λ (a : Act). a.calls) (take (k + 1) acts)
called_more acts a k call old cur new lt is which now before =
    let more : map (λ (x : Act). x.calls) (take (k + 1) acts) ≡ map (λ (x : Act). x.calls) (take k acts) ++ a.calls ∷ [] =
    map_more (λ (x : Act). x.calls) acts k a lt ∙ ap (λ (x : Act). map (λ (y : Act). y.calls) (take k acts) ++ x.calls ∷ []) is in
    now ∙ ap (λ (xs : List Bool). xs ++ call ∷ []) before ∙ append_assoc old (false ∷ map (λ (x : Act). x.calls) (take k acts)) (call ∷ [])
    ∙ ap (λ (m : Bool). old ++ false ∷ (map (λ (x : Act). x.calls) (take k acts) ++ m ∷ [])) which
    ∙ ap (λ (xs : List Bool). old ++ false ∷ xs) (sym more)

-- ---- one block more

pub points_more : {X : Type 0} (v : Point → X) (blocks : List Stretch) (k : ℕ) (s : Stretch) (cur new : List X) → k < length blocks → get_or blocks k s ≡ s
    → new ≡ cur ++ map v (points_in s) → cur ≡ map v (flat_map points_in (take k blocks)) → new ≡ map v (flat_map points_in (take (k + 1) blocks))
points_more {X} v blocks k s cur new lt is now before =
    let more : flat_map points_in (take (k + 1) blocks) ≡ flat_map points_in (take k blocks) ++ points_in s =
    ap (flat_map points_in) (take_more blocks k s lt ∙ ap (λ (x : Stretch). take k blocks ++ x ∷ []) is) ∙ flat_map-append points_in (take k blocks) (s ∷ [])
    ∙ ap (λ (ps : List Point). flat_map points_in (take k blocks) ++ ps) (flat_map-cons points_in s [] ∙ append-nil (points_in s)) in
    now ∙ ap (λ (xs : List X). xs ++ map v (points_in s)) before ∙ sym (map-append v (flat_map points_in (take k blocks)) (points_in s)) ∙ ap (map v) (sym more)

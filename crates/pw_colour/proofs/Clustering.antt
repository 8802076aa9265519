-- The roots of functions and what their members need, and the registers that follow.
use Rattle.std.proofs.Common.{◌≡◌, ℕ, ◌<◌, ◌≤◌, List, length, sym, ap, subst, ◌∙◌, arith, All}
use Rattle.std.specs.Prelude.{slice_index}
use Rattle.std.proofs.lemmas.Option.{same_Some, slice_get-get_or, slice_get_within}
use Rattle.std.proofs.lemmas.List.Elements.{All-from_recursion}
use Rattle.pw_files.proofs.Standing.{each_by}
use Rattle.pw_db.specs.declared.database.Directives.{Directives}
use Rattle.pw_db.specs.declared.database.Web.{Web}
use Rattle.pw_db.specs.declared.database.Role.{Role}
use Rattle.pw_graph.specs.declared.graph.CallGraph.{CallGraph}
use Rattle.pw_graph.proofs.Lists.{at_has}
use Rattle.pw_webs.specs.declared.web.RawWeb.{RawWeb}
use Rattle.pw_clusters.specs.Saving.{saves_by, free_by, need_in, saves_at, free_at}
use Rattle.pw_colour.specs.Colours.{webs_of, directives_of}

-- each root is one of the functions
pub roots_fit : (n : ℕ) (roots : List ℕ) → length roots ≡ n → ((f : ℕ) → f < n → slice_index roots f < n) → All (λ r. r < length roots) roots
roots_fit n roots same within = All-from_recursion (λ r. r < length roots) roots (each_by (λ r. r < length roots) roots (λ r h.
    let p = at_has roots r h in
    let lt = slice_get_within roots p.0 r p.1 in
    let is : slice_index roots p.0 ≡ r = same_Some (slice_index roots p.0) r (sym (slice_get-get_or roots p.0 0 lt) ∙ p.1) in
    let low = within p.0 (omega (arith, lt, same)) in
    omega (arith, low, is, same)))

free_same : (place root need : ℕ) (roots needs : List ℕ) → root ≡ slice_index roots place → need ≡ need_in roots needs root → free_by place root need ≡ free_at roots needs place
free_same place root need roots needs one two = ap (λ n. free_by place root n) two ∙ ap (λ r. free_by place r (need_in roots needs r)) one

saves_same : (place root need : ℕ) (roots needs : List ℕ) → root ≡ slice_index roots place → need ≡ need_in roots needs root → saves_by place root need ≡ saves_at roots needs place
saves_same place root need roots needs one two = ap (λ n. saves_by place root n) two ∙ ap (λ r. saves_by place r (need_in roots needs r)) one

abbrev made : List (Web × Role) → List ℕ → List ℕ → Directives
made webs free saves = record { webs = webs; free = free; saves = saves }

pub made_same : (g : CallGraph) (roots : List ℕ) (ws : List (ℕ × RawWeb × ℕ)) (place root need : ℕ) (webs : List (Web × Role)) (free saves : List ℕ) → root ≡ slice_index roots place → need ≡ need_in roots g.needs root
    → webs ≡ webs_of g ws place → free ≡ free_by place root need → saves ≡ saves_by place root need → made webs free saves ≡ directives_of g roots ws place
made_same g roots ws place root need webs free saves one two is_webs is_free is_saves =
    ap (λ (xs : List (Web × Role)). made xs free saves) is_webs
    ∙ ap (λ (ys : List ℕ). made (webs_of g ws place) ys saves) (is_free ∙ free_same place root need roots g.needs one two)
    ∙ ap (λ (ys : List ℕ). made (webs_of g ws place) (free_at roots g.needs place) ys) (is_saves ∙ saves_same place root need roots g.needs one two)

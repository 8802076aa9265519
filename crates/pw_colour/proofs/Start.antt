-- Nothing calls `$start`; and what the database of summaries is.
use Rattle.std.proofs.Common.{◌≡◌, ℕ, ◌+◌, ◌<◌, ◌≤◌, List, map, refl, subst, arith, inl, inr}
use Rattle.std.specs.Prelude.{Some, slice_get, Contains, All}
use Rattle.std.specs.List.{AllByRecursion}
use Rattle.std.proofs.lemmas.Bool.{cases_lt}
use Rattle.std.proofs.lemmas.Option.{slice_get_within}
use Rattle.std.proofs.lemmas.List.Elements.{All-get_or}
use Rattle.pw_value.specs.ProgramNames.{start_name}
use Rattle.pw_files.proofs.Standing.{each_by}
use Rattle.pw_db.specs.declared.database.Directives.{Directives}
use Rattle.pw_db.specs.Database.{IsDatabase}
use Rattle.pw_summary.specs.declared.summary.Summary.{Summary}
use Rattle.pw_summary.specs.declared.summary.Uses.{Uses}
use Rattle.pw_summary.specs.Summary.{need_limit, IsSummary, IsUses}
use Rattle.pw_graph.specs.declared.graph.CallGraph.{CallGraph}
use Rattle.pw_graph.specs.CallGraph.{Calls}
use Rattle.pw_graph.specs.Program.{IsUseOf, HasNeed, IsGraphOf, IsCall, by_name, through_value}
use Rattle.pw_graph.proofs.Lists.{at_has}
use Rattle.pw_db_sound.specs.CallGraphs.{Graph}
use Rattle.pw_db_sound.specs.Sound.{Sound}
use Rattle.pw_colour.specs.Colours.{numbered, IsDatabaseOf}
use Rattle.pw_clusters.specs.Clusters.{AreRoots}
use Rattle.pw_clusters.specs.Saving.{need_in, free_at}
use Rattle.pw_clusters.specs.Sharing.{Shares}
use Rattle.pw_clusters.specs.ByName.{IsNamed}
use Rattle.pw_clusters.specs.Naming.{TellsMovable, IsSavedAboveNamed}
use Rattle.pw_colour.proofs.GraphOne.{item_there, each_at, graph_one}
use Rattle.pw_colour.proofs.Unique.{meet_same}
use Rattle.pw_colour.proofs.Lawful.{is_made, lawful}
use Rattle.pw_colour.proofs.Sounding.{sound}
use Rattle.pw_db.specs.Limits.{first_register, last_register, colour_limit, register_count}

at_one : {X : Type 0} (P : X → Type 0) (xs : List X) (x : X) → All P xs → Contains xs x → P x
at_one P xs x all c = subst P c.2 (All-get_or P xs c.0 x c.1 all)

no_call : (ss : List Summary) → All IsSummary ss → {f b : List ℕ} → IsCall ss f b → b ≡ start_name → ⊥
no_call ss all {f} {b} (by_name u its calls) same =
    let s = at_one IsSummary ss its.summary all its.stands in
    (each_at IsUses its.summary.uses its.place u s.uses its.uses).no_call (subst (λ (x : List ℕ). Contains u.calls x) same calls)
no_call ss all {f} {b} (through_value u shape its shapes there taken) same =
    let s = at_one IsSummary ss taken.summary all taken.stands in
    s.not_taken (subst (λ (x : List ℕ). Contains (map (λ t. t.0) taken.summary.taken) x) same taken.taken)

uncalled : (ss : List Summary) (g : CallGraph) → All IsSummary ss → IsGraphOf ss g → (a b : ℕ) → Calls g a b → slice_get g.functions b ≡ Some start_name → ⊥
uncalled ss g all of a b calls at =
    let here = slice_get_within g.calls a calls.row calls.at in
    let rows = of.call_rows in
    let f = item_there g.functions a (omega (arith, here, rows)) in
    no_call ss all ((of.calls a b f.0 start_name f.1 at).0 calls) refl

-- ---- needs

few_uses : (ss : List Summary) → All IsSummary ss → (f : List ℕ) (u : Uses) → IsUseOf ss f u → u.need ≤ need_limit
few_uses ss all f u its = (each_at IsUses its.summary.uses its.place u (at_one IsSummary ss its.summary all its.stands).uses its.uses).need

few_need : (ss : List Summary) → All IsSummary ss → (f : List ℕ) (m : ℕ) → HasNeed ss f m → m ≤ need_limit
few_need ss all f m has = elim (cases_lt need_limit m) [
  | inr le ↦ le
  | inl lt ↦
      let none : (u : Uses) → IsUseOf ss f u → ⊥ = λ u its. let few = few_uses ss all f u its in let same = has.told u its in omega (arith, lt, few, same) in
      let zero = has.untold none in
      omega (arith, lt, zero)
]

pub few_needs : (ss : List Summary) (g : CallGraph) → All IsSummary ss → IsGraphOf ss g → AllByRecursion (λ m. m ≤ need_limit) g.needs
few_needs ss g all of = each_by (λ m. m ≤ need_limit) g.needs (λ m h.
    let p = at_has g.needs m h in
    let lt = slice_get_within g.needs p.0 m p.1 in
    let rows = of.need_rows in
    let f = item_there g.functions p.0 (omega (arith, lt, rows)) in
    few_need ss all f.0 m (of.needs p.0 m f.0 f.1 p.1))

-- ---- the database

-- what the laws of clusters say
abbrev pub NeedsAreFew : Type 0
NeedsAreFew = (roots needs : List ℕ) (r : ℕ) → AllByRecursion (λ m. m ≤ need_limit) needs → need_in roots needs r ≤ need_limit

abbrev pub AreOfNoWeb : Type 0
AreOfNoWeb = (roots needs : List ℕ) (f r : ℕ) → AllByRecursion (λ m. m ≤ need_limit) needs → Shares roots needs f r → (first_register + colour_limit ≤ r) × (r ≤ last_register)

abbrev pub AreSavedByName : Type 0
AreSavedByName =
    (ss : List Summary) (g : CallGraph) (roots needs : List ℕ) (n : Graph) → IsGraphOf ss g → AreRoots ss g roots → IsNamed g n → TellsMovable ss n
    → (f : ℕ) (h : List ℕ) (r : ℕ) → slice_get g.functions f ≡ Some h → Contains (free_at roots needs f) r → IsSavedAboveNamed g n roots needs h r

pub database_lawful : NeedsAreFew → (ss : List Summary) (colours : ℕ) (db : List (List ℕ × Directives)) → colours ≤ register_count → All IsSummary ss → IsDatabaseOf ss colours db → IsDatabase db
database_lawful needs ss colours db few all d =
    lawful d.graph colours d.roots (numbered 0 d.coloured) db few (λ r. needs d.roots d.graph.needs r (few_needs ss d.graph all d.graph_of))
    (is_made ss colours db d (λ u w f ru rw same in_u in_w. meet_same d.graph u w ru rw same f in_u in_w))

pub database_sound : AreOfNoWeb → AreSavedByName → (ss : List Summary) (colours : ℕ) (db : List (List ℕ × Directives)) (g : CallGraph) (n : Graph) → colours ≤ colour_limit → All IsSummary ss → IsDatabaseOf ss colours db → IsGraphOf ss g → IsNamed g n → TellsMovable ss n → Sound n db
database_sound no_web above ss colours db g n few all d of named movable =
    let its : IsNamed d.graph n = subst (λ (h : CallGraph). IsNamed h n) (graph_one ss g d.graph of d.graph_of) named in
    let needs = few_needs ss d.graph all d.graph_of in
    sound d.graph colours d.roots (numbered 0 d.coloured) db n (is_made ss colours db d (λ u w f ru rw same in_u in_w. meet_same d.graph u w ru rw same f in_u in_w)) its
    (record {
      few = few;
      behind = λ f r shares. (no_web d.roots d.graph.needs f r needs shares).0;
      above = above ss d.graph d.roots d.graph.needs n d.graph_of d.are_roots its movable;
    })
    (uncalled ss d.graph all d.graph_of)

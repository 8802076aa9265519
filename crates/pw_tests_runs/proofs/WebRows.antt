-- The one web of bump and main, their roots, and the database that these make for eight registers.
use Rattle.std.specs.Prelude.{ℕ, zero, suc, ◌≡◌, ◌<◌, ◌≤◌, ◌+◌, ◌*◌, ◌/◌, ◌%◌, ◌⊎◌, ◌↔◌, true, false, IsTrue, pos, Option, Some, unwrap_or, List, [], ◌∷◌, map, codes, slice_get, slice_index, Contains}
use Rattle.std.specs.Int.{bit_at}
use Rattle.std.specs.List.Sorted.{IsPermutation}
use Rattle.std.proofs.Common.{arith, ap, subst, sym, refl, ◌∙◌, inl, inr}
use Rattle.std.proofs.lemmas.Nat.Bits.{bit_at-zero, bit_at_above}
use Rattle.smallvec.specs.SmallVec.{SmallVec}
use Rattle.pw_value.specs.declared.value.Kind.TheVariants.{W32}
use Rattle.pw_fix.specs.Row.{Holds, members as numbers}
use Rattle.pw_fix.specs.declared.bit_row.BitRow.{BitRow}
use Rattle.pw_db.specs.declared.database.Role.TheVariants.{Entry, Member}
use Rattle.pw_db.specs.declared.database.Directives.{Directives}
use Rattle.pw_db.specs.Database.{empty, says_something}
use Rattle.pw_flow.proofs.Once.{absent}
use Rattle.pw_summary.specs.declared.summary.Summary.{Summary}
use Rattle.pw_graph.specs.CallGraph.{Calls, Path, call, on, References, Writes}
use Rattle.pw_graph.specs.Program.{IsTaken, IsEscaped}
use Rattle.pw_clusters.specs.Clusters.{AreRoots, HaveRoot, IsDefined, IsInner}
use Rattle.pw_webs.specs.declared.web.RawWeb.{RawWeb}
use Rattle.pw_webs.specs.Webs.{Region, refers, between, outside, Joined, self, forth, back, HasCaller, IsWeb, IsRawWeb, AreWebs}
use Rattle.pw_colour.specs.Colours.{IsDatabaseOf, IsColour, directives_of, numbered}
use Rattle.pw_tests_runs.proofs.Programs.{bump_directives}
use Rattle.pw_tests_runs.proofs.ProgramRows.{all_differ, differ}
use Rattle.pw_tests_runs.proofs.WrittenLists.{nowhere, each, moved, each_at}
use Rattle.pw_tests_runs.proofs.SummaryRows.{summaries, function_names, graph, is_graph, each_call, each_ref, start_main, main_bump, bump_weighs, main_weighs}

-- ---- sets of the six functions

abbrev word : ℕ → SmallVec ℕ
word n = record { items = n ∷ []; capacity = 1 }

pub past : (n : ℕ) → n < 64 → (j k : ℕ) → 6 ≤ j * 64 + k → bit_at (slice_index (n ∷ []) j) k ≡ 1 → ⊥
past n few zero k le h = let none : bit_at n k ≡ 0 = bit_at_above n 6 k (omega (arith, few)) (omega (arith, le)) in omega (arith, none, h)
past n few (suc j) k le h = let none : bit_at 0 k ≡ 0 = bit_at-zero k in omega (arith, none, h)

-- that of a number's bits
abbrev set : (n : ℕ) → n < 64 → BitRow
set n few = record { len = 6; words = word n; enough = refl; unused = λ i le h. past n few (i / 64) (i % 64) (omega (arith, le)) h }

-- bump and main; main enters
abbrev pub web : RawWeb
web = record { global = 0; members = set 18 (omega arith); entries = set 16 (omega arith); writes = true; priority = pos 2 }

-- ---- who calls whom

abbrev IsEdge : ℕ → ℕ → Type 0
IsEdge a b = ((a ≡ 0) × ((b ≡ 2) ⊎ (b ≡ 4))) ⊎ ((a ≡ 4) × ((b ≡ 1) ⊎ (b ≡ 5)))

edge : (a b : ℕ) → Calls graph a b → IsEdge a b
edge = each_call IsEdge (
  (inl (refl, inl refl), (inl (refl, inr refl), tt)),
  (tt, (tt, (tt, ((inr (refl, inl refl), (inr (refl, inr refl), tt)), (tt, tt))))),
)

abbrev IsLeaf : ℕ → Type 0
IsLeaf a = (a ≡ 1) ⊎ (a ≡ 5)

leaf_calls : (a f : ℕ) → IsLeaf a → Calls graph a f → ⊥
leaf_calls a f leaf c = elim (edge a f c) [
  | inl s ↦ elim leaf [ inl e ↦ omega (arith, e, s.0) | inr e ↦ omega (arith, e, s.0) ]
  | inr m ↦ elim leaf [ inl e ↦ omega (arith, e, m.0) | inr e ↦ omega (arith, e, m.0) ]
]

leaf_path : (a f : ℕ) → IsLeaf a → Path graph a f → ⊥
leaf_path a f leaf (call _ _ c) = leaf_calls a f leaf c
leaf_path a f leaf (on _ b _ c rest) = leaf_calls a b leaf c

called_by_main : (a f : ℕ) → a ≡ 4 → Calls graph a f → IsLeaf f
called_by_main a f e c = elim (edge a f c) [ inl s ↦ absurd (omega (arith, e, s.0)) | inr m ↦ m.1 ]

abbrev IsIn : ℕ → Type 0
IsIn f = (f ≡ 1) ⊎ (f ≡ 4)

below : (a f : ℕ) → IsIn a → Path graph a f → IsLeaf f
below a f (inl e) path = absurd (leaf_path a f (inl e) path)
below a f (inr e) (call _ _ c) = called_by_main a f e c
below a f (inr e) (on _ b _ c rest) = absurd (leaf_path b f (called_by_main a b e c) rest)

-- ---- the region of n

referring : (f : ℕ) → References graph f 0 → IsIn f
referring f r =
    each_ref (λ a x. IsIn a) (tt, ((inl refl, tt), (tt, (tt, ((inr refl, tt), (tt, tt)))))) f 0 r.reads r.writes r.weighs

-- a caller of one in the region that has a caller there is main
outer : (a m f : ℕ) → IsIn a → Calls graph a m → IsIn m → Calls graph f m → IsIn f
outer a m f is c within d = elim (edge f m d) [
  | inr main ↦ inr main.0
  | inl start ↦ absurd (elim (edge a m c) [
    | inl s ↦ elim is [ inl e ↦ omega (arith, e, s.0) | inr e ↦ omega (arith, e, s.0) ]
    | inr s ↦ elim s.1 [
      | inl e ↦ elim start.1 [ inl k ↦ omega (arith, e, k) | inr k ↦ omega (arith, e, k) ]
      | inr e ↦ elim start.1 [ inl k ↦ omega (arith, e, k) | inr k ↦ omega (arith, e, k) ]
    ]
  ])
]

stands_between : (f b : ℕ) → IsLeaf f → Path graph f b → IsIn f
stands_between f b leaf path = absurd (leaf_path f b leaf path)

in_region : (f : ℕ) → Region graph 0 f → IsIn f
in_region f (refers _ r) = referring f r
in_region f (between a _ b ra there away rb) = stands_between f b (below a f (in_region a ra) there) away
in_region f (outside a m _ ra c rm d) = outer a m f (in_region a ra) c (in_region m rm) d

bump_in : Region graph 0 1
bump_in = refers 1 (record { reads = 1; writes = 1; weighs = bump_weighs; some = inl (omega arith) })

main_in : Region graph 0 4
main_in = refers 4 (record { reads = 2; writes = 0; weighs = main_weighs; some = inl (omega arith) })

joined_in : (a f : ℕ) → Joined graph 0 a f → Region graph 0 f
joined_in a f (self _ r) = r
joined_in a f (forth _ _ _ j c r) = r
joined_in a f (back _ _ _ j c r) = r

-- ---- the web

of_in : (P : ℕ → Type 0) → P 1 → P 4 → (f : ℕ) → IsIn f → P f
of_in P one four f (inl e) = subst P (sym e) one
of_in P one four f (inr e) = subst P (sym e) four

no_caller : HasCaller graph 0 4 → ⊥
no_caller h = elim (edge h.caller 4 h.calls) [
  | inl s ↦ elim (in_region h.caller h.within) [ inl e ↦ omega (arith, e, s.0) | inr e ↦ omega (arith, e, s.0) ]
  | inr m ↦ elim m.1 [ inl e ↦ omega (arith, e) | inr e ↦ omega (arith, e) ]
]

is_web : IsWeb graph 0 (1 ∷ 4 ∷ []) (4 ∷ [])
is_web = record {
  root = 4;
  within = main_in;
  of = λ f. (
    each (Joined graph 0 4) (1 ∷ 4 ∷ []) (forth 4 4 1 (self 4 main_in) main_bump bump_in, (self 4 main_in, tt)) f,
    (λ j. of_in (Contains (1 ∷ 4 ∷ [])) (0, omega arith, refl) (1, omega arith, refl) f (in_region f (joined_in 4 f j))),
  );
  entries_within = moved (4 ∷ []) (1 ∷ 4 ∷ []) ((1, omega arith, refl), tt);
  entry = each (λ f. HasCaller graph 0 f → ⊥) (4 ∷ []) (no_caller, tt);
  others = each (λ f. Contains (4 ∷ []) f ⊎ HasCaller graph 0 f) (1 ∷ 4 ∷ [])
      (inr (record { caller = 4; calls = main_bump; within = main_in }), (inl (0, omega arith, refl), tt));
}

raw : IsRawWeb graph web
raw = record {
  global = omega arith;
  member_places = refl;
  entry_places = refl;
  web = is_web;
  writes = ((λ e. (1, refl, record { reads = 1; writes = 1; weighs = bump_weighs; some = omega arith })), (λ w. refl));
  priority = refl;
}

all_in : (v f : ℕ) → v < 1 → Region graph v f → (w : RawWeb) × Contains (web ∷ []) w × (w.global ≡ v) × Holds w.members f
all_in zero f lt r = (web, (0, omega arith, refl), refl, of_in (Holds web.members) refl refl f (in_region f r))
all_in (suc v) f lt r = absurd (omega (arith, lt))

pub are_webs : AreWebs graph (web ∷ [])
are_webs = record {
  each = each_at (λ i w. IsRawWeb graph w) (web ∷ []) (raw, tt);
  order = λ i j w u lt first second.
      let none : j ≡ 0 = each_at (λ i (w : RawWeb). i ≡ 0) (web ∷ []) (refl, tt) j u second in absurd (omega (arith, lt, none));
  all = all_in;
}

-- ---- the roots: `$start` is that of bump and main, and each other function is its own

abbrev pub roots : List ℕ
roots = 0 ∷ 0 ∷ 2 ∷ 3 ∷ 0 ∷ 5 ∷ []

undefined : (name : List ℕ) → (Contains function_names name → ⊥) → (f : List ℕ) → Some name ≡ Some f → IsDefined summaries f → ⊥
undefined name none f e d = none (subst (IsDefined summaries) (sym (ap (λ o. unwrap_or o name) e)) d)

-- one of the program's own functions has the root of whoever calls it
abbrev HasItsRoot : ℕ → ℕ → Type 0
HasItsRoot a b = (f : List ℕ) → slice_get graph.functions b ≡ Some f → IsDefined summaries f → slice_index roots a ≡ slice_index roots b

root_of_caller : (a b : ℕ) → Calls graph a b → HasItsRoot a b
root_of_caller = each_call HasItsRoot (
  ((λ f e d. absurd (undefined (codes "exit") (absent (codes "exit") function_names (all_differ (codes "exit") function_names refl)) f e d)), ((λ f e d. refl), tt)),
  (
    tt,
    (
      tt,
      (
        tt,
        (
          ((λ f e d. refl), ((λ f e d. absurd (undefined (codes "putchar") (absent (codes "putchar") function_names (all_differ (codes "putchar") function_names refl)) f e d)), tt)),
          (tt, tt),
        ),
      ),
    ),
  ),
)

of_callers : (f r : ℕ) → IsInner summaries graph f → HaveRoot graph roots f r → slice_index roots f ≡ r
of_callers f r i have = sym (root_of_caller i.caller f i.called i.name i.at i.defined) ∙ have i.caller i.called

-- all that call have the root `$start`
start_calls : (a b : ℕ) → Calls graph a b → slice_index roots a ≡ 0
start_calls = each_call (λ a b. slice_index roots a ≡ 0) ((refl, (refl, tt)), (tt, (tt, (tt, ((refl, (refl, tt)), (tt, tt))))))

not_taken : (f : List ℕ) → IsTaken summaries f → ⊥
not_taken f e = each (λ (s : Summary). Contains (map (λ d. d.0) s.taken) f → ⊥) summaries (nowhere f, tt) e.summary e.stands e.taken

not_escaped : (f : List ℕ) → IsEscaped summaries f → ⊥
not_escaped f e = each (λ (s : Summary). Contains s.escaped f → ⊥) summaries (nowhere f, tt) e.summary e.stands e.escaped

bump_inner : IsInner summaries graph 1
bump_inner = record {
  name = codes "bump";
  at = refl;
  defined = (1, omega arith, refl);
  no_start = differ (codes "bump") (codes "$start") refl;
  no_cycle = λ p. leaf_path 1 1 (inl refl) p;
  not_taken = not_taken (codes "bump");
  not_escaped = not_escaped (codes "bump");
  caller = 4;
  called = main_bump;
}

main_once : Path graph 4 4 → ⊥
main_once p = elim (below 4 4 (inr refl) p) [ inl e ↦ omega (arith, e) | inr e ↦ omega (arith, e) ]

main_inner : IsInner summaries graph 4
main_inner = record {
  name = codes "main";
  at = refl;
  defined = (2, omega arith, refl);
  no_start = differ (codes "main") (codes "$start") refl;
  no_cycle = main_once;
  not_taken = not_taken (codes "main");
  not_escaped = not_escaped (codes "main");
  caller = 0;
  called = start_main;
}

itself : (f : ℕ) → f < 6 → ((r : ℕ) → IsInner summaries graph f → HaveRoot graph roots f r → ⊥) → slice_index roots f ≡ f
itself zero lt none = refl
itself (suc zero) lt none = absurd (none 0 bump_inner (λ c d. start_calls c 1 d))
itself (suc (suc zero)) lt none = refl
itself (suc (suc (suc zero))) lt none = refl
itself (suc (suc (suc (suc zero)))) lt none = absurd (none 0 main_inner (λ c d. start_calls c 4 d))
itself (suc (suc (suc (suc (suc zero))))) lt none = refl
itself (suc (suc (suc (suc (suc (suc f)))))) lt none = absurd (omega (arith, lt))

pub are_roots : AreRoots summaries graph roots
are_roots = record { each = refl; of_callers = of_callers; itself = itself }

-- ---- the database

abbrev coloured : List (RawWeb × Option ℕ)
coloured = (web, Some 3) ∷ []

pub three : IsColour 8 [] web (Some 3)
three = (record { lt = tt }, (omega arith, omega arith), (λ u c. absurd (nowhere (u, Some 3) c)), (λ q low high free. omega (arith, low, high)))

pub given : (f : List ℕ) (d : Directives) → Contains bump_directives (f, d) → (place : ℕ) × (slice_get graph.functions place ≡ Some f) × (d ≡ directives_of graph roots (numbered 0 coloured) place) × IsTrue (says_something (f, d))
given f d c =
    each (λ (x : List ℕ × Directives). (place : ℕ) × (slice_get graph.functions place ≡ Some x.0) × (x.1 ≡ directives_of graph roots (numbered 0 coloured) place) × IsTrue (says_something x))
    bump_directives ((1, refl, refl, refl), ((4, refl, refl, refl), tt)) (f, d) c

says_nothing : (f : List ℕ) (d : Directives) → d ≡ empty → IsTrue (says_something (f, d)) → Contains bump_directives (f, d)
says_nothing f d e some = let none : false ≡ true = subst (λ (d : Directives). IsTrue (says_something (f, d))) e some in absurd cc

abbrev IsStored : ℕ → List ℕ → Type 0
IsStored place f = (d : Directives) → d ≡ directives_of graph roots (numbered 0 coloured) place → IsTrue (says_something (f, d)) → Contains bump_directives (f, d)

pub stored : (place : ℕ) (f : List ℕ) → slice_get graph.functions place ≡ Some f → IsStored place f
stored = each_at IsStored graph.functions (
  says_nothing (codes "$start"),
  (
    (λ d e some. subst (λ (d : Directives). Contains bump_directives (codes "bump", d)) (sym e) (0, omega arith, refl)),
    (
      says_nothing (codes "exit"),
      (
        says_nothing (codes "getchar"),
        (
          (λ d e some. subst (λ (d : Directives). Contains bump_directives (codes "main", d)) (sym e) (1, omega arith, refl)),
          (says_nothing (codes "putchar"), tt),
        ),
      ),
    ),
  ),
)

unfoldable pub database : IsDatabaseOf summaries 8 bump_directives
database = record {
  graph = graph;
  graph_of = is_graph;
  webs = web ∷ [];
  are_webs = are_webs;
  coloured = coloured;
  same_webs = record { moves = []; below = tt; is = refl };
  order = (tt, tt);
  colours_of = (three, tt);
  roots = roots;
  are_roots = are_roots;
  rising = (tt, (refl, tt));
  of = λ f d. (given f d, (λ s. stored s.0 f s.1 d s.2 s.3));
}

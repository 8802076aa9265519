-- The database of summaries is one.
use Rattle.std.proofs.Common.{◌≡◌, ℕ, suc, ◌<◌, ◌==◌, Bool, List, [], ◌∷◌, ◌++◌, length, map, refl, sym, ap, subst, ◌∙◌, arith, inl, inr}
use Rattle.std.specs.Prelude.{Option, Some, None, slice_get, slice_index_or, Contains, IsTrue, ◌↔◌, if◌then◌else◌}
use Rattle.std.specs.List.{AllByRecursion, AllZip, list_any}
use Rattle.std.specs.List.Sorted.{IsPermutation}
use Rattle.std.proofs.lemmas.Int.{ints}
use Rattle.std.proofs.lemmas.Bool.{cases_eq, cases_lt}
use Rattle.std.proofs.lemmas.List.Sorted.{IsPermutation-sym, Contains-permutation}
use Rattle.pw_value.specs.declared.value.Kind.TheVariants.{W32}
use Rattle.pw_files.proofs.ByteOrder.{one_rising}
use Rattle.pw_files.proofs.Standing.{Has, has_each, each_by, has_by, contains_by}
use Rattle.pw_fix.specs.Row.{Holds, members as numbers}
use Rattle.pw_db.specs.Database.{EachTwo, says_something}
use Rattle.pw_db.specs.declared.database.Web.{Web}
use Rattle.pw_db.specs.declared.database.Role.{Role}
use Rattle.pw_db.specs.declared.database.Role.TheVariants.{Entry, Member}
use Rattle.pw_db.specs.declared.database.Directives.{Directives}
use Rattle.pw_summary.specs.declared.summary.Summary.{Summary}
use Rattle.pw_graph.specs.declared.graph.CallGraph.{CallGraph}
use Rattle.pw_graph.specs.Program.{IsGraphOf}
use Rattle.pw_graph.proofs.Members.{in_members}
use Rattle.pw_graph.proofs.Lists.{at_has}
use Rattle.pw_webs.specs.declared.web.RawWeb.{RawWeb}
use Rattle.pw_webs.specs.Webs.{Region, Joined, self, forth, back as behind, IsRawWeb, IsSameWeb, StandsBefore, AreWebs}
use Rattle.pw_webs.proofs.Closed.{in_region}
use Rattle.pw_webs.proofs.Gather.{joined_back}
use Rattle.pw_clusters.specs.Clusters.{AreRoots}
use Rattle.pw_clusters.specs.Saving.{free_at, saves_at}
use Rattle.pw_colour.specs.Colours.{ComesFirst, IsFree, IsColour, AreColoured, numbered, webs_of, directives_of, IsDatabaseOf}
use Rattle.pw_colour.proofs.Same.{IsLike, like, back, least_of, least_too, not_first}
use Rattle.pw_colour.proofs.GraphOne.{graph_one}
use Rattle.pw_colour.proofs.Numbered.{web_at}

-- ---- same webs

same_then : (a b c : RawWeb) → IsSameWeb a b → IsSameWeb b c → IsSameWeb a c
same_then a b c one two = (one.0 ∙ two.0, λ f. (λ h. (two.1 f).0 ((one.1 f).0 h), λ h. (one.1 f).1 ((two.1 f).1 h)))

joined_on : (g : CallGraph) (v r : ℕ) {root h : ℕ} → Joined g v r root → Joined g v root h → Joined g v r h
joined_on g v r first (self a region) = first
joined_on g v r first (forth a b c joined calls region) = forth r b c (joined_on g v r first joined) calls region
joined_on g v r first (behind a b c joined calls region) = behind r b c (joined_on g v r first joined) calls region

-- webs of one global with a function in common are one
one_way : (g : CallGraph) (a b : RawWeb) → IsRawWeb g a → IsRawWeb g b → a.global ≡ b.global → (f : ℕ) → Holds a.members f → Holds b.members f → (x : ℕ) → Holds a.members x → Holds b.members x
one_way g a b ra rb same f in_a in_b x h =
    let to_f : Joined g b.global ra.web.root f = subst (λ v. Joined g v ra.web.root f) same ((ra.web.of f).0 ((in_members a.members f).1 in_a)) in
    let to_x : Joined g b.global ra.web.root x = subst (λ v. Joined g v ra.web.root x) same ((ra.web.of x).0 ((in_members a.members x).1 h)) in
    let from_b : Joined g b.global rb.web.root f = (rb.web.of f).0 ((in_members b.members f).1 in_b) in
    let root : Joined g b.global rb.web.root ra.web.root = joined_back g b.global rb.web.root to_f from_b in
    (in_members b.members x).0 ((rb.web.of x).1 (joined_on g b.global rb.web.root root to_x))

pub meet_same : (g : CallGraph) (a b : RawWeb) → IsRawWeb g a → IsRawWeb g b → a.global ≡ b.global → (f : ℕ) → Holds a.members f → Holds b.members f → IsSameWeb a b
meet_same g a b ra rb same f in_a in_b = (same, λ x. (one_way g a b ra rb same f in_a in_b x, one_way g b a rb ra (sym same) f in_b in_a x))

-- ---- two lists of all webs

record HasSame (ys : List RawWeb) (x : RawWeb) : Type 0 where
  web : RawWeb
  has : Has web ys
  same : IsSameWeb x web

pub raw_in : (g : CallGraph) (ws cs : List RawWeb) → AreWebs g ws → IsPermutation ws cs → (w : RawWeb) → Has w cs → IsRawWeb g w
raw_in g ws cs webs moved w h =
    let there = has_by w ws (Contains-permutation cs ws w (IsPermutation-sym ws cs moved) (contains_by w cs h)) in
    let p = at_has ws w there in
    webs.each p.0 w p.1

has_same : (g : CallGraph) (ws us cs ds : List RawWeb) → AreWebs g ws → AreWebs g us → IsPermutation ws cs → IsPermutation us ds → (w : RawWeb) → Has w cs → HasSame ds w
has_same g ws us cs ds webs others moved turned w h =
    let raw = raw_in g ws cs webs moved w h in
    let l = least_of g w raw in
    let region : Region g w.global l.0 = in_region ((raw.web.of l.0).0 ((in_members w.members l.0).1 l.1.is)) in
    let k = others.all w.global l.0 raw.global region in
    let there = Contains-permutation us ds k.0 turned k.1 in
    let its = raw_in g us ds others turned k.0 (has_by k.0 ds there) in
    record { web = k.0; has = has_by k.0 ds there; same = meet_same g w k.0 raw its (sym k.2) l.0 l.1.is k.3 }

-- ---- the order of webs respects sameness

stands_too : (a b c d : RawWeb) → IsSameWeb a c → IsSameWeb b d → StandsBefore a b → StandsBefore c d
stands_too a b c d ac bd (inl lt) = inl (omega (arith, lt, ac.0, bd.0))
stands_too a b c d ac bd (inr w) = inr (sym ac.0 ∙ w.0 ∙ bd.0, λ f h lf lh. w.1 f h (least_too c a (back a c ac) f lf) (least_too d b (back b d bd) h lh))

first_too : (g : CallGraph) (a b c d : RawWeb) → IsRawWeb g a → IsRawWeb g b → IsRawWeb g c → IsRawWeb g d → IsSameWeb a c → IsSameWeb b d → ComesFirst a b → ComesFirst c d
first_too g a b c d ra rb rc rd ac bd (inl lt) =
    let e = (like g a c ra rc ac).priority in
    let k = (like g b d rb rd bd).priority in
    inl (omega (arith, ints, lt, e, k))
first_too g a b c d ra rb rc rd ac bd (inr w) = inr (sym (like g a c ra rc ac).priority ∙ w.0 ∙ (like g b d rb rd bd).priority, stands_too a b c d ac bd w.1)

stands_once : (g : CallGraph) (a b : RawWeb) → IsRawWeb g a → IsRawWeb g b → StandsBefore a b → StandsBefore b a → ⊥
stands_once g a b ra rb (inl x) (inl y) = omega (arith, x, y)
stands_once g a b ra rb (inl x) (inr y) = omega (arith, x, y.0)
stands_once g a b ra rb (inr x) (inl y) = omega (arith, x.0, y)
stands_once g a b ra rb (inr x) (inr y) =
    let l = least_of g a ra in
    let k = least_of g b rb in
    let one = x.1 l.0 k.0 l.1 k.1 in
    let two = y.1 k.0 l.0 k.1 l.1 in
    omega (arith, one, two)

first_once : (g : CallGraph) (a b : RawWeb) → IsRawWeb g a → IsRawWeb g b → ComesFirst a b → ComesFirst b a → ⊥
first_once g a b ra rb (inl x) (inl y) = omega (arith, ints, x, y)
first_once g a b ra rb (inl x) (inr y) = let e = y.0 in omega (arith, ints, x, e)
first_once g a b ra rb (inr x) (inl y) = let e = x.0 in omega (arith, ints, e, y)
first_once g a b ra rb (inr x) (inr y) = stands_once g a b ra rb x.1 y.1

module _ (g : CallGraph) where
  same_heads : (x y : RawWeb) (xs ys : List RawWeb) → AllByRecursion (IsRawWeb g) (x ∷ xs) → AllByRecursion (IsRawWeb g) (y ∷ ys) → AllByRecursion (ComesFirst x) xs → AllByRecursion (ComesFirst y) ys → HasSame (y ∷ ys) x → HasSame (x ∷ xs) y → IsSameWeb x y
  same_heads x y xs ys rx ry fx fy one two = elim one.has [
    | inl e ↦ subst (λ (z : RawWeb). IsSameWeb x z) (sym e) one.same
    | inr k ↦ elim two.has [
      | inl e ↦ back y x (subst (λ (z : RawWeb). IsSameWeb y z) (sym e) two.same)
      | inr j ↦
          let raw_one = has_each (IsRawWeb g) ys one.web ry.1 k in
          let raw_two = has_each (IsRawWeb g) xs two.web rx.1 j in
          let up : ComesFirst x two.web = has_each (ComesFirst x) xs two.web fx j in
          let down : ComesFirst two.web x = first_too g y one.web two.web x ry.0 raw_one raw_two rx.0 two.same (back x one.web one.same) (has_each (ComesFirst y) ys one.web fy k) in
          absurd (first_once g x two.web rx.0 raw_two up down)
    ]
  ]

  same_tail : (x y z : RawWeb) (xs ys : List RawWeb) → AllByRecursion (IsRawWeb g) (x ∷ xs) → AllByRecursion (ComesFirst x) xs → IsSameWeb x y → Has z xs → HasSame (y ∷ ys) z → HasSame ys z
  same_tail x y z xs ys rx fx same h one = elim one.has [
    | inl e ↦
        let zy : IsSameWeb z y = subst (λ (w : RawWeb). IsSameWeb z w) (sym e) one.same in
        absurd (not_first g x z rx.0 (has_each (IsRawWeb g) xs z rx.1 h) (same_then x y z same (back z y zy)) (has_each (ComesFirst x) xs z fx h))
    | inr k ↦ record { web = one.web; has = k; same = one.same }
  ]

  same_lists : (xs ys : List RawWeb) → AllByRecursion (IsRawWeb g) xs → AllByRecursion (IsRawWeb g) ys → EachTwo ComesFirst xs → EachTwo ComesFirst ys → ((x : RawWeb) → Has x xs → HasSame ys x) → ((y : RawWeb) → Has y ys → HasSame xs y) → AllZip IsSameWeb xs ys
  same_lists [] [] rx ry fx fy one two = tt
  same_lists [] (y ∷ ys) rx ry fx fy one two = absurd (two y (inl refl)).has
  same_lists (x ∷ xs) [] rx ry fx fy one two = absurd (one x (inl refl)).has
  same_lists (x ∷ xs) (y ∷ ys) rx ry fx fy one two =
      let same = same_heads x y xs ys rx ry fx.0 fy.0 (one x (inl refl)) (two y (inl refl)) in (
        same,
        same_lists xs ys rx.1 ry.1 fx.1 fy.1
            (λ z h. same_tail x y z xs ys rx fx.0 same h (one z (inr h)))
            (λ z h. same_tail y x z ys xs ry fy.0 (back x y same) h (two z (inr h))),
      )

-- ---- colours

-- the same web with the same register
abbrev SameColour : RawWeb × Option ℕ → RawWeb × Option ℕ → Type 0
SameColour p q = IsSameWeb p.0 q.0 × (p.1 ≡ q.1)

zip_has : {A B : Type 0} (R : A → B → Type 0) (xs : List A) (ys : List B) → AllZip R xs ys → (y : B) → Has y ys → (x : A) × Has x xs × R x y
zip_has R [] [] all y h = absurd h
zip_has R [] (z ∷ ys) all y h = absurd all
zip_has R (x ∷ xs) [] all y h = absurd all
zip_has R (x ∷ xs) (z ∷ ys) all y (inl e) = (x, inl refl, subst (R x) e all.0)
zip_has R (x ∷ xs) (z ∷ ys) all y (inr h) = let p = zip_has R xs ys all.1 y h in (p.0, inr p.1, p.2)

zip_turned : (xs ys : List (RawWeb × Option ℕ)) → AllZip SameColour xs ys → AllZip SameColour ys xs
zip_turned [] [] all = tt
zip_turned [] (y ∷ ys) all = absurd all
zip_turned (x ∷ xs) [] all = absurd all
zip_turned (x ∷ xs) (y ∷ ys) all = ((back x.0 y.0 all.0.0, sym all.0.1), zip_turned xs ys all.1)

free_too : (xs ys : List (RawWeb × Option ℕ)) (w u : RawWeb) (r : ℕ) → AllZip SameColour xs ys → IsSameWeb w u → IsFree xs w r → IsFree ys u r
free_too xs ys w u r zip same free v stands i =
    let p = zip_has SameColour xs ys zip (v, Some r) (has_by (v, Some r) ys stands) in
    let stands_there : Contains xs (p.0.0, Some r) = subst (λ (o : Option ℕ). Contains xs (p.0.0, o)) p.2.1 (contains_by p.0 xs p.1) in
    free p.0.0 stands_there (record {
      function = i.function;
      in_one = (p.2.0.1 i.function).1 i.in_one;
      in_other = (same.1 i.function).1 i.in_other;
      differ = λ s. i.differ (same_then v w u (same_then v p.0.0 w (back p.0.0 v p.2.0) s) same);
    })

colour_one : (colours : ℕ) (xs ys : List (RawWeb × Option ℕ)) (w u : RawWeb) (r s : Option ℕ) → AllZip SameColour xs ys → IsSameWeb w u → w.priority ≡ u.priority → IsColour colours xs w r → IsColour colours ys u s → r ≡ s
colour_one colours xs ys w u None None zip same level one two = refl
colour_one colours xs ys w u None (Some s) zip same level one two = absurd (elim one [
  | inl le ↦ let lt = two.0 in omega (arith, ints, le, lt, level)
  | inr none ↦ none s two.1 (free_too ys xs u w s (zip_turned xs ys zip) (back w u same) two.2)
])
colour_one colours xs ys w u (Some r) None zip same level one two = absurd (elim two [
  | inl le ↦ let lt = one.0 in omega (arith, ints, le, lt, level)
  | inr none ↦ none r one.1 (free_too xs ys w u r zip same one.2)
])
colour_one colours xs ys w u (Some r) (Some s) zip same level one two = elim (cases_eq r s) [
  | inl e ↦ ap Some e
  | inr apart ↦ absurd (elim (cases_lt r s) [
    | inl lt ↦ two.3 r one.1.0 lt (free_too xs ys w u r zip same one.2)
    | inr le ↦ one.3 s two.1.0 (omega (arith, le, apart)) (free_too ys xs u w s (zip_turned xs ys zip) (back w u same) two.2)
  ])
]

colours_one : (g : CallGraph) (colours : ℕ) (es fs cs ds : List (RawWeb × Option ℕ)) → AllZip SameColour es fs → AllByRecursion (IsRawWeb g) (map (λ p. p.0) cs) → AllByRecursion (IsRawWeb g) (map (λ p. p.0) ds) → AllZip IsSameWeb (map (λ p. p.0) cs) (map (λ p. p.0) ds)
    → AreColoured colours es cs → AreColoured colours fs ds → AllZip SameColour cs ds
colours_one g colours es fs [] [] zip rc rd same one two = tt
colours_one g colours es fs [] (d ∷ ds) zip rc rd same one two = absurd same
colours_one g colours es fs (c ∷ cs) [] zip rc rd same one two = absurd same
colours_one g colours es fs (c ∷ cs) (d ∷ ds) zip rc rd same one two =
    let here : SameColour c d = (same.0, colour_one colours es fs c.0 d.0 c.1 d.1 zip same.0 (like g c.0 d.0 rc.0 rd.0 same.0).priority one.0 two.0) in
    (here, colours_one g colours (c ∷ es) (d ∷ fs) cs ds (here, zip) rc.1 rd.1 same.1 one.1 two.1)

-- ---- the database

abbrev LikeNumbered : ℕ × RawWeb × ℕ → ℕ × RawWeb × ℕ → Type 0
LikeNumbered a b = (a.0 ≡ b.0) × IsLike a.1 b.1 × (a.2 ≡ b.2)

numbers_one : (g : CallGraph) (n : ℕ) (cs ds : List (RawWeb × Option ℕ)) → AllByRecursion (IsRawWeb g) (map (λ p. p.0) cs) → AllByRecursion (IsRawWeb g) (map (λ p. p.0) ds) → AllZip SameColour cs ds → AllZip LikeNumbered (numbered n cs) (numbered n ds)
numbers_one g n [] [] rc rd zip = tt
numbers_one g n [] (d ∷ ds) rc rd zip = absurd zip
numbers_one g n (c ∷ cs) [] rc rd zip = absurd zip
numbers_one g n ((w, None) ∷ cs) ((u, None) ∷ ds) rc rd zip = numbers_one g n cs ds rc.1 rd.1 zip.1
numbers_one g n ((w, None) ∷ cs) ((u, Some s) ∷ ds) rc rd zip = let e = zip.0.1 in absurd cc
numbers_one g n ((w, Some r) ∷ cs) ((u, None) ∷ ds) rc rd zip = let e = zip.0.1 in absurd cc
numbers_one g n ((w, Some r) ∷ cs) ((u, Some s) ∷ ds) rc rd zip = ((refl, like g w u rc.0 rd.0 zip.0.0, (let e = zip.0.1 in cc)), numbers_one g (suc n) cs ds rc.1 rd.1 zip.1)

abbrev web_from : CallGraph → ℕ → ℕ → Bool → ℕ → Web
web_from g id v writes reg = record { id = id; global = (slice_index_or g.globals v ([], W32)).0; kind = (slice_index_or g.globals v ([], W32)).1; reg = reg; writes = writes }

abbrev role_from : List ℕ → ℕ → Role
role_from es f = if list_any (λ n. n == f) es then Entry else Member

abbrev at_from : CallGraph → ℕ → ℕ → ℕ → Bool → ℕ → List ℕ → List ℕ → List (Web × Role)
at_from g f id v writes reg ms es = if list_any (λ n. n == f) ms then ((web_from g id v writes reg, role_from es f) ∷ []) else []

web_one : (g : CallGraph) (f : ℕ) (a b : ℕ × RawWeb × ℕ) → LikeNumbered a b → web_at g f a ≡ web_at g f b
web_one g f a b l =
    ap (λ n. at_from g f n a.1.global a.1.writes a.2 (numbers a.1.members) (numbers a.1.entries)) l.0
    ∙ ap (λ n. at_from g f b.0 n a.1.writes a.2 (numbers a.1.members) (numbers a.1.entries)) l.1.global
    ∙ ap (λ (t : Bool). at_from g f b.0 b.1.global t a.2 (numbers a.1.members) (numbers a.1.entries)) l.1.writes
    ∙ ap (λ n. at_from g f b.0 b.1.global b.1.writes n (numbers a.1.members) (numbers a.1.entries)) l.2
    ∙ ap (λ (ms : List ℕ). at_from g f b.0 b.1.global b.1.writes b.2 ms (numbers a.1.entries)) l.1.members
    ∙ ap (λ (es : List ℕ). at_from g f b.0 b.1.global b.1.writes b.2 (numbers b.1.members) es) l.1.entries

webs_one : (g : CallGraph) (f : ℕ) (xs ys : List (ℕ × RawWeb × ℕ)) → AllZip LikeNumbered xs ys → webs_of g xs f ≡ webs_of g ys f
webs_one g f [] [] all = refl
webs_one g f [] (b ∷ ys) all = absurd all
webs_one g f (a ∷ xs) [] all = absurd all
webs_one g f (a ∷ xs) (b ∷ ys) all = ap (λ (zs : List (Web × Role)). zs ++ webs_of g xs f) (web_one g f a b all.0) ∙ ap (λ (zs : List (Web × Role)). web_at g f b ++ zs) (webs_one g f xs ys all.1)

-- the same in another graph, by the roots of its functions
record IsFrom (g : CallGraph) (colours : ℕ) (roots : List ℕ) (cs : List (RawWeb × Option ℕ)) (db : List (List ℕ × Directives)) : Type 0 where
  webs : List RawWeb
  are_webs : AreWebs g webs
  same_webs : IsPermutation webs (map (λ w. w.0) cs)
  order : EachTwo ComesFirst (map (λ w. w.0) cs)
  colours_of : AreColoured colours [] cs
  of : (f : List ℕ) (d : Directives) → Contains db (f, d) ↔ ((place : ℕ) × (slice_get g.functions place ≡ Some f) × (d ≡ directives_of g roots (numbered 0 cs) place) × IsTrue (says_something (f, d)))

is_from : (ss : List Summary) (colours : ℕ) (db : List (List ℕ × Directives)) (d : IsDatabaseOf ss colours db) → IsFrom d.graph colours d.roots d.coloured db
is_from ss colours db d = record { webs = d.webs; are_webs = d.are_webs; same_webs = d.same_webs; order = d.order; colours_of = d.colours_of; of = d.of }

from_one : (g : CallGraph) (colours : ℕ) (roots : List ℕ) (cs ds : List (RawWeb × Option ℕ)) (d e : List (List ℕ × Directives)) → IsFrom g colours roots cs d → IsFrom g colours roots ds e → (f : List ℕ) (x : Directives) → Contains d (f, x) → Contains e (f, x)
from_one g colours roots cs ds d e one two f x c =
    let xs = map (λ (p : RawWeb × Option ℕ). p.0) cs in
    let ys = map (λ (p : RawWeb × Option ℕ). p.0) ds in
    let rx : AllByRecursion (IsRawWeb g) xs = each_by (IsRawWeb g) xs (raw_in g one.webs xs one.are_webs one.same_webs) in
    let ry : AllByRecursion (IsRawWeb g) ys = each_by (IsRawWeb g) ys (raw_in g two.webs ys two.are_webs two.same_webs) in
    let same : AllZip IsSameWeb xs ys = same_lists g xs ys rx ry one.order two.order
    (has_same g one.webs two.webs xs ys one.are_webs two.are_webs one.same_webs two.same_webs)
    (has_same g two.webs one.webs ys xs two.are_webs one.are_webs two.same_webs one.same_webs) in
    let zip = colours_one g colours [] [] cs ds tt rx ry same one.colours_of two.colours_of in
    let p = (one.of f x).0 c in
    let webs = webs_one g p.0 (numbered 0 cs) (numbered 0 ds) (numbers_one g 0 cs ds rx ry zip) in
    (two.of f x).1 (p.0, p.1, p.2 ∙ ap (λ (ws : List (Web × Role)). record { webs = ws; free = free_at roots g.needs p.0; saves = saves_at roots g.needs p.0 }) webs, p.3)

-- a call graph has one assignment of roots
abbrev pub RootsAreOne : Type 0
RootsAreOne = (ss : List Summary) (g : CallGraph) (xs ys : List ℕ) → IsGraphOf ss g → AreRoots ss g xs → AreRoots ss g ys → xs ≡ ys

pub database_one : RootsAreOne → (ss : List Summary) (colours : ℕ) (d e : List (List ℕ × Directives)) → IsDatabaseOf ss colours d → IsDatabaseOf ss colours e → d ≡ e
database_one roots_one ss colours d e one two =
    let graphs : two.graph ≡ one.graph = graph_one ss two.graph one.graph two.graph_of one.graph_of in
    let moved : AreRoots ss one.graph two.roots = subst (λ (g : CallGraph). AreRoots ss g two.roots) graphs two.are_roots in
    let roots : two.roots ≡ one.roots = roots_one ss one.graph two.roots one.roots one.graph_of moved one.are_roots in
    let other = subst (λ (g : CallGraph). IsFrom g colours two.roots two.coloured e) graphs (is_from ss colours e two) in
    let there = subst (λ (rs : List ℕ). IsFrom one.graph colours rs two.coloured e) roots other in
    let here = is_from ss colours d one in
    one_rising (λ p. p.0) d e one.rising two.rising
    (λ p. (from_one one.graph colours one.roots one.coloured two.coloured d e here there p.0 p.1, from_one one.graph colours one.roots two.coloured one.coloured e d there here p.0 p.1))

-- Lawful, sound databases with webs exist: bump and main have one web, which main enters. The root of both is `$start`,
-- which saves nothing for them, so that no register may be free; and main saves what bump may change.
use Rattle.std.specs.Prelude.{ℕ, ◌≡◌, ◌≢◌, ◌⊎◌, true, false, List, [], ◌∷◌, map, codes, Contains}
use Rattle.std.specs.List.{AllByRecursion}
use Rattle.std.proofs.Common.{arith, subst, sym, ap, refl, ◌∙◌, inl, inr}
use Rattle.pw_files.proofs.Standing.{Has, has_by, has_each}
use Rattle.pw_value.specs.ProgramNames.{start_name, putchar_name}
use Rattle.pw_db.specs.declared.database.Web.{Web}
use Rattle.pw_db.specs.declared.database.Role.{Role}
use Rattle.pw_db.specs.declared.database.Role.TheVariants.{Entry, Member}
use Rattle.pw_db.specs.declared.database.Directives.{Directives}
use Rattle.pw_db.specs.Database.{IsDirectives, IsDatabase}
use Rattle.pw_db_sound.specs.CallGraphs.{Node, Graph, Calls, Path, call, on, References, SayTheSame, IsMovable, IsInner, RootOf, outer, of_callers}
use Rattle.pw_db_sound.specs.Sound.{In, Needs, refers, keeps, IsFree, IsSaver, Sound}
use Rattle.pw_db_sound.specs.Sound as sound
use Rattle.pw_webflow.specs.Direction.{directed}
use Rattle.pw_alloc.specs.declared.located.Located.{Located}
use Rattle.pw_alloc.specs.Allocation.{entered_from}
use Rattle.pw_tests_runs.proofs.InWords.{in_words}
use Rattle.pw_run_languages.specs.Traces.{Called, MayChange, member, free}
use Rattle.pw_run_languages.specs.Calls.{FollowsCalls, Saves, AreGuarded}
use Rattle.pw_run_languages.specs.LawfulPrograms.{node_of, graph_of}
use Rattle.pw_run_languages.specs.Direction.{directed_by, directed_functions}
use Rattle.pw_tests_runs.proofs.Programs.{bumping, bump, bump_main, start, bump_directives, web, only}
use Rattle.pw_tests_runs.proofs.ProgramRows.{differ}

abbrev bump_name : List ℕ
bump_name = codes "bump"

abbrev main_name : List ℕ
main_name = codes "main"

abbrev pub n_web : Web
n_web = web 0 (codes "n") 3

abbrev graph : Graph
graph = graph_of bumping

-- ---- lawful

pub lawful_only : (role : Role) → IsDirectives (only n_web role)
lawful_only role = record { each = (record { low = omega arith; high = omega arith }, tt); numbers = (tt, tt); globals = (tt, tt); registers = (tt, tt); free = tt; saves = tt; apart = tt }

pub lawful_database : IsDatabase bump_directives
lawful_database = record { functions = (tt, (refl, tt)); directives = (lawful_only Member, (lawful_only Entry, tt)); agree = ((λ e. refl, tt), (tt, tt)) }

-- ---- who is in the web

one : {X : Type 0} (x y : X) → Has y (x ∷ []) → x ≡ y
one x y (inl e) = e
one x y (inr h) = absurd h

abbrev IsSeat : Web → List ℕ → Role → Type 0
IsSeat w f role = (w ≡ n_web) × (((f ≡ bump_name) × (role ≡ Member)) ⊎ ((f ≡ main_name) × (role ≡ Entry)))

abbrev seated : Role → Web × Role
seated role = (n_web, role)

held_by : (own : Role) (x : Web × Role) (ds : Directives) → only n_web own ≡ ds → Contains ds.webs x → seated own ≡ x
held_by own x ds e c = one (seated own) x (has_by x (seated own ∷ []) (subst (λ (ds : Directives). Contains ds.webs x) (sym e) c))

seat_by : (w : Web) (f : List ℕ) (role : Role) (ds : Directives) → Has (f, ds) bump_directives → Contains ds.webs (w, role) → IsSeat w f role
seat_by w f role ds (inl e) c =
    let s = held_by Member (w, role) ds (ap (λ (x : List ℕ × Directives). x.1) e) c in
    (sym (ap (λ (x : Web × Role). x.0) s), inl (sym (ap (λ (x : List ℕ × Directives). x.0) e), sym (ap (λ (x : Web × Role). x.1) s)))
seat_by w f role ds (inr (inl e)) c =
    let s = held_by Entry (w, role) ds (ap (λ (x : List ℕ × Directives). x.1) e) c in
    (sym (ap (λ (x : Web × Role). x.0) s), inr (sym (ap (λ (x : List ℕ × Directives). x.0) e), sym (ap (λ (x : Web × Role). x.1) s)))
seat_by w f role ds (inr (inr h)) c = absurd h

seat : (w : Web) (f : List ℕ) (role : Role) → sound.Has bump_directives f w role → IsSeat w f role
seat w f role h =
    let own : List ℕ × Directives = (f, h.directives) in
    seat_by w f role h.directives (has_by own bump_directives h.there) h.web

no_entry_of_bump : (role : Role) → role ≡ Entry → role ≡ Member → ⊥
no_entry_of_bump role e m = let same : Entry ≡ Member = sym e ∙ m in absurd cc

seats : (w : Web) (f : List ℕ) → In bump_directives w f → (w ≡ n_web) × ((f ≡ bump_name) ⊎ (f ≡ main_name))
seats w f i =
    let s = seat w f i.role i.has in
    (s.0, elim s.1 [ inl b ↦ inl b.0 | inr m ↦ inr m.0 ])

in_bump : In bump_directives n_web bump_name
in_bump = record { role = Member; has = record { directives = only n_web Member; there = (0, omega arith, refl); web = (0, omega arith, refl) } }

in_main : In bump_directives n_web main_name
in_main = record { role = Entry; has = record { directives = only n_web Entry; there = (1, omega arith, refl); web = (0, omega arith, refl) } }

so_in : (w : Web) (f g : List ℕ) → w ≡ n_web → f ≡ g → In bump_directives n_web g → In bump_directives w f
so_in w f g e same i = subst (λ (w : Web). In bump_directives w f) (sym e) (subst (In bump_directives n_web) (sym same) i)

-- ---- who calls whom

abbrev IsCall : List ℕ → List ℕ → Type 0
IsCall a b = ((a ≡ main_name) × ((b ≡ bump_name) ⊎ (b ≡ putchar_name))) ⊎ ((a ≡ start_name) × ((b ≡ main_name) ⊎ (b ≡ codes "exit")))

by_main : (b : List ℕ) → Has b (bump_name ∷ bump_name ∷ putchar_name ∷ []) → (b ≡ bump_name) ⊎ (b ≡ putchar_name)
by_main b (inl e) = inl (sym e)
by_main b (inr (inl e)) = inl (sym e)
by_main b (inr (inr (inl e))) = inr (sym e)
by_main b (inr (inr (inr h))) = absurd h

by_start : (b : List ℕ) → Has b (main_name ∷ codes "exit" ∷ []) → (b ≡ main_name) ⊎ (b ≡ codes "exit")
by_start b (inl e) = inl (sym e)
by_start b (inr (inl e)) = inr (sym e)
by_start b (inr (inr h)) = absurd h

calls_by : (a b : List ℕ) (n : Node) → Has n graph.nodes → n.name ≡ a → Has b n.calls → IsCall a b
unfolding graph_of
calls_by a b n (inl e) name h = absurd (subst (λ (n : Node). Has b n.calls) (sym e) h)
calls_by a b n (inr (inl e)) name h = inl (sym name ∙ sym (ap (λ (n : Node). n.name) e), by_main b (subst (λ (n : Node). Has b n.calls) (sym e) h))
calls_by a b n (inr (inr (inl e))) name h = inr (sym name ∙ sym (ap (λ (n : Node). n.name) e), by_start b (subst (λ (n : Node). Has b n.calls) (sym e) h))
calls_by a b n (inr (inr (inr none))) name h = absurd none

calls_so : (a b : List ℕ) → Calls graph a b → IsCall a b
calls_so a b c = calls_by a b c.node (has_by c.node graph.nodes c.there) c.name (has_by b c.node.calls c.call)

-- two names of one function, of which a test says that they are two
clash : (f a b : List ℕ) → a ≢ b → f ≡ a → f ≡ b → ⊥
clash f a b apart e g = apart (sym e ∙ g)

calls_bump : (a f : List ℕ) → f ≡ bump_name → Calls graph a f → a ≡ main_name
calls_bump a f e c = elim (calls_so a f c) [
  | inl m ↦ m.0
  | inr s ↦ absurd (elim s.1 [
    | inl m ↦ clash f bump_name main_name (differ bump_name main_name refl) e m
    | inr x ↦ clash f bump_name (codes "exit") (differ bump_name (codes "exit") refl) e x
  ])
]

calls_main : (a f : List ℕ) → f ≡ main_name → Calls graph a f → a ≡ start_name
calls_main a f e c = elim (calls_so a f c) [
  | inl m ↦ absurd (elim m.1 [
    | inl b ↦ clash f bump_name main_name (differ bump_name main_name refl) b e
    | inr x ↦ clash f putchar_name main_name (differ putchar_name main_name refl) x e
  ])
  | inr s ↦ s.0
]

called_by_main : (a f : List ℕ) → a ≡ main_name → Calls graph a f → (f ≡ bump_name) ⊎ (f ≡ putchar_name)
called_by_main a f e c = elim (calls_so a f c) [
  | inl m ↦ m.1
  | inr s ↦ absurd (clash a main_name start_name (differ main_name start_name refl) e s.0)
]

abbrev IsLeaf : List ℕ → Type 0
IsLeaf f = (f ≡ bump_name) ⊎ (f ≡ putchar_name)

leaf_apart : (a b : List ℕ) → bump_name ≢ b → putchar_name ≢ b → IsLeaf a → a ≡ b → ⊥
leaf_apart a b first second (inl e) same = clash a bump_name b first e same
leaf_apart a b first second (inr e) same = clash a putchar_name b second e same

leaf_calls : (a f : List ℕ) → IsLeaf a → Calls graph a f → ⊥
leaf_calls a f leaf c = elim (calls_so a f c) [
  | inl m ↦ leaf_apart a main_name (differ bump_name main_name refl) (differ putchar_name main_name refl) leaf m.0
  | inr s ↦ leaf_apart a start_name (differ bump_name start_name refl) (differ putchar_name start_name refl) leaf s.0
]

leaf_path : (a f : List ℕ) → IsLeaf a → Path graph a f → ⊥
leaf_path a f leaf (call _ _ c) = leaf_calls a f leaf c
leaf_path a f leaf (on _ b _ c rest) = leaf_calls a b leaf c

web_path : (a f : List ℕ) → (a ≡ bump_name) ⊎ (a ≡ main_name) → Path graph a f → IsLeaf f
web_path a f (inl e) path = absurd (leaf_path a f (inl e) path)
web_path a f (inr e) (call _ _ c) = called_by_main a f e c
web_path a f (inr e) (on _ b _ c rest) = absurd (leaf_path b f (called_by_main a b e c) rest)

-- the library refers to nothing
nodes_named : AllByRecursion (λ n. n.name ≢ putchar_name) graph.nodes
unfolding graph_of
nodes_named = (differ bump_name putchar_name refl, (differ main_name putchar_name refl, (differ start_name putchar_name refl, tt)))

no_reference : (f v : List ℕ) → f ≡ putchar_name → References graph f v → ⊥
no_reference f v e (inl r) = has_each (λ (n : Node). n.name ≢ putchar_name) graph.nodes r.node nodes_named (has_by r.node graph.nodes r.there) (r.name ∙ e)
no_reference f v e (inr r) = has_each (λ (n : Node). n.name ≢ putchar_name) graph.nodes r.node nodes_named (has_by r.node graph.nodes r.there) (r.name ∙ e)

not_in : (w : Web) (f g : List ℕ) → f ≡ g → bump_name ≢ g → main_name ≢ g → In bump_directives w f → ⊥
not_in w f g e first second i = elim (seats w f i).1 [
  | inl b ↦ clash f bump_name g first b e
  | inr m ↦ clash f main_name g second m e
]

needed : (w : Web) (f v : List ℕ) → w ≡ n_web → IsLeaf f → Needs graph bump_directives f v → In bump_directives w f
needed w f v e (inl b) needs = so_in w f bump_name e b in_bump
needed w f v e (inr x) (refers r) = absurd (no_reference f v x r)
needed w f v e (inr x) (keeps u global i) = absurd (not_in u f putchar_name x (differ bump_name putchar_name refl) (differ main_name putchar_name refl) i)

-- ---- sound

member_called : (w : Web) (f a : List ℕ) → IsSeat w f Member → Calls graph a f → In bump_directives w a
member_called w f a (e, inl b) c = so_in w a main_name e (calls_bump a f b.0 c) in_main
member_called w f a (e, inr m) c = absurd (no_entry_of_bump Member m.1 refl)

entry_called : (w : Web) (f a : List ℕ) → IsSeat w f Entry → Calls graph a f → In bump_directives w a → ⊥
entry_called w f a (e, inl b) c i = no_entry_of_bump Entry refl b.1
entry_called w f a (e, inr m) c i = not_in w a start_name (calls_main a f m.0 c) (differ bump_name start_name refl) (differ main_name start_name refl) i

eligible_so : (w : Web) → w ≡ n_web → Contains graph.eligible (w.global, w.kind)
unfolding graph_of
eligible_so w e = subst (λ (w : Web). Contains graph.eligible (w.global, w.kind)) (sym e) (0, omega arith, refl)

none_free : (f : List ℕ) (r : ℕ) → IsFree bump_directives f r → ⊥
none_free f r i =
    let own : List ℕ × Directives = (f, i.directives) in
    let none = has_each (λ (x : List ℕ × Directives). x.1.free ≡ []) bump_directives own (refl, (refl, tt)) (has_by own bump_directives i.there) in
    has_by r [] (subst (λ (rs : List ℕ). Contains rs r) none i.register)

none_saved : (f : List ℕ) (r : ℕ) → IsSaver bump_directives f r → ⊥
none_saved f r i =
    let own : List ℕ × Directives = (f, i.directives) in
    let none = has_each (λ (x : List ℕ × Directives). x.1.saves ≡ []) bump_directives own (refl, (refl, tt)) (has_by own bump_directives i.there) in
    has_by r [] (subst (λ (rs : List ℕ). Contains rs r) none i.register)

pub sound_database : Sound graph bump_directives
sound_database = record {
  member_callers = λ w f a has c. member_called w f a (seat w f Member has) c;
  entry_callers = λ w f a has c. entry_called w f a (seat w f Entry has) c;
  start = λ w has. not_in w start_name start_name refl (differ bump_name start_name refl) (differ main_name start_name refl) (record { role = Member; has = has });
  references = λ w a f i path needs. needed w f w.global (seats w a i).0 (web_path a f (seats w a i).1 path) needs;
  between = λ w a f b i there back j. absurd (leaf_path f b (web_path a f (seats w a i).1 there) back);
  registers = λ w u f i j apart. absurd (apart ((seats w f i).0 ∙ sym (seats u f j).0));
  eligible = λ w f i. eligible_so w (seats w f i).0;
  writes = λ w f i written. ap (λ (w : Web). w.writes) (seats w f i).0;
  free = λ f r i. absurd (none_free f r i);
  saves = λ f r i w has. absurd (none_saved f r i);
}

-- ---- roots

main_calls_bump : Calls graph main_name bump_name
unfolding graph_of
main_calls_bump = record { node = node_of bumping bump_main; there = (1, omega arith, refl); name = refl; call = (0, omega arith, refl) }

start_calls_main : Calls graph start_name main_name
unfolding graph_of
start_calls_main = record { node = node_of bumping start; there = (2, omega arith, refl); name = refl; call = (0, omega arith, refl) }

bump_moves : IsMovable graph bump_name
unfolding graph_of
bump_moves = record { node = node_of bumping bump; there = (0, omega arith, refl); name = refl; defined = refl; taken = refl }

main_moves : IsMovable graph main_name
unfolding graph_of
main_moves = record { node = node_of bumping bump_main; there = (1, omega arith, refl); name = refl; defined = refl; taken = refl }

bump_inner : IsInner graph bump_name
bump_inner = record {
  movable = bump_moves;
  other = differ bump_name start_name refl;
  once = λ p. leaf_path bump_name bump_name (inl refl) p;
  caller = main_name;
  called = main_calls_bump;
}

main_inner : IsInner graph main_name
main_inner = record {
  movable = main_moves;
  other = differ main_name start_name refl;
  once = λ p. leaf_apart main_name main_name (differ bump_name main_name refl) (differ putchar_name main_name refl) (web_path main_name main_name (inr refl) p) refl;
  caller = start_name;
  called = start_calls_main;
}

start_root : RootOf graph start_name start_name
start_root = outer start_name (λ i. i.other refl)

main_root : RootOf graph main_name start_name
main_root = of_callers main_name start_name main_inner (λ a c. subst (λ (n : List ℕ). RootOf graph n start_name) (sym (calls_main a main_name refl c)) start_root)

bump_root : RootOf graph bump_name start_name
bump_root = of_callers bump_name start_name bump_inner (λ a c. subst (λ (n : List ℕ). RootOf graph n start_name) (sym (calls_bump a bump_name refl c)) main_root)

-- a register that nothing saves above may not be free
abbrev freed : Directives
freed = record { webs = []; free = 15 ∷ []; saves = [] }

free_unsound : Sound graph ((bump_name, freed) ∷ []) → ⊥
free_unsound s =
    let above = s.free bump_name 15 (record { directives = freed; there = (0, omega arith, refl); register = (0, omega arith, refl) }) in
    let own : List ℕ × Directives = (above.root, above.saver.directives) in
    let none = has_each (λ (x : List ℕ × Directives). x.1.saves ≡ []) ((bump_name, freed) ∷ []) own (refl, tt) (has_by own ((bump_name, freed) ∷ []) above.saver.there) in
    has_by 15 [] (subst (λ (rs : List ℕ). Contains rs 15) none above.saver.register)

-- ---- what bump may change, main saves

abbrev functions : List Located
functions = map in_words (directed_functions bumping bump_directives)

main_saves : Saves functions main_name 3
unfolding directed in_words entered_from
main_saves = record { function = in_words (directed_by bump_directives bump_main); there = (1, omega arith, refl); named = refl; saved = (0, omega arith, refl) }

saved_above : (a b : List ℕ) (r : ℕ) (w : Web) → IsSeat w b Member → w.reg ≡ r → Calls graph a b → Saves functions a r
saved_above a b r w (e, inl s) is c =
    let three : 3 ≡ r = sym (ap (λ (w : Web). w.reg) e) ∙ is in
    subst (λ (n : List ℕ). Saves functions n r) (sym (calls_bump a b s.0 c)) (subst (λ (q : ℕ). Saves functions main_name q) three main_saves)
saved_above a b r w (e, inr m) is c = absurd (no_entry_of_bump Member m.1 refl)

pub guarded : AreGuarded graph bump_directives functions
guarded a b r c (member m) = inr (saved_above a b r m.web (seat m.web b Member m.has) m.is c)
guarded a b r c (free ds there k) = absurd (none_free b r (record { directives = ds; there = there; register = k }))

-- where nothing is saved, main may change no more than it may otherwise
main_keeps : (r : ℕ) → MayChange bump_directives main_name r → ⊥
main_keeps r (member m) = elim (seat m.web main_name Member m.has).1 [
  | inl b ↦ clash main_name bump_name main_name (differ bump_name main_name refl) b.0 refl
  | inr m ↦ no_entry_of_bump Member m.1 refl
]
main_keeps r (free ds there k) = none_free main_name r (record { directives = ds; there = there; register = k })

unguarded : AreGuarded graph bump_directives [] → ⊥
unguarded g =
    let has : sound.Has bump_directives bump_name n_web Member = record { directives = only n_web Member; there = (0, omega arith, refl); web = (0, omega arith, refl) } in
    elim (g main_name bump_name 3 main_calls_bump (member (record { web = n_web; has = has; is = refl }))) [
      | inl m ↦ main_keeps 3 m
      | inr s ↦ has_by s.function [] s.there
    ]

-- ---- calls of a trace

main_called : FollowsCalls {B = ℕ} {V = ℕ} graph (Called main_name [] [] ∷ Called start_name [] [] ∷ [])
main_called = (start_calls_main, (refl, tt))

-- `$start` does not call bump
bump_called : FollowsCalls {B = ℕ} {V = ℕ} graph (Called bump_name [] [] ∷ Called start_name [] [] ∷ []) → ⊥
bump_called f = differ start_name main_name refl (calls_bump start_name bump_name refl f.0)

-- ---- functions that may be moved

-- bump, were its address taken
abbrev taken_node : Node
taken_node = record { name = bump_name; calls = []; reads = []; writes = []; defined = true; taken = true }

abbrev taken_graph : Graph
taken_graph = record { eligible = []; nodes = taken_node ∷ [] }

taken_stays : IsMovable taken_graph bump_name → ⊥
taken_stays m =
    let same : taken_node ≡ m.node = one taken_node m.node (has_by m.node (taken_node ∷ []) m.there) in
    let taken : true ≡ false = ap (λ (n : Node). n.taken) same ∙ m.taken in
    absurd cc

-- so no graph in which it may be moved says the same
taken_differs : SayTheSame graph taken_graph → ⊥
taken_differs s = taken_stays ((s.movable bump_name).0 bump_moves)

-- Sets by their nodes.
use Rattle.std.proofs.Common.{◌≡◌, Option, Some, None, slice_get, ℕ, zero, suc, ◌+◌, ◌-◌, ◌<◌, ◌≤◌, Bool, true, false, ◌||◌, List, [], ◌∷◌, ◌++◌, length, get_or, map, refl, sym, ap, ◌∙◌, subst, append_assoc, length-append, arith}
use Rattle.std.proofs.lemmas.List.{append-nil, get_or_append_left, map-append}
use Rattle.std.proofs.lemmas.List.Folds.{list_any-append}
use Rattle.std.proofs.lemmas.Slice.Eq.{bytes_eq-Decides}
use Rattle.std.specs.Borrow.{Bor}
use Rattle.std.specs.List.{list_any}
use Rattle.std.specs.Prelude.{fold, filter, bytes_eq, if◌then◌else◌}
use Rattle.pw_cpp_sets.specs.Sets.{AreBehind, IsMadeBy, Keeps, Known, Names, contains, set_at, sets_of, shared, with_node}
use Rattle.pw_cpp_sets.specs.declared.sets.Node.{Node}

-- a name as contracts see it
abbrev pub said : Bor (List ℕ) → List ℕ
said name = name.now

-- ---- what is known stays

pub keeps-same : (known : Known) → Keeps known known
keeps-same known = record { count = omega arith; same = λ number h. refl }

pub keeps-more : (a b c : Known) → Keeps a b → Keeps b c → Keeps a c
keeps-more a b c h k = record { count = omega (arith, h.count, k.count); same = λ number l. k.same number (omega (arith, l, h.count)) ∙ h.same number l }

keeps-push : (known : Known) (names : Names) → Keeps known (known ++ names ∷ [])
keeps-push known names = record { count = omega (arith, length-append known (names ∷ [])); same = λ number h. get_or_append_left known (names ∷ []) [] number h }

-- the last of a list
get-last : {A : Type 0} (xs : List A) (x d : A) → get_or (xs ++ x ∷ []) (length xs) d ≡ x
get-last [] x d = refl
get-last (y ∷ xs) x d = get-last xs x d

-- ---- nodes

fold-append : {A B : Type 0} (f : B → A → B) (b : B) (xs ys : List A) → fold f b (xs ++ ys) ≡ fold f (fold f b xs) ys
fold-append f b [] ys = refl
fold-append f b (x ∷ xs) ys = fold-append f (f b x) xs ys

pub sets-more : (nodes : List Node) (node : Node) → sets_of (nodes ++ node ∷ []) ≡ with_node (sets_of nodes) node
sets-more nodes node = fold-append with_node ([] ∷ []) nodes (node ∷ [])

grows : (nodes : List Node) (known : Known) → length (fold with_node known nodes) ≡ length known + length nodes
grows [] known = omega arith
grows (node ∷ nodes) known = grows nodes (with_node known node) ∙ omega (arith, length-append known ((node.name.now ∷ set_at known node.rest) ∷ []))

-- one set more than nodes
pub sets-count : (nodes : List Node) → length (sets_of nodes) ≡ 1 + length nodes
sets-count nodes = grows nodes ([] ∷ [])

-- a set that is known is the empty one or a node's
pub set-within : (nodes : List Node) (known : Known) (set : ℕ) → sets_of nodes ≡ known → set < length known → set ≤ length nodes
set-within nodes known set e h = omega (arith, h, ap length e, sets-count nodes)

pub behind-more : (count : ℕ) (nodes : List Node) (node : Node) → AreBehind count nodes → node.rest ≤ count + length nodes → AreBehind count (nodes ++ node ∷ [])
behind-more count [] node h e = (omega (arith, e), tt)
behind-more count (n ∷ nodes) node h e = (h.0, behind-more (suc count) nodes node h.1 (omega (arith, e)))

fold-keeps : (nodes : List Node) (known : Known) → Keeps known (fold with_node known nodes)
fold-keeps [] known = keeps-same known
fold-keeps (node ∷ nodes) known =
    keeps-more known (with_node known node) (fold with_node (with_node known node) nodes) (keeps-push known (node.name.now ∷ set_at known node.rest)) (fold-keeps nodes (with_node known node))

-- the set that the last node makes
made-last : (known : Known) (node : Node) → set_at (with_node known node) (length known) ≡ node.name.now ∷ set_at known node.rest
made-last known node = get-last known (node.name.now ∷ set_at known node.rest) []

pub record MakesSet (final : Known) (number : ℕ) (node : Node) (most : ℕ) : Type 0 where
  pub is : set_at final number ≡ node.name.now ∷ set_at final node.rest
  pub before : node.rest ≤ most

node-in : (nodes : List Node) (known : Known) (count : ℕ) → length known ≡ suc count → AreBehind count nodes → (k : ℕ) (node : Node) → slice_get nodes k ≡ Some node
    → MakesSet (fold with_node known nodes) (suc count + k) node (count + k)
node-in [] known count l h k node e = absurd (none_some e)
  where
    none_some : {x : Node} → None ≡ Some x → ⊥
    none_some e = cc
node-in (n ∷ nodes) known count l h zero node e = let P : Node → Type 0 = λ x. MakesSet (fold with_node known (n ∷ nodes)) (suc count + 0) x (count + 0) in subst P (same e) first
  where
    same : Some n ≡ Some node → n ≡ node
    same e = cc

    final : Known
    final = fold with_node (with_node known n) nodes

    keeps : Keeps (with_node known n) final
    keeps = fold-keeps nodes (with_node known n)

    all : Keeps known final
    all = keeps-more known (with_node known n) final (keeps-push known (n.name.now ∷ set_at known n.rest)) keeps

    first : MakesSet (fold with_node known (n ∷ nodes)) (suc count + 0) n (count + 0)
    first = record {
      is =
          ap (set_at final) (omega (arith, l))
          ∙ keeps.same (length known) (omega (arith, length-append known ((n.name.now ∷ set_at known n.rest) ∷ [])))
          ∙ made-last known n
          ∙ ap (λ x. n.name.now ∷ x) (sym (all.same n.rest (omega (arith, l, h.0))));
      before = omega (arith, h.0);
    }
node-in (n ∷ nodes) known count l h (suc k) node e =
    let r = node-in nodes (with_node known n) (suc count) (omega (arith, l, length-append known ((n.name.now ∷ set_at known n.rest) ∷ []))) h.1 k node e in
    let P : ℕ → Type 0 = λ x. MakesSet (fold with_node known (n ∷ nodes)) x node (count + suc k) in
    let Q : ℕ → Type 0 = λ x. MakesSet (fold with_node (with_node known n) nodes) (suc (suc count) + k) node x in
    subst P (omega arith) (subst Q (omega arith) r)

-- a node makes the set of its number
pub made-by : (nodes : List Node) (set : ℕ) (node : Node) → AreBehind 0 nodes → 0 < set → slice_get nodes (set - 1) ≡ Some node → IsMadeBy nodes set node
made-by nodes set node h some e =
    let r = node-in nodes ([] ∷ []) 0 refl h (set - 1) node e in
    let same : suc 0 + (set - 1) ≡ set = omega (arith, some) in
    record { adds = ap (set_at (sets_of nodes)) (sym same) ∙ r.is; before = omega (arith, r.before, some) }

-- number 0 is the empty set
pub empty-set : (nodes : List Node) (set : ℕ) → set ≡ 0 → set_at (sets_of nodes) set ≡ []
empty-set nodes set e = ap (set_at (sets_of nodes)) e ∙ (fold-keeps nodes ([] ∷ [])).same 0 (omega arith)

-- ---- what steps from a set to the others find

module _ (nodes : List Node) (set : ℕ) (node : Node) (m : IsMadeBy nodes set node) where
  -- a name is in a set where it is the first one, or in the others
  pub found-first : (name : List ℕ) → bytes_eq name node.name.now ≡ true → contains (set_at (sets_of nodes) set) name ≡ true
  found-first name e = ap (λ x. contains x name) m.adds ∙ first
    where
      first : (bytes_eq name node.name.now || contains (set_at (sets_of nodes) node.rest) name) ≡ true
      first = rw e refl

  pub found-later : (name : List ℕ) → bytes_eq name node.name.now ≡ false → contains (set_at (sets_of nodes) set) name ≡ contains (set_at (sets_of nodes) node.rest) name
  found-later name e = ap (λ x. contains x name) m.adds ∙ later
    where
      later : (bytes_eq name node.name.now || contains (set_at (sets_of nodes) node.rest) name) ≡ contains (set_at (sets_of nodes) node.rest) name
      later = rw e refl

  -- the names of a set are its first one and those of the others
  pub names-more : (found : List (Bor (List ℕ))) → map said (found ++ node.name ∷ []) ++ set_at (sets_of nodes) node.rest ≡ map said found ++ set_at (sets_of nodes) set
  names-more found =
      ap (λ x. x ++ set_at (sets_of nodes) node.rest) (map-append said found (node.name ∷ []))
      ∙ append_assoc (map said found) (node.name.now ∷ []) (set_at (sets_of nodes) node.rest)
      ∙ ap (λ x. map said found ++ x) (sym m.adds)

  pub shared-more : (found : List (Bor (List ℕ))) (other : Names) → contains other node.name.now ≡ true
      → map said (found ++ node.name ∷ []) ++ shared (set_at (sets_of nodes) node.rest) other ≡ map said found ++ shared (set_at (sets_of nodes) set) other
  shared-more found other e =
      ap (λ x. x ++ shared (set_at (sets_of nodes) node.rest) other) (map-append said found (node.name ∷ []))
      ∙ append_assoc (map said found) (node.name.now ∷ []) (shared (set_at (sets_of nodes) node.rest) other)
      ∙ ap (λ x. map said found ++ x) (kept ∙ ap (λ x. shared x other) (sym m.adds))
    where
      kept : node.name.now ∷ shared (set_at (sets_of nodes) node.rest) other ≡ shared (node.name.now ∷ set_at (sets_of nodes) node.rest) other
      kept = rw e refl

  pub shared-less : (other : Names) → contains other node.name.now ≡ false → shared (set_at (sets_of nodes) node.rest) other ≡ shared (set_at (sets_of nodes) set) other
  shared-less other e = dropped ∙ ap (λ x. shared x other) (sym m.adds)
    where
      dropped : shared (set_at (sets_of nodes) node.rest) other ≡ shared (node.name.now ∷ set_at (sets_of nodes) node.rest) other
      dropped = rw e refl

module _ (nodes : List Node) (set : ℕ) (node : Node) (m : IsMadeBy nodes set node) (found : List (Bor (List ℕ))) (other : Names) where
  -- what two sets share grows by a name that is in both
  pub shared-step : (wanted : Bool) → wanted ≡ contains other node.name.now
      → map said (if wanted then found ++ node.name ∷ [] else found) ++ shared (set_at (sets_of nodes) node.rest) other ≡ map said found ++ shared (set_at (sets_of nodes) set) other
  shared-step true e = shared-more nodes set node m found other (sym e)
  shared-step false e = ap (λ x. map said found ++ x) (shared-less nodes set node m other (sym e))

-- nothing is left of the empty set
pub names-all : (found : List (Bor (List ℕ))) (left whole : Names) → map said found ++ left ≡ whole → left ≡ [] → map said found ≡ whole
names-all found left whole h e = sym (append-nil (map said found)) ∙ ap (λ x. map said found ++ x) (sym e) ∙ h

-- a set shares all with itself
all_in : (before names : Names) → filter (contains (before ++ names)) names ≡ names
all_in before [] = refl
all_in before (name ∷ names) = by (contains (before ++ name ∷ names) name) refl there (all_in (before ++ name ∷ []) names)
  where
    there : contains (before ++ name ∷ names) name ≡ true
    there = list_any-append (bytes_eq name) before (name ∷ names) ∙ ap (λ x. list_any (bytes_eq name) before || (x || list_any (bytes_eq name) names)) ((bytes_eq-Decides name name).1 refl) ∙ or_true (list_any (bytes_eq name) before)
      where
        or_true : (b : Bool) → (b || true) ≡ true
        or_true true = refl
        or_true false = refl

    by : (b : Bool) → contains (before ++ name ∷ names) name ≡ b → b ≡ true → filter (contains ((before ++ name ∷ []) ++ names)) names ≡ names
        → filter (contains (before ++ name ∷ names)) (name ∷ names) ≡ name ∷ names
    by b e t below = rw (e ∙ t) (ap (λ x. name ∷ x) (ap (λ x. filter (contains x) names) (sym (append_assoc before (name ∷ []) names)) ∙ below))

pub shared-self : (names : Names) → shared names names ≡ names
shared-self names = all_in [] names

-- a name that is put in front of a set, and those before it
pub names-front : (before : List (Bor (List ℕ))) (name : Bor (List ℕ)) (done : Names) → map said (before ++ name ∷ []) ++ done ≡ map said before ++ name.now ∷ done
names-front before name done = ap (λ x. x ++ done) (map-append said before (name ∷ [])) ∙ append_assoc (map said before) (name.now ∷ []) done

-- ---- a set more

module _ (nodes new : List Node) (known : Known) (node : Node) (e : sets_of nodes ≡ known) (n : new ≡ nodes ++ node ∷ []) where
  pub known-more : sets_of new ≡ with_node known node
  known-more = ap sets_of n ∙ sets-more nodes node ∙ ap (λ x. with_node x node) e

  pub keeps-with : Keeps known (sets_of new)
  keeps-with = let P : Known → Type 0 = λ x. Keeps known x in subst P (sym known-more) (keeps-push known (node.name.now ∷ set_at known node.rest))

  -- the new set has the number of the nodes
  pub number-with : (number : ℕ) → number ≡ length new → (number < length (sets_of new)) × (set_at (sets_of new) number ≡ node.name.now ∷ set_at known node.rest)
  number-with number c = (omega (arith, c, sets-count new), ap (λ x. set_at x number) known-more ∙ ap (set_at (with_node known node)) same ∙ made-last known node)
    where
      same : number ≡ length known
      same = omega (arith, c, ap length n, length-append nodes (node ∷ []), ap length e, sets-count nodes)

  -- and the set that it names is known before it
  pub behind-with : AreBehind 0 nodes → node.rest < length known → AreBehind 0 new
  behind-with h w = let P : List Node → Type 0 = λ x. AreBehind 0 x in subst P (sym n) (behind-more 0 nodes node h (omega (arith, set-within nodes known node.rest e w)))

-- where nothing changes, all is kept
pub keeps-all : (nodes new : List Node) (known : Known) → sets_of nodes ≡ known → new ≡ nodes → Keeps known (sets_of new)
keeps-all nodes new known e n = let P : Known → Type 0 = λ x. Keeps known x in subst P (sym (ap sets_of n ∙ e)) (keeps-same known)

-- what was found to be shared by two sets, with nothing behind it
pub shared-known : (nodes slice : List Node) (known : Known) (one other : ℕ) (found : Names) → sets_of nodes ≡ known → slice ≡ nodes
    → found ≡ shared (set_at (sets_of slice) one) (set_at (sets_of slice) other) → found ++ set_at known 0 ≡ shared (set_at known one) (set_at known other)
shared-known nodes slice known one other found v s e =
    ap (λ x. found ++ x) (ap (λ k. set_at k 0) (sym v) ∙ empty-set nodes 0 refl)
    ∙ append-nil found
    ∙ e
    ∙ ap (λ k. shared (set_at k one) (set_at k other)) (ap sets_of s ∙ v)

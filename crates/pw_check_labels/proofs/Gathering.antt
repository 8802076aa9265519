-- A rule over a list, item by item: what was made so far stands before what the rest makes.
use Rattle.std.proofs.Common.{◌≡◌, ℕ, ◌+◌, ◌<◌, ◌≤◌, Result, Ok, Err, List, [], ◌∷◌, ◌++◌, length, get_or, drop, refl, ap, sym, ◌∙◌}
use Rattle.std.proofs.lemmas.List.{at_drop_more, at_drop_all}
use Rattle.pw_check_walk.specs.declared.constraints.CheckFault.{CheckFault}
use Rattle.pw_check_walk.specs.Calls.{Obeys}
use Rattle.pw_check_walk.specs.Walks.{Walk, Done, Passing, Closed, bind, outcome}
use Rattle.pw_check_labels.specs.Gathered.{gathered}
use Rattle.pw_check_walk.proofs.BindLaws.{bind_made}
use Rattle.pw_check_walk.proofs.CallLaws.{bind_assoc, same_call, step_err}

pub gathered_push : {X Acc : Type 0} (cons : X → Acc → Acc) (xs : List X) (x : X) (rest : Acc)
    → gathered cons (xs ++ x ∷ []) rest ≡ gathered cons xs (cons x rest)
gathered_push cons [] x rest = refl
gathered_push cons (y ∷ ys) x rest = ap (cons y) (gathered_push cons ys x rest)

-- a walk with those before what it makes
abbrev pub behind_all : {S X Acc : Type 0} → (X → Acc → Acc) → List X → Walk (Acc × S) → Walk (Acc × S)
behind_all {S} {X} {Acc} cons xs w = bind w (λ (u : Acc × S). Done (gathered cons xs u.0, u.1))

-- the same of one
abbrev pub behind_one : {S X Acc : Type 0} → (X → Acc → Acc) → X → Walk (Acc × S) → Walk (Acc × S)
behind_one {S} {X} {Acc} cons x w = bind w (λ (u : Acc × S). Done (cons x u.0, u.1))

pub behind_none : {S X Acc : Type 0} (cons : X → Acc → Acc) (w : Walk (Acc × S)) → behind_all cons [] w ≡ w
unfolding bind
behind_none cons (Done a) = refl
behind_none cons (Passing p rest) = ap (Passing p) (behind_none cons rest)
behind_none cons (Closed constraint token) = refl

behind_pushed : {S X Acc : Type 0} (cons : X → Acc → Acc) (xs : List X) (x : X) (w : Walk (Acc × S))
    → behind_all cons xs (behind_one cons x w) ≡ behind_all cons (xs ++ x ∷ []) w
unfolding bind
behind_pushed cons xs x (Done a) = ap (λ y. Done (y, a.1)) (sym (gathered_push cons xs x a.0))
behind_pushed cons xs x (Passing p rest) = ap (Passing p) (behind_pushed cons xs x rest)
behind_pushed cons xs x (Closed constraint token) = refl

module _ {S Item X Acc : Type 0} (rule : List Item → S → Walk (Acc × S)) (one : Item → S → Walk (X × S)) (cons : X → Acc → Acc)
    (more : (i : Item) (is : List Item) (s : S) → rule (i ∷ is) s ≡ bind (one i s) (λ t. behind_one cons t.0 (rule is t.1))) where
  -- what those from a place on come to, behind those made
  abbrev pub left_over : List Item → ℕ → List X → S → Walk (Acc × S)
  left_over all n xs s = behind_all cons xs (rule (drop n all) s)

  split : (all : List Item) (n : ℕ) (xs : List X) (s : S) (i : Item) → n < length all → i ≡ get_or all n i
      → left_over all n xs s
      ≡ bind (one i s) (λ t. behind_all cons xs (behind_one cons t.0 (rule (drop (n + 1) all) t.1)))
  split all n xs s i less is =
      at_drop_more (λ ys. behind_all cons xs (rule ys s)) all n i less
      ∙ ap (λ y. behind_all cons xs (rule (y ∷ drop (n + 1) all) s)) (sym is)
      ∙ ap (behind_all cons xs) (more i (drop (n + 1) all) s)
      ∙ bind_assoc (one i s) (λ (t : X × S). behind_one cons t.0 (rule (drop (n + 1) all) t.1)) (λ (u : Acc × S). Done (gathered cons xs u.0, u.1))

  -- an item is made
  pub item_made : (all : List Item) (n : ℕ) (xs : List X) (s mid : S) (i : Item) (x : X) {w : Result (Acc × S) CheckFault}
      → w ≡ outcome (left_over all n xs s) → n < length all → i ≡ get_or all n i → outcome (one i s) ≡ Ok (x, mid)
      → w ≡ outcome (left_over all (n + 1) (xs ++ x ∷ []) mid)
  item_made all n xs s mid i x before less is made =
      before
      ∙ ap outcome (split all n xs s i less is)
      ∙ bind_made (one i s) _ (x, mid) made
      ∙ ap outcome (behind_pushed cons xs x (rule (drop (n + 1) all) mid))

  -- the fault of an item is that of the whole
  pub item_stopped : {Q R : Type 0} {seen : Q → X} {view : R → Acc} {first : Result Q CheckFault} {r : Result R CheckFault} {fault : CheckFault}
      {mid left : S} (walk : Walk (Acc × S)) (all : List Item) (n : ℕ) (xs : List X) (s : S) (i : Item)
      → outcome walk ≡ outcome (left_over all n xs s) → n < length all → i ≡ get_or all n i
      → Obeys seen (one i s) first mid → first ≡ Err fault → r ≡ Err fault → Obeys view walk r left
  item_stopped {Q} {R} {seen} {view} {first} {r} {fault} {mid} {left} walk all n xs s i before less is o stopped same =
      same_call view walk _ r left
      (before ∙ ap outcome (split all n xs s i less is))
      (step_err (λ (t : X × S). behind_all cons xs (behind_one cons t.0 (rule (drop (n + 1) all) t.1))) o stopped same)

  -- behind the last one
  pub all_made : (all : List Item) (n : ℕ) (xs : List X) (s : S) (none : Acc) {w : Result (Acc × S) CheckFault}
      → w ≡ outcome (left_over all n xs s) → length all ≤ n → rule [] s ≡ Done (none, s) → w ≡ Ok (gathered cons xs none, s)
  unfolding bind outcome
  all_made all n xs s none before end empty =
      before ∙ at_drop_all (λ ys. outcome (behind_all cons xs (rule ys s))) all n end ∙ ap (λ v. outcome (behind_all cons xs v)) empty

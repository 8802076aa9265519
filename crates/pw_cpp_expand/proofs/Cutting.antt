-- The arguments of a call, as they are cut.
use Rattle.std.proofs.Common.{◌≡◌, ℕ, ◌+◌, ◌-◌, ◌<◌, ◌≤◌, ◌==◌, Bool, true, false, List, [], ◌∷◌, ◌++◌, length, length-append, map, refl, sym, ap, ◌∙◌, subst, All, arith}
use Rattle.std.proofs.lemmas.List.Elements.{All-nil, All-push}
use Rattle.std.specs.Prelude.{if◌then◌else◌}
use Rattle.std.proofs.lemmas.List.{map-append}
use Rattle.pw_cpp_expand.specs.Calls.{Called, Closed, Open, Fails, Collects, CollectsCut, cut_of, ends, faulty, lengthened, looks, next, one_token, open_end, part_of, within}
use Rattle.pw_cpp_expand.specs.declared.arguments.Arguments.{Arguments}
use Rattle.pw_cpp_expand.specs.declared.arguments.Cut.{Cut}
use Rattle.pw_cpp_expand.specs.declared.arguments.Cut.TheVariants as cut
use Rattle.pw_cpp_expand.specs.Lookahead.{At, Faulty, Lexeme, LooksAhead}
use Rattle.pw_cpp_expand.specs.Numbered.{AreArgumentsKnown, AreKnown, HaveEmpty, IsPut, all_named, at_hand, named}
use Rattle.pw_cpp_expand.specs.declared.arguments.Part.{Part}
use Rattle.pw_cpp_expand.specs.declared.arguments.Part.TheVariants as part
use Rattle.pw_cpp_expand.specs.declared.progress.ExpandFault.{ExpandFault}
use Rattle.pw_cpp_expand.specs.declared.progress.Lexeme.{Lexeme as Numbered}
use Rattle.pw_cpp_expand.specs.declared.progress.Mode.{Mode}
use Rattle.pw_cpp_expand.specs.declared.progress.Progress.{Progress}
use Rattle.pw_cpp_sets.specs.Sets.{Known}

-- the last argument has one more token
pub lengthened-last : (whole : List (List Lexeme)) (last : List Lexeme) (lexeme : Lexeme) → lengthened (whole ++ last ∷ []) lexeme ≡ whole ++ (last ++ lexeme ∷ []) ∷ []
lengthened-last [] last lexeme = refl
lengthened-last (first ∷ []) last lexeme = refl
lengthened-last (first ∷ second ∷ whole) last lexeme = ap (λ x. first ∷ x) (lengthened-last (second ∷ whole) last lexeme)

-- the arguments that are read so far
abbrev pub so_far : Known → List (List Numbered) → List Numbered → List (List Lexeme)
so_far known whole last = map (all_named known) whole ++ all_named known last ∷ []

pub so-far-more : (known : Known) (whole : List (List Numbered)) (last : List Numbered) (lexeme : Numbered) → lengthened (so_far known whole last) (named known lexeme) ≡ so_far known whole (last ++ lexeme ∷ [])
so-far-more known whole last lexeme =
    lengthened-last (map (all_named known) whole) (all_named known last) (named known lexeme)
    ∙ ap (λ x. map (all_named known) whole ++ x ∷ []) (sym (map-append (named known) last (lexeme ∷ [])))

pub so-far-next : (known : Known) (whole : List (List Numbered)) (last : List Numbered) → so_far known whole last ++ [] ∷ [] ≡ so_far known (whole ++ last ∷ []) []
so-far-next known whole last = ap (λ x. x ++ [] ∷ []) (sym (map-append (all_named known) whole (last ∷ [])))

-- What is behind a token comes of what is before it; so the beginning comes to what is left comes to.
abbrev pub LeadsTo : List ℕ → List ℕ → Mode → List Numbered → Progress → ℕ → List (List Numbered) → List Numbered → List Numbered → Progress → Type 0
LeadsTo source text mode pending p depth whole last left q =
    (known : Known) → HaveEmpty known → (called : Called)
    → Collects source text mode depth (so_far known whole last) (at_hand known left) q called → Collects source text mode 0 ([] ∷ []) (at_hand known pending) p called

-- at first one argument, which is empty
pub leads-start : (source text : List ℕ) (mode : Mode) (start : List Numbered) (s : Progress) (whole : List (List Numbered)) (last : List Numbered) → whole ≡ [] → last ≡ []
    → LeadsTo source text mode start s 0 whole last start s
leads-start source text mode start s whole last w l known empty called c =
    let P : List (List Numbered) → Type 0 = λ x. Collects source text mode 0 (so_far known x last) (at_hand known start) s called in
    let Q : List Numbered → Type 0 = λ x. Collects source text mode 0 (so_far known [] x) (at_hand known start) s called in
    subst Q l (subst P w c)

module _ (source text : List ℕ) (mode : Mode) (start : List Numbered) (s : Progress) (whole : List (List Numbered)) (last pending : List Numbered) (p : Progress) (depth : ℕ)
    (leads : LeadsTo source text mode start s depth whole last pending p) where
  -- a line that has to be read has a fault
  pub leads-faulty : (f : ExpandFault) → ((known : Known) → HaveEmpty known → LooksAhead text mode (at_hand known pending) p (Faulty f)) → (known : Known) → HaveEmpty known
      → Collects source text mode 0 ([] ∷ []) (at_hand known start) s (Fails f)
  leads-faulty f looked known empty =
      leads known empty (Fails f)
      (looks depth (so_far known whole last) (at_hand known pending) p (Faulty f) (Fails f) (looked known empty) (faulty depth (so_far known whole last) f))

  -- nothing is ahead
  pub leads-open : (middle : List Numbered) (q : Progress) → middle ≡ [] → ((known : Known) → HaveEmpty known → LooksAhead text mode (at_hand known pending) p (At (at_hand known middle) q))
      → (known : Known) → HaveEmpty known → Collects source text mode 0 ([] ∷ []) (at_hand known start) s Open
  leads-open middle q none looked known empty =
      let P : List Numbered → Type 0 = λ x. LooksAhead text mode (at_hand known pending) p (At (at_hand known x) q) in
      leads known empty Open
      (looks depth (so_far known whole last) (at_hand known pending) p (At [] q) Open (subst P none (looked known empty)) (open_end depth (so_far known whole last) q))

module _ (source text : List ℕ) (mode : Mode) (start : List Numbered) (s : Progress) (whole : List (List Numbered)) (last : List Numbered) (pending : List Numbered) (p : Progress)
    (mark : Numbered) (left : List Numbered) (q : Progress) (depth : ℕ)
    (ahead : (known : Known) → HaveEmpty known → LooksAhead text mode (at_hand known pending) p (At (named known mark ∷ at_hand known left) q))
    (leads : LeadsTo source text mode start s depth whole last pending p) where
  -- what comes of the next token, by what it does
  by_cut : (what : Cut) → ((known : Known) → what ≡ cut_of (part_of source (named known mark)) depth) → (known : Known) → HaveEmpty known → (called : Called)
      → CollectsCut source text mode what (so_far known whole last) (named known mark) (at_hand known left) q called → Collects source text mode 0 ([] ∷ []) (at_hand known start) s called
  by_cut what is known empty called c =
      let P : Cut → Type 0 = λ x. CollectsCut source text mode x (so_far known whole last) (named known mark) (at_hand known left) q called in
      leads known empty called (looks depth (so_far known whole last) (at_hand known pending) p (At (named known mark ∷ at_hand known left) q) called (ahead known empty)
      (one_token depth (so_far known whole last) (named known mark) (at_hand known left) q called (subst P (is known) c)))

  pub leads-within : (inner : ℕ) → ((known : Known) → cut.Within inner ≡ cut_of (part_of source (named known mark)) depth)
      → LeadsTo source text mode start s inner whole (last ++ mark ∷ []) left q
  leads-within inner is known empty called c =
      let P : List (List Lexeme) → Type 0 = λ x. Collects source text mode inner x (at_hand known left) q called in
      by_cut (cut.Within inner) is known empty called
      (within inner (so_far known whole last) (named known mark) (at_hand known left) q called (subst P (sym (so-far-more known whole last mark)) c))

  pub leads-next : ((known : Known) → cut.Next ≡ cut_of (part_of source (named known mark)) depth) → LeadsTo source text mode start s 0 (whole ++ last ∷ []) [] left q
  leads-next is known empty called c =
      let P : List (List Lexeme) → Type 0 = λ x. Collects source text mode 0 x (at_hand known left) q called in
      by_cut cut.Next is known empty called
      (next (so_far known whole last) (named known mark) (at_hand known left) q called (subst P (sym (so-far-next known whole last)) c))

  pub leads-end : ((known : Known) → cut.Ends ≡ cut_of (part_of source (named known mark)) depth) → (known : Known) → HaveEmpty known
      → Collects source text mode 0 ([] ∷ []) (at_hand known start) s (Closed (so_far known whole last) (named known mark) (at_hand known left) q)
  leads-end is known empty =
      by_cut cut.Ends is known empty (Closed (so_far known whole last) (named known mark) (at_hand known left) q)
      (ends (so_far known whole last) (named known mark) (at_hand known left) q)

  -- the arguments are whole
  pub leads-closed : (found : Arguments) → found.arguments ≡ whole ++ last ∷ [] → found.close ≡ mark → ((known : Known) → cut.Ends ≡ cut_of (part_of source (named known mark)) depth)
      → (known : Known) → HaveEmpty known
      → Collects source text mode 0 ([] ∷ []) (at_hand known start) s (Closed (map (all_named known) found.arguments) (named known found.close) (at_hand known left) q)
  leads-closed found a c is known empty =
      let P : List (List Lexeme) → Type 0 = λ x. Collects source text mode 0 ([] ∷ []) (at_hand known start) s (Closed x (named known found.close) (at_hand known left) q) in
      let Q : Numbered → Type 0 = λ x. Collects source text mode 0 ([] ∷ []) (at_hand known start) s (Closed (so_far known whole last) (named known x) (at_hand known left) q) in
      subst P (sym (ap (map (all_named known)) a ∙ map-append (all_named known) whole (last ∷ []))) (subst Q (sym c) (leads-end is known empty))

  -- what a token that does not end the call leads to
  pub leads-put : (what : Cut) → ((known : Known) → what ≡ cut_of (part_of source (named known mark)) depth) → (what ≡ cut.Ends → ⊥) → (whole' : List (List Numbered)) (last' : List Numbered) (inner : ℕ)
      → IsPut what mark whole last whole' last' inner → LeadsTo source text mode start s inner whole' last' left q
  leads-put (cut.Within m) is no_end whole' last' inner put =
      let P : List (List Numbered) → Type 0 = λ x. LeadsTo source text mode start s m x (last ++ mark ∷ []) left q in
      let Q : List Numbered → Type 0 = λ x. LeadsTo source text mode start s m whole' x left q in
      let R : ℕ → Type 0 = λ x. LeadsTo source text mode start s x whole' last' left q in
      subst R (sym put.2) (subst Q (sym put.1) (subst P (sym put.0) (leads-within m is)))
  leads-put cut.Next is no_end whole' last' inner put =
      let P : List (List Numbered) → Type 0 = λ x. LeadsTo source text mode start s 0 x [] left q in
      let Q : List Numbered → Type 0 = λ x. LeadsTo source text mode start s 0 whole' x left q in
      let R : ℕ → Type 0 = λ x. LeadsTo source text mode start s x whole' last' left q in
      subst R (sym put.2) (subst Q (sym put.1) (subst P (sym put.0) (leads-next is)))
  leads-put cut.Ends is no_end whole' last' inner put = absurd (no_end refl)

-- inner parentheses open one by one
pub put-depth : (what : Cut) (kind : Part) (depth : ℕ) (mark : Numbered) (whole whole' : List (List Numbered)) (last last' : List Numbered) (inner : ℕ) → what ≡ cut_of kind depth → (what ≡ cut.Ends → ⊥)
    → IsPut what mark whole last whole' last' inner → inner ≤ depth + 1
put-depth (cut.Within m) kind depth mark whole whole' last last' inner is no_end put = omega (arith, put.2, of_kind kind is)
  where
    same : (a b : ℕ) → cut.Within a ≡ cut.Within b → a ≡ b
    same a b e = cc

    not_next : cut.Within m ≡ cut.Next → ⊥
    not_next e = cc

    not_end : cut.Within m ≡ cut.Ends → ⊥
    not_end e = cc

    by_zero : (b : Bool) → (other : Cut) → (cut.Within m ≡ other → ⊥) → (n : ℕ) → n ≤ depth + 1 → cut.Within m ≡ (if b then other else cut.Within n) → m ≤ depth + 1
    by_zero true other apart n l e = absurd (apart e)
    by_zero false other apart n l e = omega (arith, same m n e, l)

    of_kind : (kind : Part) → cut.Within m ≡ cut_of kind depth → m ≤ depth + 1
    of_kind part.Opens e = omega (arith, same m (depth + 1) e)
    of_kind part.Closes e = by_zero (depth == 0) cut.Ends not_end (depth - 1) (omega arith) e
    of_kind part.Parts e = by_zero (depth == 0) cut.Next not_next depth (omega arith) e
    of_kind part.GoesOn e = omega (arith, same m depth e)
put-depth cut.Next kind depth mark whole whole' last last' inner is no_end put = omega (arith, put.2)
put-depth cut.Ends kind depth mark whole whole' last last' inner is no_end put = absurd (no_end refl)

-- and each stands in the argument
pub put-within : (what : Cut) (kind : Part) (depth : ℕ) (mark : Numbered) (whole whole' : List (List Numbered)) (last last' : List Numbered) (inner : ℕ) → what ≡ cut_of kind depth → (what ≡ cut.Ends → ⊥)
    → IsPut what mark whole last whole' last' inner → depth ≤ length last → inner ≤ length last'
put-within (cut.Within m) kind depth mark whole whole' last last' inner is no_end put l =
    omega (arith, put-depth (cut.Within m) kind depth mark whole whole' last last' inner is no_end put, ap length put.1, length-append last (mark ∷ []), l)
put-within cut.Next kind depth mark whole whole' last last' inner is no_end put l = omega (arith, put.2)
put-within cut.Ends kind depth mark whole whole' last last' inner is no_end put l = absurd (no_end refl)

-- and the sets of all are known
pub put-known : (known : Known) (what : Cut) (mark : Numbered) (whole whole' : List (List Numbered)) (last last' : List Numbered) (inner : ℕ) → (what ≡ cut.Ends → ⊥) → IsPut what mark whole last whole' last' inner
    → mark.hidden < length known → AreKnown known last → All (AreKnown known) whole → AreKnown known last' × All (AreKnown known) whole'
put-known known (cut.Within n) mark whole whole' last last' inner no_end put m h w =
    let P : List Numbered → Type 0 = λ x. AreKnown known x in
    let Q : List (List Numbered) → Type 0 = λ x. All (AreKnown known) x in
    (subst P (sym put.1) (All-push (λ (l : Numbered). l.hidden < length known) last mark h m), subst Q (sym put.0) w)
put-known known cut.Next mark whole whole' last last' inner no_end put m h w =
    let P : List Numbered → Type 0 = λ x. AreKnown known x in
    let Q : List (List Numbered) → Type 0 = λ x. All (AreKnown known) x in
    (subst P (sym put.1) (All-nil (λ (l : Numbered). l.hidden < length known)), subst Q (sym put.0) (All-push (AreKnown known) whole last w h))
put-known known cut.Ends mark whole whole' last last' inner no_end put m h w = absurd (no_end refl)

-- of whole arguments too
pub closed-known : (known : Known) (found : Arguments) (whole : List (List Numbered)) (last : List Numbered) (mark : Numbered) → found.arguments ≡ whole ++ last ∷ [] → found.close ≡ mark
    → AreKnown known last → All (AreKnown known) whole → mark.hidden < length known → AreArgumentsKnown known found
closed-known known found whole last mark a c h w m =
    let P : List (List Numbered) → Type 0 = λ x. All (AreKnown known) x in
    let Q : Numbered → Type 0 = λ x. x.hidden < length known in
    (subst P (sym a) (All-push (AreKnown known) whole last w h), subst Q (sym c) m)

-- and at first
pub start-known : (known : Known) (whole : List (List Numbered)) (last : List Numbered) → whole ≡ [] → last ≡ [] → AreKnown known last × All (AreKnown known) whole
start-known known whole last w l =
    let P : List (List Numbered) → Type 0 = λ x. All (AreKnown known) x in
    let Q : List Numbered → Type 0 = λ x. AreKnown known x in
    (subst Q (sym l) (All-nil (λ (l : Numbered). l.hidden < length known)), subst P (sym w) (All-nil (AreKnown known)))

-- What leaving a scope does to a list of what is in scope.
use Rattle.std.proofs.Common.{◌≡◌, ℕ, zero, suc, ◌+◌, ◌-◌, ◌<◌, ◌≤◌, Bool, true, false, not, List, [], ◌∷◌, ◌++◌, length, take, drop, filter, None, Some, slice_get, nat_lt, ◌==◌, refl, ap, sym, ◌∙◌, subst, arith}
use Rattle.std.proofs.lemmas.Grind.{common_steps}
use Rattle.std.proofs.lemmas.Bool.{ltb-true, ltb-false, lt-ltb}
use Rattle.std.proofs.lemmas.Option.{none-some, same_Some, slice_get_within}
use Rattle.pw_check_rules.specs.declared.names.Entry.{Entry}
use Rattle.pw_check_rules.specs.declared.names.TagEntry.{TagEntry}
use Rattle.pw_check_names.specs.declared.scoped.Start.{Start}
use Rattle.pw_check_names.specs.Nesting.{Nested, IsScoped}
use Rattle.pw_check_names.specs.Scoping.{NamesInScope, left}

-- ---- places of lists

later : (i n : ℕ) → nat_lt (suc i) (suc n) ≡ nat_lt i n
later i n = grind (arith, common_steps)

module _ {X : Type 0} where
  get_front : (xs ys : List X) (k : ℕ) (t : X) → slice_get xs k ≡ Some t → slice_get (xs ++ ys) k ≡ Some t
  get_front [] ys k t e = absurd (none-some t e)
  get_front (x ∷ xs) ys zero t e = e
  get_front (x ∷ xs) ys (suc k) t e = get_front xs ys k t e

  get_end : (xs : List X) (s : X) → slice_get (xs ++ s ∷ []) (length xs) ≡ Some s
  get_end [] s = refl
  get_end (x ∷ xs) s = get_end xs s

  get_take : (n : ℕ) (xs : List X) (i : ℕ) (e : X) → slice_get (take n xs) i ≡ Some e → (i < n) × (slice_get xs i ≡ Some e)
  get_take zero xs i e h = absurd (none-some e h)
  get_take (suc n) [] i e h = absurd (none-some e h)
  get_take (suc n) (x ∷ xs) zero e h = (omega arith, h)
  get_take (suc n) (x ∷ xs) (suc i) e h = let r = get_take n xs i e h in (omega arith, r.1)

  get_some : (xs : List X) (i : ℕ) → i < length xs → (x : X) × (slice_get xs i ≡ Some x)
  get_some [] i h = absurd (omega arith)
  get_some (x ∷ xs) zero h = (x, refl)
  get_some (x ∷ xs) (suc i) h = get_some xs i (omega arith)

  -- the last of a list stands behind the others
  pub last_split : (xs : List X) (n : ℕ) (s : X) → suc n ≡ length xs → slice_get xs n ≡ Some s → xs ≡ take n xs ++ s ∷ []
  last_split [] n s e g = absurd (none-some s g)
  last_split (x ∷ []) zero s e g = ap (λ y. y ∷ []) (same_Some x s g)
  last_split (x ∷ y ∷ zs) zero s e g = absurd (omega arith)
  last_split (x ∷ xs) (suc n) s e g = ap (λ ys. x ∷ ys) (last_split xs n s (omega arith) g)

  length_take : (n : ℕ) (xs : List X) → n ≤ length xs → length (take n xs) ≡ n
  length_take n xs h = grind (arith, common_steps)

  -- a test that holds up to a place, and one that holds from there
  filter_take : (p : X → Bool) (n : ℕ) (xs : List X) → ((i : ℕ) (x : X) → slice_get xs i ≡ Some x → p x ≡ nat_lt i n) → filter p xs ≡ take n xs
  filter_take p zero [] h = refl
  filter_take p (suc n) [] h = refl
  filter_take p zero (x ∷ xs) h =
      rw (h 0 x refl) (filter_take p zero xs (λ i y e. h (suc i) y e ∙ none i))
    where
      none : (i : ℕ) → nat_lt (suc i) 0 ≡ nat_lt i 0
      none i = grind (arith, common_steps)
  filter_take p (suc n) (x ∷ xs) h =
      rw (h 0 x refl ∙ first) (ap (λ ys. x ∷ ys) (filter_take p n xs (λ i y e. h (suc i) y e ∙ later i n)))
    where
      first : nat_lt 0 (suc n) ≡ true
      first = grind (arith, common_steps)

  filter_drop : (p : X → Bool) (n : ℕ) (xs : List X) → ((i : ℕ) (x : X) → slice_get xs i ≡ Some x → p x ≡ not (nat_lt i n)) → filter p xs ≡ drop n xs
  filter_drop p zero [] h = refl
  filter_drop p (suc n) [] h = refl
  filter_drop p zero (x ∷ xs) h =
      rw (h 0 x refl) (ap (λ ys. x ∷ ys) (filter_drop p zero xs (λ i y e. h (suc i) y e ∙ none i)))
    where
      none : (i : ℕ) → not (nat_lt (suc i) 0) ≡ not (nat_lt i 0)
      none i = grind (arith, common_steps)
  filter_drop p (suc n) (x ∷ xs) h =
      rw (h 0 x refl ∙ ap not first) (filter_drop p n xs (λ i y e. h (suc i) y e ∙ ap not (later i n)))
    where
      first : nat_lt 0 (suc n) ≡ true
      first = grind (arith, common_steps)

-- ---- scopes

module _ {T X : Type 0} (depth : T → ℕ) (start : X → ℕ) where
  -- where the innermost scope is left
  closed : (entries : List T) (rest : List X) (s : X) → Nested depth start entries (rest ++ s ∷ [])
      → Nested depth start (take (start s) entries) rest
  closed entries rest s n =
      record {
        most = λ i e g. let r = get_take (start s) entries i e g in
            let below : nat_lt (depth e) (length rest + 1) ≡ true = sym (n.divided (length rest) i s e (get_end rest s) r.1) ∙ lt-ltb i (start s) r.0 in
            let less : depth e < length rest + 1 = ltb-true (depth e) (length rest + 1) below in
            omega arith;
        within = λ k t g. let all : length (take (start s) entries) ≡ start s = length_take (start s) entries (n.within (length rest) s (get_end rest s)) in
            let behind : start t ≤ start s = before k t g (nat_lt (start s) (start t)) refl in
            omega arith;
        divided = λ k i t e g h. n.divided k i t e (get_front rest (s ∷ []) k t g) (get_take (start s) entries i e h).1;
      }
    where
      earlier : (k : ℕ) (t : X) → slice_get rest k ≡ Some t → k < length rest
      earlier k t g = slice_get_within rest k t g

      no_later : (k : ℕ) (t : X) → slice_get rest k ≡ Some t → start s < start t → (e : T) × (slice_get entries (start s) ≡ Some e) → ⊥
      no_later k t g less at =
          let up : nat_lt (depth at.0) (length rest + 1) ≡ nat_lt (start s) (start s) = sym (n.divided (length rest) (start s) s at.0 (get_end rest s) at.1) in
          let down : nat_lt (depth at.0) (k + 1) ≡ nat_lt (start s) (start t) = sym (n.divided k (start s) t at.0 (get_front rest (s ∷ []) k t g) at.1) in
          let deep : depth at.0 < k + 1 = ltb-true (depth at.0) (k + 1) (down ∙ lt-ltb (start s) (start t) less) in
          let most : k < length rest = earlier k t g in
          let own : nat_lt (start s) (start s) ≡ true = sym up ∙ lt-ltb (depth at.0) (length rest + 1) (omega arith) in
          let never : start s < start s = ltb-true (start s) (start s) own in
          omega arith

      before : (k : ℕ) (t : X) → slice_get rest k ≡ Some t → (b : Bool) → nat_lt (start s) (start t) ≡ b → start t ≤ start s
      before k t g true is =
          let less : start s < start t = ltb-true (start s) (start t) is in
          let room : start t ≤ length entries = n.within k t (get_front rest (s ∷ []) k t g) in
          absurd (no_later k t g less (get_some entries (start s) (omega arith)))
      before k t g false is = ltb-false (start s) (start t) is

  -- what is less deep than the innermost scope, and what is in it
  less_deep : (entries : List T) (rest : List X) (s : X) (d : ℕ) → Nested depth start entries (rest ++ s ∷ []) → d ≡ length rest + 1
      → filter (λ e. nat_lt (depth e) d) entries ≡ take (start s) entries
  less_deep entries rest s d n is =
      filter_take (λ e. nat_lt (depth e) d) (start s) entries
      (λ i e g. ap (nat_lt (depth e)) is ∙ sym (n.divided (length rest) i s e (get_end rest s) g))

  as_deep : (entries : List T) (rest : List X) (s : X) (d : ℕ) → Nested depth start entries (rest ++ s ∷ []) → d ≡ length rest + 1
      → filter (λ e. depth e == d) entries ≡ drop (start s) entries
  as_deep entries rest s d n is =
      filter_drop (λ e. depth e == d) (start s) entries
      (λ i e g. same (depth e) d (nat_lt i (start s)) (omega (arith, n.most i e g, longer)) (n.divided (length rest) i s e (get_end rest s) g ∙ ap (nat_lt (depth e)) (sym is)))
    where
      longer : length (rest ++ s ∷ []) ≡ d
      longer = grind (arith, common_steps)

      same : (m d : ℕ) (b : Bool) → m ≤ d → b ≡ nat_lt m d → (m == d) ≡ not b
      same m d b h e = grind (arith, common_steps)

  -- at file scope
  all_here : (entries : List T) (d : ℕ) → Nested depth start entries [] → d ≡ 0 → filter (λ e. depth e == d) entries ≡ entries
  all_here entries d n is = by entries (λ i e g. n.most i e g)
    where
      one : (m d : ℕ) → m ≤ 0 → d ≡ 0 → (m == d) ≡ true
      one m d h e = grind (arith, common_steps)

      by : (es : List T) → ((i : ℕ) (e : T) → slice_get es i ≡ Some e → depth e ≤ 0) → filter (λ e. depth e == d) es ≡ es
      by [] h = refl
      by (e ∷ es) h = rw (one (depth e) d (h 0 e refl) is) (ap (λ xs. e ∷ xs) (by es (λ i x g. h (suc i) x g)))

  none_less : (entries : List T) (d : ℕ) → d ≡ 0 → filter (λ e. nat_lt (depth e) d) entries ≡ []
  none_less [] d is = refl
  none_less (e ∷ es) d is = rw (none (depth e)) (none_less es d is)
    where
      none : (m : ℕ) → nat_lt m d ≡ false
      none m = grind (arith, common_steps)

-- ---- names and tags

module _ (ordinary : List (List ℕ × Entry)) (tags : List (List ℕ × TagEntry)) (starts rest : List Start) (s : Start) (depth : ℕ)
    (scoped : IsScoped ordinary tags starts depth) (cut : starts ≡ rest ++ s ∷ []) where
  names_cut : Nested (λ e. e.1.depth) (λ s. s.names) ordinary (rest ++ s ∷ [])
  names_cut = subst (Nested (λ e. e.1.depth) (λ s. s.names) ordinary) cut scoped.names_nested

  tags_cut : Nested (λ e. e.1.depth) (λ s. s.tags) tags (rest ++ s ∷ [])
  tags_cut = subst (Nested (λ e. e.1.depth) (λ s. s.tags) tags) cut scoped.tags_nested

  counted : depth ≡ length rest + 1
  counted = sym scoped.counted ∙ ap length cut ∙ grind (arith, common_steps)

  pub scoped_left : (names : List (List ℕ × Entry)) (others : List (List ℕ × TagEntry)) → names ≡ take s.names ordinary → others ≡ take s.tags tags
      → IsScoped names others rest (depth - 1)
  scoped_left names others e f =
      record {
        names_nested = subst (λ es. Nested (λ e. e.1.depth) (λ s. s.names) es rest) (sym e) (closed (λ e. e.1.depth) (λ s. s.names) ordinary rest s names_cut);
        tags_nested = subst (λ es. Nested (λ e. e.1.depth) (λ s. s.tags) es rest) (sym f) (closed (λ e. e.1.depth) (λ s. s.tags) tags rest s tags_cut);
        counted = omega (arith, counted);
      }

  pub left_is : (names : List (List ℕ × Entry)) (others : List (List ℕ × TagEntry)) → names ≡ take s.names ordinary → others ≡ take s.tags tags
      → (let now : NamesInScope = record { ordinary = names; tags = others; depth = depth - 1 } in now) ≡ left (record { ordinary = ordinary; tags = tags; depth = depth })
  left_is names others e f =
      rw (e, f, less_deep (λ e. e.1.depth) (λ s. s.names) ordinary rest s depth names_cut counted, less_deep (λ e. e.1.depth) (λ s. s.tags) tags rest s depth tags_cut counted) refl

  pub names_from : filter (λ e. e.1.depth == depth) ordinary ≡ drop s.names ordinary
  names_from = as_deep (λ e. e.1.depth) (λ s. s.names) ordinary rest s depth names_cut counted

  pub tags_from : filter (λ e. e.1.depth == depth) tags ≡ drop s.tags tags
  tags_from = as_deep (λ e. e.1.depth) (λ s. s.tags) tags rest s depth tags_cut counted

pub left_none : (ordinary names : List (List ℕ × Entry)) (tags others : List (List ℕ × TagEntry)) (depth : ℕ) → depth ≡ 0 → names ≡ take 0 ordinary → others ≡ take 0 tags
    → (let now : NamesInScope = record { ordinary = names; tags = others; depth = depth } in now) ≡ left (record { ordinary = ordinary; tags = tags; depth = depth })
left_none ordinary names tags others depth is e f =
    rw (e, f, is, none_less (λ (e : List ℕ × Entry). e.1.depth) (λ (s : Start). s.names) ordinary 0 refl, none_less (λ (e : List ℕ × TagEntry). e.1.depth) (λ (s : Start). s.tags) tags 0 refl) refl

-- the scope that is read, where there is one around, and at file scope
pub names_behind : (ordinary : List (List ℕ × Entry)) (tags : List (List ℕ × TagEntry)) (starts : List Start) (s : Start) (depth : ℕ)
    → IsScoped ordinary tags starts depth → slice_get starts (length starts - 1) ≡ Some s → filter (λ e. e.1.depth == depth) ordinary ≡ drop s.names ordinary
names_behind ordinary tags starts s depth scoped last =
    names_from ordinary tags starts (take (length starts - 1) starts) s depth scoped
    (last_split starts (length starts - 1) s (omega (arith, slice_get_within starts (length starts - 1) s last)) last)

pub tags_behind : (ordinary : List (List ℕ × Entry)) (tags : List (List ℕ × TagEntry)) (starts : List Start) (s : Start) (depth : ℕ)
    → IsScoped ordinary tags starts depth → slice_get starts (length starts - 1) ≡ Some s → filter (λ e. e.1.depth == depth) tags ≡ drop s.tags tags
tags_behind ordinary tags starts s depth scoped last =
    tags_from ordinary tags starts (take (length starts - 1) starts) s depth scoped
    (last_split starts (length starts - 1) s (omega (arith, slice_get_within starts (length starts - 1) s last)) last)

no_starts : (starts : List Start) → slice_get starts (length starts - 1) ≡ None → starts ≡ []
no_starts [] e = refl
no_starts (s ∷ rest) e = absurd (never (get_some (s ∷ rest) (length (s ∷ rest) - 1) (omega arith)))
  where
    never : (x : Start) × (slice_get (s ∷ rest) (length (s ∷ rest) - 1) ≡ Some x) → ⊥
    never at = none-some at.0 (sym e ∙ at.1)

pub names_outside : (ordinary : List (List ℕ × Entry)) (tags : List (List ℕ × TagEntry)) (starts : List Start) (depth : ℕ)
    → IsScoped ordinary tags starts depth → slice_get starts (length starts - 1) ≡ None → filter (λ e. e.1.depth == depth) ordinary ≡ drop 0 ordinary
names_outside ordinary tags starts depth scoped none =
    all_here (λ e. e.1.depth) (λ s. s.names) ordinary depth
    (subst (Nested (λ e. e.1.depth) (λ (s : Start). s.names) ordinary) (no_starts starts none) scoped.names_nested)
    (sym scoped.counted ∙ ap length (no_starts starts none))

pub tags_outside : (ordinary : List (List ℕ × Entry)) (tags : List (List ℕ × TagEntry)) (starts : List Start) (depth : ℕ)
    → IsScoped ordinary tags starts depth → slice_get starts (length starts - 1) ≡ None → filter (λ e. e.1.depth == depth) tags ≡ drop 0 tags
tags_outside ordinary tags starts depth scoped none =
    all_here (λ e. e.1.depth) (λ s. s.tags) tags depth
    (subst (Nested (λ e. e.1.depth) (λ (s : Start). s.tags) tags) (no_starts starts none) scoped.tags_nested)
    (sym scoped.counted ∙ ap length (no_starts starts none))

-- Marks, operation by operation and block by block.
use Rattle.std.proofs.Common.{◌≡◌, ◌⊎◌, ℕ, ◌+◌, ◌-◌, ◌<◌, ◌≤◌, ◌&&◌, ◌||◌, not, true, false, List, [], ◌∷◌, ◌++◌, length, get_or, take, refl, sym, ap, subst, ◌∙◌, arith, inl, inr}
use Rattle.std.specs.Prelude.{Some, slice_get, Contains, ◌↔◌}
use Rattle.std.proofs.lemmas.Bool.{cases_Bool, cases_eq, or_left, or_right, or_cases, and_from, not_from_false}
use Rattle.std.proofs.lemmas.List.{take_more, take_all, append-nil}
use Rattle.std.proofs.lemmas.List.Elements.{Contains-append_left, Contains-push, Contains-push_cases}
use Rattle.std.proofs.lemmas.Option.{same_Some, slice_get-get_or, slice_get_within, get_or_from_slice_get}
use Rattle.pw_flow.specs.Outline.{Act, Stretch, Outline}
use Rattle.pw_live.specs.Liveness.{has, is_that}
use Rattle.pw_live_fronts.specs.Blocks.{uses_first, defines_any}
use Rattle.pw_live_fronts.specs.Flowing.{node_of}
use Rattle.pw_live_fronts.specs.Exposing.{IsNumber, IsRead, IsWritten, IsUsedFirst, IsDefined}
use Rattle.pw_live_fronts.specs.declared.named.Exposed.{Exposed}
use Rattle.pw_live.proofs.Paths.{has_there, there_has, that_is, is_that_one}
use Rattle.pw_live_fronts.proofs.Exposing.{defines_more, uses_join, uses_more, uses_all}
use Rattle.pw_live_fronts.proofs.Names.{one_name}

-- ---- a prefix that is one longer

pub there_before : {X : Type 0} (xs : List X) (k : ℕ) (d x : X) → k < length xs → Contains (take k xs) x → Contains (take (k + 1) xs) x
there_before {X} xs k d x lt h = subst (λ (ys : List X). Contains ys x) (sym (take_more xs k d lt)) (Contains-append_left (take k xs) (get_or xs k d ∷ []) x h)

pub there_now : {X : Type 0} (xs : List X) (k : ℕ) (d x : X) → k < length xs → get_or xs k d ≡ x → Contains (take (k + 1) xs) x
there_now {X} xs k d x lt e = subst (λ (ys : List X). Contains ys x) (sym (take_more xs k d lt)) (subst (Contains (take k xs ++ get_or xs k d ∷ [])) e (Contains-push (take k xs) (get_or xs k d)))

pub there_cases : {X : Type 0} (xs : List X) (k : ℕ) (d x : X) → k < length xs → Contains (take (k + 1) xs) x → Contains (take k xs) x ⊎ (get_or xs k d ≡ x)
there_cases {X} xs k d x lt h = Contains-push_cases (take k xs) (get_or xs k d) x (subst (λ (ys : List X). Contains ys x) (take_more xs k d lt) h)

-- ---- what is read

pub reads_more : (e : Exposed) (ts : List ℕ) (k node t : ℕ) (New Cur Old : ℕ → ℕ → Type 0) (Stop : ℕ → Type 0) → k < length ts → get_or ts k t ≡ t
    → ((m i : ℕ) → New m i ↔ (Cur m i ⊎ ((m ≡ node) × IsNumber e t i × ¬ Stop i)))
    → ((m i : ℕ) → Cur m i ↔ (Old m i ⊎ ((m ≡ node) × IsRead e (take k ts) i × ¬ Stop i)))
    → (m i : ℕ) → New m i ↔ (Old m i ⊎ ((m ≡ node) × IsRead e (take (k + 1) ts) i × ¬ Stop i))
reads_more e ts k node t New Cur Old Stop lt is now before m i = (
  λ h. elim ((now m i).0 h) [
    | inl c ↦ elim ((before m i).0 c) [
      | inl o ↦ inl o
      | inr r ↦ inr (r.0, (r.1.0, there_before ts k t r.1.0 lt r.1.1, r.1.2), r.2)
    ]
    | inr n ↦ inr (n.0, (t, there_now ts k t t lt is, n.1), n.2)
  ],
  λ h. elim h [
    | inl o ↦ (now m i).1 (inl ((before m i).1 (inl o)))
    | inr r ↦ elim (there_cases ts k t r.1.0 lt r.1.1) [
      | inl c ↦ (now m i).1 (inl ((before m i).1 (inr (r.0, (r.1.0, c, r.1.2), r.2))))
      | inr same ↦
          let its : r.1.0 ≡ t = sym same ∙ is in
          (now m i).1 (inr (r.0, subst (λ (u : ℕ). IsNumber e u i) its r.1.2, r.2))
    ]
  ],
)

pub reads_all : (e : Exposed) (ts : List ℕ) (k node : ℕ) (Cur Old : ℕ → ℕ → Type 0) (Stop : ℕ → Type 0) → length ts ≤ k
    → ((m i : ℕ) → Cur m i ↔ (Old m i ⊎ ((m ≡ node) × IsRead e (take k ts) i × ¬ Stop i)))
    → (m i : ℕ) → Cur m i ↔ (Old m i ⊎ ((m ≡ node) × IsRead e ts i × ¬ Stop i))
reads_all e ts k node Cur Old Stop le is = subst (λ (us : List ℕ). (m i : ℕ) → Cur m i ↔ (Old m i ⊎ ((m ≡ node) × IsRead e us i × ¬ Stop i))) (take_all k ts le) is

pub reads_none : (e : Exposed) (node : ℕ) (Old : ℕ → ℕ → Type 0) (Stop : ℕ → Type 0) → (m i : ℕ) → Old m i ↔ (Old m i ⊎ ((m ≡ node) × IsRead e [] i × ¬ Stop i))
reads_none e node Old Stop m i = (λ h. inl h, λ h. elim h [ inl o ↦ o | inr r ↦ absurd (let lt : r.1.1.0 < 0 = r.1.1.1 in omega (arith, lt)) ])

-- ---- what a block uses first and defines

abbrev pub UsesSoFar : Exposed → List Act → ℕ → Type 0
UsesSoFar e acts i = (t : ℕ) × IsNumber e t i × (uses_first t acts [] ≡ true)

abbrev pub DefinesSoFar : Exposed → List Act → ℕ → Type 0
DefinesSoFar e acts i = (t : ℕ) × IsNumber e t i × (defines_any t acts ≡ true)

-- a number that is not defined so far, by its name
not_defined : (e : Exposed) (acts : List Act) (t i : ℕ) → IsNumber e t i → ¬ DefinesSoFar e acts i → defines_any t acts ≡ false
not_defined e acts t i is none = elim (cases_Bool (defines_any t acts)) [ inl d ↦ absurd (none (t, is, d)) | inr d ↦ d ]

defined_not : (e : Exposed) (acts : List Act) (t i : ℕ) → IsNumber e t i → defines_any t acts ≡ false → ¬ DefinesSoFar e acts i
defined_not e acts t i is d h =
    let same = one_name e h.0 t i h.1 is in
    let other : defines_any t acts ≡ true = subst (λ (u : ℕ). defines_any u acts ≡ true) same h.2 in
    cc

used_at : (t : ℕ) (acts : List Act) (k : ℕ) (a : Act) → k < length acts → defines_any t (take k acts) ≡ false → has t (get_or acts k a).uses ≡ true → uses_first t (take (k + 1) acts) [] ≡ true
used_at t acts k a lt d h =
    let x = get_or acts k a in
    ap (λ (bs : List Act). uses_first t bs []) (take_more acts k a lt) ∙ uses_join t (take k acts) (x ∷ []) []
    ∙ or_right (uses_first t (take k acts) []) (not (defines_any t (take k acts)) && uses_first t (x ∷ []) [])
    (and_from (not (defines_any t (take k acts))) (uses_first t (x ∷ []) []) (not_from_false (defines_any t (take k acts)) d)
    (or_left (has t x.uses) (not (is_that x.defines t) && has t []) h))

used_before : (t : ℕ) (acts : List Act) (k : ℕ) (a : Act) → k < length acts → uses_first t (take k acts) [] ≡ true → uses_first t (take (k + 1) acts) [] ≡ true
used_before t acts k a lt h =
    let x = get_or acts k a in
    ap (λ (bs : List Act). uses_first t bs []) (take_more acts k a lt) ∙ uses_join t (take k acts) (x ∷ []) []
    ∙ or_left (uses_first t (take k acts) []) (not (defines_any t (take k acts)) && uses_first t (x ∷ []) []) h

pub uses_step : (e : Exposed) (acts : List Act) (k node : ℕ) (a : Act) (New Cur Old : ℕ → ℕ → Type 0) (Stop : ℕ → Type 0) → k < length acts → get_or acts k a ≡ a
    → ((m i : ℕ) → New m i ↔ (Cur m i ⊎ ((m ≡ node) × IsRead e a.uses i × ¬ Stop i)))
    → ((m i : ℕ) → Cur m i ↔ (Old m i ⊎ ((m ≡ node) × UsesSoFar e (take k acts) i)))
    → ((i : ℕ) → Stop i ↔ DefinesSoFar e (take k acts) i)
    → (m i : ℕ) → New m i ↔ (Old m i ⊎ ((m ≡ node) × UsesSoFar e (take (k + 1) acts) i))
uses_step e acts k node a New Cur Old Stop lt is now before stops m i = (
  λ h. elim ((now m i).0 h) [
    | inl c ↦ elim ((before m i).0 c) [
      | inl o ↦ inl o
      | inr u ↦ inr (u.0, (u.1.0, u.1.1, used_before u.1.0 acts k a lt u.1.2))
    ]
    | inr r ↦
        let t = r.1.0 in
        let free = not_defined e (take k acts) t i r.1.2 (λ d. r.2 ((stops i).1 d)) in
        inr (r.0, (t, r.1.2, used_at t acts k a lt free (ap (λ (x : Act). has t x.uses) is ∙ there_has t a.uses r.1.1)))
  ],
  λ h. elim h [
    | inl o ↦ (now m i).1 (inl ((before m i).1 (inl o)))
    | inr u ↦
        let t = u.1.0 in
        elim (uses_more acts t k a lt u.1.2) [
          | inl old ↦ (now m i).1 (inl ((before m i).1 (inr (u.0, (t, u.1.1, old)))))
          | inr new ↦ (now m i).1 (inr (u.0, (t, has_there t a.uses (ap (λ (x : Act). has t x.uses) (sym is) ∙ new.1), u.1.1), λ d. defined_not e (take k acts) t i u.1.1 new.0 ((stops i).0 d)))
        ]
  ],
)

pub uses_end : (e : Exposed) (s : Stretch) (k node : ℕ) (New Cur Old : ℕ → ℕ → Type 0) (Stop : ℕ → Type 0) → length s.acts ≤ k
    → ((m i : ℕ) → New m i ↔ (Cur m i ⊎ ((m ≡ node) × IsRead e s.uses i × ¬ Stop i)))
    → ((m i : ℕ) → Cur m i ↔ (Old m i ⊎ ((m ≡ node) × UsesSoFar e (take k s.acts) i)))
    → ((i : ℕ) → Stop i ↔ DefinesSoFar e (take k s.acts) i)
    → (m i : ℕ) → New m i ↔ (Old m i ⊎ ((m ≡ node) × IsUsedFirst e s i))
uses_end e s k node New Cur Old Stop le now before stops m i = (
  λ h. elim ((now m i).0 h) [
    | inl c ↦ elim ((before m i).0 c) [
      | inl o ↦ inl o
      | inr u ↦ inr (u.0, (u.1.0, u.1.1, whole u.1.0 (or_left (uses_first u.1.0 s.acts []) (not (defines_any u.1.0 s.acts) && has u.1.0 s.uses) (ap (λ (bs : List Act). uses_first u.1.0 bs []) (sym all) ∙ u.1.2))))
    ]
    | inr r ↦
        let t = r.1.0 in
        let free = not_defined e (take k s.acts) t i r.1.2 (λ d. r.2 ((stops i).1 d)) in
        inr (
          r.0,
          (
            t,
            r.1.2,
            whole t (or_right (uses_first t s.acts []) (not (defines_any t s.acts) && has t s.uses)
                (and_from (not (defines_any t s.acts)) (has t s.uses) (not_from_false (defines_any t s.acts) (ap (defines_any t) (sym all) ∙ free)) (there_has t s.uses r.1.1))),
          ),
        )
  ],
  λ h. elim h [
    | inl o ↦ (now m i).1 (inl ((before m i).1 (inl o)))
    | inr u ↦
        let t = u.1.0 in
        elim (uses_all s.acts s.uses t k le u.1.2) [
          | inl old ↦ (now m i).1 (inl ((before m i).1 (inr (u.0, (t, u.1.1, old)))))
          | inr new ↦ (now m i).1 (inr (u.0, (t, has_there t s.uses new.1, u.1.1), λ d. defined_not e (take k s.acts) t i u.1.1 new.0 ((stops i).0 d)))
        ]
  ],
)
  where
    all : take k s.acts ≡ s.acts
    all = take_all k s.acts le

    whole : (t : ℕ) → (uses_first t s.acts [] || (not (defines_any t s.acts) && has t s.uses)) ≡ true → uses_first t s.acts s.uses ≡ true
    whole t h = ap (λ (bs : List Act). uses_first t bs s.uses) (sym (append-nil s.acts)) ∙ uses_join t s.acts [] s.uses ∙ h

pub defines_step : (e : Exposed) (acts : List Act) (k node : ℕ) (a : Act) (New Cur Old : ℕ → ℕ → Type 0) → k < length acts → get_or acts k a ≡ a
    → ((m i : ℕ) → New m i ↔ (Cur m i ⊎ ((m ≡ node) × IsWritten e a.defines i)))
    → ((m i : ℕ) → Cur m i ↔ (Old m i ⊎ ((m ≡ node) × DefinesSoFar e (take k acts) i)))
    → (m i : ℕ) → New m i ↔ (Old m i ⊎ ((m ≡ node) × DefinesSoFar e (take (k + 1) acts) i))
defines_step e acts k node a New Cur Old lt is now before m i = (
  λ h. elim ((now m i).0 h) [
    | inl c ↦ elim ((before m i).0 c) [
      | inl o ↦ inl o
      | inr u ↦ inr (u.0, (u.1.0, u.1.1, defines_more acts u.1.0 k a lt ∙ or_left (defines_any u.1.0 (take k acts)) (is_that (get_or acts k a).defines u.1.0) u.1.2))
    ]
    | inr w ↦
        let t = w.1.0 in
        inr (w.0, (t, w.1.2, defines_more acts t k a lt ∙ or_right (defines_any t (take k acts)) (is_that (get_or acts k a).defines t) (ap (λ (x : Act). is_that x.defines t) is ∙ is_that_one a.defines t w.1.1)))
  ],
  λ h. elim h [
    | inl o ↦ (now m i).1 (inl ((before m i).1 (inl o)))
    | inr u ↦
        let t = u.1.0 in
        elim (or_cases (defines_any t (take k acts)) (is_that (get_or acts k a).defines t) (sym (defines_more acts t k a lt) ∙ u.1.2)) [
          | inl old ↦ (now m i).1 (inl ((before m i).1 (inr (u.0, (t, u.1.1, old)))))
          | inr new ↦ (now m i).1 (inr (u.0, (t, that_is a.defines t (ap (λ (x : Act). is_that x.defines t) (sym is) ∙ new), u.1.1)))
        ]
  ],
)

pub nothing_used : (e : Exposed) (node : ℕ) (Old : ℕ → ℕ → Type 0) → (m i : ℕ) → Old m i ↔ (Old m i ⊎ ((m ≡ node) × UsesSoFar e [] i))
nothing_used e node Old m i = (λ h. inl h, λ h. elim h [ inl o ↦ o | inr u ↦ absurd (let none = u.1.2 in cc) ])

pub nothing_defined : (e : Exposed) (node : ℕ) (Old : ℕ → ℕ → Type 0) → (m i : ℕ) → Old m i ↔ (Old m i ⊎ ((m ≡ node) × DefinesSoFar e [] i))
nothing_defined e node Old m i = (λ h. inl h, λ h. elim h [ inl o ↦ o | inr u ↦ absurd (let none = u.1.2 in cc) ])

pub defines_end : (e : Exposed) (s : Stretch) (k node : ℕ) (Cur Old : ℕ → ℕ → Type 0) → length s.acts ≤ k
    → ((m i : ℕ) → Cur m i ↔ (Old m i ⊎ ((m ≡ node) × DefinesSoFar e (take k s.acts) i)))
    → (m i : ℕ) → Cur m i ↔ (Old m i ⊎ ((m ≡ node) × IsDefined e s i))
defines_end e s k node Cur Old le is = subst (λ (bs : List Act). (m i : ℕ) → Cur m i ↔ (Old m i ⊎ ((m ≡ node) × DefinesSoFar e bs i))) (take_all k s.acts le) is

-- where the rows of the node were empty, they have what is defined so far
pub defined_so_far : (e : Exposed) (acts : List Act) (node : ℕ) (Cur Old : ℕ → ℕ → Type 0)
    → ((m i : ℕ) → Cur m i ↔ (Old m i ⊎ ((m ≡ node) × DefinesSoFar e acts i))) → ((i : ℕ) → ¬ Old node i)
    → (i : ℕ) → Cur node i ↔ DefinesSoFar e acts i
defined_so_far e acts node Cur Old is empty i = (λ h. elim ((is node i).0 h) [ inl o ↦ absurd (empty i o) | inr d ↦ d.1 ], λ d. (is node i).1 (inr (refl, d)))

-- ---- block by block

pub record OfBlocks (f : Outline) (place : ℕ) (P : Stretch → ℕ → Type 0) (m i : ℕ) : Type 0 where
  pub block : ℕ
  pub stretch : Stretch
  pub before : block < place
  pub at : slice_get f.blocks block ≡ Some stretch
  pub node : m ≡ node_of f block
  pub has : P stretch i

pub no_blocks : (f : Outline) (P : Stretch → ℕ → Type 0) (Cur : ℕ → ℕ → Type 0) → ((m i : ℕ) → ¬ Cur m i) → (m i : ℕ) → Cur m i ↔ OfBlocks f 0 P m i
no_blocks f P Cur empty m i = (λ h. absurd (empty m i h), λ b. absurd (let lt = b.before in omega (arith, lt)))

pub one_more_block : (f : Outline) (place node : ℕ) (s : Stretch) (P : Stretch → ℕ → Type 0) (New Cur : ℕ → ℕ → Type 0) → slice_get f.blocks place ≡ Some s → node ≡ node_of f place
    → ((m i : ℕ) → New m i ↔ (Cur m i ⊎ ((m ≡ node) × P s i)))
    → ((m i : ℕ) → Cur m i ↔ OfBlocks f place P m i)
    → (m i : ℕ) → New m i ↔ OfBlocks f (place + 1) P m i
one_more_block f place node s P New Cur is which now before m i = (
  λ h. elim ((now m i).0 h) [
    | inl c ↦ let b = (before m i).0 c in record { block = b.block; stretch = b.stretch; before = (let lt = b.before in omega (arith, lt)); at = b.at; node = b.node; has = b.has }
    | inr n ↦ record { block = place; stretch = s; before = omega arith; at = is; node = n.0 ∙ which; has = n.1 }
  ],
  λ b. elim (cases_eq b.block place) [
    | inl same ↦
        let its : b.stretch ≡ s = same_Some b.stretch s (sym b.at ∙ ap (slice_get f.blocks) same ∙ is) in
        (now m i).1 (inr (b.node ∙ ap (node_of f) same ∙ sym which, subst (λ (x : Stretch). P x i) its b.has))
    | inr other ↦
        let lt = b.before in
        (now m i).1 (inl ((before m i).1 (record { block = b.block; stretch = b.stretch; before = omega (arith, lt, other); at = b.at; node = b.node; has = b.has })))
  ],
)

-- before its block comes, the rows of a node are empty
pub still_empty : (f : Outline) (place node : ℕ) (s : Stretch) (P : Stretch → ℕ → Type 0) (Cur : ℕ → ℕ → Type 0) → slice_get f.blocks place ≡ Some s → node ≡ node_of f place
    → ((m i : ℕ) → Cur m i ↔ OfBlocks f place P m i) → (i : ℕ) → ¬ Cur node i
still_empty f place node s P Cur is which before i h =
    let b = (before node i).0 h in
    let low = slice_get_within f.blocks b.block b.stretch b.at in
    let high = slice_get_within f.blocks place s is in
    let lt = b.before in
    let one = b.node in
    omega (arith, low, high, lt, one, which)

pub each_block : (f : Outline) (place : ℕ) (P : Stretch → ℕ → Type 0) (Cur : ℕ → ℕ → Type 0) → length f.blocks ≤ place
    → ((m i : ℕ) → Cur m i ↔ OfBlocks f place P m i) → (b i : ℕ) (s : Stretch) → slice_get f.blocks b ≡ Some s → Cur (node_of f b) i ↔ P s i
each_block f place P Cur le before b i s is = (
  λ h.
      let r = (before (node_of f b) i).0 h in
      let low = slice_get_within f.blocks r.block r.stretch r.at in
      let high = slice_get_within f.blocks b s is in
      let nodes = r.node in
      let same : r.block ≡ b = omega (arith, low, high, nodes) in
      let its : r.stretch ≡ s = same_Some r.stretch s (sym r.at ∙ ap (slice_get f.blocks) same ∙ is) in
      subst (λ (x : Stretch). P x i) its r.has,
  λ h.
      let high = slice_get_within f.blocks b s is in
      (before (node_of f b) i).1 (record { block = b; stretch = s; before = omega (arith, high, le); at = is; node = refl; has = h }),
)

-- what stands at a place, whatever stands for what is past the end
pub item_at : {X : Type 0} (xs : List X) (i : ℕ) (d : X) → i < length xs → get_or xs i d ≡ get_or xs i (get_or xs i d)
item_at xs i d lt = sym (get_or_from_slice_get xs i (get_or xs i d) (get_or xs i d) (slice_get-get_or xs i d lt))

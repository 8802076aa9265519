-- The registers of webs, one web after another.
use Rattle.std.proofs.Common.{◌≡◌, ◌⊎◌, ℕ, zero, suc, ◌+◌, ◌-◌, ◌<◌, ◌≤◌, List, [], ◌∷◌, ◌++◌, length, get_or, take, map, refl, sym, ap, subst, ◌∙◌, arith, inl, inr, length-append}
use Rattle.std.specs.Prelude.{Option, Some, None, vec_len}
use Rattle.std.proofs.lemmas.Bool.{cases_eq}
use Rattle.std.proofs.lemmas.Grind.{take_at_read}
use Rattle.pw_files.proofs.Standing.{Has, has_each, has_by, contains_by, has_left, has_right, has_split}
use Rattle.pw_fix.specs.Row.{Holds}
use Rattle.pw_fix.specs.Table.{HoldsAt}
use Rattle.pw_fix.specs.declared.bit_row.BitRow.{BitRow}
use Rattle.pw_fix.specs.declared.bit_rows.BitRows.{BitRows}
use Rattle.pw_db.specs.Database.{EachTwo}
use Rattle.pw_graph.proofs.Steps.{take_whole}
use Rattle.pw_webs.specs.declared.web.RawWeb.{RawWeb}
use Rattle.pw_webs.specs.Webs.{IsSameWeb}
use Rattle.pw_db.specs.Limits.{first_register}
use Rattle.pw_colour.specs.Colours.{IsFree, IsColour, AreColoured}
use Rattle.pw_colour.specs.Giving.{IsBusyIn, IsGiven, paired}

-- a colour is busy in the functions of the webs that have its register
pub record IsBusy (busy : BitRows) (done : List (RawWeb × Option ℕ)) : Type 0 where
  pub to : (k f : ℕ) → HoldsAt busy k f → (u : RawWeb) × Has (u, Some (first_register + k)) done × Holds u.members f
  pub from : (k f : ℕ) (u : RawWeb) → Has (u, Some (first_register + k)) done → Holds u.members f → HoldsAt busy k f

pub busy_none : (busy : BitRows) → ((k f : ℕ) → HoldsAt busy k f → ⊥) → IsBusy busy []
busy_none busy empty = record { to = λ k f h. absurd (empty k f h); from = λ k f u h m. absurd h }

no_register : (w u : RawWeb) (r : ℕ) → ◌≡◌ {A = RawWeb × Option ℕ} (w, None) (u, Some r) → ⊥
no_register w u r e = let d : ◌≡◌ {A = Option ℕ} None (Some r) = ap (λ (p : RawWeb × Option ℕ). p.1) e in cc

the_register : (w u : RawWeb) (r s : ℕ) → ◌≡◌ {A = RawWeb × Option ℕ} (w, Some r) (u, Some s) → r ≡ s
the_register w u r s e = let d : Some r ≡ Some s = ap (λ (p : RawWeb × Option ℕ). p.1) e in cc

pub busy_put : (old new : BitRows) (done : List (RawWeb × Option ℕ)) (w : RawWeb) (r : Option ℕ) → IsBusy old done → IsGiven old new w r → IsBusy new (done ++ (w, r) ∷ [])
busy_put old new done w None busy given = record {
  to = λ k f h. let p = busy.to k f ((given.1 k f).0 h) in (p.0, has_left (p.0, Some (first_register + k)) done ((w, None) ∷ []) p.1, p.2);
  from = λ k f u h m. elim (has_split (u, Some (first_register + k)) done ((w, None) ∷ []) h) [
    | inl j ↦ (given.1 k f).1 (busy.from k f u j m)
    | inr j ↦ elim j [ inl e ↦ absurd (no_register w u (first_register + k) e) | inr n ↦ absurd n ]
  ];
}
busy_put old new done w (Some r) busy given = record {
  to = λ k f h. elim ((given.3 k f).0 h) [
    | inl j ↦ let p = busy.to k f j in (p.0, has_left (p.0, Some (first_register + k)) done ((w, Some r) ∷ []) p.1, p.2)
    | inr j ↦
        let e : r ≡ first_register + k = given.1 ∙ ap (λ n. first_register + n) (sym j.0) in
        (w, has_right (w, Some (first_register + k)) done ((w, Some r) ∷ []) (inl (ap (λ n. (w, Some n)) e)), j.1)
  ];
  from = λ k f u h m. elim (has_split (u, Some (first_register + k)) done ((w, Some r) ∷ []) h) [
    | inl j ↦ (given.3 k f).1 (inl (busy.from k f u j m))
    | inr j ↦ elim j [
      | inl e ↦
          let s = the_register w u r (first_register + k) e in
          let here : k ≡ given.0 = let t = given.1 in omega (arith, s, t) in
          (given.3 k f).1 (inr (here, subst (λ (x : RawWeb). Holds x.members f) (sym (ap (λ (p : RawWeb × Option ℕ). p.0) e)) m))
      | inr n ↦ absurd n
    ]
  ];
}

-- ---- the colour of one web

taken : (busy : BitRows) (done earlier : List (RawWeb × Option ℕ)) (w : RawWeb) → IsBusy busy done → ((p : RawWeb × Option ℕ) → Has p done → Has p earlier) → ((u : RawWeb) (s : Option ℕ) → Has (u, s) done → IsSameWeb u w → ⊥)
    → (k q : ℕ) → q ≡ first_register + k → IsBusyIn busy w.members k → IsFree earlier w q → ⊥
taken busy done earlier w is there differ k q same b free =
    let p = is.to k b.function b.busy_there in
    let stands : Has (p.0, Some q) earlier = there (p.0, Some q) (subst (λ n. Has (p.0, Some n) done) (sym same) p.1) in
    free p.0 (contains_by (p.0, Some q) earlier stands) (record { function = b.function; in_one = p.2; in_other = b.member; differ = differ p.0 (Some (first_register + k)) p.1 })

pub is_colour : (colours : ℕ) (busy new : BitRows) (done earlier : List (RawWeb × Option ℕ)) (w : RawWeb) (r : Option ℕ) → vec_len busy.rows ≡ colours → IsBusy busy done
    → ((p : RawWeb × Option ℕ) → Has p done → Has p earlier) → ((p : RawWeb × Option ℕ) → Has p earlier → Has p done) → ((u : RawWeb) (s : Option ℕ) → Has (u, s) done → IsSameWeb u w → ⊥)
    → IsGiven busy new w r → IsColour colours earlier w r
is_colour colours busy new done earlier w None count is there back differ given = elim given.0 [
  | inl le ↦ inl le
  | inr all ↦ inr (λ r reg free.
      let low = reg.0 in
      let high = reg.1 in
      taken busy done earlier w is there differ (r - first_register) r (omega (arith, low)) (all (r - first_register) (omega (arith, low, high, count))) free)
]
is_colour colours busy new done earlier w (Some r) count is there back differ given =
    let c = given.0 in
    let e = given.1 in
    let least = given.2.1 in
    let within = least.within in (
      given.2.0,
      (omega (arith, e), omega (arith, e, within, count)),
      λ u stands i. least.free (record {
        function = i.function;
        busy_there = is.from c i.function u (subst (λ n. Has (u, Some n) done) e (back (u, Some r) (has_by (u, Some r) earlier stands))) i.in_one;
        member = i.in_other;
      }),
      λ q low lt free. taken busy done earlier w is there differ (q - first_register) q (omega (arith, low)) (least.least (q - first_register) (omega (arith, low, lt, e))) free,
    )

-- ---- one web more

coloured_push : (colours : ℕ) (earlier xs : List (RawWeb × Option ℕ)) (w : RawWeb) (r : Option ℕ) → AreColoured colours earlier xs
    → ((es : List (RawWeb × Option ℕ)) → ((p : RawWeb × Option ℕ) → Has p xs ⊎ Has p earlier → Has p es) → ((p : RawWeb × Option ℕ) → Has p es → Has p xs ⊎ Has p earlier) → IsColour colours es w r)
    → AreColoured colours earlier (xs ++ (w, r) ∷ [])
coloured_push colours earlier [] w r all f = (f earlier (λ p h. elim h [ inl n ↦ absurd n | inr k ↦ k ]) (λ p h. inr h), tt)
coloured_push colours earlier (x ∷ xs) w r all f = (
  all.0,
  coloured_push colours (x ∷ earlier) xs w r all.1 (λ es one two. f es
      (λ p h. one p (elim h [
        | inl k ↦ elim k [ inl e ↦ inr (inl e) | inr j ↦ inl j ]
        | inr k ↦ inr (inr k)
      ]))
      (λ p h. elim (two p h) [
        | inl k ↦ inl (inr k)
        | inr k ↦ elim k [ inl e ↦ inl (inl e) | inr j ↦ inr j ]
      ])),
)

pub paired_push : (ws : List RawWeb) (rs : List (Option ℕ)) (w : RawWeb) (r : Option ℕ) → length rs ≡ length ws → paired (ws ++ w ∷ []) (rs ++ r ∷ []) ≡ paired ws rs ++ (w, r) ∷ []
paired_push [] [] w r e = refl
paired_push [] (s ∷ rs) w r e = absurd (omega (arith, e))
paired_push (x ∷ ws) [] w r e = absurd (omega (arith, e))
paired_push (x ∷ ws) (s ∷ rs) w r e = ap (λ (ps : List (RawWeb × Option ℕ)). (x, s) ∷ ps) (paired_push ws rs w r (omega (arith, e)))

pub paired_first : (ws : List RawWeb) (rs : List (Option ℕ)) → length rs ≡ length ws → map (λ p. p.0) (paired ws rs) ≡ ws
paired_first [] rs e = refl
paired_first (x ∷ ws) [] e = absurd (omega (arith, e))
paired_first (x ∷ ws) (s ∷ rs) e = ap (λ (ys : List RawWeb). x ∷ ys) (paired_first ws rs (omega (arith, e)))

pub has_paired : (ws : List RawWeb) (rs : List (Option ℕ)) (u : RawWeb) (s : Option ℕ) → Has (u, s) (paired ws rs) → Has u ws
has_paired [] rs u s h = h
has_paired (x ∷ ws) [] u s h = absurd h
has_paired (x ∷ ws) (r ∷ rs) u s (inl e) = inl (ap (λ (p : RawWeb × Option ℕ). p.0) e)
has_paired (x ∷ ws) (r ∷ rs) u s (inr h) = inr (has_paired ws rs u s h)

two_take : {X : Type 0} (R : X → X → Type 0) (xs : List X) (i : ℕ) (u d : X) → EachTwo R xs → i < length xs → Has u (take i xs) → R u (get_or xs i d)
two_take R [] i u d two lt h = absurd (omega (arith, lt))
two_take R (x ∷ xs) zero u d two lt h = absurd h
two_take R (x ∷ xs) (suc i) u d two lt (inl e) = subst (λ z. R z (get_or xs i d)) e (has_each (R x) xs (get_or xs i d) two.0 (has_by (get_or xs i d) xs (i, omega (arith, lt), read xs i d (omega (arith, lt))))) where
  read : {X : Type 0} (xs : List X) (i : ℕ) (d : X) → i < length xs → get_or xs i (get_or xs i d) ≡ get_or xs i d
  read [] i d lt = absurd (omega (arith, lt))
  read (x ∷ xs) zero d lt = refl
  read (x ∷ xs) (suc i) d lt = read xs i d (omega (arith, lt))
two_take R (x ∷ xs) (suc i) u d two lt (inr h) = two_take R xs i u d two.1 (omega (arith, lt)) h

pub record AreGiven (colours functions : ℕ) (webs : List RawWeb) (busy : BitRows) (found : List (Option ℕ)) : Type 0 where
  pub count : vec_len busy.rows ≡ colours
  pub size : busy.len ≡ functions
  pub long : length found ≡ length webs
  pub is_busy : IsBusy busy (paired webs found)
  pub coloured : AreColoured colours [] (paired webs found)

pub given_none : (colours functions : ℕ) (busy : BitRows) → vec_len busy.rows ≡ colours → busy.len ≡ functions → ((k f : ℕ) → HoldsAt busy k f → ⊥) → AreGiven colours functions [] busy []
given_none colours functions busy count size empty = record { count = count; size = size; long = refl; is_busy = busy_none busy empty; coloured = tt }

pub given_put : (colours functions : ℕ) (webs : List RawWeb) (i : ℕ) (w : RawWeb) (r : Option ℕ) (busy new : BitRows) (found more : List (Option ℕ)) → EachTwo (λ u v. IsSameWeb u v → ⊥) webs → i < length webs → w ≡ get_or webs i w
    → more ≡ found ++ r ∷ [] → vec_len new.rows ≡ vec_len busy.rows → new.len ≡ busy.len → IsGiven busy new w r → AreGiven colours functions (take i webs) busy found → AreGiven colours functions (take (i + 1) webs) new more
given_put colours functions webs i w r busy new found more differ lt at pushed count size given are =
    let next : take (i + 1) webs ≡ take i webs ++ w ∷ [] = (take_at_read webs i w lt).1 ∙ ap (λ (y : RawWeb). take i webs ++ y ∷ []) (sym at) in
    let pairs : paired (take (i + 1) webs) more ≡ paired (take i webs) found ++ (w, r) ∷ [] =
    ap (λ (ws : List RawWeb). paired ws more) next ∙ ap (λ (rs : List (Option ℕ)). paired (take i webs ++ w ∷ []) rs) pushed ∙ paired_push (take i webs) found w r are.long in
    let apart : (u : RawWeb) (s : Option ℕ) → Has (u, s) (paired (take i webs) found) → IsSameWeb u w → ⊥ = λ u s h.
    subst (λ (x : RawWeb). IsSameWeb u x → ⊥) (sym at) (two_take (λ a b. IsSameWeb a b → ⊥) webs i u w differ lt (has_paired (take i webs) found u s h)) in
    let sizes : length more ≡ length (take (i + 1) webs) =
    ap length pushed ∙ length-append found (r ∷ []) ∙ ap (λ n. n + 1) are.long ∙ sym (length-append (take i webs) (w ∷ [])) ∙ sym (ap length next) in
    record {
      count = count ∙ are.count;
      size = size ∙ are.size;
      long = sizes;
      is_busy = subst (λ (ps : List (RawWeb × Option ℕ)). IsBusy new ps) (sym pairs) (busy_put busy new (paired (take i webs) found) w r are.is_busy given);
      coloured = subst (λ (ps : List (RawWeb × Option ℕ)). AreColoured colours [] ps) (sym pairs)
          (coloured_push colours [] (paired (take i webs) found) w r are.coloured
          (λ es one two. is_colour colours busy new (paired (take i webs) found) es w r are.count are.is_busy (λ p h. one p (inl h)) (λ p h. elim (two p h) [ inl k ↦ k | inr n ↦ absurd n ]) apart given));
    }

pub given_end : (colours functions : ℕ) (webs : List RawWeb) (i : ℕ) (busy : BitRows) (found : List (Option ℕ)) → length webs ≤ i → AreGiven colours functions (take i webs) busy found → AreGiven colours functions webs busy found
given_end colours functions webs i busy found le are = subst (λ (ws : List RawWeb). AreGiven colours functions ws busy found) (take_whole webs i le) are

-- ---- the least colour that is free

pub busy_more : (busy : BitRows) (members : BitRow) (i : ℕ) → IsBusyIn busy members i → ((k : ℕ) → k < i → IsBusyIn busy members k) → (k : ℕ) → k < i + 1 → IsBusyIn busy members k
busy_more busy members i here before k lt = elim (cases_eq k i) [
  | inl e ↦ subst (IsBusyIn busy members) (sym e) here
  | inr other ↦ before k (omega (arith, lt, other))
]

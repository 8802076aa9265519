-- What lasts over one stretch of a run and then another, and what a stretch that leaves all objects leaves.
use Rattle.std.proofs.Common.{◌≡◌, ℕ, ◌<◌, ◌≤◌, ◌⊎◌, inl, inr, List, [], ◌++◌, length, ap, sym, ◌∙◌, arith, append_assoc, append-nil, length-append, true, false, true≢false, Bool, subst}
use Rattle.std.proofs.lemmas.Bool.{cases_order}
use Rattle.std.proofs.lemmas.List.{get_or_append_left, get_or_past}
use Rattle.pw_value.specs.Objects.{Object, no_object, object_at}
use Rattle.pw_cmean.specs.Acts.{State}
use Rattle.pw_law_source.specs.FromRunLanguages.FlowRun.{Machine}
use Rattle.pw_value.specs.declared.value.Value.{Value}
use Rattle.pw_value.specs.declared.value.Value.TheVariants as V
use Rattle.pw_value.specs.declared.value.Pointer.{Pointer}
use Rattle.pw_value.specs.declared.value.Pointer.TheVariants as P
use Rattle.pw_law_refine.specs.Standing.{Spot, Nowhere, In, spot_of, LeadsInto, Stands}
use Rattle.pw_law_refine.specs.Activations.{Numbers}
use Rattle.pw_law_refine.specs.Matching.{Lasts}

pub lasts-same : (numbers : Numbers) (spots : List Spot) (s t : State) (m n : Machine) → t.objects ≡ s.objects → n.objects ≡ m.objects → Lasts numbers spots spots s t m n
lasts-same numbers spots s t m n e f = record {
  more = ([], sym (append-nil spots));
  unnamed = λ o h there not. ap (λ (objects : List Object). object_at objects o) e;
  lives = λ o h. ap (λ (objects : List Object). (object_at objects o).live) e;
  ended = λ o h. ap (λ (objects : List Object). (object_at objects o).live) e ∙ ap (λ (x : Object). x.live) (get_or_past s.objects o no_object h);
  count = omega (arith, ap (λ (objects : List Object). length objects) f);
  living = λ k h. ap (λ (objects : List Object). (object_at objects k).live) f;
  sizes = λ k h. ap (λ (objects : List Object). length (object_at objects k).bytes) f;
}

-- a number is below another or not
pub below_or : (o n : ℕ) → (o < n) ⊎ (n ≤ o)
below_or o n = elim (cases_order o n) [
  | inl e ↦ inr (omega (arith, e))
  | inr rest ↦ elim rest [
    | inl less ↦ inl less
    | inr more ↦ inr (omega (arith, more))
  ]
]

pub lasts-then :
    (numbers : Numbers) (a b c : List Spot) (s t u : State) (m n r : Machine)
    → length a ≡ length s.objects → length b ≡ length t.objects → Lasts numbers a b s t m n → Lasts numbers b c t u n r → Lasts numbers a c s u m r
lasts-then numbers a b c s t u m n r p q f g =
    let more : b ≡ a ++ f.more.0 = f.more.1 in
    let count : length s.objects ≤ length t.objects =
    omega (arith, p, q, ap (λ (l : List Spot). length l) more, length-append a f.more.0) in
    record {
      more = (f.more.0 ++ g.more.0, g.more.1 ∙ ap (λ (l : List Spot). l ++ g.more.0) more ∙ append_assoc a f.more.0 g.more.0);
      unnamed = λ o h there not.
          g.unnamed o (omega (arith, h, count)) (ap (λ (l : List Spot). spot_of l o) more ∙ get_or_append_left a f.more.0 Nowhere o (omega (arith, h, p)) ∙ there) not
          ∙ f.unnamed o h there not;
      lives = λ o h. g.lives o (omega (arith, h, count)) ∙ f.lives o h;
      ended = λ o h. elim (below_or o (length t.objects)) [
        | inl less ↦ g.lives o less ∙ f.ended o h
        | inr more ↦ g.ended o more
      ];
      count = omega (arith, f.count, g.count);
      living = λ k h. g.living k (omega (arith, h, f.count)) ∙ f.living k h;
      sizes = λ k h. g.sizes k (omega (arith, h, f.count)) ∙ f.sizes k h;
    }

-- ---- what stands goes on to stand

is_in : Spot → Bool
is_in Nowhere = false
is_in (In f size) = true

leads-later : (a new : List Spot) (o i : ℕ) (q : Pointer) → LeadsInto a o i q → LeadsInto (a ++ new) o i q
unfolding is_in
leads-later a new o i q l =
    let within : o < length a = elim (below_or o (length a)) [
      | inl less ↦ less
      | inr more ↦ absurd (true≢false (sym (ap is_in (sym (get_or_past a o Nowhere more) ∙ l.there))))
    ] in
    record {
      object = l.object;
      size = l.size;
      there = get_or_append_left a new Nowhere o within ∙ l.there;
      inside = l.inside;
      is = l.is;
    }

stands-behind : (a new : List Spot) (v w : Value) → Stands a v w → Stands (a ++ new) v w
stands-behind a new V.Undefined w h = tt
stands-behind a new (V.Num n) w h = h
stands-behind a new V.Null w h = h
stands-behind a new (V.At (P.Object o i)) w h = (h.0, leads-later a new o i h.0 h.1, h.2)
stands-behind a new (V.At (P.Function f)) w h = h
stands-behind a new (V.Piece (P.Object o i) k) w h = (h.0, leads-later a new o i h.0 h.1, h.2)
stands-behind a new (V.Piece (P.Function f) k) w h = h

pub stands-later : (a b : List Spot) (v w : Value) → ((new : List Spot) × (b ≡ a ++ new)) → Stands a v w → Stands b v w
stands-later a b v w more h = subst (λ (l : List Spot). Stands l v w) (sym more.1) (stands-behind a more.0 v w h)

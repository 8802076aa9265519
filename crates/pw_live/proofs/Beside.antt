-- What stands behind an operation of a block is one of the points of the function.
use Rattle.std.proofs.Common.{◌≡◌, ◌≢◌, ℕ, zero, suc, ◌<◌, ◌&&◌, not, Bool, true, List, [], ◌∷◌, ◌++◌, length, get_or, ap, ◌∙◌, arith}
use Rattle.std.specs.Prelude.{None, Some, Contains}
use Rattle.std.specs.List.{list_any, flat_map}
use Rattle.std.proofs.lemmas.Bool.{or_left, or_right, and_from}
use Rattle.std.proofs.lemmas.List.Concat.{flat_map-cons}
use Rattle.std.proofs.lemmas.List.Folds.{list_any-append}
use Rattle.pw_flow.specs.Outline.{Act, Stretch, Outline}
use Rattle.pw_live.specs.Liveness.{Live, is_that, is_live}
use Rattle.pw_live.specs.Points.{Point, point_in, points_behind, points_in, points, lives, writes, is_call}
use Rattle.pw_live.specs.Interference.{written_beside, is_held}
use Rattle.pw_live.proofs.Paths.{is_that_one, other_that, live_by_paths}

any_behind : (p : Point → Bool) (s : Stretch) (before after : List Act) (a : Act) → p (point_in s (Some a) after) ≡ true → list_any p (points_behind s (before ++ a ∷ after)) ≡ true
any_behind p s [] after a e = or_left (p (point_in s (Some a) after)) (list_any p (points_behind s after)) e
any_behind p s (b ∷ before) after a e =
    or_right (p (point_in s (Some b) (before ++ a ∷ after))) (list_any p (points_behind s (before ++ a ∷ after))) (any_behind p s before after a e)

any_in : (p : Point → Bool) (s : Stretch) (before after : List Act) (a : Act) → s.acts ≡ before ++ a ∷ after → p (point_in s (Some a) after) ≡ true → list_any p (points_in s) ≡ true
any_in p s before after a is e =
    or_right (p (point_in s None s.acts)) (list_any p (points_behind s s.acts))
    (ap (λ (acts : List Act). list_any p (points_behind s acts)) is ∙ any_behind p s before after a e)

any_at : (p : Point → Bool) (blocks : List Stretch) (s : Stretch) (k : ℕ) → k < length blocks → get_or blocks k s ≡ s → list_any p (points_in s) ≡ true → list_any p (flat_map points_in blocks) ≡ true
any_at p [] s k lt is e = absurd (omega (arith, lt))
any_at p (b ∷ blocks) s zero lt is e =
    ap (list_any p) (flat_map-cons points_in b blocks) ∙ list_any-append p (points_in b) (flat_map points_in blocks)
    ∙ or_left (list_any p (points_in b)) (list_any p (flat_map points_in blocks)) (ap (λ (x : Stretch). list_any p (points_in x)) is ∙ e)
any_at p (b ∷ blocks) s (suc k) lt is e =
    ap (list_any p) (flat_map-cons points_in b blocks) ∙ list_any-append p (points_in b) (flat_map points_in blocks)
    ∙ or_right (list_any p (points_in b)) (list_any p (flat_map points_in blocks)) (any_at p blocks s k (omega arith) is e)

any_point : (p : Point → Bool) (f : Outline) (s : Stretch) (before after : List Act) (a : Act) → Contains f.blocks s → s.acts ≡ before ++ a ∷ after → p (point_in s (Some a) after) ≡ true → list_any p (points f) ≡ true
any_point p f s before after a there is e = any_at p f.blocks s there.0 there.1 there.2 (any_in p s before after a is e)

pub written : (f : Outline) (s : Stretch) (before after : List Act) (a : Act) (d t : ℕ) → Contains f.blocks s → s.acts ≡ before ++ a ∷ after → a.defines ≡ Some d → Live f t after s.uses s.next → written_beside f d t ≡ true
written f s before after a d t there is defines live =
    any_point (λ p. writes p.before d && lives f t p) f s before after a there is
    (and_from (is_that a.defines d) (is_live f t after s.uses s.next) (is_that_one a.defines d defines) ((live_by_paths f t after s.uses s.next).1 live))

pub held : (f : Outline) (s : Stretch) (before after : List Act) (a : Act) (t : ℕ) → Contains f.blocks s → s.acts ≡ before ++ a ∷ after → a.calls ≡ true → a.defines ≢ Some t → Live f t after s.uses s.next → is_held f t ≡ true
held f s before after a t there is call other live =
    any_point (λ p. is_call p.before && (not (writes p.before t) && lives f t p)) f s before after a there is
    (and_from a.calls (not (is_that a.defines t) && is_live f t after s.uses s.next) call
    (and_from (not (is_that a.defines t)) (is_live f t after s.uses s.next) (ap not (other_that a.defines t other)) ((live_by_paths f t after s.uses s.next).1 live)))

-- A variable more.
use Rattle.std.proofs.Common.{◌≡◌, Bool, true, ℕ, zero, suc, ◌+◌, ◌≤◌, ◌++◌, List, [], ◌∷◌, length, get_or, take, refl, sym, arith, subst, Option, Some, None}
use Rattle.std.proofs.lemmas.List.{length_push}
use Rattle.sk_clause.specs.declared.lit.Lit.{Lit}
use Rattle.sk_clause.specs.Values.{signed, open_count}
use Rattle.sk_sat.specs.Trail.{lit_at, Agrees, IsLeveled, IsReason, IsTrailOf}

-- past its end a list has the default
pub get_or-push_default : {X : Type 0} (xs : List X) (d : X) (i : ℕ) → get_or (xs ++ d ∷ []) i d ≡ get_or xs i d
get_or-push_default [] d zero = refl
get_or-push_default [] d (suc i) = refl
get_or-push_default (x ∷ xs) d zero = refl
get_or-push_default (x ∷ xs) d (suc i) = get_or-push_default xs d i

open_count-push : (vs : List (Option Bool)) → open_count (vs ++ None ∷ []) ≡ open_count vs + 1
open_count-push [] = refl
open_count-push (None ∷ vs) = omega (arith, open_count-push vs)
open_count-push (Some b ∷ vs) = open_count-push vs

agrees_grow : (vs : List (Option Bool)) (ls : List Lit) → Agrees vs ls → Agrees (vs ++ None ∷ []) ls
agrees_grow vs ls a = record {
  holds = λ i h. subst (λ o. signed (lit_at ls i).neg o ≡ Some true) (sym (get_or-push_default vs None (lit_at ls i).var)) (a.holds i h);
  covers = λ l h. a.covers l (subst (λ o. signed l.neg o ≡ Some true) (get_or-push_default vs None l.var) h);
  distinct = a.distinct;
  within = λ i h. omega (arith, a.within i h, length_push vs None);
  total = omega (arith, a.total, open_count-push vs, length_push vs None);
}

leveled_grow : (lv : List ℕ) (ls : List Lit) (lims : List ℕ) → IsLeveled lv ls lims → IsLeveled (lv ++ 0 ∷ []) ls lims
leveled_grow lv ls lims v = record {
  inside = v.inside;
  rises = v.rises;
  low = λ i j h k le. v.low i j h k (subst (λ x. x ≤ j) (get_or-push_default lv 0 (lit_at ls i).var) le);
  high = λ i j h k lt. subst (λ x. x ≤ j) (sym (get_or-push_default lv 0 (lit_at ls i).var)) (v.high i j h k lt);
  most = λ i h. subst (λ x. x ≤ length lims) (sym (get_or-push_default lv 0 (lit_at ls i).var)) (v.most i h);
}

-- a variable more with no value leaves the trail as it is
pub trail_grow : (known : List (List Lit)) (vs : List (Option Bool)) (lv rs : List ℕ) (ls : List Lit) (lims : List ℕ) → IsTrailOf known vs lv rs ls lims → IsTrailOf known (vs ++ None ∷ []) (lv ++ 0 ∷ []) (rs ++ 0 ∷ []) ls lims
trail_grow known vs lv rs ls lims t = record {
  level_long = omega (arith, t.level_long, length_push lv 0, length_push vs None);
  reason_long = omega (arith, t.reason_long, length_push rs 0, length_push vs None);
  agrees = agrees_grow vs ls t.agrees;
  leveled = leveled_grow lv ls lims t.leveled;
  reasoned = λ i h other. subst (λ r. IsReason known r (take i ls) (lit_at ls i)) (sym (get_or-push_default rs 0 (lit_at ls i).var)) (t.reasoned i h other);
}

pub ruleset grows = (length_push)
